-- The numbers of a JSON value that shows a value are numbers.
use Rattle.std.proofs.Common.{ℕ, List, Option}
use Rattle.rasn_types.specs.Values.{Value}
use Rattle.rasn_schema.specs.Schemas.{Schema, Parts}
use Rattle.json.specs.Json.{Json, Items, Members, no_members, member}
use Rattle.json.specs.Tree.{HasNumbers, ItemsHaveNumbers, MembersHaveNumbers}
use Rattle.rasn_jer.specs.Shown.{IsBits, fixed_bits, counted_bits, Shows, shows_contents, shows_truth, shows_nothing, shows_whole, shows_item, shows_octets, shows_any, shows_bits, shows_string, shows_list, shows_bag, shows_record, shows_ordered, shows_alternative}
use Rattle.rasn_jer.specs.Shown.{ShowsAll, shows_end, shows_next, ShowsParts, parts_end, part_there, part_left_out, ShowsAdditions, additions_end, addition_there, addition_spread, addition_left_out}
use Rattle.rasn_jer.specs.Texts.{join}

bits_numbered : {fixed : Option ℕ} {bs : _} {j : Json} → IsBits fixed bs j → HasNumbers j
bits_numbered (fixed_bits f) = tt
bits_numbered (counted_bits f h) = (tt, (h, tt))

join_numbered : (ms ns : Members) → MembersHaveNumbers ms → MembersHaveNumbers ns → MembersHaveNumbers (join ms ns)
join_numbered no_members ns h k = k
join_numbered (member name j ms) ns h k = (h.0, join_numbered ms ns h.1 k)

mutual
  pub numbered : {s : Schema} {v : Value} {j : Json} → Shows s v j → HasNumbers j
  numbered shows_truth = tt
  numbered shows_nothing = tt
  numbered (shows_whole h) = h.is_number
  numbered (shows_item names h) = h
  numbered shows_octets = tt
  numbered shows_any = tt
  numbered (shows_bits h) = bits_numbered h
  numbered (shows_string h) = tt
  numbered (shows_list h) = all_numbered h
  numbered (shows_bag h) = all_numbered h
  numbered (shows_record root added h k) = parts_numbered h (additions_numbered k)
  numbered (shows_ordered rs xs h) = numbered h
  numbered (shows_contents h) = numbered h
  numbered (shows_alternative e h) = (numbered h, tt)

  all_numbered : {e : Schema} {vs : List Value} {js : Items} → ShowsAll e vs js → ItemsHaveNumbers js
  all_numbered shows_end = tt
  all_numbered (shows_next h k) = (numbered h, all_numbered k)

  parts_numbered : {names : List (List ℕ)} {ps : Parts} {rs : List (Option Value)} {ns ms : Members} → ShowsParts names ps rs ns ms → MembersHaveNumbers ns → MembersHaveNumbers ms
  parts_numbered parts_end n = n
  parts_numbered (part_there t h k) n = (numbered h, parts_numbered k n)
  parts_numbered (part_left_out e k) n = parts_numbered k n

  additions_numbered : {names : List (List ℕ)} {qs : Parts} {xs : List (Option Value)} {ms : Members} → ShowsAdditions names qs xs ms → MembersHaveNumbers ms
  additions_numbered additions_end = tt
  additions_numbered (addition_there e h k) = (numbered h, additions_numbered k)
  additions_numbered (addition_spread {gs = gs} {ms = ms} e g h k) = join_numbered gs ms (numbered h) (additions_numbered k)
  additions_numbered (addition_left_out e k) = additions_numbered k
