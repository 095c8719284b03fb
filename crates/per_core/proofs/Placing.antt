-- A SET is what its components write, each by itself, in ascending order of their tags.
use Rattle.std.proofs.Common.{◌≡◌, refl, sym, ap, ap₂, ◌∙◌, ℕ, zero, suc, Bool, List, [], ◌∷◌, length, Option, arith}
use Rattle.rasn_types.specs.Values.{Value}
use Rattle.rasn_types.specs.Variants.{Variant}
use Rattle.rasn_types.proofs.Values.{slots-as_slots}
use Rattle.rasn_schema.specs.Orders.{insert_at, how_many_less, by_tags}
use Rattle.rasn_schema.specs.Structures.{record_value}
use Rattle.rasn_schema.specs.Schemas.{Tag, Schema, Parts, no_parts, part, by_tag, count, tags}
use Rattle.per_core.specs.Canon.{Member, bitmap_of, bodies_of, canon, flags_of, members, record_of, with_additions}
use Rattle.per_core.specs.Writers.{Writer, one_by_one, ◌▹◌}
use Rattle.per_core.proofs.Readings.{length-by_tags}
use Rattle.per_core.specs.PlacedSets.{each_writes, its_flag, its_value, placed_set}

-- what is written for a component that is put among others
each_put : (f : Member → Option Value → Writer) (n : ℕ) (m : Member) (s : Option Value) (ms : List Member) (ss : List (Option Value)) → length ms ≡ length ss
    → each_writes f (insert_at n m ms) (insert_at n s ss) ≡ insert_at n (f m s) (each_writes f ms ss)
each_put f zero m s ms ss e = refl
each_put f (suc n) m s [] [] e = refl
each_put f (suc n) m s [] (t ∷ ss) e = absurd (omega arith)
each_put f (suc n) m s (k ∷ ms) [] e = absurd (omega arith)
each_put f (suc n) m s (k ∷ ms) (t ∷ ss) e = ap (λ ws. f k t ∷ ws) (each_put f n m s ms ss (omega arith))

-- what is written for components in order is what is written for each, in order
each_ordered : (f : Member → Option Value → Writer) (ts : List Tag) (ms : List Member) (ss : List (Option Value)) → length ms ≡ length ss
    → each_writes f (by_tags ts ms) (by_tags ts ss) ≡ by_tags ts (each_writes f ms ss)
each_ordered f ts [] [] e = refl
each_ordered f ts [] (s ∷ ss) e = absurd (omega arith)
each_ordered f ts (m ∷ ms) [] e = absurd (omega arith)
each_ordered f [] (m ∷ ms) (s ∷ ss) e = refl
each_ordered f (t ∷ ts) (m ∷ ms) (s ∷ ss) e =
    let k : length ms ≡ length ss = omega arith in
    each_put f (how_many_less t ts) m s (by_tags ts ms) (by_tags ts ss) (length-by_tags ts ms ∙ k ∙ sym (length-by_tags ts ss))
    ∙ ap (insert_at (how_many_less t ts) (f m s)) (each_ordered f ts ms ss k)

flags_each : (ms : List Member) (ss : List (Option Value)) → length ms ≡ length ss → flags_of ms ss ≡ one_by_one (each_writes its_flag ms ss)
flags_each [] [] e = refl
flags_each [] (s ∷ ss) e = absurd (omega arith)
flags_each (m ∷ ms) [] e = absurd (omega arith)
flags_each (m ∷ ms) (s ∷ ss) e = ap (λ w. its_flag m s ▹ w) (flags_each ms ss (omega arith))

values_each : (ms : List Member) (ss : List (Option Value)) → length ms ≡ length ss → bodies_of ms ss ≡ one_by_one (each_writes its_value ms ss)
values_each [] [] e = refl
values_each [] (s ∷ ss) e = absurd (omega arith)
values_each (m ∷ ms) [] e = absurd (omega arith)
values_each (m ∷ ms) (s ∷ ss) e = ap (λ w. its_value m s ▹ w) (values_each ms ss (omega arith))

members_counted : (a : Variant) (ps : Parts) → length (members a ps) ≡ count ps
unfolding members
members_counted a no_parts = refl
members_counted a (part t p s ps) = let e = members_counted a ps in omega arith

-- X.691 21.1
pub set_placed : (a : Variant) (ps : Parts) (ext : Bool) (adds : Parts) (rs xs : List (Option Value)) → length rs ≡ count ps
    → canon a (Schema.sequence by_tag ps ext adds) (record_value rs xs) ≡ placed_set a ps ext adds rs xs
unfolding canon record_of
set_placed a ps ext adds rs xs l =
    let ms = members a ps in
    let ts = tags ps in
    let as_many : length ms ≡ length rs = members_counted a ps ∙ sym l in
    let ordered : length (by_tags ts ms) ≡ length (by_tags ts rs) = length-by_tags ts ms ∙ as_many ∙ sym (length-by_tags ts rs) in
    ap₂ (λ (ss : List (Option Value)) (ys : List (Option Value)). record_of a ext (by_tags ts ms) (members a adds) (by_tags ts ss) ys) (slots-as_slots rs) (slots-as_slots xs)
    ∙ ap₂ (λ (flags : Writer) (bodies : Writer). with_additions a ext (members a adds) xs (flags ▹ bodies) (bitmap_of (members a adds) xs))
    (flags_each (by_tags ts ms) (by_tags ts rs) ordered ∙ ap one_by_one (each_ordered its_flag ts ms rs as_many))
    (values_each (by_tags ts ms) (by_tags ts rs) ordered ∙ ap one_by_one (each_ordered its_value ts ms rs as_many))
