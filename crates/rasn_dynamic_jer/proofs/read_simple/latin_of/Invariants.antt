use Rattle.std.proofs.Common.{◌≡◌, true}
use Rattle.std.specs.Prelude.{nat_lt}
use Rattle.std.specs.List.{list_all}
use Rattle.rasn_dynamic_jer.proofs.read_simple.latin_of.Given as goal

-- the octets are the characters so far, each of which is below 256
abbrev pub invariant-loop-character : goal.invariant-loop-character
invariant-loop-character l = (l.octets.items ≡ l.yielded) × (list_all (λ c. nat_lt c 256) l.yielded ≡ true)
