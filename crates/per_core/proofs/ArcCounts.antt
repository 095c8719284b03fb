-- The arcs of an OBJECT IDENTIFIER are few for its bits (X.690, 8.19).
use Rattle.std.proofs.Common.{◌≡◌, ap, ℕ, suc, ◌+◌, ◌*◌, ◌≤◌, Bool, true, false, List, [], ◌∷◌, length, arith, length-append}
use Rattle.std.specs.Prelude.{if◌then◌else◌}
use Rattle.rasn_types.specs.Bits.{Bits}
use Rattle.rasn_types.specs.Identifiers.{are_arcs, contents, leading_octets, subidentifier, subidentifiers}
use Rattle.rasn_types.specs.Values.{octets}
use Rattle.rasn_schema.specs.Schemas.{Schema}
use Rattle.per_core.specs.Basic.{basic_in}
use Rattle.per_core.specs.ItemCounts.{item_count, most_items}
use Rattle.per_core.specs.Spellings.{Settings}
use Rattle.per_core.proofs.ItemCounts.{unconstrained_few}

-- X.690 8.19.2: a subidentifier has one octet or more
subidentifier_there : (n : ℕ) → 1 ≤ length (subidentifier n)
unfolding subidentifier
subidentifier_there n = rw length-append (omega arith)

subidentifiers_there : (ns : List ℕ) → length ns ≤ length (subidentifiers ns)
subidentifiers_there [] = omega arith
subidentifiers_there (n ∷ ns) =
    let a = subidentifier_there n in
    let b = subidentifiers_there ns in
    let e = length-append (subidentifier n) (subidentifiers ns) in omega arith

-- X.690 8.19.4: the first two arcs are one subidentifier
pub arcs_few : (arcs : List ℕ) → are_arcs arcs ≡ true → length arcs ≤ length (contents arcs) + 1
unfolding contents
arcs_few [] h = absurd cc
arcs_few (a ∷ []) h = absurd cc
arcs_few (a ∷ b ∷ cs) h = go (are_arcs (a ∷ b ∷ cs)) h
  where
    go : (t : Bool) → t ≡ true → length (a ∷ b ∷ cs) ≤ length (if t then subidentifiers ((40 * a + b) ∷ cs) else []) + 1
    go true e = let l = subidentifiers_there ((40 * a + b) ∷ cs) in omega arith
    go false e = absurd cc

-- X.691 11.9.3.8: each octet of lengths counts 65536 octets at most
pub arcs_few_for_bits : (a : Settings) (u : Bool) (arcs : List ℕ) (p : ℕ) (b : Bits) → are_arcs arcs ≡ true → basic_in a u Schema.identifier (octets (contents arcs)) p b → length arcs ≤ most_items (length b)
unfolding basic_in
arcs_few_for_bits a u arcs p b h x =
    let e = ap item_count x.is in
    let r = unconstrained_few a _ x.of p b x.spelled.1.spelled in
    let l = arcs_few arcs h in omega arith
