-- The contents of an OBJECT IDENTIFIER, read octet by octet.
use Rattle.std.proofs.Common.{◌≡◌, refl, sym, ap, ◌∙◌, ℕ, ◌+◌, ◌<◌, ◌^◌, Bool, true, false, suc, List, [], ◌∷◌, length, get_or, drop, drop-cons, Some, None, arith}
use Rattle.std.specs.Prelude.{◌==◌}
use Rattle.std.proofs.lemmas.Bool.{eqb-true}
use Rattle.rasn_types.specs.Contents.{Arc, arcs_after, is_identifier, next_arc}

-- what has to follow before the first octet
abbrev pub arcs_from_first : List ℕ → Bool
arcs_from_first os = arcs_after (Some (record { begun = false; value = 0; bound = 2 ^ 32 + 80 })) os

-- an octet that may not be where it does
pub stopped : (s : Arc) (os : List ℕ) (i : ℕ) → i < length os → next_arc s (get_or os i 0) ≡ None → arcs_after (Some s) (drop i os) ≡ false
stopped s os i l e = ap (arcs_after (Some s)) (drop-cons os i 0 l) ∙ ap (λ o. arcs_after o (drop (suc i) os)) e

-- octets of which some are there
pub some_octets : (os : List ℕ) (e : Bool) → e ≡ (length os == 0) → e ≡ false → arcs_from_first os ≡ is_identifier os
unfolding is_identifier
some_octets [] e h f = absurd cc
some_octets (o ∷ os) e h f = refl

pub no_octets : (os : List ℕ) (e : Bool) → e ≡ (length os == 0) → e ≡ true → false ≡ is_identifier os
unfolding is_identifier
no_octets [] e h f = refl
no_octets (o ∷ os) e h f = absurd (let z : length (o ∷ os) ≡ 0 = eqb-true (length (o ∷ os)) 0 (sym h ∙ f) in omega arith)

-- of none is an octet that stops
pub stopped_first : (os : List ℕ) → arcs_from_first os ≡ false → false ≡ is_identifier os
unfolding is_identifier
stopped_first [] e = refl
stopped_first (o ∷ os) e = sym e
