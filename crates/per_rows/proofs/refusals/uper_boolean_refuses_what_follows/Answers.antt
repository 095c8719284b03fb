use Rattle.std.proofs.Common.{◌≡◌, refl, ap, sym, ◌∙◌, [], ◌∷◌, ◌++◌, length, replicate, true, false, subst, inl, inr}
use Rattle.rasn_types.specs.Bits.{Bits}
use Rattle.rasn_types.specs.Values.{Value, truth}
use Rattle.rasn_schema.specs.Schemas.{Schema}
use Rattle.per_core.specs.Basic.{basic_in, fills}
use Rattle.per_core.specs.Canon.{bytes}
use Rattle.per_rows.specs.Build.{uper, zero_padded}
use Rattle.per_rows.proofs.Reading.{no_more}
use Rattle.per_rows.proofs.refusals.uper_boolean_refuses_what_follows.Goals as goal

pub returns-clause-octets : goal.returns-clause-octets
unfolding bytes
returns-clause-octets c v = no_more uper Schema.boolean (truth true) v (0x80 ∷ []) 0xaa (0xbb ∷ []) refl

pub returns-clause-padding_and_octet : goal.returns-clause-padding_and_octet
unfolding bytes
returns-clause-padding_and_octet c v = no_more (zero_padded uper) Schema.boolean (truth true) v (0x80 ∷ []) 0x00 [] refl

ones_left : (v : Value) → fills (zero_padded uper) Schema.boolean v (0xff ∷ []) → ⊥
unfolding basic_in
ones_left v (inl x) =
    let e : true ∷ replicate 7 true ≡ x.spelled.of ∷ x.spare = x.all ∙ ap (λ z. z ++ x.spare) x.spelled.spelled in
    let spare : replicate 7 true ≡ x.spare = cc in
    let zeros : replicate 7 true ≡ replicate 7 false = subst (λ (z : Bits). z ≡ replicate (length z) false) (sym spare) x.zeros in cc
ones_left v (inr x) = cc

pub returns-clause-padding : goal.returns-clause-padding
returns-clause-padding c v = ones_left v
