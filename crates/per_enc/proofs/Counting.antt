-- Records and groups by how many components they have.
use Rattle.std.specs.Prelude.{Result}
use Rattle.std.proofs.Common.{◌≡◌, refl, sym, ap, ◌∙◌, ℕ, Bool, true, false, Option, Some, None, arith, nat_lt}
use Rattle.rasn_types.specs.Values.{Value}
use Rattle.rasn_schema.specs.Enumerations.{addeds_of, is_extensible}
use Rattle.rasn_schema.specs.Structures.{presence_bits}
use Rattle.rasn_schema.specs.Normal.{settle}
use Rattle.rasn_schema.specs.Schemas.{count, group, listed, no_parts, part, Parts, Schema}
use Rattle.rasn_traits.specs.Additions.{AdditionClosed}
use Rattle.rasn_traits.specs.Counted.{IsGroupOf}
use Rattle.per_pieces.specs.Pieces.{placed_bits}
use Rattle.per_write.specs.Additions.{ClosesOrNot, is_group_there, Opens, OutsideAddition}
use Rattle.per_core.specs.declared.encode_error.EncodeError.{EncodeError}
use Rattle.per_write.specs.Rules.{encoder_rules}
use Rattle.per_write.specs.WriterState.{Presents, WriterState}
use Rattle.per_enc.specs.Records.{after_marker, part_count}
use Rattle.per_enc.proofs.GivenAdditions.{group_closed, none_cut, required_counted}

pub counted : (ps : Parts) → count ps ≡ part_count ps
counted no_parts = refl
counted (part t p s ps) = let e = counted ps in omega arith

-- how many additions are after a marker, where there is one
pub counted_after : (added : Option ℕ) (marker : Bool) (qs : Parts) → marker ≡ is_extensible added → addeds_of added ≡ count qs → added ≡ after_marker marker (part_count qs)
counted_after None marker qs m e = ap (λ (b : Bool). after_marker b (part_count qs)) (sym m)
counted_after (Some n) marker qs m e = ap Some (e ∙ counted qs) ∙ ap (λ (b : Bool). after_marker b (part_count qs)) (sym m)

none_there : (qs : Parts) → 0 ≡ count qs → qs ≡ no_parts
none_there no_parts e = refl
none_there (part t p s qs) e = absurd (omega (arith, e))

pub none_after : (added : Option ℕ) (marker : Bool) (qs : Parts) → marker ≡ is_extensible added → addeds_of added ≡ count qs → marker ≡ false → qs ≡ no_parts
none_after None marker qs m e n = none_there qs e
none_after (Some k) marker qs m e n = absurd cc

-- a group is closed, of which a component is required, or none is
pub group_of_closed : (s : Schema) (has : Bool) (x i j y : WriterState) (o : OutsideAddition) (v : Value) (result : Result (Unit {0}) EncodeError) → IsGroupOf has s → Opens x o i → Presents i s v j
    → ClosesOrNot (is_group_there has (placed_bits j.pieces.list 0)) o j result y → AdditionClosed encoder_rules s (settle group s v) x result y
group_of_closed (Schema.sequence listed ps marker qs) has x i j y o v result k h w c =
    group_closed ps marker qs x i j y o v has result (k ∙ ap (nat_lt (presence_bits ps)) (counted ps) ∙ required_counted ps) h w c
group_of_closed Schema.cut has x i j y o v result k h w c = absurd (none_cut i j v w)
group_of_closed _ has x i j y o v result k h w c = absurd k
