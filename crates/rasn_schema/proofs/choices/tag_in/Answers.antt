use Rattle.std.proofs.Common.{ap, sym, ◌∙◌, slice_get, Some}
use Rattle.std.proofs.lemmas.Simd.{map-map}
use Rattle.rasn_schema.proofs.Places.{slice_get-map}
use Rattle.rasn_schema.specs.Choices.{stated_tag, variant_shape}
use Rattle.rasn_schema.proofs.choices.tag_in.Goals as goal

pub returns : goal.returns
returns c = ap (λ ts. slice_get ts c.args.index) (map-map (λ v. v.tag) variant_shape c.args.list.now) ∙ slice_get-map stated_tag c.args.list.now c.args.index c.index-list-index.result c.requires ∙ ap (λ t. Some (stated_tag t)) (sym c.index-list-index.is) ∙ sym (ap Some c.tag_by.ensures)
