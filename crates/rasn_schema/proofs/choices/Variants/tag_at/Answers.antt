use Rattle.std.proofs.Common.{ap, sym, ◌∙◌, length, slice_get, arith}
use Rattle.std.proofs.lemmas.List.{length-map}
use Rattle.rasn_schema.specs.Choices.{go_by, variant_shape}
use Rattle.rasn_schema.proofs.choices.Variants.tag_at.Goals as goal

pub tag_in-requires : goal.tag_in-requires
tag_in-requires c = omega (arith, c.requires, ap length c.self.view_is, length-map c.self.inside.list.now variant_shape)

pub returns : goal.returns
returns c = ap (λ vs. slice_get (go_by vs) c.args.index) (sym c.self.view_is) ∙ c.tag_in.ensures
