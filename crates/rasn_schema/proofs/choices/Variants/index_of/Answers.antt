use Rattle.std.proofs.Common.{sym, ap, ◌∙◌, map}
use Rattle.rasn_schema.specs.Choices.{place_of, variant_shape}
use Rattle.rasn_schema.specs.Structures.{tag_of}
use Rattle.rasn_schema.specs.Lawful.{same_tag}
use Rattle.rasn_schema.proofs.Places.{position_from-map}
use Rattle.rasn_schema.proofs.choices.Variants.index_of.Goals as goal

pub returns : goal.returns
returns c =
    let same = same_tag (tag_of c.args.tag) in
    let list = c.self.inside.list.now in
    let shapes = position_from-map same (λ v. v.tag) 0 (map variant_shape list) ∙ position_from-map (λ v. same v.tag) variant_shape 0 list in
    c.index_in.ensures ∙ sym shapes ∙ ap (place_of (tag_of c.args.tag)) c.self.view_is
