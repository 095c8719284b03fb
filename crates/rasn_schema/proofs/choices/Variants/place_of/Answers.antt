use Rattle.std.proofs.Common.{◌∙◌, sym}
use Rattle.rasn_schema.specs.Choices.{go_by, variants_after}
use Rattle.rasn_schema.specs.Structures.{tag_of}
use Rattle.rasn_schema.proofs.DistinctAlternatives.{not_after}
use Rattle.rasn_schema.proofs.choices.Variants.place_of.Goals as goal

pub returns-in-Some : goal.returns-in-Some
returns-in-Some c =
    let here = sym c.index_of.ensures ∙ c.in-Some.is in
    (here, not_after (go_by c.args.self.now) (go_by (variants_after c.args.added.now)) 0 0 c.in-Some.index (tag_of c.args.tag) c.requires.distinct here)
