use Rattle.std.proofs.Common.{◌∙◌, ap, sym}
use Rattle.std.specs.Cmp.Derive.Mapped.{items_map}
use Rattle.std.specs.Hash.{slice}
use Rattle.std.specs.List.{fold}
use Rattle.rasn_strings.proofs.strings.CharactersOfHash.hash.Goals as goal

pub returns : goal.returns
returns g c = c.hash.ensures ∙ ap (fold g.H.Hasher.write c.args.state.now) (
    (λ i. slice (λ a. g.met.K.Unit.CharacterUnit.feeds a i) (c.as_slice.ensures.value i))
    ∙ sym (items_map g.K.Unit.CharacterUnit.value g.K.Unit.CharacterUnit.fed c.self.inside.characters.items)
    ∙ ap (slice g.K.Unit.CharacterUnit.fed) c.self.view_is)
