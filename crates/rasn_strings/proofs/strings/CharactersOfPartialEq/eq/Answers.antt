use Rattle.std.proofs.Common.{◌∙◌, ap₂, sym, nat_eq}
use Rattle.std.specs.Cmp.Derive.Mapped.{pointwise-map}
use Rattle.std.specs.Cmp.Lexicographic.{pointwise}
use Rattle.rasn_strings.proofs.strings.CharactersOfPartialEq.eq.Goals as goal

pub returns : goal.returns
returns g c = c.eq.ensures
    ∙ (λ i. pointwise (λ a b. g.met.K.Unit.CharacterUnit.equals a b i) c.self.inside.characters.items c.other.inside.characters.items)
    ∙ sym (pointwise-map g.K.Unit.CharacterUnit.value nat_eq c.self.inside.characters.items c.other.inside.characters.items)
    ∙ ap₂ (pointwise nat_eq) c.self.view_is c.other.view_is
