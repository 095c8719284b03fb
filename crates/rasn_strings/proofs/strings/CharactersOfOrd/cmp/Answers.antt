use Rattle.std.proofs.Common.{◌∙◌, ap₂, sym, nat_cmp}
use Rattle.std.specs.Cmp.Derive.Mapped.{lex_map}
use Rattle.std.specs.Cmp.Lexicographic.{slice_cmp}
use Rattle.rasn_strings.proofs.strings.CharactersOfOrd.cmp.Goals as goal

pub returns : goal.returns
returns g c = c.cmp.ensures
    ∙ (λ i. slice_cmp (λ a b. g.met.K.Unit.CharacterUnit.compares a b i) (c.as_slice.ensures.value i) (c.as_slice-2.ensures.value i))
    ∙ sym (lex_map g.K.Unit.CharacterUnit.value nat_cmp c.self.inside.characters.items c.other.inside.characters.items)
    ∙ ap₂ (slice_cmp nat_cmp) c.self.view_is c.other.view_is
