use Rattle.std.proofs.Common.{◌≡◌, List, ℕ, true, subst, map-id, rules}
use Rattle.std.proofs.lemmas.Str.{IsUtf8-from_ascii}
use Rattle.rasn_types.specs.Alphabets.{has_all}
use Rattle.rasn_strings.proofs.Own.{own_ascii}
use Rattle.rasn_strings.proofs.strings.CharactersOf.as_str.Goals as goal

pub unwrap-requires : goal.unwrap-requires
unwrap-requires g c =
    let own = subst (λ (z : List ℕ). has_all g.K.CharacterKind.alphabet z ≡ true) (map-id c.self.inside.characters.items) c.self.invariant in
    let text = IsUtf8-from_ascii _ (own_ascii g.K.CharacterKind.alphabet c.self.inside.characters.items g.met.K.CharacterKind.are_held own) in
    search rules
