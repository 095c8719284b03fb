use Rattle.std.proofs.Common.{map, arith}
use Rattle.std.proofs.lemmas.Bool.{ltb-true}
use Rattle.std.proofs.lemmas.List.{map-append}
use Rattle.rasn_strings.proofs.Own.{has_below, own_push}
use Rattle.rasn_strings.proofs.strings.CharactersOfStaticPermittedAlphabet.push.Goals as goal

pub holding-requires : goal.holding-requires
holding-requires g c =
    let h = has_below g.K.CharacterKind.alphabet c.args.character c.requires in
    let few = ltb-true _ _ g.met.K.CharacterKind.are_held in
    omega arith

pub invariant_of-self-2 : goal.invariant_of-self-2
invariant_of-self-2 g c = rw (c.in_ok-push.ensures.items, map-append g.K.Unit.CharacterUnit.value, c.holding.ensures)
    (own_push g.K.CharacterKind.alphabet (map g.K.Unit.CharacterUnit.value c.self.inside.characters.items) c.args.character c.self.invariant c.requires)
