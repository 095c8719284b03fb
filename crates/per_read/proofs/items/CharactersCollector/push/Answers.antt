use Rattle.std.proofs.Common.{◌≡◌, ◌∙◌, [], ◌∷◌, ◌++◌, sym, subst, Some}
use Rattle.rasn_types.specs.Alphabets.{Alphabet, char_code}
use Rattle.per_read.specs.Strings.{AreRead}
use Rattle.per_read.proofs.CharacterCodes.{known_more}
use Rattle.per_read.proofs.items.CharactersCollector.push.Goals as goal

pub returns-then-known-gt0-clause-ok : goal.returns-then-known-gt0-clause-ok
returns-then-known-gt0-clause-ok g c = record {
  behind = λ start xs h.
      let e = subst (λ (z : Alphabet). char_code z.variant z.characters c.known-known.result ≡ Some c.args.code) h.0 (c.known-known.ensures.code c.if-known-gt0.true) in (
        h.0,
        subst (λ z. AreRead start.alphabet c.args.self.now.has_unknown z (xs ++ c.args.code ∷ [])) (sym c.in_ok-push.ensures.ok)
            (known_more start.alphabet c.args.self.now.has_unknown (g.S.StaticPermittedAlphabet.characters c.args.self.now.string) xs c.known-known.result c.args.code e h.1),
      );
}

pub returns-in_ok-push-in-Some-clause-ok : goal.returns-in_ok-push-in-Some-clause-ok
returns-in_ok-push-in-Some-clause-ok g c = record {
  behind = λ start xs h.
      let e = subst (λ (z : Alphabet). char_code z.variant z.characters c.in-Some.character ≡ Some c.args.code) h.0 c.in-Some.ensures.some in (
        c.decode.ensures.kept ∙ h.0,
        subst (λ z. AreRead start.alphabet c.args.self.now.has_unknown z (xs ++ c.args.code ∷ [])) (sym c.in_ok-push-in-Some.ensures.ok)
            (known_more start.alphabet c.args.self.now.has_unknown (g.S.StaticPermittedAlphabet.characters c.args.self.now.string) xs c.in-Some.character c.args.code e h.1),
      );
}
