use Rattle.std.proofs.Common.{◌≡◌, ◌∙◌, ◌++◌, ap, map, arith, length-take, refl, subst, sym, take, Some}
use Rattle.rasn_types.specs.Alphabets.{Alphabet, char_code}
use Rattle.per_bits.specs.Octets.{Reading}
use Rattle.per_read.specs.Strings.{AreRead}
use Rattle.per_read.proofs.CharacterCodes.{has_all_among, known_all}
use Rattle.per_read.proofs.OctetsInWords.{own_bits}
use Rattle.per_read.proofs.items.CharactersCollector.push_block.Goals as goal

pub push_octets-requires : goal.push_octets-requires
push_octets-requires g c = has_all_among c.args.self.now.alphabet.characters g.S.StaticPermittedAlphabet.alphabet (take c.args.many c.octets_of-octets.result) c.args.self.now.own (c.if-are_own.ensures refl).permitted

pub returns-then-are_own-clause-ok : goal.returns-then-are_own-clause-ok
returns-then-are_own-clause-ok g c =
    let octets = take c.args.many c.octets_of-octets.result in
    let own = c.if-are_own.ensures refl in
    record {
      codes = octets;
      count = length-take c.args.many c.octets_of-octets.result ∙ omega arith;
      added = record {
        behind = λ start xs h.
            let codes = subst (λ (z : Alphabet). map (char_code z.variant z.characters) octets ≡ map Some octets) h.0 own.codes in (
              h.0,
              subst (λ z. AreRead start.alphabet c.args.self.now.has_unknown z (xs ++ octets)) (sym c.in_ok-push_octets.ensures.ok)
                  (known_all start.alphabet c.args.self.now.has_unknown (g.S.StaticPermittedAlphabet.characters c.args.self.now.string) xs octets codes h.1),
            );
      };
      took = own_bits c.args.self.now.alphabet octets c.width-width.result c.args.bits.bits c.width-width.ensures.width (c.octets_of-octets.ensures ∙ ap (λ (r : Reading). r.bits) (rw c.unwrap.ensures at c.clone.ensures.cases)) own;
    }
