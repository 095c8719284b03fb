use Rattle.std.proofs.Common.{◌∙◌, ap, rules}
use Rattle.rasn_types.specs.Variants.{variant_of}
use Rattle.per_write.specs.WriterState.{WriterState}
use Rattle.per_write.proofs.Refusing.{char_string_law}
use Rattle.per_write.proofs.Writer.put_characters.Goals as goal

pub returns : goal.returns
returns g c =
    record {
      law = rw c.size.ensures at (char_string_law c.args.self.now c.put_counted.new.self c.alphabet_under.result _ _ _ (g.S.StaticPermittedAlphabet.characters c.args.value.now) c.put_counted.result
          (c.alphabet_under.ensures.variant ∙ ap (λ (s : WriterState). variant_of s.codec) c.self.view_is) c.alphabet_under.ensures.characters c.put_counted.ensures.ok c.put_counted.ensures.err);
      behaves = search rules;
    }
