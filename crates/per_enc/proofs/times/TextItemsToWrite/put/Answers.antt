use Rattle.std.proofs.Common.{◌≡◌, ◌∙◌, sym, inr, ◌<◌, ◌^◌, ◌++◌, length, arith, ℕ, Some, None, subst, rules}
use Rattle.std.proofs.lemmas.Result.{on_ok_weaker}
use Rattle.std.specs.Prelude.{slice_get}
use Rattle.rasn_types.specs.Alphabets.{char_code}
use Rattle.rasn_types.specs.Bits.{to_bits}
use Rattle.rasn_types.specs.Variants.{unaligned}
use Rattle.per_core.specs.Canon.{char_writers}
use Rattle.per_core.specs.Writers.{just}
use Rattle.per_write.specs.Unwritten.{Remains}
use Rattle.per_write.proofs.Fields.{gathered_character, gathered_last, remains_first}
use Rattle.per_write.proofs.Steps.{character_foreign, character_refused, length-char_writers, some_within}
use Rattle.per_enc.proofs.times.TextItemsToWrite.put.Goals as goal

pub unwrap-character-requires : goal.unwrap-character-requires
unwrap-character-requires g c =
    let a = c.args.self.now.alphabet in
    let cs = c.args.self.now.characters.now in
    let within = c.requires.within unaligned in
    let counted = length-char_writers a.variant a.characters cs in
    let bound : c.loop-index.index < length cs = omega arith in
    some_within cs c.loop-index.index c.character_at.result c.character_at.ensures bound

pub push_to_field-requires : goal.push_to_field-requires
push_to_field-requires g c =
    record {
      begun = c.loop-index.invariant.left;
      few = omega (arith, c.width-width.ensures.few);
      fits = subst (λ (w : ℕ). c.in-Some.code < 2 ^ w) (sym c.width-width.ensures.width) c.in-Some.ensures.fits;
    }

pub loop-index-init : goal.loop-index-init
loop-index-init g c = remains_first c.args.writer.now _ c.new-gathered.result c.new-gathered.ensures c.requires.begun

pub loop-index-preserved : goal.loop-index-preserved
loop-index-preserved g c =
    let a = c.args.self.now.alphabet in
    let cs = c.args.self.now.characters.now in
    let place : slice_get cs c.loop-index.index ≡ Some c.unwrap-character.result = sym c.character_at.ensures ∙ c.unwrap-character.ensures in
    let code : char_code a.variant a.characters c.unwrap-character.result ≡ Some c.in-Some.code = sym c.encode.ensures.code ∙ c.in-Some.is in
    gathered_character a cs c.loop-index.index c.args.end c.unwrap-character.result c.in-Some.code _ c.args.writer.now c.loop-index.writer c.push_to_field.new.writer c.loop-index.gathered c.push_to_field.new.gathered
    (omega arith) place code c.loop-index.invariant
    (subst (λ (w : ℕ). Remains c.loop-index.writer (just (c.loop-index.gathered ++ to_bits w c.in-Some.code)) c.push_to_field.new.writer (just c.push_to_field.new.gathered)) c.width-width.ensures.width c.in_ok-push_to_field.ensures.ok)

pub returns-in_default : goal.returns-in_default
returns-in_default g c =
    let a = c.args.self.now.alphabet in
    let cs = c.args.self.now.characters.now in
    let i = c.loop-index.index in
    let place : slice_get cs i ≡ Some c.unwrap-character.result = sym c.character_at.ensures ∙ c.unwrap-character.ensures in
    let code : char_code a.variant a.characters c.unwrap-character.result ≡ None = sym c.encode.ensures.code ∙ c.in_default.is in
    record {
      ok = search rules;
      err = inr (record {
        refused = character_refused a cs i c.unwrap-character.result place code;
        stands = (c.refuse.ensures.error.kind_is, character_foreign a cs i c.unwrap-character.result place code);
        codec_is = c.refuse.ensures.error.codec_is ∙ c.loop-index.invariant.same;
      });
      fails = search rules;
      kept = search rules;
    }

pub returns : goal.returns
returns g c =
    let a = c.args.self.now.alphabet in
    let cs = c.args.self.now.characters.now in
    record {
      ok = on_ok_weaker _ (gathered_last (char_writers a.variant a.characters cs) c.loop-index.index c.args.end _ c.args.writer.now c.loop-index.writer c.put_bit_field.new.writer c.loop-index.gathered (omega arith) c.loop-index.invariant) c.put_bit_field.ensures.ok;
      err = search rules;
      fails = search rules;
      kept = search rules;
    }
