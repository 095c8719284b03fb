use Rattle.std.specs.Prelude.{slice_get}
use Rattle.std.proofs.Common.{◌≡◌, ◌∙◌, sym, subst, ℕ, ◌-◌, ◌*◌, ◌<◌, length, Option, Some, None, IfNone, arith, pow_pos}
use Rattle.rasn_types.specs.Alphabets.{char_code, char_width}
use Rattle.per_write.specs.Characters.{IsBitField, IsRefused}
use Rattle.per_write.proofs.CharacterFields.{field_first, field_next}
use Rattle.per_write.proofs.Steps.{character_foreign, character_refused, some_within}
use Rattle.per_write.proofs.items.Characters.field.Goals as goal

pub unwrap-character-requires : goal.unwrap-character-requires
unwrap-character-requires g c =
    let cs = g.S.StaticPermittedAlphabet.characters c.args.self.now.string.now in
    let bound : c.loop-index.index < length cs = omega (arith, c.requires.within) in
    some_within cs c.loop-index.index c.character.result c.character.ensures.value bound

pub loop-index-init : goal.loop-index-init
loop-index-init g c =
    let a = c.args.self.now.alphabet in
    record {
      below = pow_pos ((c.args.start - c.args.start) * char_width a.variant a.characters);
      written = field_first a (g.S.StaticPermittedAlphabet.characters c.args.self.now.string.now) c.args.start 0;
    }

pub loop-index-preserved : goal.loop-index-preserved
loop-index-preserved g c =
    let a = c.args.self.now.alphabet in
    let cs = g.S.StaticPermittedAlphabet.characters c.args.self.now.string.now in
    let place : slice_get cs c.loop-index.index ≡ Some c.unwrap-character.result = sym c.character.ensures.value ∙ c.unwrap-character.ensures in
    let code : char_code a.variant a.characters c.unwrap-character.result ≡ Some c.in_ok-encode.field-0 = sym c.encode.ensures.code ∙ c.in_ok-encode.was in
    field_next a cs c.args.start c.loop-index.index c.args.end c.unwrap-character.result c.in_ok-encode.field-0 c.loop-index.number c.from.result c.width-width.result
    c.width-width.ensures.width (omega arith) (omega arith) c.requires.few place code c.in_ok-encode.ensures.fits c.from.ensures c.loop-index.invariant

pub returns-in_err-encode-clause-none : goal.returns-in_err-encode-clause-none
returns-in_err-encode-clause-none g c =
    let a = c.args.self.now.alphabet in
    let cs = g.S.StaticPermittedAlphabet.characters c.args.self.now.string.now in
    let i = c.loop-index.index in
    let place : slice_get cs i ≡ Some c.unwrap-character.result = sym c.character.ensures.value ∙ c.unwrap-character.ensures in
    let code : char_code a.variant a.characters c.unwrap-character.result ≡ None = sym c.encode.ensures.code ∙ c.in_err-encode.was in
    subst (λ (o : Option ℕ). IfNone o (IsRefused a cs)) (sym c.from_residual.ensures) (character_refused a cs i c.unwrap-character.result place code, character_foreign a cs i c.unwrap-character.result place code)

pub returns-clause-some : goal.returns-clause-some
returns-clause-some g c =
    let a = c.args.self.now.alphabet in
    let cs = g.S.StaticPermittedAlphabet.characters c.args.self.now.string.now in
    subst (λ (i : ℕ). IsBitField a cs c.args.start i c.loop-index.number) (omega arith) c.loop-index.invariant.written
