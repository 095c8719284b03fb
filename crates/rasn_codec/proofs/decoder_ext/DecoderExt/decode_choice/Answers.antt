use Rattle.std.proofs.Common.{rules}
use Rattle.std.proofs.lemmas.Result.{err_from_is_err_and}
use Rattle.rasn_schema.specs.Structures.{tag_of}
use Rattle.rasn_traits.proofs.Alternatives.{alternative_left, alternative_taken, choice_ended, choice_endless, choice_failed}
use Rattle.rasn_codec.proofs.Decoded.{answered, refused}
use Rattle.rasn_codec.proofs.decoder_ext.DecoderExt.decode_choice.Goals as goal

pub returns-then-is_err : goal.returns-then-is_err
returns-then-is_err g c =
    let o = c.in_ok-tag.ensures.law in
    let p = refused c.from_tag-decoded.result c.if-is_err.ensures.value in
    let a = alternative_taken g.met.Self.Decoder.lawful g.met.Self.Decoder.choices _ g.C.Choice.VARIANTS g.C.Choice.EXTENDED_VARIANTS (tag_of c.in_ok-tag.tag) o g.C.AsnType.value _ _ (rw p.1 at c.from_tag-decoded.ensures) in
    record {
      law = rw p.1 (choice_failed g.met.Self.Decoder.lawful g.met.Self.Decoder.choices _ g.C.Choice.VARIANTS g.C.Choice.EXTENDED_VARIANTS (tag_of c.in_ok-tag.tag) o a);
      behaves = rw p.1 (let f = rw p.1 at c.from_tag-decoded.ensures in search (rules, f.behaves));
    }

pub returns-in_err-close_choice : goal.returns-in_err-close_choice
returns-in_err-close_choice g c =
    let o = c.in_ok-tag.ensures.law in
    let q = answered c.from_tag-decoded.result c.if-is_err.ensures.value in
    let p = err_from_is_err_and c.from_residual-in_err-close_choice.result c.from_residual-in_err-close_choice.ensures.1 in
    let a = alternative_taken g.met.Self.Decoder.lawful g.met.Self.Decoder.choices _ g.C.Choice.VARIANTS g.C.Choice.EXTENDED_VARIANTS (tag_of c.in_ok-tag.tag) o g.C.AsnType.value _ _ (rw q.1 at c.from_tag-decoded.ensures) in
    record {
      law = rw (p.1, p.2) (choice_endless g.met.Self.Decoder.lawful g.met.Self.Decoder.choices _ g.C.Choice.VARIANTS g.C.Choice.EXTENDED_VARIANTS (tag_of c.in_ok-tag.tag) o _ c.from_tag-decoded.new.decoder a
          (c.in_err-close_choice.ensures.law (alternative_left g.met.Self.Decoder.lawful g.met.Self.Decoder.choices _ g.C.Choice.VARIANTS g.C.Choice.EXTENDED_VARIANTS (tag_of c.in_ok-tag.tag) o _ c.from_tag-decoded.new.decoder a)));
      behaves = search rules;
    }

pub returns : goal.returns
returns g c =
    let o = c.in_ok-tag.ensures.law in
    let q = answered c.from_tag-decoded.result c.if-is_err.ensures.value in
    let a = alternative_taken g.met.Self.Decoder.lawful g.met.Self.Decoder.choices _ g.C.Choice.VARIANTS g.C.Choice.EXTENDED_VARIANTS (tag_of c.in_ok-tag.tag) o g.C.AsnType.value _ _ (rw q.1 at c.from_tag-decoded.ensures) in
    record {
      law = rw q.1 (choice_ended g.met.Self.Decoder.lawful g.met.Self.Decoder.choices _ g.C.Choice.VARIANTS g.C.Choice.EXTENDED_VARIANTS (tag_of c.in_ok-tag.tag) o _ c.from_tag-decoded.new.decoder _ a
          (c.in_ok-close_choice.ensures.law (alternative_left g.met.Self.Decoder.lawful g.met.Self.Decoder.choices _ g.C.Choice.VARIANTS g.C.Choice.EXTENDED_VARIANTS (tag_of c.in_ok-tag.tag) o _ c.from_tag-decoded.new.decoder a)));
      behaves = rw q.1 (let f = rw q.1 at c.from_tag-decoded.ensures in search (rules, f.behaves));
    }
