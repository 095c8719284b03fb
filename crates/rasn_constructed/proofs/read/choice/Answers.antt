use Rattle.std.proofs.Common.{rules}
use Rattle.std.proofs.lemmas.Result.{err_from_is_err_and}
use Rattle.rasn_schema.specs.Structures.{tag_of}
use Rattle.rasn_traits.proofs.Alternatives.{alternative_left, alternative_taken, choice_ended, choice_endless, choice_failed}
use Rattle.rasn_constructed.proofs.read.choice.Goals as goal

pub decode_alternative-requires : goal.decode_alternative-requires
decode_alternative-requires g c = c.requires _ c.in_ok-tag.ensures.law.deeper

pub returns-in_err-value : goal.returns-in_err-value
returns-in_err-value g c =
    let o = c.in_ok-tag.ensures.law in
    let p = err_from_is_err_and c.from_residual-in_err-value.result c.from_residual-in_err-value.ensures.1 in
    let vs = g.C.Choice.VARIANTS in
    let xs = g.C.Choice.EXTENDED_VARIANTS in
    record {
      law = rw (p.1, p.2) (choice_failed g.met.D.Decoder.lawful g.met.D.Decoder.choices _ vs xs (tag_of c.in_ok-tag.tag) o
          (alternative_taken g.met.D.Decoder.lawful g.met.D.Decoder.choices _ vs xs (tag_of c.in_ok-tag.tag) o g.C.AsnType.value _ _ c.in_err-value.ensures));
      behaves = search rules;
    }

pub returns-in_err-close_choice : goal.returns-in_err-close_choice
returns-in_err-close_choice g c =
    let o = c.in_ok-tag.ensures.law in
    let p = err_from_is_err_and c.from_residual-in_err-close_choice.result c.from_residual-in_err-close_choice.ensures.1 in
    let vs = g.C.Choice.VARIANTS in
    let xs = g.C.Choice.EXTENDED_VARIANTS in
    let a = alternative_taken g.met.D.Decoder.lawful g.met.D.Decoder.choices _ vs xs (tag_of c.in_ok-tag.tag) o g.C.AsnType.value _ _ c.in_ok-value.ensures in
    record {
      law = rw (p.1, p.2) (choice_endless g.met.D.Decoder.lawful g.met.D.Decoder.choices _ vs xs (tag_of c.in_ok-tag.tag) o _ c.decode_alternative.new.decoder a
          (c.in_err-close_choice.ensures.law (alternative_left g.met.D.Decoder.lawful g.met.D.Decoder.choices _ vs xs (tag_of c.in_ok-tag.tag) o _ c.decode_alternative.new.decoder a)));
      behaves = search rules;
    }

pub returns : goal.returns
returns g c =
    let o = c.in_ok-tag.ensures.law in
    let vs = g.C.Choice.VARIANTS in
    let xs = g.C.Choice.EXTENDED_VARIANTS in
    let a = alternative_taken g.met.D.Decoder.lawful g.met.D.Decoder.choices _ vs xs (tag_of c.in_ok-tag.tag) o g.C.AsnType.value _ _ c.in_ok-value.ensures in
    record {
      law = choice_ended g.met.D.Decoder.lawful g.met.D.Decoder.choices _ vs xs (tag_of c.in_ok-tag.tag) o _ c.decode_alternative.new.decoder _ a
          (c.in_ok-close_choice.ensures.law (alternative_left g.met.D.Decoder.lawful g.met.D.Decoder.choices _ vs xs (tag_of c.in_ok-tag.tag) o _ c.decode_alternative.new.decoder a));
      behaves = search rules;
    }
