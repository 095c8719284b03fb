use Rattle.std.proofs.Common.{◌∙◌, rules}
use Rattle.std.proofs.lemmas.Result.{err_from_is_err_and}
use Rattle.rasn_codec.proofs.Elements.{awaits_element, before_element, after_elements, closed, element_presented, element_refused, lists, next_refused, opened, unopened}
use Rattle.rasn_codec.proofs.encoder_ext.EncoderExt.encode_sequence_of.Goals as goal

pub returns-in_err-list : goal.returns-in_err-list
returns-in_err-list g c =
    let p = err_from_is_err_and c.from_residual.result c.from_residual.ensures.1 in
    record {
      law = rw (p.1, p.2) (unopened lists g.Self.Encoder.rules g.Self.Encoder.amid_elements _ _ _ g.T.AsnType.levels g.T.AsnType.value c.args.values.now c.args.self.now _ c.open_elements.new.self c.in_err-list.ensures.law);
      behaves = search rules;
    }

pub loop-value-init : goal.loop-value-init
loop-value-init g c =
    opened lists g.Self.Encoder.rules g.Self.Encoder.amid_elements _ _ _ g.T.AsnType.levels g.T.AsnType.value c.args.values.now c.args.self.now _ c.open_elements.new.self c.in_ok-list.ensures.law c.open_elements.ensures.behaves.kept

pub returns-in_err-next_element_in_turn : goal.returns-in_err-next_element_in_turn
returns-in_err-next_element_in_turn g c =
    let p = err_from_is_err_and c.from_residual-in_err-next_element_in_turn.result c.from_residual-in_err-next_element_in_turn.ensures.1 in
    record {
      law = rw (p.1, p.2) (next_refused c.loop-value.invariant _ _ c.next_element_in_turn.new.self c.loop-value-test.true c.value-item.is c.in_err-next_element_in_turn.ensures.law);
      behaves = search rules;
    }

pub returns-in_err-encode : goal.returns-in_err-encode
returns-in_err-encode g c =
    let p = err_from_is_err_and c.from_residual-in_err-encode.result c.from_residual-in_err-encode.ensures.1 in
    record {
      law = rw (p.1, p.2) (element_refused c.loop-value.invariant _ _ _ c.encode.new.encoder _ c.loop-value-test.true c.value-item.is (awaits_element c.in_ok-next_element_in_turn.ensures) c.in_err-encode.ensures.law);
      behaves = search rules;
    }

pub loop-value-preserved : goal.loop-value-preserved
loop-value-preserved g c =
    element_presented c.loop-value.invariant _ _ _ _ _ c.loop-value-test.true c.value-item.is (awaits_element c.in_ok-next_element_in_turn.ensures) c.in_ok-encode.ensures.law (c.encode.ensures.behaves.kept ∙ c.next_element_in_turn.ensures.behaves.kept)

pub next_element_in_turn-requires : goal.next_element_in_turn-requires
next_element_in_turn-requires g c = record { in_turn = before_element c.loop-value.invariant _ c.loop-value-test.true c.value-item.is }

pub close_elements-requires : goal.close_elements-requires
close_elements-requires g c = record { in_turn = after_elements c.loop-value.invariant c.loop-value-test.false }

pub returns : goal.returns
returns g c =
    record {
      law = closed c.loop-value.invariant _ _ c.loop-value-test.false c.close_elements.ensures.law;
      behaves = search rules;
    }
