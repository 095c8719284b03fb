use Rattle.std.proofs.Common.{◌∙◌, rules}
use Rattle.std.proofs.lemmas.Result.{err_from_is_err_and}
use Rattle.rasn_codec.proofs.Elements.{before_element, after_elements, closed, element_presented, element_refused, next_refused, opened, unopened}
use Rattle.rasn_sets.proofs.Members.{awaits_member, bags}
use Rattle.rasn_sets.proofs.codec.SetOfEncoder.encode_set_of.Goals as goal

pub returns-in_err-bag : goal.returns-in_err-bag
returns-in_err-bag g c =
    let p = err_from_is_err_and c.from_residual.result c.from_residual.ensures.1 in
    record {
      law = rw (p.1, p.2, ← c.as_slice-members.ensures) (unopened bags g.Self.Encoder.rules g.Self.Encoder.amid_members _ _ _ g.T.AsnType.levels g.T.AsnType.value c.as_slice-members.result.now c.args.self.now _ c.open_members.new.self c.in_err-bag.ensures.law);
      behaves = search rules;
    }

pub loop-member-init : goal.loop-member-init
loop-member-init g c =
    opened bags g.Self.Encoder.rules g.Self.Encoder.amid_members _ _ _ g.T.AsnType.levels g.T.AsnType.value c.as_slice-members.result.now c.args.self.now _ c.open_members.new.self c.in_ok-bag.ensures.law c.open_members.ensures.behaves.kept

pub returns-in_err-next_member_in_turn : goal.returns-in_err-next_member_in_turn
returns-in_err-next_member_in_turn g c =
    let p = err_from_is_err_and c.from_residual-in_err-next_member_in_turn.result c.from_residual-in_err-next_member_in_turn.ensures.1 in
    record {
      law = rw (p.1, p.2, ← c.as_slice-members.ensures) (next_refused c.loop-member.invariant _ _ c.next_member_in_turn.new.self c.loop-member-test.true c.member-item.is c.in_err-next_member_in_turn.ensures.law);
      behaves = search rules;
    }

pub returns-in_err-encode : goal.returns-in_err-encode
returns-in_err-encode g c =
    let p = err_from_is_err_and c.from_residual-in_err-encode.result c.from_residual-in_err-encode.ensures.1 in
    record {
      law = rw (p.1, p.2, ← c.as_slice-members.ensures) (element_refused c.loop-member.invariant _ _ _ c.encode.new.encoder _ c.loop-member-test.true c.member-item.is (awaits_member c.in_ok-next_member_in_turn.ensures) c.in_err-encode.ensures.law);
      behaves = search rules;
    }

pub loop-member-preserved : goal.loop-member-preserved
loop-member-preserved g c =
    element_presented c.loop-member.invariant _ _ _ _ _ c.loop-member-test.true c.member-item.is (awaits_member c.in_ok-next_member_in_turn.ensures) c.in_ok-encode.ensures.law (c.encode.ensures.behaves.kept ∙ c.next_member_in_turn.ensures.behaves.kept)

pub next_member_in_turn-requires : goal.next_member_in_turn-requires
next_member_in_turn-requires g c = record { in_turn = before_element c.loop-member.invariant _ c.loop-member-test.true c.member-item.is }

pub close_members-requires : goal.close_members-requires
close_members-requires g c = record { in_turn = after_elements c.loop-member.invariant c.loop-member-test.false }

pub returns : goal.returns
returns g c =
    record {
      law = rw (← c.as_slice-members.ensures) (closed c.loop-member.invariant _ _ c.loop-member-test.false c.close_members.ensures.law);
      behaves = search rules;
    }
