use Rattle.std.proofs.Common.{◌<◌, ◌≤◌, ◌∙◌, length, arith, rules}
use Rattle.std.proofs.lemmas.Result.{err_from_is_err_and}
use Rattle.per_enc.proofs.Opened.{all_put, next_refuses, no_room_to_put, one_more}
use Rattle.per_enc.proofs.bags.put_members.Goals as goal

pub returns-in_err-next_element : goal.returns-in_err-next_element
returns-in_err-next_element g c =
    let p = err_from_is_err_and c.from_residual.result c.from_residual.ensures.1 in
    let within : c.loop-place.place < length c.args.members.now = omega (arith, c.loop-place-test.true, c.len-place-end.ensures) in
    record {
      law = rw (p.1, p.2) (next_refuses c.args.members.now c.args.list c.loop-place.list c.next_element.new.list c.args.writer.now c.loop-place.writer c.next_element.new.writer c.loop-place.place c.in_err-next_element.field-0.0 c.loop-place.invariant within c.in_err-next_element.ensures.next);
      fails = search rules;
      kept = c.next_element.ensures.next.behaves.kept ∙ c.loop-place.invariant.kept;
    }

pub put_pieces-requires : goal.put_pieces-requires
put_pieces-requires g c = c.in_ok-next_element.ensures.left

pub returns-in_err-put_pieces : goal.returns-in_err-put_pieces
returns-in_err-put_pieces g c =
    let p = err_from_is_err_and c.from_residual-in_err-put_pieces.result c.from_residual-in_err-put_pieces.ensures.1 in
    record {
      law = rw (p.1, p.2) (no_room_to_put c.args.members.now c.args.list c.loop-place.list c.args.writer.now c.loop-place.writer c.next_element.new.writer c.put_pieces.new.self c.loop-place.place c.in_err-put_pieces.field-0.0 c.loop-place.invariant c.next_element.ensures.next.behaves.kept c.in_err-put_pieces.ensures.err);
      fails = search rules;
      kept = c.put_pieces.ensures.kept ∙ c.next_element.ensures.next.behaves.kept ∙ c.loop-place.invariant.kept;
    }

pub loop-place-preserved : goal.loop-place-preserved
loop-place-preserved g c =
    let within : c.loop-place.place < length c.args.members.now = omega (arith, c.loop-place-test.true, c.len-place-end.ensures) in
    one_more c.args.members.now c.args.list c.loop-place.list c.next_element.new.list c.args.writer.now c.loop-place.writer c.next_element.new.writer c.put_pieces.new.self c.loop-place.place c.at.result.now.list _
    c.loop-place.invariant within c.in_ok-next_element.ensures.next (rw (← c.at.ensures) c.in_ok-put_pieces.ensures.ok)

pub returns : goal.returns
returns g c =
    let over : length c.args.members.now ≤ c.loop-place.place = omega (arith, c.loop-place-test.false, c.len-place-end.ensures) in
    record {
      law = all_put c.args.members.now c.args.list c.loop-place.list c.args.writer.now c.loop-place.writer c.close_list.new.writer c.loop-place.place c.close_list.result c.loop-place.invariant over c.close_list.ensures;
      fails = search rules;
      kept = c.close_list.ensures.behaves.kept ∙ c.loop-place.invariant.kept;
    }
