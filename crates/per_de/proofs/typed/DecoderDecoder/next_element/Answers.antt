use Rattle.std.proofs.Common.{◌≡◌, ◌∙◌, ap, rules, Bool}
use Rattle.std.proofs.lemmas.Result.{err_from_is_err_and}
use Rattle.per_decoding.proofs.Scoping.InTurn.{cant_go_on, contradicts}
use Rattle.per_decoding.specs.State.{with_turn}
use Rattle.per_de.specs.Lists.{closed_off, outer_of}
use Rattle.per_de.specs.Turns.{turn_of}
use Rattle.per_de.proofs.CountedLists.{behaves_out_of_turn, counted_ended, counted_follows, counted_here, counted_refused, next_awaits, not_out_of_turn, out_of_turn}
use Rattle.per_de.proofs.typed.DecoderDecoder.next_element.Goals as goal

pub returns-in_err-check_between : goal.returns-in_err-check_between
returns-in_err-check_between c =
    let p = err_from_is_err_and c.from_residual.result c.from_residual.ensures.1 in
    let i = c.args.self.now in
    let h = c.in_err-check_between.ensures in
    record {
      goes_on = record {
        law = λ e size mark s vs a. not_out_of_turn i _ _ a h;
        falls = rw p.1 tt;
        behaves = rw (p.1, p.2) (behaves_out_of_turn i _ _ h);
      };
      counts = λ e size mark s vs a. not_out_of_turn i _ _ a h;
      untimely = rw (p.1, p.2) (out_of_turn Bool i _ _ h);
    }

pub returns-in_err-follows : goal.returns-in_err-follows
returns-in_err-follows c =
    let p = err_from_is_err_and c.from_residual-in_err-follows.result c.from_residual-in_err-follows.ensures.1 in
    let i = c.args.self.now in
    let q = c.in_ok-check_between.ensures in
    record {
      goes_on = record {
        law = λ e size mark s vs a. rw (p.1, p.2) (counted_refused s i.turn _ (c.in_err-follows.ensures.law e size mark (closed_off (with_turn i.turn s)) vs (rw q.2 (counted_here i a))));
        falls = rw p.1 tt;
        behaves = rw (p.1, p.2) (record { again = λ f. contradicts q.0 f; fails = c.in_err-follows.ensures.behaves.fails; kept = c.in_err-follows.ensures.behaves.kept ∙ ap (λ z. z.codec) q.2 });
      };
      counts = λ e size mark s vs a. rw p.1 tt;
      untimely = λ n j came w k other. absurd (cant_go_on n came j i w k other q.1);
    }

pub set_turn-requires : goal.set_turn-requires
set_turn-requires c = c.in_ok-follows.ensures.live

pub end_list-requires : goal.end_list-requires
end_list-requires c = c.in_ok-follows.ensures.live

pub returns-then-follows : goal.returns-then-follows
returns-then-follows c =
    let i = c.args.self.now in
    let q = c.in_ok-check_between.ensures in
    let h = c.in_ok-follows.ensures in
    let back : c.check_between.new.self ≡ i = q.2 in
    record {
      goes_on = record {
        law = λ e size mark s vs a. rw c.if-follows.true
            (counted_follows i.turn c.next_item.new.self c.set_turn.new.self a.waiting (ap (λ z. outer_of z c.args.outside.now.scope.outer) (h.beside.2 ∙ ap (λ z. z.source) back) ∙ a.outer) c.set_turn.ensures
            (rw c.if-follows.true at (h.law e size mark (closed_off (with_turn i.turn s)) vs (rw back (counted_here i a)))));
        falls = h.falls;
        behaves = record { again = λ f. contradicts q.0 f; fails = tt; kept = ap (λ z. z.codec) c.set_turn.ensures ∙ h.behaves.kept ∙ ap (λ z. z.codec) back };
      };
      counts = λ e size mark s vs a. λ t. next_awaits i c.next_item.new.self c.set_turn.new.self a h.live (h.beside.0 ∙ ap (λ z. z.presences) back) (h.beside.1 ∙ ap (λ z. z.expected) back) c.set_turn.ensures;
      untimely = λ n j came w k other. absurd (cant_go_on n came j i w k other q.1);
    }

pub returns-else-follows : goal.returns-else-follows
returns-else-follows c =
    let i = c.args.self.now in
    let q = c.in_ok-check_between.ensures in
    let h = c.in_ok-follows.ensures in
    let back : c.check_between.new.self ≡ i = q.2 in
    record {
      goes_on = record {
        law = λ e size mark s vs a. rw c.if-follows.false
            (counted_ended s vs (turn_of c.args.outside.now.turn) i.turn c.args.outside.now.scope.outer c.next_item.new.self c.end_list.new.self a.waiting (ap (λ z. outer_of z c.args.outside.now.scope.outer) (h.beside.2 ∙ ap (λ z. z.source) back) ∙ a.outer) c.end_list.ensures
            (rw c.if-follows.false at (h.law e size mark (closed_off (with_turn i.turn s)) vs (rw back (counted_here i a)))));
        falls = rw c.if-follows.false (search rules);
        behaves = record { again = λ f. contradicts q.0 f; fails = tt; kept = ap (λ z. z.codec) c.end_list.ensures ∙ h.behaves.kept ∙ ap (λ z. z.codec) back };
      };
      counts = λ e size mark s vs a. rw c.if-follows.false (search rules);
      untimely = λ n j came w k other. absurd (cant_go_on n came j i w k other q.1);
    }
