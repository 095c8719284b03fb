use Rattle.std.proofs.Common.{◌∙◌, ap, rules}
use Rattle.std.proofs.lemmas.Result.{err_from_is_err_and}
use Rattle.per_de.specs.Turns.{turn_of}
use Rattle.per_decoding.specs.State.{with_turn}
use Rattle.per_de.proofs.InTurn.{element_follows, list_ended, list_refused, still_open}
use Rattle.per_de.proofs.typed.DecoderDecoder.next_element_in_turn.Goals as goal

pub returns-in_err-follows : goal.returns-in_err-follows
returns-in_err-follows c =
    let p = err_from_is_err_and c.from_residual.result c.from_residual.ensures.1 in
    let i = c.args.self.now in
    record {
      law = λ e size mark s vs a. rw (p.1, p.2) (list_refused s i.turn _ (c.in_err-follows.ensures.law e size mark (with_turn i.turn s) vs (still_open i a)));
      falls = rw p.1 tt;
      behaves = rw (p.1, p.2) (record { again = c.in_err-follows.ensures.behaves.again; fails = c.in_err-follows.ensures.behaves.fails; kept = c.in_err-follows.ensures.behaves.kept });
    }

pub set_turn-requires : goal.set_turn-requires
set_turn-requires c = c.in_ok-follows.ensures.live

pub returns-then-not-follows : goal.returns-then-not-follows
returns-then-not-follows c =
    let i = c.args.self.now in
    record {
      law = λ e size mark s vs a. rw c.if-not-follows.true
          (list_ended s vs (turn_of c.args.outside.now.turn) i.turn c.next_item.new.self c.set_turn.new.self a.waiting c.set_turn.ensures (rw c.if-not-follows.true at (c.in_ok-follows.ensures.law e size mark (with_turn i.turn s) vs (still_open i a))));
      falls = rw c.if-not-follows.true (search rules);
      behaves = record { again = c.in_ok-follows.ensures.behaves.again; fails = tt; kept = ap (λ z. z.codec) c.set_turn.ensures ∙ c.in_ok-follows.ensures.behaves.kept };
    }

pub returns-else-not-follows : goal.returns-else-not-follows
returns-else-not-follows c =
    let i = c.args.self.now in
    record {
      law = λ e size mark s vs a. rw c.if-not-follows.false
          (element_follows i.turn c.next_item.new.self a.waiting a.within (rw c.if-not-follows.false at (c.in_ok-follows.ensures.law e size mark (with_turn i.turn s) vs (still_open i a))));
      falls = c.in_ok-follows.ensures.falls;
      behaves = record { again = c.in_ok-follows.ensures.behaves.again; fails = tt; kept = c.in_ok-follows.ensures.behaves.kept };
    }
