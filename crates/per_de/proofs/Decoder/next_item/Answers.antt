use Rattle.std.proofs.Common.{ap, ◌∙◌, length, refl, rules}
use Rattle.per_decoding.specs.State.{reader_of}
use Rattle.std.proofs.lemmas.Result.{err_from_is_err_and}
use Rattle.per_de.proofs.Listing.{element_follows, list_ended, list_refused, whole_left}
use Rattle.per_de.proofs.Decoder.next_item.Goals as goal

pub returns-in_err-follows : goal.returns-in_err-follows
returns-in_err-follows c =
    let p = err_from_is_err_and c.from_residual-in_err-follows.result c.from_residual-in_err-follows.ensures.1 in
    record {
      law = λ e size mark s vs a. rw (p.1, p.2) (list_refused c.args.self.now c.len-left.result a c.reader-reader.ensures (rw (c.go_on.ensures.stays c.if-go_on.false) at c.next_element-taken.ensures) _ c.answer.new.self c.in_err-follows.ensures);
      falls = search rules;
      live = search rules;
      beside = search rules;
      behaves = search rules;
    }

pub returns-then-not-follows : goal.returns-then-not-follows
returns-then-not-follows c = record {
  law = λ e size mark s vs a. rw c.if-not-follows.true
      (list_ended c.args.self.now c.len-left.result a c.reader-reader.ensures (rw (c.go_on.ensures.stays c.if-go_on.false) at c.next_element-taken.ensures) c.answer.new.self _ (c.len-left.ensures ∙ ap length c.bits.ensures) (rw c.if-not-follows.true at c.in_ok-follows.ensures) (search rules));
  falls = search rules;
  live = search rules;
  beside = search rules;
  behaves = search rules;
}

pub returns-else-not-follows : goal.returns-else-not-follows
returns-else-not-follows c = record {
  law = λ e size mark s vs a. rw c.if-not-follows.false
      (element_follows c.args.self.now c.len-left.result a c.reader-reader.ensures (rw (c.go_on.ensures.stays c.if-go_on.false) at c.next_element-taken.ensures) c.answer.new.self (c.len-left.ensures ∙ ap length c.bits.ensures) (rw c.if-not-follows.false at c.in_ok-follows.ensures));
  falls = search rules;
  live = search rules;
  beside = search rules;
  behaves = search rules;
}

pub returns-then-go_on : goal.returns-then-go_on
returns-then-go_on c =
    let s = c.args.self.now in
    let taken = c.go_on.ensures.goes (search rules) (reader_of s) in
    record {
      law = λ e size mark r vs a. element_follows s (length s.bits) a refl taken s refl (refl, whole_left s);
      falls = search rules;
      live = search rules;
      beside = search rules;
      behaves = search rules;
    }
