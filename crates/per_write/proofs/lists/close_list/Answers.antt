use Rattle.std.proofs.Common.{arith, rules}
use Rattle.per_write.proofs.Elements.{list_ended, list_left}
use Rattle.per_write.proofs.lists.close_list.Goals as goal

pub returns-then-count_left-gt0 : goal.returns-then-count_left-gt0
returns-then-count_left-gt0 g c =
    record {
      law = λ f x h. absurd (let n = h.counted in omega (arith, n, c.count_left.ensures, c.if-count_left-gt0.true));
      early = λ f x v vs h. search rules;
      behaves = search rules;
    }

pub returns-in-Some : goal.returns-in-Some
returns-in-Some g c =
    record {
      law = λ f x h. list_ended f x c.args.writer.now c.put_unconstrained_length.new.self c.args.list c.in-Some.count c.put_unconstrained_length.result c.in-Some.is h
          (rw c.set_open.ensures.from_now_on at c.put_unconstrained_length.ensures);
      early = λ f x v vs h. absurd (let n = h.counted in omega (arith, n, c.count_left.ensures, c.if-count_left-gt0.false));
      behaves = search rules;
    }

pub returns-in-None : goal.returns-in-None
returns-in-None g c = record {
  law = λ f x h. rw c.set_open.ensures.from_now_on (list_left f x c.args.writer.now c.args.list c.in-None.is h);
  early = λ f x v vs h. absurd (let n = h.counted in omega (arith, n, c.count_left.ensures, c.if-count_left-gt0.false));
  behaves = search rules;
}
