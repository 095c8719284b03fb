use Rattle.std.proofs.Common.{ap, ◌∙◌, inl, inr}
use Rattle.std.proofs.lemmas.Result.{err_from_is_err_and}
use Rattle.per_core.specs.Canon.{ascending}
use Rattle.per_enc.specs.Members.{writers_of}
use Rattle.per_enc.specs.Bags.{OpenBag}
use Rattle.per_write.specs.WriterState.{WriterState}
use Rattle.per_enc.proofs.Opened.{all_kept, bag_closed, no_room, no_room_outside, out_of_turn, some_left}
use Rattle.per_enc.proofs.bags.OpenBag.close.Goals as goal

pub returns-in_err-keep_member : goal.returns-in_err-keep_member
returns-in_err-keep_member g c =
    let p = err_from_is_err_and c.from_residual.result c.from_residual.ensures.1 in
    record {
      law = λ f x h. rw (p.1, p.2) (inl (no_room f x _ c.args.self c.args.writer.now c.in_err-keep_member.field-0.0 h c.in_err-keep_member.ensures.err));
      early = λ f x v vs h. rw (p.1, p.2) (inl c.in_err-keep_member.ensures.err);
      behaves = record {
        again = λ q. absurd (let r = c.requires in cc);
        fails = rw (p.1) c.in_err-keep_member.ensures.fails;
        kept = c.keep_member.ensures.kept;
      };
    }

pub returns-then-not-has_all : goal.returns-then-not-has_all
returns-then-not-has_all g c =
    record {
      law = λ f x h. absurd (all_kept f x c.args.self c.args.writer.now h _ c.in_ok-keep_member.ensures.is (c.has_all.ensures.some c.if-not-has_all.true));
      early = λ f x v vs h. inr (out_of_turn c.args.writer.now c.keep_member.new.writer _ c.keep_member.ensures.kept c.refuse.ensures.error);
      behaves = record {
        again = λ q. absurd (let r = c.requires in cc);
        fails = ap (λ (s : WriterState). s.failed) c.refuse.ensures.failed;
        kept = ap (λ (s : WriterState). s.codec) c.refuse.ensures.failed ∙ c.keep_member.ensures.kept;
      };
    }

pub returns-in_err-unless_out_of_memory : goal.returns-in_err-unless_out_of_memory
returns-in_err-unless_out_of_memory g c =
    let p = err_from_is_err_and c.from_residual-in_err-unless_out_of_memory.result c.from_residual-in_err-unless_out_of_memory.ensures.1 in
    record {
      law = λ f x h. rw (p.1, p.2) (inl (no_room_outside f x _ c.args.self c.args.writer.now c.keep_member.new.writer c.in_err-unless_out_of_memory.field-0.0 h c.keep_member.ensures.kept c.in_err-unless_out_of_memory.ensures.err));
      early = λ f x v vs h. absurd (some_left f x v vs c.args.self c.args.writer.now h _ c.in_ok-keep_member.ensures.is (c.has_all.ensures.all c.if-not-has_all.false));
      behaves = record {
        again = λ q. absurd (let r = c.requires in cc);
        fails = rw (p.1) (ap (λ (s : WriterState). s.failed) c.in_err-unless_out_of_memory.ensures.fails);
        kept = ap (λ (s : WriterState). s.codec) c.in_err-unless_out_of_memory.ensures.fails ∙ c.keep_member.ensures.kept;
      };
    }

pub returns : goal.returns
returns g c =
    let is = c.self.view_is ∙ c.in_ok-keep_member.ensures.is in
    let sorts = (rw c.in_ok-unless_out_of_memory.ensures.ok at c.sort-sorted.ensures) ∙ ap (λ (q : OpenBag). ascending (writers_of q.members)) is in
    record {
      law = λ f x h. bag_closed f x c.args.self c.args.writer.now c.unless_out_of_memory.new.self c.put_members.new.writer c.sort-sorted.new.self c.put_members.result h
          (c.in_ok-unless_out_of_memory.ensures.kept ∙ c.in_ok-keep_member.ensures.ok) sorts (rw (ap (λ (q : OpenBag). q.list) is) at c.put_members.ensures);
      early = λ f x v vs h. absurd (some_left f x v vs c.args.self c.args.writer.now h _ c.in_ok-keep_member.ensures.is (c.has_all.ensures.all c.if-not-has_all.false));
      behaves = record {
        again = λ q. absurd (let r = c.requires in cc);
        fails = c.put_members.ensures.fails;
        kept = c.put_members.ensures.kept ∙ ap (λ (s : WriterState). s.codec) c.in_ok-unless_out_of_memory.ensures.kept ∙ c.keep_member.ensures.kept;
      };
    }
