use Rattle.std.proofs.Common.{ap, ◌∙◌, rules, inl, inr}
use Rattle.std.proofs.lemmas.Result.{err_from_is_err_and}
use Rattle.per_write.specs.WriterState.{WriterState}
use Rattle.per_enc.specs.Bags.{OpenBag}
use Rattle.per_enc.proofs.Opened.{all_kept, member_awaited, no_room, no_room_outside, out_of_turn, some_left}
use Rattle.per_enc.proofs.bags.OpenBag.next_member.Goals as goal

pub returns-in_err-keep_member : goal.returns-in_err-keep_member
returns-in_err-keep_member g c =
    let p = err_from_is_err_and c.from_residual.result c.from_residual.ensures.1 in
    record {
      next = record {
        law = λ f x v vs h. rw (p.1, p.2) (inl (no_room f x _ c.args.self.now c.args.writer.now c.in_err-keep_member.field-0.0 h c.in_err-keep_member.ensures.err));
        late = λ f x h. rw (p.1, p.2) (inl c.in_err-keep_member.ensures.err);
        behaves = search rules;
      };
      left = rw p.1 tt;
      alone = rw p.1 tt;
    }

pub returns-then-has_all : goal.returns-then-has_all
returns-then-has_all g c =
    record {
      next = record {
        law = λ f x v vs h. absurd (some_left f x v vs c.args.self.now c.args.writer.now h _ c.in_ok-keep_member.ensures.is (c.has_all.ensures.all c.if-has_all.true));
        late = λ f x h. inr (out_of_turn c.args.writer.now c.keep_member.new.writer _ c.keep_member.ensures.kept c.refuse.ensures.error);
        behaves = search rules;
      };
      left = tt;
      alone = tt;
    }

pub returns-in_err-waiting : goal.returns-in_err-waiting
returns-in_err-waiting g c =
    let p = err_from_is_err_and c.from_residual-in_err-waiting.result c.from_residual-in_err-waiting.ensures.1 in
    record {
      next = record {
        law = λ f x v vs h. rw (p.1, p.2) (inl (no_room_outside f x _ c.args.self.now c.args.writer.now c.keep_member.new.writer c.in_err-waiting.field-0.0 h c.keep_member.ensures.kept c.in_err-waiting.ensures.err));
        late = λ f x h. absurd (all_kept f x c.args.self.now c.args.writer.now h _ c.in_ok-keep_member.ensures.is (c.has_all.ensures.some c.if-has_all.false));
        behaves = search rules;
      };
      left = rw p.1 tt;
      alone = rw p.1 tt;
    }

pub returns : goal.returns
returns g c =
    let is = c.self.view_is ∙ c.in_ok-keep_member.ensures.is in
    record {
      next = record {
        law = λ f x v vs h. member_awaited f x v vs c.args.self.now c.args.writer.now c.keep_member.new.writer c.open_unplaced.new.self c.self.inside.list c.self.inside.members c.in_ok-waiting.waiting
            h c.in_ok-keep_member.ensures.ok (ap (λ (q : OpenBag). q.list) is) (ap (λ (q : OpenBag). q.members) is) c.in_ok-waiting.ensures.ok;
        late = λ f x h. absurd (all_kept f x c.args.self.now c.args.writer.now h _ c.in_ok-keep_member.ensures.is (c.has_all.ensures.some c.if-has_all.false));
        behaves = search rules;
      };
      left = ap (λ (k : WriterState). k.failed) c.in_ok-waiting.ensures.ok.same ∙ c.in_ok-waiting.ensures.ok.begun;
      alone = ap (λ (k : WriterState). k.scope) c.in_ok-waiting.ensures.ok.same;
    }
