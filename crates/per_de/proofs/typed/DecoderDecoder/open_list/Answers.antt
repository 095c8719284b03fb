use Rattle.std.proofs.Common.{◌≡◌, ◌∙◌, Some, ap}
use Rattle.std.proofs.lemmas.Result.{err_from_is_err_and}
use Rattle.rasn_schema.specs.Forms.{is_size_marked, size_of}
use Rattle.per_decoding.proofs.Scoping.InTurn.{contradicts}
use Rattle.per_decoding.specs.Scopes.{no_record, with_outside_record}
use Rattle.per_de.specs.Lists.{closed_off}
use Rattle.per_de.proofs.CountedLists.{counted_opened, counted_unopened, opened_awaits}
use Rattle.per_de.proofs.InTurn.{list_live}
use Rattle.per_de.proofs.typed.DecoderDecoder.open_list.Goals as goal

pub returns-in_err-list : goal.returns-in_err-list
returns-in_err-list c =
    let p = err_from_is_err_and c.from_residual-in_err-list.result c.from_residual-in_err-list.ensures.1 in
    let m = c.begin_value.new.self in
    let off : c.enter-outer.new.self ≡ closed_off m = c.enter-outer.ensures.same ∙ ap (λ w. with_outside_record m w) (c.without_record.ensures m ∙ ap no_record (ap (λ z. z.levels) c.enter.view_is)) in
    record {
      opens = record {
        law = rw (p.1, p.2) (counted_unopened (size_of c.args.constraints.now) (is_size_marked c.args.constraints.now) c.args.self.now m c.enter-outer.new.self c.enter_list.new.self c.enter_list.new.self _ c.in_ok-begin_value.ensures.noted off c.in_err-list.ensures.law);
        behaves = rw (p.1, p.2) (record { again = λ f. contradicts c.in_ok-begin_value.ensures.ok f; fails = c.in_err-list.ensures.behaves.fails; kept = c.in_err-list.ensures.behaves.kept ∙ ap (λ z. z.codec) off ∙ ap (λ z. z.codec) c.in_ok-begin_value.ensures.noted });
      };
      counts = rw p.1 tt;
    }

pub set_turn-requires : goal.set_turn-requires
set_turn-requires c = list_live (size_of c.args.constraints.now) (is_size_marked c.args.constraints.now) _ _ _ c.in_ok-list.ensures.law

pub returns : goal.returns
returns c =
    let m = c.begin_value.new.self in
    let off : c.enter-outer.new.self ≡ closed_off m = c.enter-outer.ensures.same ∙ ap (λ w. with_outside_record m w) (c.without_record.ensures m ∙ ap no_record (ap (λ z. z.levels) c.enter.view_is)) in
    record {
      opens = record {
        law = counted_opened (size_of c.args.constraints.now) (is_size_marked c.args.constraints.now) c.args.self.now m c.enter-outer.new.self c.enter_list.new.self c.set_turn.new.self c.in_ok-list.list (Some c.enter-outer.result) c.turn-turn.result
            c.in_ok-begin_value.ensures.noted c.turn-turn.ensures off c.enter-outer.ensures.waits c.set_turn.ensures c.in_ok-list.ensures.law;
        behaves = record { again = λ f. contradicts c.in_ok-begin_value.ensures.ok f; fails = tt; kept = ap (λ z. z.codec) c.set_turn.ensures ∙ c.in_ok-list.ensures.behaves.kept ∙ ap (λ z. z.codec) off ∙ ap (λ z. z.codec) c.in_ok-begin_value.ensures.noted };
      };
      counts = opened_awaits (size_of c.args.constraints.now) (is_size_marked c.args.constraints.now) m c.enter-outer.new.self c.enter_list.new.self c.set_turn.new.self c.in_ok-list.list off c.set_turn.ensures c.in_ok-list.ensures.law;
    }
