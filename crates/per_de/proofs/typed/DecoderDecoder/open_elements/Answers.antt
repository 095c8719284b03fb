use Rattle.std.proofs.lemmas.Result.{err_from_is_err_and}
use Rattle.rasn_schema.specs.Forms.{is_size_marked, size_of}
use Rattle.per_de.proofs.InTurn.{behaves_err, behaves_ok, list_live, list_opened, list_unopened}
use Rattle.per_de.proofs.typed.DecoderDecoder.open_elements.Goals as goal

pub returns-in_err-list : goal.returns-in_err-list
returns-in_err-list c =
    let p = err_from_is_err_and c.from_residual-in_err-list.result c.from_residual-in_err-list.ensures.1 in
    record {
      law = rw (p.1, p.2) (list_unopened (size_of c.args.constraints.now) (is_size_marked c.args.constraints.now) c.args.self.now c.begin_value.new.self c.enter_list.new.self c.enter_list.new.self _ c.in_ok-begin_value.ensures.noted c.in_err-list.ensures.law);
      behaves = rw (p.1, p.2) (behaves_err _ _ c.args.self.now c.begin_value.new.self c.enter_list.new.self _ c.in_ok-begin_value.ensures.noted c.in_err-list.ensures.behaves);
    }

pub set_turn-requires : goal.set_turn-requires
set_turn-requires c = list_live (size_of c.args.constraints.now) (is_size_marked c.args.constraints.now) _ _ _ c.in_ok-list.ensures.law

pub returns : goal.returns
returns c = record {
  law = list_opened (size_of c.args.constraints.now) (is_size_marked c.args.constraints.now) c.args.self.now c.begin_value.new.self c.enter_list.new.self c.set_turn.new.self c.in_ok-list.list c.turn-turn.result _
      c.in_ok-begin_value.ensures.noted c.turn-turn.ensures c.within_list.ensures c.set_turn.ensures c.in_ok-list.ensures.law;
  behaves = behaves_ok c.args.self.now c.begin_value.new.self c.enter_list.new.self _ _ _ c.in_ok-begin_value.ensures.ok c.in_ok-begin_value.ensures.noted c.in_ok-list.ensures.behaves.kept c.set_turn.ensures;
}
