use Rattle.std.proofs.lemmas.Result.{err_from_is_err_and}
use Rattle.per_de.proofs.InTurn.{behaves_err, behaves_ok, contents_awaits, contents_live, contents_opened, contents_unopened}
use Rattle.per_de.proofs.typed.DecoderDecoder.open_contents.Goals as goal

pub returns-in_err-scope : goal.returns-in_err-scope
returns-in_err-scope c =
    let p = err_from_is_err_and c.from_residual-in_err-scope.result c.from_residual-in_err-scope.ensures.1 in
    record {
      law = rw (p.1, p.2) (contents_unopened c.args.self.now c.begin_value.new.self c.enter_containing.new.self c.enter_containing.new.self _ c.in_ok-begin_value.ensures.noted c.in_err-scope.ensures.law);
      counts = rw p.1 tt;
      behaves = rw (p.1, p.2) (behaves_err _ _ c.args.self.now c.begin_value.new.self c.enter_containing.new.self _ c.in_ok-begin_value.ensures.noted c.in_err-scope.ensures.behaves);
    }

pub set_turn-requires : goal.set_turn-requires
set_turn-requires c = contents_live _ _ _ c.in_ok-scope.ensures.law

pub returns : goal.returns
returns c =
    let h = c.in_ok-scope.ensures.law in
    record {
      law = contents_opened c.args.self.now c.begin_value.new.self c.enter_containing.new.self c.set_turn.new.self c.in_ok-scope.scope c.turn-turn.result c.in_ok-begin_value.ensures.noted c.turn-turn.ensures c.set_turn.ensures h;
      counts = contents_awaits _ _ c.enter_containing.new.self _ h c.set_turn.ensures;
      behaves = behaves_ok c.args.self.now c.begin_value.new.self c.enter_containing.new.self _ _ _ c.in_ok-begin_value.ensures.ok c.in_ok-begin_value.ensures.noted c.in_ok-scope.ensures.behaves.kept c.set_turn.ensures;
    }
