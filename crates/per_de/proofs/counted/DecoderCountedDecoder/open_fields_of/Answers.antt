use Rattle.std.proofs.Common.{refl}
use Rattle.std.proofs.lemmas.Result.{err_from_is_err_and}
use Rattle.per_decoding.specs.Turns.{uncounted}
use Rattle.per_de.proofs.InTurn.{behaves_err, behaves_ok, deeper_noted, record_opened, record_unopened}
use Rattle.per_de.proofs.counted.DecoderCountedDecoder.open_fields_of.Goals as goal

pub returns-in_err-scope : goal.returns-in_err-scope
returns-in_err-scope c =
    let p = err_from_is_err_and c.from_residual-in_err-scope.result c.from_residual-in_err-scope.ensures.1 in
    let h = c.in_err-scope.ensures in
    record {
      opened = λ ps marker adds k. let l = h.opened ps marker adds k in record {
        law = rw (p.1, p.2) (record_unopened ps adds marker c.args.self.now c.begin_value.new.self c.enter_record.new.self c.enter_record.new.self _ c.in_ok-begin_value.ensures.noted l.law);
        behaves = rw (p.1, p.2) (behaves_err _ _ c.args.self.now c.begin_value.new.self c.enter_record.new.self _ c.in_ok-begin_value.ensures.noted l.behaves);
      };
      deeper = rw p.1 tt;
      behaves = rw (p.1, p.2) (behaves_err _ _ c.args.self.now c.begin_value.new.self c.enter_record.new.self _ c.in_ok-begin_value.ensures.noted h.behaves);
    }

pub set_turn-requires : goal.set_turn-requires
set_turn-requires c = c.in_ok-scope.ensures.live

pub returns : goal.returns
returns c =
    let h = c.in_ok-scope.ensures in
    record {
      opened = λ ps marker adds k. let l = h.opened ps marker adds k in record {
        law = record_opened (λ n. uncounted) ps adds marker c.args.self.now c.begin_value.new.self c.enter_record.new.self c.set_turn.new.self
            c.in_ok-scope.scope c.turn-turn.result _ c.in_ok-begin_value.ensures.noted c.turn-turn.ensures c.set_turn.ensures (λ n. refl) l.law;
        behaves = behaves_ok c.args.self.now c.begin_value.new.self c.enter_record.new.self _ _ _ c.in_ok-begin_value.ensures.ok c.in_ok-begin_value.ensures.noted l.behaves.kept c.set_turn.ensures;
      };
      deeper = deeper_noted c.args.self.now c.begin_value.new.self c.enter_record.new.self c.set_turn.new.self _ c.in_ok-begin_value.ensures.noted c.set_turn.ensures h.deeper;
      behaves = behaves_ok c.args.self.now c.begin_value.new.self c.enter_record.new.self _ _ _ c.in_ok-begin_value.ensures.ok c.in_ok-begin_value.ensures.noted h.behaves.kept c.set_turn.ensures;
    }
