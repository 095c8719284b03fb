use Rattle.std.proofs.Common.{refl, ◌∙◌, Err, rules}
use Rattle.std.specs.Fn.{FnOnceReturnsAtMut}
use Rattle.std.proofs.lemmas.Result.{err_from_is_err_and}
use Rattle.rasn_schema.specs.Orders.{canonised_at}
use Rattle.rasn_schema.specs.Schemas.{listed}
use Rattle.rasn_traits.specs.Scopes.{ends_before, ends_refused, ends_left}
use Rattle.rasn_traits.proofs.SetsWritten.{set_unopened, set_written}
use Rattle.rasn_traits.proofs.Writing.{record_refused, record_closed}
use Rattle.rasn_traits.proofs.encoder.Encoder.encode_set_in_order.Goals as goal

pub returns-in_err-outside : goal.returns-in_err-outside
returns-in_err-outside g c =
    let p = err_from_is_err_and c.from_residual.result c.from_residual.ensures.1 in
    let C = g.C.Constructed in
    record {
      law = λ rs cs xs k order owed. rw (p.1, p.2) (set_unopened g.Self.Encoder.rules g.met.Self.Encoder.sets g.Self.Encoder.opens C.parts C.IS_EXTENSIBLE C.additions
          rs cs xs k c.args.self.now _ c.open_set.new.self c.open_set.new.self order c.in_err-outside.ensures.law);
      swallowed = ends_before (search rules);
      again = search rules;
      fails = search rules;
      kept = search rules;
    }

pub returns-in-Err : goal.returns-in-Err
returns-in-Err g c =
    let C = g.C.Constructed in
    let o = c.in_ok-outside.ensures.law in
    let gave : FnOnceReturnsAtMut g.F.FnOnce c.args.scope c.open_set.new.self c.scope.result c.scope.new.arg2 = record { shown = _; shows = refl; left = _; met = c.scope.ensures; leaves = refl } in
    record {
      law = λ rs cs xs k order owed.
          set_written g.Self.Encoder.rules g.met.Self.Encoder.sets C.parts C.IS_EXTENSIBLE C.additions rs cs xs k c.args.self.now (Err c.in-Err.refusal) c.fail.new.self order
          (record_refused g.Self.Encoder.rules listed (canonised_at C.parts) C.IS_EXTENSIBLE C.additions cs xs k _ c.open_set.new.self c.scope.new.arg2 c.args.self.now _ (λ n. tt) (λ n. (o n).1)
          (rw c.in-Err.is at (owed.keeps c.open_set.new.self c.scope.result c.scope.new.arg2 gave)));
      swallowed = ends_refused (rw c.in-Err.is at gave) refl;
      again = search rules;
      fails = search rules;
      kept = λ owed. c.fail.ensures.kept ∙ owed.stays c.open_set.new.self c.scope.result c.scope.new.arg2 gave ∙ c.in_ok-outside.ensures.behaves.kept;
    }

pub returns : goal.returns
returns g c =
    let C = g.C.Constructed in
    let o = c.in_ok-outside.ensures.law in
    let gave : FnOnceReturnsAtMut g.F.FnOnce c.args.scope c.open_set.new.self c.scope.result c.scope.new.arg2 = record { shown = _; shows = refl; left = _; met = c.scope.ensures; leaves = refl } in
    record {
      law = λ rs cs xs k order owed.
          set_written g.Self.Encoder.rules g.met.Self.Encoder.sets C.parts C.IS_EXTENSIBLE C.additions rs cs xs k c.args.self.now c.close_set.result c.close_set.new.self order
          (record_closed g.Self.Encoder.rules g.Self.Encoder.opens listed (canonised_at C.parts) C.IS_EXTENSIBLE C.additions cs xs k
          c.args.self.now c.open_set.new.self c.scope.new.arg2 _ _ (λ n. (o n).0)
          (rw c.in_default.is at (owed.keeps c.open_set.new.self c.scope.result c.scope.new.arg2 gave)) _ _ c.close_set.ensures.closes);
      swallowed = ends_left (rw c.in_default.is at gave) c.close_set.ensures.closes.behaves.again;
      again = search rules;
      fails = search rules;
      kept = λ owed. c.close_set.ensures.closes.behaves.kept ∙ owed.stays c.open_set.new.self c.scope.result c.scope.new.arg2 gave ∙ c.in_ok-outside.ensures.behaves.kept;
    }
