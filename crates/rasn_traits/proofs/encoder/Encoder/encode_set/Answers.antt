use Rattle.std.proofs.Common.{refl, ◌∙◌, rules}
use Rattle.std.specs.Fn.{FnOnceReturnsAtMut}
use Rattle.rasn_schema.specs.Schemas.{by_tag}
use Rattle.rasn_traits.specs.Scopes.{ends_refused, ends_left}
use Rattle.rasn_traits.proofs.Writing.{record_refused, record_closed}
use Rattle.rasn_traits.proofs.encoder.Encoder.encode_set.Goals as goal

pub returns-in-Err : goal.returns-in-Err
returns-in-Err g c =
    let o = c.in_ok-outside.ensures.law in
    let gave : FnOnceReturnsAtMut g.F.FnOnce c.args.scope c.open_components.new.self c.scope.result c.scope.new.arg2 = record { shown = _; shows = refl; left = _; met = c.scope.ensures; leaves = refl } in
    record {
      law = λ rs xs k counted owed.
          record_refused g.Self.Encoder.rules by_tag g.C.Constructed.parts g.C.Constructed.IS_EXTENSIBLE g.C.Constructed.additions rs xs k _ c.open_components.new.self c.scope.new.arg2 c.args.self.now _ counted (λ n. (o n).1)
          (rw c.in-Err.is at (owed.keeps c.open_components.new.self c.scope.result c.scope.new.arg2 gave));
      swallowed = ends_refused (rw c.in-Err.is at gave) refl;
      again = search rules;
      fails = search rules;
      kept = λ owed. c.fail.ensures.kept ∙ owed.stays c.open_components.new.self c.scope.result c.scope.new.arg2 gave ∙ c.in_ok-outside.ensures.behaves.kept;
    }

pub returns : goal.returns
returns g c =
    let o = c.in_ok-outside.ensures.law in
    let gave : FnOnceReturnsAtMut g.F.FnOnce c.args.scope c.open_components.new.self c.scope.result c.scope.new.arg2 = record { shown = _; shows = refl; left = _; met = c.scope.ensures; leaves = refl } in
    record {
      law = λ rs xs k counted owed.
          record_closed g.Self.Encoder.rules g.Self.Encoder.opens by_tag g.C.Constructed.parts g.C.Constructed.IS_EXTENSIBLE g.C.Constructed.additions rs xs k
          c.args.self.now c.open_components.new.self c.scope.new.arg2 _ _ (λ n. (o n).0)
          (rw c.in_default.is at (owed.keeps c.open_components.new.self c.scope.result c.scope.new.arg2 gave)) _ _ c.close_components.ensures.closes;
      swallowed = ends_left (rw c.in_default.is at gave) c.close_components.ensures.closes.behaves.again;
      again = search rules;
      fails = search rules;
      kept = λ owed. c.close_components.ensures.closes.behaves.kept ∙ owed.stays c.open_components.new.self c.scope.result c.scope.new.arg2 gave ∙ c.in_ok-outside.ensures.behaves.kept;
    }
