use Rattle.std.proofs.Common.{refl, ◌∙◌, rules}
use Rattle.std.specs.Fn.{FnOnceReturnsAtMut}
use Rattle.std.proofs.lemmas.Result.{err_from_is_err_and}
use Rattle.rasn_schema.specs.Choices.{variants_on}
use Rattle.rasn_traits.specs.Choices.{ends_unopened, ends_refused, ends_chosen}
use Rattle.rasn_traits.proofs.Alternatives.{choice_refused, choice_closed}
use Rattle.rasn_traits.proofs.encoder.Encoder.encode_choice.Goals as goal

pub returns-in-Err : goal.returns-in-Err
returns-in-Err g c =
    let o = c.in_ok-outside.ensures.law in
    let gave : FnOnceReturnsAtMut g.F.FnOnce c.args.scope c.open_choice.new.self c.scope.result c.scope.new.arg2 = record { shown = _; shows = refl; left = _; met = c.scope.ensures; leaves = refl } in
    record {
      law = λ d k v depth owed.
          let w = rw c.in-Err.is at (owed.keeps c.open_choice.new.self c.scope.result c.scope.new.arg2 gave) in
          choice_refused g.Self.Encoder.rules _ (variants_on d g.C.Choice.VARIANTS g.C.Choice.EXTENDED_VARIANTS) d k v depth _ c.open_choice.new.self c.scope.new.arg2 c.args.self.now _ (λ n. (o n).1) w;
      ends = ends_refused (rw c.in-Err.is at gave) refl;
      again = search rules;
      fails = search rules;
      kept = λ owed. c.fail.ensures.kept ∙ owed.stays c.open_choice.new.self c.scope.result c.scope.new.arg2 gave ∙ c.in_ok-outside.ensures.behaves.kept;
    }

pub returns-in-Ok : goal.returns-in-Ok
returns-in-Ok g c =
    let o = c.in_ok-outside.ensures.law in
    let gave : FnOnceReturnsAtMut g.F.FnOnce c.args.scope c.open_choice.new.self c.scope.result c.scope.new.arg2 = record { shown = _; shows = refl; left = _; met = c.scope.ensures; leaves = refl } in
    record {
      law = λ d k v depth owed.
          let w = rw c.in-Ok.is at (owed.keeps c.open_choice.new.self c.scope.result c.scope.new.arg2 gave) in
          choice_closed g.Self.Encoder.rules g.Self.Encoder.opens_choice _ g.C.Choice.VARIANTS g.C.Choice.EXTENDED_VARIANTS d k v depth
          c.args.self.now c.open_choice.new.self c.scope.new.arg2 _ _ (λ n. (o n).0) w _ _ c.close_choice.ensures;
      ends = ends_chosen (rw c.in-Ok.is at gave) c.close_choice.ensures.behaves.again c.close_choice.ensures.unknown;
      again = search rules;
      fails = search rules;
      kept = λ owed. c.close_choice.ensures.behaves.kept ∙ owed.stays c.open_choice.new.self c.scope.result c.scope.new.arg2 gave ∙ c.in_ok-outside.ensures.behaves.kept;
    }

pub returns-in_err-outside : goal.returns-in_err-outside
returns-in_err-outside g c =
    let p = err_from_is_err_and c.from_residual.result c.from_residual.ensures.1 in
    record {
      law = λ d k v depth owed. search rules;
      ends = ends_unopened (rw (p.1, p.2) c.in_err-outside.ensures.law);
      again = search rules;
      fails = search rules;
      kept = search rules;
    }
