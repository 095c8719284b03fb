use Rattle.std.proofs.Common.{refl, sym, ◌∙◌, rules}
use Rattle.std.specs.Fn.{FnOnceReturnsAtMut}
use Rattle.std.proofs.lemmas.Result.{err_from_is_err_and}
use Rattle.rasn_traits.specs.Scopes.{ends_before, ends_refused, ends_left}
use Rattle.rasn_traits.proofs.Reading.{inside_left, record_ended, record_failed, record_endless}
use Rattle.rasn_traits.proofs.decoder.Decoder.decode_sequence.Goals as goal

pub returns-in_err-close_sequence-in-Ok : goal.returns-in_err-close_sequence-in-Ok
returns-in_err-close_sequence-in-Ok g c =
    let o = c.in_ok-outside.ensures.law in
    let gave : FnOnceReturnsAtMut g.F.FnOnce c.args.scope c.open_sequence.new.self c.scope.result c.scope.new.arg2 = record { shown = _; shows = refl; left = _; met = c.scope.ensures; leaves = refl } in
    let p = err_from_is_err_and c.from_residual-in_err-close_sequence-in-Ok.result c.from_residual-in_err-close_sequence-in-Ok.ensures.1 in
    record {
      law = λ owed.
          let w = rw c.in-Ok.is at (owed.keeps c.open_sequence.new.self c.scope.result c.scope.new.arg2 (sym o.0) gave) in
          rw (p.1, p.2) (record_endless g.met.Self.Decoder.lawful g.met.Self.Decoder.scopes g.C.Constructed.parts g.C.Constructed.IS_EXTENSIBLE g.C.Constructed.additions o.0 o.1 _ _ _ w
          (c.in_err-close_sequence-in-Ok.ensures.ends.law (inside_left g.met.Self.Decoder.lawful g.met.Self.Decoder.scopes g.C.Constructed.parts g.C.Constructed.IS_EXTENSIBLE g.C.Constructed.additions o.0 o.1 _ _ _ w)));
      swallowed = ends_before (search rules);
      again = search rules;
      fails = search rules;
      kept = λ owed. c.close_sequence.ensures.ends.behaves.kept ∙ owed.stays c.open_sequence.new.self c.scope.result c.scope.new.arg2 gave ∙ c.in_ok-outside.ensures.behaves.kept;
    }

pub returns-in_ok-close_sequence-in-Ok : goal.returns-in_ok-close_sequence-in-Ok
returns-in_ok-close_sequence-in-Ok g c =
    let o = c.in_ok-outside.ensures.law in
    let gave : FnOnceReturnsAtMut g.F.FnOnce c.args.scope c.open_sequence.new.self c.scope.result c.scope.new.arg2 = record { shown = _; shows = refl; left = _; met = c.scope.ensures; leaves = refl } in
    record {
      law = λ owed.
          let w = rw c.in-Ok.is at (owed.keeps c.open_sequence.new.self c.scope.result c.scope.new.arg2 (sym o.0) gave) in
          record_ended g.met.Self.Decoder.lawful g.met.Self.Decoder.scopes g.C.Constructed.parts g.C.Constructed.IS_EXTENSIBLE g.C.Constructed.additions o.0 o.1 _ _ _ _ w
          (c.in_ok-close_sequence-in-Ok.ensures.ends.law (inside_left g.met.Self.Decoder.lawful g.met.Self.Decoder.scopes g.C.Constructed.parts g.C.Constructed.IS_EXTENSIBLE g.C.Constructed.additions o.0 o.1 _ _ _ w));
      swallowed = ends_left (rw c.in-Ok.is at gave) c.in_ok-close_sequence-in-Ok.ensures.ends.behaves.again;
      again = search rules;
      fails = search rules;
      kept = λ owed. c.close_sequence.ensures.ends.behaves.kept ∙ owed.stays c.open_sequence.new.self c.scope.result c.scope.new.arg2 gave ∙ c.in_ok-outside.ensures.behaves.kept;
    }

pub returns-in-Err : goal.returns-in-Err
returns-in-Err g c =
    let o = c.in_ok-outside.ensures.law in
    let gave : FnOnceReturnsAtMut g.F.FnOnce c.args.scope c.open_sequence.new.self c.scope.result c.scope.new.arg2 = record { shown = _; shows = refl; left = _; met = c.scope.ensures; leaves = refl } in
    record {
      law = λ owed. record_failed g.met.Self.Decoder.lawful g.met.Self.Decoder.scopes g.C.Constructed.parts g.C.Constructed.IS_EXTENSIBLE g.C.Constructed.additions o.0 o.1
          (rw c.in-Err.is at (owed.keeps c.open_sequence.new.self c.scope.result c.scope.new.arg2 (sym o.0) gave));
      swallowed = ends_refused (rw c.in-Err.is at gave) refl;
      again = search rules;
      fails = search rules;
      kept = λ owed. c.fail.ensures.kept ∙ owed.stays c.open_sequence.new.self c.scope.result c.scope.new.arg2 gave ∙ c.in_ok-outside.ensures.behaves.kept;
    }
