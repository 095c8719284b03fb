use Rattle.std.proofs.Common.{refl, rules, ◌∙◌}
use Rattle.std.proofs.lemmas.Result.{err_from_is_err_and}
use Rattle.rasn_schema.specs.Orders.{canonised_at}
use Rattle.rasn_traits.proofs.Reading.{inside_left, record_ended, record_failed, record_endless}
use Rattle.rasn_traits.proofs.SetsRead.{set_ended, set_refused}
use Rattle.rasn_sets.proofs.Ends.{unfailed}
use Rattle.rasn_sets.proofs.SetsMade.{same_variant}
use Rattle.rasn_sets.proofs.set_decoder.SetDecoder.decode_set.Goals as goal

pub returns-in_err-outside : goal.returns-in_err-outside
returns-in_err-outside g c =
    let p = err_from_is_err_and c.from_residual.result c.from_residual.ensures.1 in
    record {
      law = λ place slot each made. rw (p.1, p.2) (set_refused g.met.Self.Decoder.sets g.C.Constructed.parts g.C.Constructed.IS_EXTENSIBLE g.C.Constructed.additions _ c.in_err-outside.ensures.law);
      swallowed = rw p.1 tt;
      again = search rules;
      fails = search rules;
      kept = search rules;
    }

pub returns-in_err-close_sequence-in-Ok : goal.returns-in_err-close_sequence-in-Ok
returns-in_err-close_sequence-in-Ok g c =
    let o = c.in_ok-outside.ensures.law in
    let C = g.C.Constructed in
    let n = g.Self.Decoder.rules.levels c.open_set.new.self in
    let p = err_from_is_err_and c.from_residual-in_err-close_sequence-in-Ok.result c.from_residual-in_err-close_sequence-in-Ok.ensures.1 in
    record {
      law = λ place slot each made.
          let w = c.in-Ok.ensures.law (C.parts n) (C.additions n) place slot (C.described n) (C.extends.described n) (each n o.0) (same_variant c.in_ok-outside.ensures.behaves.kept (made n o.0)) in
          rw (p.1, p.2) (set_refused g.met.Self.Decoder.sets C.parts C.IS_EXTENSIBLE C.additions _ (record_endless g.met.Self.Decoder.lawful g.met.Self.Decoder.scopes (canonised_at C.parts) C.IS_EXTENSIBLE C.additions o.0 o.1 _ _ _ w
          (c.in_err-close_sequence-in-Ok.ensures.ends.law (inside_left g.met.Self.Decoder.lawful g.met.Self.Decoder.scopes (canonised_at C.parts) C.IS_EXTENSIBLE C.additions o.0 o.1 _ _ _ w))));
      swallowed = rw p.1 tt;
      again = search rules;
      fails = search rules;
      kept = λ k. c.close_sequence.ensures.ends.behaves.kept ∙ c.read_set.ensures.kept k ∙ c.in_ok-outside.ensures.behaves.kept;
    }

pub returns-in-Ok : goal.returns-in-Ok
returns-in-Ok g c =
    let o = c.in_ok-outside.ensures.law in
    let C = g.C.Constructed in
    let n = g.Self.Decoder.rules.levels c.open_set.new.self in
    record {
      law = λ place slot each made.
          let w = c.in-Ok.ensures.law (C.parts n) (C.additions n) place slot (C.described n) (C.extends.described n) (each n o.0) (same_variant c.in_ok-outside.ensures.behaves.kept (made n o.0)) in
          set_ended g.met.Self.Decoder.sets C.parts C.IS_EXTENSIBLE C.additions _ _ _ _ _ o.0 refl
          (record_ended g.met.Self.Decoder.lawful g.met.Self.Decoder.scopes (canonised_at C.parts) C.IS_EXTENSIBLE C.additions o.0 o.1 _ _ _ _ w
          (c.in_ok-close_sequence-in-Ok.ensures.ends.law (inside_left g.met.Self.Decoder.lawful g.met.Self.Decoder.scopes (canonised_at C.parts) C.IS_EXTENSIBLE C.additions o.0 o.1 _ _ _ w)));
      swallowed = c.in-Ok.ensures.ended (unfailed _ c.in_ok-close_sequence-in-Ok.ensures.ends.behaves.again);
      again = search rules;
      fails = search rules;
      kept = λ k. c.close_sequence.ensures.ends.behaves.kept ∙ c.read_set.ensures.kept k ∙ c.in_ok-outside.ensures.behaves.kept;
    }

pub returns : goal.returns
returns g c =
    let o = c.in_ok-outside.ensures.law in
    let C = g.C.Constructed in
    let n = g.Self.Decoder.rules.levels c.open_set.new.self in
    record {
      law = λ place slot each made. set_refused g.met.Self.Decoder.sets C.parts C.IS_EXTENSIBLE C.additions _ (record_failed g.met.Self.Decoder.lawful g.met.Self.Decoder.scopes (canonised_at C.parts) C.IS_EXTENSIBLE C.additions o.0 o.1
          (c.in-Err.ensures.law (C.parts n) (C.additions n) place slot (C.described n) (C.extends.described n) (each n o.0) (same_variant c.in_ok-outside.ensures.behaves.kept (made n o.0))));
      swallowed = tt;
      again = search rules;
      fails = search rules;
      kept = λ k. c.fail.ensures.kept ∙ c.read_set.ensures.kept k ∙ c.in_ok-outside.ensures.behaves.kept;
    }
