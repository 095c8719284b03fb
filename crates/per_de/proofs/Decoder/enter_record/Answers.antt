use Rattle.std.proofs.Common.{◌≡◌, ℕ, refl, suc, rules, ap, sym, ◌∙◌}
use Rattle.std.proofs.lemmas.Result.{err_from_is_err_and}
use Rattle.rasn_schema.specs.Records.{record_at}
use Rattle.rasn_schema.specs.Schemas.{listed}
use Rattle.rasn_schema.specs.Structures.{extended}
use Rattle.per_de.proofs.AtPlaces.{how_many, marked}
use Rattle.per_de.proofs.Calls.{too_deep}
use Rattle.per_de.proofs.Opening.{opens_record, no_bit, no_front}
use Rattle.per_de.proofs.Decoder.enter_record.Goals as goal

pub returns-in_err-levels : goal.returns-in_err-levels
returns-in_err-levels c =
    let p = err_from_is_err_and c.from_residual-in_err-levels.result c.from_residual-in_err-levels.ensures.1 in
    let o = c.in_err-levels.ensures in
    record {
      opened = λ ps marker adds k. record { law = rw (p.1, p.2) (too_deep (record_at listed ps marker adds) _ _ _ refl o.0 o.1); behaves = search rules };
      deeper = rw p.1 tt;
      live = rw p.1 tt;
      behaves = search rules;
    }

pub returns-in_err-extends : goal.returns-in_err-extends
returns-in_err-extends c =
    let p = err_from_is_err_and c.from_residual-in_err-extends.result c.from_residual-in_err-extends.ensures.1 in
    let o = c.in_ok-levels.ensures in
    record {
      opened = λ ps marker adds k. record {
        law = rw (p.1, p.2) (no_bit ps adds marker c.is_some.result c.args.self.now _ c.in_ok-levels.levels _ _ o.0 o.1 (c.is_some.ensures ∙ marked c.args.additions ∙ sym k.marked) c.in_err-extends.ensures);
        behaves = search rules;
      };
      deeper = rw p.1 tt;
      live = rw p.1 tt;
      behaves = search rules;
    }

pub returns-in_err-presences : goal.returns-in_err-presences
returns-in_err-presences c =
    let p = err_from_is_err_and c.from_residual-in_err-presences.result c.from_residual-in_err-presences.ensures.1 in
    let o = c.in_ok-levels.ensures in
    record {
      opened = λ ps marker adds k. record {
        law = rw (p.1, p.2) (no_front c.is_some.result c.args.presence_bits c.args.self.now _ _ c.in_ok-levels.levels c.in_ok-extends.extends o.0 o.1 c.in_ok-extends.ensures
            ps adds marker _ _ (c.is_some.ensures ∙ marked c.args.additions ∙ sym k.marked) (k.bits_are c.in_ok-levels.levels) c.in_err-presences.ensures);
        behaves = search rules;
      };
      deeper = rw p.1 tt;
      live = rw p.1 tt;
      behaves = search rules;
    }

pub returns : goal.returns
returns c =
    let o = c.in_ok-levels.ensures in
    let n = c.enter.new.self.levels in
    let l = o.0 ∙ sym (ap (λ z. suc z.levels) c.enter.ensures.same) in
    record {
      opened = λ ps marker adds k. record {
        law = (
          l,
          opens_record c.is_some.result c.args.presence_bits c.args.self.now _ _ c.in_ok-levels.levels c.in_ok-extends.extends o.0 o.1 c.in_ok-extends.ensures
              (extended (ps n) marker (adds n)) c.in_ok-presences.presences _ _ _ _
              c.in_ok-check_unfailed.ensures.ok (c.is_some.ensures ∙ marked c.args.additions ∙ sym k.marked) (k.bits_are n) c.in_ok-presences.ensures
              (let e = c.unwrap_or.ensures ∙ how_many c.args.additions ∙ k.added_are n in search rules) c.enter.ensures,
        );
        behaves = search rules;
      };
      deeper = l;
      live = ap (λ z. z.failed) c.enter.ensures.same ∙ ap (λ z. z.failed) c.in_ok-presences.ensures.1 ∙ ap (λ z. z.failed) c.in_ok-extends.ensures.1 ∙ ap (λ z. z.failed) o.1 ∙ c.in_ok-check_unfailed.ensures.ok;
      behaves = search rules;
    }
