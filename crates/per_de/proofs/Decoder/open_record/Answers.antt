use Rattle.std.proofs.Common.{◌≡◌, ℕ, refl, suc, rules, ap, sym, ◌∙◌, length}
use Rattle.std.specs.Prelude.{count_by}
use Rattle.std.proofs.lemmas.Result.{err_from_is_err_and}
use Rattle.rasn_schema.specs.Fields.{may_be_absent}
use Rattle.rasn_schema.specs.Structures.{presence_bits, extended}
use Rattle.rasn_schema.specs.Records.{record_at}
use Rattle.rasn_schema.specs.Schemas.{listed, count as part_count}
use Rattle.rasn_traits.proofs.Optionals.{bits_counted}
use Rattle.per_de.proofs.Additions.{shapes_counted}
use Rattle.per_de.proofs.Calls.{too_deep}
use Rattle.per_de.proofs.Opening.{opens_record, no_bit, no_front}
use Rattle.per_de.proofs.Decoder.open_record.Goals as goal

pub returns-in_err-levels : goal.returns-in_err-levels
returns-in_err-levels g c =
    let p = err_from_is_err_and c.from_residual-in_err-levels.result c.from_residual-in_err-levels.ensures.1 in
    let o = c.in_err-levels.ensures in
    record { to_read = λ ps same. record { law = rw (p.1, p.2) (too_deep (record_at listed ps g.C.Constructed.IS_EXTENSIBLE g.C.Constructed.additions) _ _ _ refl o.0 o.1); behaves = search rules } }

pub returns-in_err-extends : goal.returns-in_err-extends
returns-in_err-extends g c =
    let p = err_from_is_err_and c.from_residual-in_err-extends.result c.from_residual-in_err-extends.ensures.1 in
    let o = c.in_ok-levels.ensures in
    record {
      to_read = λ ps same. record {
        law = rw (p.1, p.2) (no_bit ps g.C.Constructed.additions g.C.Constructed.IS_EXTENSIBLE c.IS_EXTENSIBLE.result c.args.self.now _ c.in_ok-levels.levels _ _ o.0 o.1 c.IS_EXTENSIBLE.ensures c.in_err-extends.ensures);
        behaves = search rules;
      };
    }

pub returns-in_err-presences : goal.returns-in_err-presences
returns-in_err-presences g c =
    let p = err_from_is_err_and c.from_residual-in_err-presences.result c.from_residual-in_err-presences.ensures.1 in
    let count : (n : ℕ) → c.number_of_optional_and_default_fields-count.result ≡ presence_bits (g.C.Constructed.parts n) =
    λ n. c.number_of_optional_and_default_fields-count.ensures ∙ ap (count_by may_be_absent) (c.FIELDS.ensures ∙ g.C.Constructed.described n) ∙ bits_counted 0 (g.C.Constructed.parts n) in
    let o = c.in_ok-levels.ensures in
    record {
      to_read = λ ps same. record {
        law = rw (p.1, p.2) (no_front c.IS_EXTENSIBLE.result c.number_of_optional_and_default_fields-count.result c.args.self.now _ _ c.in_ok-levels.levels c.in_ok-extends.extends o.0 o.1 c.in_ok-extends.ensures
            ps g.C.Constructed.additions g.C.Constructed.IS_EXTENSIBLE _ _ c.IS_EXTENSIBLE.ensures (count c.in_ok-levels.levels ∙ sym (same c.in_ok-levels.levels)) c.in_err-presences.ensures);
        behaves = search rules;
      };
    }

pub returns : goal.returns
returns g c =
    let count : (n : ℕ) → c.number_of_optional_and_default_fields-count.result ≡ presence_bits (g.C.Constructed.parts n) =
    λ n. c.number_of_optional_and_default_fields-count.ensures ∙ ap (count_by may_be_absent) (c.FIELDS.ensures ∙ g.C.Constructed.described n) ∙ bits_counted 0 (g.C.Constructed.parts n) in
    let behind : (n : ℕ) → c.addition_count.result ≡ part_count (g.C.Constructed.additions n) =
    λ n. c.addition_count.ensures ∙ ap length (g.C.Constructed.extends.described n) ∙ shapes_counted 0 (g.C.Constructed.additions n) in
    let o = c.in_ok-levels.ensures in
    let n = c.enter.new.self.levels in
    record {
      to_read = λ ps same. record {
        law = (
          o.0 ∙ sym (ap (λ z. suc z.levels) c.enter.ensures.same),
          opens_record c.IS_EXTENSIBLE.result c.number_of_optional_and_default_fields-count.result c.args.self.now _ _ c.in_ok-levels.levels c.in_ok-extends.extends o.0 o.1 c.in_ok-extends.ensures
              (extended (ps n) g.C.Constructed.IS_EXTENSIBLE (g.C.Constructed.additions n)) c.in_ok-presences.presences _ _ _ _
              c.in_ok-check_unfailed.ensures.ok c.IS_EXTENSIBLE.ensures (count n ∙ sym (same n)) c.in_ok-presences.ensures (search rules) c.enter.ensures,
        );
        behaves = search rules;
      };
    }
