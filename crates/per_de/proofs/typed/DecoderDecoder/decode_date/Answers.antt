use Rattle.std.proofs.Common.{ap, ◌∙◌, length, rules}
use Rattle.std.proofs.lemmas.Result.{err_from_is_err_and}
use Rattle.rasn_schema.specs.Schemas
use Rattle.per_decoding.specs.State.{reader_of}
use Rattle.per_de.proofs.Calls.{reads}
use Rattle.per_de.proofs.InTurn.{date_begun, date_unread, still}
use Rattle.per_de.proofs.MomentCalls.{date_too_deep, date_within}
use Rattle.per_de.proofs.typed.DecoderDecoder.decode_date.Goals as goal

pub returns-in_err-check_date_levels : goal.returns-in_err-check_date_levels
returns-in_err-check_date_levels g c =
    let p = err_from_is_err_and c.from_residual-in_err-check_date_levels.result c.from_residual-in_err-check_date_levels.ensures.1 in
    let o = c.in_err-check_date_levels.ensures in
    record { law = rw (p.1, p.2) (date_unread c.in_ok-begin_value.ensures.noted (date_too_deep c.begin_value.new.self _ o.0 o.1)); behaves = search rules }

pub returns : goal.returns
returns g c =
    let o = c.in_ok-check_date_levels.ensures in
    let m = c.begin_value.new.self in
    date_begun _ c.args.self.now c.begin_value.new.self _ _ c.in_ok-begin_value.ensures.noted (date_within _ m _ _ o.0 (reads m Schemas.date _ (still c.args.self.now c.in_ok-begin_value.ensures.noted c.in_ok-begin_value.ensures.ok) (λ v b. b) (c.reader-reader.ensures ∙ ap reader_of o.1) c.take_date-taken.ensures
    (c.len-left.ensures ∙ ap length c.bits.ensures) (rw o.1 at c.answer.ensures) (λ k h. h)))
