use Rattle.std.proofs.Common.{◌≡◌, refl, subst, true, false, Result, Ok, Err}
use Rattle.std.specs.Result.{is_err}
use Rattle.per_core.specs.Ends.{Ends, IsWhy}
use Rattle.rasn_types.proofs.Reading.{are_octets}
use Rattle.rasn_per.proofs.Answered.{read, unread, surplus}
use Rattle.rasn_per.proofs.ItemCounts.{few}
use Rattle.rasn_per.proofs.Decoded.{begun, full_octets}
use Rattle.rasn_per.proofs.complete.decode_in.Goals as goal

-- what a call answered, by whether that is an error
refused : {T E : Type 0} (r : Result T E) → true ≡ is_err r → (e : E) × (r ≡ Err e)
refused (Err e) h = (e, refl)
refused (Ok x) h = absurd (let f : true ≡ false = h in cc)

answered : {T E : Type 0} (r : Result T E) → false ≡ is_err r → (x : T) × (r ≡ Ok x)
answered (Ok x) h = (x, refl)
answered (Err e) h = absurd (let f : false ≡ true = h in cc)

pub returns-then-is_err-clause-decoded : goal.returns-then-is_err-clause-decoded
returns-then-is_err-clause-decoded g c =
    let p = refused c.decode_as-decoded.result c.if-is_err.ensures.value in
    let h = rw p.1 at c.decode_as-decoded.ensures in
    unread c.args.options.codec c.args.options.zero_padding (g.S.DecodeAs.schema c.args.schema.now) g.S.DecodeAs.value_of c.args.octets.now _
    (begun c.args.options _ _ _ c.from_octets-decoder.ensures c.requires refl) _ p.0 p.1 h.law

pub ended_in-requires-clause-octets : goal.ended_in-requires-clause-octets
ended_in-requires-clause-octets g c = full_octets _ _ _ c.from_octets.ensures.bits c.len-total.ensures

pub returns-clause-decoded : goal.returns-clause-decoded
returns-clause-decoded g c =
    let q = answered c.decode_as-decoded.result c.if-is_err.ensures.value in
    let h = rw q.1 at c.decode_as-decoded.ensures in
    rw q.1 (read c.args.options.codec c.args.options.zero_padding (g.S.DecodeAs.schema c.args.schema.now) g.S.DecodeAs.value_of c.args.octets.now _
    (begun c.args.options _ _ _ c.from_octets-decoder.ensures c.requires refl) _ _ _ (are_octets _ c.type_inv.octets) h.law
    (record { left = _; total = c.len-total.result; ends = subst (λ z. Ends z c.decode_as-decoded.new.decoder.bits c.len-total.result) c.needs_zero_padding.ensures c.in-Ok.ensures.ok; left_is = refl; total_is = c.len-total.ensures; all = c.from_octets.ensures.bits }))

pub returns-in-Err-clause-decoded : goal.returns-in-Err-clause-decoded
returns-in-Err-clause-decoded g c =
    let q = answered c.decode_as-decoded.result c.if-is_err.ensures.value in
    let h = rw q.1 at c.decode_as-decoded.ensures in
    surplus c.args.options.codec c.args.options.zero_padding (g.S.DecodeAs.schema c.args.schema.now) g.S.DecodeAs.value_of c.args.octets.now _
    (begun c.args.options _ _ _ c.from_octets-decoder.ensures c.requires refl) c.in-Err.surplus _ _ _ _ _ c.refusal.ensures c.codec.ensures h.law
    (record { left = _; total = c.len-total.result; ends = subst (λ z. Ends z c.decode_as-decoded.new.decoder.bits c.len-total.result → ⊥) c.needs_zero_padding.ensures c.in-Err.ensures.none; left_is = refl; total_is = c.len-total.ensures; all = c.from_octets.ensures.bits })
    (record { left = _; total = c.len-total.result; ends = subst (λ z. IsWhy z c.decode_as-decoded.new.decoder.bits c.len-total.result c.in-Err.surplus) c.needs_zero_padding.ensures c.in-Err.ensures.why; left_is = refl; total_is = c.len-total.ensures; all = c.from_octets.ensures.bits })

pub returns-then-is_err-clause-few : goal.returns-then-is_err-clause-few
returns-then-is_err-clause-few g c = few c.args.options.codec (g.S.DecodeAs.schema c.args.schema.now) g.S.DecodeAs.value_of c.args.octets.now c.args.options.zero_padding _ (returns-then-is_err-clause-decoded g c)

pub returns-clause-few : goal.returns-clause-few
returns-clause-few g c = few c.args.options.codec (g.S.DecodeAs.schema c.args.schema.now) g.S.DecodeAs.value_of c.args.octets.now c.args.options.zero_padding _ (returns-clause-decoded g c)

pub returns-in-Err-clause-few : goal.returns-in-Err-clause-few
returns-in-Err-clause-few g c = few c.args.options.codec (g.S.DecodeAs.schema c.args.schema.now) g.S.DecodeAs.value_of c.args.octets.now c.args.options.zero_padding _ (returns-in-Err-clause-decoded g c)
