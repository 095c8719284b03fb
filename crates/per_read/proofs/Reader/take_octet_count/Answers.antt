use Rattle.std.proofs.Common.{◌≡◌, ◌∙◌, ◌+◌, ◌/◌, ℕ, ap, refl, arith}
use Rattle.std.proofs.lemmas.Result.{IfOk-weaker}
use Rattle.rasn_types.specs.Bits.{width}
use Rattle.per_core.specs.NumberFaults.{count_width}
use Rattle.per_read.proofs.Calls.{takes_last, no_field_in, too_short}
use Rattle.per_read.proofs.Forms.{few_octets, as_wide}
use Rattle.per_read.proofs.OfFields.{as_lacking}
use Rattle.per_read.proofs.Reader.take_octet_count.Goals as goal
use Rattle.per_read.proofs.Reader.take_octet_count.Goals.{After-take_bits}

-- how wide the count's field is
wide : (c : After-take_bits) → c.from.result ≡ count_width (c.args.greatest + 1)
wide c = c.from.ensures ∙ c.width_of-most.ensures.width ∙ ap (λ (w : ℕ). width ((w + 7) / 8)) c.width_to.ensures.width

pub returns-clause-taken : goal.returns-clause-taken
returns-clause-taken c =
    takes_last c.take_bits.ensures refl (λ n a. as_wide (wide c) a) (λ k h. (as_lacking (wide c) h.0, no_field_in (let e = wide c in let l = too_short h.1 in omega arith)))

pub returns-clause-few : goal.returns-clause-few
returns-clause-few c =
    IfOk-weaker c.take_bits.result _ _ (λ n a. few_octets ((c.width_to.result + 7) / 8) n (omega arith) (as_wide (c.from.ensures ∙ c.width_of-most.ensures.width) a)) c.take_bits.ensures.ok
