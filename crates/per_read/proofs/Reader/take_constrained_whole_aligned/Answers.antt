use Rattle.std.proofs.Common.{ℕ, ◌+◌, refl, arith}
use Rattle.per_read.specs.ReaderState.{settings_of}
use Rattle.per_read.proofs.Calls.{takes_last, too_short}
use Rattle.per_read.proofs.Forms.{in_bits, in_one_octet, in_two_octets, in_octets, no_form, no_field, as_form, as_wide}
use Rattle.per_read.proofs.OfFields.{as_lacking, of_counted, of_few, of_one_octet, of_two_octets, says_as}
use Rattle.per_read.proofs.Reader.take_constrained_whole_aligned.Goals as goal

pub returns-in-Bits : goal.returns-in-Bits
returns-in-Bits c =
    let f = c.of.ensures.bits c.in-Bits.is in
    let e = λ (o : ℕ). in_bits (settings_of c.args.self.now) (c.args.greatest + 1) o (omega (arith, f)) in
    takes_last c.take_bits.ensures refl (λ o b. as_form e o (as_wide c.width_to.ensures.width b)) (λ k h. (says_as (of_few (settings_of c.args.self.now) (c.args.greatest + 1) (omega (arith, f))) (as_lacking c.width_to.ensures.width h.0), no_form e (no_field c.width_to.ensures.width (too_short h.1))))

pub returns-in-Octet : goal.returns-in-Octet
returns-in-Octet c =
    let f = c.of.ensures.octet c.in-Octet.is in
    let e = λ (o : ℕ). in_one_octet (settings_of c.args.self.now) (c.args.greatest + 1) o (omega (arith, f)) in
    takes_last c.take_on_octet.ensures refl (as_form e) (λ k h. (says_as (of_one_octet (settings_of c.args.self.now) (c.args.greatest + 1) (omega (arith, f))) h.0, no_form e h.1))

pub returns-in-TwoOctets : goal.returns-in-TwoOctets
returns-in-TwoOctets c =
    let f = c.of.ensures.two c.in-TwoOctets.is in
    let e = λ (o : ℕ). in_two_octets (settings_of c.args.self.now) (c.args.greatest + 1) o (omega (arith, f.0)) (omega (arith, f.1)) in
    takes_last c.take_on_octet-in-TwoOctets.ensures refl (as_form e) (λ k h. (says_as (of_two_octets (settings_of c.args.self.now) (c.args.greatest + 1) (omega (arith, f.0)) (omega (arith, f.1))) h.0, no_form e h.1))

pub returns-in-Counted : goal.returns-in-Counted
returns-in-Counted c =
    let f = c.of.ensures.counted c.in-Counted.is in
    let e = λ (o : ℕ). in_octets (settings_of c.args.self.now) (c.args.greatest + 1) o (omega (arith, f)) in
    takes_last c.take_in_octets.ensures refl (as_form e) (λ k h. (says_as (of_counted (settings_of c.args.self.now) (c.args.greatest + 1) (omega (arith, f))) h.0, no_form e h.1))
