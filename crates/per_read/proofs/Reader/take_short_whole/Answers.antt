use Rattle.std.proofs.Common.{◌∙◌, ◌+◌, ℕ, sym, ap, arith}
use Rattle.rasn_types.specs.Variants.{variant_of}
use Rattle.rasn_types.specs.declared.types.Codec.{Codec}
use Rattle.per_core.specs.Basic.{constrained_by}
use Rattle.per_read.specs.ReaderState.{ReaderState, settings_of}
use Rattle.per_read.proofs.Calls.{if_none, too_short}
use Rattle.per_read.proofs.Fields.{when_took}
use Rattle.per_read.proofs.Forms.{no_form, no_field, in_bits, in_one_octet, in_two_octets}
use Rattle.per_read.proofs.Reader.take_short_whole.Goals as goal

pub returns-in-Uper-default-clause-none : goal.returns-in-Uper-default-clause-none
returns-in-Uper-default-clause-none c none o t b =
    let a = settings_of c.args.self.now in
    let e = λ (o : ℕ). ap (λ (k : Codec). constrained_by (variant_of k) a (c.args.greatest + 1) o) (sym (ap (λ (x : ReaderState). x.options.codec) c.self.view_is) ∙ c.in-Uper-default.is-0) in
    if_none _ c.take_bits.result c.ok.ensures.value none c.take_bits.ensures.err (λ k h. no_form e (no_field c.width_to.ensures.width (too_short h.1)) o t (when_took b).1)

pub returns-in-Aper-Bits-clause-none : goal.returns-in-Aper-Bits-clause-none
returns-in-Aper-Bits-clause-none c none o t b =
    let a = settings_of c.args.self.now in
    let n = c.args.greatest + 1 in
    let e = λ (o : ℕ). ap (λ (k : Codec). constrained_by (variant_of k) a n o) (sym (ap (λ (x : ReaderState). x.options.codec) c.self.view_is) ∙ c.in-Aper-Bits.is-0) ∙ in_bits a n o (omega (arith, c.of.ensures.bits c.in-Aper-Bits.is-1)) in
    if_none _ c.take_bits-in-Aper-Bits.result c.ok-in-Aper-Bits.ensures.value none c.take_bits-in-Aper-Bits.ensures.err
    (λ k h. no_form e (no_field c.width_to-in-Aper-Bits.ensures.width (too_short h.1)) o t (when_took b).1)

pub returns-in-Aper-Octet-clause-none : goal.returns-in-Aper-Octet-clause-none
returns-in-Aper-Octet-clause-none c none o t b =
    let a = settings_of c.args.self.now in
    let n = c.args.greatest + 1 in
    let e = λ (o : ℕ). ap (λ (k : Codec). constrained_by (variant_of k) a n o) (sym (ap (λ (x : ReaderState). x.options.codec) c.self.view_is) ∙ c.in-Aper-Octet.is-0) ∙ in_one_octet a n o (omega (arith, c.of.ensures.octet c.in-Aper-Octet.is-1)) in
    if_none _ c.take_on_octet.result c.ok-in-Aper-Octet.ensures.value none c.take_on_octet.ensures.err (λ k h. no_form e h.1 o t (when_took b).1)

pub returns-in-Aper-TwoOctets-clause-none : goal.returns-in-Aper-TwoOctets-clause-none
returns-in-Aper-TwoOctets-clause-none c none o t b =
    let f = c.of.ensures.two c.in-Aper-TwoOctets.is-1 in
    let a = settings_of c.args.self.now in
    let n = c.args.greatest + 1 in
    let e = λ (o : ℕ). ap (λ (k : Codec). constrained_by (variant_of k) a n o) (sym (ap (λ (x : ReaderState). x.options.codec) c.self.view_is) ∙ c.in-Aper-TwoOctets.is-0) ∙ in_two_octets a n o (omega (arith, f.0)) (omega (arith, f.1)) in
    if_none _ c.take_on_octet-in-Aper-TwoOctets.result c.ok-in-Aper-TwoOctets.ensures.value none c.take_on_octet-in-Aper-TwoOctets.ensures.err (λ k h. no_form e h.1 o t (when_took b).1)
