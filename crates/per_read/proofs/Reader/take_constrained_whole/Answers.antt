use Rattle.std.proofs.Common.{◌∙◌, ◌+◌, ℕ, refl, sym, ap}
use Rattle.rasn_types.specs.Variants.{variant_of}
use Rattle.rasn_types.specs.declared.types.Codec.{Codec}
use Rattle.per_core.specs.Basic.{constrained_by}
use Rattle.per_read.specs.ReaderState.{ReaderState, settings_of}
use Rattle.per_read.proofs.Calls.{takes_last, too_short}
use Rattle.per_read.proofs.Forms.{as_form, as_wide, no_form, no_field}
use Rattle.per_read.proofs.OfFields.{as_lacking, says_as}
use Rattle.per_core.specs.NumberFaults.{IsOfConstrainedBy}
use Rattle.per_read.proofs.Reader.take_constrained_whole.Goals as goal

pub returns-in-Aper : goal.returns-in-Aper
returns-in-Aper c =
    let a = settings_of c.args.self.now in
    let n = c.args.greatest + 1 in
    let e = λ (o : ℕ). ap (λ (k : Codec). constrained_by (variant_of k) a n o) (sym (ap (λ (x : ReaderState). x.options.codec) c.self.view_is) ∙ c.in-Aper.is) in
    let f = ap (λ (k : Codec). IsOfConstrainedBy (variant_of k) a n) (sym (ap (λ (x : ReaderState). x.options.codec) c.self.view_is) ∙ c.in-Aper.is) in
    takes_last c.take_constrained_whole_aligned.ensures refl (as_form e) (λ k h. (says_as f h.0, no_form e h.1))

pub returns-in-Uper : goal.returns-in-Uper
returns-in-Uper c =
    let a = settings_of c.args.self.now in
    let n = c.args.greatest + 1 in
    let e = λ (o : ℕ). ap (λ (k : Codec). constrained_by (variant_of k) a n o) (sym (ap (λ (x : ReaderState). x.options.codec) c.self.view_is) ∙ c.in-Uper.is) in
    let f = ap (λ (k : Codec). IsOfConstrainedBy (variant_of k) a n) (sym (ap (λ (x : ReaderState). x.options.codec) c.self.view_is) ∙ c.in-Uper.is) in
    takes_last c.take_bits.ensures refl (λ o b. as_form e o (as_wide c.width_to.ensures.width b)) (λ k h. (says_as f (as_lacking c.width_to.ensures.width h.0), no_form e (no_field c.width_to.ensures.width (too_short h.1))))
