use Rattle.std.proofs.Common.{◌∙◌, sym}
use Rattle.rasn_strings.proofs.GeneralizedTexts.{is_time-generalized_text}
use Rattle.rasn_useful.proofs.generalized_time.GeneralizedTimeGeneralizedMoment.to_canonical_generalized_time_bytes.Goals as goal

pub returns-clause-refused : goal.returns-clause-refused
returns-clause-refused g c =
    let lawful = is_time-generalized_text c.self.inside.moment in
    let h = c.datetime_to_canonical_generalized_time_bytes.ensures.refused in
    rw (← c.self.view_is) (λ e. lawful ∙ h.0 e, λ e. h.1 (sym lawful ∙ e))
