use Rattle.rasn_strings.proofs.GeneralizedTexts.{is_time-generalized_text}
use Rattle.rasn_strings.proofs.time_laws.generalized_moments_have_texts.Goals as goal

pub returns : goal.returns
returns c = is_time-generalized_text
