use Rattle.rasn_strings.proofs.UtcTexts.{is_time-utc_text}
use Rattle.rasn_strings.proofs.time_laws.utc_moments_have_texts.Goals as goal

pub returns : goal.returns
returns c = is_time-utc_text
