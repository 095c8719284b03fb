use Rattle.rasn_strings.proofs.UtcTexts.{utc_same}
use Rattle.rasn_strings.proofs.time_laws.utc_texts_are_of_one_moment.Goals as goal

pub returns : goal.returns
returns c = utc_same
