use Rattle.rasn_strings.proofs.GeneralizedTexts.{generalized_same}
use Rattle.rasn_strings.proofs.time_laws.generalized_texts_are_of_one_moment.Goals as goal

pub returns : goal.returns
returns c = generalized_same
