use Rattle.rasn_types.proofs.ContentsRead.{one_contents}
use Rattle.rasn_types.proofs.laws.contents_are_of_one_object.Goals as goal

pub returns : goal.returns
returns c = one_contents
