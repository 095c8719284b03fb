use Rattle.rasn_types.proofs.ContentsRead.{is_identifier-contents}
use Rattle.rasn_types.proofs.laws.arcs_have_contents.Goals as goal

pub returns : goal.returns
returns c = is_identifier-contents
