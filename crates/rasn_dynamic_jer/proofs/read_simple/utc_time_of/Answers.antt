use Rattle.std.proofs.Common.{inr}
use Rattle.rasn_types.specs.Contents.{utc}
use Rattle.rasn_dynamic_jer.specs.FromJson.{characters_told, time_told}
use Rattle.rasn_dynamic_jer.proofs.TimesTold.{told_time, untold_text, untold_time}
use Rattle.rasn_dynamic_jer.proofs.Untold.{untold_by}
use Rattle.rasn_dynamic_jer.proofs.read_simple.utc_time_of.Goals as goal

pub returns-in-Some : goal.returns-in-Some
returns-in-Some c = told_time utc c.args.text.now _ c.in_ok-value.ensures c.in-Some.ensures.accepted

pub returns-in-None : goal.returns-in-None
returns-in-None c = inr (untold_time utc c.args.text.now _ c.in_ok-value.ensures c.in-None.ensures.accepted)
