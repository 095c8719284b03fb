use Rattle.rasn_sets.specs.Components.{GivesItem}
use Rattle.rasn_sets.specs.Turns.{after_room}
use Rattle.rasn_sets.proofs.Loops.{after_is}
use Rattle.rasn_sets.proofs.steps.read_addition.Goals as goal

pub returns-in_default : goal.returns-in_default
returns-in_default g c = record { law = after_room c.out_of_memory.ensures.memory; kept = λ k. c.out_of_memory.ensures.kept }

pub returns : goal.returns
returns g c = record {
  law = after_is g.D.Decoder.rules (GivesItem g.F.Fn c.args.decode.now) _ _ c.args.field.now _ _ _ _ _ c.in-Some.ensures.1 c.read_item.ensures.law;
  kept = c.read_item.ensures.kept;
}
