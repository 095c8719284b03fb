use Rattle.std.proofs.Common.{inl, rules}
use Rattle.rasn_sets.specs.Components.{GivesItem}
use Rattle.rasn_sets.proofs.Loops.{root_taken}
use Rattle.rasn_sets.proofs.items.read_root.Goals as goal

pub returns-in_default : goal.returns-in_default
returns-in_default g c = record { law = inl c.out_of_memory.ensures.memory; kept = λ k. c.out_of_memory.ensures.kept }

pub returns : goal.returns
returns g c = record {
  law = root_taken g.D.Decoder.rules (GivesItem g.F.Fn c.args.decode.now) _ _ _ _ _ _ (search rules) c.read_components.ensures.law;
  kept = c.read_components.ensures.kept;
}
