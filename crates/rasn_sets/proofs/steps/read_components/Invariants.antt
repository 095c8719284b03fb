use Rattle.std.proofs.Common.{◌≡◌, List, drop}
use Rattle.rasn_sets.specs.Components.{GivesItem, KeepsEach}
use Rattle.rasn_sets.specs.Turns.{FailsRoot, ReadsRoot}
use Rattle.rasn_sets.proofs.steps.read_components.Given as goal

-- what is read of the fields left is read of all fields, after what was read before
abbrev pub invariant-loop-field : goal.invariant-loop-field
invariant-loop-field g l =
    let r = g.D.Decoder.rules in
    let gives = GivesItem g.F.Fn l.decode in
    record {
      onward : (t : _) (ys : List _) → ReadsRoot r gives (drop l.field-index l.fields) l.decoder l.items.items t ys
          → ReadsRoot r gives l.fields l.fn.decoder l.fn.items.items t ys;
      failing : (e : _) → FailsRoot r gives e (drop l.field-index l.fields) l.decoder → FailsRoot r gives e l.fields l.fn.decoder;
      kept : KeepsEach r gives → r.codec l.decoder ≡ r.codec l.fn.decoder;
    }
