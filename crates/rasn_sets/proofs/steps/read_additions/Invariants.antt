use Rattle.std.proofs.Common.{◌≡◌, List, drop}
use Rattle.rasn_sets.specs.Components.{GivesItem, KeepsEach}
use Rattle.rasn_sets.specs.Turns.{FailsAfter, ReadsAfter}
use Rattle.rasn_sets.proofs.steps.read_additions.Given as goal

-- what is read of the additions left is read of all additions, after what was read before
abbrev pub invariant-loop-field : goal.invariant-loop-field
invariant-loop-field g l =
    let r = g.D.Decoder.rules in
    let gives = GivesItem g.F.Fn l.decode in
    record {
      onward : (t : _) (ys : List _) → ReadsAfter gives l.first (drop l.field-index l.fields) l.decoder l.items.items t ys
          → ReadsAfter gives l.first l.fields l.fn.decoder l.fn.items.items t ys;
      failing : (e : _) → FailsAfter r gives e l.first (drop l.field-index l.fields) l.decoder → FailsAfter r gives e l.first l.fields l.fn.decoder;
      kept : KeepsEach r gives → r.codec l.decoder ≡ r.codec l.fn.decoder;
    }
