use Rattle.std.proofs.Common.{◌≡◌, map, take}
use Rattle.rasn_jer.specs.Names.{names_of}
use Rattle.rasn_jer.proofs.frame.Names.of_fields.Given as goal

abbrev pub invariant-loop-field : goal.invariant-loop-field
invariant-loop-field g l = map (λ s. s.now) l.list.items ≡ names_of (take l.field-index l.fields)
