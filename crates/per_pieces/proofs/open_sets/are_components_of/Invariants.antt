use Rattle.std.proofs.Common.{◌≡◌, drop, map}
use Rattle.rasn_schema.specs.Fields.{shape_of}
use Rattle.per_pieces.specs.OpenSets.{are_of}
use Rattle.per_pieces.proofs.open_sets.are_components_of.Given as goal

-- the fields so far have their components
abbrev pub invariant-loop-index : goal.invariant-loop-index
invariant-loop-index g l =
    are_of (map shape_of l.fields) l.components ≡ are_of (drop l.index (map shape_of l.fields)) (drop l.index l.components)
