use Rattle.std.proofs.Common.{◌∙◌, ap, false, map, sym, true}
use Rattle.rasn_schema.specs.Fields.{shape_of}
use Rattle.per_pieces.specs.OpenSets.{OpenSet}
use Rattle.per_pieces.proofs.Closing.{all_begun, is_awaited, is_closed, is_incomplete, is_misplaced, tested}
use Rattle.per_pieces.proofs.open_sets.OpenSet.close.Goals as goal
use Rattle.per_pieces.proofs.open_sets.OpenSet.close.Goals.{then-misplaced-via-then-misplaced, then-misplaced-via-else-misplaced+then-awaits, then-misplaced-via-else-misplaced+else-awaits+then-not-are_components_of}

pub returns-then-misplaced-clause-components : goal.returns-then-misplaced-clause-components
returns-then-misplaced-clause-components g c =
    let all = all_begun c.args.self c.self.inside.done.items c.keep.new.done.items c.self.inside.begun c.replace-value.result c.args.pieces.now (ap (λ (x : OpenSet). x.done) c.self.view_is)
    (ap (λ (x : OpenSet). x.begun) c.self.view_is) c.keep.ensures.components c.replace-value.ensures.value in
    elim c.then-misplaced.branch [
      | then-misplaced-via-then-misplaced w ↦ is_misplaced c.args.fields.now (record { set = c.args.self; pieces = c.args.pieces.now }) (sym (ap (λ (x : OpenSet). x.misplaced) c.self.view_is) ∙ w.if-misplaced.true)
      | then-misplaced-via-else-misplaced+then-awaits w ↦ is_awaited c.args.fields.now (record { set = c.args.self; pieces = c.args.pieces.now }) (sym (ap (λ (x : OpenSet). x.awaits) c.self.view_is) ∙ w.if-awaits.true)
      | then-misplaced-via-else-misplaced+else-awaits+then-not-are_components_of w ↦
          is_incomplete c.args.fields.now (record { set = c.args.self; pieces = c.args.pieces.now }) c.keep.new.done.items all
          (tested c.args.fields.now (map shape_of c.fields.inside.list.now) w.as_slice.result.now c.keep.new.done.items w.are_components_of.result false c.fields.view_is w.as_slice.ensures.value
          w.are_components_of.ensures w.if-not-are_components_of.true)
    ]

pub returns-clause-components : goal.returns-clause-components
returns-clause-components g c =
    let all = all_begun c.args.self c.self.inside.done.items c.keep.new.done.items c.self.inside.begun c.replace-value.result c.args.pieces.now (ap (λ (x : OpenSet). x.done) c.self.view_is)
    (ap (λ (x : OpenSet). x.begun) c.self.view_is) c.keep.ensures.components c.replace-value.ensures.value in
    is_closed c.args.fields.now (record { set = c.args.self; pieces = c.args.pieces.now }) c.keep.new.done.items
    (sym (ap (λ (x : OpenSet). x.misplaced) c.self.view_is) ∙ c.if-misplaced.false)
    (sym (ap (λ (x : OpenSet). x.awaits) c.self.view_is) ∙ c.if-awaits.false) all
    (tested c.args.fields.now (map shape_of c.fields.inside.list.now) c.as_slice.result.now c.keep.new.done.items c.are_components_of.result true c.fields.view_is c.as_slice.ensures.value
    c.are_components_of.ensures c.if-not-are_components_of.false)
