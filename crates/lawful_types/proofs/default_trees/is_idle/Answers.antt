use Rattle.lawful_types.proofs.RightTrees.{absent_idle, idle_default, idle_group, idle_optional, idle_required}
use Rattle.lawful_types.proofs.default_trees.is_idle.Goals as goal
use Rattle.rasn_dynamic.specs.Types.{tree_slot}

pub returns-in-Required : goal.returns-in-Required
returns-in-Required c = idle_required c.args.component.now.presence (tree_slot c.args.told.now) c.in-Required.is

pub returns-in-Optional : goal.returns-in-Optional
returns-in-Optional c = idle_optional c.args.component.now.presence (tree_slot c.args.told.now) c.is_there-there.result c.in-Optional.is c.is_there-there.ensures

pub returns-in-Group : goal.returns-in-Group
returns-in-Group c = idle_group c.args.component.now.presence (tree_slot c.args.told.now) c.is_there-there.result c.in-Group.is c.is_there-there.ensures

pub returns-then-not-there : goal.returns-then-not-there
returns-then-not-there c = absent_idle c.args.component.now.presence c.in-Default.otherwise (tree_slot c.args.told.now) c.is_there-there.result c.in-Default.is c.is_there-there.ensures c.if-not-there.true

pub returns-else-not-there : goal.returns-else-not-there
returns-else-not-there c = idle_default c.args.component.now.presence c.in-Default.otherwise (tree_slot c.args.told.now) c.is_there-there.result c.are_same.result c.in-Default.is c.is_there-there.ensures c.if-not-there.false c.are_same.ensures
