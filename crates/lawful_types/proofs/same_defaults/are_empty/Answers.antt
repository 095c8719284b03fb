use Rattle.std.proofs.Common.{map}
use Rattle.rasn_dynamic.specs.Types.{tree_value}
use Rattle.lawful_types.proofs.SameTrees.{is_list_plain, is_plain_list, no_list_plain, no_plain_list}
use Rattle.lawful_types.proofs.same_defaults.are_empty.Goals as goal

pub returns-then-not-is_empty-clause-told : goal.returns-then-not-is_empty-clause-told
returns-then-not-is_empty-clause-told c = no_list_plain c.args.told.now (map tree_value c.args.owns.now) c.is_empty.result c.is_empty.ensures c.if-not-is_empty.true

pub returns-then-not-is_empty-clause-own : goal.returns-then-not-is_empty-clause-own
returns-then-not-is_empty-clause-own c = no_plain_list c.args.told.now (map tree_value c.args.owns.now) c.is_empty.result c.is_empty.ensures c.if-not-is_empty.true

pub returns-clause-told : goal.returns-clause-told
returns-clause-told c = is_list_plain c.args.told.now c.args.owns.now c.is_empty.result c.is_empty-2.result c.is_empty.ensures c.if-not-is_empty.false c.is_empty-2.ensures

pub returns-clause-own : goal.returns-clause-own
returns-clause-own c = is_plain_list c.args.told.now c.args.owns.now c.is_empty.result c.is_empty-2.result c.is_empty.ensures c.if-not-is_empty.false c.is_empty-2.ensures
