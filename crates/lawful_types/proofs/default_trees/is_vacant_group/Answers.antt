use Rattle.std.proofs.Common.{◌∙◌, sym, ap}
use Rattle.std.specs.Prelude.{option_map}
use Rattle.rasn_dynamic.specs.Types.{tree_value}
use Rattle.rasn_dynamic.proofs.ComparedParts.{no_group_vacant}
use Rattle.rasn_dynamic.specs.Defaults.{group_of}
use Rattle.rasn_schema.specs.Normal.{is_vacant}
use Rattle.rasn_dynamic.specs.Types.{schema_at}
use Rattle.std.proofs.Common.{suc}
use Rattle.lawful_types.proofs.RightTrees.{group_idle}
use Rattle.lawful_types.proofs.default_trees.is_vacant_group.Goals as goal

pub returns-in-Some : goal.returns-in-Some
returns-in-Some c = λ n.
    group_idle c.args.is_added c.args.kinds.now c.args.component.now c.in-Some.record.now n (tree_value c.args.told.now) c.is_vacant.result (sym c.group_of.ensures ∙ ap (option_map (λ r. r.now)) c.in-Some.is) (c.is_vacant.ensures c.args.kinds.now n)

pub returns-in-None : goal.returns-in-None
returns-in-None c = λ n.
    no_group_vacant (group_of c.args.kinds.now c.args.is_added c.args.component.now) (is_vacant (schema_at c.args.kinds.now c.args.component.now.of (suc n)) (tree_value c.args.told.now)) (sym c.group_of.ensures ∙ ap (option_map (λ r. r.now)) c.in-None.is)
