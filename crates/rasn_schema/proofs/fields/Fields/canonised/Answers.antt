use Rattle.std.proofs.Common.{rules, ap, map, ◌∙◌}
use Rattle.rasn_schema.specs.Fields.{in_tag_order, shape_of}
use Rattle.rasn_schema.proofs.fields.Fields.canonised.Goals as goal
use Rattle.rasn_schema.proofs.TagOrder.{sorts_fields}

pub returns : goal.returns
returns g c =
    sorts_fields c.in_ok-fields.fields.items c.sort_by_key.new.self.items c.in_ok-sort_by_key.ensures.sorted c.in_ok-sort_by_key.ensures.stable (λ a r q k. search rules)
    ∙ ap (λ l. in_tag_order (map shape_of l)) (c.in_ok-fields.ensures.items_if_clones_equal (λ x y e. e)) ∙ ap in_tag_order c.self.view_is
