use Rattle.std.proofs.Common.{map}
use Rattle.rasn_jer.proofs.Items.{added_shown, root_shown}
use Rattle.rasn_jer.proofs.texts.item.Goals as goal

pub returns-then-is_extended_variant : goal.returns-then-is_extended_variant
returns-then-is_extended_variant g c = added_shown c.item_text.result (λ t. t.items) (map (λ s. s.now) c.args.identifiers.now) g.E.Enumerated.roots g.E.Enumerated.addeds
    (g.E.AsnType.value c.args.value.now) c.variance.result c.enumeration_index-place.result c.is_extended_variant.result c.enumeration_index-place.ensures c.is_extended_variant.ensures
    c.if-is_extended_variant.true c.variance.ensures c.item_text.ensures

pub returns-else-is_extended_variant : goal.returns-else-is_extended_variant
returns-else-is_extended_variant g c = root_shown c.item_text-else-is_extended_variant.result (λ t. t.items) (map (λ s. s.now) c.args.identifiers.now) g.E.Enumerated.roots g.E.Enumerated.addeds
    (g.E.AsnType.value c.args.value.now) c.enumeration_index-place.result c.is_extended_variant.result c.enumeration_index-place.ensures c.is_extended_variant.ensures
    c.if-is_extended_variant.false c.item_text-else-is_extended_variant.ensures
