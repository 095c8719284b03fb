use Rattle.std.proofs.Common.{◌∙◌, sym}
use Rattle.rasn_dynamic.specs.declared.values.Value.TheOpen.{Boolean, Null, Integer, Item, Octets, Characters}
use Rattle.rasn_dynamic.specs.declared.values.Value.TheVariants.{rolls-Boolean, rolls-Null, rolls-Integer, rolls-Item, rolls-Octets, rolls-Characters}
use Rattle.rasn_dynamic_jer.proofs.Knowns.{simple_put}
use Rattle.rasn_dynamic_jer.proofs.write.put_simple.Goals as goal

pub returns-in-Boolean : goal.returns-in-Boolean
returns-in-Boolean c ts = simple_put ts _ _ _ (Boolean c.in-Boolean.truth) _ (c.in-Boolean.is ∙ sym (rolls-Boolean c.in-Boolean.truth)) (c.put_truth.ensures _)

pub returns-in-Null : goal.returns-in-Null
returns-in-Null c ts = simple_put ts _ _ _ Null _ (c.in-Null.is ∙ sym rolls-Null) (c.put_null.ensures _)

pub returns-in-Integer : goal.returns-in-Integer
returns-in-Integer c ts = simple_put ts _ _ _ (Integer c.in-Integer.number) _ (c.in-Integer.is ∙ sym (rolls-Integer c.in-Integer.number)) (c.put_number.ensures _)

pub returns-in-Item : goal.returns-in-Item
returns-in-Item c ts = simple_put ts _ _ _ (Item c.in-Item.place) _ (c.in-Item.is ∙ sym (rolls-Item c.in-Item.place)) (c.put_item.ensures _)

pub returns-in-Octets : goal.returns-in-Octets
returns-in-Octets c ts = simple_put ts _ _ _ (Octets c.in-Octets.octets) _ (c.in-Octets.is ∙ sym (rolls-Octets c.in-Octets.octets)) (c.put_octets.ensures _)

pub returns-in-Characters : goal.returns-in-Characters
returns-in-Characters c ts = simple_put ts _ _ _ (Characters c.in-Characters.characters) _ (c.in-Characters.is ∙ sym (rolls-Characters c.in-Characters.characters)) (c.put_characters.ensures _)
