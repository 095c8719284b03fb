use Rattle.rasn_dynamic.proofs.SameDefaults.{null_same}
use Rattle.rasn_dynamic.proofs.values.Value.is_default.Goals as goal

pub returns-in-Boolean : goal.returns-in-Boolean
returns-in-Boolean c = rw c.in-Boolean.is c.is_truth.ensures

pub returns-in-Integer : goal.returns-in-Integer
returns-in-Integer c = rw c.in-Integer.is c.is_number.ensures

pub returns-in-Item : goal.returns-in-Item
returns-in-Item c = rw c.in-Item.is c.is_item.ensures

pub returns-in-Octets : goal.returns-in-Octets
returns-in-Octets c = rw c.in-Octets.is c.are_octets.ensures

pub returns-in-Bits : goal.returns-in-Bits
returns-in-Bits c = rw c.in-Bits.is c.are_bits.ensures

pub returns-in-Characters : goal.returns-in-Characters
returns-in-Characters c = rw c.in-Characters.is c.are_characters.ensures

pub returns-in-NoElements : goal.returns-in-NoElements
returns-in-NoElements c = rw c.in-NoElements.is c.is_empty.ensures

pub returns-in-Null : goal.returns-in-Null
returns-in-Null c = rw c.in-Null.is (null_same _ _ c.is_null.ensures.no c.is_null.ensures.yes)
