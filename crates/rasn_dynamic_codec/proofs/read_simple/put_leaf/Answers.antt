use Rattle.rasn_dynamic_codec.proofs.read_simple.put_leaf.Goals as goal

pub returns-in-Boolean : goal.returns-in-Boolean
returns-in-Boolean g c = rw c.in-Boolean.is c.put_boolean.ensures

pub returns-in-Integer : goal.returns-in-Integer
returns-in-Integer g c = rw c.in-Integer.is c.put_integer.ensures

pub returns-in-Enumerated : goal.returns-in-Enumerated
returns-in-Enumerated g c = rw c.in-Enumerated.is c.put_enumerated.ensures

pub returns-in_default : goal.returns-in_default
returns-in_default g c = c.put_simple.ensures
