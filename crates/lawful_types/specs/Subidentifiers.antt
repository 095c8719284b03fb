-- How far a subidentifier is read.
use Rattle.rasn_types.specs.Contents.{Arc}
use Rattle.lawful_types.specs.declared.identifiers.Subidentifier.{Subidentifier}

-- as the definition of the contents has it
abbrev pub arc_of : Subidentifier → Arc
arc_of s = record { begun = s.begun; value = s.value; bound = s.limit }
