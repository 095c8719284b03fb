use Rattle.std.proofs.Common.{◌≡◌, map, take, count_by}
use Rattle.rasn_schema.specs.Fields.{may_be_absent, shape_of}
use Rattle.rasn_schema.proofs.fields.Fields.number_of_optional_and_default_fields.Given as goal

abbrev pub invariant-loop-field : goal.invariant-loop-field
invariant-loop-field l = l.count ≡ count_by may_be_absent (map shape_of (take l.field-index l.field-items))
