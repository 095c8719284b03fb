-- What opening a CHOICE does to an encoder.
use Rattle.std.specs.Prelude.{ℕ, List, length, Option, Some, None}
use Rattle.rasn_schema.specs.Choices.{VariantShape}
use Rattle.rasn_schema.specs.Structures.{tags_of}
use Rattle.rasn_schema.specs.Schemas.{Schema}
use Rattle.per_core.specs.Versions.{alternatives_of}
use Rattle.per_enc.specs.Choices.{OutsideChoice, OpensChoiceOf}
use Rattle.per_write.specs.WriterState.{WriterState}
use Rattle.per_enc.specs.Records.{after_marker}

-- how many added alternatives a choice has, where it has an extension marker
abbrev pub added_alternatives : Schema → Option ℕ
added_alternatives (Schema.choice ps qs marker) = after_marker marker (length (tags_of qs))
added_alternatives _ = None

-- how many added alternatives a type states, where it has an extension marker
abbrev pub counted_variants : Option (List VariantShape) → Option ℕ
counted_variants None = None
counted_variants (Some vs) = Some (length vs)

-- X.691 23.5 to 23.8: how it is opened goes by how many alternatives it has, before an extension marker and after it
abbrev pub OpensChoice : Schema → WriterState → OutsideChoice → WriterState → Type 0
OpensChoice s x outside i = OpensChoiceOf (length (tags_of (alternatives_of s))) (added_alternatives s) x outside i
