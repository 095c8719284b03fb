-- What the errors of a decoder say, stated over any codec's errors.
use Rattle.rasn_types.specs.declared.types.Codec.{Codec}
use Rattle.rasn_schema.specs.Schemas.{Tag}

-- A relation of a type of errors: the tag of a required addition that isn't there, the variant in use, and an error
-- that says so.
abbrev pub Lacking : Type 0 → Type 1
Lacking E = Tag → Codec → E → Type 0
