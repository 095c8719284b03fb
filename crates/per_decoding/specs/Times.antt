-- Identifiers and times as they are read (ITU-T X.691, 24 and 30).
use Rattle.std.specs.Prelude.{ℕ, false, List}
use Rattle.rasn_types.specs.Alphabets.{visible}
use Rattle.rasn_types.specs.Contents.{TimeKind, is_identifier, is_time}
use Rattle.rasn_constraints.specs.Bounds.{any_size}
use Rattle.per_core.specs.Basic.{Octets, Proper, String}
use Rattle.per_core.specs.Spellings.{Settings, Spelling}

-- X.691 24: the contents octets of an object after an unconstrained length
abbrev pub identifier_form : Settings → List ℕ → Spelling
identifier_form a = Proper is_identifier (Octets a)

-- X.691 30: the text of a time, which is a VisibleString
abbrev pub time_form : Settings → TimeKind → List ℕ → Spelling
time_form a kind = Proper (is_time kind) (String a visible any_size false)
