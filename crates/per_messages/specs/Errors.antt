-- The names of errors, and the errors that calls within a call pass on.
use Rattle.std.specs.Prelude.{ℕ, List, codes}
use Rattle.per_dynamic.specs.declared.open_types.OpenTypeError.{OpenTypeError}
use Rattle.per_dynamic.specs.declared.open_types.OpenTypeError.TheVariants as Taken
use Rattle.per_core.specs.ReadingNames.{name_of as decode_name}
use Rattle.per_core.specs.WritingNames.{name_of as encode_name}
use Rattle.rasn_dynamic_jer.specs.declared.error.ToJsonError.{ToJsonError}
use Rattle.rasn_dynamic_jer.specs.declared.error.ToJsonError.TheVariants as Shown
use Rattle.rasn_dynamic_jer.specs.declared.from_json_error.FromJsonError.{FromJsonError}
use Rattle.rasn_dynamic_jer.specs.declared.from_json_error.FromJsonError.TheVariants as Told
use Rattle.per_messages.specs.declared.error.MessageError.{MessageError}
use Rattle.per_messages.specs.declared.error.MessageError.TheVariants.{Decode, Encode, NoJson, OtherType, FromJson}
use Rattle.per_messages.specs.declared.error.MessageError.TheVariants.{OutOfMemory}

-- the name of why JSON tells no value
abbrev pub from_json_name : FromJsonError → List ℕ
from_json_name Told.OutOfMemory = codes "OutOfMemory"
from_json_name Told.NotJson = codes "NotJson"
from_json_name Told.DuplicateMember = codes "DuplicateMember"
from_json_name Told.UnknownMember = codes "UnknownMember"
from_json_name Told.MissingMember = codes "MissingMember"
from_json_name Told.UnknownItem = codes "UnknownItem"
from_json_name Told.UnknownAlternative = codes "UnknownAlternative"
from_json_name Told.WrongKind = codes "WrongKind"
from_json_name Told.BadNumber = codes "BadNumber"
from_json_name Told.BadHexadecimal = codes "BadHexadecimal"
from_json_name Told.BadCharacter = codes "BadCharacter"
from_json_name Told.BadTime = codes "BadTime"
from_json_name Told.BadIdentifier = codes "BadIdentifier"
from_json_name Told.NoType = codes "NoType"

-- the name of an error
abbrev pub name_of : MessageError → List ℕ
name_of (Decode kind) = decode_name kind
name_of (Encode kind) = encode_name kind
name_of NoJson = codes "NoJson"
name_of OtherType = codes "OtherType"
name_of (FromJson error) = from_json_name error
name_of OutOfMemory = codes "OutOfMemory"

-- why a value has no JSON
abbrev pub to_json_error_of : ToJsonError → MessageError
to_json_error_of Shown.OutOfMemory = OutOfMemory
to_json_error_of Shown.NoJson = NoJson

-- why open types aren't written
abbrev pub open_type_error_of : OpenTypeError → MessageError
open_type_error_of Taken.OtherType = OtherType
open_type_error_of (Taken.Encode kind) = Encode kind
open_type_error_of Taken.OutOfMemory = OutOfMemory

-- why JSON tells no value
abbrev pub from_json_error_of : FromJsonError → MessageError
from_json_error_of Told.OutOfMemory = OutOfMemory
from_json_error_of e = FromJson e
