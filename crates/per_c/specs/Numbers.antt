-- The numbers by which a caller in C says what it asks for, and those of refusals.
use Rattle.std.specs.Prelude.{ℕ, ◌-◌, List, ◌++◌, length, replicate, codes}
use Rattle.per_core.specs.Rows.{Codec, Aper, Uper}
use Rattle.per_lines.specs.declared.arguments.Padding.{Padding}
use Rattle.per_lines.specs.declared.arguments.Padding.TheVariants as Paddings
use Rattle.line_replies.specs.declared.fault.Fault.{Fault}
use Rattle.line_replies.specs.declared.fault.Fault.TheVariants as Faults
use Rattle.per_core.specs.ReadingNames.{name_of as decode_name}
use Rattle.per_core.specs.declared.decode_error.DecodeErrorKind.{DecodeErrorKind}
use Rattle.per_core.specs.declared.decode_error.DecodeErrorKind.TheVariants as Decoding
use Rattle.per_core.specs.WritingNames.{name_of as encode_name}
use Rattle.per_core.specs.declared.encode_error.EncodeErrorKind.{EncodeErrorKind}
use Rattle.per_core.specs.declared.encode_error.EncodeErrorKind.TheVariants as Encoding
use Rattle.per_c.specs.declared.refusal.Refusal.{Refusal}
use Rattle.per_c.specs.declared.refusal.Refusal.TheVariants.{OutOfMemory, UnknownOptions, UnknownType, NoRoom}
use Rattle.per_c.specs.declared.refusal.Refusal.TheVariants.{Decode, Encode, Json}
use Rattle.per_c.specs.declared.refusal.Refusal.TheVariants.{AlreadyLoaded, BadSchema, FromJson, NoTypes, OtherType}
use Rattle.per_messages.specs.Errors.{from_json_name}
use Rattle.per_messages.specs.declared.error.MessageError.{MessageError}
use Rattle.per_messages.specs.declared.error.MessageError.TheVariants as Messages
use Rattle.rasn_dynamic_jer.specs.declared.from_json_error.FromJsonError.{FromJsonError}
use Rattle.rasn_dynamic_jer.specs.declared.from_json_error.FromJsonError.TheVariants as Told
use Rattle.rasn_jer.specs.Names.{name_of as json_name}
use Rattle.rasn_jer.specs.declared.error.EncodeError.{EncodeError}
use Rattle.rasn_jer.specs.declared.error.EncodeError.TheVariants as Showing

-- X.691 7: a variant, and padding and spare bits of any value or of zeros alone
abbrev pub options_number : Codec → Padding → ℕ
options_number Uper Paddings.Any = 0
options_number Aper Paddings.Any = 1
options_number Uper Paddings.Zero = 2
options_number Aper Paddings.Zero = 3

-- the code of a kind of refusal, where a decoder refuses
abbrev pub decode_code : DecodeErrorKind → ℕ
decode_code Decoding.OutOfMemory = 1
decode_code (Decoding.Incomplete missing) = 5
decode_code (Decoding.ParserFail cause) = 6
decode_code (Decoding.UnexpectedExtraData octets) = 7
decode_code Decoding.MissingTag = 8
decode_code Decoding.TypeNotExtensible = 9
decode_code Decoding.ExceedsMaxLength = 10
decode_code (Decoding.IntegerOverflow width) = 11
decode_code (Decoding.SizeConstraintNotSatisfied told) = 12
decode_code (Decoding.ValueConstraintNotSatisfied told) = 13
decode_code Decoding.PermittedAlphabet = 14
decode_code (Decoding.EnumerationIndexNotFound index added) = 15
decode_code (Decoding.ChoiceIndexNotFound index) = 16
decode_code Decoding.ChoiceIndexExceedsPlatformWidth = 17
decode_code (Decoding.RequiredExtensionNotPresent tag) = 18
decode_code Decoding.ExceedsMaxParseDepth = 19
decode_code Decoding.StringConversionFailed = 20
decode_code Decoding.InvalidDate = 21
decode_code Decoding.RealNotSupported = 22
decode_code Decoding.Below = 23
decode_code Decoding.UnexpectedEmptyInput = 24
decode_code Decoding.AlreadyFailed = 25

-- where an encoder does
abbrev pub encode_code : EncodeErrorKind → ℕ
encode_code Encoding.OutOfMemory = 1
encode_code (Encoding.SizeConstraintNotSatisfied told) = 26
encode_code (Encoding.ValueConstraintNotSatisfied told) = 27
encode_code Encoding.AlphabetConstraintNotSatisfied = 28
encode_code Encoding.IntegerTypeConversionFailed = 29
encode_code Encoding.VariantNotInChoice = 30
encode_code Encoding.RealNotSupported = 31
encode_code Encoding.TooManyAdditions = 32
encode_code Encoding.Below = 33
encode_code Encoding.AlreadyFailed = 34
encode_code Encoding.OutOfTurn = 35
encode_code Encoding.WrongKind = 40

-- where JSON's encoder does
abbrev pub json_code : EncodeError → ℕ
json_code Showing.OutOfMemory = 1
json_code Showing.NoJson = 36
json_code Showing.VariantNotInChoice = 37
json_code Showing.AlreadyFailed = 38
json_code Showing.OutOfTurn = 39

-- where JSON tells no value
abbrev pub from_json_code : FromJsonError → ℕ
from_json_code Told.OutOfMemory = 1
from_json_code Told.NotJson = 45
from_json_code Told.DuplicateMember = 46
from_json_code Told.UnknownMember = 47
from_json_code Told.MissingMember = 48
from_json_code Told.UnknownItem = 49
from_json_code Told.UnknownAlternative = 50
from_json_code Told.WrongKind = 51
from_json_code Told.BadNumber = 52
from_json_code Told.BadHexadecimal = 53
from_json_code Told.BadCharacter = 54
from_json_code Told.BadTime = 55
from_json_code Told.NoType = 56
from_json_code Told.BadIdentifier = 57

-- the code of a refusal, from 1 on
abbrev pub code_of : Refusal → ℕ
code_of OutOfMemory = 1
code_of UnknownOptions = 2
code_of UnknownType = 3
code_of NoRoom = 4
code_of (Decode kind) = decode_code kind
code_of (Encode kind) = encode_code kind
code_of (Json e) = json_code e
code_of NoTypes = 41
code_of AlreadyLoaded = 42
code_of BadSchema = 43
code_of OtherType = 44
code_of (FromJson e) = from_json_code e

abbrev pub last_code : ℕ
last_code = 57

-- its name, as the program prints a kind's
abbrev pub name_of : Refusal → List ℕ
name_of OutOfMemory = codes "OutOfMemory"
name_of UnknownOptions = codes "UnknownOptions"
name_of UnknownType = codes "UnknownType"
name_of NoRoom = codes "NoRoom"
name_of (Decode kind) = decode_name kind
name_of (Encode kind) = encode_name kind
name_of (Json e) = json_name e
name_of NoTypes = codes "NoTypes"
name_of AlreadyLoaded = codes "AlreadyLoaded"
name_of BadSchema = codes "BadSchema"
name_of OtherType = codes "OtherType"
name_of (FromJson e) = from_json_name e

-- the refusal of a fault; no others are faults of octets
abbrev pub refusal_of : Fault → Refusal
refusal_of (Faults.Decode kind) = Decode kind
refusal_of (Faults.Encode kind) = Encode kind
refusal_of _ = OutOfMemory

-- the refusal of a message by a table of types
abbrev pub message_refusal : MessageError → Refusal
message_refusal (Messages.Decode kind) = Decode kind
message_refusal (Messages.Encode kind) = Encode kind
message_refusal Messages.NoJson = Json Showing.NoJson
message_refusal Messages.OtherType = OtherType
message_refusal (Messages.FromJson e) = FromJson e
message_refusal Messages.OutOfMemory = OutOfMemory

-- a name as C has it: zeros after it, 32 octets in all
abbrev pub in_c : List ℕ → List ℕ
in_c name = name ++ replicate (32 - length name) 0
