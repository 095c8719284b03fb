-- The names of the kinds of refused readings.
use Rattle.std.specs.Prelude.{ℕ, List, codes}
use Rattle.per_core.specs.declared.decode_error.DecodeErrorKind.{DecodeErrorKind}
use Rattle.per_core.specs.declared.decode_error.DecodeErrorKind.TheVariants.{Incomplete, ParserFail}
use Rattle.per_core.specs.declared.decode_error.DecodeErrorKind.TheVariants.{UnexpectedExtraData, MissingTag}
use Rattle.per_core.specs.declared.decode_error.DecodeErrorKind.TheVariants.{TypeNotExtensible, ExceedsMaxLength}
use Rattle.per_core.specs.declared.decode_error.DecodeErrorKind.TheVariants.{IntegerOverflow}
use Rattle.per_core.specs.declared.decode_error.DecodeErrorKind.TheVariants.{SizeConstraintNotSatisfied}
use Rattle.per_core.specs.declared.decode_error.DecodeErrorKind.TheVariants.{ValueConstraintNotSatisfied}
use Rattle.per_core.specs.declared.decode_error.DecodeErrorKind.TheVariants.{PermittedAlphabet}
use Rattle.per_core.specs.declared.decode_error.DecodeErrorKind.TheVariants.{EnumerationIndexNotFound}
use Rattle.per_core.specs.declared.decode_error.DecodeErrorKind.TheVariants.{ChoiceIndexNotFound}
use Rattle.per_core.specs.declared.decode_error.DecodeErrorKind.TheVariants.{ChoiceIndexExceedsPlatformWidth}
use Rattle.per_core.specs.declared.decode_error.DecodeErrorKind.TheVariants.{RequiredExtensionNotPresent}
use Rattle.per_core.specs.declared.decode_error.DecodeErrorKind.TheVariants.{ExceedsMaxParseDepth}
use Rattle.per_core.specs.declared.decode_error.DecodeErrorKind.TheVariants.{StringConversionFailed, InvalidDate}
use Rattle.per_core.specs.declared.decode_error.DecodeErrorKind.TheVariants.{RealNotSupported, Below}
use Rattle.per_core.specs.declared.decode_error.DecodeErrorKind.TheVariants.{UnexpectedEmptyInput, AlreadyFailed}
use Rattle.per_core.specs.declared.decode_error.DecodeErrorKind.TheVariants.{OutOfMemory}

-- the octets of a kind's name
abbrev pub name_of : DecodeErrorKind → List ℕ
name_of (Incomplete missing) = codes "Incomplete"
name_of (ParserFail cause) = codes "ParserFail"
name_of (UnexpectedExtraData octets) = codes "UnexpectedExtraData"
name_of MissingTag = codes "MissingTag"
name_of TypeNotExtensible = codes "TypeNotExtensible"
name_of ExceedsMaxLength = codes "ExceedsMaxLength"
name_of (IntegerOverflow width) = codes "IntegerOverflow"
name_of (SizeConstraintNotSatisfied told) = codes "SizeConstraintNotSatisfied"
name_of (ValueConstraintNotSatisfied told) = codes "ValueConstraintNotSatisfied"
name_of PermittedAlphabet = codes "PermittedAlphabet"
name_of (EnumerationIndexNotFound index added) = codes "EnumerationIndexNotFound"
name_of (ChoiceIndexNotFound index) = codes "ChoiceIndexNotFound"
name_of ChoiceIndexExceedsPlatformWidth = codes "ChoiceIndexExceedsPlatformWidth"
name_of (RequiredExtensionNotPresent tag) = codes "RequiredExtensionNotPresent"
name_of ExceedsMaxParseDepth = codes "ExceedsMaxParseDepth"
name_of StringConversionFailed = codes "StringConversionFailed"
name_of InvalidDate = codes "InvalidDate"
name_of RealNotSupported = codes "RealNotSupported"
name_of Below = codes "Below"
name_of UnexpectedEmptyInput = codes "UnexpectedEmptyInput"
name_of AlreadyFailed = codes "AlreadyFailed"
name_of OutOfMemory = codes "OutOfMemory"
