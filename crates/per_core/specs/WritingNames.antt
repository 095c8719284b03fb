-- The names of the kinds of refused writings, as a program prints them.
use Rattle.std.specs.Prelude.{ℕ, List, codes}
use Rattle.per_core.specs.declared.encode_error.EncodeErrorKind.{EncodeErrorKind}
use Rattle.per_core.specs.declared.encode_error.EncodeErrorKind.TheVariants.{SizeConstraintNotSatisfied}
use Rattle.per_core.specs.declared.encode_error.EncodeErrorKind.TheVariants.{ValueConstraintNotSatisfied}
use Rattle.per_core.specs.declared.encode_error.EncodeErrorKind.TheVariants.{AlphabetConstraintNotSatisfied}
use Rattle.per_core.specs.declared.encode_error.EncodeErrorKind.TheVariants.{IntegerTypeConversionFailed}
use Rattle.per_core.specs.declared.encode_error.EncodeErrorKind.TheVariants.{VariantNotInChoice, RealNotSupported}
use Rattle.per_core.specs.declared.encode_error.EncodeErrorKind.TheVariants.{TooManyAdditions, Below, AlreadyFailed}
use Rattle.per_core.specs.declared.encode_error.EncodeErrorKind.TheVariants.{OutOfMemory, OutOfTurn, WrongKind}

abbrev pub name_of : EncodeErrorKind → List ℕ
name_of (SizeConstraintNotSatisfied told) = codes "SizeConstraintNotSatisfied"
name_of (ValueConstraintNotSatisfied told) = codes "ValueConstraintNotSatisfied"
name_of AlphabetConstraintNotSatisfied = codes "AlphabetConstraintNotSatisfied"
name_of IntegerTypeConversionFailed = codes "IntegerTypeConversionFailed"
name_of VariantNotInChoice = codes "VariantNotInChoice"
name_of RealNotSupported = codes "RealNotSupported"
name_of TooManyAdditions = codes "TooManyAdditions"
name_of Below = codes "Below"
name_of AlreadyFailed = codes "AlreadyFailed"
name_of OutOfMemory = codes "OutOfMemory"
name_of OutOfTurn = codes "OutOfTurn"
name_of WrongKind = codes "WrongKind"
