-- The rules of an encoder that puts a value's canonical bits after those that were written before.
use Rattle.rasn_traits.specs.Calls.{EncoderRules}
use Rattle.per_core.specs.declared.encode_error.EncodeError.{EncodeError}
use Rattle.per_core.specs.declared.encode_error.EncodeErrorKind.TheVariants.{OutOfTurn, VariantNotInChoice}
use Rattle.per_write.specs.Faults.{IsError, IsMemory, IsAlready, RefusesValue}
use Rattle.per_write.specs.Additions.{Adds, Begins, IsSurplus, Skips}
use Rattle.per_write.specs.Presences.{Marks, IsUnmarked}
use Rattle.per_write.specs.WriterState.{WriterState, Presents}

abbrev pub encoder_rules : EncoderRules EncodeError WriterState
encoder_rules = record {
  presents = Presents;
  marks = Marks;
  skips = Skips;
  begins = Begins;
  adds = Adds;
  refuses = RefusesValue;
  unmarked = IsUnmarked;
  surplus = IsSurplus;
  unchosen = IsError VariantNotInChoice;
  untimely = IsError OutOfTurn;
  memory = IsMemory;
  already = IsAlready;
  failed = λ x. x.failed;
  codec = λ x. x.codec;
}
