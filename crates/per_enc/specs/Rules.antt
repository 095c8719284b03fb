-- The rules of an encoder that puts a value's canonical bits after those that were written before; of a component of
-- an open SET, by itself (ITU-T X.691, 21.1).
use Rattle.std.specs.Prelude.{◌≡◌, Bool, true, false}
use Rattle.rasn_types.specs.Values.{Value}
use Rattle.rasn_types.specs.declared.types.Codec.{Codec}
use Rattle.rasn_schema.specs.Schemas.{Schema}
use Rattle.rasn_traits.specs.Calls.{EncoderRules}
use Rattle.per_pieces.specs.Pieces.{no_pieces}
use Rattle.per_write.specs.Additions.{Adds as AddsTo, Begins as BeginsTo, IsSurplus, Skips as SkipsIn}
use Rattle.per_write.specs.Components.{begun_with, Encoding, noted}
use Rattle.per_core.specs.declared.encode_error.EncodeError.{EncodeError}
use Rattle.per_core.specs.declared.encode_error.EncodeErrorKind.TheVariants.{OutOfTurn, VariantNotInChoice}
use Rattle.per_write.specs.Faults.{IsAlready, IsError, IsMemory, RefusesValue}
use Rattle.per_write.specs.Presences.{IsUnmarked, Marks as MarksIn}
use Rattle.per_write.specs.WriterState.{fresh as fresh_state, Presents as PresentsIn, WriterState}
use Rattle.per_pieces.specs.Turns.{awaits, counts, Enclosing, gathers, marked, uncounted}

-- what has written nothing
abbrev pub fresh : Codec → Encoding
fresh codec = record { writer = fresh_state codec; set = counts uncounted }

-- what was written is taken out
abbrev pub emptied : Encoding → Encoding
emptied x = record x { writer = record x.writer { pieces = no_pieces } }

-- as it is where a value begins
abbrev pub noting : Encoding → Encoding
noting x = noted x.set x.writer

-- one value more, in its canonical bits
pub record Presents (x : Encoding) (s : Schema) (v : Value) (y : Encoding) : Type 0 where
  pub written : PresentsIn (noting x).writer s v y.writer
  pub set : y.set ≡ (noting x).set

-- the next presence bit is given: where a SET's components are gathered, that of the next one; and else a bit 0 is a
-- component that comes
abbrev pub MarksWhere : Enclosing → WriterState → Bool → Encoding → Type 0
MarksWhere (counts t) x b y = MarksIn x b y.writer × (y.set ≡ counts (marked b t))
MarksWhere (gathers set) x b y = (x.failed ≡ false) × (y ≡ begun_with b set x)

abbrev pub Marks : Encoding → Bool → Encoding → Type 0
Marks x b y = MarksWhere x.set x.writer b y

-- an error by which a presence bit is refused: none is left, or the encoder had been refused before
abbrev pub IsUnmarkedWhere : EncodeError → Enclosing → WriterState → Type 0
IsUnmarkedWhere e (counts t) x = IsUnmarked e x
IsUnmarkedWhere e (gathers set) x = IsAlready e x × (x.failed ≡ true)

-- the next addition is absent
pub record Skips (x y : Encoding) : Type 0 where
  pub given : SkipsIn x.writer y.writer
  pub set : y.set ≡ x.set

-- the contents of the next addition's open type begin: one value is to come
pub record Begins (x y : Encoding) : Type 0 where
  pub opened : BeginsTo x.writer y.writer
  pub set : y.set ≡ counts (awaits 1)

-- the next addition is there: one value in an open type
pub record Adds (x : Encoding) (s : Schema) (v : Value) (y : Encoding) : Type 0 where
  pub given : AddsTo x.writer s v y.writer
  pub set : y.set ≡ x.set

abbrev pub encoding_rules : EncoderRules EncodeError Encoding
encoding_rules = record {
  presents = Presents;
  marks = Marks;
  skips = Skips;
  begins = Begins;
  adds = Adds;
  refuses = λ e x s v. RefusesValue e x.writer s v;
  unmarked = λ e x. IsUnmarkedWhere e x.set x.writer;
  surplus = λ e x. IsSurplus e x.writer;
  unchosen = λ e x. IsError VariantNotInChoice e x.writer;
  untimely = λ e x. IsError OutOfTurn e x.writer;
  memory = λ e x. IsMemory e x.writer;
  already = λ e x. IsAlready e x.writer;
  failed = λ x. x.writer.failed;
  codec = λ x. x.writer.codec;
}
