-- From the octets of a value to the canonical octets of the same value.
use Rattle.std.specs.Prelude.{ℕ, Bool, ◌≢◌, ◌⊎◌, List, [], ◌∷◌, Some, true, false, pos, negsuc}
use Rattle.rasn_below.specs.Values.{utc, Value}
use Rattle.rasn_below.specs.Types.{visible, from_to, unbounded, between, Size, any_size, Schema, always}
use Rattle.rasn_below.specs.Types.{list_at, lower_bound, upper_bound, sequence_at, alternatives_at}
use Rattle.rasn_below.specs.Types.{set_of_at, date_at, set_at}
use Rattle.rasn_schema.specs.Normal.{AtDepths, normal}
use Rattle.per_core.specs.Rows.{Codec, variant_of, Variant}
use Rattle.per_samples_a.specs.Absents.{one_default}
use Rattle.per_samples_a.specs.Fours.{four}
use Rattle.per_samples_a.specs.Sevens.{seven}
use Rattle.per_samples_a.specs.Signals.{signals}
use Rattle.per_samples_c.specs.Items.{with_item}
use Rattle.per_samples_c.specs.Bytes.{byte}
use Rattle.per_samples_c.specs.Choices.{outer}
use Rattle.per_samples_c.specs.Deeps.{deep}
use Rattle.per_samples_c.specs.Elements.{elements}
use Rattle.per_samples_c.specs.Empties.{maybe_empty}
use Rattle.per_samples_c.specs.Nests.{nest}
use Rattle.per_samples_c.specs.AddedNests.{added_nest, before_nest}
use Rattle.per_samples_b.specs.Groups.{grouped}
use Rattle.per_samples_b.specs.Needs.{added_default, none_needed, one_needed}
use Rattle.per_samples_b.specs.Outers.{outer1, outer2, outer3}
use Rattle.per_samples_c.specs.Defaults.{default_outer1, default_outer3}
use Rattle.per_samples_c.specs.Groups.{grouped_1, grouped_2}
use Rattle.per_samples_b.specs.Alternatives.{two_alternatives}
use Rattle.per_samples_b.specs.First.{alt1}
use Rattle.per_samples_b.specs.Second.{alt2}
use Rattle.per_samples_b.specs.Many.{many}
use Rattle.per_samples_b.specs.Picks.{spare, pick, picked}
use Rattle.per_core.specs.Spellings.{Settings}
use Rattle.rasn_per.specs.Calls.{AreBytes, HasNoBytes, AreReadBy, AreUnreadBy, reading, basically}
use Rattle.per_samples_sets.specs.Connects.{connect}
use Rattle.per_samples_sets.specs.Sets.{set, set_choice, set_optional}
use Rattle.per_samples_sets.specs.Dnests.{dnest}
use Rattle.rasn_per.specs.Kinds.{IsInOctetsBy}
use Rattle.per_core.specs.WritingFaults.{IsInValue}
use Rattle.per_core.specs.declared.encode_error.EncodeErrorKind.{EncodeErrorKind}
use Rattle.per_core.specs.declared.encode_error.EncodeErrorKind.TheVariants as Encoding
use Rattle.per_core.specs.declared.decode_error.DecodeErrorKind.TheVariants as Decoding
use Rattle.per_lines.specs.declared.arguments.TypeName.{TypeName}
use Rattle.per_lines.specs.declared.arguments.TypeName.TheVariants.{Boolean, Null, Integer, UpTo65535, FromMinusOne}
use Rattle.per_lines.specs.declared.arguments.TypeName.TheVariants.{Natural, ZeroTo65536, OneToTenExtensible, Four}
use Rattle.per_lines.specs.declared.arguments.TypeName.TheVariants.{Seven, OneDefault, ShortVisible, LettersAToE}
use Rattle.per_lines.specs.declared.arguments.TypeName.TheVariants.{BitString, OctetString, OnlyX, Items, Byte}
use Rattle.per_lines.specs.declared.arguments.TypeName.TheVariants.{MaybeEmpty, Nested, Nest, Deep, Bytes, Nulls}
use Rattle.per_lines.specs.declared.arguments.TypeName.TheVariants.{NullList, Elements, Outer1, Outer2, Outer3, Grouped}
use Rattle.per_lines.specs.declared.arguments.TypeName.TheVariants.{NoneNeeded, OneNeeded, AddedDefault, Outers1}
use Rattle.per_lines.specs.declared.arguments.TypeName.TheVariants.{Outers3, BeforeNest, AddedNest, Grouped1, Grouped2}
use Rattle.per_lines.specs.declared.arguments.TypeName.TheVariants.{OneColor, TwoColors, DefaultOuter1, DefaultOuter3}
use Rattle.per_lines.specs.declared.arguments.TypeName.TheVariants.{OneAlternative, TwoAlternatives, Alternatives, Many}
use Rattle.per_lines.specs.declared.arguments.TypeName.TheVariants.{Bag, UtcTime, Connect, Set, SetOptional, SetChoice}
use Rattle.per_lines.specs.declared.arguments.TypeName.TheVariants.{Date, DatedNest, Spare, Pick, Picked, Signals}
use Rattle.per_lines.specs.declared.arguments.Form.{Form}
use Rattle.per_lines.specs.declared.arguments.Form.TheVariants.{OneLine, Lines, Zero, As}
use Rattle.per_lines.specs.declared.arguments.Padding.{Padding}
use Rattle.per_lines.specs.declared.arguments.Padding.TheVariants as Paddings
use Rattle.line_replies.specs.declared.fault.Fault.{Fault}
use Rattle.line_replies.specs.declared.fault.Fault.TheVariants as Faults

-- X.680 51.5: from 1 to u characters or elements
abbrev pub one_to : ℕ → Size
one_to u = record { least = Some 1; most = Some u }

-- what the name of a type means: BOOLEAN (X.680 18); NULL (X.680 24); INTEGER (X.680 19), alone and under value
-- constraints (X.680 51.4); SEQUENCE (X.680 25), with a default, an ENUMERATED (X.680 20), itself or an extension
-- marker in it; SEQUENCE OF (X.680 26); SET OF (X.680 28); CHOICE (X.680 29); BIT STRING (X.680 22); OCTET STRING
-- (X.680 23); character strings (X.680 41) by their characters; UTCTime (X.680 47); and DATE (X.680 38.4)
abbrev pub schema_of : TypeName → ℕ → Schema
schema_of Boolean = always Schema.boolean
schema_of Null = always Schema.null
schema_of Integer = always (Schema.number unbounded false unbounded)
schema_of UpTo65535 = always (Schema.number (upper_bound (pos 65535)) false unbounded)
schema_of FromMinusOne = always (Schema.number (lower_bound (negsuc 0)) false unbounded)
schema_of Natural = always (Schema.number (lower_bound (pos 0)) false unbounded)
schema_of ZeroTo65536 = always (Schema.number (between (pos 0) (pos 65536)) false unbounded)
schema_of OneToTenExtensible = always (Schema.number (between (pos 1) (pos 10)) true unbounded)
schema_of Four = sequence_at four
schema_of Seven = sequence_at seven
schema_of OneDefault = sequence_at one_default
schema_of ShortVisible = always (Schema.char_string visible (one_to 3) true)
schema_of LettersAToE = always (Schema.char_string (from_to 5 65) (one_to 20) false)
schema_of BitString = always (Schema.bit_string any_size false false)
schema_of OctetString = always (Schema.octet_string any_size false)
schema_of OnlyX = always (Schema.char_string (120 ∷ []) any_size false)
schema_of Items = sequence_at with_item
schema_of Byte = sequence_at byte
schema_of MaybeEmpty = sequence_at maybe_empty
schema_of Nested = alternatives_at outer.before outer.behind
schema_of Nest = sequence_at nest
schema_of Deep = sequence_at deep
schema_of Bytes = list_at (sequence_at byte) any_size false
schema_of Nulls = list_at (always Schema.null) (one_to 300) false
schema_of NullList = list_at (always Schema.null) any_size false
schema_of Elements = sequence_at elements
schema_of Outer1 = sequence_at outer1
schema_of Outer2 = sequence_at outer2
schema_of Outer3 = sequence_at outer3
schema_of Grouped = sequence_at grouped
schema_of NoneNeeded = sequence_at none_needed
schema_of OneNeeded = sequence_at one_needed
schema_of AddedDefault = sequence_at added_default
schema_of Outers1 = list_at (sequence_at outer1) any_size false
schema_of Outers3 = list_at (sequence_at outer3) any_size false
schema_of BeforeNest = sequence_at before_nest
schema_of AddedNest = sequence_at added_nest
schema_of Grouped1 = sequence_at grouped_1
schema_of Grouped2 = sequence_at grouped_2
schema_of OneColor = always (Schema.items 1 0 true)
schema_of TwoColors = always (Schema.items 1 1 true)
schema_of DefaultOuter1 = sequence_at default_outer1
schema_of DefaultOuter3 = sequence_at default_outer3
schema_of OneAlternative = alternatives_at alt1.before alt1.behind
schema_of TwoAlternatives = alternatives_at alt2.before alt2.behind
schema_of Alternatives = sequence_at two_alternatives
schema_of Many = sequence_at many
schema_of Bag = set_of_at (always (Schema.number unbounded false unbounded)) any_size false
schema_of UtcTime = always (Schema.time utc)
schema_of Connect = sequence_at connect
schema_of Set = set_at set
schema_of SetOptional = set_at set_optional
schema_of SetChoice = set_at set_choice
schema_of Date = date_at
schema_of DatedNest = sequence_at dnest
schema_of Spare = alternatives_at spare.before spare.behind
schema_of Pick = alternatives_at pick.before pick.behind
schema_of Picked = sequence_at picked
schema_of Signals = sequence_at signals

-- `zero` asks that padding is zero; behind `as` what is written needs no such check
abbrev pub padding_of : Form → Padding
padding_of OneLine = Paddings.Any
padding_of Lines = Paddings.Any
padding_of Zero = Paddings.Zero
padding_of (As other) = Paddings.Any

abbrev pub is_strict : Padding → Bool
is_strict Paddings.Any = false
is_strict Paddings.Zero = true

-- X.691 7: a reader of the variant that a codec names, which takes such padding
abbrev pub reader_of : Codec → Padding → Settings
reader_of codec padding = reading (is_strict padding) (variant_of codec)

-- octets are read as one value, whose canonical octets these are
pub record Recodes (a : Settings) (schema : ℕ → Schema) (octets canonical : List ℕ) : Type 0 where
  pub value : Value
  pub levels : ℕ
  pub is_read : AreReadBy a schema value octets
  pub is_written : AreBytes a.variant schema levels value canonical

-- octets are read as one value, which has no canonical octets, and in which the fault stands that a kind names
pub record IsUnwritable (a : Settings) (schema : ℕ → Schema) (octets : List ℕ) (kind : EncodeErrorKind)
    : Type 0 where
  pub value : Value
  pub levels : ℕ
  pub is_read : AreReadBy a schema value octets
  pub is_unwritten : HasNoBytes a.variant schema levels value
  pub is_faulty : AtDepths schema levels (λ s. IsInValue kind s (normal s value))

-- Why octets are refused: they are read as no value, and what the kind says is in them; or as one without canonical
-- octets, and what the kind says is in it; or memory ran out.
abbrev pub IsRefusal : Settings → (ℕ → Schema) → List ℕ → Fault → Type 0
IsRefusal a schema octets (Faults.Decode kind) =
    (kind ≢ Decoding.OutOfMemory → AreUnreadBy a schema octets) × IsInOctetsBy a schema octets kind
IsRefusal a schema octets (Faults.Encode kind) = kind ≢ Encoding.OutOfMemory → IsUnwritable a schema octets kind
IsRefusal a schema octets _ = ⊥

-- Octets are read by a type and written; with `zero` their padding and spare bits are zero. Behind `as`, what was
-- written is read by the other type and written.
abbrev pub Converts : Variant → TypeName → Form → List ℕ → List ℕ → Type 0
Converts a t OneLine octets canonical = Recodes (basically a) (schema_of t) octets canonical
Converts a t Lines octets canonical = Recodes (basically a) (schema_of t) octets canonical
Converts a t Zero octets canonical = Recodes (reading true a) (schema_of t) octets canonical
Converts a t (As other) octets canonical = (written : List ℕ)
    × Recodes (basically a) (schema_of t) octets written × Recodes (basically a) (schema_of other) written canonical

-- why octets are not so converted: they are refused, or behind `as` what was written is
abbrev pub IsUnconverted : Variant → TypeName → Form → List ℕ → Fault → Type 0
IsUnconverted a t OneLine octets fault = IsRefusal (basically a) (schema_of t) octets fault
IsUnconverted a t Lines octets fault = IsRefusal (basically a) (schema_of t) octets fault
IsUnconverted a t Zero octets fault = IsRefusal (reading true a) (schema_of t) octets fault
IsUnconverted a t (As other) octets fault = IsRefusal (basically a) (schema_of t) octets fault
    ⊎ ((written : List ℕ) × Recodes (basically a) (schema_of t) octets written
    × IsRefusal (basically a) (schema_of other) written fault)
