-- From octets to the JSON of the value that they spell.
use Rattle.std.specs.Prelude.{ℕ, ◌≡◌, ◌≢◌, ◌⊎◌, List, ◌∷◌, ◌++◌, [], Ok, codes}
use Rattle.hex.specs.Hex.{decode_of}
use Rattle.per_lines.specs.Types.{schema_of}
use Rattle.per_lines.specs.Showing.{AreShown, HasNoText}
use Rattle.line_replies.specs.declared.fault.Fault.TheVariants.{BadHexadecimal}
use Rattle.per_located.specs.LocatedRefusals.{IsPlaced}
use Rattle.per_core.specs.declared.decode_error.DecodeErrorKind.TheVariants as Decoding
use Rattle.per_core.specs.Rows.{Codec, variant_of}
use Rattle.rasn_per.specs.Calls.{AreUnread, basically, IsInOctets}
use Rattle.rasn_schema.specs.Schemas.{Schema}
use Rattle.line_replies.specs.Layouts.{IsLaidOut}
use Rattle.per_lines.specs.FaultTexts.{IsToldAs}
use Rattle.per_lines.specs.declared.show_fault.Fault.{Fault}
use Rattle.per_lines.specs.declared.show_arguments.Showing.{Showing}
use Rattle.per_lines.specs.declared.show_fault.Fault.TheVariants.{Decode, Encode, OfLines}

-- Why octets have no JSON: they are read as no value, what the kind says is in them, and the place is one of theirs; or
-- they are read as a value that has none.
abbrev pub IsRefusal : Codec → (ℕ → Schema) → List ℕ → Fault → Type 0
IsRefusal codec schema octets (Decode refusal) =
    (refusal.kind ≢ Decoding.OutOfMemory → AreUnread (variant_of codec) schema octets)
    × IsInOctets (variant_of codec) schema octets refusal.kind × IsPlaced octets refusal
IsRefusal codec schema octets (Encode e) = HasNoText (basically (variant_of codec)) schema octets e
IsRefusal codec schema octets _ = ⊥

-- a text is the answer to a line: the JSON of the value that its octets spell, and a line feed
pub record IsAnswer (a : Showing) (line answer : List ℕ) : Type 0 where
  pub octets : List ℕ
  pub text : List ℕ
  pub laid : List ℕ
  pub hexadecimal : decode_of line ≡ Ok octets
  pub shown : AreShown (basically (variant_of a.codec)) (schema_of a.type_name) octets text
  pub laid_out : IsLaidOut a.layout text laid
  pub is_answer : answer ≡ laid ++ 10 ∷ []

-- the octets of a line have no JSON
pub record AreRefused (a : Showing) (line : List ℕ) (fault : Fault) : Type 0 where
  pub octets : List ℕ
  pub hexadecimal : decode_of line ≡ Ok octets
  pub refused : IsRefusal a.codec (schema_of a.type_name) octets fault

-- why a line has no answer, memory aside: it isn't pairs of hexadecimal digits, or its octets have no JSON
abbrev pub IsUnanswered : Showing → List ℕ → Fault → Type 0
IsUnanswered a line (OfLines BadHexadecimal) = (octets : List ℕ) → decode_of line ≢ Ok octets
IsUnanswered a line fault = AreRefused a line fault

-- `! `, what is said of a fault, and a line feed
abbrev pub AreTold : Fault → List ℕ → Type 0
AreTold fault reply = (told : List ℕ) × IsToldAs fault told × (reply ≡ codes "! " ++ told ++ 10 ∷ [])

-- a text is the reply to a line: its answer, or why it has none
abbrev pub IsReply : Showing → List ℕ → List ℕ → Type 0
IsReply a line reply = IsAnswer a line reply
    ⊎ ((fault : Fault) × IsUnanswered a line fault × AreTold fault reply)
