-- Characters that a length counts, in an alphabet that may permit some of those of their type (ITU-T X.691, 30.5).
use Rattle.std.specs.Prelude.{ℕ, ◌-◌, ◌*◌, ◌≡◌, ◌≤◌, List, slice_range}
use Rattle.rasn_types.specs.Alphabets.{Alphabet, char_width, visible}
use Rattle.rasn_types.specs.Bits.{to_bits}
use Rattle.rasn_types.specs.Variants.{variant_of}
use Rattle.rasn_types.specs.declared.types.Codec.{Codec}
use Rattle.rasn_strings.specs.Prepared.{AreOwn}
use Rattle.per_core.specs.Canon.{char_writers}
use Rattle.per_core.specs.Counts.{char_items}
use Rattle.per_core.specs.Writers.{just, one_by_one, ◌▹◌}
use Rattle.per_core.specs.declared.encode_error.EncodeErrorKind.TheVariants.{AlphabetConstraintNotSatisfied}
use Rattle.per_core.specs.WritingFaults.{HasForeign}
use Rattle.per_write.specs.Items.{CountedItems, HasRefused}

-- each by its code, and refused where it has none
abbrev pub counted_characters : Alphabet → List ℕ → CountedItems
counted_characters alphabet cs = record {
  kind = char_items (char_width alphabet.variant alphabet.characters);
  writers = λ a. char_writers alphabet.variant alphabet.characters cs;
  fault = λ k. (k ≡ AlphabetConstraintNotSatisfied) × HasForeign alphabet.characters cs;
}

-- X.680 46.3, 47.3: the characters of a time's text, which is a VisibleString
abbrev pub text_characters : Codec → List ℕ → CountedItems
text_characters codec cs = counted_characters (record { variant = variant_of codec; characters = visible }) cs

-- X.691 30.5: the characters from an index on are written as the bits of a number, and then those from a later index on
abbrev pub IsBitField : Alphabet → List ℕ → ℕ → ℕ → ℕ → Type 0
IsBitField alphabet cs start end number =
    let ws = char_writers alphabet.variant alphabet.characters cs in
    let bits = to_bits ((end - start) * char_width alphabet.variant alphabet.characters) number in
    (last : ℕ) → end ≤ last → (p : ℕ) → one_by_one (slice_range ws start last) p
    ≡ (just bits ▹ one_by_one (slice_range ws end last)) p

-- octets are the characters from an index on and before another, each of which is written as its own value, in at most
-- eight bits
pub record AreOwnBetween (alphabet : Alphabet) (cs : List ℕ) (start end : ℕ) (octets : List ℕ) : Type 0 where
  pub these : octets ≡ slice_range cs start end
  pub own : AreOwn alphabet octets
  pub few : char_width alphabet.variant alphabet.characters ≤ 8

-- one of some characters has no encoding, as it isn't permitted
abbrev pub IsRefused : Alphabet → List ℕ → Type 0
IsRefused alphabet cs = HasRefused (char_writers alphabet.variant alphabet.characters cs)
    × HasForeign alphabet.characters cs
