-- Octets that are read as what their low bits are.
use Rattle.std.proofs.Common.{◌≡◌, sym, ap, ◌∙◌, subst, ℕ, List, []}
use Rattle.rasn_types.specs.Alphabets.{Alphabet, char_width}
use Rattle.rasn_types.specs.Bits.{Bits}
use Rattle.rasn_strings.specs.Prepared.{AreOwn}
use Rattle.per_bits.specs.Octets.{low_bits_of}
use Rattle.per_core.specs.Basic.{OneByOne}
use Rattle.per_core.specs.Spellings.{BitField, Took}
use Rattle.per_read.proofs.CharacterCodes.{own_took}

-- octets that are each written as their own value are spelled by their low bits
pub own_bits : (a : Alphabet) (os : List ℕ) (width : ℕ) (bits : Bits) → width ≡ char_width a.variant a.characters → low_bits_of width os ≡ bits → AreOwn a os →
    Took (OneByOne (BitField (char_width a.variant a.characters)) os) bits []
own_bits a os width bits e b h =
    let w = char_width a.variant a.characters in
    subst (λ (z : Bits). Took (OneByOne (BitField w) os) z []) (ap (λ (n : ℕ). low_bits_of n os) (sym e) ∙ b) (own_took a os h.codes)
