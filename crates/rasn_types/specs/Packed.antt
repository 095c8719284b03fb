-- Bits kept in octets (ITU-T X.690, 8.6.2).
use Rattle.std.specs.Prelude.{◌≡◌, ℕ, ◌+◌, ◌*◌, ◌/◌, ◌≤◌, List, length, take}
use Rattle.rasn_types.specs.Bits.{Bits, pack, unpack}

-- X.690 8.6.2: bits in the fewest octets, the first bit highest, spare bits of the last octet zero
abbrev pub packed : Bits → List ℕ
packed bits = pack ((length bits + 7) / 8) bits

-- octets that are `count` bits, packed
pub record ArePacked (count : ℕ) (octets : List ℕ) : Type 0 where
  pub enough : count ≤ 8 * length octets
  pub only : octets ≡ packed (take count (unpack octets))
