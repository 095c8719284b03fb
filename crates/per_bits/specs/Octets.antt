-- Bits kept in octets, the highest bit of each first.
use Rattle.std.specs.Prelude.{◌≡◌, ℕ, ◌+◌, ◌-◌, ◌*◌, ◌%◌, ◌<◌, ◌≤◌, List, [], ◌∷◌, ◌++◌, length, take, replicate, false}
use Rattle.rasn_types.specs.Bits.{Bits, to_bits, unpack}

-- how many bits a word has; no numeral, so that no proof lists them
unfoldable pub word_size : ℕ
word_size = 64

-- the first bits of octets, as many as a word has, zeros after them where there are fewer
abbrev pub first_word : List ℕ → Bits
first_word octets = take word_size (unpack octets ++ replicate word_size false)

-- the bits of octets but for the last `spare` ones
abbrev pub filled : ℕ → List ℕ → Bits
filled spare octets = take (8 * length octets - spare) (unpack octets)

-- octets that are these bits, and after them spare ones, fewer than eight zeros
pub record AreFilledBy (bits : Bits) (spare : ℕ) (octets : List ℕ) : Type 0 where
  pub few : spare < 8
  pub zeros : unpack octets ≡ bits ++ replicate spare false

-- fewer than eight bits are spare, and they are zeros
abbrev pub ArePadded : ℕ → List ℕ → Type 0
ArePadded spare octets = AreFilledBy (filled spare octets) spare octets

-- octets that are these bits, and after them spare ones, fewer than 512 zeros: room for later bits
pub record HaveRoom (bits : Bits) (spare : ℕ) (octets : List ℕ) : Type 0 where
  pub few : spare < 512
  pub zeros : unpack octets ≡ bits ++ replicate spare false

-- fewer than 512 bits are spare, and they are zeros
abbrev pub AreKept : ℕ → List ℕ → Type 0
AreKept spare octets = HaveRoom (filled spare octets) spare octets

-- only zeros are in octets after the first bits
abbrev pub HaveZeros : ℕ → List ℕ → Type 0
HaveZeros used octets = unpack octets ≡ take used (unpack octets) ++ replicate (8 * length octets - used) false

-- `count` bits are in octets behind `skip` others
pub record AreWithin (skip count : ℕ) (octets : List ℕ) : Type 0 where
  pub few : skip < 8
  pub enough : skip + count ≤ 8 * length octets

-- the low w bits of each of some numbers, one number after another
abbrev pub low_bits_of : ℕ → List ℕ → Bits
low_bits_of w [] = []
low_bits_of w (n ∷ ns) = to_bits w n ++ low_bits_of w ns

-- what a reader has left: its bits, and how many bits of the first one's octet stand in front of that one
pub record Reading : Type 0 where
  pub bits : Bits
  pub place : ℕ

-- the bits begin and end with an octet
pub record AreWholeOctets (reading : Reading) : Type 0 where
  pub begins : reading.place ≡ 0
  pub ends : length reading.bits % 8 ≡ 0
