-- Bits, octets, and the numbers that they mean (ITU-T X.691, 11.3 and 11.4); bits without zero bits at their end, and
-- with as many as are asked for (X.680, 22.7; X.691, 16.2).
use Rattle.std.specs.Prelude.{ℕ, zero, suc, ◌+◌, ◌%◌, ◌^◌, ◌<◌, Bool, true, false, if◌then◌else◌, nat_le, List, [], ◌∷◌}
use Rattle.std.specs.Prelude.{◌++◌, length, take, drop, replicate, ◌-◌, ◌*◌, ◌/◌, max, ℤ, pos, negsuc}

-- a list of truth values, the first bit first
abbrev pub Bits : Type 0
Bits = List Bool

-- the least number from w on, at most `fuel` higher, whose power of two is at least r
unfoldable pub width_from : ℕ → ℕ → ℕ → ℕ
width_from zero w r = w
width_from (suc fuel) w r = elim (nat_le r (2 ^ w)) [ true ↦ w | false ↦ width_from fuel (suc w) r ]

-- X.691 11.5.6, 11.5.7: the bits that tell r values apart: the least w with 2 ^ w at least r
unfoldable pub width : ℕ → ℕ
unfolding width_from
width r = width_from r 0 r

-- X.691 11.3: the low w bits of n, highest first
abbrev pub to_bits : ℕ → ℕ → Bits
to_bits zero n = []
to_bits (suc w) n = nat_le (2 ^ w) (n % 2 ^ suc w) ∷ to_bits w n

-- X.691 11.3: the number that bits mean, the first being the highest
abbrev pub number_of : Bits → ℕ
number_of [] = 0
number_of (b ∷ bs) = (if b then 2 ^ length bs else 0) + number_of bs

-- the bits of octets, eight of each, highest first
abbrev pub unpack : List ℕ → Bits
unpack [] = []
unpack (o ∷ os) = to_bits 8 o ++ unpack os

-- the first n octets of the bits, which zero bits follow
abbrev pub pack : ℕ → Bits → List ℕ
pack zero bits = []
pack (suc n) bits = number_of (take 8 (bits ++ replicate 8 false)) ∷ pack n (drop 8 bits)

-- numbers that are octets, each below 256
abbrev pub AreOctets : List ℕ → Type 0
AreOctets [] = Unit {0}
AreOctets (o ∷ os) = (o < 256) × AreOctets os

-- X.691 11.3.6: the fewest octets, at least one, that hold a number without sign
unfoldable pub octets_of_natural : ℕ → ℕ
unfolding width
octets_of_natural n = max 1 ((width (n + 1) + 7) / 8)

-- X.691 11.4.6: the fewest octets that hold a number in two's complement
unfoldable pub octets_of_whole : ℤ → ℕ
unfolding width
octets_of_whole (pos n) = width (n + 1) / 8 + 1
octets_of_whole (negsuc n) = width (n + 1) / 8 + 1

-- X.691 11.3.6: the bits of a number's fewest octets, without sign
unfoldable pub natural_bits : ℕ → Bits
unfolding octets_of_natural
natural_bits n = to_bits (8 * octets_of_natural n) n

-- X.691 11.4: the number whose w bits are those of a whole number in two's complement
abbrev pub twos_complement : ℕ → ℤ → ℕ
twos_complement w (pos n) = n
twos_complement w (negsuc n) = 2 ^ w - (n + 1)

-- X.691 11.4.6: the bits of a number's fewest octets, in two's complement
unfoldable pub whole_bits : ℤ → Bits
unfolding octets_of_whole
whole_bits z = to_bits (8 * octets_of_whole z) (twos_complement (8 * octets_of_whole z) z)

-- X.691 11.3: what octets mean without sign
abbrev pub unsigned : List ℕ → ℕ
unsigned os = number_of (unpack os)

-- X.691 11.4: what bits mean in two's complement; the first bit is the sign
abbrev pub signed_bits : Bits → ℤ
signed_bits [] = pos 0
signed_bits (false ∷ bs) = pos (number_of bs)
signed_bits (true ∷ bs) = negsuc (2 ^ length bs - 1 - number_of bs)

-- X.691 11.4: what octets mean in two's complement
abbrev pub signed : List ℕ → ℤ
signed os = signed_bits (unpack os)

-- X.690 8.3.2: the fewest two's complement octets of a number
unfoldable pub signed_octets : ℤ → List ℕ
unfolding whole_bits octets_of_whole
signed_octets z = pack (octets_of_whole z) (whole_bits z)

-- a bit in front of others, where one of them isn't zero
abbrev pub unless_zeros : Bool → Bits → Bits
unless_zeros true bs = true ∷ bs
unless_zeros false [] = []
unless_zeros false (b ∷ bs) = false ∷ b ∷ bs

-- X.680 22.7: bits without the zero bits at their end
abbrev pub trimmed : Bits → Bits
trimmed [] = []
trimmed (b ∷ bs) = unless_zeros b (trimmed bs)

-- X.691 16.2: bits with as many zero bits at their end as make them n bits, where they are fewer
abbrev pub filled_up : ℕ → Bits → Bits
filled_up n bs = bs ++ replicate (n - length bs) false
