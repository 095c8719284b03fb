-- Bits that are gathered one after another: up to 64 of them in a word.
use Rattle.std.specs.Prelude.{◌^◌, ◌<◌, ◌≤◌, length}
use Rattle.rasn_types.specs.Bits.{Bits, to_bits}
use Rattle.per_write.specs.declared.flags.Held.{Held}
use Rattle.per_write.specs.declared.flags.Held.TheVariants.{Word, List}

-- X.691 11.3: the bits held, a word being the number that they mean
abbrev pub flags_held : {A : Type 0} → Held A → Bits
flags_held (Word word count) = to_bits count word
flags_held (List bits) = bits

-- a word holds at most 64 bits and no others, and a list more than 64
abbrev pub AreOneForm : {A : Type 0} → Held A → Type 0
AreOneForm (Word word count) = (count ≤ 64) × (word < 2 ^ count)
AreOneForm (List bits) = 64 < length bits
