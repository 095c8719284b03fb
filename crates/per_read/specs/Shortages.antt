-- What isn't read of bits that end early.
use Rattle.std.specs.Prelude.{◌≡◌, ◌%◌, ◌<◌, ◌++◌, ℕ, length}
use Rattle.rasn_types.specs.Bits.{Bits}
use Rattle.per_core.specs.Spellings.{Spelling, NoneIn}

-- nothing is in some form at the front of bits, nor of what goes on from them with fewer than m further bits, which
-- are whole octets
abbrev pub NoneWithin : {X : Type 0} → (X → Spelling) → ℕ → Bits → Type 0
NoneWithin form m s = (more : Bits) → length more % 8 ≡ 0 → length more < m → NoneIn form (s ++ more)
