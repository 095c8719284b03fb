-- Why a call refuses that gathers what is in fragments.
use Rattle.std.specs.Prelude.{◌≡◌, ◌⊎◌, ℕ}
use Rattle.rasn_types.specs.Bits.{Bits}
use Rattle.per_core.specs.Spellings.{Settings, Spelling, Took}
use Rattle.per_core.specs.BitFieldFaults.{Says}
use Rattle.per_read.specs.Takes.{Reason}
use Rattle.per_core.specs.declared.decode_error.DecodeErrorKind.TheVariants.{OutOfMemory}

-- the length of a first fragment of so many items is at the front of bits
pub record IsFragmented (form : ℕ → Spelling) (s : Bits) : Type 0 where
  pub count : ℕ
  pub rest : Bits
  pub took : Took (form count) s rest

-- want of memory, where a fragment is at the front, or a kind that says something of the bits
abbrev pub gathering : (Settings → ℕ → Spelling) → (Settings → Says) → Reason
gathering form says a s A k = ((k ≡ OutOfMemory) × IsFragmented (form a) s) ⊎ (says a s k × A)
