-- What contracts see of a reader.
use Rattle.rasn_types.specs.Bits.{Bits}
use Rattle.per_core.specs.Spellings.{Settings}
use Rattle.per_read.specs.Options.{settings}
use Rattle.per_read.specs.declared.ReaderOptions.{ReaderOptions}

-- the bits that are left, and how they are read
pub record ReaderState : Type 0 where
  pub bits : Bits
  pub options : ReaderOptions

-- how it reads
abbrev pub settings_of : ReaderState → Settings
settings_of x = settings x.options
