-- What a reader is told, as the grammar has it.
use Rattle.rasn_types.specs.Variants.{variant_of}
use Rattle.per_core.specs.Spellings.{Settings}
use Rattle.per_read.specs.declared.ReaderOptions.{ReaderOptions}

-- the variant of the codec, and whether padding must be zero
abbrev pub settings : ReaderOptions → Settings
settings o = record { variant = variant_of o.codec; strict = o.zero_padding }
