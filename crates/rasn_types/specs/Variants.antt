-- The variants of the packed encoding rules, and the one that a codec names.
use Rattle.std.specs.Prelude.{Bool, true, false}
use Rattle.rasn_types.specs.declared.types.Codec.{Codec}
use Rattle.rasn_types.specs.declared.types.Codec.TheVariants.{Aper, Uper}

-- ITU-T X.691 7: ALIGNED, which has padding bits; and UNALIGNED, which has none
pub data Variant : Type 0 where
  aligned unaligned : Variant

-- the variant, by whether it is the ALIGNED one
abbrev pub variant_when : Bool → Variant
variant_when true = aligned
variant_when false = unaligned

-- X.691 7: APER is the ALIGNED variant, UPER the UNALIGNED
abbrev pub variant_of : Codec → Variant
variant_of Aper = aligned
variant_of Uper = unaligned
