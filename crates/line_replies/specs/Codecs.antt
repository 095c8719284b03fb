-- The words of codecs.
use Rattle.std.specs.Prelude.{ℕ, List, codes}
use Rattle.rasn_types.specs.declared.types.Codec.{Codec}
use Rattle.rasn_types.specs.declared.types.Codec.TheVariants.{Aper, Uper}

abbrev pub codec_word : Codec → List ℕ
codec_word Aper = codes "aper"
codec_word Uper = codes "uper"
