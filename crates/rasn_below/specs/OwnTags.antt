-- Alternatives under tags that are written, or are their types' own (ITU-T X.680, 29; X.691, 23.5).
use Rattle.std.specs.Prelude.{Bool, true, ◌&&◌, List, [], ◌∷◌}
use Rattle.rasn_schema.specs.Choices.{AreVariants, VariantShapes}
use Rattle.rasn_schema.specs.Components.{TypeLists, variants_listed}
use Rattle.rasn_schema.specs.Schemas.{Tag, tag_less}

-- whether further tags ascend from a tag on
abbrev pub ascend_from : Tag → List Tag → Bool
ascend_from t [] = true
ascend_from t (u ∷ us) = tag_less t u && ascend_from u us

-- X.680 8.6: whether each tag is less than the one after it
abbrev pub ascend : List Tag → Bool
ascend [] = true
ascend (t ∷ ts) = ascend_from t ts

abbrev are_apart : VariantShapes → Type 0
are_apart vs = AreVariants vs.before vs.behind

-- X.680 29.3: no two of a choice's alternatives go by one tag, and there aren't too many
abbrev pub AreApart : TypeLists → Type 0
AreApart cs = are_apart (variants_listed cs)
