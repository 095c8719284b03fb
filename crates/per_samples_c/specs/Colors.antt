-- ENUMERATED { a, ..., b }
use Rattle.rasn_below.specs.Page.{Value, item, root, added}
use Rattle.per_samples_c.specs.declared.colors.TwoColors.{TwoColors}
use Rattle.per_samples_c.specs.declared.colors.TwoColors.TheVariants.{A, B}

-- the item that a color is
abbrev pub color : TwoColors → Value
color A = item root 0
color B = item added 0
