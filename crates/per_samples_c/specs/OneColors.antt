-- ENUMERATED { a, ... }
use Rattle.rasn_below.specs.Page.{Value, item, root}
use Rattle.per_samples_c.specs.declared.one_color.OneColor.{OneColor}
use Rattle.per_samples_c.specs.declared.one_color.OneColor.TheVariants.{A}

-- the item that a color is
abbrev pub only_color : OneColor → Value
only_color A = item root 0
