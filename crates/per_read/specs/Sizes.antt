-- Items as a size has them written, and counts that it doesn't allow (X.691 11.9).
use Rattle.std.specs.Prelude.{ℕ, false, List}
use Rattle.rasn_constraints.specs.Bounds.{Size}
use Rattle.per_core.specs.Basic.{Counted, octet}
use Rattle.per_core.specs.Counts.{octet_items, counted_of}
use Rattle.per_core.specs.Spellings.{Settings, Spelling}
use Rattle.per_core.specs.Lengths.{coded, Between, under_size}
use Rattle.per_read.specs.Items.{items_below}
use Rattle.per_core.specs.declared.items.Item.{Item}

-- items of as many bits each, after a count from lb on, as a constrained whole number of lb to ub
abbrev pub items_between : Settings → ℕ → ℕ → Item → List ℕ → Spelling
items_between a lb ub i = Between a lb ub (counted_of i) (coded i)

abbrev pub items_under : Settings → Size → Item → List ℕ → Spelling
items_under a size i = under_size a size.least size.most (counted_of i) (coded i)

-- X.691 17: octets under a size without an extension bit, fewer than a fragment has
abbrev pub unfragmented : Settings → Size → List ℕ → Spelling
unfragmented a size = items_below 16384 (Counted a size false octet_items octet)
