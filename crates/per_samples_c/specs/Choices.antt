-- CHOICE { x [0] BOOLEAN, y CHOICE { p [1] BOOLEAN, q [2] NULL }, z [3] NULL }, y untagged
use Rattle.std.specs.Prelude.{[], ◌∷◌, refl}
use Rattle.rasn_below.specs.OwnTags.{AreApart}
use Rattle.rasn_below.specs.Page.{TypeLists, at, boolean, choice, null, own_tags, under}
use Rattle.rasn_below.specs.Types.{smallest}

abbrev pub inner : TypeLists
inner = own_tags (under (at 1) boolean ∷ under (at 2) null ∷ [])

abbrev pub outer : TypeLists
outer = own_tags (under (at 0) boolean ∷ choice inner ∷ under (at 3) null ∷ [])

pub outer_apart : AreApart outer
unfolding smallest
outer_apart = record { distinct = refl; few = refl }
