-- CHOICE { record SEQUENCE { a BOOLEAN, b INTEGER }, inner CHOICE { x [0] BOOLEAN, y [1] INTEGER (0..7) }, last [2]
-- NULL }, whose tags are its own
use Rattle.std.specs.Prelude.{[], ◌∷◌, refl}
use Rattle.rasn_below.specs.OwnTags.{AreApart}
use Rattle.rasn_below.specs.Page.{TypeLists, at, choice, null, own_tags, sequence, under}
use Rattle.rasn_below.specs.Types.{smallest}
use Rattle.per_samples_a.specs.Pairs.{pair}
use Rattle.per_samples_a.specs.Alternatives.{alternatives}

abbrev pub nested : TypeLists
nested = own_tags (sequence pair ∷ choice alternatives ∷ under (at 2) null ∷ [])

pub nested_apart : AreApart nested
unfolding smallest
nested_apart = record { distinct = refl; few = refl }
