-- Picked ::= SEQUENCE { first [9] BOOLEAN, ..., pick Pick, last [5] INTEGER (0..7) OPTIONAL },
-- Pick ::= CHOICE { flag BOOLEAN, octets OCTET STRING (SIZE (2)), ..., spare Spare, inner Inner },
-- Spare ::= CHOICE { low [2] INTEGER (0..7), empty [3] NULL }, whose tags are their own
use Rattle.std.specs.Prelude.{[], ◌∷◌, refl}
use Rattle.rasn_below.specs.OwnTags.{AreApart}
use Rattle.rasn_below.specs.Page.{TypeLists, at, boolean, choice, extensible_own_tags, integer, null, octet_string}
use Rattle.rasn_below.specs.Page.{optional, own_tags, sequence, size◌to◌, u8, under, ◌to◌}
use Rattle.rasn_below.specs.Types.{smallest}
use Rattle.per_samples_b.specs.Alternatives.{inner}

abbrev pub spare : TypeLists
spare = own_tags (under (at 2) (integer u8 (0 to 7)) ∷ under (at 3) null ∷ [])

abbrev pub pick : TypeLists
pick = extensible_own_tags (boolean ∷ octet_string (size 2 to 2) ∷ []) (choice spare ∷ sequence inner ∷ [])

pub pick_apart : AreApart pick
unfolding smallest
pick_apart = record { distinct = refl; few = refl }

abbrev pub picked : TypeLists
picked = extensible_own_tags (under (at 9) boolean ∷ [])
    (choice pick ∷ optional (under (at 5) (integer u8 (0 to 7))) ∷ [])
