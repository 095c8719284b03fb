-- Classed ::= CHOICE { number [APPLICATION 1] INTEGER (0..7), flag BOOLEAN, spare [0] NULL,
-- last [PRIVATE 0] OCTET STRING (SIZE (2)) }
use Rattle.std.specs.Prelude.{[], ◌∷◌, refl}
use Rattle.rasn_below.specs.OwnTags.{AreApart}
use Rattle.rasn_below.specs.Page.{TypeLists, application, at, boolean, integer, null, octet_string, own_tags, private}
use Rattle.rasn_below.specs.Page.{size◌to◌, u8, under, ◌to◌}
use Rattle.rasn_below.specs.Types.{smallest}

abbrev pub classed : TypeLists
classed = own_tags (
    boolean ∷
    under (application 1) (integer u8 (0 to 7)) ∷
    under (at 0) null ∷
    under (private 0) (octet_string (size 2 to 2)) ∷ [])

pub classed_apart : AreApart classed
unfolding smallest
classed_apart = record { distinct = refl; few = refl }
