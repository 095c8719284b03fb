-- Carrier ::= SEQUENCE {
--   id CARRIED.&id ({Pairs}), value CARRIED.&Type ({Pairs}{@id}),
--   payload OCTET STRING (CONTAINING Pair), short OCTET STRING (CONTAINING Pair) (SIZE (1..4))
-- }, where each object of Pairs has the type Pair
use Rattle.std.specs.Prelude.{[], ◌∷◌}
use Rattle.rasn_below.specs.Page.{TypeLists, automatic, containing, integer, octet_string, open_type_of, sequence}
use Rattle.rasn_below.specs.Page.{size◌to◌, u8, ◌to◌}
use Rattle.per_samples_a.specs.Pairs.{pair}

abbrev pub carrier : TypeLists
carrier =
    automatic (integer u8 (0 to 255) ∷ open_type_of (sequence pair) ∷ containing (sequence pair) ∷
    octet_string (size 1 to 4) ∷ [])
