-- many_extended ::= SEQUENCE {
--   a BOOLEAN OPTIONAL, b outer1 OPTIONAL, c INTEGER (0..7) OPTIONAL, d outer2 OPTIONAL,
--   e OCTET STRING (SIZE (1)) OPTIONAL, f flagged OPTIONAL, g BOOLEAN OPTIONAL, h Alt2 OPTIONAL,
--   i INTEGER (0..255) OPTIONAL, j outer3 OPTIONAL, k NULL OPTIONAL, l outer1 OPTIONAL, m INTEGER OPTIONAL,
--   n flagged OPTIONAL, o BOOLEAN OPTIONAL, p outer3 OPTIONAL, ..., more flagged OPTIONAL }
use Rattle.std.specs.Prelude.{[], ◌∷◌}
use Rattle.rasn_below.specs.Page.{TypeLists, any, big, boolean, choice, extensible_automatic, integer, null, optional}
use Rattle.rasn_below.specs.Page.{octet_string, sequence, u8, ◌to◌, size◌to◌}
use Rattle.per_samples_b.specs.Outers.{flagged, outer1, outer2, outer3}
use Rattle.per_samples_b.specs.Second.{alt2}

abbrev pub many_extended : TypeLists
many_extended = extensible_automatic (
    optional boolean ∷ optional (sequence outer1) ∷ optional (integer u8 (0 to 7)) ∷ optional (sequence outer2) ∷
    optional (octet_string (size 1 to 1)) ∷ optional (sequence flagged) ∷ optional boolean ∷ optional (choice alt2) ∷
    optional (integer u8 (0 to 255)) ∷ optional (sequence outer3) ∷ optional null ∷ optional (sequence outer1) ∷
    optional (integer big any) ∷ optional (sequence flagged) ∷ optional boolean ∷ optional (sequence outer3) ∷ [])
    (optional (sequence flagged) ∷ [])
