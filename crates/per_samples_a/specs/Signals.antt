-- Bits that have names (ITU-T X.680, 22.1).
use Rattle.std.specs.Prelude.{[], ◌∷◌}
use Rattle.rasn_below.specs.Page.{automatic, optional, named_bits, TypeLists, any, size◌to◌, extensible}

-- SEQUENCE {
--     any Lights, bounded Lights (SIZE (2..8)), marked Lights (SIZE (4, ...)) OPTIONAL
-- }, where Lights ::= BIT STRING { red(0), yellow(1), green(2) }
abbrev pub signals : TypeLists
signals = automatic (
    named_bits any ∷
    named_bits (size 2 to 8) ∷
    optional (named_bits (extensible (size 4 to 4))) ∷ [])
