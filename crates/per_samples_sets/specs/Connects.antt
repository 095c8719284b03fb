-- SEQUENCE { key CHOICE { object OBJECT IDENTIFIER, other OCTET STRING }, pdu OCTET STRING }, with automatic tags
use Rattle.std.specs.Prelude.{[], ◌∷◌}
use Rattle.rasn_below.specs.Page.{any, automatic, choice, object_identifier, octet_string, TypeLists}

-- the alternatives of the key
abbrev pub key : TypeLists
key = automatic (object_identifier ∷ octet_string any ∷ [])

-- the components of the SEQUENCE
abbrev pub connect : TypeLists
connect = automatic (choice key ∷ octet_string any ∷ [])
