-- The fault that a refused reading names, where it is in bits.
use Rattle.std.specs.Prelude.{◌≡◌, ◌⊎◌, ℕ, Bool, true, false, List, ◌∷◌, length, Option, Some, None}
use Rattle.rasn_types.specs.Bits.{Bits, unpack}
use Rattle.rasn_types.specs.Values.{Value, root, added}
use Rattle.rasn_types.specs.declared.types.Tag.{Tag}
use Rattle.rasn_types.specs.declared.types.Codec.{Codec}
use Rattle.rasn_constraints.specs.Bounds.{Size}
use Rattle.rasn_schema.specs.Orders.{canonised}
use Rattle.rasn_schema.specs.Structures.{alternative_at, choice_schema, tags_of, field_tag, tag_of, presence_bits}
use Rattle.rasn_schema.specs.Structures.{extended}
use Rattle.rasn_schema.specs.Schemas
use Rattle.rasn_schema.specs.Schemas.{TagTree, Presence, by_tag, required, Schema, Parts, no_parts, part}
use Rattle.per_core.specs.Spellings.{Settings, Took, NoneIn}
use Rattle.per_core.specs.Basic.{basic, rules, Body, ExtensionBit, Flags, IsBitmap, Octets, Root}
use Rattle.per_core.specs.IndexFaults.{IsOfIndex, index_form, IsOfExtension, IsOfItem}
use Rattle.per_core.specs.BitFieldFaults.{Behind, IsOfBitField, IsOfUnconstrained, Says}
use Rattle.per_core.specs.SizeFaults.{IsOfList, IsOfItems, IsOfString, IsOfText}
use Rattle.per_core.specs.TimeFaults.{IsOfIdentifier, IsOfTime, IsOfDate}
use Rattle.per_core.specs.NumberFaults.{IsOfNumber}
use Rattle.per_core.specs.Lengths.{UpTo}
use Rattle.per_core.specs.AdditionFaults.{Addition, NextFlag, rule_of, IsOfBitmap, IsOfUnknown, skipped_unknown, Shown}
use Rattle.per_core.specs.AdditionFaults.{Extension, ahead, extension_of}
use Rattle.per_core.specs.Ends.{IsOfEnd}
use Rattle.per_core.specs.declared.items.Item.TheVariants.{Octet, Bit}
use Rattle.per_core.specs.declared.decode_error.DecodeErrorKind.{DecodeErrorKind}
use Rattle.per_core.specs.declared.decode_error.DecodeErrorKind.TheVariants.{ExceedsMaxParseDepth, RealNotSupported}
use Rattle.per_core.specs.declared.decode_error.DecodeErrorKind.TheVariants.{RequiredExtensionNotPresent}
use Rattle.per_core.specs.declared.decode_error.DecodeError.{DecodeError}

-- what a kind says where no level is left
abbrev pub IsOfCut : DecodeErrorKind → Type 0
IsOfCut ExceedsMaxParseDepth = Unit {0}
IsOfCut k = ⊥

-- what a kind says of a REAL (X.691 15), which isn't supported
abbrev pub IsOfReal : DecodeErrorKind → Type 0
IsOfReal RealNotSupported = Unit {0}
IsOfReal k = ⊥

-- X.691 19.1, 19.2: of the extension bit of a record, or of the presence bits of its root components after that
abbrev pub IsOfHead : Settings → Parts → Bool → Says
IsOfHead a ps marker s k = IsOfExtension marker s k
    ⊎ ((extends : Bool) × Behind (ExtensionBit marker extends) (IsOfBitField (presence_bits ps)) s k)

-- What a kind says of the first of bits, as a schema reads them. Kinds that no call answers yet say what never holds.
abbrev pub IsAt : Settings → Schema → Bits → DecodeErrorKind → Type 0
IsAt a Schema.boolean s k = IsOfBitField 1 s k
IsAt a Schema.null s k = ⊥
IsAt a (Schema.number bounds mark range) s k = IsOfNumber a bounds mark range s k
IsAt a (Schema.items r e ext) s k = IsOfItem a r e ext s k
IsAt a (Schema.choice ps adds ext) s k = IsOfIndex a (length (tags_of ps)) (length (tags_of adds)) ext s k
IsAt a (Schema.octet_string size mark) s k = IsOfItems a size mark Octet s k
IsAt a (Schema.bit_string size mark named) s k = IsOfItems a size mark Bit s k
IsAt a (Schema.char_string alphabet size mark) s k = IsOfString a alphabet size mark s k
IsAt a (Schema.text kind) s k = IsOfText a kind s k
IsAt a Schema.identifier s k = IsOfIdentifier a s k
IsAt a (Schema.time kind) s k = IsOfTime a kind s k
IsAt a Schema.date s k = IsOfDate a s k
IsAt a Schema.real s k = IsOfReal k
IsAt a (Schema.containing e) s k = ⊥
IsAt a (Schema.list e size mark) s k = IsOfList a size mark (basic a e) s k
IsAt a (Schema.set_of e size mark) s k = IsOfList a size mark (basic a e) s k
IsAt a Schema.cut s k = IsOfCut k
IsAt a (Schema.sequence o ps marker qs) s k = IsOfHead a ps marker s k
IsAt a Schema.any s k = IsOfUnconstrained a 8 s k

-- a required addition isn't there, of this tag (X.691 19.9)
pub record IsOfLacking (t : Schemas.Tag) (k : DecodeErrorKind) : Type 0 where
  pub tag : Tag
  pub named : tag_of tag ≡ t
  pub is : k ≡ RequiredExtensionNotPresent tag

mutual
  -- The fault that a kind names is in bits, as a schema reads them: at once, in a root component of a record, in
  -- its bitmap or after that, in the alternative of a choice, after an extension marker in its open type, in octets
  -- that contain a value, which are an open type (X.691 11.2), or in an element of a list or a bag, after others. In a
  -- SET it is where it does in the SEQUENCE of its components in ascending order of their tags (X.691 21.1).
  pub data IsInBits (a : Settings) (k : DecodeErrorKind) : Schema → Bits → Type 0 where
    at_once : {c : Schema} {s : Bits} → IsAt a c s k → IsInBits a k c s
    in_root : {ps qs : Parts} {marker : Bool} {s m n : Bits} (extends : Bool) (flags : List Bool)
        → Took (ExtensionBit marker extends) s m → Took (Flags (rules a ps) flags) m n → IsInParts a k ps flags n
        → IsInBits a k (extended ps marker qs) s
    after_root : {ps qs : Parts} {marker : Bool} {s m n : Bits} (extends : Bool) (rs : List (Option Value))
        → Took (ExtensionBit marker extends) s m → Took (Root (rules a ps) rs) m n
        → IsInTail a k qs (extension_of extends) n
        → IsInBits a k (extended ps marker qs) s
    in_set : {ps qs : Parts} {marker : Bool} {s : Bits} → IsInBits a k (extended (canonised ps) marker qs) s
        → IsInBits a k (Schema.sequence by_tag ps marker qs) s
    in_alternative : {ps qs : Parts} {marker : Bool} {n : ℕ} {c : Schema} {s m : Bits}
        → Took (index_form a (length (tags_of ps)) (length (tags_of qs)) marker (root, n)) s m
        → alternative_at ps n ≡ Some c → IsInBits a k c m → IsInBits a k (choice_schema ps marker qs) s
    in_added_alternative : {ps qs : Parts} {marker : Bool} {n : ℕ} {c : Schema} {s m : Bits}
        → Took (index_form a (length (tags_of ps)) (length (tags_of qs)) marker (added, n)) s m
        → alternative_at qs n ≡ Some c → IsInOpen a k c m → IsInBits a k (choice_schema ps marker qs) s
    in_containing : {e : Schema} {s : Bits} → IsInOpen a k e s → IsInBits a k (Schema.containing e) s
    in_element : {e : Schema} {size : Size} {mark : Bool} {s m : Bits} (vs : List Value)
        → Took (UpTo a size mark (basic a e) vs) s m → IsInBits a k e m → IsInBits a k (Schema.list e size mark) s
    in_member : {e : Schema} {size : Size} {mark : Bool} {s m : Bits} (vs : List Value)
        → Took (UpTo a size mark (basic a e) vs) s m → IsInBits a k e m → IsInBits a k (Schema.set_of e size mark) s

  -- It is in a component that its presence bit shows, after those before it.
  pub data IsInParts (a : Settings) (k : DecodeErrorKind) : Parts → List Bool → Bits → Type 0 where
    here : {t : TagTree} {p : Presence} {c : Schema} {ps : Parts} {s : Bits} {bs : List Bool}
        → IsInBits a k c s → IsInParts a k (part t p c ps) (true ∷ bs) s
    later : {t : TagTree} {p : Presence} {c : Schema} {ps : Parts} {b : Bool} {bs : List Bool} (r : Option Value)
        {s m : Bits}
        → Took (Body (record { presence = p; spells = basic a c }) b r) s m → IsInParts a k ps bs m
        → IsInParts a k (part t p c ps) (b ∷ bs) s

  -- It is in the bitmap of additions, where that is still ahead, or after it, in an addition (X.691 19.7 to 19.9).
  pub data IsInTail (a : Settings) (k : DecodeErrorKind) : Parts → Extension → Bits → Type 0 where
    in_bitmap : {qs : Parts} {s : Bits} → IsOfBitmap a s k → NoneIn (IsBitmap a) s → IsInTail a k qs ahead s
    after_bitmap : {qs : Parts} {x : Extension} {s m : Bits} (flags : List Bool) → Took (Shown a x flags) s m
        → IsInAdditions a k qs flags m
        → IsInTail a k qs x s

  -- It is in an addition, after those before it: in one that its presence bit shows, in that a required one isn't
  -- there, or in one that the schema doesn't know (X.691 19.9).
  pub data IsInAdditions (a : Settings) (k : DecodeErrorKind) : Parts → List Bool → Bits → Type 0 where
    in_addition : {t : TagTree} {p : Presence} {c : Schema} {qs : Parts} {flags rest : List Bool} {s : Bits}
        → NextFlag flags (Some true) rest → IsInOpen a k c s → IsInAdditions a k (part t p c qs) flags s
    lacking : {t : TagTree} {c : Schema} {qs : Parts} {flags rest : List Bool} {s : Bits}
        → NextFlag flags (Some false) rest ⊎ NextFlag flags None rest → IsOfLacking (field_tag t) k
        → IsInAdditions a k (part t required c qs) flags s
    further : {t : TagTree} {p : Presence} {c : Schema} {qs : Parts} {flags rest : List Bool} {s m : Bits}
        (flag : Option Bool) (r : Option Value) → NextFlag flags flag rest
        → Took (Addition a (rule_of a p c) r flag) s m
        → IsInAdditions a k qs rest m → IsInAdditions a k (part t p c qs) flags s
    in_unknown : {flags : List Bool} {s : Bits} → IsOfUnknown flags a s k → NoneIn (skipped_unknown flags a) s
        → IsInAdditions a k no_parts flags s

  -- It is in an open type: in its length or its octets, in the value in them, or at their end (X.691 11.1, 11.2).
  pub data IsInOpen (a : Settings) (k : DecodeErrorKind) : Schema → Bits → Type 0 where
    in_octets : {c : Schema} {s : Bits} → IsOfUnconstrained a 8 s k → NoneIn (Octets a) s → IsInOpen a k c s
    in_contents : {c : Schema} {s m : Bits} (octets : List ℕ) → Took (Octets a octets) s m
        → IsInBits a k c (unpack octets)
        → IsInOpen a k c s
    at_their_end : {c : Schema} {s m left : Bits} (octets : List ℕ) (v : Value) → Took (Octets a octets) s m
        → Took (basic a c v) (unpack octets) left → IsOfEnd a left (length (unpack octets)) k → IsInOpen a k c s

-- An error says, under a variant, that a required addition of a tag isn't there.
pub record NamesLacking (t : Schemas.Tag) (c : Codec) (e : DecodeError) : Type 0 where
  pub tag : Tag
  pub named : tag_of tag ≡ t
  pub is : e ≡ record { kind = RequiredExtensionNotPresent tag; codec = c }
