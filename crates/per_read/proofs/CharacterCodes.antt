-- Characters and their codes (X.691 30.5.4).
use Rattle.std.proofs.Common.{◌≡◌, ◌∙◌, ℕ, Bool, true, false, List, [], ◌∷◌, ◌++◌, map, refl, sym, ap, ap₂, subst, Option, Some, None, append_assoc, arith, mod-eq_of_lt, replicate, slice_index_or, ◌^◌, ◌<◌, ◌≤◌, ◌⊎◌, IfSome, inl, inr}
use Rattle.std.proofs.lemmas.Bool.{and_from, and_parts, cases_lt}
use Rattle.std.proofs.lemmas.List.{get_or-replicate, get_or_past, length-replicate, map-append}
use Rattle.rasn_types.specs.Alphabets.{Alphabet, char_code, char_width, has, has_all}
use Rattle.rasn_types.specs.Bits.{Bits, to_bits}
use Rattle.rasn_types.proofs.Bits.{length-to_bits, number-to_bits}
use Rattle.rasn_strings.proofs.Codes.{code_fits}
use Rattle.per_bits.specs.Octets.{low_bits_of}
use Rattle.rasn_types.specs.Variants.{Variant}
use Rattle.rasn_constraints.specs.Bounds.{Size}
use Rattle.per_core.specs.Basic.{Char, OneByOne, String}
use Rattle.per_core.specs.Counts.{char_items}
use Rattle.per_core.specs.Spellings.{Settings, BitField, Took, NoneIn}
use Rattle.per_core.proofs.SpellingsAgree.{Agree, field_agree}
use Rattle.per_core.proofs.LengthForms.{Zip, lengthy_agree}
use Rattle.per_core.proofs.TakenInTurn.{took_agree, took_map, took_nothing, took_then}
use Rattle.per_core.specs.Lengths.{counted_items}
use Rattle.per_core.specs.SizeFaults.{IsOfItems, HasUnknown, IsUnpermitted, IsOfString}
use Rattle.per_read.specs.Strings.{AreKnown, AreRead}
use Rattle.per_core.specs.declared.items.Item.{Item}
use Rattle.per_core.specs.declared.items.Item.TheVariants.{Character}
use Rattle.per_core.specs.declared.decode_error.DecodeErrorKind.{DecodeErrorKind}
use Rattle.per_core.specs.declared.decode_error.DecodeErrorKind.TheVariants.{PermittedAlphabet}
use Rattle.per_read.proofs.OfFields.{counted_items_tested}
use Rattle.per_read.proofs.Coded.{lengthy_as, zip_to, zip_equal}

-- before a code was read no character is known
pub none_known : (a : Alphabet) (n : ℕ) → AreKnown a (replicate n 0)
none_known a n = record { code = λ i h. absurd (nowhere i h); permitted = λ i h. absurd (nowhere i h) }
  where
    nowhere : (i : ℕ) → 0 < slice_index_or (replicate n 0) i 0 → ⊥
    nowhere i h = go (cases_lt i n)
      where
        go : (i < n) ⊎ (n ≤ i) → ⊥
        go (inl l) = omega (arith, h, get_or-replicate {A = ℕ} n i 0 0 l)
        go (inr l) = omega (arith, h, get_or_past {X = ℕ} (replicate n 0) i 0 (omega (arith, length-replicate {A = ℕ} n 0, l)))

module _ (a : Alphabet) (flag : Bool) (characters xs : List ℕ) (code : ℕ) where
  -- where one code had no character, a further one changes nothing
  pub unknown_more : flag ≡ true → AreRead a flag characters xs → AreRead a flag characters (xs ++ code ∷ [])
  unknown_more e h = subst (λ z. AreRead a z characters (xs ++ code ∷ [])) (sym e) (go (subst (λ z. AreRead a z characters xs) e h))
    where
      go : HasUnknown a.variant a.characters xs → HasUnknown a.variant a.characters (xs ++ code ∷ [])
      go k = record {
        front = k.front;
        code = k.code;
        rest = k.rest ++ code ∷ [];
        joins = ap (λ z. z ++ code ∷ []) k.joins ∙ append_assoc k.front (k.code ∷ k.rest) (code ∷ []);
        none = k.none;
      }

  -- a code that has none
  pub unknown_now : ((c : ℕ) → char_code a.variant a.characters c ≡ Some code → ⊥) → AreRead a true characters (xs ++ code ∷ [])
  unknown_now none = record { front = xs; code = code; rest = []; joins = refl; none = none }

-- a code that has one
pub known_more : (a : Alphabet) (flag : Bool) (characters xs : List ℕ) (character code : ℕ) → char_code a.variant a.characters character ≡ Some code → AreRead a flag characters xs
    → AreRead a flag (characters ++ character ∷ []) (xs ++ code ∷ [])
known_more a true characters xs character code e h = unknown_more a true characters xs code refl h
known_more a false characters xs character code e h =
    map-append (char_code a.variant a.characters) characters (character ∷ []) ∙ ap₂ (λ ys zs. ys ++ zs) h (ap (λ z. z ∷ []) e) ∙ sym (map-append Some xs (code ∷ []))

-- what was read, where no code had no character, and where one had none
pub read_known : (a : Alphabet) (flag : Bool) (characters codes : List ℕ) → flag ≡ false → AreRead a flag characters codes → map (char_code a.variant a.characters) characters ≡ map Some codes
read_known a false characters codes e h = h
read_known a true characters codes e h = absurd (cc)

pub read_unknown : (a : Alphabet) (flag : Bool) (characters codes : List ℕ) → flag ≡ true → AreRead a flag characters codes → HasUnknown a.variant a.characters codes
read_unknown a true characters codes e h = h
read_unknown a false characters codes e h = absurd (cc)

-- one alphabet
pub same_alphabet : (al : Alphabet) (v : Variant) (cs : List ℕ) → al.variant ≡ v → al.characters ≡ cs → al ≡ record { variant = v; characters = cs }
same_alphabet al v cs e i = ap (λ z. record { variant = z; characters = al.characters }) e ∙ ap (λ z. record { variant = v; characters = z }) i

module _ (a : Settings) (alphabet : List ℕ) (size : Size) (mark : Bool) where
  abbrev pub CharacterItem : Item
  CharacterItem = Character (char_width a.variant alphabet)

  abbrev IsCode : ℕ → ℕ → Type 0
  IsCode n c = char_code a.variant alphabet c ≡ Some n

  -- characters where their codes are
  pub characters_took : (characters codes : List ℕ) {s t : Bits} → map (char_code a.variant alphabet) characters ≡ map Some codes → Took (counted_items a size mark CharacterItem codes) s t
      → Took (String a alphabet size mark characters) s t
  characters_took characters codes e b =
      took_map (λ p c h. lengthy_as IsCode (BitField (char_width a.variant alphabet)) (Char a alphabet) (λ n c p b i f. record { index = n; is = i; spelled = f }) a size mark
      (char_items (char_width a.variant alphabet)) codes characters p c (zip_turned characters codes (zip_equal (char_code a.variant alphabet) Some characters codes e)) h) b
    where
      zip_turned : (cs ns : List ℕ) → Zip (λ c n. char_code a.variant alphabet c ≡ Some n) cs ns → Zip IsCode ns cs
      zip_turned [] [] z = tt
      zip_turned [] (n ∷ ns) z = absurd z
      zip_turned (c ∷ cs) [] z = absurd z
      zip_turned (c ∷ cs) (n ∷ ns) z = (z.0, zip_turned cs ns z.1)

  -- and codes where there are characters
  code_in : Option ℕ → ℕ
  code_in None = 0
  code_in (Some n) = n

  code_of : ℕ → ℕ
  code_of c = code_in (char_code a.variant alphabet c)

  as_code : (c n p : ℕ) (b : Bits) → code_of c ≡ n → Char a alphabet c p b → BitField (char_width a.variant alphabet) n p b
  unfolding code_of code_in
  as_code c n p b e h = subst (λ z. BitField (char_width a.variant alphabet) z p b) (sym (ap code_in h.is) ∙ e) h.spelled

  pub none_of_characters : {s : Bits} → NoneIn (counted_items a size mark CharacterItem) s → NoneIn (String a alphabet size mark) s
  none_of_characters none cs t b =
      none (map code_of cs) t
      (took_map (λ p c h. lengthy_as (λ (x n : ℕ). code_of x ≡ n) (Char a alphabet) (BitField (char_width a.variant alphabet)) as_code a size mark (char_items (char_width a.variant alphabet)) cs
      (map code_of cs) p c (zip_to code_of cs) h) b)

  pub string_kind : (s : Bits) (k : DecodeErrorKind) → IsOfItems a size mark CharacterItem s k → IsOfString a alphabet size mark s k
  string_kind s PermittedAlphabet h = absurd (counted_items_tested a size mark CharacterItem s PermittedAlphabet h)
  string_kind s _ h = h

  -- a code that no character has leaves no string
  one_reading : (n c : ℕ) → Agree (IsCode n c) (BitField (char_width a.variant alphabet) n) (Char a alphabet c)
  one_reading n c = record {
    agree = λ p b d s t x y e.
        let r = (field_agree (char_width a.variant alphabet) n y.index).agree p b d s t x y.spelled e in
        (y.is ∙ ap Some (sym r.0), r.1);
  }

  pub unpermitted : (codes : List ℕ) {s t : Bits} → HasUnknown a.variant alphabet codes → Took (counted_items a size mark CharacterItem codes) s t
      → IsUnpermitted a alphabet size mark s × NoneIn (String a alphabet size mark) s
  unpermitted codes {s} {t} u b = (
    record { codes = codes; rest = t; took = b; unknown = u },
    λ cs v c.
        let z = (took_agree (lengthy_agree IsCode (BitField (char_width a.variant alphabet)) (Char a alphabet) one_reading a size mark (char_items (char_width a.variant alphabet)) codes cs) b c).0 in
        go u.front u.rest cs (subst (λ x. Zip IsCode x cs) u.joins z),
  )
    where
      go : (front rest cs : List ℕ) → Zip IsCode (front ++ u.code ∷ rest) cs → ⊥
      go [] rest [] z = z
      go [] rest (c ∷ cs) z = u.none c z.0
      go (n ∷ front) rest [] z = z
      go (n ∷ front) rest (c ∷ cs) z = go front rest cs z.1

-- ---- characters whose codes are their own values

-- the characters of one alphabet are among those of another
pub has_all_among : (xs ys cs : List ℕ) → ((c : ℕ) → has xs c ≡ true → has ys c ≡ true) → has_all xs cs ≡ true → has_all ys cs ≡ true
has_all_among xs ys [] h e = refl
has_all_among xs ys (c ∷ cs) h e = let p = and_parts (has xs c) (has_all xs cs) e in and_from (has ys c) (has_all ys cs) (h c p.0) (has_all_among xs ys cs h p.1)

-- with all of these after those that were read
pub known_all : (a : Alphabet) (flag : Bool) (characters xs cs : List ℕ) → map (char_code a.variant a.characters) cs ≡ map Some cs → AreRead a flag characters xs → AreRead a flag (characters ++ cs) (xs ++ cs)
known_all a true characters xs cs e h = record {
  front = h.front;
  code = h.code;
  rest = h.rest ++ cs;
  joins = ap (λ z. z ++ cs) h.joins ∙ append_assoc h.front (h.code ∷ h.rest) cs;
  none = h.none;
}
known_all a false characters xs cs e h =
    map-append (char_code a.variant a.characters) characters cs ∙ ap₂ (λ ys zs. ys ++ zs) h e ∙ sym (map-append Some xs cs)

-- their bits are spelled by them
pub own_took : (a : Alphabet) (cs : List ℕ) → map (char_code a.variant a.characters) cs ≡ map Some cs →
    Took (OneByOne (BitField (char_width a.variant a.characters)) cs) (low_bits_of (char_width a.variant a.characters) cs) []
own_took a [] e = took_nothing []
own_took a (c ∷ cs) e =
    let w = char_width a.variant a.characters in
    let first : char_code a.variant a.characters c ≡ Some c = cc in
    let others : map (char_code a.variant a.characters) cs ≡ map Some cs = cc in
    let below : c < 2 ^ w = subst (λ (o : Option ℕ). IfSome o (λ k. k < 2 ^ w)) first (code_fits a.variant a.characters c) in
    took_then {f = BitField w c} {g = OneByOne (BitField w) cs} {s = to_bits w c ++ low_bits_of w cs} {m = low_bits_of w cs} {t = []} (record {
      front = to_bits w c;
      joins = refl;
      spelled = record { wide = length-to_bits w c; means = number-to_bits w c ∙ mod-eq_of_lt below };
    }) (own_took a cs others)
