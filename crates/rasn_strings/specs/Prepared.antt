-- What a `CharacterAlphabet` keeps, and the alphabet that it stands for.
use Rattle.std.specs.Prelude.{ℕ, ◌≡◌, ◌≤◌, ◌^◌, Bool, true, false, nat_le, nat_lt, ◌&&◌, List, map, Option, None, Some}
use Rattle.std.specs.Prelude.{option_map}
use Rattle.std.specs.Borrow.{Bor}
use Rattle.rasn_types.specs.Alphabets.{Alphabet, char_code, char_width, greatest, has, has_all, restricted_to}
use Rattle.rasn_strings.specs.Intervals.{expand, ascend_from}
use Rattle.rasn_strings.specs.Walks.{rises_from}
use Rattle.rasn_types.specs.Variants.{variant_when}
use Rattle.rasn_strings.specs.declared.intervals.Interval.{Interval}

-- X.691 30.4, 30.5: the alphabet of a type's intervals, of which a list of characters may permit some
abbrev pub alphabet_of : List Interval → Option (List ℕ) → Bool → Alphabet
alphabet_of own permitted is_aligned = record {
  variant = variant_when is_aligned;
  characters =
      restricted_to (expand own) permitted;
}

-- a list behind a reference, where there is one
abbrev pub listed : Option (Bor (List ℕ)) → Option (List ℕ)
listed permitted = option_map (λ p. p.now) permitted

-- whether a list is given that ascends strictly and has only characters of the type, so that it is itself what is
-- permitted
abbrev pub is_in_order : List ℕ → Option (List ℕ) → Bool
is_in_order own None = false
is_in_order own (Some some) = rises_from 0 some && has_all own some

-- what is kept fits the alphabet: the bits of a character, whether each is written as its own value (X.691 30.5.4), an
-- interval of permitted characters, and whether the list is in order
pub record IsPrepared (own : List Interval) (permitted_list : Option (List ℕ)) (alphabet : Alphabet)
    (width : ℕ) (own_values : Bool) (run : Interval) (ascending : Bool) : Type 0 where
  pub ascends : ascend_from 0 own ≡ true
  pub width_is : width ≡ char_width alphabet.variant alphabet.characters
  pub few : width ≤ 16
  pub own_values_are : own_values ≡ nat_lt (greatest alphabet.characters) (2 ^ width)
  pub permitted : (c : ℕ) → (nat_le run.first c && nat_le c run.last) ≡ true → has alphabet.characters c ≡ true
  pub ascending_is : ascending ≡ is_in_order (expand own) permitted_list

-- X.691 30.5.4: some characters are permitted, and each is written as its own value
pub record AreOwn (alphabet : Alphabet) (characters : List ℕ) : Type 0 where
  pub permitted : has_all alphabet.characters characters ≡ true
  pub codes : map (char_code alphabet.variant alphabet.characters) characters ≡ map Some characters
