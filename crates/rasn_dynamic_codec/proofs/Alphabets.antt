-- The characters of a kind are characters of BMPString; and what a permitted alphabet leaves are characters of the kind.
use Rattle.std.proofs.Common.{◌≡◌, refl, sym, ◌∙◌, ℕ, ◌+◌, ◌<◌, ◌^◌, ◌⊎◌, inl, inr, Bool, true, false, List, [], ◌∷◌, Option, Some, None, arith}
use Rattle.std.specs.Global.{Vec}
use Rattle.std.specs.Prelude.{◌&&◌, nat_lt, option_map}
use Rattle.std.proofs.lemmas.Bool.{and_from, and_parts, cases_Bool, le-leb, lt-ltb}
use Rattle.rasn_types.specs.Alphabets.{bmp, has, has_all, restricted}
use Rattle.rasn_schema.specs.Forms.{alphabet_of}
use Rattle.rasn_strings.specs.Intervals.{ascend_from, expand}
use Rattle.rasn_strings.specs.declared.intervals.Interval.{Interval}
use Rattle.rasn_strings.proofs.Ascending.{has-restricted, small}
use Rattle.rasn_strings.proofs.IntervalsOf.{has-interval_of}
use Rattle.rasn_dynamic.specs.declared.types.CharacterString.{CharacterString}
use Rattle.rasn_dynamic.specs.Types.{of_characters}

-- characters of ascending intervals are characters of BMPString
pub wide : (is : List Interval) (c : ℕ) → ascend_from 0 is ≡ true → has (expand is) c ≡ true → has bmp c ≡ true
wide is c e h = let s = small 0 is c e h in has-interval_of 65536 0 c ∙ and_from _ _ (le-leb 0 c (omega arith)) (lt-ltb c 65536 (omega arith))

-- characters of a list are characters of one that has all of its
pub wider : (xs ys cs : List ℕ) → ((c : ℕ) → has xs c ≡ true → has ys c ≡ true) → has_all xs cs ≡ true → has_all ys cs ≡ true
wider xs ys [] h e = refl
wider xs ys (c ∷ cs) h e = let p = and_parts (has xs c) (has_all xs cs) e in and_from (has ys c) _ (h c p.0) (wider xs ys cs h p.1)

-- where characters aren't of the type, they aren't permitted ones
fewer : (own some cs : List ℕ) → has_all own cs ≡ false → has_all (restricted own some) cs ≡ false
fewer own some cs e = elim (cases_Bool (has_all (restricted own some) cs)) [
  | inl t ↦ absurd (let f : true ≡ false = sym (wider (restricted own some) own cs (λ c h. (and_parts (has own c) (has some c) (sym (has-restricted own some c) ∙ h)).0) t) ∙ e in cc)
  | inr f ↦ f
]

pub not_permitted : (own : List ℕ) (string : CharacterString) (cs : List ℕ) → has_all own cs ≡ false → has_all (alphabet_of own (of_characters string)) cs ≡ false
not_permitted own string cs e = go string.alphabet
  where
    go : (o : Option (Vec ℕ)) → has_all (alphabet_of own (of_characters (record string { alphabet = o }))) cs ≡ false
    go None = e
    go (Some v) = fewer own v.items cs e
