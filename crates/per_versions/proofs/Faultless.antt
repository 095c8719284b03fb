-- No fault for which an encoder refuses a value is in what was read.
use Rattle.std.proofs.Common.{◌≡◌, refl, sym, ap, subst, ◌∙◌, ℕ, zero, suc, ◌<◌, ◌-◌, ◌^◌, ◌⊎◌, Bool, true, false, cond, not, ◌&&◌, ◌||◌, ltb, List, [], ◌∷◌, map, length, get_or, inl, inr, Option, Some, None, ℤ, pos, negsuc, arith, le-leb, leb-true, leb}
use Rattle.std.proofs.Math.Nat.{le_trans}
use lib.Signed.{le_z}
use Rattle.rasn_types.specs.Alphabets.{index_of, keep_own, char_code, char_width, greatest, visible}
use Rattle.rasn_types.specs.Bits.{Bits}
use Rattle.rasn_types.specs.Values.{Value, Side, root, added, whole, truth, nothing, item, octets, bits, characters, elements, fields, alternative, day, bag_of, as_values, as_slots, values, put, sorted, before, code}
use Rattle.rasn_types.specs.Variants.{Variant}
use Rattle.rasn_types.proofs.Values.{values-as_values}
use Rattle.rasn_constraints.specs.Bounds.{allows, holds, not_below, not_above, fits_i128, Bounds, Size, any_size}
use Rattle.rasn_constraints.specs.Bounds.{unbounded, value_of, lower_of, upper_of}
use Rattle.rasn_schema.specs.Structures.{no_value}
use Rattle.rasn_schema.specs.Depth.{meets_cut}
use Rattle.rasn_schema.specs.Lawful.{IsLawful}
use Rattle.per_laws.proofs.Named.{normal_allowed}
use Rattle.rasn_schema.specs.Normal.{normal, normal_at, normal_bits, over_alternative, over_bag}
use Rattle.rasn_schema.specs.Schemas
use Rattle.rasn_schema.specs.Schemas.{Schema}
use Rattle.per_core.specs.Basic.{Char, IsNumber, Marked, number_spelling, String, basic_in, fills}
use Rattle.per_core.specs.Counts.{char_items}
use Rattle.per_core.specs.Spellings.{Settings}
use Rattle.per_core.proofs.Counting.{length-map'}
use Rattle.per_core.proofs.LengthForms.{and_left, and_right}
use Rattle.per_core.specs.ItemCounts.{Each}
use Rattle.per_core.specs.WritingFaults.{IsInValue, Outside, OutsideSize, IsPast, has_bound, HasForeign, IsOutOfBounds}
use Rattle.per_core.specs.WritingFaults.{IsPastBounds, IsOutOfSize, IsForeign, IsUnlawful, IsReal, IsAbsent, IsOther}
use Rattle.per_core.specs.WritingFaults.{StandsIn, at_once, in_part, in_addition, in_set, in_contents, in_element}
use Rattle.per_core.specs.WritingFaults.{in_member, in_alternative}
use Rattle.per_core.specs.declared.encode_error.EncodeErrorKind.{EncodeErrorKind}
use Rattle.per_core.specs.declared.encode_error.EncodeErrorKind.TheVariants.{SizeConstraintNotSatisfied}
use Rattle.per_core.specs.declared.encode_error.EncodeErrorKind.TheVariants.{ValueConstraintNotSatisfied}
use Rattle.per_core.specs.declared.encode_error.EncodeErrorKind.TheVariants.{AlphabetConstraintNotSatisfied}
use Rattle.per_core.specs.declared.encode_error.EncodeErrorKind.TheVariants.{IntegerTypeConversionFailed}
use Rattle.per_core.specs.declared.encode_error.EncodeErrorKind.TheVariants.{VariantNotInChoice, RealNotSupported}
use Rattle.per_core.specs.declared.encode_error.EncodeErrorKind.TheVariants.{TooManyAdditions, Below, AlreadyFailed}
use Rattle.per_core.specs.declared.encode_error.EncodeErrorKind.TheVariants.{OutOfMemory, OutOfTurn, WrongKind}
use Rattle.per_versions.specs.NumbersKept.{starts_in_i128, ends_in_i128, are_in_i128, keeps_numbers, keeps_to_i128}
use Rattle.per_versions.proofs.PartsRead.{IsGood, IsRead, in_root, in_additions, set_good, set_read, contained_good, contained_read, element_read, member_read, alternative_read}
use Rattle.per_versions.proofs.OfKinds.{not_other}
use Rattle.per_versions.proofs.Spelled.{Somewhere, lengthy_spelled}

no : {b : Bool} → b ≡ false → b ≡ true → ⊥
no e f = cc

-- a fault that no schema has in what it reads, is in none
module _ (fault : Schema → Value → Type 0) (asked : Bool) (a : Settings) (u : Bool)
    (never_at : (s : Schema) (w : Value) → IsGood asked s → IsRead a u s w → fault s w → ⊥) where
  pub faultless : {s : Schema} {w : Value} → StandsIn fault s w → IsGood asked s → IsRead a u s w → ⊥
  unfolding IsLawful keeps_to_i128
  faultless (at_once {s = s} {v = v} f) g r = never_at s v g r f
  faultless (in_part xs h st) g r = let q = in_root xs h g r in faultless st q.0 q.1
  faultless (in_addition rs h st) g r = let q = in_additions rs h g r in faultless st q.0 q.1
  faultless (in_set rs xs st) g r = faultless st (set_good g) (set_read rs xs r)
  faultless (in_contents st) g r = faultless st (contained_good g) (contained_read r)
  faultless (in_element h st) g r = faultless st (record { lawful = g.lawful.1; kept = g.kept }) (element_read h r)
  faultless (in_member h st) g r = faultless st (record { lawful = g.lawful.1; kept = g.kept }) (member_read h r)
  faultless (in_alternative e st) g r = let q = alternative_read e g r in faultless st q.0 q.1

module _ (a : Settings) (u : Bool) where
  -- a number is within the bounds of a constraint that isn't extensible
  pub within_bounds : (n l h : Option ℤ) (s : Schema) (w : Value) → IsRead a u s w → IsOutOfBounds n l h s w → ⊥
  unfolding basic_in normal
  within_bounds n l h (Schema.number bounds false range) w r f =
      let x = r.where_it_is.spelled in
      let g : Outside bounds x.of n l h = subst (IsOutOfBounds n l h (Schema.number bounds false range)) (r.is ∙ x.is) f in
      no g.out_of_bounds x.spelled.spelled.within
  within_bounds n l h _ w r f = f

  -- and no number of a constraint is past an i128
  spelled_fits : (l h : Option ℤ) (z : ℤ) (p : ℕ) (b : Bits) → has_bound (record { low = l; high = h }) ≡ true → number_spelling a l h z p b → fits_i128 z ≡ true
  spelled_fits None None z p b e x = absurd (cc)
  spelled_fits None (Some h) z p b e x = x.0
  spelled_fits (Some l) None z p b e x = x.0
  spelled_fits (Some l) (Some h) z p b e x = x.0

leb_chain : (l m n : ℕ) → leb l m ≡ true → leb m n ≡ true → leb l n ≡ true
leb_chain l m n h k = le-leb l n (le_trans (leb-true l m h) (leb-true m n k))

le_z_chain : (l m n : ℤ) → le_z l m ≡ true → le_z m n ≡ true → le_z l n ≡ true
le_z_chain (pos l) (pos m) (pos n) h k = leb_chain l m n h k
le_z_chain (pos l) (pos m) (negsuc n) h k = k
le_z_chain (pos l) (negsuc m) n h k = absurd (cc)
le_z_chain (negsuc l) (pos m) (pos n) h k = refl
le_z_chain (negsuc l) (pos m) (negsuc n) h k = absurd (cc)
le_z_chain (negsuc l) (negsuc m) (pos n) h k = refl
le_z_chain (negsuc l) (negsuc m) (negsuc n) h k = leb_chain n m l k h

one_of_two : (b c : Bool) → (b || c) ≡ true → (b ≡ true) ⊎ (c ≡ true)
one_of_two true c e = inl refl
one_of_two false c e = inr e

starts : (l : Option ℤ) (z : ℤ) → starts_in_i128 l ≡ true → not_below l z ≡ true → le_z (negsuc (2 ^ 127 - 1)) z ≡ true
starts None z e f = absurd (cc)
starts (Some l) z e f = le_z_chain (negsuc (2 ^ 127 - 1)) l z e f

ends : (h : Option ℤ) (z : ℤ) → ends_in_i128 h ≡ true → not_above h z ≡ true → le_z z (pos (2 ^ 127 - 1)) ≡ true
ends None z e f = absurd (cc)
ends (Some h) z e f = le_z_chain z h (pos (2 ^ 127 - 1)) f e

-- bounds on both sides keep a number to an i128
pub in_i128 : (bounds range : Bounds) (z : ℤ) → are_in_i128 bounds range ≡ true → holds bounds z ≡ true → holds range z ≡ true → fits_i128 z ≡ true
in_i128 bounds range z k e f =
    let lows = starts_in_i128 bounds.low || starts_in_i128 range.low in
    let highs = ends_in_i128 bounds.high || ends_in_i128 range.high in
    both (least (one_of_two (starts_in_i128 bounds.low) (starts_in_i128 range.low) (and_left lows highs k))) (most (one_of_two (ends_in_i128 bounds.high) (ends_in_i128 range.high) (and_right lows highs k)))
  where
    both : {b c : Bool} → b ≡ true → c ≡ true → (b && c) ≡ true
    both g h = cc

    least : (starts_in_i128 bounds.low ≡ true) ⊎ (starts_in_i128 range.low ≡ true) → le_z (negsuc (2 ^ 127 - 1)) z ≡ true
    least (inl h) = starts bounds.low z h (and_left (not_below bounds.low z) (not_above bounds.high z) e)
    least (inr h) = starts range.low z h (and_left (not_below range.low z) (not_above range.high z) f)

    most : (ends_in_i128 bounds.high ≡ true) ⊎ (ends_in_i128 range.high ≡ true) → le_z z (pos (2 ^ 127 - 1)) ≡ true
    most (inl h) = ends bounds.high z h (and_right (not_below bounds.low z) (not_above bounds.high z) e)
    most (inr h) = ends range.high z h (and_right (not_below range.low z) (not_above range.high z) f)

keeps_in : (bounds range : Bounds) → keeps_numbers bounds true range ≡ true → has_bound bounds ≡ true → are_in_i128 bounds range ≡ true
keeps_in bounds range k h = go (has_bound bounds) h k
  where
    go : (b : Bool) → b ≡ true → (not b || are_in_i128 bounds range) ≡ true → are_in_i128 bounds range ≡ true
    go true h k = k
    go false h k = absurd (cc)

-- items and their count
length-put : {X : Type 0} (less : X → X → Bool) (v : X) (vs : List X) → length (put less v vs) ≡ suc (length vs)
length-put less v [] = refl
length-put less v (w ∷ ws) = go (less w v) (length-put less v ws)
  where
    go : (t : Bool) → length (put less v ws) ≡ suc (length ws) → length (cond t (w ∷ put less v ws) (v ∷ w ∷ ws)) ≡ suc (suc (length ws))
    go true e = ap suc e
    go false e = refl

pub length-sorted : {X : Type 0} (less : X → X → Bool) (vs : List X) → length (sorted less vs) ≡ length vs
length-sorted less [] = refl
length-sorted less (v ∷ vs) = length-put less v (sorted less vs) ∙ ap suc (length-sorted less vs)

in_size : {size : Size} {m n c : ℕ} {l h : Option ℕ} → n ≡ m → allows size m ≡ true → OutsideSize size n c l h → ⊥
in_size {size} e h f = no f.out_of_size (subst (λ k. allows size k ≡ true) (sym e) h)

at_index : (P : ℕ → Type 0) (cs : List ℕ) (k : ℕ) → k < length cs → Each P cs → P (get_or cs k 0)
at_index P [] k l h = absurd (omega arith)
at_index P (c ∷ cs) zero l h = h.0
at_index P (c ∷ cs) (suc k) l h = at_index P cs k (omega arith) h.1

-- a character with a code is of the alphabet
has_place : (v : Variant) (alphabet : List ℕ) (c n : ℕ) → char_code v alphabet c ≡ Some n → index_of c alphabet ≡ None → ⊥
unfolding char_code
has_place v alphabet c n e f = go (index_of c alphabet) f e
  where
    go : (o : Option ℕ) → o ≡ None → keep_own (ltb (greatest alphabet) (2 ^ char_width v alphabet)) c o ≡ Some n → ⊥
    go None f e = cc
    go (Some i) f e = cc

module _ (a : Settings) (u : Bool) where
  within_i128 : (s : Schema) (w : Value) → IsGood true s → IsRead a u s w → IsPastBounds s w → ⊥
  unfolding basic_in normal keeps_to_i128
  within_i128 (Schema.number bounds mark range) w g r f =
      let x = r.where_it_is.spelled in
      let h : IsPast bounds x.of = subst (IsPastBounds (Schema.number bounds mark range)) (r.is ∙ x.is) f in
      go r.where_it_is.at r.where_it_is.bits mark x.of x.spelled.in_range x.spelled.spelled (g.kept refl) h
    where
      go : (p : ℕ) (b : Bits) (mark : Bool) (z : ℤ) → holds range z ≡ true → Marked mark (IsNumber a bounds) (IsNumber a unbounded) z p b → keeps_numbers bounds mark range ≡ true → IsPast bounds z → ⊥
      go p b false z i x k h = no h.past (spelled_fits a u bounds.low bounds.high z _ _ h.bound x.spelled)
      go p b true z i (inl x) k h = no h.past (spelled_fits a u bounds.low bounds.high z _ _ h.bound x.is_rest.spelled)
      go p b true z i (inr x) k h = no h.past (in_i128 bounds range z (keeps_in bounds range k h.bound) h.in_bounds i)
  within_i128 _ w g r f = f

  within_size : (n : ℕ) (l h : Option ℕ) (s : Schema) (w : Value) → IsRead a u s w → IsOutOfSize n l h s w → ⊥
  unfolding basic_in normal over_bag bag_of
  within_size n l h (Schema.octet_string size false) w r f =
      let x = r.where_it_is.spelled in
      in_size refl x.spelled.allowed (subst (IsOutOfSize n l h (Schema.octet_string size false)) (r.is ∙ x.is) f)
  within_size n l h (Schema.bit_string size false false) w r f =
      let x = r.where_it_is.spelled in
      in_size refl x.spelled.allowed (subst (IsOutOfSize n l h (Schema.bit_string size false false)) (r.is ∙ x.is) f)
  within_size n l h (Schema.bit_string size false true) w r f =
      let x = r.where_it_is.spelled in
      in_size refl (normal_allowed size x.of x.spelled.allowed)
      (subst (IsOutOfSize n l h (Schema.bit_string size false true)) (r.is ∙ ap (normal (Schema.bit_string size false true)) x.is) f)
  within_size n l h (Schema.char_string alphabet size false) w r f =
      let x = r.where_it_is.spelled in
      in_size refl x.spelled.allowed (subst (IsOutOfSize n l h (Schema.char_string alphabet size false)) (r.is ∙ x.is) f)
  within_size n l h (Schema.list e size false) w r f =
      let x = r.where_it_is.spelled in
      let own = map (normal e) (values (as_values x.of)) in
      let i : length (values (as_values own)) ≡ length x.of = ap length (values-as_values own) ∙ length-map' (normal e) (values (as_values x.of)) ∙ ap length (values-as_values x.of) in
      in_size i x.spelled.allowed (subst (IsOutOfSize n l h (Schema.list e size false)) (r.is ∙ ap (normal (Schema.list e size false)) x.is) f)
  within_size n l h (Schema.set_of e size false) w r f =
      let less : Value → Value → Bool = λ v w. before (code v) (code w) in
      let x = r.where_it_is.spelled in
      let own = map (normal e) (values (as_values (sorted less x.of))) in
      let i : length (values (as_values (sorted less own))) ≡ length x.of =
      ap length (values-as_values (sorted less own)) ∙ length-sorted less own ∙ length-map' (normal e) (values (as_values (sorted less x.of))) ∙ ap length (values-as_values (sorted less x.of)) ∙ length-sorted less x.of in
      in_size i x.spelled.allowed (subst (IsOutOfSize n l h (Schema.set_of e size false)) (r.is ∙ ap (normal (Schema.set_of e size false)) x.is) f)
  within_size n l h _ w r f = f

  all_permitted : (alphabet cs : List ℕ) (size : Size) (mark : Bool) (p : ℕ) (b : Bits) → String a alphabet size mark cs p b → HasForeign alphabet cs → ⊥
  all_permitted alphabet cs size mark p b x f =
      let each = lengthy_spelled a (Char a alphabet) size mark (char_items (char_width a.variant alphabet)) cs p b x in
      let c : Somewhere (Char a alphabet (get_or cs f.index 0)) = at_index (λ c. Somewhere (Char a alphabet c)) cs f.index f.within each in
      has_place a.variant alphabet (get_or cs f.index 0) c.spelled.index c.spelled.is f.foreign

  permitted : (s : Schema) (w : Value) → IsRead a u s w → IsForeign s w → ⊥
  unfolding basic_in normal
  permitted (Schema.char_string alphabet size mark) w r f =
      let x = r.where_it_is.spelled in
      let g = subst (IsForeign (Schema.char_string alphabet size mark)) (r.is ∙ x.is) f in
      all_permitted alphabet x.of size mark _ _ x.spelled g.1
  permitted (Schema.time kind) w r f =
      let x = r.where_it_is.spelled in
      all_permitted visible x.of any_size false _ _ x.spelled.1 (subst (IsForeign (Schema.time kind)) (r.is ∙ x.is) f)
  permitted _ w r f = f

  lawful_contents : (s : Schema) (w : Value) → IsRead a u s w → IsUnlawful s w → ⊥
  unfolding basic_in normal
  lawful_contents Schema.identifier w r f =
      let x = r.where_it_is.spelled in no (subst (IsUnlawful Schemas.identifier) (r.is ∙ x.is) f) x.spelled.0
  lawful_contents (Schema.time kind) w r f =
      let x = r.where_it_is.spelled in no (subst (IsUnlawful (Schemas.time kind)) (r.is ∙ x.is) f) x.spelled.0
  lawful_contents _ w r f = f

  not_real : (s : Schema) (w : Value) → IsRead a u s w → IsReal s w → ⊥
  unfolding basic_in
  not_real Schema.real w r f = r.where_it_is.spelled
  not_real _ w r f = f

  alternative_there : (g h : ℕ → Value → Value) (d : Side) (k : ℕ) (v : Value) → over_alternative g h (alternative d k v) ≡ no_value → ⊥
  alternative_there g h root k v e = cc
  alternative_there g h added k v e = cc

  -- what was read isn't absent
  not_absent : (s : Schema) (w : Value) → IsRead a u s w → IsAbsent s w → ⊥
  unfolding basic_in normal over_bag bag_of
  not_absent Schema.real w r f = r.where_it_is.spelled
  not_absent Schema.cut w r f = r.where_it_is.spelled
  not_absent Schema.boolean w r f = let x = r.where_it_is.spelled in let e : truth x.of ≡ no_value = sym (r.is ∙ x.is) ∙ f in cc
  not_absent Schema.null w r f = let x = r.where_it_is.spelled in let e : nothing ≡ no_value = sym (r.is ∙ x.is) ∙ f in cc
  not_absent Schema.any w r f = let x = r.where_it_is.spelled in let e : octets x.of ≡ no_value = sym (r.is ∙ x.is) ∙ f in cc
  not_absent (Schema.text kind) w r f = let x = r.where_it_is.spelled in let e : octets x.of ≡ no_value = sym (r.is ∙ x.is) ∙ f in cc
  not_absent Schema.identifier w r f = let x = r.where_it_is.spelled in let e : octets x.of ≡ no_value = sym (r.is ∙ x.is) ∙ f in cc
  not_absent (Schema.time kind) w r f = let x = r.where_it_is.spelled in let e : characters x.of ≡ no_value = sym (r.is ∙ x.is) ∙ f in cc
  not_absent Schema.date w r f = let x = r.where_it_is.spelled in let e : day x.of.0 (suc x.of.1) (suc x.of.2) ≡ no_value = sym (r.is ∙ x.is) ∙ f in cc
  not_absent (Schema.number bounds mark range) w r f = let x = r.where_it_is.spelled in let e : whole x.of ≡ no_value = sym (r.is ∙ x.is) ∙ f in cc
  not_absent (Schema.items n m ext) w r f = let x = r.where_it_is.spelled in let e : item x.of.0 x.of.1 ≡ no_value = sym (r.is ∙ x.is) ∙ f in cc
  not_absent (Schema.octet_string size mark) w r f = let x = r.where_it_is.spelled in let e : octets x.of ≡ no_value = sym (r.is ∙ x.is) ∙ f in cc
  not_absent (Schema.bit_string size mark false) w r f = let x = r.where_it_is.spelled in let e : bits x.of ≡ no_value = sym (r.is ∙ x.is) ∙ f in cc
  not_absent (Schema.bit_string size mark true) w r f = let x = r.where_it_is.spelled in
      let e : bits (normal_bits size.least x.of) ≡ no_value = sym (r.is ∙ ap (normal (Schema.bit_string size mark true)) x.is) ∙ f in cc
  not_absent (Schema.char_string alphabet size mark) w r f = let x = r.where_it_is.spelled in let e : characters x.of ≡ no_value = sym (r.is ∙ x.is) ∙ f in cc
  not_absent (Schema.containing e) w r f = not_absent e w (contained_read r) f
  not_absent (Schema.list element size mark) w r f = let x = r.where_it_is.spelled in let e : normal (Schema.list element size mark) (elements (as_values x.of)) ≡ no_value = sym (r.is ∙ ap (normal (Schema.list element size mark)) x.is) ∙ f in cc
  not_absent (Schema.set_of element size mark) w r f = let x = r.where_it_is.spelled in let e : normal (Schema.set_of element size mark) (bag_of x.of) ≡ no_value = sym (r.is ∙ ap (normal (Schema.set_of element size mark)) x.is) ∙ f in cc
  not_absent (Schema.sequence o ps ext adds) w r f = let x = r.where_it_is.spelled in let e : normal (Schema.sequence o ps ext adds) (fields (as_slots x.of.0) (as_slots x.of.1)) ≡ no_value = sym (r.is ∙ ap (normal (Schema.sequence o ps ext adds)) x.is) ∙ f in cc
  not_absent (Schema.choice ps adds ext) w r f = let x = r.where_it_is.spelled in alternative_there (normal_at ps) (normal_at adds) x.of.0 x.of.1 x.of.2 (sym (r.is ∙ ap (normal (Schema.choice ps adds ext)) x.is) ∙ f)

-- ---- all kinds of refusal

module _ (a : Settings) (u : Bool) (s : Schema) (w : Value) (r : IsRead a u s w) where
  any_schema : (fault : Schema → Value → Type 0) → ((s : Schema) (w : Value) → IsRead a u s w → fault s w → ⊥) → IsLawful s → StandsIn fault s w → ⊥
  any_schema fault h l f = faultless fault false a u (λ s w g r f. h s w r f) f (record { lawful = l; kept = λ e. absurd (cc) }) r

  -- one fault at most: a number past an i128
  pub one_fault : (kind : EncodeErrorKind) → IsLawful s → IsInValue kind s w → kind ≡ IntegerTypeConversionFailed
  one_fault (SizeConstraintNotSatisfied told) g f = absurd (any_schema (IsOutOfSize told.size told.lower told.upper) (within_size a u told.size told.lower told.upper) g f)
  one_fault (ValueConstraintNotSatisfied told) g f = absurd (any_schema (IsOutOfBounds (value_of told) (lower_of told) (upper_of told)) (within_bounds a u (value_of told) (lower_of told) (upper_of told)) g f)
  one_fault AlphabetConstraintNotSatisfied g f = absurd (any_schema IsForeign (permitted a u) g f)
  one_fault IntegerTypeConversionFailed g f = refl
  one_fault RealNotSupported g f = absurd (any_schema IsReal (not_real a u) g f)
  one_fault Below g f = absurd (any_schema IsUnlawful (lawful_contents a u) g f)
  one_fault VariantNotInChoice g f = absurd f
  one_fault TooManyAdditions g f = absurd f
  one_fault AlreadyFailed g f = absurd f
  one_fault OutOfMemory g f = absurd f
  one_fault OutOfTurn g f = absurd (any_schema IsAbsent (not_absent a u) g f)
  one_fault WrongKind g f = absurd (any_schema IsOther (not_other a u) g f)

  -- and none where the schema keeps to an i128
  pub no_fault : (kind : EncodeErrorKind) → IsLawful s → keeps_to_i128 s ≡ true → IsInValue kind s w → ⊥
  no_fault kind g k f =
      let e = one_fault kind g f in
      faultless IsPastBounds true a u (within_i128 a u) (subst (λ c. IsInValue c s w) e f) (record { lawful = g; kept = λ x. k }) r

-- what octets are read as, in a tree that holds it
pub read_whole : (a : Settings) (s : Schema) (v : Value) (os : List ℕ) → meets_cut s v ≡ false → fills a s v os → IsRead a true s (normal s v)
read_whole a s v os m (inl x) = record { value = v; where_it_is = record { at = 0; bits = x.front; spelled = x.spelled }; uncut = m; is = refl }
read_whole a s v os m (inr x) = record { value = v; where_it_is = record { at = 0; bits = []; spelled = x.0 }; uncut = m; is = refl }
