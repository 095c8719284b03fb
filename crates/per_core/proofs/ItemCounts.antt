-- The items of what is spelled are few for its bits.
use Rattle.std.proofs.Common.{◌≡◌, refl, ap, ◌∙◌, ℕ, zero, suc, ◌+◌, ◌-◌, ◌*◌, ◌^◌, ◌<◌, ◌≤◌, Bool, true, false, cond, ◌&&◌, ltb, leb, List, [], ◌∷◌, length, arith, inl, inr, Option, Some, None, length-append, ltb-true, leb-true}
use Rattle.rasn_types.specs.Bits.{Bits}
use Rattle.rasn_types.specs.Values.{Value, bag_of, elements, before, code, put, sorted, as_values}
use Rattle.rasn_types.proofs.Values.{values-as_values}
use Rattle.rasn_constraints.specs.Bounds.{allows, Size, any_size, at_least}
use Rattle.rasn_schema.specs.Schemas.{Schema}
use Rattle.per_core.specs.Basic.{OneByOne, InFragments, UnconstrainedLength, IsConstrainedWhole, PaddingIf, length_form, Sized, Counted, basic_in}
use Rattle.per_core.specs.Counts.{ItemKind, is_aligned}
use Rattle.per_core.specs.Spellings.{Settings, Spelling, Then}
use Rattle.per_core.proofs.LengthForms.{and_left, and_right}
use Rattle.per_core.specs.ItemCounts.{item_count, most_items}
use Rattle.per_core.proofs.HeldIn.{open_held}
use Rattle.per_core.proofs.LengthCounts.{last_few, fragment_few, then_length}

module _ {X : Type 0} (a : Settings) (item : X → Spelling) where
  pub fragments_few : (k : ℕ) (xs : List X) (p : ℕ) (b : Bits) → InFragments a item k xs p b → length xs ≤ 8192 * length b
  fragments_few zero xs p b x =
      let l = then_length x in
      let m = then_length x.is_rest in
      let h = last_few (length xs) _ x.is_rest.front x.is_rest.is_front in omega arith
  fragments_few (suc k) xs p b x =
      let y = x.spelled in
      let z = y.is_rest in
      let w = z.is_rest in
      let l = then_length y in
      let m = then_length z in
      let n = then_length w in
      let e : length xs ≡ length x.these + length x.others = ap length x.all ∙ length-append x.these x.others in
      let h = fragment_few (length x.these) _ z.front z.is_front in
      let r = fragments_few k x.others _ w.rest w.is_rest in omega arith

  pub unconstrained_few : (xs : List X) (p : ℕ) (b : Bits) → UnconstrainedLength a item xs p b → length xs ≤ 8192 * length b
  unconstrained_few xs p b x = fragments_few x.fragments xs p b x.spelled

  -- either form that bounds may give, where they allow the count
  form_few : (l u : Option ℕ) (kind : ItemKind) (xs : List X) (p : ℕ) (b : Bits) → allows (record { least = l; most = u }) (length xs) ≡ true →
      length_form a l u kind item xs p b → length xs ≤ most_items (length b)
  form_few None u kind xs p b h x = let r = unconstrained_few xs p b x in omega arith
  form_few (Some lb) None kind xs p b h x = let r = unconstrained_few xs p b x in omega arith
  form_few (Some lb) (Some ub) kind xs p b h x = choose (ltb ub 65536) refl x
    where
      within : length xs ≤ ub
      within = leb-true (length xs) ub (and_left (leb (length xs) ub) (ltb (length xs) (2 ^ 64)) (and_right (at_least (Some lb) (length xs)) (leb (length xs) ub && ltb (length xs) (2 ^ 64)) h))

      choose : (t : Bool) → ltb ub 65536 ≡ t →
          cond t (Then (IsConstrainedWhole a (ub - lb + 1) (length xs - lb)) (Then (PaddingIf (ltb 0 (length xs) && is_aligned kind lb ub) a) (OneByOne item xs)))
          (UnconstrainedLength a item xs) p b → length xs ≤ most_items (length b)
      choose true e y = let k : ub < 65536 = ltb-true ub 65536 e in let r = within in omega arith
      choose false e y = let r = unconstrained_few xs p b y in omega arith

  sized_few : (size : Size) (kind : ItemKind) (xs : List X) (p : ℕ) (b : Bits) → Sized a size kind item xs p b → length xs ≤ most_items (length b)
  sized_few size kind xs p b x = form_few size.least size.most kind xs p b x.allowed x.spelled

  pub lengthy_few : (size : Size) (mark : Bool) (kind : ItemKind) (xs : List X) (p : ℕ) (b : Bits) → Counted a size mark kind item xs p b → length xs ≤ most_items (length b)
  lengthy_few size false kind xs p b x = sized_few size kind xs p b x
  lengthy_few size true kind xs p b (inl x) = let l = then_length x in let r = sized_few size kind xs _ x.rest x.is_rest in omega arith
  lengthy_few size true kind xs p b (inr x) = let l = then_length x in let r = sized_few any_size kind xs _ x.rest x.is_rest in omega arith

-- a bag has as many elements as the list that it is of
length-put {ℓ} : {A : Type ℓ} (less : A → A → Bool) (x : A) (ys : List A) → length (put less x ys) ≡ suc (length ys)
length-put less x [] = refl
length-put less x (y ∷ ys) = go (less y x) (length-put less x ys)
  where
    go : (t : Bool) → length (put less x ys) ≡ suc (length ys) → length (cond t (y ∷ put less x ys) (x ∷ y ∷ ys)) ≡ suc (suc (length ys))
    go true e = ap suc e
    go false e = refl

length-sorted {ℓ} : {A : Type ℓ} (less : A → A → Bool) (xs : List A) → length (sorted less xs) ≡ length xs
length-sorted less [] = refl
length-sorted less (x ∷ xs) = length-put less x (sorted less xs) ∙ ap suc (length-sorted less xs)

list_count : (vs : List Value) → item_count (elements (as_values vs)) ≡ length vs
list_count vs = ap length (values-as_values vs)

bag_count : (vs : List Value) → item_count (bag_of vs) ≡ length vs
unfolding bag_of
bag_count vs = let less : Value → Value → Bool = λ v w. before (code v) (code w) in
    ap length (values-as_values (sorted less vs)) ∙ length-sorted less vs

-- X.691 11.9, 12 to 24, 30: all kinds
pub items_few : (a : Settings) (u : Bool) (s : Schema) (v : Value) (p : ℕ) (b : Bits) → basic_in a u s v p b → item_count v ≤ most_items (length b)
unfolding basic_in
items_few a u Schema.boolean v p b x = let e = ap item_count x.is in omega arith
items_few a u Schema.null v p b x = let e = ap item_count x.is in omega arith
items_few a u Schema.real v p b x = absurd x
items_few a u Schema.cut v p b x = absurd x
items_few a u Schema.any v p b x = let e = ap item_count x.is in let r = sized_few a _ any_size _ x.of p b x.spelled in omega arith
items_few a u (Schema.text kind) v p b x = let e = ap item_count x.is in let r = sized_few a _ any_size _ x.of p b x.spelled.1 in omega arith
items_few a u Schema.identifier v p b x = let e = ap item_count x.is in let r = sized_few a _ any_size _ x.of p b x.spelled.1 in omega arith
items_few a u (Schema.time kind) v p b x = let e = ap item_count x.is in let r = lengthy_few a _ any_size false _ x.of p b x.spelled.1 in omega arith
items_few a u Schema.date v p b x = let e = ap item_count x.is in omega arith
items_few a u (Schema.number bounds mark range) v p b x = let e = ap item_count x.is in omega arith
items_few a u (Schema.items r e ext) v p b x = let f = ap item_count x.is in omega arith
items_few a u (Schema.octet_string size mark) v p b x = let e = ap item_count x.is in let r = lengthy_few a _ size mark _ x.of p b x.spelled in omega arith
items_few a u (Schema.bit_string size mark named) v p b x = let e = ap item_count x.is in let r = lengthy_few a _ size mark _ x.of p b x.spelled in omega arith
items_few a u (Schema.char_string alphabet size mark) v p b x = let e = ap item_count x.is in let r = lengthy_few a _ size mark _ x.of p b x.spelled in omega arith
items_few a u (Schema.containing e) v p b x = let y = open_held a (length b) (basic_in a u e v) p b (omega arith) x in let r = items_few a u e v y.at y.bits y.spelled in let l = y.fits in omega arith
items_few a u (Schema.list e size mark) v p b x = let f = ap item_count x.is ∙ list_count x.of in let r = lengthy_few a _ size mark _ x.of p b x.spelled in omega arith
items_few a u (Schema.set_of e size mark) v p b x = let f = ap item_count x.is ∙ bag_count x.of in let r = lengthy_few a _ size mark _ x.of p b x.spelled in omega arith
items_few a u (Schema.sequence o ps ext adds) v p b x = let e = ap item_count x.is in omega arith
items_few a u (Schema.choice ps adds ext) v p b x = let e = ap item_count x.is in omega arith
