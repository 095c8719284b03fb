-- Items that are spelled where their codes are, and the other way round.
use Rattle.std.proofs.Common.{◌≡◌, ◌∙◌, ℕ, zero, suc, ◌+◌, ◌-◌, ◌&&◌, ltb, Bool, true, false, cond, List, [], ◌∷◌, ◌++◌, length, map, refl, sym, ap, subst, arith, Option, Some, None, inl, inr}
use Rattle.rasn_types.specs.Bits.{Bits, number_of}
use Rattle.rasn_constraints.specs.Bounds.{Size, any_size, allows}
use Rattle.per_core.specs.Basic.{OneByOne, LastCount, Fragment, InFragments, UnconstrainedLength, PaddingIf, IsConstrainedWhole, length_form, Sized, Counted, bit}
use Rattle.per_core.specs.Counts.{ItemKind, bit_items, is_aligned}
use Rattle.per_core.specs.Spellings.{Settings, Spelling, Then, BitField, Took, NoneIn}
use Rattle.per_core.specs.Writers.{after}
use Rattle.per_core.proofs.LengthForms.{Zip}
use Rattle.per_core.proofs.TakenInTurn.{took_map}
use Rattle.per_read.specs.Items.{bit_code}
use Rattle.per_core.specs.Lengths.{counted_items}
use Rattle.per_core.specs.declared.items.Item.TheVariants.{Bit}

module _ {X Y : Type 0} (R : X → Y → Type 0) (f : X → Spelling) (g : Y → Spelling) (each : (x : X) (y : Y) (p : ℕ) (b : Bits) → R x y → f x p b → g y p b) where
  zip_length : (xs : List X) (ys : List Y) → Zip R xs ys → length xs ≡ length ys
  zip_length [] [] z = refl
  zip_length [] (y ∷ ys) z = absurd z
  zip_length (x ∷ xs) [] z = absurd z
  zip_length (x ∷ xs) (y ∷ ys) z = ap suc (zip_length xs ys z.1)

  zip_split : (us vs : List X) (ys : List Y) → Zip R (us ++ vs) ys → (ts : List Y) × (ws : List Y) × (ys ≡ ts ++ ws) × Zip R us ts × Zip R vs ws
  zip_split [] vs ys z = ([], ys, refl, tt, z)
  zip_split (u ∷ us) vs [] z = absurd z
  zip_split (u ∷ us) vs (y ∷ ys) z = let r = zip_split us vs ys z.1 in (y ∷ r.0, r.1, ap (λ z. y ∷ z) r.2, (z.0, r.3), r.4)

  one_by_one_as : (xs : List X) (ys : List Y) (p : ℕ) (b : Bits) → Zip R xs ys → OneByOne f xs p b → OneByOne g ys p b
  one_by_one_as [] [] p b z h = h
  one_by_one_as [] (y ∷ ys) p b z h = absurd z
  one_by_one_as (x ∷ xs) [] p b z h = absurd z
  one_by_one_as (x ∷ xs) (y ∷ ys) p b z h = record {
    front = h.front;
    rest = h.rest;
    is_front = each x y p h.front z.0 h.is_front;
    is_rest = one_by_one_as xs ys (after p h.front) h.rest z.1 h.is_rest;
    joins = h.joins;
  }

  fragments_as : (a : Settings) (k : ℕ) (xs : List X) (ys : List Y) (p : ℕ) (b : Bits) → Zip R xs ys → InFragments a f k xs p b → InFragments a g k ys p b
  fragments_as a zero xs ys p b z h =
      let r = h.is_rest in
      let q = after p h.front in
      record {
        front = h.front;
        rest = h.rest;
        is_front = h.is_front;
        is_rest = record {
          front = r.front;
          rest = r.rest;
          is_front = subst (λ (n : ℕ). LastCount n q r.front) (zip_length xs ys z) r.is_front;
          is_rest = one_by_one_as xs ys (after q r.front) r.rest z r.is_rest;
          joins = r.joins;
        };
        joins = h.joins;
      }
  fragments_as a (suc k) xs ys p b z h =
      let s = zip_split h.these h.others ys (subst (λ v. Zip R v ys) h.all z) in
      let u = h.spelled in
      let r = u.is_rest in
      let w = r.is_rest in
      let q = after p u.front in
      record {
        these = s.0;
        others = s.1;
        all = s.2;
        spelled = record {
          front = u.front;
          rest = u.rest;
          is_front = u.is_front;
          is_rest = record {
            front = r.front;
            rest = r.rest;
            is_front = subst (λ (n : ℕ). Fragment n q r.front) (zip_length h.these s.0 s.3) r.is_front;
            is_rest = record {
              front = w.front;
              rest = w.rest;
              is_front = one_by_one_as h.these s.0 (after q r.front) w.front s.3 w.is_front;
              is_rest = fragments_as a k h.others s.1 (after (after q r.front) w.front) w.rest s.4 w.is_rest;
              joins = w.joins;
            };
            joins = r.joins;
          };
          joins = u.joins;
        };
      }

  unsized_as : (a : Settings) (xs : List X) (ys : List Y) (p : ℕ) (b : Bits) → Zip R xs ys → UnconstrainedLength a f xs p b → UnconstrainedLength a g ys p b
  unsized_as a xs ys p b z h = record { fragments = h.fragments; spelled = fragments_as a h.fragments xs ys p b z h.spelled }

  form_as : (a : Settings) (l u : Option ℕ) (kind : ItemKind) (xs : List X) (ys : List Y) (p : ℕ) (b : Bits) → Zip R xs ys → length_form a l u kind f xs p b → length_form a l u kind g ys p b
  form_as a None u kind xs ys p b z h = unsized_as a xs ys p b z h
  form_as a (Some l) None kind xs ys p b z h = unsized_as a xs ys p b z h
  form_as a (Some l) (Some u) kind xs ys p b z h = go (ltb u 65536) h
    where
      go : (c : Bool) → cond c (Then (IsConstrainedWhole a (u - l + 1) (length xs - l)) (Then (PaddingIf (ltb 0 (length xs) && is_aligned kind l u) a) (OneByOne f xs))) (UnconstrainedLength a f xs) p b
          → cond c (Then (IsConstrainedWhole a (u - l + 1) (length ys - l)) (Then (PaddingIf (ltb 0 (length ys) && is_aligned kind l u) a) (OneByOne g ys))) (UnconstrainedLength a g ys) p b
      go false h = unsized_as a xs ys p b z h
      go true h =
          let r = h.is_rest in
          let q = after p h.front in
          let e = zip_length xs ys z in
          record {
            front = h.front;
            rest = h.rest;
            is_front = subst (λ (n : ℕ). IsConstrainedWhole a (u - l + 1) (n - l) p h.front) e h.is_front;
            is_rest = record {
              front = r.front;
              rest = r.rest;
              is_front = subst (λ (n : ℕ). PaddingIf (ltb 0 n && is_aligned kind l u) a q r.front) e r.is_front;
              is_rest = one_by_one_as xs ys (after q r.front) r.rest z r.is_rest;
              joins = r.joins;
            };
            joins = h.joins;
          }

  sized_as : (a : Settings) (size : Size) (kind : ItemKind) (xs : List X) (ys : List Y) (p : ℕ) (b : Bits) → Zip R xs ys → Sized a size kind f xs p b → Sized a size kind g ys p b
  sized_as a size kind xs ys p b z h =
      record { allowed = ap (allows size) (sym (zip_length xs ys z)) ∙ h.allowed; spelled = form_as a size.least size.most kind xs ys p b z h.spelled }

  pub lengthy_as : (a : Settings) (size : Size) (mark : Bool) (kind : ItemKind) (xs : List X) (ys : List Y) (p : ℕ) (b : Bits) → Zip R xs ys → Counted a size mark kind f xs p b → Counted a size mark kind g ys p b
  lengthy_as a size false kind xs ys p b z h = sized_as a size kind xs ys p b z h
  lengthy_as a size true kind xs ys p b z (inl h) =
      inl (record { front = h.front; rest = h.rest; is_front = h.is_front; is_rest = sized_as a size kind xs ys (after p h.front) h.rest z h.is_rest; joins = h.joins })
  lengthy_as a size true kind xs ys p b z (inr h) =
      inr (record { front = h.front; rest = h.rest; is_front = h.is_front; is_rest = sized_as a any_size kind xs ys (after p h.front) h.rest z h.is_rest; joins = h.joins })

-- pairs by a function
pub zip_to : {X Y : Type 0} (h : X → Y) (xs : List X) → Zip (λ x y. h x ≡ y) xs (map h xs)
zip_to h [] = tt
zip_to h (x ∷ xs) = (refl, zip_to h xs)

pub zip_from : {X Y : Type 0} (h : X → Y) (xs : List X) → Zip (λ y x. h x ≡ y) (map h xs) xs
zip_from h [] = tt
zip_from h (x ∷ xs) = (refl, zip_from h xs)

pub zip_equal : {X Y Z : Type 0} (h : X → Z) (i : Y → Z) (xs : List X) (ys : List Y) → map h xs ≡ map i ys → Zip (λ x y. h x ≡ i y) xs ys
zip_equal h i [] [] e = tt
zip_equal h i [] (y ∷ ys) e = absurd (cc)
zip_equal h i (x ∷ xs) [] e = absurd (cc)
zip_equal h i (x ∷ xs) (y ∷ ys) e = let j : h x ≡ i y = cc in let k : map h xs ≡ map i ys = cc in (j, zip_equal h i xs ys k)

-- a bit and its code
bit_as : (n : ℕ) (b : Bool) (p : ℕ) (c : Bits) → bit_code b ≡ n → BitField 1 n p c → bit b p c
bit_as n b p [] e h = absurd (omega (arith, h.wide))
bit_as n b p (x ∷ y ∷ c) e h = absurd (omega (arith, h.wide))
bit_as n true p (true ∷ []) e h = refl
bit_as n false p (false ∷ []) e h = refl
bit_as n true p (false ∷ []) e h = absurd (omega (arith, h.means, e))
bit_as n false p (true ∷ []) e h = absurd (omega (arith, h.means, e))

as_bit : (b : Bool) (n : ℕ) (p : ℕ) (c : Bits) → bit_code b ≡ n → bit b p c → BitField 1 n p c
as_bit true n p c e h = record { wide = ap length h; means = ap number_of h ∙ e }
as_bit false n p c e h = record { wide = ap length h; means = ap number_of h ∙ e }

module _ (a : Settings) (size : Size) (mark : Bool) where
  pub bits_took : (bits : Bits) (codes : List ℕ) {s t : Bits} → map bit_code bits ≡ codes → Took (counted_items a size mark Bit codes) s t → Took (Counted a size mark bit_items bit bits) s t
  bits_took bits codes e b =
      let z : Zip (λ (n : ℕ) (x : Bool). bit_code x ≡ n) codes bits = subst (λ z. Zip (λ (n : ℕ) (x : Bool). bit_code x ≡ n) z bits) e (zip_from bit_code bits) in
      took_map (λ p c h. lengthy_as (λ (n : ℕ) (x : Bool). bit_code x ≡ n) (BitField 1) bit bit_as a size mark bit_items codes bits p c z h) b

  pub none_of_bits : {s : Bits} → NoneIn (counted_items a size mark Bit) s → NoneIn (Counted a size mark bit_items bit) s
  none_of_bits none bits t b =
      none (map bit_code bits) t
      (took_map (λ p c h. lengthy_as (λ (x : Bool) (n : ℕ). bit_code x ≡ n) bit (BitField 1) as_bit a size mark bit_items bits (map bit_code bits) p c (zip_to bit_code bits) h) b)
