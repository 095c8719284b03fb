-- What is spelled within a spelling: each item, the contents of an open type, and each part that isn't left out.
use Rattle.std.proofs.Common.{◌≡◌, sym, subst, ℕ, zero, suc, ◌+◌, ◌-◌, ◌⊎◌, Bool, true, false, cond, ◌&&◌, ltb, List, [], ◌∷◌, ◌++◌, length, inl, inr, Option, Some, None}
use Rattle.rasn_types.specs.Bits.{Bits}
use Rattle.rasn_types.specs.Values.{Value, put, sorted}
use Rattle.rasn_constraints.specs.Bounds.{Size, any_size}
use Rattle.per_core.specs.Basic.{OneByOne, InFragments, UnconstrainedLength, IsConstrainedWhole, PaddingIf, length_form, Counted, Fills, Open, Rule, IsLeftOut, Bodies, Root, Additions_in, Record_in}
use Rattle.per_core.specs.Counts.{ItemKind, is_aligned}
use Rattle.per_core.specs.Spellings.{Settings, Spelling, Then}
use Rattle.per_core.specs.ItemCounts.{Each}

-- some bits, from some position on, have a spelling
pub record Somewhere (f : Spelling) : Type 0 where
  pub at : ℕ
  pub bits : Bits
  pub spelled : f at bits

each_append : {X : Type 0} (P : X → Type 0) (xs ys : List X) → Each P xs → Each P ys → Each P (xs ++ ys)
each_append P [] ys h k = k
each_append P (x ∷ xs) ys h k = (h.0, each_append P xs ys h.1 k)

module _ {X : Type 0} (a : Settings) (item : X → Spelling) where
  each_spelled : (xs : List X) (p : ℕ) (b : Bits) → OneByOne item xs p b → Each (λ x. Somewhere (item x)) xs
  each_spelled [] p b x = tt
  each_spelled (y ∷ ys) p b x = (record { at = p; bits = x.front; spelled = x.is_front }, each_spelled ys _ x.rest x.is_rest)

  fragments_spelled : (k : ℕ) (xs : List X) (p : ℕ) (b : Bits) → InFragments a item k xs p b → Each (λ x. Somewhere (item x)) xs
  fragments_spelled zero xs p b x = let y = x.is_rest in each_spelled xs _ y.rest y.is_rest
  fragments_spelled (suc k) xs p b x =
      let y = x.spelled in
      let z = y.is_rest in
      let w = z.is_rest in
      let q = each_spelled x.these _ w.front w.is_front in
      let r = fragments_spelled k x.others _ w.rest w.is_rest in
      subst (λ ys. Each (λ y. Somewhere (item y)) ys) (sym x.all) (each_append (λ y. Somewhere (item y)) x.these x.others q r)

  form_spelled : (l u : Option ℕ) (kind : ItemKind) (xs : List X) (p : ℕ) (b : Bits) → length_form a l u kind item xs p b → Each (λ x. Somewhere (item x)) xs
  form_spelled None u kind xs p b x = fragments_spelled x.fragments xs p b x.spelled
  form_spelled (Some lb) None kind xs p b x = fragments_spelled x.fragments xs p b x.spelled
  form_spelled (Some lb) (Some ub) kind xs p b x = choose (ltb ub 65536) x
    where
      choose : (t : Bool) → cond t (Then (IsConstrainedWhole a (ub - lb + 1) (length xs - lb)) (Then (PaddingIf (ltb 0 (length xs) && is_aligned kind lb ub) a) (OneByOne item xs)))
          (UnconstrainedLength a item xs) p b → Each (λ x. Somewhere (item x)) xs
      choose true y = let z = y.is_rest in each_spelled xs _ z.rest z.is_rest
      choose false y = fragments_spelled y.fragments xs p b y.spelled

  pub lengthy_spelled : (size : Size) (mark : Bool) (kind : ItemKind) (xs : List X) (p : ℕ) (b : Bits) → Counted a size mark kind item xs p b → Each (λ x. Somewhere (item x)) xs
  lengthy_spelled size false kind xs p b x = form_spelled size.least size.most kind xs p b x.spelled
  lengthy_spelled size true kind xs p b (inl x) = form_spelled size.least size.most kind xs _ x.rest x.is_rest.spelled
  lengthy_spelled size true kind xs p b (inr x) = form_spelled any_size.least any_size.most kind xs _ x.rest x.is_rest.spelled

-- an open type's contents
pub open_spelled : (a : Settings) (f : Spelling) (p : ℕ) (b : Bits) → Open a (Fills a f) p b → Somewhere f
open_spelled a f p b x = go x.are
  where
    go : Fills a f x.octets → Somewhere f
    go (inl y) = record { at = 0; bits = y.front; spelled = y.spelled }
    go (inr y) = record { at = 0; bits = []; spelled = y.0 }

-- a part is left out, or its value is spelled
abbrev pub SlotSpelled : Rule → Option Value → Type 0
SlotSpelled r s = IsLeftOut r.presence s ⊎ ((v : Value) × (s ≡ Some v) × Somewhere (r.spells v))

abbrev pub SlotsSpelled : List Rule → List (Option Value) → Type 0
SlotsSpelled [] [] = Unit {0}
SlotsSpelled (r ∷ rs) (s ∷ ss) = SlotSpelled r s × SlotsSpelled rs ss
SlotsSpelled _ _ = ⊥

bodies_spelled : (rs : List Rule) (bs : List Bool) (ss : List (Option Value)) (p : ℕ) (b : Bits) → Bodies rs bs ss p b → SlotsSpelled rs ss
bodies_spelled [] [] [] p b x = tt
bodies_spelled (r ∷ rs) (true ∷ bs) (s ∷ ss) p b x =
    let y = x.is_front in (inr (y.held, y.is, record { at = p; bits = x.front; spelled = y.spelled }), bodies_spelled rs bs ss _ x.rest x.is_rest)
bodies_spelled (r ∷ rs) (false ∷ bs) (s ∷ ss) p b x = (inl x.is_front.0, bodies_spelled rs bs ss _ x.rest x.is_rest)
bodies_spelled [] [] (s ∷ ss) p b x = absurd x
bodies_spelled [] (c ∷ bs) ss p b x = absurd x
bodies_spelled (r ∷ rs) [] ss p b x = absurd x
bodies_spelled (r ∷ rs) (c ∷ bs) [] p b x = absurd x

root_spelled : (rs : List Rule) (ss : List (Option Value)) (p : ℕ) (b : Bits) → Root rs ss p b → SlotsSpelled rs ss
root_spelled rs ss p b x = bodies_spelled rs x.shown ss _ x.spelled.rest x.spelled.is_rest

additions_spelled : (a : Settings) (u : Bool) (rs : List Rule) (ss : List (Option Value)) (bs : List Bool) (p : ℕ) (b : Bits) → Additions_in a u rs ss bs p b → SlotsSpelled rs ss
additions_spelled a u [] [] bs p b x = tt
additions_spelled a u [] (s ∷ ss) bs p b x = absurd x
additions_spelled a u (r ∷ rs) [] bs p b x = absurd x
additions_spelled a u (r ∷ rs) (s ∷ ss) [] p b x = (inl x.0, additions_spelled a u rs ss [] p b x.1)
additions_spelled a u (r ∷ rs) (s ∷ ss) (false ∷ bs) p b x = (inl x.0, additions_spelled a u rs ss bs p b x.1)
additions_spelled a u (r ∷ rs) (s ∷ ss) (true ∷ bs) p b x =
    let y = x.is_front in (inr (y.held, y.is, open_spelled a (r.spells y.held) p x.front y.spelled), additions_spelled a u rs ss bs _ x.rest x.is_rest)

-- all of a record
pub fields_spelled : (a : Settings) (u ext : Bool) (rs adds : List Rule) (ss xs : List (Option Value)) (p : ℕ) (b : Bits) → Record_in a u ext rs adds ss xs p b → SlotsSpelled rs ss × SlotsSpelled adds xs
fields_spelled a u false rs adds ss xs p b x = (root_spelled rs ss p x.front x.is_front, additions_spelled a u adds xs [] _ x.rest x.is_rest)
fields_spelled a u true rs adds ss xs p b (inl x) = let y = x.is_rest in (root_spelled rs ss _ y.front y.is_front, additions_spelled a u adds xs [] _ y.rest y.is_rest)
fields_spelled a u true rs adds ss xs p b (inr z) =
    let y = z.spelled.is_rest in
    let w = y.is_rest in (root_spelled rs ss _ y.front y.is_front, additions_spelled a u adds xs z.flags _ w.rest w.is_rest)

-- a fact of each member, in ascending order
module _ {X : Type 0} (P : X → Type 0) (less : X → X → Bool) where
  all_put : (x : X) (ys : List X) → P x → Each P ys → Each P (put less x ys)
  all_put x [] h k = (h, tt)
  all_put x (y ∷ ys) h k = go (less y x) (all_put x ys h k.1)
    where
      go : (t : Bool) → Each P (put less x ys) → Each P (cond t (y ∷ put less x ys) (x ∷ y ∷ ys))
      go true r = (k.0, r)
      go false r = (h, (k.0, k.1))

  pub all_sorted : (xs : List X) → Each P xs → Each P (sorted less xs)
  all_sorted [] h = tt
  all_sorted (x ∷ xs) h = all_put x (sorted less xs) h.0 (all_sorted xs h.1)
