-- Kinds in which others stand are newer where what is within is.
use Rattle.std.proofs.Common.{◌≡◌, refl, sym, subst, ℕ, zero, suc, ◌+◌, ◌<◌, ◌≤◌, Bool, true, false, List, [], ◌∷◌, length, Option, Some, None, arith, below_more}
use Rattle.std.specs.Prelude.{is_some, slice_get}
use Rattle.std.specs.Global.{Vec}
use Rattle.rasn_constraints.specs.Bounds.{Size}
use Rattle.rasn_constraints.specs.Constraints.{size_between}
use Rattle.rasn_constraints.specs.declared.constraints.Bounded.{Bounded}
use Rattle.rasn_constraints.specs.declared.constraints.Extensible.{Extensible}
use Rattle.rasn_schema.specs.Structures.{tag_of}
use Rattle.rasn_schema.specs.Schemas
use Rattle.rasn_schema.specs.Schemas.{Schema, Parts, part, leaf, listed, Presence, Tag}
use Rattle.per_core.specs.Versions.{Newer, NewerParts, NewerPresence, no_more, more_parts, also, unchanged, newer_choice, newer_list, newer_sequence, newer_set_of}
use Rattle.rasn_dynamic.specs.declared.types.Alternative.{Alternative}
use Rattle.rasn_dynamic.specs.declared.types.Choice.{Choice}
use Rattle.rasn_dynamic.specs.declared.types.Component.{Component}
use Rattle.rasn_dynamic.specs.declared.types.Kind.{Kind}
use Rattle.rasn_dynamic.specs.declared.types.Kind.TheVariants.{List as ListKind, SetOf, Record as RecordKind, Choice as ChoiceKind}
use Rattle.rasn_dynamic.specs.declared.types.Record.{Record}
use Rattle.rasn_dynamic.specs.Defaults.{groups}
use Rattle.rasn_dynamic.specs.Types.{alternatives_in, behind, choice_in, grouped, parts_in}
use Rattle.lawful_types.specs.declared.pairs.Pair.{Pair}
use Rattle.lawful_types.specs.OneLevel.{AreNewerAlternatives, AreNewerComponents, AreVersions, IsListed, IsNewerAlternative, IsNewerComponent, IsNewerPlain, IsSameSize}

-- ---- lists and bags

one_list : (e' e : Schema) (z' z : Size) (m' m : Bool) → z' ≡ z → m' ≡ m → Newer e' e → Newer (Schemas.list e' z' m') (Schemas.list e z m)
one_list e' e z' z m' m p q h = rw (p, q) (newer_list h)

one_set : (e' e : Schema) (z' z : Size) (m' m : Bool) → z' ≡ z → m' ≡ m → Newer e' e → Newer (Schemas.set_of e' z' m') (Schemas.set_of e z m)
one_set e' e z' z m' m p q h = rw (p, q) (newer_set_of h)

module _ (ts' ts : List Kind) (ps : List Pair) (i j : ℕ) (c' c : Extensible (Bounded ℕ)) where
  pub list_newer : IsSameSize c' c → IsListed ps i j → IsNewerPlain ts' ts ps (ListKind i c') (ListKind j c)
  list_newer z l s' s zero v = unchanged tt
  list_newer z l s' s (suc n) v = one_list (s' i) (s j) (size_between c'.constraint) (size_between c.constraint) c'.extensible c.extensible z.size z.mark (v.newer i j l)

  pub set_newer : IsSameSize c' c → IsListed ps i j → IsNewerPlain ts' ts ps (SetOf i c') (SetOf j c)
  set_newer z l s' s zero v = unchanged tt
  set_newer z l s' s (suc n) v = one_set (s' i) (s j) (size_between c'.constraint) (size_between c.constraint) c'.extensible c.extensible z.size z.mark (v.newer i j l)

-- ---- two lists side by side

-- at each of the first places both have an item, and a fact holds of the two
abbrev pub Along : {A : Type 0} → (A → A → Type 0) → List A → List A → ℕ → Type 0
Along {A} R xs ys n = (k : ℕ) → k < n → (x : A) × (y : A) × (slice_get xs k ≡ Some x) × (slice_get ys k ≡ Some y) × R x y

pub along_none : {A : Type 0} (R : A → A → Type 0) (xs ys : List A) → Along R xs ys 0
along_none R xs ys k l = absurd (omega (arith, l))

pub along_weaker : {A : Type 0} (R S : A → A → Type 0) (xs ys : List A) (n : ℕ) → ((x y : A) → R x y → S x y) → Along R xs ys n → Along S xs ys n
along_weaker R S xs ys n f a k l = let h = a k l in (h.0, h.1, h.2, h.3, f h.0 h.1 h.4)

pub along_more : {A : Type 0} (R : A → A → Type 0) (xs ys : List A) (n : ℕ) (x y : A) → slice_get xs n ≡ Some x → slice_get ys n ≡ Some y → R x y → Along R xs ys n → Along R xs ys (n + 1)
along_more {A} R xs ys n x y e f h a = below_more (λ k. (v : A) × (w : A) × (slice_get xs k ≡ Some v) × (slice_get ys k ≡ Some w) × R v w) n a (x, y, e, f, h)

some_same : {A : Type 0} (x y : A) → Some x ≡ Some y → x ≡ y
some_same x y e = cc

along_head : {A : Type 0} (R : A → A → Type 0) (x y : A) (xs ys : List A) (n : ℕ) → Along R (x ∷ xs) (y ∷ ys) (suc n) → R x y
along_head R x y xs ys n a =
    let h = a 0 (omega arith) in subst (λ z. R x z) (sym (some_same y h.1 h.3)) (subst (λ z. R z h.1) (sym (some_same x h.0 h.2)) h.4)

along_tail : {A : Type 0} (R : A → A → Type 0) (x y : A) (xs ys : List A) (n : ℕ) → Along R (x ∷ xs) (y ∷ ys) (suc n) → Along R xs ys n
along_tail R x y xs ys n a k l = a (suc k) (omega (arith, l))

no_first : {A : Type 0} (R : A → A → Type 0) (y : A) (ys : List A) (n : ℕ) → Along R [] (y ∷ ys) (suc n) → ⊥
no_first R y ys n a = let h = a 0 (omega arith) in let e = h.2 in absurd cc

-- ---- components and alternatives

one_part : (may : Bool) (t' t : Tag) (p' p : Presence) (s' s : Schema) (qs' qs : Parts) → t' ≡ t → NewerPresence s' s p' p → Newer s' s → NewerParts may qs' qs →
    NewerParts may (part (leaf t') p' s' qs') (part (leaf t) p s qs)
one_part may t' t p' p s' s qs' qs e h k r = rw e (also h k r)

module _ (b : Bool) (ts' ts : List Kind) (ps : List Pair) (s' s : ℕ → Schema) (v : AreVersions ts' ts ps s' s) where
  parts_newer : (cs' cs : List Component) → (b ≡ false → length cs' ≤ length cs) → Along (IsNewerComponent b ts' ts ps) cs' cs (length cs) →
      NewerParts b (parts_in (groups b ts') s' cs') (parts_in (groups b ts) s cs)
  parts_newer [] [] short a = no_more
  parts_newer (c' ∷ cs') [] short a = go b short
    where
      go : (d : Bool) → (d ≡ false → length (c' ∷ cs') ≤ length {A = Component} []) → NewerParts d (parts_in (groups b ts') s' (c' ∷ cs')) Schemas.no_parts
      go true h = more_parts
      go false h = let l = h refl in absurd (omega (arith, l))
  parts_newer [] (c ∷ cs) short a = absurd (no_first (IsNewerComponent b ts' ts ps) c cs (length cs) a)
  parts_newer (c' ∷ cs') (c ∷ cs) short a =
      let h = along_head (IsNewerComponent b ts' ts ps) c' c cs' cs (length cs) a in
      let k = v.newer c'.of c.of h.listed in
      one_part b (tag_of c'.tag) (tag_of c.tag) _ _ (s' c'.of) (s c.of) _ _ h.tag (h.presence s' s k v.newer_defaults v.defaults) k
      (parts_newer cs' cs (λ e. let l = short e in omega (arith, l)) (along_tail (IsNewerComponent b ts' ts ps) c' c cs' cs (length cs) a))

pub components_newer : (b : Bool) (ts' ts : List Kind) (ps : List Pair) (cs' cs : List Component) (n : ℕ) → length cs ≤ n → (b ≡ false → length cs' ≤ length cs) →
    Along (IsNewerComponent b ts' ts ps) cs' cs n → AreNewerComponents b ts' ts ps cs' cs
components_newer b ts' ts ps cs' cs n l short a s' s v = parts_newer b ts' ts ps s' s v cs' cs short (λ k m. a k (omega (arith, l, m)))

module _ (b : Bool) (ps : List Pair) (s' s : ℕ → Schema) (v : (i j : ℕ) → IsListed ps i j → Newer (s' i) (s j)) where
  choices_newer : (cs' cs : List Alternative) → (b ≡ false → length cs' ≤ length cs) → Along (IsNewerAlternative ps) cs' cs (length cs) →
      NewerParts b (alternatives_in s' cs') (alternatives_in s cs)
  choices_newer [] [] short a = no_more
  choices_newer (c' ∷ cs') [] short a = go b short
    where
      go : (d : Bool) → (d ≡ false → length (c' ∷ cs') ≤ length {A = Alternative} []) → NewerParts d (alternatives_in s' (c' ∷ cs')) Schemas.no_parts
      go true h = more_parts
      go false h = let l = h refl in absurd (omega (arith, l))
  choices_newer [] (c ∷ cs) short a = absurd (no_first (IsNewerAlternative ps) c cs (length cs) a)
  choices_newer (c' ∷ cs') (c ∷ cs) short a =
      let h = along_head (IsNewerAlternative ps) c' c cs' cs (length cs) a in
      one_part b (tag_of c'.tag) (tag_of c.tag) Schemas.required Schemas.required (s' c'.of) (s c.of) _ _ h.tag tt (v c'.of c.of h.listed)
      (choices_newer cs' cs (λ e. let l = short e in omega (arith, l)) (along_tail (IsNewerAlternative ps) c' c cs' cs (length cs) a))

pub alternatives_newer : (b : Bool) (ps : List Pair) (cs' cs : List Alternative) (n : ℕ) → length cs ≤ n → (b ≡ false → length cs' ≤ length cs) →
    Along (IsNewerAlternative ps) cs' cs n → AreNewerAlternatives b ps cs' cs
alternatives_newer b ps cs' cs n l short a s' s v = choices_newer b ps s' s v cs' cs short (λ k m. a k (omega (arith, l, m)))

-- ---- records and choices

module _ (ts' ts : List Kind) (ps : List Pair) (r' r : Record) where
  additions_newer : (s' s : ℕ → Schema) (qs' qs : Parts) (a' a : Option (Vec Component)) → is_some a' ≡ is_some a → NewerParts false qs' qs →
      NewerParts true (parts_in (grouped ts') s' (behind a')) (parts_in (grouped ts) s (behind a)) →
      Newer (Schemas.sequence listed qs' (is_some a') (parts_in (grouped ts') s' (behind a'))) (Schemas.sequence listed qs (is_some a) (parts_in (grouped ts) s (behind a)))
  additions_newer s' s qs' qs None None e h k = newer_sequence h no_more
  additions_newer s' s qs' qs (Some a') (Some a) e h k = newer_sequence h k
  additions_newer s' s qs' qs None (Some a) e h k = absurd cc
  additions_newer s' s qs' qs (Some a') None e h k = absurd cc

  pub record_newer : is_some r'.additions ≡ is_some r.additions → AreNewerComponents false ts' ts ps r'.root.items r.root.items →
      AreNewerComponents true ts' ts ps (behind r'.additions) (behind r.additions) → IsNewerPlain ts' ts ps (RecordKind r') (RecordKind r)
  record_newer e h k s' s zero v = unchanged tt
  record_newer e h k s' s (suc n) v = additions_newer s' s _ _ r'.additions r.additions e (h s' s v) (k s' s v)

module _ (ts' ts : List Kind) (ps : List Pair) (c' c : Choice) where
  addeds_newer : (s' s : ℕ → Schema) (qs' qs : Parts) (a' a : Option (Vec Alternative)) → is_some a' ≡ is_some a → NewerParts false qs' qs →
      NewerParts true (alternatives_in s' (behind a')) (alternatives_in s (behind a)) →
      Newer (Schemas.choice qs' (alternatives_in s' (behind a')) (is_some a')) (Schemas.choice qs (alternatives_in s (behind a)) (is_some a))
  addeds_newer s' s qs' qs None None e h k = newer_choice h no_more
  addeds_newer s' s qs' qs (Some a') (Some a) e h k = newer_choice h k
  addeds_newer s' s qs' qs None (Some a) e h k = absurd cc
  addeds_newer s' s qs' qs (Some a') None e h k = absurd cc

  marked : (s : ℕ → Schema) (d : Choice) → choice_in s d ≡ Schemas.choice (alternatives_in s d.roots.items) (alternatives_in s (behind d.addeds)) (is_some d.addeds)
  marked s d = go d.addeds
    where
      go : (a : Option (Vec Alternative)) → choice_in s (record d { addeds = a }) ≡ Schemas.choice (alternatives_in s d.roots.items) (alternatives_in s (behind a)) (is_some a)
      go None = refl
      go (Some a) = refl

  pub choice_newer : is_some c'.addeds ≡ is_some c.addeds → AreNewerAlternatives false ps c'.roots.items c.roots.items →
      AreNewerAlternatives true ps (behind c'.addeds) (behind c.addeds) → IsNewerPlain ts' ts ps (ChoiceKind c') (ChoiceKind c)
  choice_newer e h k s' s zero v = unchanged tt
  choice_newer e h k s' s (suc n) v =
      subst (λ x. Newer x (choice_in s c)) (sym (marked s' c'))
      (subst (λ x. Newer (Schemas.choice (alternatives_in s' c'.roots.items) (alternatives_in s' (behind c'.addeds)) (is_some c'.addeds)) x) (sym (marked s c))
      (addeds_newer s' s _ _ c'.addeds c.addeds e (h s' s v.newer) (k s' s v.newer)))
