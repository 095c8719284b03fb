-- Lists that are open: how they are opened, go on and end (X.691 20).
use Rattle.std.proofs.Common.{◌≡◌, ◌<◌, ◌≤◌, ◌⊎◌, inl, inr, ℕ, zero, suc, ◌+◌, ◌^◌, Bool, true, false, List, [], ◌∷◌, ◌++◌, length, refl, sym, ◌∙◌, ap, subst, arith, append_assoc, length-append}
use Rattle.std.proofs.lemmas.List.{append-nil}
use Rattle.std.proofs.lemmas.Bool.{ltb-true}
use Rattle.rasn_types.specs.Bits.{Bits}
use Rattle.rasn_constraints.specs.Bounds.{allows}
use Rattle.rasn_constraints.specs.Constraints.{start_of, end_of, size_between}
use Rattle.per_core.specs.Basic
use Rattle.per_core.specs.Basic.{OneByOne, UnconstrainedLength}
use Rattle.per_core.specs.Counts.{list_items}
use Rattle.per_core.specs.Spellings.{Settings, Spelling, Took, NoneIn}
use Rattle.per_core.proofs.SpellingsAgree.{Agree}
use Rattle.per_core.proofs.TakenInTurn.{took_then, then_took, took_map, took_agree, took_nothing, nothing_took}
use Rattle.per_core.specs.Lengths.{LengthOf, count_of, is_followed, InWhole, LengthUpTo, UpTo, UpToFragment}
use Rattle.per_core.specs.Lengths.{UpToUnconstrained, WholeFragments}
use Rattle.per_core.specs.BitFieldFaults.{IsOfLength}
use Rattle.per_core.specs.SizeFaults.{AreUncounted, IsOfList, Miscounted}
use Rattle.per_read.specs.Lists.{AreOpenItems, AwaitsItem, IsLeft, ListRule, RefusesList, Rest, RestUpTo, RestUpToLength, list_form}
use Rattle.per_core.specs.declared.decode_error.DecodeErrorKind.{DecodeErrorKind}
use Rattle.per_core.specs.declared.decode_error.DecodeErrorKind.TheVariants.{SizeConstraintNotSatisfied}
use Rattle.per_core.specs.declared.lengths.Length.{Length}
use Rattle.per_core.specs.declared.lengths.Length.TheVariants.{Last, Fragment}
use Rattle.per_read.specs.declared.lists.UnreadElements.{UnreadElements}
use Rattle.per_read.proofs.OfFields.{length_tested}
use Rattle.per_read.proofs.OfLists.{of_list}
use Rattle.per_read.proofs.FragmentItems.{Tail, first_part, last_part, more_parts, one_length}
use Rattle.per_read.proofs.SizeForms.{countable}

module _ {X : Type 0} (item : X → Spelling) where
  -- items, n of them, and others in some form
  pub record Split (form : List X → Spelling) (n : ℕ) (xs : List X) (s t : Bits) : Type 0 where
    pub these : List X
    pub others : List X
    pub middle : Bits
    pub all : xs ≡ these ++ others
    pub many : length these ≡ n
    pub are_these : Took (OneByOne item these) s middle
    pub behind : Took (form others) middle t

  split_more : {form : List X → Spelling} {n : ℕ} {x : X} {xs : List X} {s m t : Bits} → Took (item x) s m → Split form n xs m t → Split form (suc n) (x ∷ xs) s t
  split_more {x = x} b r = record {
    these = x ∷ r.these;
    others = r.others;
    middle = r.middle;
    all = ap (λ z. x ∷ z) r.all;
    many = ap suc r.many;
    are_these = took_then b r.are_these;
    behind = r.behind;
  }

  -- nothing is still to be read
  pub nothing_more : (a : Settings) (others : List X) {s t : Bits} → Took (Rest a item false zero others) s t → (others ≡ []) × (s ≡ t)
  nothing_more a [] b = (refl, nothing_took b)
  nothing_more a (x ∷ xs) b = absurd b.spelled

  module _ (a : Settings) (more : Bool) where
    -- what is still to be read of a list, as the items after its lengths and what is after these
    pub rest_split : (n : ℕ) (xs : List X) {s t : Bits} → Took (Rest a item more n xs) s t → Split (Rest a item more zero) n xs s t
    rest_split zero xs {s} b = record { these = []; others = xs; middle = s; all = refl; many = refl; are_these = took_nothing s; behind = b }
    rest_split (suc n) [] b = absurd b.spelled
    rest_split (suc n) (x ∷ xs) b = let q = then_took b in split_more q.1 (rest_split n xs q.2)

    pub split_rest : (n : ℕ) (these others : List X) {s m t : Bits} → length these ≡ n → Took (OneByOne item these) s m → Took (Rest a item more zero others) m t → Took (Rest a item more n (these ++ others)) s t
    split_rest zero [] others {s} {m} {t} l b c = subst (λ z. Took (Rest a item more zero others) z t) (sym (nothing_took b)) c
    split_rest zero (x ∷ xs) others l b c = absurd (omega arith)
    split_rest (suc n) [] others l b c = absurd (omega arith)
    split_rest (suc n) (x ∷ xs) others l b c = let q = then_took b in took_then q.1 (split_rest n xs others (omega arith) q.2 c)

    -- up to a further item: one after its lengths, or one after these
    abbrev pub UpToSplit : ℕ → List X → Bits → Bits → Type 0
    UpToSplit n xs s t = ((length xs < n) × Took (OneByOne item xs) s t) ⊎ Split (RestUpTo a item more zero) n xs s t

    pub up_to_split : (n : ℕ) (xs : List X) {s t : Bits} → Took (RestUpTo a item more n xs) s t → UpToSplit n xs s t
    up_to_split zero xs {s} b = inr (record { these = []; others = xs; middle = s; all = refl; many = refl; are_these = took_nothing s; behind = b })
    up_to_split (suc n) [] b = inl (omega arith, b)
    up_to_split (suc n) (x ∷ xs) {s} {t} b = let q = then_took b in go q.1 (up_to_split n xs q.2)
      where
        go : {m : Bits} → Took (item x) s m → UpToSplit n xs m t → UpToSplit (suc n) (x ∷ xs) s t
        go c (inl d) = inl (omega (arith, d.0), took_then c d.1)
        go c (inr d) = inr (split_more c d)

    -- up to a further length, these and what is after them
    pub length_split : (n : ℕ) (xs : List X) {s t : Bits} → Took (RestUpToLength a item more n xs) s t → Split (RestUpToLength a item more zero) n xs s t
    length_split zero xs {s} b = record { these = []; others = xs; middle = s; all = refl; many = refl; are_these = took_nothing s; behind = b }
    length_split (suc n) [] b = absurd b.spelled
    length_split (suc n) (x ∷ xs) b = let q = then_took b in split_more q.1 (length_split n xs q.2)

  -- as many items as were counted
  module _ (a : Settings) {n : ℕ} (xs : List X) {s t : Bits} where
    pub of_counted : Took (Rest a item false n xs) s t → (length xs ≡ n) × Took (OneByOne item xs) s t
    of_counted b =
        let r = rest_split a false n xs b in
        let e = nothing_more a r.others r.behind in
        let f : xs ≡ r.these = r.all ∙ ap (λ z. r.these ++ z) e.0 ∙ append-nil r.these in
        (ap length f ∙ r.many, subst (λ z. Took (OneByOne item z) s t) (sym f) (subst (λ z. Took (OneByOne item r.these) s z) e.1 r.are_these))

    pub counted : length xs ≡ n → Took (OneByOne item xs) s t → Took (Rest a item false n xs) s t
    counted l b = subst (λ z. Took (Rest a item false n z) s t) (append-nil xs) (split_rest a false n xs [] l b (took_nothing t))

-- a length that counts nothing is the last
pub empty_length : {a : Settings} (l : Length) {s t : Bits} → Took (LengthOf a l) s t → count_of l ≡ 0 → is_followed l ≡ false
empty_length (Last n) b e = refl
empty_length (Fragment n) b e = let q = then_took b in absurd (omega (arith, e, q.2.spelled.some, q.2.spelled.is))

-- after a length, what is still to be read is what an unconstrained length and its items are
module _ {X : Type 0} {a : Settings} {item : X → Spelling} {s m : Bits} where
  pub on_length : (l : Length) → Took (LengthOf a l) s m → (xs : List X) (t : Bits) → Took (Rest a item (is_followed l) (count_of l) xs) m t → Took (UnconstrainedLength a item xs) s t
  on_length (Last n) b xs t c = let d = of_counted item a xs c in last_part item b d.0 d.1
  on_length (Fragment n) b xs t c =
      let r = rest_split item a true n xs c in
      subst (λ z. Took (UnconstrainedLength a item z) s t) (sym r.all) (more_parts item r.these b r.many r.are_these r.behind)

  pub length_back : (l : Length) → Took (LengthOf a l) s m → (xs : List X) (t : Bits) → Took (UnconstrainedLength a item xs) s t → Took (Rest a item (is_followed l) (count_of l) xs) m t
  length_back l b xs t c =
      let p = first_part item a xs s t c in
      let e = one_length a p.head l s p.behind m p.is_length b in
      subst (λ z. Took (Rest a item (is_followed l) (count_of l) z) m t) (sym p.all)
      (split_rest item a (is_followed l) (count_of l) p.these p.others (p.many ∙ ap count_of e.0) (subst (λ z. Took (OneByOne item p.these) z p.rest) e.1 p.are_these)
      (subst (λ z. Took (Rest a item (is_followed z) zero p.others) p.rest t) e.0 (behind p.head p.others p.rest p.tail)))
    where
      behind : (h : Length) (others : List X) (r : Bits) → Tail item a h others r t → Took (Rest a item (is_followed h) zero others) r t
      behind (Last n) [] r d = subst (λ z. Took (Rest a item false zero []) r z) d.1 (took_nothing r)
      behind (Last n) (x ∷ xs) r d = absurd cc
      behind (Fragment n) others r d = d

  -- and so it is up to a further item
  pub up_to_length : (l : Length) → Took (LengthOf a l) s m → (xs : List X) (t : Bits) → Took (RestUpTo a item (is_followed l) (count_of l) xs) m t → Took (UpToUnconstrained a item xs) s t
  up_to_length l b xs t c = go (up_to_split item a (is_followed l) (count_of l) xs c)
    where
      behind : (h : Length) (others : List X) (r : Bits) → Took (LengthOf a h) s m → (these : List X) → length these ≡ count_of h → Took (OneByOne item these) m r
          → Took (RestUpTo a item (is_followed h) zero others) r t → Took (UpToUnconstrained a item (these ++ others)) s t
      behind (Last n) others r b these e d x = absurd x.spelled
      behind (Fragment n) others r b these e d x =
          let q = then_took b in
          let h : Took (Basic.Fragment (length these)) q.0 m = subst (λ z. Took (Basic.Fragment z) q.0 m) (sym e) q.2 in
          let k = x.spelled.fragments in
          let i : Took (UpToFragment a item k others) r t = record { front = x.front; joins = x.joins; spelled = x.spelled.spelled } in
          took_map (λ p y j. record { fragments = suc k; spelled = record { these = these; others = others; all = refl; spelled = j } }) (took_then q.1 (took_then h (took_then d i)))

      go : UpToSplit item a (is_followed l) (count_of l) xs m t → Took (UpToUnconstrained a item xs) s t
      go (inl d) = took_map (λ p y j. record { fragments = 0; spelled = record { counts = l; fewer = d.0; spelled = j } }) (took_then b d.1)
      go (inr d) = subst (λ z. Took (UpToUnconstrained a item z) s t) (sym d.all) (behind l d.others d.middle b d.these d.many d.are_these d.behind)

  -- and up to a further length
  pub up_to_next : (l : Length) → Took (LengthOf a l) s m → (xs : List X) (t : Bits) → Took (RestUpToLength a item (is_followed l) (count_of l) xs) m t → Took (WholeFragments a item xs) s t
  up_to_next l b xs t c = let d = length_split item a (is_followed l) (count_of l) xs c in subst (λ z. Took (WholeFragments a item z) s t) (sym d.all) (behind l d.others d.middle b d.these d.many d.are_these d.behind)
    where
      behind : (h : Length) (others : List X) (r : Bits) → Took (LengthOf a h) s m → (these : List X) → length these ≡ count_of h → Took (OneByOne item these) m r
          → Took (RestUpToLength a item (is_followed h) zero others) r t → Took (WholeFragments a item (these ++ others)) s t
      behind (Last n) others r b these e d x = absurd x.spelled
      behind (Fragment n) others r b these e d x =
          let q = then_took b in
          let h : Took (Basic.Fragment (length these)) q.0 m = subst (λ z. Took (Basic.Fragment z) q.0 m) (sym e) q.2 in
          let k = x.spelled.fragments in
          let i : Took (InWhole a item k others) r t = record { front = x.front; joins = x.joins; spelled = x.spelled.spelled } in
          took_map (λ p y j. record { fragments = suc k; spelled = record { these = these; others = others; all = refl; spelled = j } }) (took_then q.1 (took_then h (took_then d i)))

module _ {X : Type 0} (f : ListRule X) {start : Bits} {before : List X} where
  -- an open list with a length of its next fragment read
  pub amid_fragment : {l : UnreadElements} {here m : Bits} (counts : Length) → l.left ≡ 0 → l.more ≡ true → Took (LengthOf f.settings counts) here m → AreOpenItems f start before l here
      → AreOpenItems f start before (record l { left = count_of counts; more = is_followed counts }) m
  amid_fragment {l} {here} {m} counts none another b h = record {
    count = h.count;
    on = λ xs t i. h.on xs t (record { others = i.others; all = i.all; allowed = i.allowed; took = forth i.others t i.took });
    back = λ xs t c. let i = h.back xs t c in record {
      others = i.others;
      all = i.all;
      allowed = i.allowed;
      took = length_back counts b i.others t (subst (λ z. Took (Rest f.settings f.item true z i.others) here t) none (subst (λ z. Took (Rest f.settings f.item z l.left i.others) here t) another i.took));
    };
    miscounted = λ xs t refused few c. h.miscounted xs t refused few (forth xs t c);
    up_to = λ xs t c. h.up_to xs t (subst (λ z. Took (RestUpTo f.settings f.item z l.left xs) here t) (sym another) (subst (λ z. Took (RestUpTo f.settings f.item true z xs) here t) (sym none) (up_to_length counts b xs t c)));
    up_to_length = λ xs t c. h.up_to_length xs t (subst (λ z. Took (RestUpToLength f.settings f.item z l.left xs) here t) (sym another) (subst (λ z. Took (RestUpToLength f.settings f.item true z xs) here t) (sym none) (up_to_next counts b xs t c)));
  }
    where
      forth : (xs : List X) (t : Bits) → Took (Rest f.settings f.item (is_followed counts) (count_of counts) xs) m t → Took (Rest f.settings f.item l.more l.left xs) here t
      forth xs t c = subst (λ z. Took (Rest f.settings f.item z l.left xs) here t) (sym another) (subst (λ z. Took (Rest f.settings f.item true z xs) here t) (sym none) (on_length counts b xs t c))

  -- where no length is read, no list is
  pub none_length : {l : UnreadElements} {here : Bits} → l.left ≡ 0 → l.more ≡ true → NoneIn (LengthOf f.settings) here → AreOpenItems f start before l here → NoneIn (list_form f) start
  none_length {l} {here} none another unread h xs t c =
      let i = h.back xs t c in
      let d = subst (λ z. Took (Rest f.settings f.item true z i.others) here t) none (subst (λ z. Took (Rest f.settings f.item z l.left i.others) here t) another i.took) in
      let p = first_part f.item f.settings i.others here t d in unread p.head p.behind p.is_length

  -- a further item, which is one reading of its bits
  pub amid_item : {l : UnreadElements} {here : Bits} (n : ℕ) → l.left ≡ suc n → ((x y : X) → Agree (x ≡ y) (f.item x) (f.item y)) → AreOpenItems f start before l here
      → AwaitsItem f start before (record l { left = n; count = l.count + 1 }) here
  amid_item {l} {here} n some one h = record {
    behind = subst (λ z. Took (UpTo f.settings f.size f.mark f.item z) start here) (append-nil before) (h.up_to [] here (up_to [] here (took_nothing here)));
    goes_on = λ x m b. record {
      count = omega (arith, h.count, length-append before (x ∷ []));
      on = λ xs t i. h.on xs t (record { others = x ∷ i.others; all = i.all ∙ append_assoc before (x ∷ []) i.others; allowed = i.allowed; took = forth (x ∷ i.others) t (took_then b i.took) });
      back = λ xs t c. let i = h.back xs t c in one_less x m b xs t i.others i.all i.allowed (subst (λ z. Took (Rest f.settings f.item l.more z i.others) here t) some i.took);
      miscounted = λ xs t refused few c. joined x xs (λ zs. allows (size_between l.size) (length zs) ≡ false → length zs < 2 ^ 64 → Miscounted f.settings f.size f.mark list_items f.item (length zs) (start_of l.size) (end_of l.size) start)
          (λ r w. h.miscounted (x ∷ xs) t r w (forth (x ∷ xs) t (took_then b c))) refused few;
      up_to = λ xs t c. joined x xs (λ zs. Took (UpTo f.settings f.size f.mark f.item zs) start t) (h.up_to (x ∷ xs) t (up_to (x ∷ xs) t (took_then b c)));
      up_to_length = λ xs t c. joined x xs (λ zs. Took (LengthUpTo f.settings f.size f.mark f.item zs) start t) (h.up_to_length (x ∷ xs) t (up_to_next_length (x ∷ xs) t (took_then b c)));
    };
    none = λ unread xs t c. let i = h.back xs t c in no_item unread i.others t (subst (λ z. Took (Rest f.settings f.item l.more z i.others) here t) some i.took);
  }
    where
      forth : (xs : List X) (t : Bits) → Took (Rest f.settings f.item l.more (suc n) xs) here t → Took (Rest f.settings f.item l.more l.left xs) here t
      forth xs t c = subst (λ z. Took (Rest f.settings f.item l.more z xs) here t) (sym some) c

      up_to : (xs : List X) (t : Bits) → Took (RestUpTo f.settings f.item l.more (suc n) xs) here t → Took (RestUpTo f.settings f.item l.more l.left xs) here t
      up_to xs t c = subst (λ z. Took (RestUpTo f.settings f.item l.more z xs) here t) (sym some) c

      up_to_next_length : (xs : List X) (t : Bits) → Took (RestUpToLength f.settings f.item l.more (suc n) xs) here t → Took (RestUpToLength f.settings f.item l.more l.left xs) here t
      up_to_next_length xs t c = subst (λ z. Took (RestUpToLength f.settings f.item l.more z xs) here t) (sym some) c

      joined : (x : X) (xs : List X) (P : List X → Type 0) → P (before ++ x ∷ xs) → P ((before ++ x ∷ []) ++ xs)
      joined x xs P c = subst P (sym (append_assoc before (x ∷ []) xs)) c

      one_less : (x : X) (m : Bits) → Took (f.item x) here m → (xs : List X) (t : Bits) (others : List X) → xs ≡ before ++ others → allows (size_between l.size) (length xs) ≡ true
          → Took (Rest f.settings f.item l.more (suc n) others) here t → IsLeft f.settings f.item (before ++ x ∷ []) (record l { left = n; count = l.count + 1 }) m xs t
      one_less x m b xs t [] e ok c = absurd c.spelled
      one_less x m b xs t (y ∷ ys) e ok c =
          let q = then_took c in
          let r = took_agree (one y x) q.1 b in
          record {
            others = ys;
            all = e ∙ ap (λ z. before ++ z ∷ ys) r.0 ∙ sym (append_assoc before (x ∷ []) ys);
            allowed = ok;
            took = subst (λ z. Took (Rest f.settings f.item l.more n ys) z t) r.1 q.2;
          }

      no_item : NoneIn f.item here → (others : List X) (t : Bits) → Took (Rest f.settings f.item l.more (suc n) others) here t → ⊥
      no_item unread [] t c = absurd c.spelled
      no_item unread (y ∷ ys) t c = let q = then_took c in unread y q.0 q.1

  -- what a kind says of a list where no length is read, and where its items can't be counted
  pub says_length : {l : UnreadElements} {here : Bits} (k : DecodeErrorKind) → l.left ≡ 0 → l.more ≡ true → IsOfLength f.settings here k → AreOpenItems f start before l here
      → IsOfList f.settings f.size f.mark f.item start k
  says_length {l} {here} k none another says h = of_list f.settings f.size f.mark f.item start k (length_tested k says) (inr (inl (before ++ [], (here, h.up_to_length [] here ready, says))))
    where
      ready : Took (RestUpToLength f.settings f.item l.more l.left []) here here
      ready = subst (λ z. Took (RestUpToLength f.settings f.item z l.left []) here here) (sym another)
          (subst (λ z. Took (RestUpToLength f.settings f.item true z []) here here) (sym none) (took_map (λ p x i. record { fragments = 0; spelled = (refl, i) }) (took_nothing here)))

  pub uncounted : {l : UnreadElements} {here : Bits} (n : ℕ) → l.left ≡ suc n → 2 ^ 64 ≤ l.count + 1 → AreOpenItems f start before l here → AreUncounted f.settings f.size f.mark f.item start
  uncounted {l} {here} n some many h = record {
    items = before ++ [];
    rest = here;
    many = omega (arith, many, h.count, ap length (append-nil before));
    took = h.up_to [] here (subst (λ z. Took (RestUpTo f.settings f.item l.more z []) here here) (sym some) (took_nothing here));
  }

  -- there are no more items than can be counted
  pub none_uncounted : {l : UnreadElements} {here : Bits} (n : ℕ) → l.left ≡ suc n → 2 ^ 64 ≤ l.count + 1 → AreOpenItems f start before l here → NoneIn (list_form f) start
  none_uncounted {l} {here} n some many h xs t c =
      let i = h.back xs t c in
      let few : length xs < 2 ^ 64 = ltb-true (length xs) (2 ^ 64) (countable (size_between l.size) (length xs) i.allowed) in
      let s = rest_split f.item f.settings l.more l.left i.others i.took in
      omega (arith, few, many, some, h.count, ap length i.all, length-append before i.others, ap length s.all, length-append s.these s.others, s.many)

  -- after the last item
  module _ {l : UnreadElements} {here : Bits} (none : l.left ≡ 0) (last : l.more ≡ false) (h : AreOpenItems f start before l here) where
    ended : Took (Rest f.settings f.item l.more l.left []) here here
    ended = subst (λ z. Took (Rest f.settings f.item z l.left []) here here) (sym last) (subst (λ z. Took (Rest f.settings f.item false z []) here here) (sym none) (took_nothing here))

    pub list_ends : allows (size_between l.size) l.count ≡ true → Took (list_form f before) start here
    list_ends ok = h.on before here (record { others = []; all = sym (append-nil before); allowed = ap (allows (size_between l.size)) (sym h.count) ∙ ok; took = ended })

    pub list_miscounted : l.count < 2 ^ 64 → allows (size_between l.size) l.count ≡ false → RefusesList f start (SizeConstraintNotSatisfied (record { size = l.count; lower = start_of l.size; upper = end_of l.size }))
    list_miscounted few refused = record {
      says = subst (λ (n : ℕ). Miscounted f.settings f.size f.mark list_items f.item n (start_of l.size) (end_of l.size) start) (sym counted)
          (h.miscounted [] here (ap (allows (size_between l.size)) (sym counted) ∙ refused) (omega (arith, few, counted)) ended);
      none = λ xs t c. let i = h.back xs t c in
          let e = nothing_more f.item f.settings i.others (subst (λ z. Took (Rest f.settings f.item false z i.others) here t) none (subst (λ z. Took (Rest f.settings f.item z l.left i.others) here t) last i.took)) in
          let k : l.count ≡ length xs = h.count ∙ ap length (sym (append-nil before) ∙ ap (λ z. before ++ z) (sym e.0) ∙ sym i.all) in
          let g : true ≡ false = sym i.allowed ∙ ap (allows (size_between l.size)) (sym k) ∙ refused in cc;
    }
      where
        counted : l.count ≡ length (before ++ [])
        counted = h.count ∙ ap length (sym (append-nil before))
