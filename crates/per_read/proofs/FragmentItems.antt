-- Items of as many bits each in fragments, from the first length on (X.691 11.9.3.8).
use Rattle.std.proofs.Common.{◌≡◌, ◌<◌, ◌≤◌, ℕ, zero, suc, true, ◌+◌, ◌*◌, ◌^◌, List, [], ◌++◌, length, refl, sym, ◌∙◌, ap, subst, arith, append_assoc, length-append}
use Rattle.std.proofs.lemmas.List.{append-nil}
use Rattle.std.proofs.lemmas.Bool.{lt-ltb, ltb-true}
use Rattle.rasn_types.specs.Bits.{Bits}
use Rattle.rasn_constraints.specs.Bounds.{allows, any_size}
use Rattle.per_core.specs.Counts.{ItemKind}
use Rattle.per_core.specs.Spellings.{Settings, Spelling, BitField, bit_offset, Took, NoneIn}
use Rattle.per_core.specs.Basic
use Rattle.per_core.specs.Basic.{OneByOne, Sized, UnconstrainedLength, InFragments, LastCount}
use Rattle.per_core.proofs.SpellingsAgree.{field_agree, weaken}
use Rattle.per_core.proofs.LengthForms.{row_agree, Zip-same}
use Rattle.per_core.proofs.TakenInTurn.{took_then, then_took, took_map, took_agree}
use Rattle.per_core.specs.declared.lengths.Length.{Length}
use Rattle.per_core.specs.declared.lengths.Length.TheVariants.{Last, Fragment}
use Rattle.per_core.specs.declared.decode_error.DecodeErrorKind.{DecodeErrorKind}
use Rattle.per_read.specs.Items.{Adds, TookItems, Gathered}
use Rattle.per_core.specs.Lengths.{CountOf, LengthOf, count_of}
use Rattle.per_core.specs.BitFieldFaults.{IsOfFragments, IsOfUnconstrained, past_fragment}
use Rattle.per_read.proofs.Fields.{field_below}
use Rattle.per_read.proofs.Counts.{Begins, short, long, fragment, count_begins, one_count, unpadded}
use Rattle.per_read.proofs.OneByOne.{items_exact, items_wide, adds_none, adds_more}

-- what a length says of its count and of the bits that it takes
small_count : (l : Length) (s t : Bits) → Took (CountOf l) s t → (count_of l ≤ 65536) × (length t < length s)
small_count l s t a = go (count_begins l s t a)
  where
    go : Begins l s t → (count_of l ≤ 65536) × (length t < length s)
    go (short n m e i f) = (omega (arith, ap count_of i, field_below f), omega (arith, ap length e, ap length f.joins, length-append f.front t))
    go (long n m e i f) = (omega (arith, ap count_of i, field_below f), omega (arith, ap length e, ap length f.joins, length-append f.front t))
    go (fragment k m e i x y f) = (omega (arith, ap count_of i), omega (arith, ap length e, ap length f.joins, length-append f.front t))

pub small_length : {a : Settings} (l : Length) {s t : Bits} → Took (LengthOf a l) s t → (count_of l ≤ 65536) × (length t < length s)
small_length l {s} {t} b =
    let q = then_took b in
    let r = small_count l q.0 t q.2 in
    (r.0, omega (arith, r.1, ap length q.1.joins, length-append q.1.front q.0))

pub one_length : (a : Settings) (l m : Length) (s t u : Bits) → Took (LengthOf a l) s t → Took (LengthOf a m) s u → (l ≡ m) × (t ≡ u)
one_length a l m s t u b c = let q = then_took b in one_count l m q.0 t u q.2 (unpadded q.1 m u c)

module _ (w : ℕ) where
  same_items : (xs ys : List ℕ) (s t u : Bits) → length xs ≡ length ys → Took (OneByOne (BitField w) xs) s t → Took (OneByOne (BitField w) ys) s u → (xs ≡ ys) × (t ≡ u)
  same_items xs ys s t u l b c = took_agree (weaken (Zip-same xs ys) (row_agree (λ x y. x ≡ y) (BitField w) (BitField w) (field_agree w) xs ys l)) b c

module _ {X : Type 0} (item : X → Spelling) where
  -- what is after the items of a length
  abbrev pub Tail : Settings → Length → List X → Bits → Bits → Type 0
  Tail a (Last n) others s t = (others ≡ []) × (s ≡ t)
  Tail a (Fragment n) others s t = Took (UnconstrainedLength a item others) s t

  -- items as a first length, the items that it counts and what is after them
  pub record Part (a : Settings) (xs : List X) (s t : Bits) : Type 0 where
    pub head : Length
    pub these : List X
    pub others : List X
    pub behind : Bits
    pub rest : Bits
    pub is_length : Took (LengthOf a head) s behind
    pub many : length these ≡ count_of head
    pub are_these : Took (OneByOne item these) behind rest
    pub all : xs ≡ these ++ others
    pub tail : Tail a head others rest t

  pub first_part : (a : Settings) (xs : List X) (s t : Bits) → Took (UnconstrainedLength a item xs) s t → Part a xs s t
  first_part a xs s t b = go b.spelled.fragments b.spelled.spelled
    where
      go : (k : ℕ) → InFragments a item k xs (bit_offset s) b.front → Part a xs s t
      go zero h =
          let q = then_took (record { front = b.front; joins = b.joins; spelled = h }) in
          let r = then_took q.2 in
          record {
            head = Last (length xs);
            these = xs;
            others = [];
            behind = r.0;
            rest = t;
            is_length = took_then q.1 r.1;
            many = refl;
            are_these = r.2;
            all = sym (append-nil xs);
            tail = (refl, refl);
          }
      go (suc k) h =
          let q = then_took (record { front = b.front; joins = b.joins; spelled = h.spelled }) in
          let r = then_took q.2 in
          let v = then_took r.2 in
          record {
            head = Fragment (length h.these);
            these = h.these;
            others = h.others;
            behind = r.0;
            rest = v.0;
            is_length = took_then q.1 r.1;
            many = refl;
            are_these = v.1;
            all = h.all;
            tail = took_map (λ p c i. record { fragments = k; spelled = i }) v.2;
          }

  pub last_part : {a : Settings} {xs : List X} {n : ℕ} {s m t : Bits} → Took (LengthOf a (Last n)) s m → length xs ≡ n → Took (OneByOne item xs) m t → Took (UnconstrainedLength a item xs) s t
  last_part {a} {xs} {n} {s} {m} {t} b e c =
      let q = then_took b in
      let h : Took (LastCount (length xs)) q.0 m = subst (λ z. Took (LastCount z) q.0 m) (sym e) q.2 in
      took_map (λ p x i. record { fragments = 0; spelled = i }) (took_then q.1 (took_then h c))

  pub more_parts : {a : Settings} (these : List X) {others : List X} {n : ℕ} {s m l t : Bits} → Took (LengthOf a (Fragment n)) s m → length these ≡ n → Took (OneByOne item these) m l
      → Took (UnconstrainedLength a item others) l t → Took (UnconstrainedLength a item (these ++ others)) s t
  more_parts {a} these {others} {n} {s} {m} {l} {t} b e c d =
      let q = then_took b in
      let h : Took (Basic.Fragment (length these)) q.0 m = subst (λ z. Took (Basic.Fragment z) q.0 m) (sym e) q.2 in
      let k = d.spelled.fragments in
      let i : Took (InFragments a item k others) l t = record { front = d.front; joins = d.joins; spelled = d.spelled.spelled } in
      took_map (λ p x j. record { fragments = suc k; spelled = record { these = these; others = others; all = refl; spelled = j } }) (took_then q.1 (took_then h (took_then c i)))

-- Items from a start are those that were read so far and then those from here.
pub record ItemsSoFar {C : Type 0} (holds : C → C → List ℕ → Type 0) (a : Settings) (w : ℕ) (start here : Bits) (before items : C) (n : ℕ) : Type 0 where
  pub codes : List ℕ
  pub count : length codes ≡ n
  pub added : Adds holds before codes items
  pub on : (xs : List ℕ) (t : Bits) → Took (UnconstrainedLength a (BitField w) xs) here t → Took (UnconstrainedLength a (BitField w) (codes ++ xs)) start t
  pub back : (xs : List ℕ) (t : Bits) → Took (UnconstrainedLength a (BitField w) xs) start t → (others : List ℕ) × (xs ≡ codes ++ others) × Took (UnconstrainedLength a (BitField w) others) here t
  pub refusal : (k : DecodeErrorKind) → IsOfFragments a w k n here → IsOfUnconstrained a w start k

pub items_begin : {C : Type 0} (holds : C → C → List ℕ → Type 0) (a : Settings) (w : ℕ) (s : Bits) (items : C) → ItemsSoFar holds a w s s items items 0
items_begin holds a w s items = record { codes = []; count = refl; added = adds_none holds items; on = λ xs t b. b; back = λ xs t b. (xs, refl, b); refusal = λ k h. h }

module _ {C : Type 0} {holds : C → C → List ℕ → Type 0} {a : Settings} {w : ℕ} {start here : Bits} {before items : C} {n : ℕ} (h : ItemsSoFar holds a w start here before items n) where
  pub items_go_on : {l : Length} {k j : ℕ} {m r : Bits} {more : C} → Took (LengthOf a l) here m → l ≡ Fragment k → j ≡ count_of l → TookItems holds (OneByOne (BitField w)) j items more m r
      → ItemsSoFar holds a w start r before more (n + j)
  items_go_on {l} {k} {j} {m} {r} b e i c = record {
    codes = h.codes ++ c.codes;
    count = omega (arith, h.count, c.count, length-append h.codes c.codes);
    added = adds_more h.added c.added;
    on = λ xs t d.
        subst (λ z. Took (UnconstrainedLength a (BitField w) z) start t) (sym (append_assoc h.codes c.codes xs)) (h.on (c.codes ++ xs) t (more_parts (BitField w) c.codes fragment (c.count ∙ i ∙ ap count_of e) c.took d));
    back = λ xs t d. let q = h.back xs t d in go xs t q.0 q.1 (first_part (BitField w) a q.0 here t q.2);
    refusal = λ f d. h.refusal f (past_fragment c.took.front fragment c.took.joins (items_exact w c.codes c.took ∙ ap (λ (z : ℕ). w * z) (c.count ∙ counted)) (subst (λ (z : ℕ). IsOfFragments a w f (n + z) r) counted d));
  }
    where
      counted : j ≡ k
      counted = i ∙ ap count_of e

      fragment : Took (LengthOf a (Fragment k)) here m
      fragment = subst (λ z. Took (LengthOf a z) here m) e b

      go : (xs : List ℕ) (t : Bits) (others : List ℕ) → xs ≡ h.codes ++ others → Part (BitField w) a others here t
          → (others : List ℕ) × (xs ≡ (h.codes ++ c.codes) ++ others) × Took (UnconstrainedLength a (BitField w) others) r t
      go xs t others f p =
          let x = one_length a p.head l here p.behind m p.is_length b in
          let many : length p.these ≡ length c.codes = p.many ∙ ap count_of x.0 ∙ sym i ∙ sym c.count in
          let y = same_items w p.these c.codes p.behind p.rest r many p.are_these (subst (λ z. Took (OneByOne (BitField w) c.codes) z r) (sym x.1) c.took) in (
            p.others,
            f ∙ ap (λ z. h.codes ++ z) (p.all ∙ ap (λ z. z ++ p.others) y.0) ∙ sym (append_assoc h.codes c.codes p.others),
            subst (λ z. Took (UnconstrainedLength a (BitField w) p.others) z t) y.1 (subst (λ z. Tail (BitField w) a z p.others p.rest t) (x.0 ∙ e) p.tail),
          )

  pub items_end : (kind : ItemKind) (count : ℕ) {l : Length} {k j : ℕ} {m t : Bits} {all : C} → Took (LengthOf a l) here m → l ≡ Last k → j ≡ count_of l → count ≡ n + j → count < 2 ^ 64
      → TookItems holds (OneByOne (BitField w)) j items all m t → TookItems holds (Sized a any_size kind (BitField w)) count before all start t
  items_end kind count {l} {k} {j} {m} {t} b e i f few c =
      let is : length (h.codes ++ c.codes) ≡ count = omega (arith, h.count, c.count, f, length-append h.codes c.codes) in
      record {
        codes = h.codes ++ c.codes;
        count = is;
        added = adds_more h.added c.added;
        took =
            let last : Took (LengthOf a (Last k)) here m = subst (λ z. Took (LengthOf a z) here m) e b in
            let allowed : allows any_size (length (h.codes ++ c.codes)) ≡ true = lt-ltb (length (h.codes ++ c.codes)) (2 ^ 64) (omega arith) in
            took_map (λ p x y. record { allowed = allowed; spelled = y }) (h.on c.codes t (last_part (BitField w) last (c.count ∙ i ∙ ap count_of e) c.took));
      }

  -- nothing is spelled where there is no length, where its items end early, or where there are more items than can be counted
  module _ (kind : ItemKind) where
    pub no_items_length : NoneIn (LengthOf a) here → NoneIn (Sized a any_size kind (BitField w)) start
    no_items_length none xs t b =
        let q = h.back xs t (took_map (λ p c x. x.spelled) b) in
        let p = first_part (BitField w) a q.0 here t q.2 in none p.head p.behind p.is_length

    pub no_items_short : (l : Length) (m : Bits) → Took (LengthOf a l) here m → (n + count_of l < 2 ^ 64 → length m < w * count_of l) → NoneIn (Sized a any_size kind (BitField w)) start
    no_items_short l m b k xs t d =
        let i : length xs < 2 ^ 64 = ltb-true (length xs) (2 ^ 64) d.spelled.allowed in
        let q = h.back xs t (took_map (λ p c x. x.spelled) d) in
        let p = first_part (BitField w) a q.0 here t q.2 in
        let x = one_length a p.head l here p.behind m p.is_length b in
        let v = items_wide w p.these p.are_these in
        let y : length p.behind ≡ length m = ap length x.1 in
        let z : length p.these ≡ count_of l = p.many ∙ ap count_of x.0 in
        let u : w * length p.these ≡ w * count_of l = ap (λ (z : ℕ). w * z) z in
        let g = k (omega (arith, h.count, i, ap length q.1, length-append h.codes q.0, ap length p.all, length-append p.these p.others, z)) in
        omega (arith, v, y, u, g)

-- all items are those that were appended to none
pub are_gathered : {C : Type 0} {holds : C → C → List ℕ → Type 0} {form : List ℕ → Spelling} {n : ℕ} {before after : C} {s t : Bits} → TookItems holds form n before after s t → holds before before [] → Gathered (holds before after) form s t
are_gathered {before = before} b h = record { codes = b.codes; held = b.added.behind before [] h; took = b.took }
