-- What the readers of older and newer types make of canonical bytes, at 128 levels.
use Rattle.std.proofs.Common.{◌≡◌, refl, sym, ap, ◌∙◌, subst, ap₂, ℕ, zero, suc, ◌+◌, ◌≤◌, Bool, true, false, ◌&&◌, List, [], ◌∷◌, ◌++◌, arith, inl, inr, Option, Some, None}
use Rattle.std.proofs.Math.Path.{fun_ext}
use Rattle.rasn_types.specs.Values.{Value, elements, bag, fields, alternative, root, added, values, slots}
use Rattle.rasn_types.specs.Bits.{Bits}
use Rattle.rasn_schema.specs.Schemas.{Presence, required, optional, group, default, Schema, Parts, no_parts, part}
use Rattle.rasn_schema.specs.Depth.{meets_cut, slots_meet_cut, meets_cut_at, in_elements, in_fields, in_alternative, in_slots, CutOf, CutParts, cut_here, alike, cut_containing, cut_list, cut_set_of, cut_sequence, cut_choice, no_cut, cut_part, Unfolds}
use Rattle.per_core.specs.Spellings.{Settings}
use Rattle.per_core.specs.Writers.{complete}
use Rattle.per_core.specs.Canon.{canon, bytes, completed}
use Rattle.per_core.specs.Basic.{Fills, basic, fills, front, read}
use Rattle.per_core.specs.Versions.{element_of, alternatives_of, added_of, project, widen, NewerPresence, Newer, NewerParts, unchanged, more_items, newer_containing, newer_list, newer_set_of, newer_sequence, newer_choice, no_more, more_parts, also, NewerType}
use Rattle.rasn_schema.specs.Normal.{root_of, additions_of}
use Rattle.per_core.proofs.Presenting.{unpack-complete}
use Rattle.per_core.proofs.Unique.{fills_agree}
use Rattle.per_core.proofs.WriterSpellings.{zero_if}
use Rattle.per_core.proofs.SpellingsAgree.{Agree}
use Rattle.per_core.proofs.Laws.{written_is_read, fronts_agree}
use Rattle.per_core.proofs.LengthForms.{or_left, or_right, and_no}
use Rattle.per_laws.proofs.Transitive.{or_both}
use Rattle.per_laws.proofs.Carry.{fills_carry}
use Rattle.per_laws.proofs.DeeperTrees.{looser, uncut}
use Rattle.per_laws.proofs.Readers.{written_is_known}
use Rattle.per_laws.proofs.Types.{up_to, older_type_answers, newer_type_answers, any_less}
use Rattle.per_laws.specs.Written.{is_written, writes_cut, slots_write_cut, writes_cut_at}
use Rattle.per_laws.proofs.Depths.{cut_reads, encodes_deeper}
use Rattle.per_laws.proofs.Layers.{Writes}
use Rattle.per_laws.proofs.Dropping.{older_writes}
use Rattle.per_laws.proofs.Growing.{newer_writes}
use Rattle.per_laws.proofs.Reading.{SameKind, Reads, ReadsParts, past_cut, one_leaf, of_items, of_containing, of_list, of_set, of_sequence, of_older_sequence, of_choice, none, unknown, unwritten, both, reads_kept}

-- the reader's tree and the writer's, of two versions
newer_kind : (s t : Schema) (p' p : Presence) → NewerPresence s t p' p → SameKind p p' × SameKind p' p
newer_kind s t required required k = (tt, tt)
newer_kind s t optional optional k = (tt, tt)
newer_kind s t group group k = (tt, tt)
newer_kind s t (default d') (default d) k = (tt, tt)
newer_kind s t _ _ k = absurd k

May : Bool → Bool → Type 0
May true false = ⊥
May _ _ = Unit {0}

may_so : (b : Bool) → May b true
unfolding May
may_so true = tt
may_so false = tt

mutual
  unfolding May

  older_tree : {s o t : Schema} → CutOf s o → Newer t o → Reads s t
  older_tree cut_here n = past_cut
  older_tree (alike l) (unchanged h) = one_leaf l
  older_tree (alike l) (more_items h) = of_items
  older_tree (alike l) (newer_containing n) = absurd l
  older_tree (alike l) (newer_list n) = absurd l
  older_tree (alike l) (newer_set_of n) = absurd l
  older_tree (alike l) (newer_sequence n ns) = absurd l
  older_tree (alike l) (newer_choice n ns) = absurd l
  older_tree (cut_containing c) (unchanged h) = absurd h
  older_tree (cut_containing c) (newer_containing n) = of_containing (older_tree c n)
  older_tree (cut_list c) (unchanged h) = absurd h
  older_tree (cut_list c) (newer_list n) = of_list (older_tree c n)
  older_tree (cut_set_of c) (unchanged h) = absurd h
  older_tree (cut_set_of c) (newer_set_of n) = of_set (older_tree c n)
  older_tree (cut_sequence c d) (unchanged h) = absurd h
  older_tree (cut_sequence {ext = ext} c d) (newer_sequence n ns) = of_sequence (older_parts false tt c n) (older_parts true (may_so ext) d ns)
  older_tree (cut_choice c d) (unchanged h) = absurd h
  older_tree (cut_choice {ext = ext} c d) (newer_choice n ns) = of_choice (older_parts false tt c n) (older_parts true (may_so ext) d ns)

  older_parts : {may : Bool} (w : Bool) → May may w → {r : Bool} {ss os ts : Parts} → CutParts ss os → NewerParts may ts os → ReadsParts w r ss ts
  older_parts w l no_cut no_more = none
  older_parts true l no_cut more_parts = unknown
  older_parts false l no_cut more_parts = absurd l
  older_parts w l (cut_part c cs) (also {p = p} {p' = p'} {s = o} {s' = t} h n ns) = both ((newer_kind t o p' p h).0) (older_tree c n) (older_parts w l cs ns)

mutual
  unfolding May

  newer_tree : {s o t : Schema} → CutOf s o → Newer o t → Reads s t
  newer_tree cut_here n = past_cut
  newer_tree (alike l) (unchanged h) = one_leaf l
  newer_tree (alike l) (more_items h) = of_items
  newer_tree (alike l) (newer_containing n) = absurd l
  newer_tree (alike l) (newer_list n) = absurd l
  newer_tree (alike l) (newer_set_of n) = absurd l
  newer_tree (alike l) (newer_sequence n ns) = absurd l
  newer_tree (alike l) (newer_choice n ns) = absurd l
  newer_tree (cut_containing c) (unchanged h) = absurd h
  newer_tree (cut_containing c) (newer_containing n) = of_containing (newer_tree c n)
  newer_tree (cut_list c) (unchanged h) = absurd h
  newer_tree (cut_list c) (newer_list n) = of_list (newer_tree c n)
  newer_tree (cut_set_of c) (unchanged h) = absurd h
  newer_tree (cut_set_of c) (newer_set_of n) = of_set (newer_tree c n)
  newer_tree (cut_sequence c d) (unchanged h) = absurd h
  newer_tree (cut_sequence {ext = ext} c d) (newer_sequence n ns) = of_older_sequence (newer_parts false tt c n) (newer_parts true (may_so ext) d ns)
  newer_tree (cut_choice c d) (unchanged h) = absurd h
  newer_tree (cut_choice {ext = ext} c d) (newer_choice n ns) = of_choice (newer_parts false tt c n) (newer_parts true (may_so ext) d ns)

  newer_parts : {may : Bool} (r : Bool) → May may r → {w : Bool} {ss os ts : Parts} → CutParts ss os → NewerParts may os ts → ReadsParts w r ss ts
  newer_parts r l no_cut no_more = none
  newer_parts true l (cut_part c cs) more_parts = unwritten
  newer_parts false l (cut_part c cs) more_parts = absurd l
  newer_parts r l (cut_part c cs) (also {p = p} {p' = p'} {s = t} {s' = o} h n ns) = both ((newer_kind o t p' p h).1) (newer_tree c n) (newer_parts r l cs ns)

-- the test doesn't depend on how deep the writer's tree is, as long as it is no shallower than the reader's
mutual
  unfolding writes_cut

  other_test : {s t o : Schema} → Reads s t → CutOf t o → writes_cut s o ≡ writes_cut s t
  other_test past_cut c = refl
  other_test (one_leaf l) cut_here = refl
  other_test (one_leaf l) (alike h) = refl
  other_test (one_leaf l) (cut_containing c) = absurd l
  other_test (one_leaf l) (cut_list c) = absurd l
  other_test (one_leaf l) (cut_set_of c) = absurd l
  other_test (one_leaf l) (cut_sequence c d) = absurd l
  other_test (one_leaf l) (cut_choice c d) = absurd l
  other_test of_items (alike h) = refl
  other_test (of_containing r) (alike h) = absurd h
  other_test (of_containing r) (cut_containing c) = other_test r c
  other_test (of_list r) (alike h) = absurd h
  other_test (of_list r) (cut_list c) = ap in_elements (other_test r c)
  other_test (of_set r) (alike h) = absurd h
  other_test (of_set r) (cut_set_of c) = ap in_elements (other_test r c)
  other_test (of_sequence r rs) (alike h) = absurd h
  other_test (of_sequence r rs) (cut_sequence c d) = ap₂ in_fields (other_slots r c) (other_slots rs d)
  other_test (of_older_sequence r rs) (alike h) = absurd h
  other_test (of_older_sequence r rs) (cut_sequence c d) = ap₂ in_fields (other_slots r c) (other_slots rs d)
  other_test (of_choice r rs) (alike h) = absurd h
  other_test (of_choice r rs) (cut_choice c d) = ap₂ in_alternative (fun_ext (other_at r c)) (fun_ext (other_at rs d))

  other_slots : {w r : Bool} {ss ts os : Parts} → ReadsParts w r ss ts → CutParts ts os → slots_write_cut ss os ≡ slots_write_cut ss ts
  other_slots none no_cut = refl
  other_slots unknown (cut_part c cs) = refl
  other_slots unwritten no_cut = refl
  other_slots (both {p' = p} k r rs) (cut_part c cs) = ap₂ (λ K G. in_slots (λ v. is_written p v && K v) G) (other_test r c) (other_slots rs cs)

  other_at : {w r : Bool} {ss ts os : Parts} → ReadsParts w r ss ts → CutParts ts os → (i : ℕ) → writes_cut_at ss os i ≡ writes_cut_at ss ts i
  other_at none no_cut i = refl
  other_at unknown (cut_part c cs) i = refl
  other_at unwritten no_cut i = refl
  other_at (both k r rs) (cut_part c cs) zero = other_test r c
  other_at (both k r rs) (cut_part c cs) (suc i) = other_at rs cs i

-- canonical bytes are filled by what is written
written_fills : (a : Settings) (t : Schema) (v : Value) (os : List ℕ) → bytes a.variant t v ≡ Some os → Fills a (Writes a t v) os
unfolding bytes
written_fills a t v os e = go (canon a.variant t v 0) refl e
  where
    full : (bs : Bits) → canon a.variant t v 0 ≡ Some bs → Fills a (Writes a t v) (complete bs)
    full [] x = inr (x, refl)
    full (b ∷ bs) x = let u = unpack-complete (b ∷ bs) (omega arith) in inl (record { front = b ∷ bs; spare = u.0; spelled = x; all = u.1; some = omega arith; short = u.2; zeros = zero_if a.strict u.0 u.3 })

    go : (o : Option Bits) → canon a.variant t v 0 ≡ o → completed o ≡ Some os → Fills a (Writes a t v) os
    go None i e = absurd (cc)
    go (Some bs) i e = let h : complete bs ≡ os = cc in subst (Fills a (Writes a t v)) h (full bs i)

-- the older type's reader
pub older_type_reads : (a : Settings) (T' T : ℕ → Schema) → Unfolds T' → Unfolds T → NewerType T' T → (v : Value) (os : List ℕ) (m n : ℕ) → m ≤ n → 128 ≤ n → meets_cut (T' n) v ≡ false → bytes a.variant (T' m) v ≡ Some os →
    (w : Value) → (read a T w os → (project (T' n) (T n) v ≡ Some w) × (writes_cut (T 128) (T' 128) v ≡ false)) × (project (T' n) (T n) v ≡ Some w → writes_cut (T 128) (T' 128) v ≡ false → read a T w os)
older_type_reads a T' T u' u k v os m n l l' c e w =
    let e' = encodes_deeper a.variant T' u' v os m n l e in
    let x = written_is_read a (T' m) v os e in
    let x' = written_is_read a (T' n) v os e' in
    let d = up_to T u 128 n l' in
    let same_test = ap (λ K. K v) (other_test (older_tree (uncut (T 128)) (k 128)) (up_to T' u' 128 n l')) in (
      λ y. ((older_type_answers a T' T u' u k v w os m n l l' c x).0 y, sym same_test ∙ fills_agree a os (reads_kept a (older_tree d (k n)) v w) x' y),
      λ p f. fills_carry a os (older_writes a d (k n) v w (c, p, same_test ∙ f)) (written_fills a (T' n) v os e'),
    )

-- the newer type's reader
pub newer_type_reads : (a : Settings) (T' T : ℕ → Schema) → Unfolds T' → Unfolds T → NewerType T' T → (v : Value) (os : List ℕ) (m n : ℕ) → m ≤ n → 128 ≤ n → bytes a.variant (T m) v ≡ Some os →
    (w : Value) → meets_cut (T' n) w ≡ false → (read a T' w os → (widen (T' n) (T n) v ≡ Some w) × (writes_cut (T' 128) (T 128) v ≡ false)) × (widen (T' n) (T n) v ≡ Some w → writes_cut (T' 128) (T 128) v ≡ false → read a T' w os)
newer_type_reads a T' T u' u k v os m n l l' e w c =
    let e' = encodes_deeper a.variant T u v os m n l e in
    let x = written_is_known a (T m) v os e in
    let x' = written_is_read a (T n) v os e' in
    let d = up_to T' u' 128 n l' in
    let same_test = ap (λ K. K v) (other_test (newer_tree (uncut (T' 128)) (k 128)) (up_to T u 128 n l')) in (
      λ y. ((newer_type_answers a T' T u' u k v w os m n l l' c x).0 y, sym same_test ∙ fills_agree a os (reads_kept a (newer_tree d (k n)) v w) x' y),
      λ p f. fills_carry a os (looser a (T' 128) w) (fills_carry a os (newer_writes a d (k n) v w (c, p, same_test ∙ f)) (written_fills a (T n) v os e')),
    )

-- what meets no Cut writes none
mutual
  unfolding meets_cut writes_cut

  pub uncut_writes : (s t : Schema) (v : Value) → meets_cut s v ≡ false → writes_cut s t v ≡ false
  uncut_writes Schema.cut t v m = m
  uncut_writes (Schema.containing e) t v m = uncut_writes e (element_of t) v m
  uncut_writes (Schema.list e size mark) t (elements vs) m = any_less (meets_cut e) (writes_cut e (element_of t)) (uncut_writes e (element_of t)) (values vs) m
  uncut_writes (Schema.list e size mark) t (bag vs) m = any_less (meets_cut e) (writes_cut e (element_of t)) (uncut_writes e (element_of t)) (values vs) m
  uncut_writes (Schema.list e size mark) t _ m = refl
  uncut_writes (Schema.set_of e size mark) t (elements vs) m = any_less (meets_cut e) (writes_cut e (element_of t)) (uncut_writes e (element_of t)) (values vs) m
  uncut_writes (Schema.set_of e size mark) t (bag vs) m = any_less (meets_cut e) (writes_cut e (element_of t)) (uncut_writes e (element_of t)) (values vs) m
  uncut_writes (Schema.set_of e size mark) t _ m = refl
  uncut_writes (Schema.sequence o ps ext adds) t (fields r x) m =
      or_both (slots_write_cut ps (root_of t) (slots r)) (slots_write_cut adds (additions_of t) (slots x))
      (whole_slots ps (root_of t) (slots r) (or_left (slots_meet_cut ps (slots r)) (slots_meet_cut adds (slots x)) m))
      (whole_slots adds (additions_of t) (slots x) (or_right (slots_meet_cut ps (slots r)) (slots_meet_cut adds (slots x)) m))
  uncut_writes (Schema.sequence o ps ext adds) t _ m = refl
  uncut_writes (Schema.choice ps adds ext) t (alternative root i v) m = whole_at ps (alternatives_of t) i v m
  uncut_writes (Schema.choice ps adds ext) t (alternative added i v) m = whole_at adds (added_of t) i v m
  uncut_writes (Schema.choice ps adds ext) t _ m = refl
  uncut_writes _ t v m = refl

  whole_slots : (ps qs : Parts) (xs : List (Option Value)) → slots_meet_cut ps xs ≡ false → slots_write_cut ps qs xs ≡ false
  whole_slots no_parts qs xs m = refl
  whole_slots (part t p s ps) no_parts xs m = refl
  whole_slots (part t p s ps) (part t' p' s' ps') [] m = refl
  whole_slots (part t p s ps) (part t' p' s' ps') (None ∷ xs) m = whole_slots ps ps' xs m
  whole_slots (part t p s ps) (part t' p' s' ps') (Some v ∷ xs) m =
      or_both (is_written p' v && writes_cut s s' v) (slots_write_cut ps ps' xs)
      (and_no (is_written p' v) (writes_cut s s' v) (uncut_writes s s' v (or_left (meets_cut s v) (slots_meet_cut ps xs) m))) (whole_slots ps ps' xs (or_right (meets_cut s v) (slots_meet_cut ps xs) m))

  whole_at : (ps qs : Parts) (i : ℕ) (v : Value) → meets_cut_at ps i v ≡ false → writes_cut_at ps qs i v ≡ false
  whole_at no_parts qs i v m = refl
  whole_at (part t p s ps) no_parts i v m = refl
  whole_at (part t p s ps) (part t' p' s' ps') zero v m = uncut_writes s s' v m
  whole_at (part t p s ps) (part t' p' s' ps') (suc i) v m = whole_at ps ps' i v m

-- of octets that begin with canonical bytes nothing else is read than of the bytes alone
read_alone : {P : Type 0} (a : Settings) (s t : Schema) (v w : Value) (os rest after : List ℕ) → Agree P (basic a t v) (basic a s w) → fills a t v os → front a s w (os ++ rest) after → fills a s w os × (after ≡ rest)
read_alone a s t v w os rest after g x y =
    let r = fronts_agree a os rest y.0 after g x y.2 y.1 in (subst (fills a s w) (sym r.1) y.2, sym r.2)

pub type_front : (a : Settings) (T : ℕ → Schema) → Unfolds T → (v w : Value) (os rest after : List ℕ) (n : ℕ) → bytes a.variant (T n) v ≡ Some os → front a (T 128) w (os ++ rest) after → read a T w os × (after ≡ rest)
type_front a T u v w os rest after n e y =
    let x = written_is_read a (T (n + 128)) v os (encodes_deeper a.variant T u v os n (n + 128) (omega arith) e) in
    read_alone a (T 128) (T (n + 128)) v w os rest after (reads_kept a (cut_reads (up_to T u 128 (n + 128) (omega arith))) v w) x y

pub older_type_front : (a : Settings) (T' T : ℕ → Schema) → Unfolds T' → Unfolds T → NewerType T' T → (v w : Value) (os rest after : List ℕ) (n : ℕ) → bytes a.variant (T' n) v ≡ Some os → front a (T 128) w (os ++ rest) after →
    read a T w os × (after ≡ rest)
older_type_front a T' T u' u k v w os rest after n e y =
    let x = written_is_read a (T' (n + 128)) v os (encodes_deeper a.variant T' u' v os n (n + 128) (omega arith) e) in
    read_alone a (T 128) (T' (n + 128)) v w os rest after (reads_kept a (older_tree (up_to T u 128 (n + 128) (omega arith)) (k (n + 128))) v w) x y

pub newer_type_front : (a : Settings) (T' T : ℕ → Schema) → Unfolds T' → Unfolds T → NewerType T' T → (v w : Value) (os rest after : List ℕ) (n : ℕ) → bytes a.variant (T n) v ≡ Some os → front a (T' 128) w (os ++ rest) after →
    read a T' w os × (after ≡ rest)
newer_type_front a T' T u' u k v w os rest after n e y =
    let x = written_is_read a (T (n + 128)) v os (encodes_deeper a.variant T u v os n (n + 128) (omega arith) e) in
    read_alone a (T' 128) (T (n + 128)) v w os rest after (reads_kept a (newer_tree (up_to T' u' 128 (n + 128) (omega arith)) (k (n + 128))) v w) x y
