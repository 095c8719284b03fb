-- Projection and widening at any depth that holds the newer value.
use Rattle.std.proofs.Common.{◌≡◌, ◌↔◌, ◌⊎◌, inl, inr, refl, sym, ap, ap₂, ◌∙◌, ℕ, zero, suc, ◌+◌, Bool, false, List, [], ◌∷◌, ◌++◌, arith, Option, Some, None}
use Rattle.rasn_types.specs.Values.{Value, elements, bag, bag_of, fields, alternative, root, added, as_values, values, slots}
use Rattle.rasn_schema.specs.Depth.{meets_cut, slots_meet_cut, meets_cut_at, in_slots, in_elements, in_fields, in_alternative, any_of, CutOf, CutParts, alike, cut_containing, cut_list, cut_set_of, cut_sequence, cut_choice, no_cut, cut_part, Unfolds}
use Rattle.rasn_schema.specs.Schemas.{Schema, Parts}
use Rattle.per_core.specs.Basic.{fills, fills_known, front, read}
use Rattle.per_core.specs.Spellings.{Settings}
use Rattle.rasn_types.specs.AllOf.{joined, all_of}
use Rattle.per_core.specs.Versions.{project, project_slots, project_at, widen, slot_through, slots_through, through_elements, through_bag, through_fields, through_alternative, made, made_both, IsPlain, Newer, NewerParts, NewerType, unchanged, more_items, newer_containing, newer_list, newer_set_of, newer_sequence, newer_choice, no_more, more_parts, also}
use Rattle.per_core.proofs.LengthForms.{or_left, or_right}
use Rattle.per_laws.proofs.Carry.{fills_carry}
use Rattle.per_laws.proofs.DeeperTrees.{deeper}
use Rattle.per_laws.proofs.OlderReadings.{plain_cut}
use Rattle.per_laws.proofs.Readers.{deeper_reads, older_answers, newer_answers}
use Rattle.per_laws.proofs.Successors.{newer_succeeds}
use Rattle.per_laws.proofs.Transitive.{Slotted, slot_apart, slot_test}
use Rattle.per_laws.proofs.Types.{less_cut, up_to, older_reader_answers, newer_reader_answers}
use Rattle.per_laws.proofs.Wider.{cut_meets, wider, narrower}

-- two functions that make the same of what meets no Cut
abbrev Alike : {X Y : Type 0} → (X → Y) → (X → Y) → (X → Bool) → Type 0
Alike {X} f g K = (v : X) → K v ≡ false → f v ≡ g v

all_alike : (f g : Value → Option Value) (K : Value → Bool) → Alike f g K → Alike (all_of f) (all_of g) (any_of K)
all_alike f g K r [] m = refl
all_alike f g K r (v ∷ vs) m = ap₂ joined (r v (or_left (K v) (any_of K vs) m)) (all_alike f g K r vs (or_right (K v) (any_of K vs) m))

elements_alike : (f g : Value → Option Value) (K : Value → Bool) → Alike f g K → Alike (through_elements f) (through_elements g) (in_elements K)
elements_alike f g K r (elements vs) m = ap (made (λ ws. elements (as_values ws))) (all_alike f g K r (values vs) m)
elements_alike f g K r _ m = refl

bags_alike : (f g : Value → Option Value) (K : Value → Bool) → Alike f g K → Alike (through_bag f) (through_bag g) (in_elements K)
bags_alike f g K r (bag vs) m = ap (made bag_of) (all_alike f g K r (values vs) m)
bags_alike f g K r _ m = refl

fields_alike : (F G : Slotted) (K : List (Option Value) → Bool) (F' G' : Slotted) (L : List (Option Value) → Bool) → Alike F G K → Alike F' G' L → Alike (through_fields F F') (through_fields G G') (in_fields K L)
fields_alike F G K F' G' L r r' (fields a b) m = ap₂ made_both (r (slots a) (or_left (K (slots a)) (L (slots b)) m)) (r' (slots b) (or_right (K (slots a)) (L (slots b)) m))
fields_alike F G K F' G' L r r' _ m = refl

alternative_alike : (F G : ℕ → Value → Option Value) (K : ℕ → Value → Bool) (F' G' : ℕ → Value → Option Value) (L : ℕ → Value → Bool) →
    ((i : ℕ) → Alike (F i) (G i) (K i)) → ((i : ℕ) → Alike (F' i) (G' i) (L i)) → Alike (through_alternative F F') (through_alternative G G') (in_alternative K L)
alternative_alike F G K F' G' L r r' (alternative root i v) m = ap (made (alternative root i)) (r i v m)
alternative_alike F G K F' G' L r r' (alternative added i v) m = ap (made (alternative added i)) (r' i v m)
alternative_alike F G K F' G' L r r' _ m = refl

slot_alike : (f g : Value → Option Value) (K : Value → Bool) → Alike f g K → Alike (slot_through f) (slot_through g) (slot_test K)
slot_alike f g K r None m = refl
slot_alike f g K r (Some v) m = ap (λ o. elim o [ None ↦ None | Some w ↦ Some (Some w) ]) (r v m)

slots_alike : (f g : Value → Option Value) (K : Value → Bool) (F G : Slotted) (L : List (Option Value) → Bool) → Alike f g K → Alike F G L → Alike (slots_through f F) (slots_through g G) (in_slots K L)
slots_alike f g K F G L r rs [] m = refl
slots_alike f g K F G L r rs (x ∷ xs) m = let c = slot_apart K L x xs m in ap₂ joined (slot_alike f g K r x c.0) (rs xs c.1)

plain_alike : {s t' t : Schema} → IsPlain s → CutOf s t' → CutOf s t → Alike (project s s) (project t' t) (meets_cut s)
plain_alike {s} {t'} {t} h c d = λ v m. go (plain_cut h c) (plain_cut h d) v m
  where
    go : (s ≡ Schema.cut) ⊎ (t' ≡ s) → (s ≡ Schema.cut) ⊎ (t ≡ s) → Alike (project s s) (project t' t) (meets_cut s)
    go (inl k) l v m = absurd (cut_meets s k v m)
    go (inr k) (inl l) v m = absurd (cut_meets s l v m)
    go (inr k) (inr l) v m = ap (λ z. project s z v) (sym l) ∙ ap (λ z. project z t v) (sym k)

mutual
  unfolding project meets_cut

  pub project_alike : {s' s t' t : Schema} → Newer s' s → CutOf s' t' → CutOf s t → Alike (project s' s) (project t' t) (meets_cut s')
  project_alike (unchanged h) c d = plain_alike h c d
  project_alike (more_items h) (alike i) (alike j) = λ v m. refl
  project_alike (newer_containing n) (alike i) d = absurd i
  project_alike (newer_containing n) (cut_containing c) (alike i) = absurd i
  project_alike (newer_containing n) (cut_containing c) (cut_containing d) = project_alike n c d
  project_alike (newer_list n) (alike i) d = absurd i
  project_alike (newer_list n) (cut_list c) (alike i) = absurd i
  project_alike (newer_list {e = e0} {e' = e1} n) (cut_list {t = f1} c) (cut_list {t = f0} d) = elements_alike (project e1 e0) (project f1 f0) (meets_cut e1) (project_alike n c d)
  project_alike (newer_set_of n) (alike i) d = absurd i
  project_alike (newer_set_of n) (cut_set_of c) (alike i) = absurd i
  project_alike (newer_set_of {e = e0} {e' = e1} n) (cut_set_of {t = f1} c) (cut_set_of {t = f0} d) = bags_alike (project e1 e0) (project f1 f0) (meets_cut e1) (project_alike n c d)
  project_alike (newer_sequence n ns) (alike i) d = absurd i
  project_alike (newer_sequence n ns) (cut_sequence c cs) (alike i) = absurd i
  project_alike (newer_sequence {ps = ps} {ps' = ps'} {adds = adds} {adds' = adds'} n ns) (cut_sequence {qs = qs'} {bdds = bdds'} c cs) (cut_sequence {qs = qs} {bdds = bdds} d ds) =
      fields_alike (project_slots ps' ps) (project_slots qs' qs) (slots_meet_cut ps') (project_slots adds' adds) (project_slots bdds' bdds) (slots_meet_cut adds') (slots_project_alike n c d) (slots_project_alike ns cs ds)
  project_alike (newer_choice n ns) (alike i) d = absurd i
  project_alike (newer_choice n ns) (cut_choice c cs) (alike i) = absurd i
  project_alike (newer_choice {ps = ps} {ps' = ps'} {adds = adds} {adds' = adds'} n ns) (cut_choice {qs = qs'} {bdds = bdds'} c cs) (cut_choice {qs = qs} {bdds = bdds} d ds) =
      alternative_alike (project_at ps' ps) (project_at qs' qs) (meets_cut_at ps') (project_at adds' adds) (project_at bdds' bdds) (meets_cut_at adds') (at_project_alike n c d) (at_project_alike ns cs ds)

  slots_project_alike : {may : Bool} {ps' ps qs' qs : Parts} → NewerParts may ps' ps → CutParts ps' qs' → CutParts ps qs → Alike (project_slots ps' ps) (project_slots qs' qs) (slots_meet_cut ps')
  slots_project_alike no_more no_cut no_cut = λ v m. refl
  slots_project_alike more_parts (cut_part c cs) no_cut = λ v m. refl
  slots_project_alike (also {s = s} {s' = s'} {ps = ps} {ps' = ps'} h n ns) (cut_part {s' = r'} {ps' = qs'} c cs) (cut_part {s' = r} {ps' = qs} d ds) =
      slots_alike (project s' s) (project r' r) (meets_cut s') (project_slots ps' ps) (project_slots qs' qs) (slots_meet_cut ps') (project_alike n c d) (slots_project_alike ns cs ds)

  at_project_alike : {may : Bool} {ps' ps qs' qs : Parts} → NewerParts may ps' ps → CutParts ps' qs' → CutParts ps qs → (i : ℕ) → Alike (project_at ps' ps i) (project_at qs' qs i) (meets_cut_at ps' i)
  at_project_alike no_more no_cut no_cut i = λ v m. refl
  at_project_alike more_parts (cut_part c cs) no_cut i = λ v m. refl
  at_project_alike (also h n ns) (cut_part c cs) (cut_part d ds) zero = project_alike n c d
  at_project_alike (also h n ns) (cut_part c cs) (cut_part d ds) (suc i) = at_project_alike ns cs ds i

-- what is read of octets is read of them with others after them, and leaves just the others
after_them : (a : Settings) (s : Schema) (v : Value) (os rest after : List ℕ) → fills a s v os → after ≡ rest → front a s v (os ++ rest) after
after_them a s v os rest after x e = (os, ap (λ l. os ++ l) (sym e), x)

pub older_reader_at : (a : Settings) (T' T : ℕ → Schema) → Unfolds T' → Unfolds T → NewerType T' T → (v' v : Value) (os : List ℕ) (n : ℕ) → meets_cut (T' n) v' ≡ false → read a T' v' os →
    read a T v os ↔ (project (T' n) (T n) v' ≡ Some v)
older_reader_at a T' T u' u k v' v os n m x =
    let l = up_to T' u' n (n + 128) (omega arith) in
    let e = project_alike (k n) l (up_to T u n (n + 128) (omega arith)) v' m in
    let r = older_reader_answers a T' T u' u k v' v os (n + 128) (omega arith) (less_cut l v' m) x in
    (λ y. e ∙ r.0 y, λ i. r.1 (sym e ∙ i))

pub older_reader_reads : (a : Settings) (T' T : ℕ → Schema) → Unfolds T' → Unfolds T → NewerType T' T → (v' v : Value) (os rest after : List ℕ) (n : ℕ) → meets_cut (T' n) v' ≡ false → read a T' v' os →
    (read a T v os ↔ (project (T' n) (T n) v' ≡ Some v)) × (front a (T 128) v (os ++ rest) after ↔ ((project (T' n) (T n) v' ≡ Some v) × (after ≡ rest)))
older_reader_reads a T' T u' u k v' v os rest after n m x = (r, (λ y. in_front y, λ z. after_them a (T 128) v os rest after (r.1 z.0) z.1))
  where
    r : read a T v os ↔ (project (T' n) (T n) v' ≡ Some v)
    r = older_reader_at a T' T u' u k v' v os n m x

    in_front : front a (T 128) v (os ++ rest) after → (project (T' n) (T n) v' ≡ Some v) × (after ≡ rest)
    in_front y =
        let l' = up_to T' u' n (n + 128) (omega arith) in
        let l = up_to T u n (n + 128) (omega arith) in
        let x' = deeper_reads a (T' 128) (T' (n + 128)) (up_to T' u' 128 (n + 128) (omega arith)) v' os x in
        let q = (older_answers a (T' (n + 128)) (T (n + 128)) (k (n + 128)) v' v os rest after x' (less_cut l' v' m)).0 (y.0, y.1, deeper_reads a (T 128) (T (n + 128)) (up_to T u 128 (n + 128) (omega arith)) v y.0 y.2) in
        (project_alike (k n) l' l v' m ∙ q.0, q.1)

pub newer_reader_at : (a : Settings) (T' T : ℕ → Schema) → Unfolds T' → Unfolds T → NewerType T' T → (v v' : Value) (os : List ℕ) (n : ℕ) → meets_cut (T' n) v' ≡ false → fills_known a (T 128) v os →
    read a T' v' os ↔ (widen (T' n) (T n) v ≡ Some v')
newer_reader_at a T' T u' u k v v' os n m x =
    let s = newer_succeeds (k n) in
    let l' = up_to T' u' n (n + 128) (omega arith) in
    let l = up_to T u n (n + 128) (omega arith) in
    let r = newer_reader_answers a T' T u' u k v v' os (n + 128) (omega arith) (less_cut l' v' m) x in
    (λ y. narrower s l' l v v' (r.0 y) m, λ e. r.1 (wider s l' l v v' e m))

pub newer_reader_reads : (a : Settings) (T' T : ℕ → Schema) → Unfolds T' → Unfolds T → NewerType T' T → (v v' : Value) (os rest after : List ℕ) (n : ℕ) → meets_cut (T' n) v' ≡ false → fills_known a (T 128) v os →
    (read a T' v' os ↔ (widen (T' n) (T n) v ≡ Some v')) × (front a (T' 128) v' (os ++ rest) after ↔ ((widen (T' n) (T n) v ≡ Some v') × (after ≡ rest)))
newer_reader_reads a T' T u' u k v v' os rest after n m x = (r, (λ y. in_front y, λ z. after_them a (T' 128) v' os rest after (r.1 z.0) z.1))
  where
    r : read a T' v' os ↔ (widen (T' n) (T n) v ≡ Some v')
    r = newer_reader_at a T' T u' u k v v' os n m x

    in_front : front a (T' 128) v' (os ++ rest) after → (widen (T' n) (T n) v ≡ Some v') × (after ≡ rest)
    in_front y =
        let l' = up_to T' u' n (n + 128) (omega arith) in
        let l = up_to T u n (n + 128) (omega arith) in
        let x' = fills_carry a os (deeper a false false tt (up_to T u 128 (n + 128) (omega arith)) v) x in
        let q = (newer_answers a (T' (n + 128)) (T (n + 128)) (k (n + 128)) v v' os rest after x' (less_cut l' v' m)).0 (y.0, y.1, deeper_reads a (T' 128) (T' (n + 128)) (up_to T' u' 128 (n + 128) (omega arith)) v' y.0 y.2) in
        (narrower (newer_succeeds (k n)) l' l v v' q.0 m, q.1)
