-- Types in two versions: readers at 128 levels, projection and widening at as many levels as the value has.
use Rattle.std.proofs.Common.{◌≡◌, ◌↔◌, refl, subst, ℕ, zero, suc, ◌+◌, ◌-◌, ◌≤◌, Bool, true, false, List, [], ◌∷◌, arith, Option, Some, None}
use Rattle.rasn_types.specs.Values.{Value, elements, bag, fields, alternative, root, added, values, slots}
use Rattle.rasn_schema.specs.Depth.{meets_cut, slots_meet_cut, meets_cut_at, in_slots, in_elements, in_fields, in_alternative, any_of, CutOf, CutParts, cut_here, alike, cut_containing, cut_list, cut_set_of, cut_sequence, cut_choice, no_cut, cut_part, Unfolds}
use Rattle.rasn_schema.specs.Schemas.{Schema, Parts}
use Rattle.per_core.specs.Basic.{fills, fills_known, read}
use Rattle.per_core.specs.Spellings.{Settings}
use Rattle.per_core.specs.Versions.{project, widen, NewerType}
use Rattle.per_core.proofs.LengthForms.{or_left, or_right}
use Rattle.per_laws.proofs.Carry.{fills_carry}
use Rattle.per_laws.proofs.DeeperTrees.{deeper, looser, uncut}
use Rattle.per_laws.proofs.OlderReadings.{older_holds, newer_holds}
use Rattle.per_laws.proofs.Readers.{older_answers, newer_answers, deeper_reads, shallower_reads}
use Rattle.per_laws.proofs.Transitive.{or_both}

-- trees that are cut off again
mutual
  through_cut : {r s t : Schema} → CutOf r s → CutOf s t → CutOf r t
  through_cut cut_here d = cut_here
  through_cut (alike h) d = d
  through_cut (cut_containing c) (alike h) = absurd h
  through_cut (cut_containing c) (cut_containing d) = cut_containing (through_cut c d)
  through_cut (cut_list c) (alike h) = absurd h
  through_cut (cut_list c) (cut_list d) = cut_list (through_cut c d)
  through_cut (cut_set_of c) (alike h) = absurd h
  through_cut (cut_set_of c) (cut_set_of d) = cut_set_of (through_cut c d)
  through_cut (cut_sequence c cs) (alike h) = absurd h
  through_cut (cut_sequence c cs) (cut_sequence d ds) = cut_sequence (through_parts c d) (through_parts cs ds)
  through_cut (cut_choice c cs) (alike h) = absurd h
  through_cut (cut_choice c cs) (cut_choice d ds) = cut_choice (through_parts c d) (through_parts cs ds)

  through_parts : {ps qs rs : Parts} → CutParts ps qs → CutParts qs rs → CutParts ps rs
  through_parts no_cut no_cut = no_cut
  through_parts (cut_part c cs) (cut_part d ds) = cut_part (through_cut c d) (through_parts cs ds)

-- a deeper tree meets no Cut where the other meets none
pub any_less : (K L : Value → Bool) → ((v : Value) → K v ≡ false → L v ≡ false) → (vs : List Value) → any_of K vs ≡ false → any_of L vs ≡ false
any_less K L h [] m = refl
any_less K L h (v ∷ vs) m = or_both (L v) (any_of L vs) (h v (or_left (K v) (any_of K vs) m)) (any_less K L h vs (or_right (K v) (any_of K vs) m))

pub elements_less : (K L : Value → Bool) → ((v : Value) → K v ≡ false → L v ≡ false) → (v : Value) → in_elements K v ≡ false → in_elements L v ≡ false
elements_less K L h (elements vs) m = any_less K L h (values vs) m
elements_less K L h (bag vs) m = any_less K L h (values vs) m
elements_less K L h _ m = refl

pub fields_less : (K L K' L' : List (Option Value) → Bool) → ((x : List (Option Value)) → K x ≡ false → L x ≡ false) → ((x : List (Option Value)) → K' x ≡ false → L' x ≡ false) →
    (v : Value) → in_fields K K' v ≡ false → in_fields L L' v ≡ false
fields_less K L K' L' h h' (fields r x) m = or_both (L (slots r)) (L' (slots x)) (h (slots r) (or_left (K (slots r)) (K' (slots x)) m)) (h' (slots x) (or_right (K (slots r)) (K' (slots x)) m))
fields_less K L K' L' h h' _ m = refl

pub alternative_less : (K L K' L' : ℕ → Value → Bool) → ((i : ℕ) (v : Value) → K i v ≡ false → L i v ≡ false) → ((i : ℕ) (v : Value) → K' i v ≡ false → L' i v ≡ false) →
    (v : Value) → in_alternative K K' v ≡ false → in_alternative L L' v ≡ false
alternative_less K L K' L' h h' (alternative root i v) m = h i v m
alternative_less K L K' L' h h' (alternative added i v) m = h' i v m
alternative_less K L K' L' h h' _ m = refl

slots_less : (K L : Value → Bool) (M N : List (Option Value) → Bool) → ((v : Value) → K v ≡ false → L v ≡ false) → ((x : List (Option Value)) → M x ≡ false → N x ≡ false) →
    (x : List (Option Value)) → in_slots K M x ≡ false → in_slots L N x ≡ false
slots_less K L M N h k [] m = refl
slots_less K L M N h k (None ∷ xs) m = k xs m
slots_less K L M N h k (Some v ∷ xs) m = or_both (L v) (N xs) (h v (or_left (K v) (M xs) m)) (k xs (or_right (K v) (M xs) m))

mutual
  unfolding meets_cut

  pub less_cut : {s t : Schema} → CutOf s t → (v : Value) → meets_cut s v ≡ false → meets_cut t v ≡ false
  less_cut cut_here = λ v m. absurd (cc)
  less_cut (alike h) = λ v m. m
  less_cut (cut_containing c) = less_cut c
  less_cut (cut_list {s = s} {t = t} c) = elements_less (meets_cut s) (meets_cut t) (less_cut c)
  less_cut (cut_set_of {s = s} {t = t} c) = elements_less (meets_cut s) (meets_cut t) (less_cut c)
  less_cut (cut_sequence {ps = ps} {qs = qs} {adds = adds} {bdds = bdds} c d) = fields_less (slots_meet_cut ps) (slots_meet_cut qs) (slots_meet_cut adds) (slots_meet_cut bdds) (less_slots c) (less_slots d)
  less_cut (cut_choice {ps = ps} {qs = qs} {adds = adds} {bdds = bdds} c d) = alternative_less (meets_cut_at ps) (meets_cut_at qs) (meets_cut_at adds) (meets_cut_at bdds) (less_at c) (less_at d)

  less_slots : {ps qs : Parts} → CutParts ps qs → (x : List (Option Value)) → slots_meet_cut ps x ≡ false → slots_meet_cut qs x ≡ false
  less_slots no_cut = λ x m. m
  less_slots (cut_part {s = s} {s' = t} {ps = ps} {ps' = qs} c cs) = slots_less (meets_cut s) (meets_cut t) (slots_meet_cut ps) (slots_meet_cut qs) (less_cut c) (less_slots cs)

  less_at : {ps qs : Parts} → CutParts ps qs → (i : ℕ) (v : Value) → meets_cut_at ps i v ≡ false → meets_cut_at qs i v ≡ false
  less_at no_cut i = λ v m. m
  less_at (cut_part c cs) zero = less_cut c
  less_at (cut_part c cs) (suc i) = less_at cs i

-- unfoldings to more levels
further : (T : ℕ → Schema) → Unfolds T → (n k : ℕ) → CutOf (T n) (T (n + k))
further T u n zero = subst (λ m. CutOf (T n) (T m)) (omega arith) (uncut (T n))
further T u n (suc k) = subst (λ m. CutOf (T n) (T m)) (omega arith) (through_cut (further T u n k) (u.grows (n + k)))

pub up_to : (T : ℕ → Schema) → Unfolds T → (n m : ℕ) → n ≤ m → CutOf (T n) (T m)
up_to T u n m l = subst (λ k. CutOf (T n) (T k)) (omega arith) (further T u n (m - n))

-- a tree deep enough for a value, as deep as one likes
pub deep_enough : (T : ℕ → Schema) → Unfolds T → (v : Value) (n : ℕ) → (m : ℕ) × (n ≤ m) × (meets_cut (T m) v ≡ false)
deep_enough T u v n =
    let h = u.holds v in
    (n + h.0, omega arith, less_cut (up_to T u h.0 (n + h.0) (omega arith)) v h.1)

-- what the older type's reader reads of what is spelled by some unfolding of the newer type is the projection, at every unfolding that is deep enough
pub older_type_answers : (a : Settings) (T' T : ℕ → Schema) → Unfolds T' → Unfolds T → NewerType T' T → (v' v : Value) (os : List ℕ) (m n : ℕ) → m ≤ n → 128 ≤ n → meets_cut (T' n) v' ≡ false → fills a (T' m) v' os →
    (read a T v os → project (T' n) (T n) v' ≡ Some v) × (project (T' n) (T n) v' ≡ Some v → meets_cut (T 128) v ≡ false → read a T v os)
older_type_answers a T' T u' u k v' v os m n l l' c x =
    let x' = deeper_reads a (T' m) (T' n) (up_to T' u' m n l) v' os x in
    let r = older_answers a (T' n) (T n) (k n) v' v os [] [] x' c in (
      λ y. (r.0 (os, refl, deeper_reads a (T 128) (T n) (up_to T u 128 n l') v os y)).0,
      λ e d. shallower_reads a (T 128) (T n) (up_to T u 128 n l') v os d (r.1 e),
    )

-- the same of the newer type's reader and the widening, where no unknown additions are present
pub newer_type_answers : (a : Settings) (T' T : ℕ → Schema) → Unfolds T' → Unfolds T → NewerType T' T → (v v' : Value) (os : List ℕ) (m n : ℕ) → m ≤ n → 128 ≤ n → meets_cut (T' n) v' ≡ false → fills_known a (T m) v os →
    (read a T' v' os → widen (T' n) (T n) v ≡ Some v') × (widen (T' n) (T n) v ≡ Some v' → meets_cut (T' 128) v' ≡ false → read a T' v' os)
newer_type_answers a T' T u' u k v v' os m n l l' c x =
    let x' = fills_carry a os (deeper a false false tt (up_to T u m n l) v) x in
    let r = newer_answers a (T' n) (T n) (k n) v v' os [] [] x' c in (
      λ y. (r.0 (os, refl, deeper_reads a (T' 128) (T' n) (up_to T' u' 128 n l') v' os y)).0,
      λ e d. shallower_reads a (T' 128) (T' n) (up_to T' u' 128 n l') v' os d (fills_carry a os (deeper a false true tt (uncut (T' n)) v') (r.1 e)),
    )

-- what the newer type's reader reads, the older type's reads as the projection, whatever the depth of what isn't written
pub older_reader_answers : (a : Settings) (T' T : ℕ → Schema) → Unfolds T' → Unfolds T → NewerType T' T → (v' v : Value) (os : List ℕ) (n : ℕ) → 128 ≤ n → meets_cut (T' n) v' ≡ false → read a T' v' os →
    read a T v os ↔ (project (T' n) (T n) v' ≡ Some v)
older_reader_answers a T' T u' u k v' v os n l c x = (
  (older_type_answers a T' T u' u k v' v os 128 n l l c x).0,
  λ e. fills_carry a os (older_holds a (k 128) (up_to T' u' 128 n l) (up_to T u 128 n l) (k n) v' v c e) x,
)

-- the same of the newer type's reader and the widening, where no unknown additions are present
pub newer_reader_answers : (a : Settings) (T' T : ℕ → Schema) → Unfolds T' → Unfolds T → NewerType T' T → (v v' : Value) (os : List ℕ) (n : ℕ) → 128 ≤ n → meets_cut (T' n) v' ≡ false → fills_known a (T 128) v os →
    read a T' v' os ↔ (widen (T' n) (T n) v ≡ Some v')
newer_reader_answers a T' T u' u k v v' os n l c x = (
  (newer_type_answers a T' T u' u k v v' os 128 n l l c x).0,
  λ e. fills_carry a os (looser a (T' 128) v') (fills_carry a os (newer_holds a (k 128) (up_to T' u' 128 n l) (up_to T u 128 n l) (k n) v v' c e) x),
)
