-- One type at two depths: what is written is the same, and what is read.
use Rattle.std.proofs.Common.{◌≡◌, refl, sym, ap, ◌∙◌, subst, ap₂, ℕ, zero, suc, ◌≤◌, Bool, true, false, ◌&&◌, List, [], arith, inl, inr, Option, Some, None}
use Rattle.std.proofs.lemmas.Bool.{cases_lt}
use Rattle.std.proofs.Math.Path.{fun_ext}
use Rattle.rasn_types.specs.Values.{Value}
use Rattle.rasn_types.specs.Bits.{Bits}
use Rattle.rasn_types.specs.Variants.{Variant}
use Rattle.rasn_schema.specs.Schemas.{Presence, required, optional, group, default, Schema, Parts}
use Rattle.rasn_schema.specs.Depth.{in_elements, in_fields, in_alternative, in_slots, CutOf, CutParts, cut_here, alike, cut_containing, cut_list, cut_set_of, cut_sequence, cut_choice, no_cut, cut_part, Unfolds}
use Rattle.per_core.specs.Spellings.{Settings}
use Rattle.per_core.specs.Canon.{canon, bytes, completed}
use Rattle.per_core.specs.Basic.{basic, fills, read}
use Rattle.per_core.proofs.Canonical.{canonical}
use Rattle.per_core.proofs.Unique.{fills_agree}
use Rattle.per_core.proofs.Laws.{one_value, written_is_read}
use Rattle.per_laws.proofs.Carry.{fills_carry}
use Rattle.per_laws.proofs.DeeperTrees.{deeper, uncut}
use Rattle.per_laws.proofs.Types.{up_to}
use Rattle.per_laws.specs.Written.{is_written, writes_cut, slots_write_cut, writes_cut_at}
use Rattle.per_laws.proofs.SameWritten.{same_writer}
use Rattle.per_laws.proofs.Reading.{SameKind, Reads, ReadsParts, past_cut, one_leaf, of_containing, of_list, of_set, of_sequence, of_choice, none, both, reads_kept}

pub same_kind : (p : Presence) → SameKind p p
same_kind required = tt
same_kind optional = tt
same_kind group = tt
same_kind (default d) = tt

mutual
  pub cut_reads : {s t : Schema} → CutOf s t → Reads s t
  cut_reads cut_here = past_cut
  cut_reads (alike h) = one_leaf h
  cut_reads (cut_containing c) = of_containing (cut_reads c)
  cut_reads (cut_list c) = of_list (cut_reads c)
  cut_reads (cut_set_of c) = of_set (cut_reads c)
  cut_reads (cut_sequence c d) = of_sequence (cut_parts c) (cut_parts d)
  cut_reads (cut_choice c d) = of_choice (cut_parts c) (cut_parts d)

  pub cut_parts : {w r : Bool} {ps qs : Parts} → CutParts ps qs → ReadsParts w r ps qs
  cut_parts no_cut = none
  cut_parts (cut_part {p = p} c cs) = both (same_kind p) (cut_reads c) (cut_parts cs)

-- the test depends on the reader's tree alone, of one type
mutual
  unfolding writes_cut

  pub own_test : {s t : Schema} → CutOf s t → writes_cut s t ≡ writes_cut s s
  own_test cut_here = refl
  own_test (alike h) = refl
  own_test (cut_containing c) = own_test c
  own_test (cut_list c) = ap in_elements (own_test c)
  own_test (cut_set_of c) = ap in_elements (own_test c)
  own_test (cut_sequence c d) = ap₂ in_fields (own_slots c) (own_slots d)
  own_test (cut_choice c d) = ap₂ in_alternative (fun_ext (own_at c)) (fun_ext (own_at d))

  own_slots : {ps qs : Parts} → CutParts ps qs → slots_write_cut ps qs ≡ slots_write_cut ps ps
  own_slots no_cut = refl
  own_slots (cut_part {p = p} c cs) = ap₂ (λ K G. in_slots (λ v. is_written p v && K v) G) (own_test c) (own_slots cs)

  own_at : {ps qs : Parts} → CutParts ps qs → (i : ℕ) → writes_cut_at ps qs i ≡ writes_cut_at ps ps i
  own_at no_cut i = refl
  own_at (cut_part c cs) zero = own_test c
  own_at (cut_part c cs) (suc i) = own_at cs i

-- settings with this variant
abbrev strict_of : Variant → Settings
strict_of a = record { variant = a; strict = true }

pub spelled_whole : (a : Settings) {s t : Schema} → CutOf s t → (v : Value) (p : ℕ) (b : Bits) → basic a s v p b → writes_cut s t v ≡ false
spelled_whole a c v p b x = ((reads_kept a (cut_reads c) v v).agree p b b [] [] ((deeper a true true tt c v).carry p b x) x refl).0

pub written_whole : (a : Variant) {s t : Schema} → CutOf s t → (v : Value) (p : ℕ) (b : Bits) → canon a s v p ≡ Some b → writes_cut s t v ≡ false
written_whole a {s} c v p b e = spelled_whole (strict_of a) c v p b ((canonical (strict_of a) true s v).within p b e)

pub shallower_writes : (a : Variant) (s t : Schema) → CutOf s t → (v : Value) (p : ℕ) → writes_cut s s v ≡ false → canon a s v p ≡ canon a t v p
shallower_writes a s t c v p m = ap (λ w. w p) (same_writer a c v (ap (λ K. K v) (own_test c) ∙ m))

pub deeper_writes : (a : Variant) (s t : Schema) → CutOf s t → (v : Value) (p : ℕ) (b : Bits) → canon a s v p ≡ Some b → (canon a t v p ≡ Some b) × (writes_cut s s v ≡ false)
deeper_writes a s t c v p b e =
    let m = written_whole a c v p b e in
    let n = ap (λ K. K v) (sym (own_test c)) ∙ m in
    (sym (shallower_writes a s t c v p n) ∙ e, n)

-- the bytes
bytes_of : (a : Variant) (s : Schema) (v : Value) (os : List ℕ) → bytes a s v ≡ Some os → (b : Bits) × (canon a s v 0 ≡ Some b)
unfolding bytes
bytes_of a s v os e = go (canon a s v 0) refl e
  where
    go : (o : Option Bits) → canon a s v 0 ≡ o → completed o ≡ Some os → (b : Bits) × (canon a s v 0 ≡ Some b)
    go None i e = absurd (cc)
    go (Some b) i e = (b, i)

pub bytes_at_less : (a : Variant) (s t : Schema) → CutOf s t → (v : Value) → writes_cut s s v ≡ false → bytes a s v ≡ bytes a t v
unfolding bytes
bytes_at_less a s t c v m = ap completed (shallower_writes a s t c v 0 m)

pub bytes_whole : (a : Variant) (s : Schema) (v : Value) (os : List ℕ) → bytes a s v ≡ Some os → writes_cut s s v ≡ false
bytes_whole a s v os e = let q = bytes_of a s v os e in (deeper_writes a s s (uncut s) v 0 q.0 q.1).1

-- the bytes in a tree are those in a deeper one, where nothing that is written is cut off; and otherwise there are none
pub writes_at_less : (a : Variant) (s t : Schema) → CutOf s t → (v : Value) (os : List ℕ) →
    (bytes a s v ≡ Some os → (bytes a t v ≡ Some os) × (writes_cut s s v ≡ false)) × (bytes a t v ≡ Some os → writes_cut s s v ≡ false → bytes a s v ≡ Some os)
writes_at_less a s t c v os = (
  λ e. let m = bytes_whole a s v os e in (sym (bytes_at_less a s t c v m) ∙ e, m),
  λ e m. bytes_at_less a s t c v m ∙ e,
)

-- what is read of canonical bytes in a shallower tree
pub shallower_tree_reads : (a : Settings) (s t : Schema) → CutOf s t → (v : Value) (os : List ℕ) → bytes a.variant t v ≡ Some os →
    ((w : Value) → fills a s w os → (w ≡ v) × (writes_cut s s v ≡ false)) × (writes_cut s s v ≡ false → fills a s v os)
shallower_tree_reads a s t c v os e = (
  λ w x.
      let y = fills_carry a os (deeper a true true tt c w) x in
      let i : w ≡ v = one_value a t w v os y (written_is_read a t v os e) in
      let m = fills_agree a os (reads_kept a (cut_reads c) w w) y x in
      (i, subst (λ z. writes_cut s s z ≡ false) i (ap (λ K. K w) (sym (own_test c)) ∙ m)),
  λ m. written_is_read a s v os ((writes_at_less a.variant s t c v os).1 e m),
)

-- types
pub encodes_deeper : (a : Variant) (T : ℕ → Schema) → Unfolds T → (v : Value) (os : List ℕ) (m n : ℕ) → m ≤ n → bytes a (T m) v ≡ Some os → bytes a (T n) v ≡ Some os
encodes_deeper a T u v os m n l e = ((writes_at_less a (T m) (T n) (up_to T u m n l) v os).0 e).0

pub one_encoding : (a : Variant) (T : ℕ → Schema) → Unfolds T → (v : Value) (os ps : List ℕ) (m n : ℕ) → bytes a (T m) v ≡ Some os → bytes a (T n) v ≡ Some ps → os ≡ ps
one_encoding a T u v os ps m n e f = elim (cases_lt m n) [
  | inl l ↦ some_list os ps (sym (encodes_deeper a T u v os m n (omega arith) e) ∙ f)
  | inr l ↦ some_list os ps (sym e ∙ encodes_deeper a T u v ps n m l f)
]
  where
    some_list : (os ps : List ℕ) → ◌≡◌ {A = Option (List ℕ)} (Some os) (Some ps) → os ≡ ps
    some_list os ps e = cc

pub type_reads : (a : Settings) (T : ℕ → Schema) → Unfolds T → (v : Value) (os : List ℕ) (n : ℕ) → bytes a.variant (T n) v ≡ Some os →
    ((w : Value) → read a T w os → (w ≡ v) × (writes_cut (T 128) (T 128) v ≡ false)) × (writes_cut (T 128) (T 128) v ≡ false → read a T v os)
type_reads a T u v os n e = elim (cases_lt n 128) [
  | inl l ↦ shallower_tree_reads a (T 128) (T 128) (uncut (T 128)) v os (encodes_deeper a.variant T u v os n 128 (omega arith) e)
  | inr l ↦ shallower_tree_reads a (T 128) (T n) (up_to T u 128 n l) v os e
]
