-- The root of a SET, one component after another: what was presented, and what is still to follow (ITU-T X.691, 19, 21.1).
use Rattle.std.proofs.Common.{◌≡◌, refl, sym, ap, ap₂, ◌∙◌, ℕ, suc, ◌+◌, Bool, true, false, List, [], ◌∷◌, ◌++◌, map, length, arith, Option, Some, None, append_assoc, append-nil, length-append}
use Rattle.std.proofs.lemmas.List.{map-append}
use Rattle.rasn_types.specs.Values.{Value}
use Rattle.rasn_types.specs.Variants.{Variant}
use Rattle.rasn_schema.specs.Fields.{is_not_required, presence_of, shapes_from}
use Rattle.rasn_schema.specs.Schemas.{Schema, Parts, no_parts, part, Presence, required, optional, group, default, TagTree, count}
use Rattle.per_core.specs.Canon.{canon, flagged, if_shown, members, shown}
use Rattle.per_core.specs.PlacedSets.{each_writes, its_flag, its_value, placed}
use Rattle.per_core.specs.Writers.{Writer, just, ◌▹◌}
use Rattle.per_pieces.specs.Pieces.{Pieces, unplaced, writer_of}
use Rattle.per_pieces.specs.OpenSets.{Component, are_of, bit_writer, bit_writers, value_writers}

-- of a SET with some root components and what they hold, the first were written as these; the others are still to follow
pub record AreFirst (a : Variant) (ps : Parts) (rs : List (Option Value)) (cs : List Component) (i : ℕ) (qs : Parts) (ss : List (Option Value)) : Type 0 where
  pub bits : bit_writers cs ++ each_writes its_flag (members a qs) ss ≡ each_writes its_flag (members a ps) rs
  pub values : value_writers cs ++ each_writes its_value (members a qs) ss ≡ each_writes its_value (members a ps) rs
  pub fields : (ds : List Component) → are_of (shapes_from i qs) ds ≡ true → are_of (shapes_from 0 ps) (cs ++ ds) ≡ true
  pub counted : length cs + count qs ≡ count ps

-- none was written
pub none_first : (a : Variant) (ps : Parts) (rs : List (Option Value)) → AreFirst a ps rs [] 0 ps rs
none_first a ps rs = record { bits = refl; values = refl; fields = λ ds e. e; counted = omega arith }

-- a further one
next_writes : (g : Component → Writer) (cs : List Component) (c : Component) (w : Writer) (ws all : List Writer) → map g cs ++ w ∷ ws ≡ all → g c ≡ w → map g (cs ++ c ∷ []) ++ ws ≡ all
next_writes g cs c w ws all e h =
    ap (λ (us : List Writer). us ++ ws) (map-append g cs (c ∷ [])) ∙ append_assoc (map g cs) (g c ∷ []) ws ∙ ap (λ (u : Writer). map g cs ++ u ∷ ws) h ∙ e

pub next_first : (a : Variant) (ps : Parts) (rs : List (Option Value)) (cs : List Component) (i : ℕ) (k : TagTree) (p : Presence) (s : Schema) (qs : Parts) (r : Option Value) (ss : List (Option Value)) (c : Component)
    → AreFirst a ps rs cs i (part k p s qs) (r ∷ ss)
    → bit_writer c.bit ≡ its_flag (record { presence = p; writes = canon a s }) r → writer_of c.value.list ≡ its_value (record { presence = p; writes = canon a s }) r
    → ((ds : List Component) → are_of (shapes_from i (part k p s qs)) (c ∷ ds) ≡ are_of (shapes_from (suc i) qs) ds) → AreFirst a ps rs (cs ++ c ∷ []) (suc i) qs ss
unfolding members
next_first a ps rs cs i k p s qs r ss c h b v f = record {
  bits = next_writes (λ (d : Component). bit_writer d.bit) cs c _ (each_writes its_flag (members a qs) ss) (each_writes its_flag (members a ps) rs) h.bits b;
  values = next_writes (λ (d : Component). writer_of d.value.list) cs c _ (each_writes its_value (members a qs) ss) (each_writes its_value (members a ps) rs) h.values v;
  fields = λ ds e. ap (are_of (shapes_from 0 ps)) (append_assoc cs (c ∷ []) ds) ∙ h.fields (c ∷ ds) (f ds ∙ e);
  counted = let n : length cs + count (part k p s qs) ≡ count ps = h.counted in omega (arith, n, length-append cs (c ∷ []));
}

-- X.691 19.2: one that is left out: it has the presence bit 0, and no value
pub left_out_first : (a : Variant) (ps : Parts) (rs : List (Option Value)) (cs : List Component) (i : ℕ) (k : TagTree) (p : Presence) (s : Schema) (qs : Parts) (r : Option Value) (ss : List (Option Value))
    → AreFirst a ps rs cs i (part k p s qs) (r ∷ ss) → shown p r ≡ Some false → AreFirst a ps rs (cs ++ record { bit = Some false; value = unplaced } ∷ []) (suc i) qs ss
unfolding shown
left_out_first a ps rs cs i k p s qs r ss h e =
    next_first a ps rs cs i k p s qs r ss (record { bit = Some false; value = unplaced }) h (sym (ap (flagged p) e ∙ go p r e)) (sym (ap (λ (o : Option Bool). if_shown o r (canon a s)) e)) (has_bit p r e)
  where
    go : (q : Presence) (o : Option Value) → shown q o ≡ Some false → flagged q (Some false) ≡ just (false ∷ [])
    go required None f = absurd (cc)
    go required (Some v) f = absurd (cc)
    go optional o f = refl
    go group o f = refl
    go (default d) o f = refl

    has_bit : (q : Presence) (o : Option Value) → shown q o ≡ Some false → (ds : List Component)
        → are_of (shapes_from i (part k q s qs)) (record { bit = Some false; value = unplaced } ∷ ds) ≡ are_of (shapes_from (suc i) qs) ds
    has_bit required None f ds = absurd (cc)
    has_bit required (Some v) f ds = absurd (cc)
    has_bit optional o f ds = refl
    has_bit group o f ds = refl
    has_bit (default d) o f ds = refl

-- one that may be left out and is there: it has the presence bit 1, and its value
pub there_first : (a : Variant) (ps : Parts) (rs : List (Option Value)) (cs : List Component) (i : ℕ) (k : TagTree) (p : Presence) (s : Schema) (qs : Parts) (v : Value) (ss : List (Option Value)) (value : Pieces)
    → AreFirst a ps rs cs i (part k p s qs) (Some v ∷ ss) → shown p (Some v) ≡ Some true → is_not_required (presence_of p) ≡ true → writer_of value.list ≡ canon a s v
    → AreFirst a ps rs (cs ++ record { bit = Some true; value = value } ∷ []) (suc i) qs ss
there_first a ps rs cs i k p s qs v ss value h e n w =
    next_first a ps rs cs i k p s qs (Some v) ss (record { bit = Some true; value = value }) h (sym (ap (flagged p) e ∙ go p n)) (w ∙ sym (ap (λ (o : Option Bool). if_shown o (Some v) (canon a s)) e)) (has_bit p n)
  where
    go : (q : Presence) → is_not_required (presence_of q) ≡ true → flagged q (Some true) ≡ just (true ∷ [])
    go required f = absurd (cc)
    go optional f = refl
    go group f = refl
    go (default d) f = refl

    has_bit : (q : Presence) → is_not_required (presence_of q) ≡ true → (ds : List Component)
        → are_of (shapes_from i (part k q s qs)) (record { bit = Some true; value = value } ∷ ds) ≡ are_of (shapes_from (suc i) qs) ds
    has_bit required f ds = absurd (cc)
    has_bit optional f ds = refl
    has_bit group f ds = refl
    has_bit (default d) f ds = refl

-- a required one: it has no presence bit
pub required_first : (a : Variant) (ps : Parts) (rs : List (Option Value)) (cs : List Component) (i : ℕ) (k : TagTree) (s : Schema) (qs : Parts) (v : Value) (ss : List (Option Value)) (value : Pieces)
    → AreFirst a ps rs cs i (part k required s qs) (Some v ∷ ss) → writer_of value.list ≡ canon a s v → AreFirst a ps rs (cs ++ record { bit = None; value = value } ∷ []) (suc i) qs ss
unfolding shown
required_first a ps rs cs i k s qs v ss value h w =
    next_first a ps rs cs i k required s qs (Some v) ss (record { bit = None; value = value }) h refl w (λ ds. refl)

-- all were written
pub all_first : (a : Variant) (ps : Parts) (rs : List (Option Value)) (cs : List Component) (i : ℕ) (ss : List (Option Value)) → AreFirst a ps rs cs i no_parts ss
    → (are_of (shapes_from 0 ps) cs ≡ true) × (placed ps (bit_writers cs) ▹ placed ps (value_writers cs) ≡ placed ps (each_writes its_flag (members a ps) rs) ▹ placed ps (each_writes its_value (members a ps) rs))
unfolding members
all_first a ps rs cs i ss h =
    let bits : bit_writers cs ≡ each_writes its_flag (members a ps) rs = sym (append-nil (bit_writers cs)) ∙ h.bits in
    let values : value_writers cs ≡ each_writes its_value (members a ps) rs = sym (append-nil (value_writers cs)) ∙ h.values in
    (ap (are_of (shapes_from 0 ps)) (sym (append-nil cs)) ∙ h.fields [] refl, ap₂ (λ (us ws : List Writer). placed ps us ▹ placed ps ws) bits values)
