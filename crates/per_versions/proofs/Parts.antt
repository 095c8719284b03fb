-- What is read of parts, additions, elements and alternatives is written, where each of these is.
use Rattle.std.proofs.Common.{◌≡◌, refl, sym, ap, ◌∙◌, subst, ℕ, ◌+◌, ◌/◌, ◌⊎◌, max, Bool, true, false, List, [], ◌∷◌, length, Option, Some, None, arith, inl, inr}
use Rattle.rasn_types.specs.Bits.{Bits}
use Rattle.rasn_types.specs.Values.{Value}
use Rattle.rasn_types.specs.Variants.{Variant}
use Rattle.rasn_types.proofs.Octets.{octets-pack}
use Rattle.rasn_schema.specs.Depth.{meets_cut, slots_meet_cut}
use Rattle.rasn_schema.specs.Lawful.{AreLawful, IsLawfulPresence}
use Rattle.rasn_schema.specs.Normal.{normal, normals, settle}
use Rattle.rasn_schema.specs.Schemas.{count, default, group, no_parts, optional, part, Parts, Presence, required, Schema}
use Rattle.per_core.specs.Basic.{Additions_in, basic_in, IsLeftOut, rules_in}
use Rattle.per_core.specs.Canon.{also_bit, bitmap_of, bodies_of, canon, flag, flagged, flags_of, if_shown, members, shown}
use Rattle.per_core.specs.Counts.{open_bits}
use Rattle.per_core.specs.Spellings.{Settings}
use Rattle.per_core.specs.Writers.{complete, Writer}
use Rattle.per_core.proofs.LengthForms.{or_left, or_right}
use Rattle.per_versions.proofs.PartsRead.{IsRead, left_out_hidden, settled_is}
use Rattle.per_versions.proofs.Spelled.{SlotSpelled, SlotsSpelled, Somewhere}
use Rattle.per_versions.specs.CountableOpens.{AreCountable, IsCountable, PartsCountable}
use Rattle.per_versions.proofs.Total.{few_octets_total, just_total, then_total, Total}

-- a fact of each part's schema
abbrev pub EachPart : (Schema → Type 0) → Parts → Type 0
EachPart P no_parts = Unit {0}
EachPart P (part t p s ps) = P s × EachPart P ps

-- a fact of each part that is there, by its schema, and of those after it
abbrev pub AllSlots : (Presence → Schema → Option Value → Type 0) → Parts → List (Option Value) → Type 0
AllSlots P no_parts [] = Unit {0}
AllSlots P (part t p s ps) (x ∷ xs) = P p s x × AllSlots P ps xs
AllSlots P _ _ = ⊥

-- a part of a value in normal form isn't written, or is there and was read
abbrev pub IsShown : Settings → Bool → Presence → Schema → Option Value → Type 0
IsShown a u p s w = (shown p w ≡ Some false) ⊎ ((v : Value) × (w ≡ Some v) × (shown p w ≡ Some true) × IsRead a u s v)

-- a part isn't written
abbrev pub IsHidden : Presence → Schema → Option Value → Type 0
IsHidden p s w = shown p w ≡ Some false

hidden_or : (o : Option Bool) → (o ≡ Some true → ⊥) → (o ≡ None → ⊥) → o ≡ Some false
hidden_or None h k = absurd (k refl)
hidden_or (Some true) h k = absurd (h refl)
hidden_or (Some false) h k = refl

-- one that is there is written or not
there_shown : (p : Presence) (v : Value) → shown p (Some v) ≡ None → ⊥
unfolding shown
there_shown required v e = cc
there_shown optional v e = cc
there_shown group v e = cc
there_shown (default d) v e = cc

left_none : (p : Presence) → IsLeftOut p None → shown p None ≡ Some false
unfolding shown
left_none required h = absurd h
left_none optional h = refl
left_none group h = refl
left_none (default d) h = absurd (cc)

left_some : (p : Presence) (s : Schema) → IsLawfulPresence s p → (v : Value) → IsLeftOut p (Some v) → meets_cut s v ≡ false → shown p (settle p s (normal s v)) ≡ Some false
unfolding settle
left_some required s l v h m = absurd h
left_some optional s l v h m = absurd (cc)
left_some group s l v h m = absurd (cc)
left_some (default d) s l v h m = hidden_or (shown (default d) (Some (normal s v))) (λ e. left_out_hidden (default d) s v l h m e) (λ e. there_shown (default d) (normal s v) e)

none_hidden : (p : Presence) (s : Schema) (v : Value) → settle p s v ≡ None → shown p None ≡ Some false
unfolding settle shown
none_hidden required s v f = absurd (cc)
none_hidden optional s v f = absurd (cc)
none_hidden group s v f = refl
none_hidden (default d) s v f = absurd (cc)

read_some : (a : Settings) (u : Bool) (p : Presence) (s : Schema) (v : Value) → Somewhere (basic_in a u s v) → meets_cut s v ≡ false → IsShown a u p s (settle p s (normal s v))
read_some a u p s v x m = go (settle p s (normal s v)) refl
  where
    of : (w : Value) (o : Option Bool) → shown p (Some w) ≡ o → settle p s (normal s v) ≡ Some w → IsShown a u p s (Some w)
    of w None e f = absurd (there_shown p w e)
    of w (Some false) e f = inl e
    of w (Some true) e f = inr (w, refl, e, record { value = v; where_it_is = x; uncut = m; is = settled_is p s v w (sym f) })

    go : (w : Option Value) → settle p s (normal s v) ≡ w → IsShown a u p s w
    go None f = inl (none_hidden p s (normal s v) f)
    go (Some w) f = of w (shown p (Some w)) refl f

-- each part of a record
pub all_shown : (a : Settings) (u : Bool) (ps : Parts) (ss : List (Option Value)) → AreLawful ps → SlotsSpelled (rules_in a u ps) ss → slots_meet_cut ps ss ≡ false → AllSlots (IsShown a u) ps (normals ps ss)
unfolding AreLawful rules_in slots_meet_cut normals
all_shown a u no_parts [] l h m = tt
all_shown a u no_parts (x ∷ ss) l h m = absurd h
all_shown a u (part t p s ps) [] l h m = absurd h
all_shown a u (part t p s ps) (None ∷ ss) l h m = (first h.0, all_shown a u ps ss l.2 h.1 m)
  where
    first : SlotSpelled (record { presence = p; spells = basic_in a u s }) None → IsShown a u p s None
    first (inl x) = inl (left_none p x)
    first (inr x) = absurd (cc)
all_shown a u (part t p s ps) (Some v ∷ ss) l h m = (first h.0, all_shown a u ps ss l.2 h.1 (or_right (meets_cut s v) (slots_meet_cut ps ss) m))
  where
    first : SlotSpelled (record { presence = p; spells = basic_in a u s }) (Some v) → IsShown a u p s (settle p s (normal s v))
    first (inl x) = inl (left_some p s l.0 v x (or_left (meets_cut s v) (slots_meet_cut ps ss) m))
    first (inr x) = let i : v ≡ x.0 = cc in read_some a u p s v (subst (λ z. Somewhere (basic_in a u s z)) (sym i) x.2) (or_left (meets_cut s v) (slots_meet_cut ps ss) m)

-- additions that are left out
pub all_hidden : (a : Settings) (u : Bool) (ps : Parts) (ss : List (Option Value)) (q : ℕ) (b : Bits) → AreLawful ps → Additions_in a u (rules_in a u ps) ss [] q b → slots_meet_cut ps ss ≡ false → AllSlots IsHidden ps (normals ps ss)
unfolding AreLawful rules_in slots_meet_cut normals
all_hidden a u no_parts [] q b l h m = tt
all_hidden a u no_parts (x ∷ ss) q b l h m = absurd h
all_hidden a u (part t p s ps) [] q b l h m = absurd h
all_hidden a u (part t p s ps) (None ∷ ss) q b l h m = (left_none p h.0, all_hidden a u ps ss q b l.2 h.1 m)
all_hidden a u (part t p s ps) (Some v ∷ ss) q b l h m =
    (left_some p s l.0 v h.0 (or_left (meets_cut s v) (slots_meet_cut ps ss) m), all_hidden a u ps ss q b l.2 h.1 (or_right (meets_cut s v) (slots_meet_cut ps ss) m))

-- ---- writers

-- what is read of a schema's value in normal form is written
abbrev pub Writes : Settings → Bool → Variant → Schema → Type 0
Writes a u c s = (w : Value) → IsRead a u s w → AreCountable c s w → Total (canon c s w)

flagged_total : (p : Presence) (o : Option Bool) (b : Bool) → o ≡ Some b → Total (flagged p o)
flagged_total p o b e = subst (λ k. Total (flagged p k)) (sym e) (just_total (flag p b))

module _ (a : Settings) (u : Bool) (c : Variant) where
  pub flags_total : (ps : Parts) (ws : List (Option Value)) → AllSlots (IsShown a u) ps ws → Total (flags_of (members c ps) ws)
  unfolding members
  flags_total no_parts [] h = just_total []
  flags_total no_parts (w ∷ ws) h = absurd h
  flags_total (part t p s ps) [] h = absurd h
  flags_total (part t p s ps) (w ∷ ws) h = then_total (one h.0) (flags_total ps ws h.1)
    where
      one : IsShown a u p s w → Total (flagged p (shown p w))
      one (inl e) = flagged_total p (shown p w) false e
      one (inr x) = flagged_total p (shown p w) true x.2

  pub bodies_total : (ps : Parts) (ws : List (Option Value)) → AllSlots (IsShown a u) ps ws → EachPart (Writes a u c) ps → PartsCountable c ps ws → Total (bodies_of (members c ps) ws)
  unfolding members PartsCountable
  bodies_total no_parts [] h k z = just_total []
  bodies_total no_parts (w ∷ ws) h k z = absurd h
  bodies_total (part t p s ps) [] h k z = absurd h
  bodies_total (part t p s ps) (None ∷ ws) h k z = then_total (one h.0) (bodies_total ps ws h.1 k.1 z)
    where
      one : IsShown a u p s None → Total (if_shown (shown p None) None (canon c s))
      one (inl e) = subst (λ o. Total (if_shown o None (canon c s))) (sym e) (just_total [])
      one (inr x) = absurd (cc)
  bodies_total (part t p s ps) (Some v ∷ ws) h k z = then_total (one h.0) (bodies_total ps ws h.1 k.1 z.1)
    where
      one : IsShown a u p s (Some v) → Total (if_shown (shown p (Some v)) (Some v) (canon c s))
      one (inl e) = subst (λ o. Total (if_shown o (Some v) (canon c s))) (sym e) (just_total [])
      one (inr x) = let i : v ≡ x.0 = cc in
          subst (λ o. Total (if_shown o (Some v) (canon c s))) (sym x.2) (k.0 v (subst (IsRead a u s) (sym i) x.3) z.0)

  -- the bitmap
  pub bitmap_there : (ps : Parts) (ws : List (Option Value)) → AllSlots (IsShown a u) ps ws → (bs : Bits) × (bitmap_of (members c ps) ws ≡ Some bs) × (length bs ≡ count ps)
  unfolding members bitmap_of
  bitmap_there no_parts [] h = ([], refl, refl)
  bitmap_there no_parts (w ∷ ws) h = absurd h
  bitmap_there (part t p s ps) [] h = absurd h
  bitmap_there (part t p s ps) (w ∷ ws) h = one (bitmap_there ps ws h.1) h.0
    where
      of : ((bs : Bits) × (bitmap_of (members c ps) ws ≡ Some bs) × (length bs ≡ count ps)) → (b : Bool) → shown p w ≡ Some b →
          (bs : Bits) × (also_bit (shown p w) (bitmap_of (members c ps) ws) ≡ Some bs) × (length bs ≡ 1 + count ps)
      of r b e = (b ∷ r.0, ap (λ o. also_bit o (bitmap_of (members c ps) ws)) e ∙ ap (also_bit (Some b)) r.1, omega (arith, r.2))

      one : ((bs : Bits) × (bitmap_of (members c ps) ws ≡ Some bs) × (length bs ≡ count ps)) → IsShown a u p s w →
          (bs : Bits) × (also_bit (shown p w) (bitmap_of (members c ps) ws) ≡ Some bs) × (length bs ≡ 1 + count ps)
      one r (inl e) = of r false e
      one r (inr x) = of r true x.2

pub open_total : (c : Variant) (w : Writer) → Total w → IsCountable (w 0) → Total (open_bits c (w 0))
unfolding open_bits
open_total c w t h = let x = t.at 0 in
    subst (λ o. Total (open_bits c o)) (sym x.1) (few_octets_total c (complete x.0) (octets-pack (max 1 ((length x.0 + 7) / 8)) x.0) (h x.0 x.1))
