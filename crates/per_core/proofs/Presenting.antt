-- What canon writes of records, choices and open types has a spelling.
use Rattle.std.proofs.Common.{◌≡◌, refl, sym, ap, ◌∙◌, subst, ℕ, zero, suc, ◌+◌, ◌-◌, ◌*◌, ◌/◌, ◌%◌, ◌<◌, ◌≤◌, max, Bool, true, false, cond, not, leb, ltb, List, [], ◌∷◌, ◌++◌, length, take, drop, replicate, append_assoc, length-append, arith, inl, inr, Option, Some, None, leb-true, ltb-true, suc-add, ap₂, length-take, length-drop, drop_of_length-le, take-append-drop}
use Rattle.std.proofs.lemmas.Bool.{cases_lt}
use Rattle.std.proofs.lemmas.List.{length-replicate, take-append-le}
use Rattle.rasn_types.specs.Bits.{Bits, to_bits, number_of, pack, unpack}
use Rattle.rasn_types.specs.Values.{Value, same}
use Rattle.rasn_types.proofs.Octets.{octet_again}
use Rattle.rasn_constraints.specs.Bounds.{any_size}
use Rattle.rasn_schema.specs.Schemas.{Presence, required, optional, group, default}
use Rattle.per_core.specs.Basic.{Sized, octet, bit, Octets, Fills, Open, Rule, FlagOf, Flags, IsLeftOut, Body, Bodies, Root, Additions_in, IsBitmap, Record_in}
use Rattle.per_core.specs.Canon.{Member, shown, flagged, if_shown, flags_of, bodies_of, also_bit, bitmap_of, any_set, bitmap, opens_of, extension_bit, with_additions, record_of}
use Rattle.per_core.specs.Counts.{counted, octet_items, bit_items, bit_writers, unconstrained_octets, open_bits}
use Rattle.per_core.specs.Spellings.{Settings, Spelling, exactly, Then, Either, BitField}
use Rattle.per_core.specs.Writers.{complete, Writer, just, ◌▹◌, join, written_if}
use Rattle.rasn_types.proofs.Codes.{same_true}
use Rattle.per_core.proofs.Counting.{counted_within}
use Rattle.per_core.proofs.Positions.{Periodic, then_p, flags_p}
use Rattle.per_core.proofs.WriterSpellings.{zero_if, Within, just_within, refused_within, then_within, if_within, relax, left_within, right_within, when_within, field_within}

-- a member and its rule
pub record Pair (m : Member) (r : Rule) : Type 0 where
  pub alike : m.presence ≡ r.presence
  pub each : (v : Value) → Within (m.writes v) (r.spells v)

abbrev pub Pairs : List Member → List Rule → Type 0
Pairs [] [] = Unit {0}
Pairs (m ∷ ms) (r ∷ rs) = Pair m r × Pairs ms rs
Pairs _ _ = ⊥

left_out : (pr : Presence) (s : Option Value) → shown pr s ≡ Some false → IsLeftOut pr s
unfolding shown
left_out required None e = absurd (cc)
left_out required (Some v) e = absurd (cc)
left_out optional None e = refl
left_out optional (Some v) e = absurd (cc)
left_out group None e = refl
left_out group (Some v) e = absurd (cc)
left_out (default d) None e = absurd (cc)
left_out (default d) (Some v) e = let h : not (same v d) ≡ false = cc in let k : v ≡ d = same_true v d (go (same v d) h) in cc
  where
    go : (b : Bool) → not b ≡ false → b ≡ true
    go true e = refl
    go false e = absurd (cc)

always : (s : Option Value) (b : Bool) → shown required s ≡ Some b → b ≡ true
unfolding shown
always None b e = absurd (cc)
always (Some v) b e = cc

-- which parts are shown
abbrev or_no : Option Bool → Bool
or_no None = false
or_no (Some b) = b

abbrev bools : List Member → List (Option Value) → List Bool
bools (m ∷ ms) (s ∷ ss) = or_no (shown m.presence s) ∷ bools ms ss
bools _ _ = []

flag_within : (pr : Presence) (s : Option Value) (o : Option Bool) → shown pr s ≡ o → Within (flagged pr o) (FlagOf pr (or_no o))
flag_within pr s None e = refused_within
flag_within required s (Some b) e = when_within (always s b e) (just_within [])
flag_within optional s (Some b) e = just_within (b ∷ [])
flag_within group s (Some b) e = just_within (b ∷ [])
flag_within (default d) s (Some b) e = just_within (b ∷ [])

flags_within : (ms : List Member) (rs : List Rule) → Pairs ms rs → (ss : List (Option Value)) → Within (flags_of ms ss) (Flags rs (bools ms ss))
flags_within [] [] k [] = just_within []
flags_within [] [] k (s ∷ ss) = refused_within
flags_within (m ∷ ms) (r ∷ rs) k [] = refused_within
flags_within (m ∷ ms) (r ∷ rs) k (s ∷ ss) = then_within
    (subst (λ pr. Within (flagged m.presence (shown m.presence s)) (FlagOf pr (or_no (shown m.presence s)))) k.0.alike (flag_within m.presence s (shown m.presence s) refl)) (flags_within ms rs k.1 ss)
flags_within [] (r ∷ rs) k ss = absurd k
flags_within (m ∷ ms) [] k ss = absurd k

body_within : (m : Member) (r : Rule) → Pair m r → (s : Option Value) (o : Option Bool) → shown m.presence s ≡ o → Within (if_shown o s m.writes) (Body r (or_no o) s)
body_within m r k s None e = refused_within
body_within m r k s (Some false) e = when_within (subst (λ pr. IsLeftOut pr s) k.alike (left_out m.presence s e)) (just_within [])
body_within m r k None (Some true) e = refused_within
body_within m r k (Some v) (Some true) e = relax (λ p b x. record { held = v; is = refl; spelled = x }) (k.each v)

bodies_within : (ms : List Member) (rs : List Rule) → Pairs ms rs → (ss : List (Option Value)) → Within (bodies_of ms ss) (Bodies rs (bools ms ss) ss)
bodies_within [] [] k [] = just_within []
bodies_within [] [] k (s ∷ ss) = refused_within
bodies_within (m ∷ ms) (r ∷ rs) k [] = refused_within
bodies_within (m ∷ ms) (r ∷ rs) k (s ∷ ss) = then_within (body_within m r k.0 s (shown m.presence s) refl) (bodies_within ms rs k.1 ss)
bodies_within [] (r ∷ rs) k ss = absurd k
bodies_within (m ∷ ms) [] k ss = absurd k

pub root_within : (ms : List Member) (rs : List Rule) → Pairs ms rs → (ss : List (Option Value)) → Within (flags_of ms ss ▹ bodies_of ms ss) (Root rs ss)
root_within ms rs k ss = relax (λ p b x. record { shown = bools ms ss; spelled = x }) (then_within (flags_within ms rs k ss) (bodies_within ms rs k ss))

-- octets
zeros-add : (n m : ℕ) → replicate n false ++ replicate m false ≡ replicate (n + m) false
zeros-add zero m = ap (λ (k : ℕ). replicate k false) (omega arith)
zeros-add (suc n) m = ap (λ z. false ∷ z) (zeros-add n m) ∙ ap (λ (k : ℕ). replicate k false) (sym (suc-add n m))

take-short : (k n : ℕ) (b : Bits) → length b + k ≡ n → (m : ℕ) → k ≤ m → take n (b ++ replicate m false) ≡ b ++ replicate k false
take-short zero zero [] e m h = refl
take-short zero (suc n) [] e m h = absurd (omega arith)
take-short (suc k) zero [] e m h = absurd (omega arith)
take-short (suc k) (suc n) [] e zero h = absurd (omega arith)
take-short (suc k) (suc n) [] e (suc m) h = ap (λ z. false ∷ z) (take-short k n [] (omega arith) m (omega arith))
take-short k zero (x ∷ b) e m h = absurd (omega arith)
take-short k (suc n) (x ∷ b) e m h = ap (λ z. x ∷ z) (take-short k n b (omega arith) m h)

pub unpack-pack : (n : ℕ) (b : Bits) → length b ≤ 8 * n → unpack (pack n b) ≡ b ++ replicate (8 * n - length b) false
unpack-pack zero [] h = refl
unpack-pack zero (x ∷ b) h = absurd (omega arith)
unpack-pack (suc n) b h = elim (cases_lt (length b) 8) [
  | inl l ↦
      (let t : take 8 (b ++ replicate 8 false) ≡ b ++ replicate (8 - length b) false = take-short (8 - length b) 8 b (omega arith) 8 (omega arith) in
      let u : to_bits 8 (number_of (take 8 (b ++ replicate 8 false))) ≡ b ++ replicate (8 - length b) false
      = ap (λ z. to_bits 8 (number_of z)) t ∙ octet_again (b ++ replicate (8 - length b) false) (length-append b (replicate (8 - length b) false) ∙ ap (λ (k : ℕ). length b + k) (length-replicate (8 - length b) false) ∙ omega arith) in
      let l8 : length b ≤ 8 = omega arith in let d : drop 8 b ≡ [] = drop_of_length-le b l8 in
      let r : unpack (pack n (drop 8 b)) ≡ replicate (8 * n) false = ap (λ z. unpack (pack n z)) d ∙ unpack-pack n [] (omega arith) ∙ ap (λ (k : ℕ). replicate k false) (omega arith) in
      ap₂ (λ x y. x ++ y) u r ∙ append_assoc b (replicate (8 - length b) false) (replicate (8 * n) false) ∙ ap (λ z. b ++ z) (zeros-add (8 - length b) (8 * n) ∙ ap (λ (k : ℕ). replicate k false) (omega arith)))
  | inr l ↦
      (let t : take 8 (b ++ replicate 8 false) ≡ take 8 b = take-append-le 8 b (replicate 8 false) l in
      let u : to_bits 8 (number_of (take 8 (b ++ replicate 8 false))) ≡ take 8 b = ap (λ z. to_bits 8 (number_of z)) t ∙ octet_again (take 8 b) (length-take 8 b ∙ omega arith) in
      let r = unpack-pack n (drop 8 b) (omega (arith, length-drop 8 b)) in
      ap₂ (λ x y. x ++ y) u r ∙ sym (append_assoc (take 8 b) (drop 8 b) (replicate (8 * n - length (drop 8 b)) false))
      ∙ ap (λ z. z ++ replicate (8 * n - length (drop 8 b)) false) (take-append-drop 8 b) ∙ ap (λ (k : ℕ). b ++ replicate k false) (omega (arith, length-drop 8 b)))
]

pub unpack-complete : (b : Bits) → 0 < length b → (spare : Bits) × (unpack (complete b) ≡ b ++ spare) × (length spare < 8) × (spare ≡ replicate (length spare) false)
unpack-complete b h = (
  replicate (8 * max 1 ((length b + 7) / 8) - length b) false,
  unpack-pack (max 1 ((length b + 7) / 8)) b (omega arith),
  subst (λ (k : ℕ). k < 8) (sym (length-replicate (8 * max 1 ((length b + 7) / 8) - length b) false)) (omega arith),
  ap (λ (k : ℕ). replicate k false) (sym (length-replicate (8 * max 1 ((length b + 7) / 8) - length b) false)),
)

pub octets_within : (a : Settings) (os : List ℕ) → Within (unconstrained_octets a.variant os) (Octets a os)
octets_within a os = counted_within (λ o. written_if (ltb o 256) (just (to_bits 8 o))) octet (λ o. if_within (ltb o 256) (λ e. field_within 8 o (ltb-true o 256 e))) a any_size false octet_items os

pub open_within : (a : Settings) (w : Writer) (f : Spelling) → Within w f → Within (open_bits a.variant (w 0)) (Open a (Fills a f))
unfolding open_bits
open_within a w f h = go (w 0) refl
  where
    full : (bs : Bits) → f 0 bs → Fills a f (complete bs)
    full [] x = inr (x, refl)
    full (b ∷ bs) x = let u = unpack-complete (b ∷ bs) (omega arith) in inl (record { front = b ∷ bs; spare = u.0; spelled = x; all = u.1; some = omega arith; short = u.2; zeros = zero_if a.strict u.0 u.3 })

    go : (o : Option Bits) → w 0 ≡ o → Within (open_bits a.variant o) (Open a (Fills a f))
    go None e = refused_within
    go (Some bs) e = relax (λ p b x. record { octets = complete bs; are = full bs (h.within 0 bs e); spelled = x }) (octets_within a (complete bs))

-- additions
-- what `also_bit` was made of
pub some_both : (o : Option Bool) (q : Option Bits) (bs : Bits) → also_bit o q ≡ Some bs → (b : Bool) × (cs : Bits) × (o ≡ Some b) × (q ≡ Some cs) × (bs ≡ b ∷ cs)
some_both None q bs e = absurd (cc)
some_both (Some b) None bs e = absurd (cc)
some_both (Some b) (Some cs) bs e = (b, cs, refl, refl, cc)

not_there : (pr : Presence) → shown pr None ≡ Some true → ⊥
unfolding shown
not_there required e = cc
not_there optional e = cc
not_there group e = cc
not_there (default d) e = cc

opens_within : (a : Settings) (u : Bool) (ms : List Member) (rs : List Rule) → Pairs ms rs → (ss : List (Option Value)) (bs : Bits) → bitmap_of ms ss ≡ Some bs →
    Within (opens_of a.variant ms ss bs) (Additions_in a u rs ss bs)
unfolding bitmap_of
opens_within a u [] [] k [] bs e = let i : [] ≡ bs = cc in subst (λ z. Within (just []) (Additions_in a u [] [] z)) i (just_within [])
opens_within a u [] [] k (s ∷ ss) bs e = absurd (cc)
opens_within a u (m ∷ ms) (r ∷ rs) k [] bs e = absurd (cc)
opens_within a u (m ∷ ms) (r ∷ rs) k (s ∷ ss) bs e =
    let q = some_both (shown m.presence s) (bitmap_of ms ss) bs e in
    subst (λ z. Within (opens_of a.variant (m ∷ ms) (s ∷ ss) z) (Additions_in a u (r ∷ rs) (s ∷ ss) z)) (sym q.4) (one q.0 q.1 s q.2 (opens_within a u ms rs k.1 ss q.1 q.3))
  where
    one : (b : Bool) (cs : Bits) (s : Option Value) → shown m.presence s ≡ Some b → Within (opens_of a.variant ms ss cs) (Additions_in a u rs ss cs) →
        Within (opens_of a.variant (m ∷ ms) (s ∷ ss) (b ∷ cs)) (Additions_in a u (r ∷ rs) (s ∷ ss) (b ∷ cs))
    one true cs None h w = absurd (not_there m.presence h)
    one true cs (Some v) h w = then_within (relax (λ p b x. record { held = v; is = refl; spelled = x }) (open_within a (m.writes v) (r.spells v) (k.0.each v))) w
    one false cs None h w = when_within (subst (λ pr. IsLeftOut pr None) k.0.alike (left_out m.presence None h)) w
    one false cs (Some v) h w = when_within (subst (λ pr. IsLeftOut pr (Some v)) k.0.alike (left_out m.presence (Some v) h)) w
opens_within a u [] (r ∷ rs) k ss bs e = absurd k
opens_within a u (m ∷ ms) [] k ss bs e = absurd k

none_set : (b : Bool) (bs : Bits) → any_set (b ∷ bs) ≡ false → (b ≡ false) × (any_set bs ≡ false)
none_set true bs e = absurd (cc)
none_set false bs e = (refl, e)

idle_within : (a : Settings) (u : Bool) (ms : List Member) (rs : List Rule) → Pairs ms rs → (ss : List (Option Value)) (bs : Bits) → bitmap_of ms ss ≡ Some bs → any_set bs ≡ false →
    Within (just []) (Additions_in a u rs ss [])
unfolding bitmap_of
idle_within a u [] [] k [] bs e f = just_within []
idle_within a u [] [] k (s ∷ ss) bs e f = absurd (cc)
idle_within a u (m ∷ ms) (r ∷ rs) k [] bs e f = absurd (cc)
idle_within a u (m ∷ ms) (r ∷ rs) k (s ∷ ss) bs e f =
    let q = some_both (shown m.presence s) (bitmap_of ms ss) bs e in
    let n = none_set q.0 q.1 (subst (λ z. any_set z ≡ false) q.4 f) in
    when_within (subst (λ pr. IsLeftOut pr s) k.0.alike (left_out m.presence s (q.2 ∙ ap (λ z. Some z) n.0))) (idle_within a u ms rs k.1 ss q.1 q.3 n.1)
idle_within a u [] (r ∷ rs) k ss bs e f = absurd k
idle_within a u (m ∷ ms) [] k ss bs e f = absurd k

any_some : (bs : Bits) → any_set bs ≡ true → 0 < length bs
any_some [] e = absurd (cc)
any_some (b ∷ bs) e = omega arith

bitmap_within : (a : Settings) (bs : Bits) → 0 < length bs → Within (bitmap a.variant bs) (IsBitmap a bs)
unfolding bitmap
bitmap_within a bs h = relax (λ p b x. record { some = h; spelled = x }) (go (leb (length bs) 64) refl)
  where
    small_form : length bs - 1 < 64 → Within (just (false ∷ to_bits 6 (length bs - 1)) ▹ just bs) (Then (exactly (false ∷ [])) (Then (BitField 6 (length bs - 1)) (exactly bs)))
    small_form l = record {
      within = λ p b e. let w = field_within 6 (length bs - 1) l in let e' : (false ∷ to_bits 6 (length bs - 1)) ++ bs ≡ b = cc in
          record {
            front = false ∷ [];
            rest = to_bits 6 (length bs - 1) ++ bs;
            is_front = refl;
            joins = sym e';
            is_rest = record { front = to_bits 6 (length bs - 1); rest = bs; is_front = w.within ((p + 1) % 8) (to_bits 6 (length bs - 1)) refl; is_rest = refl; joins = refl };
          };
    }

    go : (t : Bool) → leb (length bs) 64 ≡ t → Within (cond t (just (false ∷ to_bits 6 (length bs - 1)) ▹ just bs) (just (true ∷ []) ▹ counted a.variant any_size false bit_items (bit_writers bs)))
        (Either (Then (exactly (false ∷ [])) (Then (BitField 6 (length bs - 1)) (exactly bs))) (Then (exactly (true ∷ [])) (Sized a any_size bit_items bit bs)))
    go true e = left_within (small_form (let l : length bs ≤ 64 = leb-true (length bs) 64 e in omega arith))
    go false e = right_within (then_within (just_within (true ∷ [])) (counted_within (λ b. just (b ∷ [])) bit (λ b. just_within (b ∷ [])) a any_size false bit_items bs))

after_nothing : (w : Writer) → Periodic w → (p : ℕ) (b : Bits) → (just [] ▹ w) p ≡ Some b → w p ≡ Some b
after_nothing w h p b e = h.same p ((p + 0) % 8) (turned p) ∙ go (w ((p + 0) % 8)) e
  where
    turned : (p : ℕ) → p % 8 ≡ (p + 0) % 8 % 8
    turned p = omega arith

    go : (o : Option Bits) → join [] o ≡ Some b → o ≡ Some b
    go None e = e
    go (Some c) e = e

pub record_within : (a : Settings) (u : Bool) (ext : Bool) (ms adds : List Member) (rs ads : List Rule) → Pairs ms rs → Pairs adds ads → (ss xs : List (Option Value)) →
    Within (record_of a.variant ext ms adds ss xs) (Record_in a u ext rs ads ss xs)
unfolding record_of
record_within a u ext ms adds rs ads k k' ss xs = go (bitmap_of adds xs) refl
  where
    whole_of : (ext : Bool) (bs : Bits) → bitmap_of adds xs ≡ Some bs → (t : Bool) → any_set bs ≡ t →
        Within (extension_bit ext t ▹ (flags_of ms ss ▹ bodies_of ms ss) ▹ cond t (bitmap a.variant bs ▹ opens_of a.variant adds xs bs) (just [])) (Record_in a u ext rs ads ss xs)
    whole_of false bs e true f = record { within = λ p b x. absurd (cc) }
    whole_of false bs e false f = record { within = λ p b x. (then_within (root_within ms rs k ss) (idle_within a u adds ads k' xs bs e f)).within p b (after_nothing ((flags_of ms ss ▹ bodies_of ms ss) ▹ just []) (then_p (just []) (then_p (bodies_of ms ss) (flags_p ms ss))) p b x) }
    whole_of true bs e true f = right_within (relax (λ p b x. record { flags = bs; spelled = x }) (then_within (just_within (true ∷ [])) (then_within (root_within ms rs k ss)
        (then_within (bitmap_within a bs (any_some bs f)) (opens_within a u adds ads k' xs bs e)))))
    whole_of true bs e false f = left_within (then_within (just_within (false ∷ [])) (then_within (root_within ms rs k ss) (idle_within a u adds ads k' xs bs e f)))

    go : (o : Option Bits) → bitmap_of adds xs ≡ o → Within (with_additions a.variant ext adds xs (flags_of ms ss ▹ bodies_of ms ss) o) (Record_in a u ext rs ads ss xs)
    go None e = refused_within
    go (Some bs) e = whole_of ext bs e (any_set bs) refl
