-- How octets are shown to be read as a value, and as none.
use Rattle.std.proofs.Common.{◌≡◌, refl, sym, ap, ◌∙◌, ℕ, ◌-◌, ◌<◌, ◌^◌, Bool, true, false, ltb, ltb-true, List, [], ◌∷◌, ◌++◌, append_assoc, length, Option, Some, inl, inr, replicate, take, drop}
use Rattle.std.proofs.lemmas.List.{length-replicate, take-append-drop}
use Rattle.std.proofs.lemmas.List.{append-nil}
use Rattle.rasn_types.specs.Bits.{Bits, unpack, to_bits}
use Rattle.rasn_types.specs.Values.{Value, truth, fields, as_slots}
use Rattle.rasn_constraints.specs.Bounds.{any_size, allows}
use Rattle.rasn_schema.specs.Schemas.{Schema, Parts, listed}
use Rattle.per_core.specs.Writers.{Writer, pad, just, ◌▹◌, padding, one_by_one, written_if}
use Rattle.per_core.specs.Counts.{counted, bit_items, bit_writers, octet_writers, unconstrained_octets, open_bits}
use Rattle.rasn_types.specs.Variants.{Variant}
use Rattle.per_rows.specs.Build.{numbered, all_required}
use Rattle.per_core.specs.Spellings.{Settings, ZeroIf, Spelling, AnyPadding, Then, Either, exactly}
use Rattle.per_core.proofs.SpellingsAgree.{Agree, weaken, then_agree}
use Rattle.per_core.proofs.Unique.{fills_agree}
use Rattle.per_core.specs.Basic.{Fills, fills, front, Octets, octet, bit, Rule, Flags, Bodies, Root, Holds, Open, OpenOf, Additions_in, Record_in, IsBitmap, basic, basic_in, rules}
use Rattle.per_core.specs.Canon.{bytes, canon}
use Rattle.per_core.proofs.WriterSpellings.{Within, relax, just_within, then_within, left_within, right_within, if_within, when_within, field_within, padding_within}
use Rattle.per_core.proofs.Counting.{row_within, counted_within}
use Rattle.per_core.proofs.Presenting.{open_within, octets_within}
use Rattle.per_core.proofs.Canonical.{canonical}
use Rattle.per_core.proofs.Laws

-- a writer writes the first n bits of the octets, and fewer than 8 are left
pub filled : {w : Writer} {f : Spelling} (a : Settings) → Within w f → (n : ℕ) (os : List ℕ) → w 0 ≡ Some (take n (unpack os)) →
    0 < length (take n (unpack os)) → length (drop n (unpack os)) < 8 → ZeroIf a.strict (drop n (unpack os)) → Fills a f os
filled a h n os e some short zeros = inl (record {
  front = take n (unpack os);
  spare = drop n (unpack os);
  spelled = h.within 0 (take n (unpack os)) e;
  all = sym (take-append-drop n (unpack os));
  some = some;
  short = short;
  zeros = zeros;
})

-- a complete encoding with more octets is none
pub no_more : (a : Settings) (s : Schema) (v w : Value) (os : List ℕ) (o : ℕ) (rest : List ℕ) → bytes a.variant s v ≡ Some os → fills a s w (os ++ o ∷ rest) → ⊥
no_more a s v w os o rest e x =
    let r = (Laws.written_in_front a s v os (o ∷ rest) e).1 w [] (os ++ o ∷ rest, sym (append-nil (os ++ o ∷ rest)), x) in
    let n : o ∷ rest ≡ [] = r.1 in cc

-- nor is a beginning of one
pub no_less : (a : Settings) (s : Schema) (v w : Value) (os : List ℕ) (o : ℕ) (rest : List ℕ) → bytes a.variant s v ≡ Some (os ++ o ∷ rest) → fills a s w os → ⊥
no_less a s v w os o rest e x =
    let y : front a s v (os ++ o ∷ rest) [] = (os ++ o ∷ rest, sym (append-nil (os ++ o ∷ rest)), Laws.written_is_read a s v (os ++ o ∷ rest) e) in
    let r = Laws.one_front a s v w (os ++ o ∷ rest) [] (o ∷ rest) y (os, refl, x) in
    let n : [] ≡ o ∷ rest = r.1 in cc

-- what writes octets with a count in two octets
pub in_two_octets : (a : Settings) (os : List ℕ) → allows any_size (length os) ≡ true → length os < 2 ^ 14 →
    Within (padding a.variant ▹ ((just (true ∷ false ∷ []) ▹ just (to_bits 14 (length os))) ▹ one_by_one (octet_writers os))) (Octets a os)
in_two_octets a os h l = relax (λ p b x. record { allowed = h; spelled = record { fragments = 0; spelled = x } })
    (then_within (padding_within a) (then_within (right_within (then_within (just_within (true ∷ false ∷ [])) (field_within 14 (length os) l)))
    (row_within (λ o. written_if (ltb o 256) (just (to_bits 8 o))) octet (λ o. if_within (ltb o 256) (λ e. field_within 8 o (ltb-true o 256 e))) os)))

-- a record's fields, and its root, of what shows these parts
pub as_record : {w : Writer} (a : Settings) (ps adds : Parts) (ext : Bool) (ss xs : List (Option Value)) →
    Within w (Record_in a true ext (rules a ps) (rules a adds) ss xs) → Within w (basic a (Schema.sequence listed ps ext adds) (fields (as_slots ss) (as_slots xs)))
unfolding basic_in
as_record a ps adds ext ss xs h = relax (λ p b x. record { of = (ss, xs); is = refl; spelled = x }) h

pub as_root : {w v : Writer} (rs : List Rule) (ss : List (Option Value)) (bs : List Bool) → Within w (Flags rs bs) → Within v (Bodies rs bs ss) → Within (w ▹ v) (Root rs ss)
as_root rs ss bs h k = relax (λ p b x. record { shown = bs; spelled = x }) (then_within h k)

-- a part that is there, in place and in an open type
pub in_place : (a : Settings) (s : Schema) (v : Value) → Within (canon a.variant s v) (Holds (Some v) (basic a s))
in_place a s v = relax (λ p b x. record { held = v; is = refl; spelled = x }) (canonical a true s v)

pub in_open : (a : Settings) (s : Schema) (v : Value) → Within (open_bits a.variant (canon a.variant s v 0)) (Holds (Some v) (OpenOf a (basic a s)))
in_open a s v = relax (λ p b x. record { held = v; is = refl; spelled = x }) (open_within a (canon a.variant s v) (basic a s v) (canonical a true s v))

-- a record with a bitmap of at most 64 additions
pub few : (a : Settings) (bs : List Bool) → 0 < length bs → length bs - 1 < 2 ^ 6 → Within (just (false ∷ []) ▹ (just (to_bits 6 (length bs - 1)) ▹ just bs)) (IsBitmap a bs)
few a bs l h = relax (λ p b x. record { some = l; spelled = x }) (left_within (then_within (just_within (false ∷ [])) (then_within (field_within 6 (length bs - 1) h) (just_within bs))))

pub with_bitmap : {w v : Writer} (a : Settings) (rs adds : List Rule) (ss xs : List (Option Value)) (bs : List Bool) → 0 < length bs → length bs - 1 < 2 ^ 6 →
    Within w (Root rs ss) → Within v (Additions_in a true adds xs bs) →
    Within (just (true ∷ []) ▹ (w ▹ ((just (false ∷ []) ▹ (just (to_bits 6 (length bs - 1)) ▹ just bs)) ▹ v))) (Record_in a true true rs adds ss xs)
with_bitmap a rs adds ss xs bs l m h k = right_within (relax (λ p b x. record { flags = bs; spelled = x })
    (then_within (just_within (true ∷ [])) (then_within h (then_within (few a bs l m) k))))

-- padding of ones
abbrev pub ones : Variant → Writer
ones v p = Some (replicate (pad v p) true)

pub ones_within : (v : Variant) → Within (ones v) (AnyPadding (record { variant = v; strict = false }))
ones_within v = record { within = λ p b e. let i : replicate (pad v p) true ≡ b = cc in record { fits = ap length (sym i) ∙ length-replicate (pad v p) true; zeros = tt } }

-- the root of two BOOLEAN, and additions that are there and not known
pub two_booleans : (a : Settings) (v w : Bool) → let ps = numbered 0 (all_required (Schema.boolean ∷ Schema.boolean ∷ [])) in
    Within ((just [] ▹ (just [] ▹ just [])) ▹ (canon a.variant Schema.boolean (truth v) ▹ (canon a.variant Schema.boolean (truth w) ▹ just []))) (Root (rules a ps) (Some (truth v) ∷ Some (truth w) ∷ []))
unfolding basic_in
two_booleans a v w = as_root _ (Some (truth v) ∷ Some (truth w) ∷ []) (true ∷ true ∷ [])
    (then_within (when_within refl (just_within [])) (then_within (when_within refl (just_within [])) (just_within [])))
    (then_within (in_place a Schema.boolean (truth v)) (then_within (in_place a Schema.boolean (truth w)) (just_within [])))

pub any_octets : (a : Settings) (os : List ℕ) → Within (unconstrained_octets a.variant os) (Open a (λ xs. Unit {0}))
any_octets a os = relax (λ p b x. record { octets = os; are = tt; spelled = x }) (octets_within a os)

-- octets that are read as something else
pub not_both : {f g : Spelling} (a : Settings) (os : List ℕ) → Agree ⊥ f g → Fills a g os → Fills a f os → ⊥
not_both a os w y x = fills_agree a os w x y

-- what begins with some bits
pub begins : {g : Spelling} {p : ℕ} {bs front bits : Bits} (spare : Bits) → Then (exactly bs) g p front → bits ≡ front ++ spare → (rest : Bits) × (bits ≡ bs ++ rest)
begins {bs = bs} spare x e = (x.rest ++ spare, e ∙ ap (λ z. z ++ spare) (x.joins ∙ ap (λ z. z ++ x.rest) x.is_front) ∙ append_assoc bs x.rest spare)

-- nothing is after what cannot stand
pub first : {f g h k : Spelling} → Agree ⊥ f g → Agree ⊥ (Then f h) (Then g k)
first w = weaken (λ r. r.0) (then_agree {Q = ⊥} w (λ r. absurd r))

-- one of two forms
pub either_one : {P : Type 0} {f g h : Spelling} → Agree P f h → Agree P g h → Agree P (Either f g) h
either_one {P} {f} {g} {h} w v = record { agree = λ p b c s t x y e. go p b c s t x y e }
  where
    go : (p : ℕ) (b c s t : Bits) → Either f g p b → h p c → b ++ s ≡ c ++ t → P × (b ≡ c)
    go p b c s t (inl x) y e = w.agree p b c s t x y e
    go p b c s t (inr x) y e = v.agree p b c s t x y e

-- a record with a bitmap of any length in its large form
pub with_large_bitmap : {w v : Writer} (a : Settings) (rs adds : List Rule) (ss xs : List (Option Value)) (bs : List Bool) → 0 < length bs →
    Within w (Root rs ss) → Within v (Additions_in a true adds xs bs) →
    Within (just (true ∷ []) ▹ (w ▹ ((just (true ∷ []) ▹ counted a.variant any_size false bit_items (bit_writers bs)) ▹ v))) (Record_in a true true rs adds ss xs)
with_large_bitmap a rs adds ss xs bs l h k =
    let large : Within (just (true ∷ []) ▹ counted a.variant any_size false bit_items (bit_writers bs)) (IsBitmap a bs) = relax (λ p b x. record { some = l; spelled = x })
    (right_within (then_within (just_within (true ∷ [])) (counted_within (λ b. just (b ∷ [])) bit (λ b. just_within (b ∷ [])) a any_size false bit_items bs))) in
    right_within (relax (λ p b x. record { flags = bs; spelled = x }) (then_within (just_within (true ∷ [])) (then_within h (then_within large k))))
