-- Records that differ in their unknown additions alone are alike.
use Rattle.std.proofs.Common.{◌≡◌, ◌⊎◌, inl, inr, sym, ap, subst, ◌∙◌, ℕ, suc, ◌<◌, Bool, true, false, List, [], ◌∷◌, ◌++◌, length, append_assoc, length-append, arith, Option}
use Rattle.rasn_types.specs.Bits.{Bits}
use Rattle.rasn_types.specs.Values.{Value}
use Rattle.rasn_schema.specs.Orders.{ordered}
use Rattle.rasn_schema.specs.Schemas.{Order, Parts, Schema, tags, count}
use Rattle.per_core.specs.Basic.{Unknown_in, Root, IsBitmap, Additions_in, rules}
use Rattle.per_core.specs.Spellings.{Settings, Spelling, exactly, Then}
use Rattle.per_core.specs.Writers.{after}
use Rattle.per_core.proofs.Readings.{length-rules}
use Rattle.per_laws.specs.Unknown.{count_set, OpenTypes, BeforeUnknown}
use Rattle.per_laws.specs.Alike.{Pair, Same, Both, UnknownAlike, Kin, rules_of, RootAlike, AdditionsAlike, alike_in, kins}
use Rattle.per_laws.proofs.Sound.{holds_sound, open_sound, octets_end, Sound, KinsSound, same_sound, root_sound, sound_ordered, rules_ordered, rules_kins, kins_sound}

after_both : (p : ℕ) (b c : Bits) → after (after p b) c ≡ after p (b ++ c)
after_both p b c = omega (arith, length-append b c)

-- a spelling, and after it two of another that pair with it
GoesOn : Spelling → Spelling → Spelling → Pair → Type 0
GoesOn g k l H = (q : ℕ) (b c d : Bits) → q < 8 → g q b → k (after q b) c → l (after q b) d → H q (b ++ c) (b ++ d)

both_on : (f g k l : Spelling) (F H : Pair) → Sound f F → GoesOn g k l H → (p : ℕ) (b c d : Bits) → Then f g p b → k (after p b) c → l (after p b) d → Both F H p (b ++ c) (b ++ d)
unfolding GoesOn
both_on f g k l F H s each p b c d x y z =
    let e : after p b ≡ after (after p x.front) x.rest = ap (after p) x.joins ∙ sym (after_both p x.front x.rest) in
    record {
      front = x.front;
      rest = x.rest ++ c;
      other_front = x.front;
      other_rest = x.rest ++ d;
      is_front = s.itself p x.front x.is_front;
      is_rest = each (after p x.front) x.rest c d (omega arith) x.is_rest (subst (λ q. k q c) e y) (subst (λ q. l q d) e z);
      joins = ap (λ w. w ++ c) x.joins ∙ append_assoc x.front x.rest c;
      others_join = ap (λ w. w ++ d) x.joins ∙ append_assoc x.front x.rest d;
    }

-- unknown additions, of any octets
unknown_on : (a : Settings) (more : List Bool) (os qs : List (List ℕ)) → count_set more ≡ length os → count_set more ≡ length qs → (p : ℕ) (c d : Bits) → OpenTypes a os p c → OpenTypes a qs p d → UnknownAlike a more p c d
unknown_on a [] [] [] m n p c d x y = (x, x ∙ sym y)
unknown_on a [] (o ∷ os) qs m n p c d x y = absurd (omega arith)
unknown_on a [] [] (q ∷ qs) m n p c d x y = absurd (omega arith)
unknown_on a (false ∷ more) os qs m n p c d x y = unknown_on a more os qs m n p c d x y
unknown_on a (true ∷ more) [] qs m n p c d x y = absurd (omega arith)
unknown_on a (true ∷ more) (o ∷ os) [] m n p c d x y = absurd (omega arith)
unknown_on a (true ∷ more) (o ∷ os) (q ∷ qs) m n p c d x y =
    let e = octets_end a o q p x.front y.front x.is_front y.is_front in
    record {
      front = x.front;
      rest = x.rest;
      other_front = y.front;
      other_rest = y.rest;
      is_front = (record { octets = o; are = tt; spelled = x.is_front }, record { octets = q; are = tt; spelled = y.is_front });
      is_rest = unknown_on a more os qs (omega arith) (omega arith) (after p x.front) x.rest y.rest x.is_rest (subst (λ r. OpenTypes a qs r y.rest) (sym e) y.is_rest);
      joins = x.joins;
      others_join = y.joins;
    }

unknown_after : (a : Settings) (more : List Bool) (os qs : List (List ℕ)) → count_set more ≡ length os → count_set more ≡ length qs → (shown : List Bool) (p : ℕ) (b c d : Bits) → p < 8 → Unknown_in a false shown p b →
    OpenTypes a os (after p b) c → OpenTypes a qs (after p b) d → UnknownAlike a (shown ++ more) p (b ++ c) (b ++ d)
unknown_after a more os qs m n [] p b c d l x y z =
    let e : after p b ≡ p = ap (after p) x ∙ omega arith in
    subst (λ w. UnknownAlike a more p (w ++ c) (w ++ d)) (sym x) (unknown_on a more os qs m n p c d (subst (λ q. OpenTypes a os q c) e y) (subst (λ q. OpenTypes a qs q d) e z))
unknown_after a more os qs m n (false ∷ shown) p b c d l x y z = unknown_after a more os qs m n shown p b c d l x y z
unknown_after a more os qs m n (true ∷ shown) p b c d l x y z = absurd x

one_less : {m n : ℕ} {more : List Bool} → (suc m ≡ suc n) ⊎ (more ≡ []) → (m ≡ n) ⊎ (more ≡ [])
one_less (inl e) = inl (omega (arith, e))
one_less (inr e) = inr e

module _ (a : Settings) (more : List Bool) (os qs : List (List ℕ)) (m : count_set more ≡ length os) (n : count_set more ≡ length qs) where
  additions_on : (ks : List Kin) → KinsSound ks → (xs : List (Option Value)) (shown : List Bool) → (length shown ≡ length (rules_of ks)) ⊎ (more ≡ []) →
      GoesOn (Additions_in a false (rules_of ks) xs shown) (OpenTypes a os) (OpenTypes a qs) (AdditionsAlike a ks xs (shown ++ more))
  unfolding GoesOn
  additions_on [] h [] shown k = λ p b c d l x y z. unknown_after a more os qs m n shown p b c d l x y z
  additions_on [] h (s ∷ xs) shown k = λ p b c d l x y z. absurd x
  additions_on (j ∷ ks) h [] shown k = λ p b c d l x y z. absurd x
  additions_on (j ∷ ks) h (s ∷ xs) [] (inl e) = absurd (omega arith)
  additions_on (j ∷ ks) h (s ∷ xs) [] (inr e) = λ p b c d l x y z.
      let r : AdditionsAlike a ks xs [] p (b ++ c) (b ++ d) = subst (λ w. AdditionsAlike a ks xs w p (b ++ c) (b ++ d)) e (additions_on ks h.1 xs [] (inr e) p b c d l x.1 y z) in
      subst (λ w. AdditionsAlike a (j ∷ ks) (s ∷ xs) w p (b ++ c) (b ++ d)) (sym e) (x.0, r)
  additions_on (j ∷ ks) h (s ∷ xs) (false ∷ shown) k = λ p b c d l x y z. (x.0, additions_on ks h.1 xs shown (one_less k) p b c d l x.1 y z)
  additions_on (j ∷ ks) h (s ∷ xs) (true ∷ shown) k = λ p b c d l.
      both_on _ (Additions_in a false (rules_of ks) xs shown) (OpenTypes a os) (OpenTypes a qs) _ (AdditionsAlike a ks xs (shown ++ more)) (holds_sound s (λ v. open_sound a (h.0 v))) (additions_on ks h.1 xs shown (one_less k)) p b c d

-- records
pub replaced : (a : Settings) (o : Order) (ps adds : Parts) (more : List Bool) (os qs : List (List ℕ)) (v : Value) (p : ℕ) (b c d : Bits) → BeforeUnknown a o ps adds more v p b →
    count_set more ≡ length os → count_set more ≡ length qs → OpenTypes a os (after p b) c → OpenTypes a qs (after p b) d → alike_in a (Schema.sequence o ps true adds) v p (b ++ c) (b ++ d)
unfolding alike_in GoesOn
replaced a o ps adds more os qs v p b c d x m n y z =
    let ss = x.components in
    let xs = x.additions in
    let root = ordered o (tags ps) (kins a ps) in
    let e : rules_of root ≡ ordered o (tags ps) (rules a ps) = rules_ordered o (tags ps) (kins a ps) ∙ ap (ordered o (tags ps)) (rules_kins a ps) in
    let rs : Sound (Root (ordered o (tags ps) (rules a ps)) (ordered o (tags ps) ss)) (RootAlike root (ordered o (tags ps) ss)) =
    subst (λ w. Sound (Root w (ordered o (tags ps) ss)) (RootAlike root (ordered o (tags ps) ss))) e (root_sound root (sound_ordered o (tags ps) (kins a ps) (kins_sound a ps)) (ordered o (tags ps) ss)) in
    let k : (length x.shown ≡ length (rules_of (kins a adds))) ⊎ (more ≡ []) = counted x.enough in
    let g : GoesOn (Additions_in a false (rules a adds) xs x.shown) (OpenTypes a os) (OpenTypes a qs) (AdditionsAlike a (kins a adds) xs (x.shown ++ more)) =
    subst (λ w. GoesOn (Additions_in a false w xs x.shown) (OpenTypes a os) (OpenTypes a qs) (AdditionsAlike a (kins a adds) xs (x.shown ++ more))) (rules_kins a adds)
    (additions_on a more os qs m n (kins a adds) (kins_sound a adds) xs x.shown k) in
    let g1 = both_on (IsBitmap a (x.shown ++ more)) _ (OpenTypes a os) (OpenTypes a qs) (Same (IsBitmap a (x.shown ++ more))) _ (same_sound (IsBitmap a (x.shown ++ more))) g in
    let g2 = both_on (Root (ordered o (tags ps) (rules a ps)) (ordered o (tags ps) ss)) _ (OpenTypes a os) (OpenTypes a qs) (RootAlike root (ordered o (tags ps) ss)) _ rs (λ q b c d l. g1 q b c d) in
    record {
      of = (ss, xs);
      is = x.is;
      alike = inr (record { flags = x.shown ++ more; alike = both_on (exactly (true ∷ [])) _ (OpenTypes a os) (OpenTypes a qs) (Same (exactly (true ∷ []))) _ (same_sound (exactly (true ∷ []))) (λ q b c d l. g2 q b c d) p b c d x.spelled y z });
    }
  where
    counted : {m : ℕ} → (m ≡ count adds) ⊎ (more ≡ []) → (m ≡ length (rules_of (kins a adds))) ⊎ (more ≡ [])
    counted (inl e) = inl (e ∙ sym (length-rules a adds) ∙ ap length (sym (rules_kins a adds)))
    counted (inr e) = inr e
