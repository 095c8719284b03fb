-- Values with one code are one.
use Rattle.std.proofs.Common.{◌≡◌, refl, sym, ap, ◌∙◌, ℕ, suc, Bool, true, false, cond, eqb, List, [], ◌∷◌, ◌++◌, map, length, arith, append_assoc, eqb-true, ℤ, pos, negsuc}
use Rattle.rasn_types.specs.Values.{Value, whole, truth, nothing, item, octets, bits, characters, elements, bag, fields, alternative, day, Side, root, added, Values, no_values, value, Slots, no_slots, absent, there, side_code, whole_code, bool_code, code, values_code, slots_code, equal_lists, same}

pub equal_lists_same : (xs ys : List ℕ) → equal_lists xs ys ≡ true → xs ≡ ys
equal_lists_same [] [] e = refl
equal_lists_same [] (y ∷ ys) e = absurd (cc)
equal_lists_same (x ∷ xs) [] e = absurd (cc)
equal_lists_same (x ∷ xs) (y ∷ ys) e = go (eqb x y) refl e (equal_lists_same xs ys)
  where
    go : (b : Bool) → eqb x y ≡ b → cond b (equal_lists xs ys) false ≡ true → (equal_lists xs ys ≡ true → xs ≡ ys) → x ∷ xs ≡ y ∷ ys
    go true h e r = let u : x ≡ y = eqb-true x y h in let v : xs ≡ ys = r e in cc
    go false h e r = absurd (cc)

pub split_at_length : (xs ys s t : List ℕ) → length xs ≡ length ys → xs ++ s ≡ ys ++ t → (xs ≡ ys) × (s ≡ t)
split_at_length [] [] s t l e = (refl, e)
split_at_length [] (y ∷ ys) s t l e = absurd (omega arith)
split_at_length (x ∷ xs) [] s t l e = absurd (omega arith)
split_at_length (x ∷ xs) (y ∷ ys) s t l e =
    let h : x ≡ y = cc in let e' : xs ++ s ≡ ys ++ t = cc in let r = split_at_length xs ys s t (omega arith) e' in
    let r0 : xs ≡ ys = r.0 in (cc, r.1)

length-bools : (bs : List Bool) → length (map bool_code bs) ≡ length bs
length-bools [] = refl
length-bools (b ∷ bs) = ap suc (length-bools bs)

bool_same : (b c : Bool) → bool_code b ≡ bool_code c → b ≡ c
bool_same true true e = refl
bool_same false false e = refl
bool_same true false e = absurd (omega arith)
bool_same false true e = absurd (omega arith)

bools_same : (bs cs : List Bool) → map bool_code bs ≡ map bool_code cs → bs ≡ cs
bools_same [] [] e = refl
bools_same [] (c ∷ cs) e = absurd (cc)
bools_same (b ∷ bs) [] e = absurd (cc)
bools_same (b ∷ bs) (c ∷ cs) e = let h : bool_code b ≡ bool_code c = cc in let r : map bool_code bs ≡ map bool_code cs = cc in
    let u : b ≡ c = bool_same b c h in let v : bs ≡ cs = bools_same bs cs r in cc

side_same : (d e : Side) → side_code d ≡ side_code e → d ≡ e
side_same root root h = refl
side_same added added h = refl
side_same root added h = absurd (omega arith)
side_same added root h = absurd (omega arith)

whole_same : (z y : ℤ) (s t : List ℕ) → whole_code z ++ s ≡ whole_code y ++ t → (z ≡ y) × (s ≡ t)
whole_same (pos n) (pos m) s t e = let h : n ≡ m = cc in (cc, cc)
whole_same (negsuc n) (negsuc m) s t e = let h : n ≡ m = cc in (cc, cc)
whole_same (pos n) (negsuc m) s t e = absurd (cc)
whole_same (negsuc n) (pos m) s t e = absurd (cc)

-- the code of v, with what is known of its parts
abbrev IsCoded : Value → Type 0
IsCoded v = (w : Value) (s t : List ℕ) → code v ++ s ≡ code w ++ t → (v ≡ w) × (s ≡ t)

abbrev AreCoded : Values → Type 0
AreCoded v = (w : Values) (s t : List ℕ) → values_code v ++ s ≡ values_code w ++ t → (v ≡ w) × (s ≡ t)

abbrev SlotsCoded : Slots → Type 0
SlotsCoded v = (w : Slots) (s t : List ℕ) → slots_code v ++ s ≡ slots_code w ++ t → (v ≡ w) × (s ≡ t)

whole_case : (z : ℤ) → IsCoded (whole z)
unfolding code
whole_case z (whole y) s t e = let h : whole_code z ++ s ≡ whole_code y ++ t = cc in let r = whole_same z y s t h in (ap whole r.0, r.1)
whole_case z _ s t e = absurd (cc)

truth_case : (b : Bool) → IsCoded (truth b)
unfolding code
truth_case b (truth c) s t e = let h : bool_code b ≡ bool_code c = cc in let u : b ≡ c = bool_same b c h in (ap truth u, cc)
truth_case b _ s t e = absurd (cc)

nothing_case : Unit {0} → IsCoded (nothing)
unfolding code
nothing_case u (nothing) s t e = (refl, cc)
nothing_case u _ s t e = absurd (cc)

item_case : (d : Side) (i : ℕ) → IsCoded (item d i)
unfolding code
item_case d i (item d' j) s t e = let h : side_code d ≡ side_code d' = cc in let u : d ≡ d' = side_same d d' h in let k : i ≡ j = cc in (cc, cc)
item_case d i _ s t e = absurd (cc)

octets_case : (os : List ℕ) → IsCoded (octets os)
unfolding code
octets_case os (octets ps) s t e = let l : length os ≡ length ps = cc in let h : os ++ s ≡ ps ++ t = cc in let r = split_at_length os ps s t l h in (ap octets r.0, r.1)
octets_case os _ s t e = absurd (cc)

bits_case : (bs : List Bool) → IsCoded (bits bs)
unfolding code
bits_case bs (bits cs) s t e = let l : length bs ≡ length cs = cc in let h : map bool_code bs ++ s ≡ map bool_code cs ++ t = cc in let r = split_at_length (map bool_code bs) (map bool_code cs) s t (length-bools bs ∙ l ∙ sym (length-bools cs)) h in (ap bits (bools_same bs cs r.0), r.1)
bits_case bs _ s t e = absurd (cc)

characters_case : (os : List ℕ) → IsCoded (characters os)
unfolding code
characters_case os (characters ps) s t e = let l : length os ≡ length ps = cc in let h : os ++ s ≡ ps ++ t = cc in let r = split_at_length os ps s t l h in (ap characters r.0, r.1)
characters_case os _ s t e = absurd (cc)

elements_case : (vs : Values) → AreCoded vs → IsCoded (elements vs)
unfolding code
elements_case vs ih (elements ws) s t e = let h : values_code vs ++ s ≡ values_code ws ++ t = cc in let r = ih ws s t h in (ap elements r.0, r.1)
elements_case vs ih _ s t e = absurd (cc)

bag_case : (vs : Values) → AreCoded vs → IsCoded (bag vs)
unfolding code
bag_case vs ih (bag ws) s t e = let h : values_code vs ++ s ≡ values_code ws ++ t = cc in let r = ih ws s t h in (ap bag r.0, r.1)
bag_case vs ih _ s t e = absurd (cc)

fields_case : (r x : Slots) → SlotsCoded r → SlotsCoded x → IsCoded (fields r x)
unfolding code
fields_case r x ih jh (fields q y) s t e = let h : (slots_code r ++ slots_code x) ++ s ≡ (slots_code q ++ slots_code y) ++ t = cc in let h' : slots_code r ++ (slots_code x ++ s) ≡ slots_code q ++ (slots_code y ++ t) = sym (append_assoc (slots_code r) (slots_code x) s) ∙ h ∙ append_assoc (slots_code q) (slots_code y) t in let u = ih q (slots_code x ++ s) (slots_code y ++ t) h' in let z = jh y s t u.1 in let u0 : r ≡ q = u.0 in let z0 : x ≡ y = z.0 in (cc, z.1)
fields_case r x ih jh _ s t e = absurd (cc)

alternative_case : (d : Side) (i : ℕ) (v : Value) → IsCoded v → IsCoded (alternative d i v)
unfolding code
alternative_case d i v ih (alternative d' j w) s t e = let h : side_code d ≡ side_code d' = cc in let u : d ≡ d' = side_same d d' h in let k : i ≡ j = cc in let g : code v ++ s ≡ code w ++ t = cc in let r = ih w s t g in let r0 : v ≡ w = r.0 in (cc, r.1)
alternative_case d i v ih _ s t e = absurd (cc)

day_case : (y : ℤ) (m d : ℕ) → IsCoded (day y m d)
unfolding code
day_case y m d (day y' m' d') s t e = let k : m ≡ m' = cc in let l : d ≡ d' = cc in let h : whole_code y ++ s ≡ whole_code y' ++ t = cc in let r = whole_same y y' s t h in let r0 : y ≡ y' = r.0 in (cc, r.1)
day_case y m d _ s t e = absurd (cc)

value_case : (v : Value) (vs : Values) → IsCoded v → AreCoded vs → AreCoded (value v vs)
unfolding code
value_case v vs ih jh no_values s t e = absurd (cc)
value_case v vs ih jh (value w ws) s t e =
    let h : (code v ++ values_code vs) ++ s ≡ (code w ++ values_code ws) ++ t = cc in
    let h' : code v ++ (values_code vs ++ s) ≡ code w ++ (values_code ws ++ t) = sym (append_assoc (code v) (values_code vs) s) ∙ h ∙ append_assoc (code w) (values_code ws) t in
    let u = ih w (values_code vs ++ s) (values_code ws ++ t) h' in let z = jh ws s t u.1 in let u0 : v ≡ w = u.0 in let z0 : vs ≡ ws = z.0 in (cc, z.1)

no_values_case : AreCoded no_values
unfolding code
no_values_case no_values s t e = (refl, cc)
no_values_case (value w ws) s t e = absurd (cc)

no_slots_case : SlotsCoded no_slots
unfolding code
no_slots_case no_slots s t e = (refl, cc)
no_slots_case _ s t e = absurd (cc)

absent_case : (v : Slots) → SlotsCoded v → SlotsCoded (absent v)
unfolding code
absent_case v ih (absent w) s t e = let h : slots_code v ++ s ≡ slots_code w ++ t = cc in let r = ih w s t h in (ap absent r.0, r.1)
absent_case v ih _ s t e = absurd (cc)

there_case : (v : Value) (vs : Slots) → IsCoded v → SlotsCoded vs → SlotsCoded (there v vs)
unfolding code
there_case v vs ih jh (there w ws) s t e =
    let h : (code v ++ slots_code vs) ++ s ≡ (code w ++ slots_code ws) ++ t = cc in
    let h' : code v ++ (slots_code vs ++ s) ≡ code w ++ (slots_code ws ++ t) = sym (append_assoc (code v) (slots_code vs) s) ∙ h ∙ append_assoc (code w) (slots_code ws) t in
    let u = ih w (slots_code vs ++ s) (slots_code ws ++ t) h' in let z = jh ws s t u.1 in let u0 : v ≡ w = u.0 in let z0 : vs ≡ ws = z.0 in (cc, z.1)
there_case v vs ih jh _ s t e = absurd (cc)

mutual
  pub code_same : (v : Value) → IsCoded v
  code_same (whole z) = whole_case z
  code_same (truth b) = truth_case b
  code_same nothing = nothing_case tt
  code_same (item d i) = item_case d i
  code_same (octets os) = octets_case os
  code_same (bits bs) = bits_case bs
  code_same (characters os) = characters_case os
  code_same (elements vs) = elements_case vs (values_same vs)
  code_same (bag vs) = bag_case vs (values_same vs)
  code_same (fields r x) = fields_case r x (slots_same r) (slots_same x)
  code_same (alternative d i v) = alternative_case d i v (code_same v)
  code_same (day y m d) = day_case y m d

  pub values_same : (v : Values) → AreCoded v
  values_same no_values = no_values_case
  values_same (value v vs) = value_case v vs (code_same v) (values_same vs)

  pub slots_same : (v : Slots) → SlotsCoded v
  slots_same no_slots = no_slots_case
  slots_same (absent v) = absent_case v (slots_same v)
  slots_same (there v vs) = there_case v vs (code_same v) (slots_same vs)

pub same_true : (v w : Value) → same v w ≡ true → v ≡ w
unfolding same
same_true v w e = let h : code v ≡ code w = equal_lists_same (code v) (code w) e in
    (code_same v w [] [] (ap (λ z. z ++ []) h)).0
