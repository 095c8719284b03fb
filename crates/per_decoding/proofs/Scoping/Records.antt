-- How the calls read the root components of a record: its presence bits, and its components one after another (X.691
-- 19).
use Rattle.std.proofs.Common.{◌≡◌, ◌∙◌, refl, sym, ap, subst, inl, inr, ℕ, suc, ◌+◌, Bool, true, false, List, [], ◌∷◌}
use Rattle.std.proofs.Common.{◌++◌, length, Option, Some, None, arith, append_assoc, length-append}
use Rattle.rasn_types.specs.Bits.{Bits}
use Rattle.rasn_types.specs.Values.{Value}
use Rattle.rasn_schema.specs.Structures.{has_bit, presence_bits}
use Rattle.rasn_schema.specs.Schemas.{Presence, required, optional, group, default, Schema, Parts, no_parts, part}
use Rattle.rasn_traits.specs.Presences.{left_out}
use Rattle.rasn_traits.specs.Scopes.{ReadsPart, reads_required, reads_there, reads_left_out, ReadsParts, reads_end}
use Rattle.rasn_traits.specs.Scopes.{reads_next, FaultyParts, faulty_required, faulty_there, faulty_bit, faulty_here}
use Rattle.rasn_traits.specs.Scopes.{faulty_after}
use Rattle.per_core.specs.Spellings.{Settings, Spelling, exactly, bit_offset, Took}
use Rattle.per_core.specs.Basic.{basic, rules, rules_in, Body, Flags, FlagOf, Bodies, IsLeftOut}
use Rattle.per_core.proofs.TakenInTurn.{took_then, then_took, took_map, took_nothing, nothing_took, took_bit}
use Rattle.per_core.specs.declared.decode_error.DecodeError.{DecodeError}
use Rattle.per_core.specs.declared.decode_error.DecodeErrorKind.{DecodeErrorKind}
use Rattle.per_core.specs.declared.decode_error.DecodeErrorKind.TheVariants.{AlreadyFailed}
use Rattle.per_decoding.proofs.Scoping.Spelled.{spelled}
use Rattle.per_decoding.specs.State.{State, Marks, Spells, settings_of, with_bits}
use Rattle.per_decoding.specs.Faults.{IsOf, IsUnmarked}
use Rattle.per_core.specs.ReadingFaults.{IsInBits, IsInParts, here, later}
use Rattle.per_decoding.specs.Rules.{plain_rules}

-- a decoder's state with other bits left and other presence bits still to be read
abbrev pub with_rest : State → Bits → Bits → State
with_rest s b q = record s { bits = b; presences = q }

-- a component, as its presence bit says
abbrev PartBody : Settings → Presence → Schema → Bool → Option Value → Spelling
PartBody a p c b r = Body (record { presence = p; spells = basic a c }) b r

-- a presence bit, of a component that has one
took_flag : (p : Presence) {d : Option Value} → left_out p ≡ Some d → (b : Bool) (t : Bits)
    → Took (FlagOf p b) (b ∷ t) t
took_flag required e b t = absurd cc
took_flag optional e b t = took_bit b t
took_flag group e b t = took_bit b t
took_flag (default v) e b t = took_bit b t

pub exact_took : {b : Bool} {s t : Bits} → Took (exactly (b ∷ [])) s t → s ≡ b ∷ t
exact_took {b} {s} {t} h = h.joins ∙ ap (λ z. z ++ t) h.spelled

flag_took : (p : Presence) {d : Option Value} → left_out p ≡ Some d → {b : Bool} {s t : Bits} → Took (FlagOf p b) s t
    → s ≡ b ∷ t
flag_took required e h = absurd cc
flag_took optional e h = exact_took h
flag_took group e h = exact_took h
flag_took (default v) e h = exact_took h

-- what stands for a component that is left out
pub is_left_out : (p : Presence) {d : Option Value} → left_out p ≡ Some d → IsLeftOut p d
is_left_out required e = absurd cc
is_left_out optional {d = d} e = let i : d ≡ None = cc in i
is_left_out group {d = d} e = let i : d ≡ None = cc in i
is_left_out (default v) {d = d} e = let i : d ≡ Some v = cc in i

pub left_out_is : (p : Presence) (r : Option Value) → IsLeftOut p r → left_out p ≡ Some r
left_out_is required r h = absurd h
left_out_is optional r h = ap Some (sym h)
left_out_is group r h = ap Some (sym h)
left_out_is (default v) r h = ap Some (sym h)

-- a component without a presence bit is required
one_bit : (p : Presence) {d : Option Value} → left_out p ≡ Some d → has_bit p ≡ 1
one_bit required e = absurd cc
one_bit optional e = refl
one_bit group e = refl
one_bit (default v) e = refl

-- What the calls read of one component: its presence bit, where it has one, off those that are still to be read, and
-- its value.
record Step (a : Settings) (p : Presence) (c : Schema) (r : Option Value) (i j : State) : Type 0 where
  shown : Bool
  flag : (z : Bits) → Took (FlagOf p shown) (i.presences ++ z) (j.presences ++ z)
  count : length i.presences ≡ has_bit p + length j.presences
  body : Took (PartBody a p c shown r) i.bits j.bits
  same : j ≡ with_rest i j.bits j.presences
  live : i.failed ≡ false

marked_flag : (p : Presence) {d : Option Value} {b : Bool} {i j : State} → left_out p ≡ Some d → Marks i b j
    → (z : Bits) → Took (FlagOf p b) (i.presences ++ z) (j.presences ++ z)
marked_flag p {b = b} {j = j} e m z = subst (λ q. Took (FlagOf p b) (q ++ z) (j.presences ++ z)) (sym m.first)
    (took_flag p e b (j.presences ++ z))

step : (a : Settings) {p : Presence} {c : Schema} {r : Option Value} {i j : State} → settings_of i ≡ a
    → ReadsPart plain_rules p c i r j → Step a p c r i j
step a {c = c} {i = i} {j = j} e (reads_required {v = v} h) =
    let q : j.presences ≡ i.presences = ap (λ z. z.presences) h.same in
    record {
      shown = true;
      flag = λ z. subst (λ y. Took (FlagOf required true) (i.presences ++ z) (y ++ z)) (sym q)
          (took_map (λ p b x. (refl, x)) (took_nothing (i.presences ++ z)));
      count = ap length (sym q) ∙ omega arith;
      body = took_map (λ p x y. record { held = v; is = refl; spelled = y })
          (subst (λ z. Took (basic z c v) i.bits j.bits) e h.took);
      same = h.same ∙ ap (λ y. with_rest i j.bits y) (sym q);
      live = h.live;
    }
step a {p} {c = c} {i = i} {j = j} e (reads_there {m = m} {v = v} o k h) =
    let q : j.presences ≡ m.presences = ap (λ z. z.presences) h.same in
    let f : settings_of m ≡ a = ap settings_of k.same ∙ e in
    let s : m.bits ≡ i.bits = ap (λ z. z.bits) k.same in
    record {
      shown = true;
      flag = λ z. subst (λ y. Took (FlagOf p true) (i.presences ++ z) (y ++ z)) (sym q) (marked_flag p o k z);
      count = ap length k.first ∙ omega (arith, one_bit p o, ap length q);
      body = took_map (λ p x y. record { held = v; is = refl; spelled = y })
          (subst (λ z. Took (basic a c v) z j.bits) s (subst (λ z. Took (basic z c v) m.bits j.bits) f h.took));
      same = h.same ∙ ap (λ z. with_bits z j.bits) k.same ∙ ap (λ y. with_rest i j.bits y) (sym q);
      live = k.live;
    }
step a {p} {c = c} {r = r} {i = i} {j = j} e (reads_left_out o k) =
    let s : j.bits ≡ i.bits = ap (λ z. z.bits) k.same in
    record {
      shown = false;
      flag = marked_flag p o k;
      count = ap length k.first ∙ omega (arith, one_bit p o);
      body = subst (λ z. Took (PartBody a p c false r) i.bits z) (sym s)
          (took_map (λ n b x. (is_left_out p o, x)) (took_nothing i.bits));
      same = k.same ∙ ap (λ y. with_rest i y j.presences) (sym s);
      live = k.live;
    }

-- components in turn were read: their presence bits, and what stands for each
pub record Read (a : Settings) (ps : Parts) (rs : List (Option Value)) (i j : State) : Type 0 where
  pub shown : List Bool
  pub flags : (z : Bits) → Took (Flags (rules a ps) shown) (i.presences ++ z) (j.presences ++ z)
  pub count : length i.presences ≡ presence_bits ps + length j.presences
  pub bodies : Took (Bodies (rules a ps) shown rs) i.bits j.bits
  pub same : j ≡ with_rest i j.bits j.presences

pub read : (a : Settings) (ps : Parts) (i j : State) (rs : List (Option Value)) → settings_of i ≡ a
    → ReadsParts plain_rules ps i rs j → Read a ps rs i j
unfolding rules_in
read a no_parts i j rs e reads_end = record {
  shown = [];
  flags = λ z. took_nothing (i.presences ++ z);
  count =
      omega arith;
  bodies = took_nothing i.bits;
  same = refl;
}
read a (part k p c ps) i j (r ∷ rs) e (reads_next {m = m} x y) =
    let s = step a e x in
    let l = read a ps m j rs (ap settings_of s.same ∙ e) y in
    record {
      shown = s.shown ∷ l.shown;
      flags = λ z. took_then (s.flag z) (l.flags z);
      count = omega (arith, s.count, l.count);
      bodies = took_then s.body l.bodies;
      same = l.same ∙ ap (λ z. with_rest z j.bits j.presences) s.same;
    }
read a (part k p c ps) i j [] e x = elim x [ ]

cut_off : (n : ℕ) (q : Bits) → length q ≡ suc n → (b : Bool) × (t : Bits) × (q ≡ b ∷ t) × (length t ≡ n)
cut_off n [] e = absurd (omega arith)
cut_off n (b ∷ t) e = (b, t, refl, omega arith)

pub no_more : (q : Bits) → length q ≡ 0 → q ≡ []
no_more [] e = refl
no_more (b ∷ q) e = absurd (omega arith)

same_first : (b c : Bool) (s t : Bits) → b ∷ s ≡ c ∷ t → (b ≡ c) × (s ≡ t)
same_first b c s t e = (let f : b ≡ c = cc in f, let g : s ≡ t = cc in g)

-- The presence bit of a component, which was taken off so many.
data Shows (p : Presence) (b : Bool) (q t : Bits) : Type 0 where
  always : p ≡ required → b ≡ true → q ≡ t → Shows p b q t
  shows : (d : Option Value) → left_out p ≡ Some d → q ≡ b ∷ t → Shows p b q t

record FlagOff (p : Presence) (b : Bool) (q z m : Bits) (n : ℕ) : Type 0 where
  rest : Bits
  joins : m ≡ rest ++ z
  count : length rest ≡ n
  shows_it : Shows p b q rest

optional_off : (p : Presence) (d : Option Value) → left_out p ≡ Some d → (b : Bool) (q z m : Bits) (n : ℕ)
    → length q ≡ has_bit p + n → Took (FlagOf p b) (q ++ z) m → FlagOff p b q z m n
optional_off p d o b q z m n l x =
    let u = cut_off n q (omega (arith, one_bit p o)) in
    let w = same_first u.0 b (u.1 ++ z) m (sym (ap (λ y. y ++ z) u.2) ∙ flag_took p o x) in
    record { rest = u.1; joins = sym w.1; count = u.3; shows_it = shows d o (u.2 ∙ ap (λ y. y ∷ u.1) w.0) }

flag_off : (p : Presence) (b : Bool) (q z m : Bits) (n : ℕ) → length q ≡ has_bit p + n → Took (FlagOf p b) (q ++ z) m
    → FlagOff p b q z m n
flag_off required b q z m n l x = record {
  rest = q;
  joins = sym (nothing_took (took_map (λ p c y. y.1) x));
  count = l
      ∙ omega arith;
  shows_it = always refl x.spelled.0 refl;
}
flag_off optional b q z m n l x = optional_off optional None refl b q z m n l x
flag_off group b q z m n l x = optional_off group None refl b q z m n l x
flag_off (default d) b q z m n l x = optional_off (default d) (Some d) refl b q z m n l x

flag_bits : (p : Presence) (b : Bool) (s t : Bits) → Took (FlagOf p b) s t
    → (q : Bits) × (s ≡ q ++ t) × (length q ≡ has_bit p)
flag_bits required b s t x = ([], nothing_took (took_map (λ p c y. y.1) x), refl)
flag_bits optional b s t x = (b ∷ [], exact_took x, refl)
flag_bits group b s t x = (b ∷ [], exact_took x, refl)
flag_bits (default d) b s t x = (b ∷ [], exact_took x, refl)

-- presence bits are so many
pub flags_off : (a : Settings) (ps : Parts) (shown : List Bool) (q z m : Bits) → length q ≡ presence_bits ps
    → Took (Flags (rules a ps) shown) (q ++ z) m → m ≡ z
unfolding rules_in
flags_off a no_parts [] q z m l x = sym (nothing_took x) ∙ ap (λ p. p ++ z) (no_more q l)
flags_off a (part k p c ps) (b ∷ bs) q z m l x =
    let u = then_took x in
    let f = flag_off p b q z u.0 (presence_bits ps) l u.1 in flags_off a ps bs f.rest z m f.count
    (subst (λ y. Took (Flags (rules a ps) bs) y m) f.joins u.2)
flags_off a no_parts (b ∷ bs) q z m l x = absurd x.spelled
flags_off a (part k p c ps) [] q z m l x = absurd x.spelled

-- what the presence bits of components took is as many bits as they have
pub flags_bits : (a : Settings) (ps : Parts) (shown : List Bool) (s t : Bits) → Took (Flags (rules a ps) shown) s t
    → (q : Bits) × (s ≡ q ++ t) × (length q ≡ presence_bits ps)
unfolding rules_in
flags_bits a no_parts [] s t x = ([], nothing_took x, refl)
flags_bits a (part k p c ps) (b ∷ bs) s t x =
    let u = then_took x in
    let r = flags_bits a ps bs u.0 t u.2 in
    let f = flag_bits p b s u.0 u.1 in (
      f.0 ++ r.0,
      f.1 ∙ ap (λ z. f.0 ++ z) r.1
          ∙ sym (append_assoc f.0 r.0 t),
      length-append f.0 r.0 ∙ omega (arith, f.2, r.2),
    )
flags_bits a no_parts (b ∷ bs) s t x = absurd x.spelled
flags_bits a (part k p c ps) [] s t x = absurd x.spelled

-- any so many are those of some components shown
pub flags_there : (a : Settings) (ps : Parts) (q : Bits) → length q ≡ presence_bits ps
    → (shown : List Bool) × ((z : Bits) → Took (Flags (rules a ps) shown) (q ++ z) z)
unfolding rules_in
flags_there a no_parts q l = ([], λ z. subst (λ y. Took (exactly []) (y ++ z) z) (sym (no_more q l)) (took_nothing z))
flags_there a (part k required c ps) q l =
    let r = flags_there a ps q (l ∙ omega arith) in (
      true ∷ r.0,
      λ z. took_then
          (took_map (λ p b x. (refl, x)) (took_nothing (q ++ z))) (r.1 z),
    )
flags_there a (part k optional c ps) q l =
    let u = cut_off (presence_bits ps) q (omega arith) in
    let r = flags_there a ps u.1 u.3 in (
      u.0 ∷ r.0,
      λ z. subst (λ y. Took (Flags (rules a (part k optional c ps)) (u.0 ∷ r.0)) (y ++ z) z) (sym u.2)
          (took_then (took_bit u.0 (u.1 ++ z)) (r.1 z)),
    )
flags_there a (part k group c ps) q l =
    let u = cut_off (presence_bits ps) q (omega arith) in
    let r = flags_there a ps u.1 u.3 in (
      u.0 ∷ r.0,
      λ z. subst (λ y. Took (Flags (rules a (part k group c ps)) (u.0 ∷ r.0)) (y ++ z) z) (sym u.2)
          (took_then (took_bit u.0 (u.1 ++ z)) (r.1 z)),
    )
flags_there a (part k (default d) c ps) q l =
    let u = cut_off (presence_bits ps) q (omega arith) in
    let r = flags_there a ps u.1 u.3 in (
      u.0 ∷ r.0,
      λ z. subst (λ y. Took (Flags (rules a (part k (default d) c ps)) (u.0 ∷ r.0)) (y ++ z) z) (sym u.2)
          (took_then (took_bit u.0 (u.1 ++ z)) (r.1 z)),
    )

-- one component that a record spells is read so by the calls
part_back : (a : Settings) (p : Presence) (c : Schema) (i : State) (b : Bool) (r : Option Value) (q t : Bits)
    → settings_of i ≡ a → i.failed ≡ false → Shows p b i.presences q → Took (PartBody a p c b r) i.bits t
    → ReadsPart plain_rules p c i r (with_rest i t q)
part_back a p c i true r q t e f (always g h l) y =
    let v : Spells c i y.spelled.held (with_bits i t) =
    spelled f (record {
      front = y.front;
      joins = y.joins;
      spelled =
          subst (λ z. basic z c y.spelled.held (bit_offset i.bits) y.front) (sym e) y.spelled.spelled;
    }) refl in
    rw (g, ← l, y.spelled.is) (reads_required v)
part_back a p c i false r q t e f (always g h l) y = absurd cc
part_back a p c i true r q t e f (shows d o l) y =
    let m : Marks i true (with_rest i i.bits q) = record { live = f; first = l; same = refl } in
    let v : Spells c (with_rest i i.bits q) y.spelled.held (with_rest i t q) =
    spelled f (record {
      front = y.front;
      joins = y.joins;
      spelled =
          subst (λ z. basic z c y.spelled.held (bit_offset i.bits) y.front) (sym e) y.spelled.spelled;
    }) refl in
    rw y.spelled.is (reads_there o m v)
part_back a p c i false r q t e f (shows d o l) y =
    let n : i.bits ≡ t = nothing_took (took_map (λ p c w. w.1) y) in
    let m : Marks i false (with_rest i t q) = record {
      live = f;
      first = l;
      same = ap (λ z. with_rest i z q)
          (sym n);
    } in
    reads_left_out (left_out_is p r y.spelled.0) m

-- all of them
pub parts_back : (a : Settings) (ps : Parts) (i : State) (shown : List Bool) (rs : List (Option Value)) (z m t : Bits)
    → settings_of i ≡ a → i.failed ≡ false → length i.presences ≡ presence_bits ps
    → Took (Flags (rules a ps) shown) (i.presences ++ z) m → Took (Bodies (rules a ps) shown rs) i.bits t
    → ReadsParts plain_rules ps i rs (with_rest i t [])
unfolding rules_in
parts_back a no_parts i [] [] z m t e f l x y =
    subst (λ s. ReadsParts plain_rules no_parts i [] s)
    (ap (λ b. with_rest i b i.presences) (nothing_took y) ∙ ap (λ p. with_rest i t p)
    (no_more i.presences l)) reads_end
parts_back a (part k p c ps) i (b ∷ bs) (r ∷ rs) z m t e f l x y =
    let u = then_took x in
    let w = then_took y in
    let o = flag_off p b i.presences z u.0 (presence_bits ps) l u.1 in
    reads_next (part_back a p c i b r o.rest w.0 e f o.shows_it w.1)
    (parts_back a ps (with_rest i w.0 o.rest) bs rs z m t e f o.count
    (subst (λ s. Took (Flags (rules a ps) bs) s m) o.joins u.2) w.2)
parts_back a no_parts i [] (r ∷ rs) z m t e f l x y = absurd y.spelled
parts_back a no_parts i (b ∷ bs) rs z m t e f l x y = absurd x.spelled
parts_back a (part k p c ps) i [] rs z m t e f l x y = absurd x.spelled
parts_back a (part k p c ps) i (b ∷ bs) [] z m t e f l x y = absurd y.spelled

-- a kind that says of the decoder that it had failed
abbrev pub IsNew : DecodeErrorKind → Type 0
IsNew AlreadyFailed = ⊥
IsNew k = Unit {0}

pub is_new : (k : DecodeErrorKind) (c : Schema) (s : State) → s.failed ≡ false → IsOf k c s → IsNew k
is_new AlreadyFailed c s f h = absurd cc
is_new _ c s f h = tt

pub in_bits : (k : DecodeErrorKind) (c : Schema) (s : State) → s.failed ≡ false → IsOf k c s
    → IsInBits (settings_of s) k c s.bits
in_bits AlreadyFailed c s f h = absurd cc
in_bits _ c s f h = h

pub of_bits : (k : DecodeErrorKind) (c : Schema) (s : State) → IsNew k → IsInBits (settings_of s) k c s.bits
    → IsOf k c s
of_bits AlreadyFailed c s n h = absurd n
of_bits _ c s n h = h

-- a fault in a component, after those before it
pub record FaultyIn (a : Settings) (e : DecodeError) (ps : Parts) (i : State) : Type 0 where
  pub shown : List Bool
  pub flags : (z : Bits) → Took (Flags (rules a ps) shown) (i.presences ++ z) z
  pub stands : IsInParts a e.kind ps shown i.bits
  pub codec : e.codec ≡ i.codec
  pub new : IsNew e.kind

not_unmarked : {e : DecodeError} (i : State) (n : ℕ) → length i.presences ≡ suc n → i.failed ≡ false → IsUnmarked e i
    → ⊥
not_unmarked i n l f (inl h) = let k : length i.presences ≡ 0 = ap length h.1 in absurd (omega arith)
not_unmarked i n l f (inr h) = let k = h.1 in absurd cc

pub faulty_in : (a : Settings) (e : DecodeError) (ps : Parts) (i : State) → settings_of i ≡ a → i.failed ≡ false
    → length i.presences ≡ presence_bits ps → FaultyParts plain_rules e ps i → FaultyIn a e ps i
unfolding rules_in
faulty_in a e (part k required c ps) i s f l (faulty_here (faulty_required h)) =
    let q = flags_there a ps i.presences (l ∙ omega arith) in
    record {
      shown = true ∷ q.0;
      flags = λ z. took_then (took_map (λ p b x. (refl, x)) (took_nothing (i.presences ++ z))) (q.1 z);
      stands = here (subst (λ x. IsInBits x e.kind c i.bits) s (in_bits e.kind c i f h.stands));
      codec = h.codec;
      new = is_new e.kind c i f h.stands;
    }
faulty_in a e (part k p c ps) i s f l (faulty_here (faulty_there {m = m} o w h)) =
    let q = flags_there a ps m.presences (let x = ap length w.first in omega (arith, one_bit p o)) in
    let g : m.failed ≡ false = ap (λ z. z.failed) w.same ∙ f in
    let d : settings_of m ≡ a = ap settings_of w.same ∙ s in
    let b : m.bits ≡ i.bits = ap (λ z. z.bits) w.same in
    record {
      shown = true ∷ q.0;
      flags = λ z. took_then (marked_flag p o w z) (q.1 z);
      stands = here (subst (λ x. IsInBits a e.kind c x) b
          (subst (λ x. IsInBits x e.kind c m.bits) d (in_bits e.kind c m g h.stands)));
      codec = h.codec ∙ ap (λ z. z.codec) w.same;
      new = is_new e.kind c m g h.stands;
    }
faulty_in a e (part k p c ps) i s f l (faulty_here (faulty_bit o u)) =
    absurd (not_unmarked i (presence_bits ps) (let x : length i.presences
    ≡ suc (presence_bits ps) = omega (arith, one_bit p o) in x) f u)
faulty_in a e (part k p c ps) i s f l (faulty_after {m = m} x y) =
    let w = step a s x in
    let d = faulty_in a e ps m (ap settings_of w.same ∙ s) (ap (λ z. z.failed) w.same ∙ f)
    (let n = w.count in omega arith) y in
    record {
      shown = w.shown ∷ d.shown;
      flags = λ z. took_then (w.flag z) (d.flags z);
      stands = later _ w.body d.stands;
      codec = d.codec ∙ ap (λ z. z.codec) w.same;
      new = d.new;
    }
faulty_in a e no_parts i s f l x = elim x [ ]
