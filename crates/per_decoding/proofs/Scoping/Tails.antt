-- How the calls read the additions of a record, one after another, after its bitmap (X.691 19.7 to 19.9): what they
-- read, up to where the record is closed, is what the additions and the unknown ones after them spell, and the other
-- way round.
use Rattle.std.proofs.Common.{◌≡◌, ◌∙◌, refl, sym, ap, subst, inl, inr, ℕ, suc, ◌+◌, Bool, true, false, List, [], ◌∷◌}
use Rattle.std.proofs.Common.{Option, Some, None, arith}
use Rattle.rasn_types.specs.Bits.{Bits}
use Rattle.rasn_types.specs.Values.{Value}
use Rattle.rasn_schema.specs.Structures.{field_tag}
use Rattle.rasn_schema.specs.Schemas.{TagTree, Presence, required, Schema, Parts, no_parts, part, count}
use Rattle.rasn_traits.specs.AdditionsRead.{ReadsAddition, reads_added, reads_lacking, ReadsAdditions, reads_no_more}
use Rattle.rasn_traits.specs.AdditionsRead.{reads_further, faulty_added, faulty_lacking, FaultyAdditions}
use Rattle.rasn_traits.specs.AdditionsRead.{faulty_addition, faulty_further}
use Rattle.per_core.specs.Spellings.{Settings, Then, Took, NoneIn}
use Rattle.per_core.specs.Basic.{Additions, IsBitmap, OpenOf, Unknown, basic, rules, rules_in}
use Rattle.per_core.proofs.SpellingsAgree.{Agree, weaken, when_agree, empty_agree}
use Rattle.per_core.proofs.Records.{bitmap_agree}
use Rattle.per_core.proofs.TakenInTurn.{took_then, then_took, took_map, took_nothing, nothing_took, took_agree}
use Rattle.per_read.proofs.Fields.{when_took}
use Rattle.per_core.specs.AdditionFaults.{IsOfBitmap, Addition, NextFlag, rule_of, Shown, Extension, ahead, shown}
use Rattle.per_read.specs.Kinds.{IsTested}
use Rattle.per_read.proofs.OfBitmaps.{bitmap_tested, unknown_tested}
use Rattle.per_core.specs.declared.decode_error.DecodeError.{DecodeError}
use Rattle.per_core.specs.declared.decode_error.DecodeErrorKind.{DecodeErrorKind}
use Rattle.per_core.specs.declared.decode_error.DecodeErrorKind.TheVariants.{AlreadyFailed}
use Rattle.per_read.proofs.Additions.{additions_took, took_additions, took_unknown}
use Rattle.per_decoding.specs.Additions.{Adds, Asks}
use Rattle.per_core.specs.ReadingFaults.{IsInTail, in_bitmap, after_bitmap, IsInAdditions, in_addition, lacking}
use Rattle.per_core.specs.ReadingFaults.{further, in_unknown, IsInOpen, IsOfLacking}
use Rattle.per_decoding.specs.Faults.{IsInNext, out_of_turn, not_expected, at_bitmap, in_open, IsOfNext}
use Rattle.per_decoding.proofs.Scoping.Records.{IsNew, is_left_out, left_out_is}
use Rattle.per_decoding.specs.Rules.{plain_rules}
use Rattle.per_decoding.proofs.Scoping.Spelled.{added}
use Rattle.per_decoding.specs.State.{State, settings_of, with_bits}

-- the presence bits of a bitmap are one list, and one of them is next
pub shown_agree : (a : Settings) (x : Extension) (f g : List Bool) → Agree (f ≡ g) (Shown a x f) (Shown a x g)
shown_agree a ahead f g = bitmap_agree a f g
shown_agree a (shown old) f g = when_agree (λ u v. weaken (λ w. u ∙ sym v) empty_agree)

next_agree : (flags : List Bool) (f g : Option Bool) (r q : List Bool) → NextFlag flags f r → NextFlag flags g q
    → (f ≡ g) × (r ≡ q)
next_agree flags None None r q n m = (refl, n.1 ∙ sym m.1)
next_agree flags (Some b) (Some c) r q n m =
    let e : b ∷ r ≡ c ∷ q = sym n ∙ m in
    let i : b ≡ c = cc in
    let j : r ≡ q = cc in (ap Some i, j)
next_agree flags None (Some c) r q n m = let e : [] ≡ c ∷ q = sym n.0 ∙ m in absurd cc
next_agree flags (Some b) None r q n m = let e : b ∷ r ≡ [] = sym n ∙ m.0 in absurd cc

pub asks_agree : (s : State) (f g : Option Bool) (m n : State) → Asks s f m → Asks s g n → (f ≡ g) × (m ≡ n)
asks_agree s f g m n x y =
    let w = took_agree (shown_agree (settings_of s) s.extension x.flags y.flags) x.taken y.taken in
    let v = next_agree y.flags f g x.rest y.rest (subst (λ z. NextFlag z f x.rest) w.0 x.next) y.next in
    let e : suc m.expected ≡ suc n.expected = sym x.counted ∙ y.counted in
    let i : m.expected ≡ n.expected = omega arith in (
      v.0,
      x.same ∙ ap (λ z. record s { bits = z; extension = shown x.rest; expected = m.expected }) w.1
          ∙ ap (λ z. record s { bits = n.bits; extension = shown z; expected = m.expected }) v.1
          ∙ ap (λ (z : ℕ). record s { bits = n.bits; extension = shown y.rest; expected = z }) i ∙ sym y.same,
    )

-- What a call reads of one addition: its presence bit, if there is one, and after a bit 1 its value.
record Turn (a : Settings) (p : Presence) (c : Schema) (r : Option Value) (s t : State) : Type 0 where
  flag : Option Bool
  flags : List Bool
  rest : List Bool
  middle : Bits
  taken : Took (Shown a s.extension flags) s.bits middle
  next : NextFlag flags flag rest
  here : Took (Addition a (rule_of a p c) r flag) middle t.bits
  counted : s.expected ≡ suc t.expected
  same : t ≡ record s { bits = t.bits; extension = shown rest; expected = t.expected }
  live : s.failed ≡ false
  done : s.presences ≡ []

turn : (a : Settings) {p : Presence} {c : Schema} {r : Option Value} {s t : State} → settings_of s ≡ a
    → ReadsAddition plain_rules p c s r t → Turn a p c r s t
turn a {p} {c} {s = s} {t = t} e (reads_added {v = v} h) =
    let k = h.asks in
    let i : t.expected ≡ h.middle.expected = ap (λ z. z.expected) h.same in
    record {
      flag = Some true;
      flags = k.flags;
      rest = k.rest;
      middle = h.middle.bits;
      taken = subst (λ z. Took (Shown z s.extension k.flags) s.bits h.middle.bits) e k.taken;
      next = k.next;
      here = subst (λ z. Took (Addition z (rule_of z p c) (Some v) (Some true)) h.middle.bits t.bits) e
          (took_map (λ q b x. record { held = v; is = refl; spelled = x }) h.took);
      counted = k.counted ∙ ap suc (sym i);
      same = h.same ∙ ap (λ z. with_bits z t.bits) k.same
          ∙ ap (λ (z : ℕ). record s { bits = t.bits; extension = shown k.rest; expected = z }) (sym i);
      live = k.live;
      done = k.done;
    }
turn a {p} {c} {r} {s} {t} e (reads_lacking o (inl k)) = record {
  flag = Some false;
  flags = k.flags;
  rest = k.rest;
  middle = t.bits;
  taken = subst (λ z. Took (Shown z s.extension k.flags) s.bits t.bits) e k.taken;
  next = k.next;
  here = took_map (λ q b x. (is_left_out p o, x)) (took_nothing t.bits);
  counted = k.counted;
  same = k.same;
  live = k.live;
  done = k.done;
}
turn a {p} {c} {r} {s} {t} e (reads_lacking o (inr k)) = record {
  flag = None;
  flags = k.flags;
  rest = k.rest;
  middle = t.bits;
  taken = subst (λ z. Took (Shown z s.extension k.flags) s.bits t.bits) e k.taken;
  next = k.next;
  here = took_map (λ q b x. (is_left_out p o, x)) (took_nothing t.bits);
  counted = k.counted;
  same = k.same;
  live = k.live;
  done = k.done;
}

-- X.691 19.7 to 19.9: what is still to be read after the root components of a record: the bitmap, where it is ahead,
-- the additions, and those that the schema doesn't know
pub record Tail (a : Settings) (qs : Parts) (x : Extension) (xs : List (Option Value)) (s t : Bits) : Type 0 where
  pub flags : List Bool
  pub middle : Bits
  pub taken : Took (Shown a x flags) s middle
  pub additions : Took (Additions a (rules a qs) xs flags) middle t

-- presence bits that were shown are these
old_shown : (a : Settings) {old flags : List Bool} {s m : Bits} → Took (Shown a (shown old) flags) s m
    → (flags ≡ old) × (s ≡ m)
old_shown a h = let w = when_took h in (w.0, nothing_took w.1)

shown_old : (a : Settings) (old : List Bool) (s : Bits) → Took (Shown a (shown old) old) s s
shown_old a old s = took_map (λ p b x. (refl, x)) (took_nothing s)

-- one addition, and what is after it
turn_tail : (a : Settings) (k : TagTree) {p : Presence} {c : Schema} (qs : Parts) {r : Option Value}
    {xs : List (Option Value)} {s m : State} {t : Bits} → Turn a p c r s m → Tail a qs m.extension xs m.bits t
    → Tail a (part k p c qs) s.extension (r ∷ xs) s.bits t
unfolding rules_in
turn_tail a k {p} {c} qs {r} {xs} {s} {m} {t} w h =
    let e : m.extension ≡ shown w.rest = ap (λ z. z.extension) w.same in
    let o = old_shown a (subst (λ z. Took (Shown a z h.flags) m.bits h.middle) e h.taken) in
    let y : Took (Additions a (rules a qs) xs w.rest) m.bits t = subst
    (λ z. Took (Additions a (rules a qs) xs w.rest) z t) (sym o.1)
    (subst (λ z. Took (Additions a (rules a qs) xs z) h.middle t) o.0 h.additions) in
    record {
      flags = w.flags;
      middle = w.middle;
      taken = w.taken;
      additions = additions_took a (rule_of a p c)
          (rules a qs) w.flags w.flag w.rest r xs w.next w.here y;
    }

-- what the calls leave of a decoder's record
pub record Left (s j : State) (n : ℕ) : Type 0 where
  pub same : j ≡ record s { bits = j.bits; extension = j.extension; expected = j.expected }
  pub counted : s.expected ≡ n + j.expected

pub left_of : (a : Settings) (qs : Parts) (s j : State) (xs : List (Option Value)) → settings_of s ≡ a
    → ReadsAdditions plain_rules qs s xs j → Left s j (count qs)
left_of a no_parts s j [] e reads_no_more = record { same = refl; counted = omega arith }
left_of a (part k p c qs) s j (r ∷ xs) e (reads_further {m = m} x y) =
    let w = turn a e x in
    let l = left_of a qs m j xs (ap settings_of w.same ∙ e) y in
    record {
      same = l.same ∙ ap
          (λ (z : State). record z { bits = j.bits; extension = j.extension; expected = j.expected }) w.same;
      counted =
          omega (arith, w.counted, l.counted);
    }
left_of a (part k p c qs) s j [] e x = elim x [ ]
left_of a no_parts s j (r ∷ xs) e x = elim x [ ]

-- additions that were read in turn, and what is left after them
pub tail_of : (a : Settings) (qs : Parts) (s j : State) (xs : List (Option Value)) (flags : List Bool) {t : Bits}
    → settings_of s ≡ a → ReadsAdditions plain_rules qs s xs j
    → Took (Then (Shown a j.extension flags) (Unknown a flags)) j.bits t → Tail a qs s.extension xs s.bits t
unfolding rules_in
tail_of a no_parts s j [] flags e reads_no_more h = let q = then_took h in
    record { flags = flags; middle = q.0; taken = q.1; additions = q.2 }
tail_of a (part k p c qs) s j (r ∷ xs) flags e (reads_further {m = m} x y) h =
    let w = turn a e x in turn_tail a k qs w (tail_of a qs m j xs flags (ap settings_of w.same ∙ e) y h)
tail_of a (part k p c qs) s j [] flags e x h = elim x [ ]
tail_of a no_parts s j (r ∷ xs) flags e x h = elim x [ ]

-- one addition that its presence bit shows, or leaves out, is read so by the calls
turn_back : (a : Settings) (p : Presence) (c : Schema) (r : Option Value) (flag : Option Bool) (flags rest : List Bool)
    (s : State) (n : ℕ) (m t : Bits) → settings_of s ≡ a → s.failed ≡ false
    → s.presences ≡ [] → s.expected ≡ suc n → Took (Shown a s.extension flags) s.bits m → NextFlag flags flag rest
    → Took (Addition a (rule_of a p c) r flag) m t
    → ReadsAddition plain_rules p c s r (record s { bits = t; extension = shown rest; expected = n })
turn_back a p c r flag flags rest s n m t e live done counted taken next h = go flag next h
  where
    asks : (f : Option Bool) (b : Bits) → NextFlag flags f rest → m ≡ b
        → Asks s f (record s { bits = b; extension = shown rest; expected = n })
    asks f b x i = record {
      live = live;
      done = done;
      counted = counted;
      flags = flags;
      rest = rest;
      taken = subst (λ z. Took (Shown (settings_of s) s.extension flags) s.bits z) i
          (subst (λ z. Took (Shown z s.extension flags) s.bits m) (sym e) taken);
      next = x;
      same = refl;
    }

    go : (f : Option Bool) → NextFlag flags f rest → Took (Addition a (rule_of a p c) r f) m t
        → ReadsAddition plain_rules p c s r (record s { bits = t; extension = shown rest; expected = n })
    go (Some true) x y =
        let v : Took (OpenOf a (basic a c) y.spelled.held) m t =
        record { front = y.front; joins = y.joins; spelled = y.spelled.spelled } in
        let w : Adds c s (Some y.spelled.held) (record s { bits = t; extension = shown rest; expected = n }) =
        added (record s { bits = m; extension = shown rest; expected = n }) (asks (Some true) m x refl)
        (subst (λ z. Took (OpenOf z (basic z c) y.spelled.held) m t) (sym e) v) refl in
        subst (λ z. ReadsAddition plain_rules p c s z (record s { bits = t; extension = shown rest; expected = n }))
        (sym y.spelled.is) (reads_added w)
    go (Some false) x y = let w = when_took y in reads_lacking (left_out_is p r w.0)
        (inl (asks (Some false) t x (nothing_took w.1)))
    go None x y = let w = when_took y in reads_lacking (left_out_is p r w.0) (inr (asks None t x (nothing_took w.1)))

next_of : (flags : List Bool) → (flag : Option Bool) × (rest : List Bool) × NextFlag flags flag rest
next_of [] = (None, [], (refl, refl))
next_of (b ∷ flags) = (Some b, flags, refl)

-- how the calls read additions, and what is left after them
pub record Turns (a : Settings) (qs : Parts) (xs : List (Option Value)) (s : State) (t : Bits) : Type 0 where
  pub end : State
  pub reads : ReadsAdditions plain_rules qs s xs end
  pub flags : List Bool
  pub skipped : Took (Then (Shown a end.extension flags) (Unknown a flags)) end.bits t

pub turns_of : (a : Settings) (qs : Parts) (s : State) (xs : List (Option Value)) (t : Bits) → settings_of s ≡ a
    → s.failed ≡ false → s.presences ≡ [] → s.expected ≡ count qs
    → Tail a qs s.extension xs s.bits t → Turns a qs xs s t
unfolding rules_in
turns_of a no_parts s xs t e live done counted h =
    let w = took_unknown a h.flags xs h.additions in
    record {
      end = s;
      reads = subst (λ z. ReadsAdditions plain_rules no_parts s z s) (sym w.0) reads_no_more;
      flags = h.flags;
      skipped = took_then h.taken w.1;
    }
turns_of a (part k p c qs) s xs t e live done counted h =
    let n = next_of h.flags in
    let f = took_additions a (rule_of a p c) (rules a qs) h.flags n.0 n.1 xs n.2 h.additions in
    let m : State = record s { bits = f.middle; extension = shown n.1; expected = count qs } in
    let x = turn_back a p c f.first n.0 h.flags n.1 s (count qs) h.middle f.middle e live done
    (counted ∙ omega arith) h.taken n.2 f.here in
    let r = turns_of a qs m f.others t e live done refl
    (record { flags = n.1; middle = f.middle; taken = shown_old a n.1 f.middle; additions = f.behind }) in
    record {
      end = r.end;
      reads = subst (λ z. ReadsAdditions plain_rules (part k p c qs) s z r.end) (sym f.are) (reads_further x r.reads);
      flags = r.flags;
      skipped = r.skipped;
    }

-- a fault after a bitmap whose presence bits are these
at_shown : (a : Settings) (k : DecodeErrorKind) (qs : Parts) (old : List Bool) (s : Bits)
    → IsInTail a k qs (shown old) s → IsInAdditions a k qs old s
at_shown a k qs old s (after_bitmap {m = m} flags h x) =
    let o = old_shown a h in subst (λ z. IsInAdditions a k qs old z) (sym o.1)
    (subst (λ z. IsInAdditions a k qs z m) o.0 x)

-- a fault in the additions after one that was read is one in the additions from that one on
after_turn : (a : Settings) (k : DecodeErrorKind) (tree : TagTree) {p : Presence} {c : Schema} (qs : Parts)
    {r : Option Value} {s m : State} → Turn a p c r s m → IsInTail a k qs m.extension m.bits
    → IsInTail a k (part tree p c qs) s.extension s.bits
after_turn a k tree qs {r} {s} {m} w h =
    let e : m.extension ≡ shown w.rest = ap (λ z. z.extension) w.same in
    after_bitmap w.flags w.taken (further w.flag r w.next w.here
    (at_shown a k qs w.rest m.bits (subst (λ z. IsInTail a k qs z m.bits) e h)))

pub after_additions : (a : Settings) (k : DecodeErrorKind) (qs : Parts) (s j : State) (xs : List (Option Value))
    → settings_of s ≡ a → ReadsAdditions plain_rules qs s xs j
    → IsInTail a k no_parts j.extension j.bits → IsInTail a k qs s.extension s.bits
after_additions a k no_parts s j [] e reads_no_more h = h
after_additions a k (part tree p c qs) s j (r ∷ xs) e (reads_further {m = m} x y) h =
    let w = turn a e x in after_turn a k tree qs w (after_additions a k qs m j xs (ap settings_of w.same ∙ e) y h)
after_additions a k (part tree p c qs) s j [] e x h = elim x [ ]
after_additions a k no_parts s j (r ∷ xs) e x h = elim x [ ]

-- a fault in an addition, after those before it
pub record FaultyTail (a : Settings) (e : DecodeError) (qs : Parts) (s : State) : Type 0 where
  pub stands : IsInTail a e.kind qs s.extension s.bits
  pub codec : e.codec ≡ s.codec
  pub new : IsNew e.kind

new_next : (k : DecodeErrorKind) (c : Schema) (s : State) → s.failed ≡ false → IsOfNext k c s → IsNew k × IsInNext k c s
new_next AlreadyFailed c s f h = absurd cc
new_next _ c s f h = (tt, h)

next_stands : (a : Settings) (k : DecodeErrorKind) (tree : TagTree) (p : Presence) (c : Schema) (qs : Parts)
    (s : State) → settings_of s ≡ a → s.presences ≡ [] → s.expected ≡ suc (count qs)
    → IsInNext k c s → IsInTail a k (part tree p c qs) s.extension s.bits
next_stands a k tree p c qs s e done counted (out_of_turn i n) = absurd (n done)
next_stands a k tree p c qs s e done counted (not_expected i n) = absurd (omega arith)
next_stands a k tree p c qs s e done counted (at_bitmap x i n) =
    subst (λ z. IsInTail a k (part tree p c qs) z s.bits) (sym x)
    (in_bitmap (subst (λ z. IsOfBitmap z s.bits k) e i) (subst (λ z. NoneIn (IsBitmap z) s.bits) e n))
next_stands a k tree p c qs s e done counted (in_open {m = m} h o) =
    after_bitmap h.flags (subst (λ z. Took (Shown z s.extension h.flags) s.bits m.bits) e h.taken)
    (in_addition h.next (subst (λ z. IsInOpen z k c m.bits) e o))

lacking_stands : (a : Settings) (k : DecodeErrorKind) (tree : TagTree) (c : Schema) (qs : Parts) (s t : State)
    → settings_of s ≡ a → Adds c s None t → IsOfLacking (field_tag tree) k
    → IsInTail a k (part tree required c qs) s.extension s.bits
lacking_stands a k tree c qs s t e (inl h) i = after_bitmap h.flags
    (subst (λ z. Took (Shown z s.extension h.flags) s.bits t.bits) e h.taken) (lacking (inl h.next) i)
lacking_stands a k tree c qs s t e (inr h) i = after_bitmap h.flags
    (subst (λ z. Took (Shown z s.extension h.flags) s.bits t.bits) e h.taken) (lacking (inr h.next) i)

kept_codec : (c : Schema) (s t : State) → Adds c s None t → t.codec ≡ s.codec
kept_codec c s t (inl h) = ap (λ z. z.codec) h.same
kept_codec c s t (inr h) = ap (λ z. z.codec) h.same

pub faulty_tail : (a : Settings) (e : DecodeError) (qs : Parts) (s : State) → settings_of s ≡ a → s.failed ≡ false
    → s.presences ≡ [] → s.expected ≡ count qs → FaultyAdditions plain_rules e qs s
    → FaultyTail a e qs s
faulty_tail a e (part k p c qs) s i live done counted (faulty_addition (faulty_added h)) =
    let w = new_next e.kind c s live h.stands in
    record { stands = next_stands a e.kind k p c qs s i done (counted ∙ omega arith) w.1; codec = h.codec; new = w.0 }
faulty_tail a e (part k required c qs) s i live done counted (faulty_addition (faulty_lacking {t = t} h l)) =
    record {
      stands = lacking_stands a e.kind k c qs s t i h l.stands;
      codec = l.codec
          ∙ kept_codec c s t h;
      new = subst IsNew (sym l.stands.is) tt;
    }
faulty_tail a e (part k p c qs) s i live done counted (faulty_further {m = m} x y) =
    let w = turn a i x in
    let n : m.expected ≡ count qs = omega (arith, w.counted) in
    let r = faulty_tail a e qs m (ap settings_of w.same ∙ i) (ap (λ z. z.failed) w.same ∙ live)
    (ap (λ z. z.presences) w.same ∙ done) n y in
    record { stands = after_turn a e.kind k qs w r.stands; codec = r.codec ∙ ap (λ z. z.codec) w.same; new = r.new }
faulty_tail a e no_parts s i live done counted x = elim x [ ]

-- a kind that tests show doesn't say that the decoder had failed
pub tested_new : (k : DecodeErrorKind) → IsTested k → IsNew k
tested_new AlreadyFailed h = absurd h
tested_new _ h = tt

pub ending_new : (a : Settings) (k : DecodeErrorKind) (x : Extension) (s : Bits) → IsInTail a k no_parts x s → IsNew k
ending_new a k x s (in_bitmap i n) = tested_new k (bitmap_tested a s k i)
ending_new a k x s (after_bitmap {m = m} flags h (in_unknown {flags = left} i n)) =
    tested_new k (unknown_tested left a m k i)
