-- Octets that come with one count alone, or with none, are the last bits that were taken, and are lent where these are octets of the input
-- (X.691 11.9, 17).
use Rattle.std.proofs.Common.{◌≡◌, ◌<◌, ◌≤◌, ◌⊎◌, inl, inr, refl, sym, ◌∙◌, ap, ap₂, subst, ℕ, zero, suc, ◌+◌, ◌-◌, ◌*◌, ◌/◌, ◌%◌, ◌^◌, take, drop, take_at, drop_at, Bool, true, false, cond, nat_lt, List, [], ◌∷◌, ◌++◌, length, Option, Some, None, Global, arith, length-append, length-take, length-drop, take-append-drop, append_assoc}
use Rattle.std.specs.Prelude.{◌↔◌, Result, Ok, Err, IfOk}
use Rattle.std.specs.Cow.{cow_slice_items, IsBorrowedSlice, IsOwnedSlice}
use Rattle.std.specs.List.{between}
use Rattle.std.specs.declared.borrow.CowSlice.{CowSlice}
use Rattle.std.specs.declared.borrow.CowSlice.TheVariants as Slice
use Rattle.rasn_types.specs.Bits.{AreOctets, Bits, pack, to_bits, unpack}
use Rattle.rasn_types.specs.Values.{Value, octets}
use Rattle.rasn_types.proofs.Bits.{length-unpack, number_below, to_bits-number}
use Rattle.rasn_types.proofs.Fewest.{pack-unpack}
use Rattle.rasn_constraints.specs.Bounds.{Size}
use Rattle.rasn_schema.specs.Schemas
use Rattle.rasn_traits.specs.Calls.{Reads}
use Rattle.per_core.specs.Basic.{InFragments, Counted, OneByOne, UnconstrainedLength, length_form, octet}
use Rattle.per_core.specs.Counts.{octet_items}
use Rattle.per_core.specs.Spellings.{Settings, Spelling, Then, Took, bit_offset}
use Rattle.per_core.specs.declared.items.Item.TheVariants.{Octet}
use Rattle.per_core.proofs.Readings.{one_reading}
use Rattle.per_core.proofs.TakenInTurn.{took_agree}
use Rattle.per_read.specs.Items.{HasCount}
use Rattle.per_core.specs.SizeFaults.{IsOfItems}
use Rattle.per_read.specs.ReaderState.{ReaderState as Taking, settings_of as read_by}
use Rattle.per_read.specs.Takes.{Takes, memory_or}
use Rattle.per_core.specs.declared.decode_error.DecodeError.{DecodeError}
use Rattle.per_core.specs.declared.decode_error.DecodeErrorKind.{DecodeErrorKind}
use Rattle.per_read.specs.TakenPositions.{LastTaken}
use Rattle.per_decoding.specs.Faults.{refusal}
use Rattle.per_decoding.specs.Rules.{plain_rules}
use Rattle.per_decoding.specs.State.{State, reader_of, refused, settings_of, with_last}
use Rattle.std.specs.Prelude.{Vec}
use Rattle.per_de.specs.Lending.{in_front, AreTaken, IsInFront, TakenAs, TakesOctets}
use Rattle.per_decoding.specs.Sources.{place_left}
use Rattle.per_de.specs.declared.taken_octets.TakenOctets.{TakenOctets}
use Rattle.per_de.specs.declared.taken_octets.TakenOctets.TheVariants.{InFront, Copied}
use Rattle.per_de.proofs.Calls.{reads_ok}
use Rattle.per_de.specs.Lending.{AreLent, AreRead, CanBeLent, ComeAlone, is_counted_once, is_extended}
use Rattle.per_decoding.specs.Sources.{bits_of, place_of, span_of, up_to, AreInInput, AreOctetsIn, AreOctetsOf, IsWithin}
use Rattle.per_decoding.specs.declared.source.Source.{Source}
use Rattle.per_decoding.specs.declared.source.Span.{Span}
use Rattle.per_de.proofs.Calls.{reads}
use Rattle.per_decoding.proofs.Spans.{in_front_of}
use Rattle.per_de.proofs.StringCalls.{faulty_octets, reads_octets}

-- octets are the last of some bits
record EndIn (os : List ℕ) (bits : Bits) : Type 0 where
  pub before : Bits
  pub joins : bits ≡ before ++ unpack os
  pub are : AreOctets os

octets_are : (os : List ℕ) (p : ℕ) (b : Bits) → OneByOne octet os p b → (b ≡ unpack os) × AreOctets os
octets_are [] p b h = (h, tt)
octets_are (o ∷ os) p b h =
    let w = h.is_front in
    let front : h.front ≡ to_bits 8 o = sym (to_bits-number h.front) ∙ ap₂ (λ (n m : ℕ). to_bits n m) w.wide w.means in
    let below : o < 256 = omega (arith, w.means, number_below h.front, ap (λ (n : ℕ). 2 ^ n) w.wide) in
    let rest = octets_are os _ h.rest h.is_rest in
    (h.joins ∙ ap₂ (λ (x y : Bits). x ++ y) front rest.0, (below, rest.1))

one_by_one : (os : List ℕ) (p : ℕ) (b : Bits) → OneByOne octet os p b → EndIn os b
one_by_one os p b h = let w = octets_are os p b h in record { before = []; joins = w.0; are = w.1 }

behind : {f g : Spelling} {p : ℕ} {b : Bits} (os : List ℕ) → Then f g p b → ((q : ℕ) (c : Bits) → g q c → EndIn os c) → EndIn os b
behind os h k =
    let e = k _ h.rest h.is_rest in
    record { before = h.front ++ e.before; joins = h.joins ∙ ap (λ z. h.front ++ z) e.joins ∙ sym (append_assoc h.front e.before (unpack os)); are = e.are }

module _ (a : Settings) (os : List ℕ) where
  in_one : (k p : ℕ) (b : Bits) → InFragments a octet k os p b → length os < 16384 → EndIn os b
  in_one zero p b h l = behind os h (λ q c x. behind os x (one_by_one os))
  in_one (suc k) p b h l = let w = h.spelled.is_rest.is_front in absurd (omega (arith, l, ap length h.all, length-append h.these h.others, w.is, w.some))

  free : (p : ℕ) (b : Bits) → UnconstrainedLength a octet os p b → length os < 16384 → EndIn os b
  free p b h l = in_one h.fragments p b h.spelled l

  once : (c : Bool) (f pads : Spelling) (p : ℕ) (b : Bits) → cond c (Then f (Then pads (OneByOne octet os))) (UnconstrainedLength a octet os) p b → (length os < 16384) ⊎ (c ≡ true) → EndIn os b
  once true f pads p b h l = behind os h (λ q c x. behind os x (one_by_one os))
  once false f pads p b h (inl l) = free p b h l
  once false f pads p b h (inr e) = absurd cc

  under : (least most : Option ℕ) (p : ℕ) (b : Bits) → length_form a least most octet_items octet os p b → (length os < 16384) ⊎ (is_counted_once least most ≡ true) → EndIn os b
  under None most p b h (inl l) = free p b h l
  under None most p b h (inr e) = absurd cc
  under (Some lb) None p b h (inl l) = free p b h l
  under (Some lb) None p b h (inr e) = absurd cc
  under (Some lb) (Some ub) p b h l = once (nat_lt ub 65536) _ _ p b h l

  some_end : {s t front : Bits} → s ≡ front ++ t → EndIn os front → LastTaken (8 * length os) (unpack os) s t × AreOctets os
  some_end {t = t} j e = (record { before = e.before; joins = j ∙ ap (λ z. z ++ t) e.joins ∙ append_assoc e.before (unpack os) t; wide = length-unpack os }, e.are)

  module _ (size : Size) where
    without : (s : Bits) (mark : Bool) → ComeAlone size mark s (length os) → (length os < 16384) ⊎ (is_counted_once size.least size.most ≡ true)
    without s mark (inl l) = inl l
    without s mark (inr e) = inr e.0

    marked : {s t : Bits} → Took (Counted a size true octet_items octet os) s t → ComeAlone size true s (length os) → LastTaken (8 * length os) (unpack os) s t × AreOctets os
    marked {s} {t} h l = go h.spelled l
      where
        go : Counted a size true octet_items octet os (bit_offset s) h.front → ComeAlone size true s (length os) → LastTaken (8 * length os) (unpack os) s t × AreOctets os
        go (inl x) l = some_end h.joins (behind os x (λ q c y. under size.least size.most q c y.spelled (without s true l)))
        go (inr x) (inl l) = some_end h.joins (behind os x (λ q c y. free q c y.spelled l))
        go (inr x) (inr e) =
            let i : s ≡ true ∷ (x.rest ++ t) = h.joins ∙ ap (λ z. z ++ t) (x.joins ∙ ap (λ z. z ++ x.rest) x.is_front) in
            let f : true ≡ false = sym (ap (λ z. is_extended true z) i) ∙ e.1 in
            absurd cc

    -- what comes alone was taken last
    pub alone_last : (mark : Bool) {s t : Bits} → Took (Counted a size mark octet_items octet os) s t → ComeAlone size mark s (length os) → LastTaken (8 * length os) (unpack os) s t × AreOctets os
    alone_last false {s} h l = some_end h.joins (under size.least size.most (bit_offset s) h.front h.spelled.spelled (without s false l))
    alone_last true h l = marked h l

-- octets of the same bits
pub unpack_same : (xs ys : List ℕ) → AreOctets xs → AreOctets ys → unpack xs ≡ unpack ys → xs ≡ ys
unpack_same xs ys h k e =
    let n : length xs ≡ length ys = omega (arith, ap length e, length-unpack xs, length-unpack ys) in
    sym (pack-unpack xs h) ∙ ap₂ (λ (n : ℕ) (b : Bits). pack n b) n e ∙ pack-unpack ys k

-- a part of the bits that are left, as a part of those in which they stand
inner : (span : Span) (source : Bits) (left m : ℕ) → IsWithin span source → m + left ≤ length (span_of span source)
    → between (span.end - left - m) (span.end - left) source ≡ between (length (span_of span source) - left - m) (length (span_of span source) - left) (span_of span source)
inner span source left m h l =
    let s = span_of span source in
    let k = length s - left - m in
    let w = length s - left - k in
    in_front_of span source (take k s) (take w (drop k s)) (drop w (drop k s)) left m h (sym (take-append-drop k s) ∙ ap (λ z. take k s ++ z) (sym (take-append-drop w (drop k s))))
    (length-drop w (drop k s) ∙ omega (arith, length-drop k s, l)) (length-take w (drop k s) ∙ omega (arith, length-drop k s, l))

pub part_inside : (span : Span) (source bits : Bits) (left n : ℕ) (part : List ℕ) → IsWithin span source → span_of span source ≡ bits → 8 * n + left ≤ length bits → AreOctetsOf source (span.end - left) n part
    → AreOctetsOf bits (length bits - left) n part
part_inside span source bits left n part h e l p =
    let few : 8 * n + left ≤ length (span_of span source) = omega (arith, l, ap length e) in
    subst (λ z. AreOctetsOf z (length z - left) n part) e (record { are = p.are; same = p.same ∙ inner span source left (8 * n) h few })

pub if_ok : {X E : Type 0} (r : Result X E) (P Q : X → Type 0) → ((v : X) → P v → Q v) → IfOk r P → IfOk r Q
if_ok (Err e) P Q f h = tt
if_ok (Ok v) P Q f h = f v h

-- octets can be lent exactly where octets of the input stand in front of the last bits
pub lent_where : {A : Type 0} (s : State) (source : Source) (span : Span) (left n : ℕ) → up_to span source ≡ s.source → IsWithin span (bits_of source) → left ≤ span.end
    → A ↔ AreInInput source (span.end - left) n → A ↔ CanBeLent s left n
lent_where s source span left n e h l i =
    let same : place_of source + (span.end - left) ≡ s.source.place + (length s.source.bits - (s.source.behind + left)) =
    omega (arith, ap (λ z. z.place) e, ap (λ z. z.behind) e, ap (λ z. length z.bits) e, h.enough, l) in (
      (λ a. let q = i.0 a in record { some = q.some; lends = sym (ap (λ z. z.lends) e) ∙ q.input; on_octets = ap (λ (k : ℕ). k % 8) (sym same) ∙ q.on_octets }),
      λ w. i.1 (record { some = w.some; input = ap (λ z. z.lends) e ∙ w.lends; on_octets = ap (λ (k : ℕ). k % 8) same ∙ w.on_octets }),
    )

owned_not : (x : CowSlice ℕ Global) → IsOwnedSlice x → IsBorrowedSlice x → ⊥
owned_not (Slice.Borrowed r) o b = o
owned_not (Slice.Owned v) o b = b

-- a refusal to read an OCTET STRING, whatever its octets would have been kept in
pub refused_so : {T U : Type 0} (size : Size) (mark : Bool) (f : T → Value) (g : U → Value) (s t : State) (e : DecodeError) → Reads plain_rules (Schemas.octet_string size mark) f s (Err e) t
    → Reads plain_rules (Schemas.octet_string size mark) g s (Err e) t
refused_so size mark f g s t e h = record { law = h.law; behaves = record { again = h.behaves.again; fails = h.behaves.fails; kept = h.behaves.kept } }

-- an OCTET STRING that a reader skips
module _ (s : State) (size : Size) (mark : Bool) {x y : Taking} (left : ℕ) (i : x ≡ reader_of s) (l : left ≡ length y.bits) where
  pub skipped : (n : ℕ) → Takes (memory_or (λ a. IsOfItems a size mark Octet)) (λ a. Counted a size mark octet_items octet) HasCount x (Ok n) y → AreRead size mark s n left
  skipped n g = record {
    items = g.ok.octets;
    rest = y.bits;
    many = g.ok.many;
    behind = l;
    took = subst (λ (z : Taking). Took (Counted (read_by z) size mark octet_items octet g.ok.octets) z.bits y.bits) i g.ok.held;
  }

  pub skip_refused : (live : s.failed ≡ false) (t : State) (k : DecodeErrorKind) (e : DecodeError) → Takes (memory_or (λ a. IsOfItems a size mark Octet)) (λ a. Counted a size mark octet_items octet) HasCount x (Err k) y
      → e ≡ refusal k s → t ≡ refused s → Reads plain_rules (Schemas.octet_string size mark) octets s (Err e) t
  skip_refused live t k e g f h =
      let r : Takes (memory_or (λ a. IsOfItems a size mark Octet)) (λ a. Counted a size mark octet_items octet) (λ P (os : List ℕ). P os) x (Err k) y = record { ok = tt; err = g.err; kept = g.kept } in
      reads s (Schemas.octet_string size mark) octets live (λ v. reads_octets (settings_of s) size mark v) i r l (ap Err f, h) (λ d. faulty_octets (settings_of s) size mark s.bits d)

-- an OCTET STRING that was skipped, and then is lent or copied
module _ (s : State) (size : Size) (mark : Bool) (left : ℕ) (t : State) (live : s.failed ≡ false) (n : ℕ) (g : AreRead size mark s n left) where
  last : ComeAlone size mark s.bits n → LastTaken (8 * length g.items) (unpack g.items) s.bits g.rest × AreOctets g.items
  last c = alone_last (settings_of s) g.items size mark g.took (subst (λ (m : ℕ). ComeAlone size mark s.bits m) (sym g.many) c)

  pub enough : ComeAlone size mark s.bits n → 8 * n + left ≤ length s.bits
  enough c =
      let h = (last c).0 in
      omega (arith, g.behind, h.wide, g.many, ap length h.joins, length-append h.before (unpack g.items ++ g.rest), length-append (unpack g.items) g.rest)

  -- a part of the input that can be lent is what was skipped
  part_is : (part : List ℕ) → ComeAlone size mark s.bits n → AreOctetsOf s.bits (length s.bits - left) n part → part ≡ g.items
  part_is part c p =
      let w = last c in
      let h = w.0 in
      let k = length s.bits - left - 8 * n in
      let m = length s.bits - left - k in
      let all : length s.bits ≡ length h.before + (length (unpack g.items) + length g.rest) = omega (arith, ap length h.joins, length-append h.before (unpack g.items ++ g.rest), length-append (unpack g.items) g.rest) in
      let first : length h.before ≡ k = omega (arith, all, g.behind, h.wide, g.many) in
      let many : length (unpack g.items) ≡ m = omega (arith, all, g.behind, h.wide, g.many) in
      let d : drop k s.bits ≡ unpack g.items ++ g.rest = ap (λ z. drop k z) h.joins ∙ drop_at h.before (unpack g.items ++ g.rest) k first in
      unpack_same part g.items p.are w.1 (p.same ∙ ap (λ z. take m z) d ∙ take_at (unpack g.items) g.rest m many)

  pub alone_read : (v : CowSlice ℕ Global) → ComeAlone size mark s.bits n → AreOctetsOf s.bits (length s.bits - left) n (cow_slice_items v) → t ≡ with_last s left
      → Reads plain_rules (Schemas.octet_string size mark) (λ (v : CowSlice ℕ Global). octets (cow_slice_items v)) s (Ok v) t
  alone_read v a p h =
      let after : Taking = record { bits = g.rest; options = (reader_of s).options } in
      let k : Took (Counted (settings_of s) size mark octet_items octet (cow_slice_items v)) s.bits g.rest = subst (λ z. Took (Counted (settings_of s) size mark octet_items octet z) s.bits g.rest) (sym (part_is (cow_slice_items v) a p)) g.took in
      let r : Takes (memory_or (λ a. IsOfItems a size mark Octet)) (λ a. Counted a size mark octet_items octet) (λ P (v : CowSlice ℕ Global). P (cow_slice_items v)) (reader_of s) (Ok v) after = record { ok = k; err = tt; kept = refl } in
      reads s (Schemas.octet_string size mark) (λ v. octets (cow_slice_items v)) live (λ v. reads_octets (settings_of s) size mark (cow_slice_items v)) refl r g.behind (refl, h) (λ d. faulty_octets (settings_of s) size mark s.bits d)

  -- what comes alone is lent exactly where it can be
  pub lent_as : (v : CowSlice ℕ Global) → ComeAlone size mark s.bits n → AreOctetsOf s.bits (length s.bits - left) n (cow_slice_items v) → t ≡ with_last s left → IsBorrowedSlice v ↔ CanBeLent s left n
      → IsBorrowedSlice v ↔ AreLent size mark s (length t.bits) (length (cow_slice_items v))
  lent_as v alone p h e =
      let many : length (cow_slice_items v) ≡ n = ap length (part_is (cow_slice_items v) alone p) ∙ g.many in
      let rest : length t.bits ≡ left = ap (λ z. length z.bits) h ∙ length-drop (length s.bits - left) s.bits ∙ omega (arith, enough alone) in (
        (λ b.
            let w = e.0 b in
            let a : AreLent size mark s left n = record { alone = alone; lent = w } in
            subst (λ (k : ℕ). AreLent size mark s k (length (cow_slice_items v))) (sym rest) (subst (λ (k : ℕ). AreLent size mark s left k) (sym many) a)),
        λ a.
            let w : AreLent size mark s left n = subst (λ (k : ℕ). AreLent size mark s left k) many (subst (λ (k : ℕ). AreLent size mark s k (length (cow_slice_items v))) rest a) in
            e.1 w.lent,
      )

  -- what is copied isn't lent
  pub copied_unlent : (r : Result (CowSlice ℕ Global) DecodeError) → Reads plain_rules (Schemas.octet_string size mark) (λ (v : CowSlice ℕ Global). octets (cow_slice_items v)) s r t → IfOk r (λ v. IsOwnedSlice v)
      → (AreLent size mark s left n → ⊥) → IfOk r (λ v. IsBorrowedSlice v ↔ AreLent size mark s (length t.bits) (length (cow_slice_items v)))
  copied_unlent (Err e) h o none = tt
  copied_unlent (Ok v) h o none =
      let w = took_agree (one_reading (settings_of s) (Schemas.octet_string size mark) (octets (cow_slice_items v)) (octets g.items)) h.law.took (reads_octets (settings_of s) size mark g.items g.took) in
      let same : cow_slice_items v ≡ g.items = let e = w.0 in cc in
      let many : length (cow_slice_items v) ≡ n = ap length same ∙ g.many in
      let rest : length t.bits ≡ left = ap length w.1 ∙ sym g.behind in
      ((λ b. absurd (owned_not v o b)), λ a. absurd (none (subst (λ (k : ℕ). AreLent size mark s left k) many (subst (λ (k : ℕ). AreLent size mark s k (length (cow_slice_items v))) rest a))))

  -- what comes alone is in front of the bits that are left
  between_these : ComeAlone size mark s.bits n → unpack g.items ≡ between (length s.bits - left - 8 * n) (length s.bits - left) s.bits
  between_these c =
      let h = (last c).0 in
      let k = length s.bits - left - 8 * n in
      let m = length s.bits - left - k in
      let all : length s.bits ≡ length h.before + (length (unpack g.items) + length g.rest) = omega (arith, ap length h.joins, length-append h.before (unpack g.items ++ g.rest), length-append (unpack g.items) g.rest) in
      let first : length h.before ≡ k = omega (arith, all, g.behind, h.wide, g.many) in
      let many : length (unpack g.items) ≡ m = omega (arith, all, g.behind, h.wide, g.many) in
      sym (ap (λ z. take m z) (ap (λ z. drop k z) h.joins ∙ drop_at h.before (unpack g.items ++ g.rest) k first) ∙ take_at (unpack g.items) g.rest m many)

  -- how many bits are in front of the last ones
  pub ends_there : (span : Span) (source : Source) → up_to span source ≡ s.source → IsWithin span (bits_of source) → left ≤ span.end → left ≤ length s.bits → t ≡ with_last s left → in_front t ≡ span.end - left
  ends_there span source e h l few a =
      let rest : length t.bits ≡ left = ap (λ z. length z.bits) a ∙ length-drop (length s.bits - left) s.bits ∙ omega (arith, few) in
      let from : t.source ≡ up_to span source = ap (λ z. z.source) a ∙ sym e in
      omega (arith, rest, ap (λ z. z.behind) from, ap (λ z. length z.bits) from, h.enough, l)

  taken_read : t ≡ with_last s left → Reads plain_rules (Schemas.octet_string size mark) octets s (Ok g.items) t
  taken_read h =
      let after : Taking = record { bits = g.rest; options = (reader_of s).options } in
      let r : Takes (memory_or (λ a. IsOfItems a size mark Octet)) (λ a. Counted a size mark octet_items octet) (λ P (v : List ℕ). P v) (reader_of s) (Ok g.items) after = record { ok = g.took; err = tt; kept = refl } in
      reads s (Schemas.octet_string size mark) octets live (λ v. reads_octets (settings_of s) size mark v) refl r g.behind (refl, h) (λ d. faulty_octets (settings_of s) size mark s.bits d)

  pub taken_in_front : (span : Span) (source : Source) → up_to span source ≡ s.source → span_of span (bits_of source) ≡ s.bits → IsWithin span (bits_of source) → left ≤ span.end → ComeAlone size mark s.bits n → place_left t ≡ 0
      → t ≡ with_last s left → TakenAs plain_rules size mark s (InFront n) t
  taken_in_front span source e b h l alone on a =
      let few : 8 * n + left ≤ length (span_of span (bits_of source)) = omega (arith, enough alone, ap length b) in
      let from : t.source ≡ up_to span source = ap (λ z. z.source) a ∙ sym e in
      let there = ends_there span source e h l (omega (arith, enough alone)) a in
      record {
        items = g.items;
        are = record {
          are = (last alone).1;
          same = between_these alone ∙ ap (λ z. between (length z - left - 8 * n) (length z - left) z) (sym b) ∙ sym (inner span (bits_of source) left (8 * n) h few)
              ∙ ap₂ (λ (k : ℕ) (z : Bits). between (k - 8 * n) k z) (sym there) (sym (ap (λ z. z.bits) from));
        };
        read = taken_read a;
        in_front = ((λ x. (subst (λ (m : ℕ). ComeAlone size mark s.bits m) (sym g.many) alone, on)), (λ x. tt));
      }

  -- what is copied comes in fragments, or isn't on octets
  pub taken_copy : (v : Vec ℕ Global) → Reads plain_rules (Schemas.octet_string size mark) (λ (v : Vec ℕ Global). octets v.items) s (Ok v) t → left ≤ length s.bits
      → (ComeAlone size mark s.bits n → place_left (with_last s left) ≡ 0 → ⊥) → TakenAs plain_rules size mark s (Copied v) t
  taken_copy v h few none =
      let w = took_agree (one_reading (settings_of s) (Schemas.octet_string size mark) (octets v.items) (octets g.items)) h.law.took (reads_octets (settings_of s) size mark g.items g.took) in
      let same : v.items ≡ g.items = let e = w.0 in cc in
      let many : length v.items ≡ n = ap length same ∙ g.many in
      let rest : length t.bits ≡ length (with_last s left).bits = ap length w.1 ∙ sym g.behind ∙ omega (arith, length-drop (length s.bits - left) s.bits, few) in
      let from : t.source ≡ s.source = ap (λ z. z.source) h.law.same in
      let bit_offset : place_left t ≡ place_left (with_last s left) = ap₂ (λ z (k : ℕ). (z.place + (length z.bits - (z.behind + k))) % 8) from rest in
      record {
        items = v.items;
        are = refl;
        read = reads_ok v v.items refl h;
        in_front = ((λ x. absurd x), (λ x. absurd (none (subst (λ (m : ℕ). ComeAlone size mark s.bits m) many x.0) (sym bit_offset ∙ x.1))));
      }
