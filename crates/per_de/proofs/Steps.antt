-- What the steps of the calls take, and why they refuse.
use Rattle.std.proofs.Common.{◌≡◌, ◌⊎◌, inl, inr, sym, ◌∙◌, ap, subst, ℕ, ◌+◌, ◌-◌, ◌≤◌, ◌%◌, Bool, true, List, [], ◌++◌, length, length-append, arith}
use Rattle.std.specs.Prelude.{Result, Ok, Err}
use Rattle.rasn_types.specs.Bits.{Bits, unpack}
use Rattle.rasn_types.proofs.Bits.{length-unpack}
use Rattle.rasn_schema.specs.declared.items.Place.{Place}
use Rattle.per_core.specs.Basic.{ExtensionBit, IsBitmap, Octets, Unknown}
use Rattle.per_core.specs.Spellings.{Settings, Spelling, Took, NoneIn}
use Rattle.rasn_constraints.specs.Bounds.{count_of}
use Rattle.per_core.specs.IndexFaults.{IsOfIndex, index_form, IsOfExtension}
use Rattle.per_decoding.specs.ChoiceIndexes.{index_of}
use Rattle.per_core.specs.BitFieldFaults.{IsOfBitField, IsOfUnconstrained, Says}
use Rattle.per_read.specs.Kinds.{Faulty}
use Rattle.per_read.specs.Lists.{Leaves}
use Rattle.per_read.specs.ReaderState.{ReaderState as Taking}
use Rattle.per_read.specs.Takes.{Reason, Takes, itself, telling}
use Rattle.per_core.specs.declared.decode_error.DecodeError.{DecodeError}
use Rattle.per_core.specs.declared.decode_error.DecodeErrorKind.{DecodeErrorKind}
use Rattle.per_core.specs.declared.decode_error.DecodeErrorKind.TheVariants.{Incomplete, OutOfMemory}
use Rattle.per_core.specs.AdditionFaults as Bitmaps
use Rattle.per_core.specs.AdditionFaults.{IsOfUnknown, skipped_unknown, Shown, Extension, ahead, shown}
use Rattle.per_read.specs.Bitmaps.{large_fragments_of}
use Rattle.per_read.specs.Flags.{HasFlags}
use Rattle.per_read.specs.OpenTypes.{HasOctets, fragments_of}
use Rattle.per_read.specs.Reasons.{gathering}
use Rattle.per_read.specs.TakenPositions.{LastTaken}
use Rattle.per_read.specs.declared.bitmaps.PresenceBits.{PresenceBits}
use Rattle.per_read.specs.declared.bitmaps.PresenceBits.TheVariants as Taken
use Rattle.per_read.specs.declared.open_types.Contents.{Contents}
use Rattle.per_read.specs.declared.open_types.Contents.TheVariants as Open
use Rattle.per_decoding.proofs.Scoping.Additions.{of_next}
use Rattle.per_decoding.specs.Additions.{EntersContents, OpensContents, OutsideAddition}
use Rattle.per_decoding.specs.Faults.{Answered, IsOfNext, at_bitmap, refusal}
use Rattle.per_decoding.specs.State.{State, reader_of, refused, settings_of, with_bits}
use Rattle.per_decoding.proofs.Scoping.Tails.{tested_new}
use Rattle.per_read.proofs.OfBitmaps.{bitmap_tested}
use Rattle.per_decoding.specs.Sources.{flags_in, span_of, IsWithin}
use Rattle.per_de.specs.Steps.{AsksNext, IsOfBitmap, IsOfOctets, RefusedAs, SkipsUnknown, TakesBit, TakesBitmap, TakesExtensionBit, TakesFlags, TakesIndex, Unasked}
use Rattle.per_decoding.specs.declared.source.Flags.{Flags}
use Rattle.per_decoding.specs.declared.source.Span.{Span}
use Rattle.per_de.proofs.Opening.{answered_ok, answered_err}
use Rattle.per_decoding.proofs.Spans.{in_front_of, bit_lacking, none_left, span_length, with_rest}

answered_failed : {T : Type 0} (taken : Result T DecodeErrorKind) (left : ℕ) (s : State) (e : DecodeError) (t : State) → Answered taken left s (Err e) t → t ≡ refused s
answered_failed (Ok w) left s e t a = let i = a.0 in absurd cc
answered_failed (Err k) left s e t a = a.1

leaves : {f : Spelling} {s t : Bits} → Took f s t → Leaves s t
leaves h = record { front = h.front; joins = h.joins }

-- a call that takes what a form spells, and the decoder's answer to it
module _ {T X : Type 0} {why : Reason} {form : Settings → X → Spelling} {of : (X → Type 0) → T → Type 0} (s : State) {x y : Taking} (left : ℕ) {t : State} {taken : Result T DecodeErrorKind} where
  pub went_ok : (v : T) → x ≡ reader_of s → Takes why form of x taken y → left ≡ length y.bits → Answered taken left s (Ok v) t
      → (of (λ w. Took (form (settings_of s) w) s.bits y.bits) v → Leaves s.bits y.bits)
      → of (λ w. Took (form (settings_of s) w) s.bits y.bits) v × (t ≡ with_bits s y.bits)
  went_ok v i g l a joins =
      let h : Takes why form of (reader_of s) taken y = subst (λ z. Takes why form of z taken y) i g in
      let r = answered_ok taken left s v t a in
      let k : of (λ w. Took (form (settings_of s) w) s.bits y.bits) v = rw r.0 at h.ok in
      let m = joins k in
      (k, r.1 ∙ with_rest s m.front y.bits left m.joins l)

  pub went_err : (e : DecodeError) → x ≡ reader_of s → Takes why form of x taken y → Answered taken left s (Err e) t
      → RefusedAs (why (settings_of s) s.bits (NoneIn (form (settings_of s)) s.bits)) s e t
  went_err e i g a =
      let h : Takes why form of (reader_of s) taken y = subst (λ z. Takes why form of z taken y) i g in
      let r = answered_err taken left s e t a in
      let f = answered_failed taken left s e t a in
      let k : why (settings_of s) s.bits (NoneIn (form (settings_of s)) s.bits) r.0 = rw r.1 at h.err in
      record { kind = r.0; is = r.2; because = k; failed = ap (λ z. z.failed) f; codec = ap (λ z. z.codec) f }

because_of : {P Q : DecodeErrorKind → Type 0} {s : State} {e : DecodeError} {t : State} → ((k : DecodeErrorKind) → P k → Q k) → RefusedAs P s e t → RefusedAs Q s e t
because_of f r = record { kind = r.kind; is = r.is; because = f r.kind r.because; failed = r.failed; codec = r.codec }

gathered_stops : (form : Settings → ℕ → Spelling) (says : Settings → Says) (a : Settings) (s : Bits) {A : Type 0} (k : DecodeErrorKind) → gathering form says a s A k → Faulty (says a s) A k
gathered_stops form says a s k (inl h) = inl h.0
gathered_stops form says a s k (inr h) = inr h

-- the extension bit of a type with a marker
pub extension_taken : (marker : Bool) (s t : State) (result : Result Bool DecodeError) → marker ≡ true → TakesBit s result t → TakesExtensionBit marker s result t
extension_taken marker s t (Ok b) m a = (subst (λ (z : Bool). Took (ExtensionBit z b) s.bits t.bits) (sym m) a.0, a.1)
extension_taken marker s t (Err e) m a =
    subst (λ (z : Bool). RefusedAs (λ k. IsOfExtension z s.bits k × NoneIn (ExtensionBit z) s.bits) s e t) (sym m)
    (record { kind = Incomplete (count_of 1); is = a.1; because = (bit_lacking a.0, none_left a.0); failed = ap (λ z. z.failed) a.2; codec = ap (λ z. z.codec) a.2 })

-- the index of a choice
pub index_taken : (r e e' : ℕ) (ext ext' : Bool) (s : State) {x y : Taking} {left : ℕ} (t : State) {taken : Result Place DecodeErrorKind} (result : Result Place DecodeError) → e ≡ e' → ext ≡ ext' → x ≡ reader_of s
    → Takes (telling (λ a. IsOfIndex a r e ext)) (λ a. index_form a r e ext) (λ P z. P (index_of z)) x taken y → left ≡ length y.bits → Answered taken left s result t → TakesIndex r e' ext' s result t
index_taken r e e' ext ext' s {y = y} t (Ok z) m n i g l a =
    let w = went_ok s _ z i g l a leaves in
    let b : y.bits ≡ t.bits = ap (λ z. z.bits) (sym w.1) in
    let k : Took (index_form (settings_of s) r e ext (index_of z)) s.bits t.bits = subst (λ q. Took (index_form (settings_of s) r e ext (index_of z)) s.bits q) b w.0 in (
      subst (λ (q : ℕ). Took (index_form (settings_of s) r q ext' (index_of z)) s.bits t.bits) m (subst (λ (q : Bool). Took (index_form (settings_of s) r e q (index_of z)) s.bits t.bits) n k),
      w.1 ∙ ap (λ z. with_bits s z) b,
    )
index_taken r e e' ext ext' s t (Err err) m n i g l a =
    subst (λ (q : ℕ). TakesIndex r q ext' s (Err err) t) m (subst (λ (q : Bool). TakesIndex r e q s (Err err) t) n (because_of (λ k h. h) (went_err s _ err i g a)))

-- a bitmap
module _ (s : State) {x y : Taking} (left : ℕ) (t : State) {taken : Result PresenceBits DecodeErrorKind} (i : x ≡ reader_of s) (g : Takes (gathering large_fragments_of Bitmaps.IsOfBitmap) IsBitmap (HasFlags x.bits y.bits) x taken y) where
  pub no_bitmap_taken : (e : DecodeError) → Answered taken left s (Err e) t → TakesBitmap s (Err e) t
  no_bitmap_taken e a = because_of (gathered_stops large_fragments_of Bitmaps.IsOfBitmap (settings_of s) s.bits) (went_err s _ e i g a)

  bitmap_taken : (v : PresenceBits) → left ≡ length y.bits → Answered taken left s (Ok v) t
      → HasFlags s.bits y.bits (λ w. Took (IsBitmap (settings_of s) w) s.bits y.bits) v × (t ≡ with_bits s y.bits)
  bitmap_taken v l a =
      let h = subst (λ z. Takes (gathering large_fragments_of Bitmaps.IsOfBitmap) IsBitmap (HasFlags z y.bits) x taken y) (ap (λ z. z.bits) i) g in
      went_ok s left v i h l a (λ k. leaves k.held)

  pub flags_in_place : (source : Bits) (span front : Span) (count : ℕ) → source ≡ s.source.bits → IsWithin span source → span_of span source ≡ s.bits → left ≡ length y.bits
      → front ≡ record { begin = span.end - left - count; end = span.end - left } → Answered taken left s (Ok (Taken.InPlace count)) t
      → Took (IsBitmap (settings_of s) (span_of front s.source.bits)) s.bits t.bits × (t ≡ with_bits s t.bits)
  flags_in_place source span front count c d b l f a =
      let w = bitmap_taken (Taken.InPlace count) l a in
      let n : y.bits ≡ t.bits = ap (λ z. z.bits) (sym w.1) in
      let h : LastTaken count w.0.flags s.bits y.bits = w.0.are in
      let p : span_of front s.source.bits ≡ w.0.flags = ap (λ z. span_of front z) (sym c) ∙ ap (λ (z : Span). span_of z source) f ∙ in_front_of span source h.before w.0.flags y.bits left count d (b ∙ h.joins) (sym l) h.wide in
      (subst (λ z. Took (IsBitmap (settings_of s) (span_of front s.source.bits)) s.bits z) n (subst (λ z. Took (IsBitmap (settings_of s) z) s.bits y.bits) (sym p) w.0.held), w.1 ∙ ap (λ z. with_bits s z) n)

  pub flags_gathered : (bits : List Bool) → left ≡ length y.bits → Answered taken left s (Ok (Taken.Gathered bits)) t → Took (IsBitmap (settings_of s) bits) s.bits t.bits × (t ≡ with_bits s t.bits)
  flags_gathered bits l a =
      let w = bitmap_taken (Taken.Gathered bits) l a in
      let n : y.bits ≡ t.bits = ap (λ z. z.bits) (sym w.1) in
      let p : bits ≡ w.0.flags = w.0.are in
      (subst (λ z. Took (IsBitmap (settings_of s) bits) s.bits z) n (subst (λ z. Took (IsBitmap (settings_of s) z) s.bits y.bits) (sym p) w.0.held), w.1 ∙ ap (λ z. with_bits s z) n)

-- presence bits that were ahead
pub flags_ahead : (s m t : State) (result : Result Flags DecodeError) → m ≡ record s { extension = shown [] } → s.extension ≡ ahead → TakesBitmap m result t → TakesFlags s result t
flags_ahead s m t (Ok flags) e x h =
    let k = subst (λ z. TakesBitmap z (Ok flags) t) e h in
    (subst (λ z. Took (Shown (settings_of s) z (flags_in s.source.bits flags)) s.bits t.bits) (sym x) k.0, k.1)
flags_ahead s m t (Err f) e x h =
    let k : TakesBitmap (record s { extension = shown [] }) (Err f) t = subst (λ z. TakesBitmap z (Err f) t) e h in
    (x, record { kind = k.kind; is = k.is; because = k.because; failed = k.failed; codec = k.codec })

-- where no bitmap stands, no addition can be asked for
pub no_flags : (s m t : State) (e : DecodeError) → m ≡ s → TakesFlags m (Err e) t → AsksNext s (Err e) t
no_flags s m t e i h =
    let k : TakesFlags s (Err e) t = subst (λ z. TakesFlags z (Err e) t) i h in
    (go k.1.kind k.1.is k.1.because, k.1.failed, k.1.codec)
  where
    go : (d : DecodeErrorKind) → e ≡ refusal d s → IsOfBitmap s d → (e ≡ refusal OutOfMemory s) ⊎ Unasked e s
    go d f (inl o) = inl (f ∙ ap (λ z. refusal z s) o)
    go d f (inr o) =
        let k : TakesFlags s (Err e) t = subst (λ z. TakesFlags z (Err e) t) i h in
        inr (record {
          none = λ flag m a. o.1 a.flags m.bits (subst (λ (z : Extension). Took (Shown (settings_of s) z a.flags) s.bits m.bits) k.0 a.taken);
          codec = ap (λ z. z.codec) f;
          stands = λ c. subst (λ (z : DecodeError). IsOfNext z.kind c s) (sym f) (of_next d c s (tested_new d (bitmap_tested (settings_of s) s.bits d o.0)) (at_bitmap k.0 o.0 o.1));
        })

-- additions that the schema doesn't know
pub unknown_skipped : (flags bitmap : List Bool) (s : State) {x y : Taking} {left : ℕ} (t : State) {taken : Result (Unit {0}) DecodeErrorKind} (result : Result (Unit {0}) DecodeError) → bitmap ≡ flags → x ≡ reader_of s
    → Takes (telling (IsOfUnknown bitmap)) (skipped_unknown bitmap) itself x taken y → left ≡ length y.bits → Answered taken left s result t → SkipsUnknown flags s result t
unknown_skipped flags bitmap s {y = y} t (Ok u) b i g l a =
    let w = went_ok s _ u i g l a leaves in
    let n : y.bits ≡ t.bits = ap (λ z. z.bits) (sym w.1) in
    (subst (λ z. Took (Unknown (settings_of s) flags) s.bits z) n (subst (λ z. Took (Unknown (settings_of s) z) s.bits y.bits) b w.0), w.1 ∙ ap (λ z. with_bits s z) n)
unknown_skipped flags bitmap s t (Err e) b i g l a =
    subst (λ z. RefusedAs (λ k. IsOfUnknown z (settings_of s) s.bits k × NoneIn (skipped_unknown z (settings_of s)) s.bits) s e t) b (went_err s _ e i g a)

-- the contents of an open type
module _ (s : State) {x y : Taking} (left : ℕ) (t : State) {taken : Result Contents DecodeErrorKind} (i : x ≡ reader_of s) (g : Takes (gathering fragments_of (λ a. IsOfUnconstrained a 8)) Octets (HasOctets x.bits y.bits) x taken y) where
  pub no_open_taken : (e : DecodeError) → Answered taken left s (Err e) t → RefusedAs (IsOfOctets s) s e t
  no_open_taken e a = because_of (gathered_stops fragments_of (λ a. IsOfUnconstrained a 8) (settings_of s) s.bits) (went_err s _ e i g a)

  pub open_taken : (v : Contents) → left ≡ length y.bits → Answered taken left s (Ok v) t
      → HasOctets s.bits y.bits (λ w. Took (Octets (settings_of s) w) s.bits y.bits) v × (t ≡ with_bits s y.bits)
  open_taken v l a =
      let h = subst (λ z. Takes (gathering fragments_of (λ a. IsOfUnconstrained a 8)) Octets (HasOctets z y.bits) x taken y) (ap (λ z. z.bits) i) g in
      went_ok s left v i h l a (λ k. leaves k.held)

  -- contents in place: what they are, how many, and where they stand
  pub contents_in_place : (source : Bits) (span front : Span) (count : ℕ) → source ≡ s.source.bits → IsWithin span source → span_of span source ≡ s.bits → left ≡ length y.bits
      → front ≡ record { begin = span.end - left - count; end = span.end - left } → Answered taken left s (Ok (Open.InPlace count)) t
      → (octets : List ℕ) × Took (Octets (settings_of s) octets) s.bits t.bits × (t ≡ with_bits s t.bits) × (span_of front s.source.bits ≡ unpack octets) × (count ≡ length (unpack octets)) × (left + count ≤ span.end - span.begin)
  contents_in_place source span front count c d b l f a =
      let w = open_taken (Open.InPlace count) l a in
      let n : y.bits ≡ t.bits = ap (λ z. z.bits) (sym w.1) in
      let h : LastTaken count (unpack w.0.octets) s.bits y.bits = w.0.are in
      let p : span_of front s.source.bits ≡ unpack w.0.octets = ap (λ z. span_of front z) (sym c) ∙ ap (λ (z : Span). span_of z source) f ∙ in_front_of span source h.before (unpack w.0.octets) y.bits left count d (b ∙ h.joins) (sym l) h.wide in (
        w.0.octets,
        subst (λ z. Took (Octets (settings_of s) w.0.octets) s.bits z) n w.0.held,
        w.1 ∙ ap (λ z. with_bits s z) n,
        p,
        sym h.wide,
        omega (arith, l, h.wide, ap length (b ∙ h.joins), length-append h.before (unpack w.0.octets ++ y.bits), length-append (unpack w.0.octets) y.bits, span_length span source d),
      )

  pub gathered_contents : (octets : _) → left ≡ length y.bits → Answered taken left s (Ok (Open.Gathered octets)) t → Took (Octets (settings_of s) octets.items) s.bits t.bits × (t ≡ with_bits s t.bits)
  gathered_contents octets l a =
      let w = open_taken (Open.Gathered octets) l a in
      let n : y.bits ≡ t.bits = ap (λ z. z.bits) (sym w.1) in
      let p : octets.items ≡ w.0.octets = w.0.are in
      (subst (λ z. Took (Octets (settings_of s) octets.items) s.bits z) n (subst (λ z. Took (Octets (settings_of s) z) s.bits y.bits) (sym p) w.0.held), w.1 ∙ ap (λ z. with_bits s z) n)

pub whole_octets : (count : ℕ) (octets : List ℕ) → count ≡ length (unpack octets) → count % 8 ≡ 0
whole_octets count octets e = omega (arith, e, length-unpack octets)

-- contents that are entered after their length
pub opened : (s t : State) (octets : List ℕ) (w : OutsideAddition) (i : State) (contents : Bits) → Took (Octets (settings_of s) octets) s.bits t.bits → t ≡ with_bits s t.bits → contents ≡ unpack octets
    → EntersContents contents t w i → OpensContents s w i
opened s t octets w i contents k e c h =
    let b : w.bits ≡ t.bits = ap (λ z. z.bits) h.waits in
    record {
      octets = octets;
      took = subst (λ z. Took (Octets (settings_of s) octets) s.bits z) (sym b) k;
      enters = subst (λ z. EntersContents (unpack octets) z w i) (e ∙ ap (λ z. with_bits s z) (sym b)) (subst (λ z. EntersContents z t w i) c h);
    }
