-- What each call reads, and why it refuses.
use Rattle.std.proofs.Common.{◌≡◌, ◌≤◌, ◌⊎◌, inl, inr, ℕ, Bool, true, false, [], length, refl, sym, ◌∙◌, ap, subst, ◌+◌, Option, Some, None, ℤ, arith, length-append}
use Rattle.std.specs.Prelude.{Result, Ok, Err, OnOk, OnErr, IfOk, IfErr, IsErrAnd}
use Rattle.std.proofs.lemmas.Result.{IfOk-weaker, IfErr-weaker}
use Rattle.rasn_types.specs.Alphabets.{char_width, visible}
use Rattle.rasn_types.specs.Bits.{Bits}
use Rattle.rasn_types.specs.Values.{Value, truth, nothing, whole}
use Rattle.rasn_constraints.specs.Bounds.{Bounds, Size, above, any_size, count_of}
use Rattle.rasn_schema.specs.Schemas
use Rattle.rasn_schema.specs.Structures.{tags_of}
use Rattle.rasn_schema.specs.Schemas.{Parts, Schema}
use Rattle.rasn_traits.specs.Calls.{Answers, Behaves, Reads, Refuses, freely_read, takes_none}
use Rattle.per_core.specs.Spellings.{Settings, Spelling, Took, NoneIn}
use Rattle.per_core.specs.Basic.{basic, basic_in, bit, IsNumberOf}
use Rattle.per_core.proofs.TakenInTurn.{took_map}
use Rattle.per_core.specs.declared.items.Item.TheVariants.{Bit, Character, Octet}
use Rattle.per_core.specs.SizeFaults.{IsOfList}
use Rattle.per_read.specs.Kinds.{Faulty}
use Rattle.per_core.specs.NumberFaults.{IsOfForm, IsOfNumber, IsOfOctets}
use Rattle.per_core.specs.declared.decode_error.DecodeError.{DecodeError}
use Rattle.per_core.specs.declared.decode_error.DecodeErrorKind.{DecodeErrorKind}
use Rattle.per_core.specs.declared.decode_error.DecodeErrorKind.TheVariants.{AlreadyFailed, ExceedsMaxLength}
use Rattle.per_core.specs.declared.decode_error.DecodeErrorKind.TheVariants.{ExceedsMaxParseDepth, Incomplete}
use Rattle.per_core.specs.declared.decode_error.DecodeErrorKind.TheVariants.{OutOfMemory, RealNotSupported}
use Rattle.per_read.specs.ReaderState.{ReaderState as Taking}
use Rattle.per_read.specs.Takes.{Reason, Takes}
use Rattle.per_read.proofs.Calls.{of_short}
use Rattle.per_read.proofs.OfFields.{constrained_tested, counted_items_tested, length_tested, marked_tested, unconstrained_tested}
use Rattle.per_read.proofs.OfLists.{opening_tested}
use Rattle.per_read.proofs.Refusals.{faulty_map}
use Rattle.per_decoding.proofs.DatesRead.{year_tested}
use Rattle.per_decoding.proofs.Enumerations.{places_tested}
use Rattle.per_core.specs.TimeFaults.{IsOfDayField}
use Rattle.per_decoding.proofs.Scoping.Spelled.{spelled}
use Rattle.per_decoding.specs.State.{State, Spells, reader_of, settings_of}
use Rattle.per_decoding.specs.Faults.{Answered, Fault, IsOf, refusal}
use Rattle.per_core.specs.ReadingFaults.{IsAt, IsOfHead, at_once}
use Rattle.per_decoding.specs.Rules.{plain_rules}
use Rattle.per_de.specs.Steps.{TakesBit}
use Rattle.per_decoding.proofs.Spans.{bit_lacking, none_left, with_rest}

-- no more bits are left after what was taken than before
pub no_more_left : {f : Spelling} {s t : Bits} → Took f s t → length t ≤ length s
no_more_left {t = t} a = omega (arith, ap length a.joins, length-append a.front t)

-- no kind that says something of bits says that the decoder had failed
form_failed : (a : Settings) (l u : Option ℤ) (s : Bits) → IsOfForm a l u s AlreadyFailed → ⊥
form_failed a None u s h = unconstrained_tested AlreadyFailed h
form_failed a (Some l) None s h = unconstrained_tested AlreadyFailed h
form_failed a (Some l) (Some u) s h = constrained_tested a (above l u + 1) s AlreadyFailed h

day_failed : (a : Settings) (s : Bits) → IsOfDayField a s AlreadyFailed → ⊥
day_failed a s (inl h) = year_tested a s AlreadyFailed h
day_failed a s (inr (inl (y, (m, b, h)))) = constrained_tested a 12 m AlreadyFailed h
day_failed a s (inr (inr (y, (m, b, (j, (n, c, h)))))) = constrained_tested a 31 n AlreadyFailed h

list_failed : (a : Settings) (e : Schema) (size : Size) (mark : Bool) (s : Bits) → IsOfList a size mark (basic a e) s AlreadyFailed → ⊥
list_failed a e size mark s (inl h) = opening_tested a size mark s AlreadyFailed h
list_failed a e size mark s (inr (inl h)) = length_tested AlreadyFailed h.1.2
list_failed a e size mark s (inr (inr h)) = let i : AlreadyFailed ≡ ExceedsMaxLength = h.0 in cc

head_failed : (a : Settings) (ps : Parts) (marker : Bool) (s : Bits) → IsOfHead a ps marker s AlreadyFailed → ⊥
head_failed a ps true s (inl h) = of_short AlreadyFailed h
head_failed a ps false s (inl h) = h
head_failed a ps marker s (inr h) = of_short AlreadyFailed h.1.2

-- a refusal
not_failed : (c : Schema) (a : Settings) (s : Bits) → IsAt a c s AlreadyFailed → ⊥
not_failed Schema.boolean a s h = of_short AlreadyFailed h
not_failed Schema.null a s h = h
not_failed (Schema.number bounds mark range) a s h =
    marked_tested (IsOfForm a bounds.low bounds.high) (IsOfOctets a) mark s AlreadyFailed (λ t x. form_failed a bounds.low bounds.high t x) (λ t x. unconstrained_tested AlreadyFailed x) h
not_failed (Schema.items r e ext) a s h = places_tested a r ext s AlreadyFailed h
not_failed (Schema.choice ps adds ext) a s h = places_tested a (length (tags_of ps)) ext s AlreadyFailed h
not_failed (Schema.octet_string size mark) a s h = counted_items_tested a size mark Octet s AlreadyFailed h
not_failed (Schema.bit_string size mark named) a s h = counted_items_tested a size mark Bit s AlreadyFailed h
not_failed (Schema.char_string alphabet size mark) a s h = counted_items_tested a size mark (Character (char_width a.variant alphabet)) s AlreadyFailed h
not_failed (Schema.text kind) a s h = unconstrained_tested AlreadyFailed h
not_failed Schema.identifier a s h = unconstrained_tested AlreadyFailed h
not_failed (Schema.time kind) a s h = counted_items_tested a any_size false (Character (char_width a.variant visible)) s AlreadyFailed h
not_failed Schema.date a s h = day_failed a s h
not_failed Schema.real a s h = h
not_failed (Schema.containing e) a s h = h
not_failed (Schema.list e size mark) a s h = list_failed a e size mark s h
not_failed (Schema.set_of e size mark) a s h = list_failed a e size mark s h
not_failed Schema.cut a s h = h
not_failed (Schema.sequence o ps marker qs) a s h = head_failed a ps marker s h
not_failed Schema.any a s h = unconstrained_tested AlreadyFailed h

of_state : (k : DecodeErrorKind) (c : Schema) (s : State) → IsAt (settings_of s) c s.bits k → IsOf k c s
of_state AlreadyFailed c s h = absurd (not_failed c (settings_of s) s.bits h)
of_state _ c s h = at_once h

pub refuses : (c : Schema) (s : State) (k : DecodeErrorKind) (e : DecodeError) → e ≡ refusal k s → IsAt (settings_of s) c s.bits k → NoneIn (basic (settings_of s) c) s.bits → Refuses (Spells c) (Fault c) e s
refuses c s k e i h none = record {
  nothing = λ v t a. none v t.bits a.took;
  stands = subst (λ z. Fault c z s) (sym i) (record { codec = refl; stands = of_state k c s h });
}

pub faulty : (c : Schema) (s : State) (k : DecodeErrorKind) (e : DecodeError) → e ≡ refusal k s
    → Faulty (IsAt (settings_of s) c s.bits) (NoneIn (basic (settings_of s) c) s.bits) k → (e ≡ refusal OutOfMemory s) ⊎ Refuses (Spells c) (Fault c) e s
faulty c s k e i (inl m) = inl (i ∙ ap (λ z. refusal z s) m)
faulty c s k e i (inr h) = inr (refuses c s k e i h.0 h.1)

-- BOOLEAN
pub reads_truth : (a : Settings) (b : Bool) {s t : Bits} → Took (bit b) s t → Took (basic a Schemas.boolean (truth b)) s t
unfolding basic_in
reads_truth a b h = took_map (λ p c i. record { of = b; is = refl; spelled = i }) h

pub no_truth : (a : Settings) {s : Bits} → NoneIn bit s → NoneIn (basic a Schemas.boolean) s
unfolding basic_in
no_truth a none v t h = none h.spelled.of t (record { front = h.front; joins = h.joins; spelled = h.spelled.spelled })

pub bool_answers : (s : State) (r : Result Bool DecodeError) (t : State) → s.failed ≡ false → TakesBit s r t → Reads (freely_read plain_rules) Schemas.boolean truth s r t
bool_answers s (Ok b) t live h = record {
  law = spelled live (reads_truth (settings_of s) b h.0) h.1;
  behaves = record { again = λ f. absurd cc; fails = tt; kept = ap (λ z. z.codec) h.1 };
}
bool_answers s (Err e) t live h = record {
  law = inr (refuses Schemas.boolean s (Incomplete (count_of 1)) e h.1 (bit_lacking h.0) (no_truth (settings_of s) (none_left h.0)));
  behaves = record { again = λ f. absurd cc; fails = ap (λ z. z.failed) h.2; kept = ap (λ z. z.codec) h.2 };
}

-- NULL
pub reads_nothing : (a : Settings) (s : Bits) → Took (basic a Schemas.null nothing) s s
unfolding basic_in
reads_nothing a s = record { front = []; joins = refl; spelled = record { of = tt; is = refl; spelled = refl } }

-- INTEGER
pub reads_whole : (a : Settings) (bounds : Bounds) (mark : Bool) (range : Bounds) (z : ℤ) (s t : Bits) → Took (IsNumberOf a bounds mark range z) s t
    → Took (basic a (Schemas.number bounds mark range) (whole z)) s t
unfolding basic_in
reads_whole a bounds mark range z s t h = took_map (λ p b i. record { of = z; is = refl; spelled = i }) h

whole_read : (a : Settings) (bounds : Bounds) (mark : Bool) (range : Bounds) (v : Value) (s t : Bits) → Took (basic a (Schemas.number bounds mark range) v) s t
    → (z : ℤ) × Took (IsNumberOf a bounds mark range z) s t
unfolding basic_in
whole_read a bounds mark range v s t h = (h.spelled.of, record { front = h.front; joins = h.joins; spelled = h.spelled.spelled })

pub faulty_whole : (a : Settings) (bounds : Bounds) (mark : Bool) (range : Bounds) (s : Bits) (k : DecodeErrorKind) → Faulty (IsOfNumber a bounds mark range s) (NoneIn (IsNumberOf a bounds mark range) s) k
    → Faulty (IsAt a (Schemas.number bounds mark range) s) (NoneIn (basic a (Schemas.number bounds mark range)) s) k
faulty_whole a bounds mark range s k = faulty_map k (λ h. h) (λ none v t b. let q = whole_read a bounds mark range v s t b in none q.0 t q.1)

-- after a refusal nothing is read, and the error says so
pub failed_refuses : (c : Schema) (s : State) (e : DecodeError) → e ≡ refusal AlreadyFailed s → s.failed ≡ true → Refuses (Spells c) (Fault c) e s
failed_refuses c s e i f = record {
  nothing = λ v t a. let l = a.live in let h : true ≡ false = sym f ∙ l in cc;
  stands = subst (λ z. Fault c z s) (sym i) (record { codec = refl; stands = f });
}

pub null_answers : (s : State) (r : Result (Unit {0}) DecodeError) → OnOk r (s.failed ≡ false) → IfErr r (λ e. e ≡ refusal AlreadyFailed s) → OnErr r (s.failed ≡ true)
    → Answers takes_none (Fault Schemas.null) (Spells Schemas.null) (λ u. nothing) s r s
null_answers s (Ok u) ok err failed = spelled ok (reads_nothing (settings_of s) s.bits) refl
null_answers s (Err e) ok err failed = inr (failed_refuses Schemas.null s e err failed)

-- REAL
pub real_refused : (s : State) (e : DecodeError) → e ≡ refusal RealNotSupported s → Refuses (Spells Schemas.real) (Fault Schemas.real) e s
unfolding basic_in
real_refused s e i = refuses Schemas.real s RealNotSupported e i tt (λ v t b. b.spelled)

-- at no level left no value of a deeper level is read
pub too_deep : (family : ℕ → Schema) (s : State) (e : DecodeError) (n : ℕ) → family 0 ≡ Schemas.cut → n ≡ 0 → e ≡ refusal ExceedsMaxParseDepth s
    → let c = family n in (e ≡ refusal OutOfMemory s) ⊎ Refuses (Spells c) (Fault c) e s
unfolding basic_in
too_deep family s e n h z i = subst (λ c. (e ≡ refusal OutOfMemory s) ⊎ Refuses (Spells c) (Fault c) e s) (sym (ap family z ∙ h)) (inr (refuses Schemas.cut s ExceedsMaxParseDepth e i tt (λ v t b. b.spelled)))

went : {T : Type 0} (s : State) (left : ℕ) (t : State) → s.failed ≡ false → (taken : Result T DecodeErrorKind) (result : Result T DecodeError) → Answered taken left s result t
    → Behaves (λ e s. e ≡ refusal AlreadyFailed s) (λ s. s.failed) (λ s. s.codec) s result t
went s left t live (Ok v) result a = record { again = λ h. absurd cc; fails = subst (λ r. OnErr r (t.failed ≡ true)) (sym a.0) tt; kept = ap (λ s. s.codec) a.1 }
went s left t live (Err k) result a = record { again = λ h. absurd cc; fails = subst (λ r. OnErr r (t.failed ≡ true)) (sym a.0) (ap (λ s. s.failed) a.1); kept = ap (λ s. s.codec) a.1 }

-- the law of such a call, where want of memory is told as it may be
answered : {T : Type 0} (memory : DecodeError → State → Type 0) (c : Schema) (value : T → Value) (s : State) (rest : Bits) (left : ℕ) (t : State) → s.failed ≡ false → left ≡ length rest
    → (taken : Result T DecodeErrorKind) (result : Result T DecodeError) → Answered taken left s result t
    → IfOk taken (λ v. Took (basic (settings_of s) c (value v)) s.bits rest) → IfErr taken (λ k. memory (refusal k s) s ⊎ Refuses (Spells c) (Fault c) (refusal k s) s)
    → Answers memory (Fault c) (Spells c) value s result t
answered memory c value s rest left t live l (Ok v) result a ok err =
    subst (λ r. Answers memory (Fault c) (Spells c) value s r t) (sym a.0)
    (subst (λ z. Spells c s (value v) z) (sym (a.1 ∙ with_rest s ok.front rest left ok.joins l)) (spelled live ok refl))
answered memory c value s rest left t live l (Err k) result a ok err = subst (λ r. Answers memory (Fault c) (Spells c) value s r t) (sym a.0) err

-- A call that takes what a form spells, and its answer: where the form is that of a schema, and each kind says something of it, the call
-- reads the schema.
module _ {T X : Type 0} {why : Reason} {form : Settings → X → Spelling} {of : (X → Type 0) → T → Type 0} (s : State) {x y : Taking} {left : ℕ} {t : State} {taken : Result T DecodeErrorKind} {result : Result T DecodeError} where
  pub reads : (c : Schema) (value : T → Value) → s.failed ≡ false → ((v : T) → of (λ w. Took (form (settings_of s) w) s.bits y.bits) v → Took (basic (settings_of s) c (value v)) s.bits y.bits)
      → x ≡ reader_of s → Takes why form of x taken y → left ≡ length y.bits → Answered taken left s result t
      → ((k : DecodeErrorKind) → why (settings_of s) s.bits (NoneIn (form (settings_of s)) s.bits) k → Faulty (IsAt (settings_of s) c s.bits) (NoneIn (basic (settings_of s) c) s.bits) k)
      → Reads plain_rules c value s result t
  reads c value live ok i g l a err =
      let h : Takes why form of (reader_of s) taken y = subst (λ z. Takes why form of z taken y) i g in
      record {
        law = answered (λ e s. e ≡ refusal OutOfMemory s) c value s y.bits left t live l taken result a (IfOk-weaker taken _ _ ok h.ok) (IfErr-weaker taken _ _ (λ k j. faulty c s k (refusal k s) refl (err k j)) h.err);
        behaves = went s left t live taken result a;
      }

  -- the same of a call that takes no memory
  pub reads_freely : (c : Schema) (value : T → Value) → s.failed ≡ false → ((v : T) → of (λ w. Took (form (settings_of s) w) s.bits y.bits) v → Took (basic (settings_of s) c (value v)) s.bits y.bits)
      → x ≡ reader_of s → Takes why form of x taken y → left ≡ length y.bits → Answered taken left s result t
      → ((k : DecodeErrorKind) → why (settings_of s) s.bits (NoneIn (form (settings_of s)) s.bits) k → IsAt (settings_of s) c s.bits k × NoneIn (basic (settings_of s) c) s.bits)
      → Reads (freely_read plain_rules) c value s result t
  reads_freely c value live ok i g l a err =
      let h : Takes why form of (reader_of s) taken y = subst (λ z. Takes why form of z taken y) i g in
      record {
        law = answered takes_none c value s y.bits left t live l taken result a (IfOk-weaker taken _ _ ok h.ok) (IfErr-weaker taken _ _ (λ k j. let r = err k j in inr (refuses c s k (refusal k s) refl r.0 r.1)) h.err);
        behaves = went s left t live taken result a;
      }

-- an answer that is made of another, and an error that is handed on
pub reads_ok : {T U : Type 0} {c : Schema} {value : T → Value} {made : U → Value} {s t : State} (v : T) (u : U) → made u ≡ value v → Reads plain_rules c value s (Ok v) t → Reads plain_rules c made s (Ok u) t
reads_ok {c = c} {s = s} {t = t} v u e a = record { law = subst (λ z. Spells c s z t) (sym e) a.law; behaves = record { again = a.behaves.again; fails = tt; kept = a.behaves.kept } }

pub reads_err : {T U : Type 0} {c : Schema} {value : T → Value} {made : U → Value} {s t : State} (e : DecodeError) (r : Result U DecodeError) → IsErrAnd r (λ f. f ≡ e) → Reads plain_rules c value s (Err e) t → Reads plain_rules c made s r t
reads_err e (Ok v) h a = absurd h
reads_err {c = c} {made = made} {s = s} {t = t} e (Err f) h a =
    subst (λ z. Reads plain_rules c made s (Err z) t) (sym h) (record { law = a.law; behaves = record { again = a.behaves.again; fails = a.behaves.fails; kept = a.behaves.kept } })
