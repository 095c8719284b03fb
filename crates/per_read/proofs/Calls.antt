-- What a call takes, by what the calls that it is made of took.
use Rattle.std.proofs.Common.{◌≡◌, ◌∙◌, ◌<◌, ◌≤◌, ◌⊎◌, ◌-◌, inl, inr, sym, ap, subst, refl, ℕ, Bool, nat_eq, List, [], ◌∷◌, ◌++◌, length, take, drop, length-take, arith}
use Rattle.std.specs.Prelude.{Option, Some, None, Result, Ok, Err, IsErrAnd, IfOk, IfErr, IfSome}
use Rattle.std.specs.Result.{result_ok}
use Rattle.std.proofs.lemmas.Bool.{cases_lt}
use Rattle.std.proofs.lemmas.List.{take-append-drop}
use Rattle.std.proofs.lemmas.Result.{IfOk-weaker, IfErr-weaker}
use Rattle.rasn_types.specs.Bits.{Bits}
use Rattle.rasn_types.specs.Bits as binary
use Rattle.rasn_constraints.specs.Bounds.{count_of, number_of}
use Rattle.per_core.specs.Basic.{bit}
use Rattle.per_core.specs.Spellings.{Settings, Spelling, BitField, Took, NoneIn}
use Rattle.per_core.proofs.TakenInTurn.{took_bit}
use Rattle.per_read.specs.Items.{TookItems, TakesItems}
use Rattle.per_core.specs.BitFieldFaults.{IsOfBitField}
use Rattle.per_read.specs.Kinds.{IsTested}
use Rattle.per_read.specs.ReaderState.{ReaderState, settings_of}
use Rattle.per_read.specs.Takes.{Reason, Takes}
use Rattle.per_core.specs.declared.decode_error.DecodeErrorKind.{DecodeErrorKind}
use Rattle.per_read.proofs.Fields.{field_wide, field_one}

module _ {T X : Type 0} {why : Reason} {form : Settings → X → Spelling} {of : (X → Type 0) → T → Type 0} {x y : ReaderState} where
  -- an answer
  pub answers : (v : T) → y.options ≡ x.options → of (λ w. Took (form (settings_of x) w) x.bits y.bits) v → Takes why form of x (Ok v) y
  answers v e h = record { ok = h; err = tt; kept = e }

  -- a refusal
  pub refuses : (k : DecodeErrorKind) → y.options ≡ x.options → why (settings_of x) x.bits (NoneIn (form (settings_of x)) x.bits) k → Takes why form of x (Err k) y
  refuses k e h = record { ok = tt; err = h; kept = e }

  -- a refusal that is handed on
  pub passes_on : (r : Result T DecodeErrorKind) (k : DecodeErrorKind) → IsErrAnd r (λ e. e ≡ k) → y.options ≡ x.options → why (settings_of x) x.bits (NoneIn (form (settings_of x)) x.bits) k → Takes why form of x r y
  passes_on (Ok v) k h e i = absurd h
  passes_on (Err f) k h e i = record { ok = tt; err = subst (λ z. why (settings_of x) x.bits (NoneIn (form (settings_of x)) x.bits) z) (sym h) i; kept = e }

  -- what the last call answers, after what the others took
  module _ {Z : Type 0} {because : Reason} {last : Settings → Z → Spelling} {is : (Z → Type 0) → T → Type 0} {m : ReaderState} where
    pub takes_last : {r : Result T DecodeErrorKind} → Takes because last is m r y → m.options ≡ x.options
        → ((v : T) → is (λ w. Took (last (settings_of m) w) m.bits y.bits) v → of (λ w. Took (form (settings_of x) w) x.bits y.bits) v)
        → ((k : DecodeErrorKind) → because (settings_of m) m.bits (NoneIn (last (settings_of m)) m.bits) k → why (settings_of x) x.bits (NoneIn (form (settings_of x)) x.bits) k)
        → Takes why form of x r y
    takes_last {r} a e f g = record { ok = IfOk-weaker r _ _ f a.ok; err = IfErr-weaker r _ _ g a.err; kept = a.kept ∙ e }

-- what isn't answered, where no error is made
pub if_none : {T E A : Type 0} (P : E → Type 0) (r : Result T E) {o : Option T} → o ≡ result_ok r → o ≡ None → IfErr r P → ((k : E) → P k → A) → A
if_none P (Ok v) e n h f = absurd (let i : Some v ≡ None = sym e ∙ n in cc)
if_none P (Err k) e n h f = f k h

-- what is answered without an error
pub if_some : {T E : Type 0} (P : T → Type 0) (r : Result T E) {o : Option T} → o ≡ result_ok r → IfOk r P → IfSome o P
if_some P (Ok v) e h = subst (λ o. IfSome o P) (sym e) h
if_some P (Err k) e h = subst (λ o. IfSome o P) (sym e) tt

module _ {C : Type 0} {holds : C → C → List ℕ → Type 0} {why : Reason} {form : Settings → List ℕ → Spelling} {before after : C} {x y : ReaderState} where
  pub answers_items : (n : ℕ) → y.options ≡ x.options → TookItems holds (form (settings_of x)) n before after x.bits y.bits → TakesItems holds why form before x (Ok n) after y
  answers_items n e h = record { ok = h; err = tt; kept = e }

  pub passes_on_items : (r : Result ℕ DecodeErrorKind) (k : DecodeErrorKind) → IsErrAnd r (λ e. e ≡ k) → y.options ≡ x.options → why (settings_of x) x.bits (NoneIn (form (settings_of x)) x.bits) k
      → TakesItems holds why form before x r after y
  passes_on_items (Ok v) k h e i = absurd h
  passes_on_items (Err f) k h e i = record { ok = tt; err = subst (λ z. why (settings_of x) x.bits (NoneIn (form (settings_of x)) x.bits) z) (sym h) i; kept = e }

  pub takes_last_items : {because : Reason} {last : Settings → List ℕ → Spelling} {m : ReaderState} {r : Result ℕ DecodeErrorKind} → TakesItems holds because last before m r after y → m.options ≡ x.options
      → ((n : ℕ) → TookItems holds (last (settings_of m)) n before after m.bits y.bits → TookItems holds (form (settings_of x)) n before after x.bits y.bits)
      → ((k : DecodeErrorKind) → because (settings_of m) m.bits (NoneIn (last (settings_of m)) m.bits) k → why (settings_of x) x.bits (NoneIn (form (settings_of x)) x.bits) k)
      → TakesItems holds why form before x r after y
  takes_last_items {r = r} a e f g = record { ok = IfOk-weaker r _ _ f a.ok; err = IfErr-weaker r _ _ g a.err; kept = a.kept ∙ e }

-- a call from where another one began
pub from_start : {T X : Type 0} {why : Reason} {form : Settings → X → Spelling} {of : (X → Type 0) → T → Type 0} {x m y : ReaderState} {r : Result T DecodeErrorKind}
    → m.bits ≡ x.bits → m.options ≡ x.options → Takes why form of m r y → Takes why form of x r y
from_start {why = why} {form} {of} {x} {m} {y} {r} e f h = subst (λ z. Takes why form of z r y) same h
  where
    same : m ≡ x
    same = ap (λ b. record { bits = b; options = m.options }) e ∙ ap (λ o. record { bits = x.bits; options = o }) f

-- a refusal that is handed on, as itself
pub errs : {T E : Type 0} (r : Result T E) (k : E) → IsErrAnd r (λ e. e ≡ k) → r ≡ Err k
errs (Ok v) k h = absurd h
errs (Err e) k h = ap Err h

-- too few bits, which tests show
pub of_short : {w : ℕ} {s : Bits} (k : DecodeErrorKind) → IsOfBitField w s k → IsTested k
of_short {w} {s} k h = subst IsTested (sym h.missing) (let some : 0 < number_of (count_of (w - length s)) = omega (arith, h.short) in some)

-- fields that aren't there
pub no_field_in : {w : ℕ} {s : Bits} → length s < w → NoneIn (BitField w) s
no_field_in h n t b = omega (arith, field_wide b)

pub too_short : {w : ℕ} {s : Bits} → NoneIn (BitField w) s → length s < w
too_short {w} {s} none = go (cases_lt (length s) w)
  where
    go : (length s < w) ⊎ (w ≤ length s) → length s < w
    go (inl h) = h
    go (inr h) = absurd (none (binary.number_of (take w s)) (drop w s) (record {
      front = take w s;
      joins = sym (take-append-drop w s);
      spelled = record { wide = length-take w s ∙ omega arith; means = refl };
    }))

-- a bit as a field
pub field_bit : {n : ℕ} {s t : Bits} → Took (BitField 1 n) s t → Took (bit (nat_eq n 1)) s t
field_bit {n} {s} {t} a = subst (λ z. Took (bit (nat_eq n 1)) z t) (sym (field_one a)) (took_bit (nat_eq n 1) t)

pub no_bit_in : {s : Bits} → NoneIn (BitField 1) s → NoneIn bit s
no_bit_in none b t h = none (binary.number_of h.front) t (record { front = h.front; joins = h.joins; spelled = record { wide = ap length h.spelled; means = refl } })

pub ended : {s : Bits} → NoneIn bit s → s ≡ []
ended {s} = go s
  where
    go : (s : Bits) → NoneIn bit s → s ≡ []
    go [] none = refl
    go (b ∷ t) none = absurd (none b t (took_bit b t))

pub begins : {b d : Bool} {s t : Bits} → Took (bit b) s t → b ≡ d → s ≡ d ∷ t
begins {t = t} h e = h.joins ∙ ap (λ z. z ++ t) h.spelled ∙ ap (λ z. z ∷ t) e

-- where something is answered, no reason is given
pub some_for : {T X : Type 0} (because why : Reason) (form : Settings → X → Spelling) (of : (X → Type 0) → T → Type 0) (x y : ReaderState) (r : Option T)
    → IfSome r (λ v. Takes because form of x (Ok v) y) → IfSome r (λ v. Takes why form of x (Ok v) y)
some_for because why form of x y None h = tt
some_for because why form of x y (Some v) h = record { ok = h.ok; err = tt; kept = h.kept }
