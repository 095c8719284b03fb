-- Octets that are appended to a number, which none stands for from where 64 bits don't hold it (X.691 11.3, 11.7).
use Rattle.std.proofs.Common.{◌≡◌, refl, sym, subst, ℕ, ◌+◌, ◌*◌, ◌^◌, ◌<◌, ◌≤◌, List, [], ◌∷◌, ◌++◌, length, Option, Some, None, arith}
use Rattle.std.specs.Option.{SomeIff}
use Rattle.std.specs.Prelude.{Result, Ok, Err, IsErrAnd}
use Rattle.std.specs.Result.{OkIff, result_ok}
use Rattle.rasn_types.specs.Bits.{Bits, unsigned}
use Rattle.per_core.specs.Basic.{IsSemiConstrainedWhole, Octets}
use Rattle.per_core.specs.Spellings.{Settings, Took}
use Rattle.per_read.specs.Items.{Adds}
use Rattle.per_core.specs.BitFieldFaults.{IsOfBitField}
use Rattle.per_read.specs.ReaderState.{ReaderState}
use Rattle.per_core.specs.declared.decode_error.DecodeErrorKind.{DecodeErrorKind}
use Rattle.per_read.specs.SmallNumbers.{AppendsOctets, Means, MeansSince, OfIndex}
use Rattle.per_read.proofs.Naturals.{octets_natural, unsigned_more}

module _ (n r : Option ℕ) (o : ℕ) (small : o < 256) where
  -- after a number that is past 64 bits
  pub adds_past : n ≡ None → r ≡ None → Adds MeansSince n (o ∷ []) r
  adds_past e f = record {
    behind = λ start xs m. rw f (
        let u = unsigned_more xs o small in
        let k : 2 ^ 64 ≤ unsigned xs = subst (λ z. Means z xs) e m in
        let l : 2 ^ 64 ≤ unsigned (xs ++ o ∷ []) = omega arith in
        l);
  }

  -- after one that is so with any octet
  pub adds_beyond : (m : ℕ) → n ≡ Some m → r ≡ None → 2 ^ 64 ≤ m * 256 → Adds MeansSince n (o ∷ []) r
  adds_beyond m e f g = record {
    behind = λ start xs h. rw f (
        let u = unsigned_more xs o small in
        let k : m ≡ unsigned xs = subst (λ z. Means z xs) e h in
        let l : 2 ^ 64 ≤ unsigned (xs ++ o ∷ []) = omega arith in
        l);
  }

  -- and behind any other
  pub adds_octet : (m q : ℕ) → n ≡ Some m → q ≡ m * 256 → SomeIff r (q + o < 2 ^ 64) (q + o) → Adds MeansSince n (o ∷ []) r
  adds_octet m q e f h = record { behind = λ start xs i. go r h xs (subst (λ z. Means z xs) e i) }
    where
      go : (r : Option ℕ) → SomeIff r (q + o < 2 ^ 64) (q + o) → (xs : List ℕ) → m ≡ unsigned xs → Means r (xs ++ o ∷ [])
      go None h xs i = let u = unsigned_more xs o small in omega arith
      go (Some k) h xs i = let u = unsigned_more xs o small in omega arith

-- the number of all octets
pub index_of : (a : Settings) (s : Bits) (os : List ℕ) (r : Option ℕ) (t : Bits) → Took (Octets a os) s t → 0 < length os → Means r os → OfIndex (λ n. Took (IsSemiConstrainedWhole a n) s t) r
index_of a s os (Some n) t b some e = octets_natural a s os n t b some (sym e)
index_of a s os None t b some g = (unsigned os, g, octets_natural a s os (unsigned os) t b some refl)

-- a number, where 64 bits hold it
pub as_index : {E : Type 0} (P : ℕ → Type 0) (n : ℕ) (q : Result ℕ E) (r : Option ℕ) → P n → OkIff q (n < 2 ^ 64) n → r ≡ result_ok q → OfIndex P r
as_index P n (Ok x) r h i e = subst (λ o. OfIndex P o) (sym e) (subst P (sym i.1) h)
as_index P n (Err x) r h i e = subst (λ o. OfIndex P o) (sym e) (n, omega (arith, i), h)

-- a fact of the number that was read, from another
pub of_index : (P Q : ℕ → Type 0) (r : Option ℕ) → ((n : ℕ) → P n → Q n) → OfIndex P r → OfIndex Q r
of_index P Q (Some n) f h = f n h
of_index P Q None f h = (h.0, h.1, f h.0 h.2)

-- a call that appends nothing
pub none_appended : {n : ℕ} {before after : Option ℕ} {x y : ReaderState} (r : Result (Unit {0}) DecodeErrorKind) (k : DecodeErrorKind) → IsErrAnd r (λ e. e ≡ k) → y.options ≡ x.options →
    IsOfBitField (8 * n) x.bits k × (length x.bits < 8 * n) → AppendsOctets n before x r after y
none_appended (Ok v) k h e i = absurd h
none_appended {n} {x = x} (Err f) k h e i = record { ok = tt; err = subst (λ z. IsOfBitField (8 * n) x.bits z × (length x.bits < 8 * n)) (sym h) i; kept = e }
