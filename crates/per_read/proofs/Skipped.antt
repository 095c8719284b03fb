-- Unknown additions are skipped one after another (X.691 19.9).
use Rattle.std.proofs.Common.{◌≡◌, sym, subst, inl, inr, List, [], ◌∷◌, Bool, true, false}
use Rattle.rasn_types.specs.Bits.{Bits}
use Rattle.per_core.specs.Basic.{Unknown}
use Rattle.per_core.specs.Spellings.{Settings, Took, NoneIn}
use Rattle.per_core.proofs.TakenInTurn.{then_took, took_agree, took_nothing, took_then}
use Rattle.per_core.proofs.Unique.{open_agree}
use Rattle.per_core.specs.AdditionFaults.{IsOfUnknown, skipped_unknown, skipped_open}
use Rattle.per_core.specs.BitFieldFaults.{IsOfUnconstrained}
use Rattle.per_core.specs.declared.decode_error.DecodeErrorKind.{DecodeErrorKind}

-- The additions from `start` on are those that were skipped and those from here.
pub record SkippedSoFar (a : Settings) (flags left : List Bool) (start here : Bits) : Type 0 where
  pub on : (t : Bits) → Took (Unknown a left) here t → Took (Unknown a flags) start t
  pub back : (t : Bits) → Took (Unknown a flags) start t → Took (Unknown a left) here t
  pub refusal : (k : DecodeErrorKind) → IsOfUnknown left a here k → IsOfUnknown flags a start k

pub skip_begins : (a : Settings) (flags : List Bool) (s : Bits) → SkippedSoFar a flags flags s s
skip_begins a flags s = record { on = λ t b. b; back = λ t b. b; refusal = λ k h. h }

module _ {a : Settings} {flags left : List Bool} {start here : Bits} (h : SkippedSoFar a flags left start here) where
  pub skip_ends : left ≡ [] → Took (Unknown a flags) start here
  skip_ends e = h.on here (subst (λ z. Took (Unknown a z) here here) (sym e) (took_nothing here))

module _ {a : Settings} {flags left rest : List Bool} {start here : Bits} (h : SkippedSoFar a flags left start here) where
  pub skip_absent : left ≡ false ∷ rest → SkippedSoFar a flags rest start here
  skip_absent e = record {
    on = λ t b. h.on t (subst (λ z. Took (Unknown a z) here t) (sym e) b);
    back = λ t b. subst (λ z. Took (Unknown a z) here t) e (h.back t b);
    refusal = λ k f. h.refusal k (subst (λ z. IsOfUnknown z a here k) (sym e) f);
  }

  pub skip_present : {m : Bits} → left ≡ true ∷ rest → Took (skipped_open a tt) here m → SkippedSoFar a flags rest start m
  skip_present {m} e o = record {
    on = λ t b. h.on t (subst (λ z. Took (Unknown a z) here t) (sym e) (took_then o b));
    back = λ t b.
        let q = then_took (subst (λ z. Took (Unknown a z) here t) e (h.back t b)) in
        subst (λ z. Took (Unknown a rest) z t) (took_agree (open_agree {P = Unit {0}} a (λ os. Unit {0}) (λ os. Unit {0}) (λ os x y. tt)) q.1 o).1 q.2;
    refusal = λ k f. h.refusal k (subst (λ z. IsOfUnknown z a here k) (sym e) (inr (m, o, f)));
  }

  pub skip_refused : (k : DecodeErrorKind) → left ≡ true ∷ rest → IsOfUnconstrained a 8 here k → IsOfUnknown flags a start k
  skip_refused k e f = h.refusal k (subst (λ z. IsOfUnknown z a here k) (sym e) (inl f))

  pub none_skipped : left ≡ true ∷ rest → NoneIn (skipped_open a) here → NoneIn (skipped_unknown flags a) start
  none_skipped e none u t b = let q = then_took (subst (λ z. Took (Unknown a z) here t) e (h.back t b)) in none tt q.0 q.1
