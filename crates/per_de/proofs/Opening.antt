-- What opening a record takes, and why it refuses.
use Rattle.std.proofs.Common.{◌≡◌, ◌⊎◌, inl, inr, refl, sym, ◌∙◌, ap, subst, ℕ, suc, ◌-◌, Bool, false, ◌++◌, length, arith, length-append}
use Rattle.std.specs.Prelude.{Result, Ok, Err}
use Rattle.rasn_schema.specs.Structures.{presence_bits, extended}
use Rattle.rasn_schema.specs.Normal.{additions_of, root_of}
use Rattle.rasn_schema.specs.Schemas.{Schema, Parts, listed, count as part_count}
use Rattle.rasn_schema.specs.Records.{record_at}
use Rattle.rasn_traits.specs.Calls.{Refuses}
use Rattle.per_core.specs.Basic.{ExtensionBit}
use Rattle.per_core.specs.Spellings.{Took}
use Rattle.per_core.proofs.TakenInTurn.{then_took, took_agree}
use Rattle.rasn_constraints.specs.Bounds.{count_of}
use Rattle.per_core.specs.declared.decode_error.DecodeError.{DecodeError}
use Rattle.per_core.specs.declared.decode_error.DecodeErrorKind.{DecodeErrorKind}
use Rattle.per_core.specs.declared.decode_error.DecodeErrorKind.TheVariants.{Incomplete, OutOfMemory}
use Rattle.per_decoding.specs.Faults.{Answered, Fault, refusal}
use Rattle.per_decoding.proofs.Scoping.Records.{flags_bits}
use Rattle.per_decoding.proofs.Scoping.Scopes.{bit_agree, took_record}
use Rattle.per_decoding.specs.Scopes.{Enters, Opens, OutsideRecord, is_extensible, outside_record, with_outside_record}
use Rattle.per_decoding.specs.State.{State, Spells, settings_of, with_bits, with_last}
use Rattle.per_core.specs.AdditionFaults.{extension_of}
use Rattle.per_decoding.specs.Sources.{span_of}
use Rattle.per_de.specs.Steps.{TakesExtensionBit, TakesPresences}
use Rattle.per_decoding.specs.declared.source.Span.{Span}
use Rattle.per_de.proofs.Calls.{refuses}

pub answered_ok : {T : Type 0} (taken : Result T DecodeErrorKind) (left : ℕ) (s : State) (v : T) (t : State) → Answered taken left s (Ok v) t → (taken ≡ Ok v) × (t ≡ with_last s left)
answered_ok (Ok w) left s v t a = let e = a.0 in let f : w ≡ v = cc in (ap Ok f, a.1)
answered_ok (Err k) left s v t a = let e = a.0 in absurd cc

pub answered_err : {T : Type 0} (taken : Result T DecodeErrorKind) (left : ℕ) (s : State) (e : DecodeError) (t : State) → Answered taken left s (Err e) t → (k : DecodeErrorKind) × (taken ≡ Err k) × (e ≡ refusal k s)
answered_err (Ok w) left s e t a = let i = a.0 in absurd cc
answered_err (Err k) left s e t a = (k, refl, let i = a.0 in cc)

-- the steps that open a record at s: its extension bit, and its presence bits
module _ (flag : Bool) (count : ℕ) (s t u : State) (m : ℕ) (b : Bool) (deeper : s.levels ≡ suc m) (start : t ≡ s) (bit : TakesExtensionBit flag t (Ok b) u) where
  bit_took : Took (ExtensionBit flag b) s.bits u.bits
  bit_took = subst (λ z. Took (ExtensionBit flag b) z.bits u.bits) start bit.0

  after_bit : u ≡ with_bits s u.bits
  after_bit = bit.1 ∙ ap (λ z. with_bits z u.bits) start

  -- a scope is entered with the presence bits that were taken
  pub opens_record : (c : Schema) (asked : Span) (v : State) (inside w : OutsideRecord) (i : State) → s.failed ≡ false → flag ≡ is_extensible c → count ≡ presence_bits (root_of c) → TakesPresences count u (Ok asked) v
      → inside ≡ record { levels = m; presences = span_of asked v.source.bits; extension = extension_of b; expected = part_count (additions_of c) } → Enters inside v w i → Opens c s w i
  opens_record c asked v inside w i live e n p is enters =
      let same : v ≡ with_bits s v.bits = p.1 ∙ ap (λ z. with_bits z v.bits) after_bit in
      let q = span_of asked u.source.bits in
      let source : v.source ≡ u.source = ap (λ z. z.source) p.1 in
      let within : OutsideRecord = record { levels = m; presences = q; extension = extension_of b; expected = part_count (additions_of c) } in
      let there : inside ≡ within = is ∙ ap (λ z. record { levels = m; presences = span_of asked z.bits; extension = extension_of b; expected = part_count (additions_of c) }) source in
      let joins : u.bits ≡ q ++ v.bits = p.0.joins ∙ ap (λ z. z ++ v.bits) p.0.spelled.1 in
      let taken : Took (ExtensionBit (is_extensible c) b) s.bits (q ++ v.bits) = subst (λ z. Took (ExtensionBit (is_extensible c) b) s.bits z) joins (subst (λ (z : Bool). Took (ExtensionBit z b) s.bits u.bits) e bit_took) in
      subst (λ z. Opens c s w z) (sym (enters.same ∙ ap (λ z. with_outside_record v z) there ∙ ap (λ z. with_outside_record z within) same)) (record {
        live = live;
        deeper = deeper;
        extends = b;
        taken = taken;
        presence_count = p.0.spelled.0 ∙ n;
        shows = refl;
        counts = refl;
        enters = record { waits = enters.waits ∙ ap (λ z. outside_record z) same; same = refl };
      })

  -- too few bits are left for a record's presence bits
  pub no_front : (parts additions : ℕ → Parts) (marker : Bool) (e : DecodeError) (v : State) → flag ≡ marker → count ≡ presence_bits (parts m) → TakesPresences count u (Err e) v
      → let c = record_at listed parts marker additions s.levels in (e ≡ refusal OutOfMemory s) ⊎ Refuses (Spells c) (Fault c) e s
  no_front parts additions marker e v f i h =
      let c = extended (parts m) marker (additions m) in
      inr (subst (λ l. Refuses (Spells (record_at listed parts marker additions l)) (Fault (record_at listed parts marker additions l)) e s) (sym deeper)
      (refuses c s (Incomplete (count_of (count - length u.bits))) e (h.1 ∙ ap (λ z. refusal (Incomplete (count_of (count - length u.bits))) z) after_bit) (inr (b, (u.bits, subst (λ (z : Bool). Took (ExtensionBit z b) s.bits u.bits) f bit_took, record { short = omega (arith, h.0, i); missing = ap (λ (n : ℕ). Incomplete (count_of (n - length u.bits))) i })))
      (λ w y d. let q = took_record (settings_of s) (parts m) marker (additions m) w s.bits y d in
      let g = took_agree (bit_agree marker b q.extends) (subst (λ (z : Bool). Took (ExtensionBit z b) s.bits u.bits) f bit_took) q.bit in
      let r = then_took (record { front = q.root.front; joins = q.root.joins; spelled = q.root.spelled.spelled }) in
      let z = flags_bits (settings_of s) (parts m) q.root.spelled.shown q.middle r.0 r.1 in
      absurd (omega (arith, i, h.0, z.2, ap length g.1, ap length z.1, length-append z.0 r.0)))))

-- no extension bit is left
pub no_bit : (parts additions : ℕ → Parts) (marker flag : Bool) (s t : State) (m : ℕ) (e : DecodeError) (u : State) → s.levels ≡ suc m → t ≡ s → flag ≡ marker → TakesExtensionBit flag t (Err e) u
    → let c = record_at listed parts marker additions s.levels in (e ≡ refusal OutOfMemory s) ⊎ Refuses (Spells c) (Fault c) e s
no_bit parts additions marker flag s t m e u deeper start f h =
    let k : TakesExtensionBit marker s (Err e) u = subst (λ (z : Bool). TakesExtensionBit z s (Err e) u) f (subst (λ z. TakesExtensionBit flag z (Err e) u) start h) in
    let c = extended (parts m) marker (additions m) in
    inr (subst (λ l. Refuses (Spells (record_at listed parts marker additions l)) (Fault (record_at listed parts marker additions l)) e s) (sym deeper)
    (refuses c s k.kind e k.is (inl k.because.0) (λ v y d. let q = took_record (settings_of s) (parts m) marker (additions m) v s.bits y d in k.because.1 q.extends q.middle q.bit)))
