-- What a fresh encoder puts out is the bytes of what it presented.
use Rattle.std.proofs.Common.{◌≡◌, ◌≢◌, ◌⊎◌, inl, inr, refl, sym, ap, ap₂, ◌∙◌, subst, ℕ, true, false, List, [], Option, Some, None, Result, Ok, Err}
use Rattle.std.proofs.Math.Nat.{le_refl}
use Rattle.std.specs.Prelude.{IfOk, IfErr, Vec}
use Rattle.rasn_types.specs.Bits.{Bits}
use Rattle.rasn_types.specs.Variants.{variant_of}
use Rattle.rasn_types.specs.declared.types.Codec.{Codec}
use Rattle.rasn_types.specs.Values.{Value}
use Rattle.rasn_schema.specs.Schemas.{Schema}
use Rattle.rasn_schema.specs.Normal.{normal, AtDepths}
use Rattle.per_core.specs.Writers.{join}
use Rattle.per_core.specs.Canon.{canon, bytes, completed}
use Rattle.per_enc.specs.Rules.{fresh, Presents}
use Rattle.per_write.specs.Components.{Encoding}
use Rattle.per_write.specs.WriterState.{Frame, WriterState, view}
use Rattle.per_write.specs.Faults.{IsMemory, RefusesOutput, RefusesValue, Stands, output_fault}
use Rattle.per_core.specs.WritingFaults.{IsInValue}
use Rattle.per_core.specs.declared.encode_error.EncodeError.{EncodeError}
use Rattle.per_core.specs.declared.encode_error.EncodeErrorKind.{EncodeErrorKind}
use Rattle.per_core.specs.declared.encode_error.EncodeErrorKind.TheVariants.{AlreadyFailed, OutOfMemory}
use Rattle.rasn_per.specs.Calls.{Encoded}

join-nil : (o : Option Bits) → join [] o ≡ o
join-nil None = refl
join-nil (Some b) = refl

presented : (a : Codec) (x : Encoding) (s : Schema) (v : Value) (y : Encoding) (octets : List ℕ) → x ≡ fresh a → Presents x s v y → completed (view y.writer 0) ≡ Some octets → bytes (variant_of a) s v ≡ Some octets
unfolding bytes
presented a x s v y octets e h k =
    let f : Presents (fresh a) s v y = subst (λ (u : Encoding). Presents u s v y) e h in
    let w : view y.writer 0 ≡ join [] (canon (variant_of a) s v 0) = f.written.appended.written 0 (λ t. refl) in
    ap completed (sym (w ∙ join-nil (canon (variant_of a) s v 0))) ∙ k

unfailed : true ≡ false → ⊥
unfailed e = absurd (cc)

-- the fault of an encoder that hadn't failed is in the value
in_value : (k : EncodeErrorKind) (x : WriterState) (s : Schema) (v : Value) → x.failed ≡ false → Stands k x s v → IsInValue k s v
in_value AlreadyFailed x s v f h = absurd (unfailed (sym h ∙ f))
in_value _ x s v f h = h

-- what was put out after a value
pub written : {Z : Type 0} (a : Codec) (x : Encoding) (schema : ℕ → Schema) (levels : ℕ) (v : Value) (y : Encoding) (result : Result (Vec ℕ Z) EncodeError) → x ≡ fresh a
    → AtDepths schema levels (λ s. Presents x s (normal s v) y) → IfOk result (λ o. completed (view y.writer 0) ≡ Some o.items) → IfErr result (λ e. RefusesOutput e y.writer)
    → Encoded a schema levels v result
written a x schema levels v y (Ok o) e h k r = record {
  ok = record { at = λ n l. presented a x (schema n) (normal (schema n) v) y o.items e (h.at n l) k };
  err = tt;
  kind = tt;
  variant = tt;
}
written a x schema levels v y (Err f) e h k m =
    let w : Presents (fresh a) (schema levels) (normal (schema levels) v) y = subst (λ (u : Encoding). Presents u (schema levels) (normal (schema levels) v) y) e (h.at levels (le_refl levels)) in
    let closed : y.writer.scope.is_open ≡ false = ap (λ (s : Frame). s.is_open) w.written.beside in
    let memory : f.kind ≡ OutOfMemory = m.kind_is ∙ ap₂ output_fault w.written.left closed in
    record {
      ok = tt;
      err = λ n. absurd (n memory);
      kind = λ n. absurd (n memory);
      variant = m.codec_is ∙ w.written.same;
    }

-- where a fresh encoder refuses a value, it has no bytes
pub refused : {Z : Type 0} (a : Codec) (x : Encoding) (schema : ℕ → Schema) (levels : ℕ) (v : Value) (result : Result (Vec ℕ Z) EncodeError) (f : EncodeError) → x ≡ fresh a → result ≡ Err f
    → AtDepths schema levels (λ s. IsMemory f x.writer ⊎ RefusesValue f x.writer s (normal s v)) → Encoded a schema levels v result
unfolding bytes
refused a x schema levels v result f e g h = rw g (record {
  ok = tt;
  err = λ n. record { at = λ k l. none k n (h.at k l) };
  kind = λ n. record { at = λ k l. stands k n (h.at k l) };
  variant = of_codec (h.at levels (le_refl levels)) ∙ ap (λ (u : Encoding). u.writer.codec) e;
})
  where
    none : (k : ℕ) → f.kind ≢ OutOfMemory → IsMemory f x.writer ⊎ RefusesValue f x.writer (schema k) (normal (schema k) v) → bytes (variant_of a) (schema k) (normal (schema k) v) ≡ None
    none k n (inl m) = absurd (n m.kind_is)
    none k n (inr r) =
        let c : canon (variant_of x.writer.codec) (schema k) (normal (schema k) v) 0 ≡ None = r.none (ap (λ (u : Encoding). u.writer.failed) e) 0 in
        subst (λ z. completed (canon (variant_of z) (schema k) (normal (schema k) v) 0) ≡ None) (ap (λ (u : Encoding). u.writer.codec) e) (ap completed c)

    stands : (k : ℕ) → f.kind ≢ OutOfMemory → IsMemory f x.writer ⊎ RefusesValue f x.writer (schema k) (normal (schema k) v) → IsInValue f.kind (schema k) (normal (schema k) v)
    stands k n (inl m) = absurd (n m.kind_is)
    stands k n (inr r) = in_value f.kind x.writer (schema k) (normal (schema k) v) (ap (λ (u : Encoding). u.writer.failed) e) r.stands

    of_codec : IsMemory f x.writer ⊎ RefusesValue f x.writer (schema levels) (normal (schema levels) v) → f.codec ≡ x.writer.codec
    of_codec (inl m) = m.codec_is
    of_codec (inr r) = r.codec_is
