-- What a writer puts where a value begins is a value of the encoder.
use Rattle.std.specs.Prelude.{OnOk, OnErr, IfErr, Bool, Result, Ok, Err}
use Rattle.std.proofs.Common.{◌≡◌, sym, ap, ◌∙◌, subst, inl, inr, true, false}
use Rattle.rasn_types.specs.Variants.{variant_of}
use Rattle.rasn_types.specs.Values.{Value, nothing}
use Rattle.rasn_types.specs.declared.types.Codec.{Codec}
use Rattle.rasn_schema.specs.Schemas.{Schema}
use Rattle.rasn_traits.specs.Calls.{Behaves, without_memory, Written, Writes}
use Rattle.per_core.specs.Canon.{canon}
use Rattle.per_write.specs.Components.{Encoding}
use Rattle.per_core.specs.declared.encode_error.EncodeError.{EncodeError}
use Rattle.per_core.specs.declared.encode_error.EncodeErrorKind.{EncodeErrorKind}
use Rattle.per_core.specs.declared.encode_error.EncodeErrorKind.TheVariants.{SizeConstraintNotSatisfied}
use Rattle.per_core.specs.declared.encode_error.EncodeErrorKind.TheVariants.{ValueConstraintNotSatisfied}
use Rattle.per_core.specs.declared.encode_error.EncodeErrorKind.TheVariants.{AlphabetConstraintNotSatisfied}
use Rattle.per_core.specs.declared.encode_error.EncodeErrorKind.TheVariants.{IntegerTypeConversionFailed}
use Rattle.per_core.specs.declared.encode_error.EncodeErrorKind.TheVariants.{VariantNotInChoice, RealNotSupported}
use Rattle.per_core.specs.declared.encode_error.EncodeErrorKind.TheVariants.{TooManyAdditions, Below, AlreadyFailed}
use Rattle.per_core.specs.declared.encode_error.EncodeErrorKind.TheVariants.{OutOfMemory, OutOfTurn, WrongKind}
use Rattle.per_write.specs.Faults.{IsAlready, RefusesValue, Stands}
use Rattle.per_write.specs.Rules.{encoder_rules}
use Rattle.per_write.specs.WriterState.{Presents as PresentsIn, WriterState}
use Rattle.per_enc.specs.Laws.Relations.{noting_same}
use Rattle.per_enc.specs.Rules.{encoding_rules, noting}
use Rattle.per_enc.specs.ShortCalls.{PutsWhere}
use Rattle.per_enc.proofs.Presenting.{presents_null, refuses_again}

pub noting_codec : (x : Encoding) → (noting x).writer.codec ≡ x.writer.codec
noting_codec x = ap (λ (z : WriterState). z.codec) (noting_same x)

pub noting_failed : (x : Encoding) → (noting x).writer.failed ≡ x.writer.failed
noting_failed x = ap (λ (z : WriterState). z.failed) (noting_same x)

-- how a call behaves by which a value is begun, and one that had been refused
pub behaves_begun : {T : Type 0} {x y : Encoding} {result : Result T EncodeError} → x.writer.failed ≡ false → OnErr result (y.writer.failed ≡ true) → y.writer.codec ≡ x.writer.codec
    → Behaves encoding_rules.already encoding_rules.failed encoding_rules.codec x result y
behaves_begun f e k = record { again = λ q. absurd (let d : true ≡ false = sym q ∙ f in cc); fails = e; kept = k }

pub behaves_refused : {T : Type 0} {x y : Encoding} {e : EncodeError} → IsAlready e x.writer → x.writer.failed ≡ true → y ≡ x
    → Behaves {T = T} encoding_rules.already encoding_rules.failed encoding_rules.codec x (Err e) y
behaves_refused a f s = record { again = λ q. a; fails = ap (λ (z : Encoding). z.writer.failed) s ∙ f; kept = ap (λ (z : Encoding). z.writer.codec) s }

-- a fault stands alike in what failed alike
stands_alike : (kind : EncodeErrorKind) (x y : WriterState) (s : Schema) (v : Value) → x.failed ≡ y.failed → Stands kind x s v → Stands kind y s v
stands_alike AlreadyFailed x y s v f h = sym f ∙ h
stands_alike (SizeConstraintNotSatisfied told) x y s v f h = h
stands_alike (ValueConstraintNotSatisfied told) x y s v f h = h
stands_alike AlphabetConstraintNotSatisfied x y s v f h = h
stands_alike IntegerTypeConversionFailed x y s v f h = h
stands_alike VariantNotInChoice x y s v f h = h
stands_alike RealNotSupported x y s v f h = h
stands_alike TooManyAdditions x y s v f h = h
stands_alike Below x y s v f h = h
stands_alike OutOfMemory x y s v f h = h
stands_alike OutOfTurn x y s v f h = h
stands_alike WrongKind x y s v f h = h

-- a value is refused alike
pub refuses_alike : (e : EncodeError) (x y : WriterState) (s : Schema) (v : Value) → x.failed ≡ y.failed → x.codec ≡ y.codec → RefusesValue e x s v → RefusesValue e y s v
refuses_alike e x y s v f c h = record {
  none = λ g p. ap (λ (d : Codec). canon (variant_of d) s v p) (sym c) ∙ h.none (f ∙ g) p;
  stands = stands_alike e.kind x y s v f h.stands;
  codec_is = h.codec_is ∙ c;
}

pub refuses_noted : (e : EncodeError) (x : Encoding) (s : Schema) (v : Value) → RefusesValue e (noting x).writer s v → RefusesValue e x.writer s v
refuses_noted e x s v h = refuses_alike e (noting x).writer x.writer s v (noting_failed x) (noting_codec x) h

pub written_noted : (x y : Encoding) (s : Schema) (v : Value) (result : Result (Unit {0}) EncodeError) → Written encoder_rules s v (noting x).writer result y.writer → y.set ≡ (noting x).set → Written encoding_rules s v x result y
written_noted x y s v (Ok u) w e = record { written = w; set = e }
written_noted x y s v (Err d) (inl m) e = inl (record { kind_is = m.kind_is; codec_is = m.codec_is ∙ noting_codec x })
written_noted x y s v (Err d) (inr r) e = inr (refuses_noted d x s v r)

-- a call that puts a value where it begins
pub writes_noted : (x m y : Encoding) (s : Schema) (v : Value) (result : Result (Unit {0}) EncodeError) → m ≡ noting x → x.writer.failed ≡ false → Writes encoder_rules s v m.writer result y.writer → y.set ≡ m.set → Writes encoding_rules s v x result y
writes_noted x m y s v result e f w k = record {
  law = written_noted x y s v result (subst (λ (z : Encoding). Written encoder_rules s v z.writer result y.writer) e w.law) (k ∙ ap (λ (z : Encoding). z.set) e);
  behaves = behaves_begun f w.behaves.fails (w.behaves.kept ∙ ap (λ (z : Encoding). z.writer.codec) e ∙ noting_codec x);
}

-- where a value begins, nothing was refused
pub unfailed_noted : (x m : Encoding) → m ≡ noting x → x.writer.failed ≡ false → m.writer.failed ≡ false
unfailed_noted x m e f = ap (λ (z : Encoding). z.writer.failed) e ∙ noting_failed x ∙ f

-- a call of an encoder that had been refused
pub already_refused : (x y : Encoding) (s : Schema) (v : Value) (result : Result (Unit {0}) EncodeError) (e f : EncodeError) → result ≡ Err f → f ≡ e → IsAlready e x.writer → x.writer.failed ≡ true → y ≡ x → Writes encoding_rules s v x result y
already_refused x y s v result e f p q a h k =
    let b : IsAlready f x.writer = subst (λ (d : EncodeError). IsAlready d x.writer) (sym q) a in
    rw p (record {
      law = inr (refuses_again f x.writer s v b h);
      behaves = behaves_refused b h k;
    })

-- a call without an error that puts a value where it begins
pub puts_noted : (x m y : Encoding) (s : Schema) (v : Value) (suffices : Bool) → m ≡ noting x → x.writer.failed ≡ false → (suffices ≡ true → PresentsIn m.writer s v y.writer) → (suffices ≡ false → y.writer.failed ≡ true) →
    y.writer.codec ≡ m.writer.codec → y.set ≡ m.set → PutsWhere suffices s v x y
puts_noted x m y s v suffices e f p q k t = record {
  begun = f;
  put = λ h. record {
    written = subst (λ (z : Encoding). PresentsIn z.writer s v y.writer) e (p h);
    set = t ∙ ap (λ (z : Encoding). z.set) e;
  };
  fails = q;
  kept = k ∙ ap (λ (z : Encoding). z.writer.codec) e ∙ noting_codec x;
}

-- X.691 18: a NULL is no bits where it begins
pub null_noted : (x y : Encoding) (result : Result (Unit {0}) EncodeError) → OnOk result (x.writer.failed ≡ false) → OnOk result (y ≡ noting x) → IfErr result (λ e. IsAlready e x.writer) → OnErr result (x.writer.failed ≡ true) → OnErr result (y ≡ x)
    → Writes (without_memory encoding_rules) Schema.null nothing x result y
null_noted x y (Ok u) f e a g s = record {
  law = record {
    written = subst (λ (z : Encoding). PresentsIn (noting x).writer Schema.null nothing z.writer) (sym e) (presents_null (noting x).writer (noting_failed x ∙ f));
    set = ap (λ (z : Encoding). z.set) e;
  };
  behaves = behaves_begun f tt (ap (λ (z : Encoding). z.writer.codec) e ∙ noting_codec x);
}
null_noted x y (Err d) f e a g s = record {
  law = inr (refuses_again d x.writer Schema.null nothing a g);
  behaves = behaves_refused a g s;
}
