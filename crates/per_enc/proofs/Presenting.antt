-- What the calls of an encoder present.
use Rattle.std.specs.Prelude.{OnOk, OnErr, IfErr, Result, Ok, Err, Bool}
use Rattle.std.proofs.Common.{◌≡◌, refl, sym, ap, ◌∙◌, subst, true, false, ℕ, List, [], ◌∷◌, Some, inl, inr, None, Option, ℤ, rules}
use Rattle.rasn_types.specs.Bits.{Bits}
use Rattle.rasn_types.specs.Variants.{variant_of, Variant}
use Rattle.rasn_types.specs.Values.{Value, truth, nothing, octets, whole}
use Rattle.rasn_types.specs.Contents.{is_text, other, TextKind}
use Rattle.rasn_constraints.specs.Bounds.{Bounds, holds, unbounded}
use Rattle.rasn_constraints.specs.Constraints.{bounds_in, bounds_of, is_marked}
use Rattle.rasn_constraints.specs.declared.constraints.Bounded.{Bounded}
use Rattle.rasn_constraints.specs.declared.constraints.Extensible.{Extensible}
use Rattle.rasn_schema.specs.Schemas.{Schema}
use Rattle.rasn_traits.specs.Calls.{Behaves, Written, Writes, without_memory}
use Rattle.per_core.specs.Counts.{number_form, number_under, unconstrained_octets}
use Rattle.per_core.specs.Writers.{Writer, join, just, written_if, ◌▹◌}
use Rattle.per_core.specs.Canon.{canon}
use Rattle.per_pieces.specs.Pieces.{Pieces, no_pieces, writer_of}
use Rattle.per_pieces.proofs.Placed.{appends_none}
use Rattle.per_core.specs.declared.encode_error.EncodeError.{EncodeError}
use Rattle.per_write.specs.Faults.{IsMemory, IsAlready, RefusesValue, Stands}
use Rattle.per_write.specs.Numbers.{unconstrained_whole}
use Rattle.per_write.specs.Rules.{encoder_rules}
use Rattle.per_write.specs.WriterState.{WriterState, StateAppends, Puts, Presents, view}
use Rattle.per_enc.specs.Integers.{IsBetween}
use Rattle.per_enc.specs.declared.integers.Between.{Between}

-- how a call behaves that an unfailed encoder makes
pub behaves : (x y : WriterState) (result : Result (Unit {0}) EncodeError) → x.failed ≡ false → OnErr result (y.failed ≡ true) → y.codec ≡ x.codec →
    Behaves IsAlready (λ (z : WriterState). z.failed) (λ (z : WriterState). z.codec) x result y
behaves x y result f e k = record { again = λ h. absurd cc; fails = e; kept = k }

written : (x y : WriterState) (w : Writer) (s : Schema) (v : Value) (result : Result (Unit {0}) EncodeError) → w ≡ canon (variant_of x.codec) s v → Puts IsMemory w x result y → Written encoder_rules s v x result y
written x y w s v (Ok u) c p = subst (λ (g : Writer). StateAppends x g y) c p.ok
written x y w s v (Err e) c p = inl p.err

-- a call that put a value's canonical bits, or found no memory
pub writes : (x y : WriterState) (w : Writer) (s : Schema) (v : Value) (result : Result (Unit {0}) EncodeError) → w ≡ canon (variant_of x.codec) s v → x.failed ≡ false → Puts IsMemory w x result y →
    Writes encoder_rules s v x result y
writes x y w s v result c f p = record { law = written x y w s v result c p; behaves = behaves x y result f p.fails p.kept }

-- an encoder that had been refused refuses again
pub refuses_again : (e : EncodeError) (x : WriterState) (s : Schema) (v : Value) → IsAlready e x → x.failed ≡ true → RefusesValue e x s v
refuses_again e x s v h f = record {
  none = λ g. absurd cc;
  stands = subst (λ k. Stands k x s v) (sym h.kind_is) f;
  codec_is = h.codec_is;
}

-- X.691 12: a BOOLEAN is one bit
pub boolean_bits : (a : Variant) (b : Bool) → just (b ∷ []) ≡ canon a Schema.boolean (truth b)
unfolding canon
boolean_bits a b = refl

-- X.691 13.2.4: without a constraint
unbounded_bits : (a : Variant) (range : Bounds) (z : ℤ) → unconstrained_whole a range z ≡ canon a (Schema.number unbounded false range) (whole z)
unfolding canon number_form number_under
unbounded_bits a range z = refl

pub unbounded_law : (x y : WriterState) (value : Option (Extensible (Bounded ℤ))) (range : Bounds) (z : ℤ) (result : Result (Unit {0}) EncodeError) → value ≡ None → x.failed ≡ false →
    Puts IsMemory (unconstrained_whole (variant_of x.codec) range z) x result y →
    Writes encoder_rules (Schema.number (bounds_in value) (is_marked value) range) (whole z) x result y
unbounded_law x y value range z result n f p =
    rw n (writes x y (unconstrained_whole (variant_of x.codec) range z) (Schema.number unbounded false range) (whole z) result (unbounded_bits (variant_of x.codec) range z) f p)

-- X.691 13.2: a number between two bounds
between_bits : (a : Variant) (b range : Bounds) (z : ℤ) → holds range z ≡ true → holds b z ≡ true → number_under a b.low b.high z ≡ canon a (Schema.number b false range) (whole z)
unfolding canon number_form
between_bits a b range z h k = sym (rw (h, k) refl)

pub between_presented : (x y : WriterState) (stated : Extensible (Bounded ℤ)) (range : Bounds) (z : ℤ) (b : Between) → IsBetween stated range z b →
    StateAppends x (number_under (variant_of x.codec) (Some b.lower) (Some b.upper) b.number) y → Presents x (Schema.number (bounds_of stated.constraint) stated.extensible range) (whole z) y
between_presented x y stated range z b i w =
    let bounds = bounds_of stated.constraint in
    let a = variant_of x.codec in
    let same : number_under a (Some b.lower) (Some b.upper) b.number ≡ number_under a bounds.low bounds.high z = rw (i.low, i.high, i.is) refl in
    rw i.unmarked (subst (λ (g : Writer). StateAppends x g y) (same ∙ between_bits a bounds range z i.held i.within) w)

-- X.691 13.2.4: a number without bounds
pub unbounded_presented : (x y : WriterState) (value : Option (Extensible (Bounded ℤ))) (range : Bounds) (z n : ℤ) → value ≡ None → n ≡ z → holds range z ≡ true →
    StateAppends x (number_under (variant_of x.codec) None None n) y → Presents x (Schema.number (bounds_in value) (is_marked value) range) (whole z) y
unbounded_presented x y value range z n none is h w =
    let a = variant_of x.codec in
    rw none (subst (λ (g : Writer). StateAppends x g y) (ap (number_under a None None) is ∙ between_bits a unbounded range z h refl) w)

-- X.691 11.2: octets of a type that isn't known
any_bits : (a : Variant) (os : List ℕ) → unconstrained_octets a os ≡ canon a Schema.any (octets os)
unfolding canon
any_bits a os = refl

pub any_law : (x y : WriterState) (taken os : List ℕ) (result : Result (Unit {0}) EncodeError) → taken ≡ os →
    x.failed ≡ false → Puts IsMemory (unconstrained_octets (variant_of x.codec) taken) x result y → Writes encoder_rules Schema.any (octets os) x result y
any_law x y taken os result t f p =
    writes x y (unconstrained_octets (variant_of x.codec) taken) Schema.any (octets os) result (ap (unconstrained_octets (variant_of x.codec)) t ∙ any_bits (variant_of x.codec) os) f p

-- X.691 30.6: octets of a text
text_bits : (a : Variant) (kind : TextKind) (os : List ℕ) → is_text kind os ≡ true → unconstrained_octets a os ≡ canon a (Schema.text kind) (octets os)
unfolding canon
text_bits a kind os h = ap (λ (b : Bool). written_if b (unconstrained_octets a os)) (sym h)

pub text_law : (x y : WriterState) (kind : TextKind) (taken os : List ℕ) (result : Result (Unit {0}) EncodeError) → taken ≡ os → is_text kind os ≡ true →
    x.failed ≡ false → Puts IsMemory (unconstrained_octets (variant_of x.codec) taken) x result y → Writes encoder_rules (Schema.text kind) (octets os) x result y
text_law x y kind taken os result t h f p =
    writes x y (unconstrained_octets (variant_of x.codec) taken) (Schema.text kind) (octets os) result (ap (unconstrained_octets (variant_of x.codec)) t ∙ text_bits (variant_of x.codec) kind os h) f p

-- any octets are a text of the other kinds
pub other_law : (x y : WriterState) (taken os : List ℕ) (result : Result (Unit {0}) EncodeError) → taken ≡ os →
    x.failed ≡ false → Puts IsMemory (unconstrained_octets (variant_of x.codec) taken) x result y → Writes encoder_rules (Schema.text other) (octets os) x result y
unfolding is_text
other_law x y taken os result t f p = text_law x y other taken os result t refl f p

-- X.691 18: a NULL is no bits
pub presents_null : (x : WriterState) → x.failed ≡ false → Presents x Schema.null nothing x
unfolding canon
presents_null x f = record { begun = f; left = f; same = refl; beside = refl; appended = appends_none x.pieces }

-- X.691 18: a NULL, where the encoder had not been refused
null_written : (x : WriterState) (result : Result (Unit {0}) EncodeError) → OnOk result (x.failed ≡ false) → IfErr result (λ e. IsAlready e x) → OnErr result (x.failed ≡ true) →
    Written (without_memory encoder_rules) Schema.null nothing x result x
null_written x (Ok u) h k f = presents_null x h
null_written x (Err e) h k f = inr (refuses_again e x Schema.null nothing k f)

pub null_law : (x : WriterState) (result : Result (Unit {0}) EncodeError) → OnOk result (x.failed ≡ false) → IfErr result (λ e. IsAlready e x) → OnErr result (x.failed ≡ true) →
    Writes (without_memory encoder_rules) Schema.null nothing x result x
null_law x result h k f = record { law = null_written x result h k f; behaves = search rules }

-- the first value of an encoder is alone
pub presents_first : (x y : WriterState) (s : Schema) (v : Value) → x.pieces ≡ no_pieces → Presents x s v y → view y 0 ≡ canon (variant_of x.codec) s v 0
presents_first x y s v e h =
    h.appended.written 0 (λ t. refl) ∙ ap (λ (z : Pieces). (writer_of z.list ▹ canon (variant_of x.codec) s v) 0) e ∙ alone (canon (variant_of x.codec) s v 0)
  where
    alone : (o : Option Bits) → join [] o ≡ o
    alone None = refl
    alone (Some b) = refl
