-- Identifiers and times, as they are written or refused (X.691 24, 30).
use Rattle.std.specs.Prelude.{Result, Ok, Err, IsErrAnd}
use Rattle.std.proofs.Common.{◌≡◌, refl, sym, ap, ◌∙◌, subst, ℕ, Bool, true, false, List, inl, inr}
use Rattle.rasn_types.specs.Alphabets.{char_width, visible}
use Rattle.rasn_types.specs.Variants.{variant_of, Variant}
use Rattle.rasn_types.specs.Contents.{is_identifier, is_time, TimeKind}
use Rattle.rasn_types.specs.Values.{characters, octets}
use Rattle.rasn_constraints.specs.Bounds.{any_size}
use Rattle.rasn_schema.specs.Schemas.{Schema}
use Rattle.rasn_types.specs.Identifiers.{are_arcs, contents}
use Rattle.rasn_types.proofs.ContentsRead.{is_identifier-contents}
use Rattle.rasn_traits.specs.Calls.{Written}
use Rattle.rasn_traits.specs.Moments.{identifier_value}
use Rattle.per_core.specs.Canon.{canon, char_writers}
use Rattle.per_core.specs.Counts.{char_items, counted, counted_in, unconstrained_octets}
use Rattle.per_core.specs.Writers.{Writer, written_if}
use Rattle.per_core.specs.declared.encode_error.EncodeError.{EncodeError}
use Rattle.per_core.specs.declared.encode_error.EncodeErrorKind.TheVariants.{Below}
use Rattle.rasn_strings.specs.declared.time_error.TimeError.{TimeError}
use Rattle.rasn_strings.specs.declared.time_error.TimeError.TheVariants.{Unrepresentable}
use Rattle.per_write.specs.Characters.{text_characters}
use Rattle.per_core.specs.WritingFaults.{at_once}
use Rattle.per_write.specs.Faults.{IsError, IsMemory, RefusesValue, Stands}
use Rattle.per_write.specs.Items.{PutsItems, unconstrained_items}
use Rattle.per_enc.specs.Times.{Unwritten}
use Rattle.per_write.specs.Rules.{encoder_rules}
use Rattle.per_write.specs.WriterState.{WriterState, StateAppends, Puts}
use Rattle.per_write.proofs.Refusing.{none_counted}
use Rattle.per_write.proofs.Writing.{wrote_same}

-- a test passes whose failure would be a refusal of what was answered
pub passes_unless : {T E : Type 0} (b : Bool) (v : T) (e : E) → (b ≡ false → Ok v ≡ Err e) → b ≡ true
passes_unless true v e h = refl
passes_unless false v e h = let w : Ok v ≡ Err e = h refl in absurd cc

-- X.691 24: an OBJECT IDENTIFIER is its contents octets
identifier_bits : (a : Variant) (os : List ℕ) → is_identifier os ≡ true → unconstrained_octets a os ≡ canon a Schema.identifier (octets os)
unfolding canon
identifier_bits a os h = ap (λ (b : Bool). written_if b (unconstrained_octets a os)) (sym h)

pub identifier_law : (x y : WriterState) (arcs taken : List ℕ) (result : Result (Unit {0}) EncodeError) → taken ≡ contents arcs → are_arcs arcs ≡ true
    → Puts IsMemory (unconstrained_octets (variant_of x.codec) taken) x result y → Written encoder_rules Schema.identifier (identifier_value arcs) x result y
identifier_law x y arcs taken (Ok u) t l p =
    let h = ap (unconstrained_octets (variant_of x.codec)) t ∙ identifier_bits (variant_of x.codec) (contents arcs) (is_identifier-contents arcs ∙ l) in
    subst (λ (g : Writer). StateAppends x g y) h p.ok
identifier_law x y arcs taken (Err e) t l p = inl p.err

refused_identifier : (e : EncodeError) (x : WriterState) (os : List ℕ) → IsError Below e x → is_identifier os ≡ false → RefusesValue e x Schema.identifier (octets os)
unfolding canon
refused_identifier e x os h n = record {
  none = λ f p. ap (λ (b : Bool). written_if b (unconstrained_octets (variant_of x.codec) os) p) n;
  stands = subst (λ k. Stands k x Schema.identifier (octets os)) (sym h.kind_is) (at_once n);
  codec_is = h.codec_is;
}

pub identifier_refused : (e : EncodeError) (x : WriterState) (arcs : List ℕ) → IsError Below e x → are_arcs arcs ≡ false → RefusesValue e x Schema.identifier (identifier_value arcs)
identifier_refused e x arcs h n = refused_identifier e x (contents arcs) h (is_identifier-contents arcs ∙ n)

-- X.691 30: a time is the characters of its text
time_form : (a : Variant) (kind : TimeKind) (cs : List ℕ) → is_time kind cs ≡ true → (p : ℕ)
    → counted_in a any_size (char_items (char_width a visible)) (char_writers a visible cs) p ≡ canon a (Schema.time kind) (characters cs) p
unfolding canon
time_form a kind cs h p = ap (λ (b : Bool). written_if b (counted a any_size false (char_items (char_width a visible)) (char_writers a visible cs)) p) (sym h)

written_text : (x y : WriterState) (kind : TimeKind) (cs : List ℕ) (result : Result (Unit {0}) EncodeError) → is_time kind cs ≡ true
    → PutsItems (text_characters x.codec cs) unconstrained_items x result y → Written encoder_rules (Schema.time kind) (characters cs) x result y
written_text x y kind cs (Ok u) l p = wrote_same x y _ _ (time_form (variant_of x.codec) kind cs l) p.ok
written_text x y kind cs (Err e) l p = elim p.err [
  | inl m ↦ inl m
  | inr r ↦ inr (record {
    none = λ f p. let a = variant_of x.codec in sym (time_form a kind cs l p) ∙ none_counted a any_size false (char_items (char_width a visible)) (char_writers a visible cs) r.refused p;
    stands = subst (λ k. Stands k x (Schema.time kind) (characters cs)) (sym r.stands.0) (at_once r.stands.1);
    codec_is = r.codec_is;
  })
]

pub time_law : (x y : WriterState) (kind : TimeKind) (cs taken : List ℕ) (result : Result (Unit {0}) EncodeError) → taken ≡ cs → is_time kind cs ≡ true
    → PutsItems (text_characters x.codec taken) unconstrained_items x result y → Written encoder_rules (Schema.time kind) (characters cs) x result y
time_law x y kind cs taken result t l p = written_text x y kind cs result l (subst (λ (z : List ℕ). PutsItems (text_characters x.codec z) unconstrained_items x result y) t p)

pub time_refused : (e : EncodeError) (x : WriterState) (kind : TimeKind) (cs : List ℕ) → IsError Below e x → is_time kind cs ≡ false → RefusesValue e x (Schema.time kind) (characters cs)
unfolding canon
time_refused e x kind cs h n = record {
  none = λ f p. let a = variant_of x.codec in ap (λ (b : Bool). written_if b (counted a any_size false (char_items (char_width a visible)) (char_writers a visible cs)) p) n;
  stands = subst (λ k. Stands k x (Schema.time kind) (characters cs)) (sym h.kind_is) (at_once n);
  codec_is = h.codec_is;
}

-- a time whose text there isn't, or for want of memory isn't made
pub unwritten_law : {T : Type 0} (x y : WriterState) (kind : TimeKind) (cs : List ℕ) (lawful : Bool) (text : Result T TimeError) (e : EncodeError) (r : Result (Unit {0}) EncodeError) → IsErrAnd r (λ f. f ≡ e)
    → is_time kind cs ≡ lawful → (text ≡ Err Unrepresentable → lawful ≡ false) → Unwritten text e x → Written encoder_rules (Schema.time kind) (characters cs) x r y
unwritten_law x y kind cs lawful text e (Ok u) h i n w = absurd h
unwritten_law x y kind cs lawful text e (Err f) h i n (inl m) = inl (subst (λ z. IsMemory z x) (sym h) m)
unwritten_law x y kind cs lawful text e (Err f) h i n (inr p) = inr (subst (λ z. RefusesValue z x (Schema.time kind) (characters cs)) (sym h) (time_refused e x kind cs p.0 (i ∙ n p.1)))
