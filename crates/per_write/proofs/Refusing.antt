-- Items that are refused, and the laws of the calls that write strings.
use Rattle.std.specs.Prelude.{OnOk, IfErr, Result, Ok, Err}
use Rattle.std.proofs.Common.{◌≡◌, ◌⊎◌, refl, sym, ap, ◌∙◌, subst, ℕ, zero, suc, ◌+◌, ◌-◌, ◌≤◌, Bool, true, false, ◌&&◌, ◌||◌, cond, ltb, ltb-true, List, [], ◌∷◌, length, take, drop, length-drop, arith, Option, Some, None, inl, inr}
use Rattle.std.proofs.lemmas.Bool.{ltb-false}
use Rattle.rasn_types.specs.Alphabets.{Alphabet, char_width}
use Rattle.rasn_types.specs.Bits.{Bits}
use Rattle.rasn_types.specs.Variants.{variant_of, Variant}
use Rattle.rasn_types.specs.Values.{Value, bits, characters, octets}
use Rattle.rasn_constraints.specs.Bounds.{allows, Size, any_size}
use Rattle.rasn_traits.specs.Calls.{Written}
use Rattle.per_write.specs.Rules.{encoder_rules}
use Rattle.rasn_schema.specs.Structures.{no_value}
use Rattle.rasn_schema.specs.Schemas.{Schema}
use Rattle.per_core.specs.Canon.{canon, char_writers, date_of}
use Rattle.per_core.specs.Counts.{constrained_whole, counted, ItemKind, counted_in, counted_under, determinant, in_fragments, is_aligned, marked_form, octet_items, open_bits, octet_writers, padding_if, fragment_sizes, bit_items, bit_writers, char_items}
use Rattle.per_core.specs.Writers.{Writer, go_on, one_by_one, just, padding, written_if, ◌▹◌}
use Rattle.per_core.specs.declared.encode_error.EncodeError.{EncodeError}
use Rattle.per_core.specs.declared.encode_error.EncodeErrorKind.{EncodeErrorKind}
use Rattle.per_core.specs.declared.encode_error.EncodeErrorKind.TheVariants.{AlphabetConstraintNotSatisfied, OutOfTurn}
use Rattle.per_core.specs.declared.encode_error.EncodeErrorKind.TheVariants.{RealNotSupported}
use Rattle.per_core.specs.declared.encode_error.EncodeErrorKind.TheVariants.{SizeConstraintNotSatisfied}
use Rattle.per_core.specs.WritingFaults.{at_once, OutsideSize, HasForeign}
use Rattle.per_write.specs.Faults.{IsError, IsMemory, RefusesValue, Stands}
use Rattle.per_write.specs.Items.{HasRefused, refused_after, refused_here, RefusesCounted, no_memory, wrong_count, wrong_item}
use Rattle.per_pieces.specs.Fragments.{one_fragment}
use Rattle.per_write.specs.WriterState.{WriterState, StateAppends}
use Rattle.per_pieces.proofs.Fragments.{first_fragment, length-octet_writers, fragments_of_few, fragments_of_many}
use Rattle.per_write.proofs.Steps.{length-bit_writers, length-char_writers}
use Rattle.per_pieces.proofs.Writing.{none_after}
use Rattle.per_write.proofs.Writing.{wrote_same}

none_one_by_one : (ws : List Writer) → HasRefused ws → (p : ℕ) → one_by_one ws p ≡ None
none_one_by_one [] h p = elim h [ ]
none_one_by_one (w ∷ ws) (refused_here h) p = ap (λ o. go_on o (one_by_one ws) p) (h p)
none_one_by_one (w ∷ ws) (refused_after h) p = none_after (w p) (one_by_one ws) p (λ q. none_one_by_one ws h q)

none_in_fragment : (a : Variant) (ws : List Writer) → HasRefused ws → (p : ℕ) → one_fragment a ws p ≡ None
none_in_fragment a ws h p = none_after ((padding a ▹ just (determinant (length ws))) p) (one_by_one ws) p (λ q. none_one_by_one ws h q)

in_part : (m : ℕ) (ws : List Writer) → HasRefused ws → HasRefused (take m ws) ⊎ HasRefused (drop m ws)
in_part zero ws h = inr h
in_part (suc m) [] h = elim h [ ]
in_part (suc m) (w ∷ ws) (refused_here h) = inl (refused_here h)
in_part (suc m) (w ∷ ws) (refused_after h) = elim (in_part m ws h) [ inl i ↦ inl (refused_after i) | inr i ↦ inr i ]

none_in_fragments : (k : ℕ) (a : Variant) (ws : List Writer) → length ws ≤ k → HasRefused ws → (p : ℕ) → in_fragments a (fragment_sizes (length ws)) ws p ≡ None
none_in_fragments zero a ws l h p = fragments_of_few a ws (omega arith) p ∙ none_in_fragment a ws h p
none_in_fragments (suc k) a ws l h p = go (ltb (length ws) 16384) refl (λ vs. none_in_fragments k a vs)
  where
    m : ℕ
    m = first_fragment (length ws)

    go : (few : Bool) → ltb (length ws) 16384 ≡ few → ((vs : List Writer) → length vs ≤ k → HasRefused vs → (q : ℕ) → in_fragments a (fragment_sizes (length vs)) vs q ≡ None) → in_fragments a (fragment_sizes (length ws)) ws p ≡ None
    go true e rest = fragments_of_few a ws (ltb-true (length ws) 16384 e) p ∙ none_in_fragment a ws h p
    go false e rest =
        let many : 16384 ≤ length ws = ltb-false (length ws) 16384 e in
        let d : length (drop m ws) ≡ length ws - m = length-drop m ws in
        fragments_of_many a ws m many refl p
        ∙ elim (in_part m ws h) [
          | inl i ↦ ap (λ o. go_on o (in_fragments a (fragment_sizes (length (drop m ws))) (drop m ws)) p) (none_in_fragment a (take m ws) i p)
          | inr i ↦ none_after (one_fragment a (take m ws) p) (in_fragments a (fragment_sizes (length (drop m ws))) (drop m ws)) p (λ q. rest (drop m ws) (omega arith) i q)
        ]

-- where an item is refused, nothing is written of all
none_counted_under : (a : Variant) (least most : Option ℕ) (kind : ItemKind) (ws : List Writer) → HasRefused ws → (p : ℕ) → counted_under a least most kind (length ws) ws p ≡ None
none_counted_under a None most kind ws h p = none_in_fragments (length ws) a ws (omega arith) h p
none_counted_under a (Some l) None kind ws h p = none_in_fragments (length ws) a ws (omega arith) h p
none_counted_under a (Some l) (Some u) kind ws h p = go (ltb u 65536)
  where
    begin : Writer
    begin = constrained_whole a (u - l + 1) (length ws - l)

    pads : Writer
    pads = padding_if (ltb 0 (length ws) && is_aligned kind l u) a

    go : (b : Bool) → cond b (begin ▹ pads ▹ one_by_one ws) (in_fragments a (fragment_sizes (length ws)) ws) p ≡ None
    go true = none_after (begin p) (pads ▹ one_by_one ws) p (λ q. none_after (pads q) (one_by_one ws) q (λ r. none_one_by_one ws h r))
    go false = none_in_fragments (length ws) a ws (omega arith) h p

none_written_if : (b : Bool) (w : Writer) (p : ℕ) → w p ≡ None → written_if b w p ≡ None
none_written_if true w p h = h
none_written_if false w p h = refl

pub none_counted : (a : Variant) (size : Size) (mark : Bool) (kind : ItemKind) (ws : List Writer) → HasRefused ws → (p : ℕ) → counted a size mark kind ws p ≡ None
none_counted a size mark kind ws h p = go mark (allows size (length ws))
  where
    inside : (s : Size) (q : ℕ) → counted_in a s kind ws q ≡ None
    inside s q = none_written_if (allows s (length ws)) (counted_under a s.least s.most kind (length ws) ws) q (none_counted_under a s.least s.most kind ws h q)

    go : (m t : Bool) → marked_form m t (counted_in a size kind ws) (counted_in a any_size kind ws) p ≡ None
    go false t = inside size p
    go true true = none_after (just (false ∷ []) p) (counted_in a size kind ws) p (inside size)
    go true false = none_after (just (true ∷ []) p) (counted_in a any_size kind ws) p (inside any_size)

-- a count outside a size that isn't extensible
pub none_outside : (a : Variant) (size : Size) (mark : Bool) (kind : ItemKind) (ws : List Writer) → mark ≡ false → allows size (length ws) ≡ false → (p : ℕ) → counted a size mark kind ws p ≡ None
none_outside a size true kind ws m h p = absurd cc
none_outside a size false kind ws m h p = ap (λ (b : Bool). written_if b (counted_under a size.least size.most kind (length ws) ws) p) h

-- what a call that writes counted items owes, where they are a value of a schema
module _ (x y : WriterState) (s : Schema) (v : Value) (size : Size) (mark : Bool) (kind : ItemKind) (fault : EncodeErrorKind → Type 0) (ws : List Writer)
    (same : (p : ℕ) → counted (variant_of x.codec) size mark kind ws p ≡ canon (variant_of x.codec) s v p)
    (of_count : (lower upper : Option ℕ) → mark ≡ false → OutsideSize size (length ws) (length ws) lower upper → Stands (SizeConstraintNotSatisfied (record { size = length ws; lower = lower; upper = upper })) x s v)
    (of_item : (k : EncodeErrorKind) → (mark || allows size (length ws)) ≡ true → fault k → Stands k x s v) where
  refuses_counted : (e : EncodeError) → RefusesCounted size mark fault ws e x → IsMemory e x ⊎ RefusesValue e x s v
  refuses_counted e (no_memory h) = inl h
  refuses_counted e (wrong_count {lower} {upper} m o h) = inr (record {
    none = λ f p. sym (same p) ∙ none_outside (variant_of x.codec) size mark kind ws m o.out_of_size p;
    stands = subst (λ k. Stands k x s v) (sym h.kind_is) (of_count lower upper m o);
    codec_is = h.codec_is;
  })
  refuses_counted e (wrong_item m h) = inr (record {
    none = λ f p. sym (same p) ∙ none_counted (variant_of x.codec) size mark kind ws h.refused p;
    stands = of_item e.kind m h.stands;
    codec_is = h.codec_is;
  })

  pub counted_law : (result : Result (Unit {0}) EncodeError) → OnOk result (StateAppends x (counted (variant_of x.codec) size mark kind ws) y) → IfErr result (λ e. RefusesCounted size mark fault ws e x) →
      Written encoder_rules s v x result y
  counted_law (Ok u) w h = wrote_same x y (counted (variant_of x.codec) size mark kind ws) (canon (variant_of x.codec) s v) same w
  counted_law (Err e) w h = refuses_counted e h

-- X.691 17: an OCTET STRING
octet_string_form : (a : Variant) (size : Size) (mark : Bool) (os : List ℕ) (p : ℕ) → counted a size mark octet_items (octet_writers os) p ≡ canon a (Schema.octet_string size mark) (octets os) p
unfolding canon
octet_string_form a size mark os p = refl

octet_count : (x : WriterState) (size : Size) (mark : Bool) (os : List ℕ) (lower upper : Option ℕ) → mark ≡ false → OutsideSize size (length (octet_writers os)) (length (octet_writers os)) lower upper →
    Stands (SizeConstraintNotSatisfied (record { size = length (octet_writers os); lower = lower; upper = upper })) x (Schema.octet_string size mark) (octets os)
octet_count x size true os lower upper m o = absurd cc
octet_count x size false os lower upper m o = at_once (subst (λ (n : ℕ). OutsideSize size n (length (octet_writers os)) lower upper) (length-octet_writers os) o)

pub octet_string_law : (x y : WriterState) (size : Size) (mark : Bool) (os : List ℕ) (result : Result (Unit {0}) EncodeError) →
    OnOk result (StateAppends x (counted (variant_of x.codec) size mark octet_items (octet_writers os)) y) → IfErr result (λ e. RefusesCounted size mark (λ k. ⊥) (octet_writers os) e x) →
    Written encoder_rules (Schema.octet_string size mark) (octets os) x result y
octet_string_law x y size mark os =
    counted_law x y (Schema.octet_string size mark) (octets os) size mark octet_items (λ k. ⊥) (octet_writers os) (octet_string_form (variant_of x.codec) size mark os) (octet_count x size mark os) (λ k m h. absurd h)

-- X.691 16: a BIT STRING
bit_string_form : (a : Variant) (size : Size) (mark named : Bool) (bs : Bits) (p : ℕ) → counted a size mark bit_items (bit_writers bs) p ≡ canon a (Schema.bit_string size mark named) (bits bs) p
unfolding canon
bit_string_form a size mark named bs p = refl

bit_count : (x : WriterState) (size : Size) (mark named : Bool) (bs : Bits) (lower upper : Option ℕ) → mark ≡ false → OutsideSize size (length (bit_writers bs)) (length (bit_writers bs)) lower upper →
    Stands (SizeConstraintNotSatisfied (record { size = length (bit_writers bs); lower = lower; upper = upper })) x (Schema.bit_string size mark named) (bits bs)
bit_count x size true named bs lower upper m o = absurd cc
bit_count x size false named bs lower upper m o = at_once (subst (λ (n : ℕ). OutsideSize size n (length (bit_writers bs)) lower upper) (length-bit_writers bs) o)

pub bit_string_law : (x y : WriterState) (size : Size) (mark named : Bool) (bs : Bits) (result : Result (Unit {0}) EncodeError) →
    OnOk result (StateAppends x (counted (variant_of x.codec) size mark bit_items (bit_writers bs)) y) → IfErr result (λ e. RefusesCounted size mark (λ k. ⊥) (bit_writers bs) e x) →
    Written encoder_rules (Schema.bit_string size mark named) (bits bs) x result y
bit_string_law x y size mark named bs =
    counted_law x y (Schema.bit_string size mark named) (bits bs) size mark bit_items (λ k. ⊥) (bit_writers bs) (bit_string_form (variant_of x.codec) size mark named bs) (bit_count x size mark named bs) (λ k m h. absurd h)

-- X.691 30.5: a known-multiplier string
char_string_form : (a : Variant) (alphabet : List ℕ) (size : Size) (mark : Bool) (cs : List ℕ) (p : ℕ) →
    counted a size mark (char_items (char_width a alphabet)) (char_writers a alphabet cs) p ≡ canon a (Schema.char_string alphabet size mark) (characters cs) p
unfolding canon
char_string_form a alphabet size mark cs p = refl

char_count : (x : WriterState) (a : Variant) (alphabet : List ℕ) (size : Size) (mark : Bool) (cs : List ℕ) (lower upper : Option ℕ) → mark ≡ false →
    OutsideSize size (length (char_writers a alphabet cs)) (length (char_writers a alphabet cs)) lower upper →
    Stands (SizeConstraintNotSatisfied (record { size = length (char_writers a alphabet cs); lower = lower; upper = upper })) x (Schema.char_string alphabet size mark) (characters cs)
char_count x a alphabet size true cs lower upper m o = absurd cc
char_count x a alphabet size false cs lower upper m o = at_once (subst (λ (n : ℕ). OutsideSize size n (length (char_writers a alphabet cs)) lower upper) (length-char_writers a alphabet cs) o)

char_foreign : (x : WriterState) (a : Variant) (alphabet : List ℕ) (size : Size) (mark : Bool) (cs : List ℕ) (k : EncodeErrorKind) → (mark || allows size (length (char_writers a alphabet cs))) ≡ true →
    (k ≡ AlphabetConstraintNotSatisfied) × HasForeign alphabet cs → Stands k x (Schema.char_string alphabet size mark) (characters cs)
char_foreign x a alphabet size mark cs k m h =
    subst (λ (q : EncodeErrorKind). Stands q x (Schema.char_string alphabet size mark) (characters cs)) (sym h.0)
    (at_once (subst (λ (n : ℕ). (mark || allows size n) ≡ true) (length-char_writers a alphabet cs) m, h.1))

pub char_string_law : (x y : WriterState) (alphabet : Alphabet) (own : List ℕ) (size : Size) (mark : Bool) (cs : List ℕ) (result : Result (Unit {0}) EncodeError) → alphabet.variant ≡ variant_of x.codec → alphabet.characters ≡ own →
    OnOk result (StateAppends x (counted (variant_of x.codec) size mark (char_items (char_width alphabet.variant alphabet.characters)) (char_writers alphabet.variant alphabet.characters cs)) y) →
    IfErr result (λ e. RefusesCounted size mark (λ k. (k ≡ AlphabetConstraintNotSatisfied) × HasForeign alphabet.characters cs) (char_writers alphabet.variant alphabet.characters cs) e x) →
    Written encoder_rules (Schema.char_string own size mark) (characters cs) x result y
char_string_law x y alphabet own size mark cs result v c w h =
    let a = alphabet.variant in
    let ds = alphabet.characters in
    subst (λ (os : List ℕ). Written encoder_rules (Schema.char_string os size mark) (characters cs) x result y) c
    (counted_law x y (Schema.char_string ds size mark) (characters cs) size mark (char_items (char_width a ds)) (λ k. (k ≡ AlphabetConstraintNotSatisfied) × HasForeign ds cs) (char_writers a ds cs)
    (λ p. subst (λ (b : Variant). counted (variant_of x.codec) size mark (char_items (char_width b ds)) (char_writers b ds cs) p ≡ canon (variant_of x.codec) (Schema.char_string ds size mark) (characters cs) p) (sym v) (char_string_form (variant_of x.codec) ds size mark cs p))
    (char_count x a ds size mark cs) (char_foreign x a ds size mark cs) result w h)

-- X.691 15: a REAL
pub real_refused : (e : EncodeError) (x : WriterState) → IsError RealNotSupported e x → (v : Value) → RefusesValue e x Schema.real v
unfolding canon
real_refused e x h v = record {
  none = λ f p. refl;
  stands = subst (λ k. Stands k x Schema.real v) (sym h.kind_is) (at_once tt);
  codec_is = h.codec_is;
}

-- X.691 11.2: contents that have no encoding have none in octets
pub no_contents : (a : Variant) (p : ℕ) → open_bits a None p ≡ None
unfolding open_bits
no_contents a p = refl

-- X.680 25.6: what is absent has no encoding
pub none_of_absent : (a : Variant) (s : Schema) (p : ℕ) → canon a s no_value p ≡ None
unfolding canon date_of
none_of_absent a Schema.boolean p = refl
none_of_absent a Schema.null p = refl
none_of_absent a Schema.real p = refl
none_of_absent a Schema.cut p = refl
none_of_absent a Schema.any p = refl
none_of_absent a (Schema.text kind) p = refl
none_of_absent a Schema.identifier p = refl
none_of_absent a (Schema.time kind) p = refl
none_of_absent a Schema.date p = refl
none_of_absent a (Schema.number bounds mark range) p = refl
none_of_absent a (Schema.items r e ext) p = refl
none_of_absent a (Schema.octet_string size mark) p = refl
none_of_absent a (Schema.bit_string size mark named) p = refl
none_of_absent a (Schema.char_string alphabet size mark) p = refl
none_of_absent a (Schema.containing e) p = ap (λ (o : Option Bits). open_bits a o p) (none_of_absent a e 0) ∙ no_contents a p
none_of_absent a (Schema.list e size mark) p = refl
none_of_absent a (Schema.set_of e size mark) p = refl
none_of_absent a (Schema.sequence o ps ext adds) p = refl
none_of_absent a (Schema.choice ps adds ext) p = refl

pub absent_refused : (e : EncodeError) (x : WriterState) → IsError OutOfTurn e x → (s : Schema) → RefusesValue e x s no_value
absent_refused e x h s = record {
  none = λ f p. none_of_absent (variant_of x.codec) s p;
  stands = subst (λ k. Stands k x s no_value) (sym h.kind_is) (at_once refl);
  codec_is = h.codec_is;
}
