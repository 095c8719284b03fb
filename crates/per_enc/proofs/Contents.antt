-- Octets that are to contain a value: how they are opened, refused and closed.
use Rattle.std.proofs.Common.{◌≡◌, refl, sym, ap, ap₂, ◌∙◌, arith, inl, subst, ℕ, Bool, true, false, Option, None}
use Rattle.std.specs.Prelude.{Result, Ok, Err}
use Rattle.rasn_types.specs.Bits.{Bits}
use Rattle.rasn_types.specs.Variants.{variant_of, Variant}
use Rattle.rasn_types.specs.Values.{Value}
use Rattle.rasn_types.specs.declared.types.Codec.{Codec}
use Rattle.rasn_schema.specs.Schemas.{Schema}
use Rattle.rasn_traits.specs.Calls.{Written}
use Rattle.rasn_traits.specs.Contents.{OpenedContents}
use Rattle.per_core.specs.Canon.{canon}
use Rattle.per_core.specs.Counts.{open_bits}
use Rattle.per_pieces.specs.Pieces.{unplaced}
use Rattle.per_write.specs.Components.{Encoding}
use Rattle.per_core.specs.declared.encode_error.EncodeError.{EncodeError}
use Rattle.per_core.specs.declared.encode_error.EncodeErrorKind.{EncodeErrorKind}
use Rattle.per_core.specs.declared.encode_error.EncodeErrorKind.TheVariants.{AlphabetConstraintNotSatisfied}
use Rattle.per_core.specs.declared.encode_error.EncodeErrorKind.TheVariants.{AlreadyFailed, Below}
use Rattle.per_core.specs.declared.encode_error.EncodeErrorKind.TheVariants.{IntegerTypeConversionFailed, OutOfMemory}
use Rattle.per_core.specs.declared.encode_error.EncodeErrorKind.TheVariants.{OutOfTurn, RealNotSupported}
use Rattle.per_core.specs.declared.encode_error.EncodeErrorKind.TheVariants.{SizeConstraintNotSatisfied}
use Rattle.per_core.specs.declared.encode_error.EncodeErrorKind.TheVariants.{TooManyAdditions}
use Rattle.per_core.specs.declared.encode_error.EncodeErrorKind.TheVariants.{ValueConstraintNotSatisfied}
use Rattle.per_core.specs.declared.encode_error.EncodeErrorKind.TheVariants.{VariantNotInChoice, WrongKind}
use Rattle.per_core.specs.WritingFaults.{in_contents}
use Rattle.per_write.specs.Faults.{IsMemory, RefusesValue, Stands}
use Rattle.per_write.specs.Rules.{encoder_rules}
use Rattle.per_write.specs.WriterState.{empty_scope, Presents, Puts, WriterState, view}
use Rattle.per_write.specs.Unplaced.{BeginsUnplaced, OutsideUnplaced}
use Rattle.per_write.proofs.Refusing.{no_contents}
use Rattle.per_write.proofs.Writing.{wrote_same}
use Rattle.per_pieces.specs.Turns.{awaits, counts, Enclosing}
use Rattle.per_enc.specs.Rules.{encoding_rules, noting}
use Rattle.per_enc.specs.Scopes.{OpensContents}
use Rattle.per_enc.proofs.ChoiceScopes.{from_start}
use Rattle.per_enc.proofs.AroundSets.{memory_noted}
use Rattle.per_enc.proofs.Noting.{refuses_noted}

-- X.691 11.2: the octets that contain a value
contents_form : (a : Variant) (s : Schema) (v : Value) (p : ℕ) → open_bits a (canon a s v 0) p ≡ canon a (Schema.containing s) v p
unfolding canon
contents_form a s v p = refl

-- a fault of what is contained is one of what contains it
stands_in_contents : (kind : EncodeErrorKind) (x i : WriterState) (s : Schema) (v : Value) → i.failed ≡ false → Stands kind i s v → Stands kind x (Schema.containing s) v
stands_in_contents (ValueConstraintNotSatisfied told) x i s v f t = in_contents t
stands_in_contents IntegerTypeConversionFailed x i s v f t = in_contents t
stands_in_contents AlreadyFailed x i s v f t = absurd cc
stands_in_contents (SizeConstraintNotSatisfied told) x i s v f t = in_contents t
stands_in_contents AlphabetConstraintNotSatisfied x i s v f t = in_contents t
stands_in_contents VariantNotInChoice x i s v f t = absurd t
stands_in_contents RealNotSupported x i s v f t = in_contents t
stands_in_contents TooManyAdditions x i s v f t = absurd t
stands_in_contents Below x i s v f t = in_contents t
stands_in_contents OutOfMemory x i s v f t = absurd t
stands_in_contents OutOfTurn x i s v f t = in_contents t
stands_in_contents WrongKind x i s v f t = in_contents t

refuses_contents : (e : EncodeError) (x i : WriterState) (s : Schema) (v : Value) → i.failed ≡ false → i.codec ≡ x.codec → RefusesValue e i s v → RefusesValue e x (Schema.containing s) v
refuses_contents e x i s v f c r = record {
  none = λ g p. (let a = variant_of x.codec in
      let n : canon a s v 0 ≡ None = ap (λ (b : Codec). canon (variant_of b) s v 0) (sym c) ∙ r.none f 0 in
      sym (contents_form a s v p) ∙ ap (λ (o : Option Bits). open_bits a o p) n ∙ no_contents a p);
  stands = stands_in_contents e.kind x i s v f r.stands;
  codec_is = r.codec_is ∙ c;
}

pub contents_opened : (x i : Encoding) (o : OutsideUnplaced) (set : Enclosing) → set ≡ (noting x).set → i.set ≡ counts (awaits 1) → BeginsUnplaced (noting x).writer o i.writer
    → OpenedContents encoding_rules OpensContents x (Ok (o, set)) i
contents_opened x i o set w n h =
    let f : i.writer.failed ≡ false = ap (λ (z : WriterState). z.failed) h.same ∙ h.begun in
    let c : i.writer.codec ≡ (noting x).writer.codec = ap (λ (z : WriterState). z.codec) h.same in (
      record { opened = h; waits = w; inside = n },
      record {
        room = λ e m. memory_noted e x (record { kind_is = m.kind_is; codec_is = m.codec_is ∙ c });
        of_contents = λ e s v r. refuses_noted e x (Schema.containing s) v (refuses_contents e (noting x).writer i.writer s v f c r);
      },
    )

-- what was written without a place is the value, from the start of an octet
contents : (x i j : WriterState) (o : OutsideUnplaced) (s : Schema) (v : Value) → BeginsUnplaced x o i → Presents i s v j → view j 0 ≡ canon (variant_of x.codec) s v 0
contents x i j o s v h w =
    let u : Presents (record x { pieces = unplaced; scope = empty_scope true }) s v j = subst (λ (z : WriterState). Presents z s v j) h.same w in
    u.appended.written 0 (λ e. absurd (let t : false ≡ true = e in cc)) ∙ from_start (canon (variant_of x.codec) s v) 0 (omega arith)

pub contents_closed : (x i j y : WriterState) (o : OutsideUnplaced) (s : Schema) (v : Value) (result : Result (Unit {0}) EncodeError) → BeginsUnplaced x o i → Presents i s v j
    → Puts IsMemory (open_bits (variant_of j.codec) (view j 0)) (record j { pieces = o.pieces; scope = o.scope }) result y → Written encoder_rules (Schema.containing s) v x result y
contents_closed x i j y o s v result h w c = go result puts
  where
    same : j.codec ≡ x.codec
    same = w.same ∙ ap (λ (z : WriterState). z.codec) h.same

    back : record j { pieces = x.pieces; scope = x.scope } ≡ x
    back = ap₂ (λ (f : Bool) (b : Codec). record { pieces = x.pieces; failed = f; codec = b; scope = x.scope }) (w.left ∙ sym h.begun) same

    puts : Puts IsMemory (open_bits (variant_of x.codec) (view j 0)) x result y
    puts = subst (λ (b : Codec). Puts IsMemory (open_bits (variant_of b) (view j 0)) x result y) same
        (subst (λ (z : WriterState). Puts IsMemory (open_bits (variant_of j.codec) (view j 0)) z result y) back
        (subst (λ (q : OutsideUnplaced). Puts IsMemory (open_bits (variant_of j.codec) (view j 0)) (record j { pieces = q.pieces; scope = q.scope }) result y) h.waits c))

    go : (r : Result (Unit {0}) EncodeError) → Puts IsMemory (open_bits (variant_of x.codec) (view j 0)) x r y → Written encoder_rules (Schema.containing s) v x r y
    go (Ok u) q =
        let a = variant_of x.codec in
        wrote_same x y (open_bits a (view j 0)) (canon a (Schema.containing s) v) (λ p. ap (λ (b : Option Bits). open_bits a b p) (contents x i j o s v h w) ∙ contents_form a s v p) q.ok
    go (Err e) q = inl q.err
