-- What the scope of a record presents, and how it refuses.
use Rattle.std.specs.Prelude.{Result, Ok, Err}
use Rattle.std.proofs.Common.{◌≡◌, refl, sym, ap, ap₂, ◌∙◌, ◌⊎◌, subst, inl, inr, ℕ, Bool, false, true, cond, List, [], ◌∷◌, ◌++◌, length, replicate, Option, Some, None, arith, append-nil, append_assoc, ◌+◌, ◌%◌, ◌<◌}
use Rattle.rasn_types.specs.Bits.{Bits}
use Rattle.rasn_types.specs.Variants.{variant_of, Variant}
use Rattle.rasn_types.specs.Values.{Value}
use Rattle.rasn_types.specs.declared.types.Codec.{Codec}
use Rattle.rasn_types.proofs.Values.{slots-as_slots}
use Rattle.rasn_schema.specs.Structures.{extended, presence_bits, record_value}
use Rattle.rasn_traits.specs.Additions.{PresentsAdditions, RefusesAdditions}
use Rattle.rasn_traits.specs.Calls.{Written}
use Rattle.rasn_schema.specs.Schemas.{listed, Schema, Parts, no_parts}
use Rattle.rasn_traits.specs.Scopes.{PresentsParts, PresentsFields, presents_fields, RefusesFields, refuses_root, refuses_after_root, Passes, OpenedToWrite}
use Rattle.per_core.specs.Canon.{canon, members, any_set, bitmap, bitmap_of, extension_bit, flags_of, bodies_of, opens_of, with_additions, record_of as record_writer}
use Rattle.per_core.specs.Writers.{Writer, just, ◌▹◌, join, go_on, after}
use Rattle.per_pieces.specs.Pieces.{Piece, bit, Pieces, MayBegin, bit_count, plain, set_bit, placed_bits, writer_of}
use Rattle.per_pieces.proofs.Placed.{set_seam, settle_plain}
use Rattle.per_core.specs.declared.encode_error.EncodeError.{EncodeError}
use Rattle.per_core.specs.declared.encode_error.EncodeErrorKind.{EncodeErrorKind}
use Rattle.per_core.specs.declared.encode_error.EncodeErrorKind.TheVariants.{SizeConstraintNotSatisfied}
use Rattle.per_core.specs.declared.encode_error.EncodeErrorKind.TheVariants.{ValueConstraintNotSatisfied}
use Rattle.per_core.specs.declared.encode_error.EncodeErrorKind.TheVariants.{AlphabetConstraintNotSatisfied}
use Rattle.per_core.specs.declared.encode_error.EncodeErrorKind.TheVariants.{IntegerTypeConversionFailed}
use Rattle.per_core.specs.declared.encode_error.EncodeErrorKind.TheVariants.{VariantNotInChoice, RealNotSupported}
use Rattle.per_core.specs.declared.encode_error.EncodeErrorKind.TheVariants.{TooManyAdditions, Below, AlreadyFailed}
use Rattle.per_core.specs.declared.encode_error.EncodeErrorKind.TheVariants.{OutOfMemory, OutOfTurn, WrongKind}
use Rattle.per_core.specs.WritingFaults.{HasPart, in_addition, in_part}
use Rattle.per_write.specs.Faults.{IsError, IsMemory, RefusesValue, Stands}
use Rattle.per_write.specs.Records.{AreGiven, ClosedAfter, ExtendedAfter, IsUngiven, ClosesOrNot, OpensOrNot, Opens as OpensRecord, to_be_given}
use Rattle.per_write.specs.Rules.{encoder_rules}
use Rattle.per_write.specs.WriterState.{Additions, Frame, WriterState, Presents}
use Rattle.per_enc.specs.Records.{after_marker, Opens, part_count}
use Rattle.per_enc.proofs.Chain.{Laid, Ready, end_of, laid, moved, parts_keep, refused_part}
use Rattle.per_enc.proofs.Extending.{GivenAll, Gathering, given_all, given_none, refused_addition}
use Rattle.per_write.proofs.Gathering.{AppendsAt, closed_form}
use Rattle.per_pieces.proofs.Writing.{none_after, then_nothing}

inside : {A : Type 0} {s t : A} → Some s ≡ Some t → s ≡ t
inside e = cc

join_nothing : (o : Option Bits) → join [] o ≡ o
join_nothing None = refl
join_nothing (Some b) = refl

-- nothing in front changes nothing
pub at_start : (g : Writer) (p : ℕ) → p < 8 → (just [] ▹ g) p ≡ g p
at_start g p h = let e : after p [] ≡ p = omega arith in ap (λ q. join [] (g q)) e ∙ join_nothing (g p)

-- X.691 19: a record: its presence bits, its components, and its additions
record_form : (a : Variant) (ps : Parts) (marker : Bool) (qs : Parts) (rs xs : List (Option Value)) (p : ℕ) →
    with_additions a marker (members a qs) xs (flags_of (members a ps) rs ▹ bodies_of (members a ps) rs) (bitmap_of (members a qs) xs) p ≡ canon a (extended ps marker qs) (record_value rs xs) p
unfolding canon record_writer
record_form a ps marker qs rs xs p = rw (slots-as_slots rs, slots-as_slots xs) refl

-- X.691 19: without an extension marker
plain_form : (a : Variant) (ps : Parts) (rs : List (Option Value)) (p : ℕ) →
    (just [] ▹ (flags_of (members a ps) rs ▹ bodies_of (members a ps) rs) ▹ just []) p ≡ canon a (extended ps false no_parts) (record_value rs []) p
unfolding canon record_writer bitmap_of
plain_form a ps rs p = rw (slots-as_slots rs) refl

-- a fault of a component is one of the record
pub stands_in : (kind : EncodeErrorKind) (x m : WriterState) (s : Schema) (v : Value) (ps : Parts) (marker : Bool) (qs : Parts) (rs xs : List (Option Value)) → m.failed ≡ false → HasPart s v ps rs ⊎ HasPart s v qs xs → Stands kind m s v →
    Stands kind x (extended ps marker qs) (record_value rs xs)
stands_in (ValueConstraintNotSatisfied told) x m s v ps marker qs rs xs f (inl h) k = in_part xs h k
stands_in IntegerTypeConversionFailed x m s v ps marker qs rs xs f (inl h) k = in_part xs h k
stands_in (SizeConstraintNotSatisfied told) x m s v ps marker qs rs xs f (inl h) k = in_part xs h k
stands_in AlphabetConstraintNotSatisfied x m s v ps marker qs rs xs f (inl h) k = in_part xs h k
stands_in RealNotSupported x m s v ps marker qs rs xs f (inl h) k = in_part xs h k
stands_in OutOfTurn x m s v ps marker qs rs xs f (inl h) k = in_part xs h k
stands_in WrongKind x m s v ps marker qs rs xs f (inl h) k = in_part xs h k
stands_in Below x m s v ps marker qs rs xs f (inl h) k = in_part xs h k
stands_in (ValueConstraintNotSatisfied told) x m s v ps marker qs rs xs f (inr h) k = in_addition rs h k
stands_in IntegerTypeConversionFailed x m s v ps marker qs rs xs f (inr h) k = in_addition rs h k
stands_in (SizeConstraintNotSatisfied told) x m s v ps marker qs rs xs f (inr h) k = in_addition rs h k
stands_in AlphabetConstraintNotSatisfied x m s v ps marker qs rs xs f (inr h) k = in_addition rs h k
stands_in RealNotSupported x m s v ps marker qs rs xs f (inr h) k = in_addition rs h k
stands_in OutOfTurn x m s v ps marker qs rs xs f (inr h) k = in_addition rs h k
stands_in WrongKind x m s v ps marker qs rs xs f (inr h) k = in_addition rs h k
stands_in Below x m s v ps marker qs rs xs f (inr h) k = in_addition rs h k
stands_in AlreadyFailed x m s v ps marker qs rs xs f h k = absurd cc
stands_in VariantNotInChoice x m s v ps marker qs rs xs f h k = absurd k
stands_in TooManyAdditions x m s v ps marker qs rs xs f h k = absurd k
stands_in OutOfMemory x m s v ps marker qs rs xs f h k = absurd k

-- the pieces in front of the presence bits
abbrev front_of : List Piece → Bool → List Piece
front_of ps false = ps
front_of ps true = ps ++ bit false ∷ []

kept_zeros : (n : ℕ) → plain (replicate n false) ≡ plain (replicate (n + 0) false) ++ []
kept_zeros n = ap (λ (i : ℕ). plain (replicate i false)) (let e : n ≡ n + 0 = omega arith in e) ∙ sym (append-nil (plain (replicate (n + 0) false)))

-- inside a record that is opened, its presence bits are still to be given
opened : (ps : Parts) (marker : Bool) (qs : Parts) {x i : WriterState} {o : Frame} → Opens (extended ps marker qs) x o i → Ready i x.codec (front_of x.pieces.list marker) [] (presence_bits ps + 0)
opened ps false qs {x} {i} h = record {
  unfailed = h.unfailed;
  same = h.same;
  list = ap (λ z. z.list) h.pieces ∙ ap (λ (qs : List Piece). x.pieces.list ++ qs) (kept_zeros (presence_bits ps));
  place = ap (λ z. z.place) h.place ∙ ap bit_count (append-nil x.pieces.list);
  left = ap (λ z. z.left) h.place ∙ omega arith;
}
opened ps true qs {x} {i} h = record {
  unfailed = h.unfailed;
  same = h.same;
  list = ap (λ z. z.list) h.pieces ∙ sym (append_assoc x.pieces.list (bit false ∷ []) (plain (replicate (presence_bits ps) false))) ∙ ap (λ (qs : List Piece). (x.pieces.list ++ bit false ∷ []) ++ qs) (kept_zeros (presence_bits ps));
  place = ap (λ z. z.place) h.place;
  left = ap (λ z. z.left) h.place ∙ omega arith;
}

-- after its root, its additions are still to be given
gathering : (ps qs : Parts) {x i m : WriterState} {o : Frame} (rs : List (Option Value)) → Opens (extended ps true qs) x o i → PresentsParts encoder_rules ps i rs m → Gathering m x.codec (to_be_given (bit_count x.pieces.list) (part_count qs)) (part_count qs)
gathering ps qs {x} {i} {m} rs h k =
    let l = laid ps i m x.codec rs (front_of x.pieces.list true) [] 0 (opened ps true qs h) k in
    record {
      unfailed = l.unfailed;
      same = l.same;
      keeps = parts_keep ps i m rs k ∙ h.keeps;
      left = omega arith;
    }

-- a root without encoding
pub root_none : (a : Variant) (ps : Parts) (marker : Bool) (qs : Parts) (rs xs : List (Option Value)) → ((p : ℕ) → bodies_of (members a ps) rs p ≡ None) → (p : ℕ) → canon a (extended ps marker qs) (record_value rs xs) p ≡ None
root_none a ps marker qs rs xs n p = sym (record_form a ps marker qs rs xs p) ∙ go (bitmap_of (members a qs) xs)
  where
    go : (o : Option Bits) → with_additions a marker (members a qs) xs (flags_of (members a ps) rs ▹ bodies_of (members a ps) rs) o p ≡ None
    go None = refl
    go (Some bs) = none_after (extension_bit marker (any_set bs) p) ((flags_of (members a ps) rs ▹ bodies_of (members a ps) rs) ▹ cond (any_set bs) (bitmap a bs ▹ opens_of a (members a qs) xs bs) (just [])) p
        (λ q. ap (λ o. go_on o (cond (any_set bs) (bitmap a bs ▹ opens_of a (members a qs) xs bs) (just [])) q) (none_after (flags_of (members a ps) rs q) (bodies_of (members a ps) rs) q n))

-- an addition without encoding
pub addition_none : (a : Variant) (ps : Parts) (marker : Bool) (qs : Parts) (rs xs : List (Option Value)) → ((bs : Bits) → bitmap_of (members a qs) xs ≡ Some bs → any_set bs ≡ true) →
    ((bs : Bits) → bitmap_of (members a qs) xs ≡ Some bs → (p : ℕ) → opens_of a (members a qs) xs bs p ≡ None) → (p : ℕ) → canon a (extended ps marker qs) (record_value rs xs) p ≡ None
addition_none a ps marker qs rs xs t n p = sym (record_form a ps marker qs rs xs p) ∙ go (bitmap_of (members a qs) xs) refl
  where
    inner : Writer
    inner = flags_of (members a ps) rs ▹ bodies_of (members a ps) rs

    go : (o : Option Bits) → bitmap_of (members a qs) xs ≡ o → with_additions a marker (members a qs) xs inner o p ≡ None
    go None e = refl
    go (Some bs) e = rw (t bs e) (none_after (extension_bit marker true p) (inner ▹ (bitmap a bs ▹ opens_of a (members a qs) xs bs)) p
        (λ q. none_after (inner q) (bitmap a bs ▹ opens_of a (members a qs) xs bs) q (λ r. none_after (bitmap a bs r) (opens_of a (members a qs) xs bs) r (n bs e))))

pub no_more_refused : {e : EncodeError} {x : WriterState} {xs : List (Option Value)} → RefusesAdditions encoder_rules e no_parts x xs → ⊥
no_more_refused c = elim c [ ]

refuses_record : (e : EncodeError) (x i : WriterState) (o : Frame) (ps : Parts) (marker : Bool) (qs : Parts) (rs xs : List (Option Value)) → (marker ≡ false → qs ≡ no_parts) → Opens (extended ps marker qs) x o i → RefusesFields encoder_rules e ps qs i rs xs →
    RefusesValue e x (extended ps marker qs) (record_value rs xs)
refuses_record e x i o ps marker qs rs xs w h (refuses_root k) =
    let d = refused_part e ps i x.codec rs (front_of x.pieces.list marker) [] 0 (opened ps marker qs h) k in
    record {
      none = λ f p. root_none (variant_of x.codec) ps marker qs rs xs d.none p;
      stands = stands_in e.kind x d.m d.s d.v ps marker qs rs xs d.unfailed (inl d.has) d.refused.stands;
      codec_is = d.refused.codec_is ∙ d.same;
    }
refuses_record e x i o ps true qs rs xs w h (refuses_after_root {m = m} c k) =
    let d = refused_addition e qs m x.codec xs (to_be_given (bit_count x.pieces.list) (part_count qs)) (gathering ps qs rs h c) k in
    record {
      none = λ f p. addition_none (variant_of x.codec) ps true qs rs xs d.set d.none p;
      stands = stands_in e.kind x d.m d.s d.v ps true qs rs xs d.unfailed (inr d.has) d.refused.stands;
      codec_is = d.refused.codec_is ∙ d.same;
    }
refuses_record e x i o ps false qs rs xs w h (refuses_after_root {m = m} c k) = absurd (no_more_refused (subst (λ (q : Parts). RefusesAdditions encoder_rules e q m xs) (w refl) k))

-- what passes out of a record that is opened
pub passes : (x i : WriterState) (o : Frame) (ps : Parts) (marker : Bool) (qs : Parts) → (marker ≡ false → qs ≡ no_parts) → Opens (extended ps marker qs) x o i → Passes encoder_rules listed ps marker qs x i
passes x i o ps marker qs w h = record {
  room = λ e m. record { kind_is = m.kind_is; codec_is = m.codec_is ∙ h.same };
  of_record = λ e rs xs n r. refuses_record e x i o ps marker qs rs xs w h r;
}

-- the root after what is in front of it
root_laid : {a : Variant} {x y : WriterState} {codec : Codec} {ps : Parts} {rs : List (Option Value)} {front : List Piece} → variant_of codec ≡ a → Laid x y codec ps rs front [] 0 → (p : ℕ) → MayBegin x.pieces p →
    AppendsAt p front (flags_of (members a ps) rs ▹ bodies_of (members a ps) rs) y.pieces.list
root_laid {y = y} {codec} {ps} {rs} {front} e l p u =
    let flags = flags_of (members (variant_of codec) ps) rs in
    let bodies = bodies_of (members (variant_of codec) ps) rs in
    let alone : front ++ (plain (l.flags ++ []) ++ []) ≡ front ++ plain l.flags = ap (λ (qs : List Piece). front ++ qs) (append-nil (plain (l.flags ++ [])) ∙ ap plain (append-nil l.flags)) in
    subst (λ (a : Variant). AppendsAt p front (flags_of (members a ps) rs ▹ bodies_of (members a ps) rs) y.pieces.list) e
    (l.written p u ∙ ap (λ (qs : List Piece). (writer_of qs ▹ bodies) p) alone
    ∙ sym (moved p front (plain l.flags) flags bodies (l.are_flags (after p (placed_bits front p)) ∙ ap Some (sym (settle_plain l.flags (after p (placed_bits front p)))))))

-- what was written after the pieces from before
pub presents_appended : (x z : WriterState) (s : Schema) (v : Value) (behind : List Piece) → x.failed ≡ false → z.failed ≡ false → z.codec ≡ x.codec → z.scope ≡ x.scope → z.pieces.list ≡ x.pieces.list ++ behind → z.pieces.placed ≡ x.pieces.placed →
    ((p : ℕ) → MayBegin x.pieces p → AppendsAt p x.pieces.list (canon (variant_of x.codec) s v) z.pieces.list) → Presents x s v z
presents_appended x z s v behind f g d u l m w = record { begun = f; left = g; same = d; beside = u; appended = record { behind = behind; list = l; place = m; written = w } }

-- where a record begins that is opened
opened_place : (ps : Parts) (marker : Bool) (qs : Parts) {x i : WriterState} {o : Frame} → Opens (extended ps marker qs) x o i → i.pieces.placed ≡ x.pieces.placed
opened_place ps marker qs h = ap (λ z. z.placed) h.pieces

-- a record without an extension marker whose components were presented
presents_plain : (x i j z : WriterState) (ps : Parts) (rs : List (Option Value)) → x.failed ≡ false → i.pieces.placed ≡ x.pieces.placed → Laid i j x.codec ps rs x.pieces.list [] 0 → z.pieces ≡ j.pieces → z.failed ≡ false → z.codec ≡ x.codec → z.scope ≡ x.scope
    → Presents x (extended ps false no_parts) (record_value rs []) z
presents_plain x i j z ps rs f m l e g d u =
    presents_appended x z (extended ps false no_parts) (record_value rs []) l.behind f g d u (ap (λ q. q.list) e ∙ l.list) (ap (λ q. q.placed) e ∙ l.steady ∙ m)
    (λ p b. ap (λ q. writer_of q.list p) e ∙ root_laid refl l p (λ t. b (sym m ∙ t))
    ∙ ap (join (placed_bits x.pieces.list p)) (all (end_of x p) (let n : (p + length (placed_bits x.pieces.list p)) % 8 < 8 = omega arith in n)))
  where
    root : Writer
    root = flags_of (members (variant_of x.codec) ps) rs ▹ bodies_of (members (variant_of x.codec) ps) rs

    all : (p : ℕ) → p < 8 → root p ≡ canon (variant_of x.codec) (extended ps false no_parts) (record_value rs []) p
    all p h = sym (then_nothing root p) ∙ sym (at_start (root ▹ just []) p h) ∙ plain_form (variant_of x.codec) ps rs p

closes_plain : (ps : Parts) (x i j y : WriterState) (rs : List (Option Value)) (o : Frame) (result : Result (Unit {0}) EncodeError) → Opens (extended ps false no_parts) x o i → PresentsParts encoder_rules ps i rs j → ClosesOrNot o j result y
    → Written encoder_rules (extended ps false no_parts) (record_value rs []) x result y
closes_plain ps x i j y rs o (Ok u) h k c =
    let l = laid ps i j x.codec rs x.pieces.list [] 0 (opened ps false no_parts h) k in
    let s = c.ok.same in
    let same : y.pieces ≡ j.pieces = subst (λ (q : Option Additions). ClosedAfter (variant_of j.codec) q j.pieces y.pieces) (parts_keep ps i j rs k ∙ h.keeps) c.ok.pieces in
    presents_plain x i j y ps rs h.begun (opened_place ps false no_parts h) l same (ap (λ z. z.failed) s ∙ l.unfailed) (ap (λ z. z.codec) s ∙ l.same) (ap (λ z. z.scope) s ∙ h.waits)
closes_plain ps x i j y rs o (Err d) h k c = refused c.err
  where
    l : Laid i j x.codec ps rs x.pieces.list [] 0
    l = laid ps i j x.codec rs x.pieces.list [] 0 (opened ps false no_parts h) k

    refused : IsMemory d j ⊎ (IsError OutOfTurn d j × IsUngiven j.scope) → Written encoder_rules (extended ps false no_parts) (record_value rs []) x (Err d) y
    refused (inl m) = inl (record { kind_is = m.kind_is; codec_is = m.codec_is ∙ l.same })
    refused (inr (e, inl s)) = let z = l.left in absurd (omega arith)
    refused (inr (e, inr n)) = absurd (n (subst AreGiven (sym (parts_keep ps i j rs k ∙ h.keeps)) tt))

-- what is after the pieces from before, where the additions were put after the root
pub extended_after : (a : Variant) (k : Additions) (there : Bool) (front root : List Piece) (j y : Pieces) → k.extension ≡ bit_count front → j.list ≡ (front ++ bit false ∷ []) ++ root → ExtendedAfter a k there j y →
    (behind : List Piece) × (y.list ≡ front ++ behind) × (y.placed ≡ j.placed)
extended_after a k false front root j y e l h = (bit false ∷ root, ap (λ q. q.list) h ∙ l ∙ append_assoc front (bit false ∷ []) root, ap (λ q. q.placed) h)
extended_after a k true front root j y e l h =
    let set : set_bit j.list k.extension true ≡ front ++ bit true ∷ root = ap₂ (λ (ps : List Piece) (i : ℕ). set_bit ps i true) (l ∙ append_assoc front (bit false ∷ []) root) e ∙ set_seam front root false true in
    ((bit true ∷ root) ++ h.behind, h.list ∙ ap (λ (ps : List Piece). ps ++ h.behind) set ∙ append_assoc front (bit true ∷ root) h.behind, h.place)

-- a record with an extension marker
closes_extended : (ps qs : Parts) (x i m j y : WriterState) (rs xs : List (Option Value)) (o : Frame) (result : Result (Unit {0}) EncodeError) → Opens (extended ps true qs) x o i → PresentsParts encoder_rules ps i rs m →
    PresentsAdditions encoder_rules qs m xs j → ClosesOrNot o j result y → Written encoder_rules (extended ps true qs) (record_value rs xs) x result y
closes_extended ps qs x i m j y rs xs o (Ok u) h k b c =
    let a = variant_of x.codec in
    let front = x.pieces.list in
    let l = laid ps i m x.codec rs (front ++ bit false ∷ []) [] 0 (opened ps true qs h) k in
    let g = given_all qs m j x.codec xs (to_be_given (bit_count front) (part_count qs)) (gathering ps qs rs h k) b in
    let s = c.ok.same in
    let inner = flags_of (members a ps) rs ▹ bodies_of (members a ps) rs in
    let place : m.pieces.placed ≡ x.pieces.placed = l.steady ∙ opened_place ps true qs h in
    let closed : ExtendedAfter a g.kept (any_set g.kept.flags) m.pieces y.pieces =
    subst (λ (z : Pieces). ClosedAfter a (Some g.kept) z y.pieces) g.pieces
    (subst (λ (q : Option Additions). ClosedAfter a q j.pieces y.pieces) g.gathering.keeps (subst (λ (e : Codec). ClosedAfter (variant_of e) j.scope.additions j.pieces y.pieces) g.gathering.same c.ok.pieces)) in
    let all = extended_after a g.kept (any_set g.kept.flags) front l.behind m.pieces y.pieces g.gathers.extension l.list closed in
    presents_appended x y (extended ps true qs) (record_value rs xs) all.0 h.begun (ap (λ z. z.failed) s ∙ g.gathering.unfailed) (ap (λ z. z.codec) s ∙ g.gathering.same) (ap (λ z. z.scope) s ∙ h.waits) all.1 (all.2 ∙ place)
    (λ p e. closed_form p a (members a qs) xs front l.behind m.pieces y.pieces (part_count qs) g.kept inner (λ t. e (sym place ∙ t)) g.gathers l.list (root_laid refl l p (λ t. e (sym (opened_place ps true qs h) ∙ t))) closed
    ∙ ap (join (placed_bits front p)) (record_form a ps true qs rs xs (end_of x p)))
closes_extended ps qs x i m j y rs xs o (Err d) h k b c = refused c.err
  where
    l : Laid i m x.codec ps rs (x.pieces.list ++ bit false ∷ []) [] 0
    l = laid ps i m x.codec rs (x.pieces.list ++ bit false ∷ []) [] 0 (opened ps true qs h) k

    g : GivenAll m j x.codec qs xs (to_be_given (bit_count x.pieces.list) (part_count qs))
    g = given_all qs m j x.codec xs (to_be_given (bit_count x.pieces.list) (part_count qs)) (gathering ps qs rs h k) b

    all : length g.kept.flags ≡ g.kept.count
    all = let e = g.gathering.left in omega arith

    refused : IsMemory d j ⊎ (IsError OutOfTurn d j × IsUngiven j.scope) → Written encoder_rules (extended ps true qs) (record_value rs xs) x (Err d) y
    refused (inl q) = inl (record { kind_is = q.kind_is; codec_is = q.codec_is ∙ g.gathering.same })
    refused (inr (e, inl s)) = let z = l.left in let p = ap (λ q. q.left) g.presences in absurd (omega arith)
    refused (inr (e, inr n)) = absurd (n (subst AreGiven (sym g.gathering.keeps) all))

pub closes_record : (ps : Parts) (marker : Bool) (qs : Parts) (x i j y : WriterState) (rs xs : List (Option Value)) (o : Frame) (result : Result (Unit {0}) EncodeError) → (marker ≡ false → qs ≡ no_parts) → Opens (extended ps marker qs) x o i →
    PresentsFields encoder_rules ps qs i rs xs j → ClosesOrNot o j result y → Written encoder_rules (extended ps marker qs) (record_value rs xs) x result y
closes_record ps true qs x i j y rs xs o result w h (presents_fields {m = m} k b) c = closes_extended ps qs x i m j y rs xs o result h k b c
closes_record ps false qs x i j y rs xs o result w h (presents_fields {m = m} k b) c =
    let n = given_none qs m j xs (parts_keep ps i m rs k ∙ h.keeps) b in
    subst (λ (q : Parts). Written encoder_rules (extended ps false q) (record_value rs xs) x result y) (sym (w refl))
    (subst (λ (zs : List (Option Value)). Written encoder_rules (extended ps false no_parts) (record_value rs zs) x result y) (sym n.0)
    (closes_plain ps x i j y rs o result h (subst (λ (z : WriterState). PresentsParts encoder_rules ps i rs z) (sym n.1) k) c))

-- nor was the encoder refused inside
pub not_failed_inside : (ps : Parts) (marker : Bool) (qs : Parts) (x i j : WriterState) (rs xs : List (Option Value)) (o : Frame) → Opens (extended ps marker qs) x o i → PresentsFields encoder_rules ps qs i rs xs j → j.failed ≡ true → ⊥
not_failed_inside ps true qs x i j rs xs o h (presents_fields {m = m} k b) f =
    let g = given_all qs m j x.codec xs (to_be_given (bit_count x.pieces.list) (part_count qs)) (gathering ps qs rs h k) b in
    let u = g.gathering.unfailed in absurd cc
not_failed_inside ps false qs x i j rs xs o h (presents_fields {m = m} k b) f =
    let l = laid ps i m x.codec rs x.pieces.list [] 0 (opened ps false qs h) k in
    let n = given_none qs m j xs (parts_keep ps i m rs k ∙ h.keeps) b in
    let u = l.unfailed in let e = ap (λ z. z.failed) n.1 in absurd cc

-- a record that is opened with as many presence bits and additions as its components have
pub opens_record : (parts : ℕ → Parts) (marker : Bool) (additions : ℕ → Parts) (count : ℕ) (behind : Option ℕ) (x i : WriterState) (result : Result Frame EncodeError) → ((n : ℕ) → count ≡ presence_bits (parts n)) →
    ((n : ℕ) → behind ≡ after_marker marker (part_count (additions n))) → (marker ≡ false → (n : ℕ) → additions n ≡ no_parts) → OpensOrNot count behind x result i → OpenedToWrite encoder_rules Opens listed parts marker additions x result i
opens_record parts marker additions count behind x i (Ok o) e d w c =
    λ n. let h = subst (λ k. OpensRecord k (after_marker marker (part_count (additions n))) x o i) (e n) (subst (λ b. OpensRecord count b x o i) (d n) c.ok) in
    (h, passes x i o (parts n) marker (additions n) (λ m. w m n) h)
opens_record parts marker additions count behind x i (Err d) e b w c = inl c.err
