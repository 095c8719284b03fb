-- What a writer opens and closes is opened and closed by an encoder: what is kept of a SET around it waits.
use Rattle.std.specs.Prelude.{Result, Ok, Err}
use Rattle.std.proofs.Common.{◌≡◌, ◌∙◌, inl, inr, ℕ, Bool, List, ◌∷◌, Option, Some, None}
use Rattle.rasn_types.specs.Values.{Value}
use Rattle.rasn_constraints.specs.Bounds.{Size}
use Rattle.rasn_schema.specs.Structures.{record_value, extended}
use Rattle.rasn_schema.specs.Schemas.{listed, Schema, Parts}
use Rattle.rasn_traits.specs.Additions.{AdditionClosed, AdditionOpened, AdditionSkipped}
use Rattle.rasn_traits.specs.Bags.{BagOpened, MemberAwaited, WritesMember}
use Rattle.rasn_traits.specs.Calls.{Written}
use Rattle.rasn_traits.specs.Choices.{OpenedChoice}
use Rattle.rasn_traits.specs.Lists.{ElementAwaited, ListForm, ListOpened, WritesNext}
use Rattle.rasn_traits.specs.Scopes.{OpenedToWrite, Passes, PresentsFields}
use Rattle.per_write.specs.Additions.{OutsideAddition}
use Rattle.per_write.specs.Components.{Encoding}
use Rattle.per_core.specs.declared.encode_error.EncodeError.{EncodeError}
use Rattle.per_write.specs.declared.lists.UnwrittenElements.{UnwrittenElements}
use Rattle.per_write.specs.Faults.{IsMemory}
use Rattle.per_write.specs.Lists.{IsOpenList as IsOpenListIn}
use Rattle.per_write.specs.Rules.{encoder_rules}
use Rattle.per_write.specs.WriterState.{Frame, WriterState}
use Rattle.per_enc.specs.Bags.{IsOpenBag as IsOpenBagIn, OpenBag}
use Rattle.per_enc.specs.Choices.{OutsideChoice}
use Rattle.per_write.specs.Additions.{Opens as OpensOpenTypeIn}
use Rattle.per_pieces.specs.Turns.{awaits, counts, Enclosing, Turn, uncounted}
use Rattle.per_enc.specs.AlternativeCounts.{OpensChoice as OpensChoiceIn}
use Rattle.per_enc.specs.Records.{Opens as OpensIn}
use Rattle.per_enc.specs.Rules.{encoding_rules, noting}
use Rattle.per_enc.specs.Scopes.{IsOpenElements, IsOpenMembers, OpensChoice, OpensOpenType, OpensScope}
use Rattle.per_enc.proofs.NoOpenSet.{fields_inside, fields_refused, value_inside}
use Rattle.per_enc.proofs.Noting.{noting_codec, refuses_noted, written_noted}

pub memory_noted : (e : EncodeError) (x : Encoding) → IsMemory e (noting x).writer → IsMemory e x.writer
memory_noted e x m = record { kind_is = m.kind_is; codec_is = m.codec_is ∙ noting_codec x }

-- a SEQUENCE
passes_noted : (ps : Parts) (marker : Bool) (qs : Parts) (x i : Encoding) (t : Turn) → i.set ≡ counts t → Passes encoder_rules listed ps marker qs (noting x).writer i.writer → Passes encoding_rules listed ps marker qs x i
passes_noted ps marker qs x i t n p = record {
  room = λ e m. memory_noted e x (p.room e m);
  of_record = λ e rs xs c r. refuses_noted e x (extended ps marker qs) (record_value rs xs) (p.of_record e rs xs c (fields_refused e ps qs i rs xs n r));
}

pub sequence_opened : (turn : ℕ → Turn) (parts : ℕ → Parts) (marker : Bool) (additions : ℕ → Parts) (x i : Encoding) (o : Frame) (set : Enclosing) → set ≡ (noting x).set → ((k : ℕ) → i.set ≡ counts (turn k))
    → OpenedToWrite encoder_rules OpensIn listed parts marker additions (noting x).writer (Ok o) i.writer
    → (k : ℕ) → OpensScope (turn k) (extended (parts k) marker (additions k)) x (o, set) i × Passes encoding_rules listed (parts k) marker (additions k) x i
sequence_opened turn parts marker additions x i o set w n h =
    λ k. (record { opened = (h k).0; waits = w; inside = n k }, passes_noted (parts k) marker (additions k) x i (turn k) (n k) (h k).1)

pub sequence_closed : (t : Turn) (ps : Parts) (marker : Bool) (qs : Parts) (x i j y : Encoding) (rs xs : List (Option Value)) (o : Frame × Enclosing) (result : Result (Unit {0}) EncodeError) → y.set ≡ o.1
    → (PresentsFields encoder_rules ps qs i.writer rs xs j.writer → OpensIn (extended ps marker qs) (noting x).writer o.0 i.writer → Written encoder_rules (extended ps marker qs) (record_value rs xs) (noting x).writer result y.writer)
    → OpensScope t (extended ps marker qs) x o i → PresentsFields encoding_rules ps qs i rs xs j → Written encoding_rules (extended ps marker qs) (record_value rs xs) x result y
sequence_closed t ps marker qs x i j y rs xs o result e f h k =
    written_noted x y (extended ps marker qs) (record_value rs xs) result (f (fields_inside ps qs i j rs xs h.inside k).0 h.opened) (e ∙ h.waits)

-- a CHOICE
pub choice_opened : (choice : ℕ → Schema) (x i : Encoding) (o : OutsideChoice) (set : Enclosing) → set ≡ (noting x).set → i.set ≡ counts (awaits 1)
    → OpenedChoice encoder_rules OpensChoiceIn choice (noting x).writer (Ok o) i.writer → OpenedChoice encoding_rules OpensChoice choice x (Ok (o, set)) i
choice_opened choice x i o set w n h = λ k. (
  record { opened = (h k).0; waits = w; inside = n },
  record {
    room = λ e m. memory_noted e x ((h k).1.room e m);
    of_choice = λ e d p s v a r. refuses_noted e x (choice k) _ ((h k).1.of_choice e d p s v a r);
  },
)

pub choice_refused : (choice : ℕ → Schema) (x : Encoding) (e : EncodeError) (y : WriterState) (z : Encoding) → OpenedChoice encoder_rules OpensChoiceIn choice (noting x).writer (Err e) y → OpenedChoice encoding_rules OpensChoice choice x (Err e) z
choice_refused choice x e y z (inl m) = inl (memory_noted e x m)
choice_refused choice x e y z (inr r) = inr (λ n v. refuses_noted e x _ _ (r n v))

-- a list
pub list_opened : (size : Size) (mark : Bool) (n : ℕ) (x y : Encoding) (l : UnwrittenElements) (o : Option Frame) (set : Enclosing) → set ≡ (noting x).set → y.set ≡ counts uncounted
    → ListOpened encoder_rules IsOpenListIn size mark n (noting x).writer (Ok l) y.writer → ListOpened encoding_rules IsOpenElements size mark n x (Ok ((l, o), set)) y
list_opened size mark n x y l o set w i h = λ e vs c. record { opened = h e vs c; waits = w; inside = i }

pub list_refused : (size : Size) (mark : Bool) (n : ℕ) (x : Encoding) (e : EncodeError) (y : WriterState) (z : Encoding) → ListOpened encoder_rules IsOpenListIn size mark n (noting x).writer (Err e) y → ListOpened encoding_rules IsOpenElements size mark n x (Err e) z
list_refused size mark n x e y z (inl m) = inl (memory_noted e x m)
list_refused size mark n x e y z (inr r) = inr (λ s vs c. refuses_noted e x _ _ (r s vs c))

pub element_awaited : (f : ListForm) (x : Encoding) (v : Value) (vs : List Value) (l m : UnwrittenElements) (o : Option Frame) (set : Enclosing) (y z : Encoding) (result : Result (Unit {0}) EncodeError) → z.set ≡ y.set → WritesNext encoder_rules IsOpenListIn l y.writer result m z.writer
    → IsOpenElements f x (v ∷ vs) ((l, o), set) y → ElementAwaited encoding_rules IsOpenElements f x v vs result ((m, o), set) z
element_awaited f x v vs l m o set y z (Ok u) e w h = record {
  presented = λ t p. let q = value_inside z t f.element v (e ∙ h.inside) p in record { opened = (w.law f (noting x).writer v vs h.opened).presented t.writer q.0; waits = h.waits; inside = q.1 };
  refused = λ d r. refuses_noted d x _ _ ((w.law f (noting x).writer v vs h.opened).refused d r);
  room = λ d r. memory_noted d x ((w.law f (noting x).writer v vs h.opened).room d r);
}
element_awaited f x v vs l m o set y z (Err d) e w h = refused (w.law f (noting x).writer v vs h.opened)
  where
    refused : ElementAwaited encoder_rules IsOpenListIn f (noting x).writer v vs (Err d) m z.writer → ElementAwaited encoding_rules IsOpenElements f x v vs (Err d) ((m, o), set) z
    refused (inl q) = inl (memory_noted d x q)
    refused (inr r) = inr (refuses_noted d x _ _ r)

-- a bag
pub bag_opened : (size : Size) (mark : Bool) (n : ℕ) (x y : Encoding) (b : OpenBag) (o : Option Frame) (set : Enclosing) → set ≡ (noting x).set → y.set ≡ counts uncounted
    → BagOpened encoder_rules IsOpenBagIn size mark n (noting x).writer (Ok b) y.writer → BagOpened encoding_rules IsOpenMembers size mark n x (Ok ((b, o), set)) y
bag_opened size mark n x y b o set w i h = λ e vs c. record { opened = h e vs c; waits = w; inside = i }

pub bag_refused : (size : Size) (mark : Bool) (n : ℕ) (x : Encoding) (e : EncodeError) (y : WriterState) (z : Encoding) → BagOpened encoder_rules IsOpenBagIn size mark n (noting x).writer (Err e) y → BagOpened encoding_rules IsOpenMembers size mark n x (Err e) z
bag_refused size mark n x e y z (inl m) = inl (memory_noted e x m)
bag_refused size mark n x e y z (inr r) = inr (λ s vs c. refuses_noted e x _ _ (r s vs c))

pub member_awaited : (f : ListForm) (x : Encoding) (v : Value) (vs : List Value) (b c : OpenBag) (o : Option Frame) (set : Enclosing) (y z : Encoding) (result : Result (Unit {0}) EncodeError) → z.set ≡ y.set → WritesMember encoder_rules IsOpenBagIn b y.writer result c z.writer
    → IsOpenMembers f x (v ∷ vs) ((b, o), set) y → MemberAwaited encoding_rules IsOpenMembers f x v vs result ((c, o), set) z
member_awaited f x v vs b c o set y z (Ok u) e w h = record {
  presented = λ t p. let q = value_inside z t f.element v (e ∙ h.inside) p in record { opened = (w.law f (noting x).writer v vs h.opened).presented t.writer q.0; waits = h.waits; inside = q.1 };
  refused = λ d r. refuses_noted d x _ _ ((w.law f (noting x).writer v vs h.opened).refused d r);
  room = λ d r. memory_noted d x ((w.law f (noting x).writer v vs h.opened).room d r);
}
member_awaited f x v vs b c o set y z (Err d) e w h = refused (w.law f (noting x).writer v vs h.opened)
  where
    refused : MemberAwaited encoder_rules IsOpenBagIn f (noting x).writer v vs (Err d) c z.writer → MemberAwaited encoding_rules IsOpenMembers f x v vs (Err d) ((c, o), set) z
    refused (inl q) = inl (memory_noted d x q)
    refused (inr r) = inr (refuses_noted d x _ _ r)

-- an addition
pub addition_opened : (x i : Encoding) (o : OutsideAddition) (set : Enclosing) → set ≡ x.set → i.set ≡ counts (awaits 1) → AdditionOpened encoder_rules OpensOpenTypeIn x.writer (Ok o) i.writer → AdditionOpened encoding_rules OpensOpenType x (Ok (o, set)) i
addition_opened x i o set w n h = (record { opened = h.0; waits = w; inside = n }, record { opened = h.1; set = n })

pub addition_closed : (s : Schema) (r : Option Value) (x y : Encoding) (result : Result (Unit {0}) EncodeError) → y.set ≡ x.set → AdditionClosed encoder_rules s r x.writer result y.writer → AdditionClosed encoding_rules s r x result y
addition_closed s (Some v) x y (Ok u) e h = record { given = h; set = e }
addition_closed s None x y (Ok u) e h = record { given = h; set = e }
addition_closed s (Some v) x y (Err d) e h = h
addition_closed s None x y (Err d) e h = h

pub addition_skipped : (x y : Encoding) (result : Result (Unit {0}) EncodeError) → y.set ≡ x.set → AdditionSkipped encoder_rules x.writer result y.writer → AdditionSkipped encoding_rules x result y
addition_skipped x y (Ok u) e h = record { given = h; set = e }
addition_skipped x y (Err d) e h = h
