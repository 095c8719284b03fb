-- A SET OF that is open, member after member, and its close (ITU-T X.691, 22).
use Rattle.std.specs.Prelude.{Result, Ok, Err}
use Rattle.std.proofs.Common.{◌≡◌, ◌⊎◌, inl, inr, refl, sym, ap, ap₂, subst, ◌∙◌, ℕ, suc, ◌+◌, ◌%◌, ◌<◌, ◌≤◌, Bool, false, List, [], ◌∷◌, ◌++◌, map, length, drop, get_or, append_assoc, append-nil, arith, Option, Some, None}
use Rattle.std.proofs.Math.Path.{fun_ext}
use Rattle.std.proofs.lemmas.List.{drop_all, length-append, map-append}
use Rattle.rasn_types.specs.Bits.{Bits}
use Rattle.rasn_types.specs.Variants.{variant_of, Variant}
use Rattle.rasn_types.specs.Values.{Value, bag_of}
use Rattle.rasn_types.specs.declared.types.Codec.{Codec}
use Rattle.rasn_constraints.specs.Bounds.{allows, Size}
use Rattle.rasn_schema.specs.Structures.{list_value}
use Rattle.rasn_schema.specs.Schemas.{Schema}
use Rattle.rasn_traits.specs.Bags.{AwaitsMember, BagOpened, bag_schema}
use Rattle.rasn_traits.specs.Calls.{Written}
use Rattle.rasn_traits.specs.Lists.{ClosesList, ListForm, WritesNext, schema_of}
use Rattle.per_core.specs.Canon.{ascending, canon}
use Rattle.per_core.specs.Counts.{counted, list_items}
use Rattle.per_core.specs.Writers.{Writer, join, ◌▹◌}
use Rattle.per_core.proofs.Counting.{length-map'}
use Rattle.per_core.proofs.Positions.{canon_p}
use Rattle.per_pieces.specs.Pieces.{Piece, Pieces, unplaced, writer_of}
use Rattle.per_enc.specs.Members.{writers_of}
use Rattle.per_enc.specs.Writable.{AreWritten}
use Rattle.per_core.specs.declared.encode_error.EncodeError.{EncodeError}
use Rattle.per_write.specs.declared.lists.UnwrittenElements.{UnwrittenElements}
use Rattle.per_core.specs.declared.encode_error.EncodeErrorKind.TheVariants.{OutOfTurn}
use Rattle.per_core.specs.WritingFaults.{HasElement}
use Rattle.per_write.specs.Faults.{IsError, IsMemory, RefusesValue}
use Rattle.per_write.specs.Unplaced.{BeginsUnplaced, OutsideUnplaced}
use Rattle.per_write.specs.Lists.{IsOpenList, Enters, EntersItems, RefusesCount, count_left, count_memory, count_outside}
use Rattle.per_write.specs.Rules.{encoder_rules}
use Rattle.per_write.specs.WriterState.{Frame, WriterState, StateAppends}
use Rattle.per_write.proofs.Elements.{element_in, list_begun, list_law}
use Rattle.per_write.proofs.Writing.{wrote_same}
use Rattle.per_enc.specs.Bags.{IsOpenBag, OpenBag, PutsMembers, list_of, outside, with_begun}
use Rattle.per_enc.proofs.BagOrder.{are_written, at_place, element_of_ordered, in_order, length_in_order, list_is_bag, ordered_writers}
use Rattle.per_enc.proofs.Refusing.{none_of_count, none_of_member, refused_as_bag, stands_in_member}

-- a bag is opened
pub bag_begun : (size : Size) (mark : Bool) (count : ℕ) (x y : WriterState) (l : UnwrittenElements) (ms : List (List Piece)) → ms ≡ [] → Enters (λ a ws. counted a size mark list_items ws) count x l y
    → BagOpened encoder_rules IsOpenBag size mark count x (Ok (record { list = l; members = ms; waiting = None })) y
bag_begun size mark count x y l ms none h = λ e vs k. record {
  front = [];
  all_is = refl;
  members = ap writers_of none;
  amid = λ ws n. list_begun size mark count x y l h e ws (n ∙ k);
  is_open = h.is_open;
}

-- a count is refused
pub bag_unbegun : (size : Size) (mark : Bool) (count : ℕ) (x y : WriterState) (d : EncodeError) → EntersItems (RefusesCount size mark count) (λ a ws. counted a size mark list_items ws) count x (Err d) y
    → BagOpened encoder_rules IsOpenBag size mark count x (Err d) y
bag_unbegun size mark count x y d h = go h.err (list_law size mark count x y (Err d) h)
  where
    go : RefusesCount size mark count d x → IsMemory d x ⊎ ((e : Schema) (vs : List Value) → length vs ≡ count → RefusesValue d x (Schema.list e size mark) (list_value vs))
        → IsMemory d x ⊎ ((e : Schema) (vs : List Value) → length vs ≡ count → RefusesValue d x (Schema.set_of e size mark) (bag_of vs))
    go (count_memory m) r = inl m
    go (count_outside m o i) (inl r) = inl r
    go (count_outside m o i) (inr r) = inr (λ e vs k. refused_as_bag d x e size mark vs vs refl (λ v q. q)
        (λ f p. none_of_count (variant_of x.codec) e size mark vs m (ap (allows size) k ∙ o.out_of_size) p) (r e vs k))

outside_codec : (o : Option OutsideUnplaced) (y : WriterState) → (outside o y).codec ≡ y.codec
outside_codec None y = refl
outside_codec (Some w) y = refl

bag_codec : (f : ListForm) (x : WriterState) (vs : List Value) (b : OpenBag) (y : WriterState) → IsOpenBag f x vs b y → y.codec ≡ x.codec
bag_codec f x vs b y h = sym (outside_codec b.waiting y) ∙ (h.amid f.all refl).remains.same

-- want of memory within a bag is want of memory of the whole
pub no_room : (f : ListForm) (x : WriterState) (vs : List Value) (b : OpenBag) (y : WriterState) (d : EncodeError) → IsOpenBag f x vs b y → IsMemory d y → IsMemory d x
no_room f x vs b y d h m = record { kind_is = m.kind_is; codec_is = m.codec_is ∙ bag_codec f x vs b y h }

-- the same once the member that was begun is kept
pub no_room_outside : (f : ListForm) (x : WriterState) (vs : List Value) (b : OpenBag) (y z : WriterState) (d : EncodeError) → IsOpenBag f x vs b y → z.codec ≡ y.codec → IsMemory d z → IsMemory d x
no_room_outside f x vs b y z d h k m = record { kind_is = m.kind_is; codec_is = m.codec_is ∙ k ∙ bag_codec f x vs b y h }

same_state : (s t : WriterState) → s.pieces ≡ t.pieces → s.failed ≡ t.failed → s.codec ≡ t.codec → s.scope ≡ t.scope → s ≡ t
same_state s t e f g h =
    ap (λ (p : Pieces). record s { pieces = p }) e ∙ ap (λ (b : Bool). record { pieces = t.pieces; failed = b; codec = s.codec; scope = s.scope }) f
    ∙ ap (λ (c : Codec). record { pieces = t.pieces; failed = t.failed; codec = c; scope = s.scope }) g ∙ ap (λ (k : Frame). record t { scope = k }) h

join_nothing : (o : Option Bits) → join [] o ≡ o
join_nothing None = refl
join_nothing (Some b) = refl

-- what a member that was written before its place is known settles to
written_floating : (a : Variant) (e : Schema) (v : Value) (z t : WriterState) → z.pieces ≡ unplaced → StateAppends z (canon a e v) t → writer_of t.pieces.list ≡ canon a e v
written_floating a e v z t f w = fun_ext at
  where
    at : (p : ℕ) → writer_of t.pieces.list p ≡ canon a e v p
    at p =
        let turned : (p + 0) % 8 % 8 ≡ p % 8 = omega arith in
        w.appended.written p (λ q. absurd (let b : z.pieces.placed ≡ false = ap (λ (k : Pieces). k.placed) f in cc))
        ∙ ap (λ (k : Pieces). (writer_of k.list ▹ canon a e v) p) f ∙ join_nothing (canon a e v ((p + 0) % 8)) ∙ (canon_p a e v).same ((p + 0) % 8) p turned

-- the next member is written before its place is known
pub member_awaited : (f : ListForm) (x : WriterState) (v : Value) (vs : List Value) (b : OpenBag) (y m z : WriterState) (l : UnwrittenElements) (ms : List (List Piece)) (w : OutsideUnplaced)
    → IsOpenBag f x (v ∷ vs) b y → m ≡ outside b.waiting y → l ≡ b.list → ms ≡ with_begun b.waiting y b.members → BeginsUnplaced m w z
    → AwaitsMember encoder_rules IsOpenBag f x v vs (record { list = l; members = ms; waiting = Some w }) z
member_awaited f x v vs b y m z l ms w h is el em fl = record {
  presented = λ t r. presented t r;
  refused = λ d r. record {
    none = λ q p. none_of_member a f.element f.size f.mark f.all v (λ i. subst (λ (c : Codec). canon (variant_of c) f.element v i ≡ None) codec (r.none begun i)) there p;
    stands = stands_in_member d.kind x z f.element f.size f.mark v f.all begun there r.stands;
    codec_is = r.codec_is ∙ codec;
  };
  room = λ d r. record { kind_is = r.kind_is; codec_is = r.codec_is ∙ codec };
}
  where
    a : Variant
    a = variant_of x.codec

    codec : z.codec ≡ x.codec
    codec = ap (λ (s : WriterState). s.codec) fl.same ∙ ap (λ (s : WriterState). s.codec) is ∙ (h.amid f.all refl).remains.same

    begun : z.failed ≡ false
    begun = ap (λ (s : WriterState). s.failed) fl.same ∙ fl.begun

    there : HasElement v f.all
    there = subst (HasElement v) (sym h.all_is) (element_in h.front v vs)

    presented : (t : WriterState) → StateAppends z (canon (variant_of z.codec) f.element v) t → IsOpenBag f x vs (record { list = l; members = ms; waiting = Some w }) t
    presented t r =
        let r' = subst (λ (c : Codec). StateAppends z (canon (variant_of c) f.element v) t) codec r in
        let one : writer_of t.pieces.list ≡ canon a f.element v = written_floating a f.element v z t (ap (λ (s : WriterState). s.pieces) fl.same) r' in
        let back : outside (Some w) t ≡ m = same_state (outside (Some w) t) m (ap (λ (k : OutsideUnplaced). k.pieces) fl.waits) (r.left ∙ sym fl.begun) (r.same ∙ ap (λ (s : WriterState). s.codec) fl.same) (ap (λ (k : OutsideUnplaced). k.scope) fl.waits) in
        record {
          front = h.front ++ v ∷ [];
          all_is = h.all_is ∙ sym (append_assoc h.front (v ∷ []) vs);
          members = map-append writer_of ms (t.pieces.list ∷ []) ∙ ap₂ (λ (k j : List Writer). k ++ j) (ap writers_of em ∙ h.members) (ap (λ (g : Writer). g ∷ []) one) ∙ sym (map-append (canon a f.element) h.front (v ∷ []));
          amid = λ ws n. subst (λ (s : WriterState). IsOpenList (list_of f ws) x ws l s) (is_outside back)
              (subst (λ (k : UnwrittenElements). IsOpenList (list_of f ws) x ws k (outside b.waiting y)) (sym el) (h.amid ws n));
          is_open = ap (λ (k : Frame). k.is_open) r.beside ∙ ap (λ (s : WriterState). s.scope.is_open) fl.same;
        }
      where
        is_outside : {s : WriterState} → s ≡ m → outside b.waiting y ≡ s
        is_outside e = sym is ∙ sym e

-- members that were put in order are written as the elements of a list
pub bag_closed : (f : ListForm) (x : WriterState) (b : OpenBag) (y m z : WriterState) (ns : List (List Piece)) (result : Result (Unit {0}) EncodeError) → IsOpenBag f x [] b y → m ≡ outside b.waiting y
    → writers_of ns ≡ ascending (writers_of (with_begun b.waiting y b.members)) → PutsMembers (writers_of ns) b.list m result z
    → Written encoder_rules (bag_schema f) (bag_of f.all) x result z
bag_closed f x b y m z ns result h is sorts p = turned result (p.law (list_of f ordered) x begun in_turn)
  where
    a : Variant
    a = variant_of x.codec

    ordered : List Value
    ordered = in_order a f.element f.all

    all_written : writers_of (with_begun b.waiting y b.members) ≡ map (canon a f.element) f.all
    all_written = h.members ∙ ap (map (canon a f.element)) (sym (h.all_is ∙ append-nil h.front))

    written : AreWritten (canon a f.element) f.all
    written = are_written (canon a f.element) f.all (with_begun b.waiting y b.members) all_written

    in_turn : writers_of ns ≡ map (canon a f.element) ordered
    in_turn = sorts ∙ ap ascending all_written ∙ sym (ordered_writers a f.element f.all)

    begun : IsOpenList (list_of f ordered) x ordered b.list m
    begun = subst (λ (s : WriterState). IsOpenList (list_of f ordered) x ordered b.list s) (sym is) (h.amid ordered (length_in_order a f.element f.all))

    turned : (r : Result (Unit {0}) EncodeError) → Written encoder_rules (schema_of (list_of f ordered)) (list_value ordered) x r z → Written encoder_rules (bag_schema f) (bag_of f.all) x r z
    turned (Ok u) w = wrote_same x z (canon a (schema_of (list_of f ordered)) (list_value ordered)) (canon a (bag_schema f) (bag_of f.all)) (list_is_bag a f.element f.size f.mark f.all written) w
    turned (Err d) (inl q) = inl q
    turned (Err d) (inr r) = inr (refused_as_bag d x f.element f.size f.mark ordered f.all (length_in_order a f.element f.all) (element_of_ordered a f.element f.all)
        (λ q p. sym (list_is_bag a f.element f.size f.mark f.all written p) ∙ r.none q p) r)

-- the first members were written
pub record Amidst (writers : List Writer) (l : UnwrittenElements) (y : WriterState) (i : ℕ) (m : UnwrittenElements) (z : WriterState) : Type 0 where
  pub left : z.failed ≡ false
  pub kept : z.codec ≡ y.codec
  pub amid : (f : ListForm) (x : WriterState) → IsOpenList f x f.all l y → writers ≡ map (canon (variant_of x.codec) f.element) f.all → IsOpenList f x (drop i f.all) m z

pub none_yet : (writers : List Writer) (l : UnwrittenElements) (y : WriterState) → y.failed ≡ false → Amidst writers l y 0 l y
none_yet writers l y f = record { left = f; kept = refl; amid = λ g x h e. h }

-- a further one is written
pub one_more : (ms : List (List Piece)) (l m n : UnwrittenElements) (y z s t : WriterState) (i : ℕ) (d : List Piece) (u : Unit {0}) → Amidst (writers_of ms) l y i m z → i < length ms
    → WritesNext encoder_rules IsOpenList m z (Ok u) n s → StateAppends s (writer_of (get_or ms i d)) t → Amidst (writers_of ms) l y (i + 1) n t
one_more ms l m n y z s t i d u h within next w = record {
  left = w.left;
  kept = w.same ∙ next.behaves.kept ∙ h.kept;
  amid = λ f x g e. amid f x g e;
}
  where
    amid : (f : ListForm) (x : WriterState) → IsOpenList f x f.all l y → writers_of ms ≡ map (canon (variant_of x.codec) f.element) f.all → IsOpenList f x (drop (i + 1) f.all) n t
    amid f x g e =
        let q = at_place ms (canon (variant_of x.codec) f.element) f.all i d e within in
        let k : IsOpenList f x (q.0 ∷ drop (suc i) f.all) m z = subst (λ (vs : List Value). IsOpenList f x vs m z) q.1 (h.amid f x g e) in
        let c : s.codec ≡ x.codec = next.behaves.kept ∙ k.remains.same in
        let further : suc i ≡ i + 1 = omega arith in
        subst (λ (j : ℕ). IsOpenList f x (drop j f.all) n t) further
        ((next.law f x q.0 (drop (suc i) f.all) k).presented t
        (subst (λ (o : Codec). StateAppends s (canon (variant_of o) f.element q.0) t) (sym c) (subst (λ (v : Writer). StateAppends s v t) q.2 w)))

-- the call before a member refuses
pub next_refuses : (ms : List (List Piece)) (l m n : UnwrittenElements) (y z s : WriterState) (i : ℕ) (d : EncodeError) → Amidst (writers_of ms) l y i m z → i < length ms
    → WritesNext encoder_rules IsOpenList m z (Err d) n s
    → (f : ListForm) (x : WriterState) → IsOpenList f x f.all l y → writers_of ms ≡ map (canon (variant_of x.codec) f.element) f.all → Written encoder_rules (schema_of f) (list_value f.all) x (Err d) s
next_refuses ms l m n y z s i d h within next f x g e =
    let q = at_place ms (canon (variant_of x.codec) f.element) f.all i [] e within in
    next.law f x q.0 (drop (suc i) f.all) (subst (λ (vs : List Value). IsOpenList f x vs m z) q.1 (h.amid f x g e))

-- memory runs out where a member is written
pub no_room_to_put : (ms : List (List Piece)) (l m : UnwrittenElements) (y z s t : WriterState) (i : ℕ) (d : EncodeError) → Amidst (writers_of ms) l y i m z → s.codec ≡ z.codec → IsMemory d s
    → (f : ListForm) (x : WriterState) → IsOpenList f x f.all l y → writers_of ms ≡ map (canon (variant_of x.codec) f.element) f.all → Written encoder_rules (schema_of f) (list_value f.all) x (Err d) t
no_room_to_put ms l m y z s t i d h c r f x g e = inl (record { kind_is = r.kind_is; codec_is = r.codec_is ∙ c ∙ (h.amid f x g e).remains.same })

-- no further one is left
pub all_put : (ms : List (List Piece)) (l m : UnwrittenElements) (y z t : WriterState) (i : ℕ) (result : Result (Unit {0}) EncodeError) → Amidst (writers_of ms) l y i m z → length ms ≤ i
    → ClosesList encoder_rules IsOpenList m z result t
    → (f : ListForm) (x : WriterState) → IsOpenList f x f.all l y → writers_of ms ≡ map (canon (variant_of x.codec) f.element) f.all → Written encoder_rules (schema_of f) (list_value f.all) x result t
all_put ms l m y z t i result h over c f x g e =
    let n : length ms ≡ length f.all = sym (length-map' writer_of ms) ∙ ap length e ∙ length-map' (canon (variant_of x.codec) f.element) f.all in
    c.law f x (subst (λ (vs : List Value). IsOpenList f x vs m z) (drop_all i f.all (omega (arith, n, over))) (h.amid f x g e))

-- of a bag's members so many were written and so many are still to be
pub members_left : (f : ListForm) (x : WriterState) (vs : List Value) (b : OpenBag) (y : WriterState) → IsOpenBag f x vs b y
    → count_left b.list ≡ length (with_begun b.waiting y b.members) + length vs
members_left f x vs b y h =
    let kept : length (with_begun b.waiting y b.members) ≡ length h.front =
    sym (length-map' writer_of (with_begun b.waiting y b.members)) ∙ ap length h.members ∙ length-map' (canon (variant_of x.codec) f.element) h.front in
    (h.amid f.all refl).counted ∙ ap length h.all_is ∙ length-append h.front vs ∙ ap (λ (n : ℕ). n + length vs) (sym kept)

-- an error that a call came out of turn, as it was before the member that was begun is kept
pub out_of_turn : (y z : WriterState) (d : EncodeError) → z.codec ≡ y.codec → IsError OutOfTurn d z → IsError OutOfTurn d y
out_of_turn y z d k e = record { kind_is = e.kind_is; codec_is = e.codec_is ∙ k }

-- where all were presented, none is left once the member that was begun is kept
pub all_kept : (f : ListForm) (x : WriterState) (b : OpenBag) (y : WriterState) → IsOpenBag f x [] b y → (c : OpenBag) → c ≡ record { list = b.list; members = with_begun b.waiting y b.members; waiting = None }
    → length c.members < count_left c.list → ⊥
all_kept f x b y h c is l =
    let n = members_left f x [] b y h in
    let m : length c.members ≡ length (with_begun b.waiting y b.members) = ap (λ (q : OpenBag). length q.members) is in
    let k : count_left c.list ≡ count_left b.list = ap (λ (q : OpenBag). count_left q.list) is in
    omega (arith, n, m, k, l)

-- and where one is still to be presented, not all are kept
pub some_left : (f : ListForm) (x : WriterState) (v : Value) (vs : List Value) (b : OpenBag) (y : WriterState) → IsOpenBag f x (v ∷ vs) b y → (c : OpenBag)
    → c ≡ record { list = b.list; members = with_begun b.waiting y b.members; waiting = None } → count_left c.list ≤ length c.members → ⊥
some_left f x v vs b y h c is l =
    let n = members_left f x (v ∷ vs) b y h in
    let m : length c.members ≡ length (with_begun b.waiting y b.members) = ap (λ (q : OpenBag). length q.members) is in
    let k : count_left c.list ≡ count_left b.list = ap (λ (q : OpenBag). count_left q.list) is in
    omega (arith, n, m, k, l)
