-- What the components of a SET write, presented in the order of its fields, each by itself (ITU-T X.691, 21.1).
use Rattle.std.proofs.Common.{◌≡◌, refl, sym, ap, ap₂, ◌∙◌, subst, ℕ, suc, ◌+◌, ◌%◌, ◌<◌, ◌≤◌, Bool, false, true, ◌&&◌, List, [], ◌∷◌, ◌++◌, length, Option, Some, None, arith, append-nil, append_assoc, length-append}
use Rattle.std.proofs.Math.Path.{fun_ext}
use Rattle.rasn_types.specs.Bits.{Bits}
use Rattle.rasn_types.specs.Variants.{variant_of, Variant}
use Rattle.rasn_types.specs.Values.{Value}
use Rattle.rasn_types.specs.declared.types.Codec.{Codec}
use Rattle.rasn_schema.specs.Structures.{field_tag}
use Rattle.rasn_schema.specs.Fields.{presence_of, shapes_from}
use Rattle.rasn_schema.specs.Schemas.{TagTree, count, Schema, Parts, no_parts, part, Presence, required, optional, group, default}
use Rattle.rasn_traits.specs.Presences.{presence_bit}
use Rattle.rasn_traits.specs.Scopes.{PresentsPart, presents_required, presents_there, presents_left_out, PresentsParts, presents_end, presents_next, refuses_required, refuses_there, refuses_bit, RefusesParts, refuses_here, refuses_after}
use Rattle.per_core.proofs.Positions.{canon_p}
use Rattle.per_core.specs.Canon.{canon, members, shown}
use Rattle.per_core.specs.PlacedSets.{each_writes, its_flag, its_value}
use Rattle.per_core.specs.Writers.{Writer, join, just, ◌▹◌}
use Rattle.per_pieces.specs.OpenSets.{are_of, is_of, begins, begins_value, bit_writer, bit_writers, Component, OpenSet, Underway, value_writers}
use Rattle.per_pieces.specs.Pieces.{Appends, Pieces, unplaced, writer_of}
use Rattle.per_pieces.proofs.Presented.{BeginsComponent, HasPresented, presents_absent, presents_present, presents_required as presents_value}
use Rattle.per_write.specs.Components.{begun_with, Encoding, going_on, noted, underway}
use Rattle.per_core.specs.declared.encode_error.EncodeError.{EncodeError}
use Rattle.per_core.specs.WritingFaults.{HasPart, part_here, part_after}
use Rattle.per_write.specs.Faults.{RefusesValue}
use Rattle.per_write.specs.WriterState.{Presents as PresentsIn, Frame, WriterState}
use Rattle.per_pieces.specs.Turns.{Enclosing, gathers}
use Rattle.per_enc.specs.Rules.{encoding_rules, IsUnmarkedWhere, Marks, MarksWhere, noting, Presents}
use Rattle.per_enc.proofs.Chain.{out_shown, there_shown}

join_nothing : (o : Option Bits) → join [] o ≡ o
join_nothing None = refl
join_nothing (Some b) = refl

-- a value that is written before its place is known
written_alone : (a : Variant) (s : Schema) (v : Value) (x y : Pieces) → x ≡ unplaced → Appends x (canon a s v) y → writer_of y.list ≡ canon a s v
written_alone a s v x y e w = fun_ext at
  where
    at : (p : ℕ) → writer_of y.list p ≡ canon a s v p
    at p =
        let turned : (p + 0) % 8 % 8 ≡ p % 8 = omega arith in
        w.written p (λ q. absurd (let b : x.placed ≡ false = ap (λ (k : Pieces). k.placed) e in cc))
        ∙ ap (λ (k : Pieces). (writer_of k.list ▹ canon a s v) p) e ∙ join_nothing (canon a s v ((p + 0) % 8)) ∙ (canon_p a s v).same ((p + 0) % 8) p turned

-- nothing
written_none : (x : Pieces) → x ≡ unplaced → writer_of x.list ≡ just []
written_none x e = ap (λ (k : Pieces). writer_of k.list) e ∙ fun_ext (λ p. refl)

-- a writer that differs in what was written alone
pub other_pieces : (x y : WriterState) → y.failed ≡ x.failed → y.codec ≡ x.codec → y.scope ≡ x.scope → y ≡ record x { pieces = y.pieces }
other_pieces x y f c s =
    ap₂ (λ (b : Bool) (d : Codec). record { pieces = y.pieces; failed = b; codec = d; scope = y.scope }) f c ∙ ap (λ (k : Frame). record { pieces = y.pieces; failed = x.failed; codec = x.codec; scope = k }) s

-- Of so many components of a SET that was opened so, and is after some pieces, the first were presented.
pub record InSet (w : WriterState) (all : ℕ) (outer : Pieces) (cs : List Component) (x : Encoding) : Type 0 where
  pub set : OpenSet
  pub is_set : x.set ≡ gathers set
  pub presented : HasPresented all outer cs (underway set x.writer)
  pub same : x.writer ≡ record w { pieces = x.writer.pieces }
  pub unfailed : w.failed ≡ false

-- a component of a part has a presence bit exactly where the part may be absent
abbrev pub Fits : Presence → Component → Type 0
Fits q c = (i : ℕ) (t : TagTree) → is_of (record { index = i; tag = field_tag t; tree = Some t; presence = presence_of q }) c ≡ true

fits_bit : (q : Presence) (r : Option Value) (b c : Bool) (value : Pieces) → presence_bit q r ≡ Some b → Fits q (record { bit = Some c; value = value })
fits_bit required r b c value e = absurd cc
fits_bit optional r b c value e = λ i t. refl
fits_bit group r b c value e = λ i t. refl
fits_bit (default d) r b c value e = λ i t. refl

-- a further one was presented, and wrote this
pub record Further (w : WriterState) (all : ℕ) (outer : Pieces) (cs : List Component) (q : Presence) (s : Schema) (r : Option Value) (y : Encoding) : Type 0 where
  pub component : Component
  pub inside : InSet w all outer (cs ++ component ∷ []) y
  pub fits : Fits q component
  pub bit : bit_writer component.bit ≡ its_flag (record { presence = q; writes = canon (variant_of w.codec) s }) r
  pub value : writer_of component.value.list ≡ its_value (record { presence = q; writes = canon (variant_of w.codec) s }) r

-- its value is put where a component begins
record ValuePut (w : WriterState) (all : ℕ) (outer : Pieces) (cs : List Component) (bit : Option Bool) (s : Schema) (v : Value) (y : Encoding) : Type 0 where
  inside : InSet w all outer (cs ++ record { bit = bit; value = y.writer.pieces } ∷ []) y
  value : writer_of y.writer.pieces.list ≡ canon (variant_of w.codec) s v

value_put : (w : WriterState) (all : ℕ) (outer : Pieces) (cs : List Component) (bit : Option Bool) (s : Schema) (v : Value) (u : Underway) (x z y : Encoding) → w.failed ≡ false → x.writer ≡ record w { pieces = x.writer.pieces }
    → BeginsComponent all outer cs bit u → noting z ≡ going_on u x.writer → Presents z s v y → ValuePut w all outer cs bit s v y
value_put w all outer cs bit s v u x z y f e b n h =
    let p : PresentsIn (going_on u x.writer).writer s v y.writer = subst (λ (k : Encoding). PresentsIn k.writer s v y.writer) n h.written in
    let codec : x.writer.codec ≡ w.codec = ap (λ (k : WriterState). k.codec) e in
    record {
      inside = record {
        set = u.set;
        is_set = h.set ∙ ap (λ (k : Encoding). k.set) n;
        presented = b.value y.writer.pieces;
        same = other_pieces w y.writer (p.left ∙ sym f) (p.same ∙ codec) (p.beside ∙ ap (λ (k : WriterState). k.scope) e);
        unfailed = f;
      };
      value = ap (λ (c : Codec). writer_of y.writer.pieces.list) codec ∙ written_alone (variant_of x.writer.codec) s v u.pieces y.writer.pieces b.nothing p.appended ∙ ap (λ (c : Codec). canon (variant_of c) s v) codec;
    }

-- where a value begins in a SET
noting_set : (x : Encoding) (k : OpenSet) → x.set ≡ gathers k → noting x ≡ going_on (begins_value (underway k x.writer)) x.writer
noting_set x k e = ap (λ (o : Enclosing). noted o x.writer) e

-- a presence bit in a SET
marked_set : (x y : Encoding) (k : OpenSet) (b : Bool) → x.set ≡ gathers k → Marks x b y → y ≡ begun_with b k x.writer
marked_set x y k b e m = (subst (λ (o : Enclosing). MarksWhere o x.writer b y) e m).1

further : (w : WriterState) (all : ℕ) (outer : Pieces) (cs : List Component) (q : Presence) (s : Schema) (r : Option Value) (x y : Encoding) → InSet w all outer cs x → length cs < all
    → PresentsPart encoding_rules q s x r y → Further w all outer cs q s r y
unfolding shown
further w all outer cs required s (Some v) x y i lt (presents_required h) =
    let p = value_put w all outer cs None s v (begins_value (underway i.set x.writer)) x x y i.unfailed i.same (presents_value all outer cs (underway i.set x.writer) i.presented lt) (noting_set x i.set i.is_set) h in
    record { component = record { bit = None; value = y.writer.pieces }; inside = p.inside; fits = λ j t. refl; bit = refl; value = p.value }
further w all outer cs q s (Some v) x y i lt (presents_there {m = m} b t h) =
    let d = there_shown q v b in
    let e = marked_set x m i.set true i.is_set t in
    let u = begins (Some true) (underway i.set x.writer) in
    let p = value_put w all outer cs (Some true) s v (begins_value u) x m y i.unfailed i.same (presents_present all outer cs (underway i.set x.writer) i.presented lt) (ap noting e) h in
    record {
      component = record { bit = Some true; value = y.writer.pieces };
      inside = p.inside;
      fits = fits_bit q (Some v) true true y.writer.pieces b;
      bit = rw (d.0, d.1) refl;
      value = rw d.0 p.value;
    }
further w all outer cs q s r x y i lt (presents_left_out b t) =
    let d = out_shown q r b in
    let e = marked_set x y i.set false i.is_set t in
    let u = begins (Some false) (underway i.set x.writer) in
    let c = presents_absent all outer cs (underway i.set x.writer) i.presented lt in
    let pieces : y.writer.pieces ≡ u.pieces = ap (λ (k : Encoding). k.writer.pieces) e in
    record {
      component = record { bit = Some false; value = u.pieces };
      inside = record {
        set = u.set;
        is_set = ap (λ (k : Encoding). k.set) e;
        presented = subst (λ (z : Pieces). HasPresented all outer (cs ++ record { bit = Some false; value = u.pieces } ∷ []) (record { set = u.set; pieces = z })) (sym pieces) (c.value u.pieces);
        same = other_pieces w y.writer (ap (λ (k : Encoding). k.writer.failed) e ∙ ap (λ (k : WriterState). k.failed) i.same) (ap (λ (k : Encoding). k.writer.codec) e ∙ ap (λ (k : WriterState). k.codec) i.same) (ap (λ (k : Encoding). k.writer.scope) e ∙ ap (λ (k : WriterState). k.scope) i.same);
        unfailed = i.unfailed;
      };
      fits = fits_bit q r false false u.pieces b;
      bit = rw (d.0, d.1) refl;
      value = rw d.0 (written_none u.pieces c.nothing);
    }

-- All components from one on were presented, and wrote these.
pub record AllPresented (w : WriterState) (all : ℕ) (outer : Pieces) (cs : List Component) (ps : Parts) (rs : List (Option Value)) (y : Encoding) : Type 0 where
  pub components : List Component
  pub inside : InSet w all outer (cs ++ components) y
  pub counted : length components ≡ count ps
  pub as_many : length rs ≡ count ps
  pub fit : (i : ℕ) → are_of (shapes_from i ps) components ≡ true
  pub bits : bit_writers components ≡ each_writes its_flag (members (variant_of w.codec) ps) rs
  pub values : value_writers components ≡ each_writes its_value (members (variant_of w.codec) ps) rs

pub all_presented : (w : WriterState) (all : ℕ) (outer : Pieces) (cs : List Component) (ps : Parts) (rs : List (Option Value)) (x y : Encoding) → InSet w all outer cs x → length cs + count ps ≤ all
    → PresentsParts encoding_rules ps x rs y → AllPresented w all outer cs ps rs y
unfolding canon
all_presented w all outer cs no_parts rs x y i le presents_end = record {
  components = [];
  inside = subst (λ (ks : List Component). InSet w all outer ks x) (sym (append-nil cs)) i;
  counted = refl;
  as_many = refl;
  fit = λ j. refl;
  bits = refl;
  values = refl;
}
all_presented w all outer cs (part t q s ps) (r ∷ rs) x y i le (presents_next {m = m} c d) =
    let o = further w all outer cs q s r x m i (omega arith) c in
    let a = all_presented w all outer (cs ++ o.component ∷ []) ps rs m y o.inside (omega (arith, length-append cs (o.component ∷ []))) d in
    let n = a.counted in
    let k = a.as_many in
    record {
      components = o.component ∷ a.components;
      inside = subst (λ (ks : List Component). InSet w all outer ks y) (append_assoc cs (o.component ∷ []) a.components) a.inside;
      counted = omega arith;
      as_many = omega arith;
      fit = λ j. ap₂ (λ (b c : Bool). b && c) (o.fits j t) (a.fit (suc j));
      bits = ap₂ (λ (f : Writer) (fs : List Writer). f ∷ fs) o.bit a.bits;
      values = ap₂ (λ (f : Writer) (fs : List Writer). f ∷ fs) o.value a.values;
    }
all_presented w all outer cs (part t q s ps) [] x y i le c = elim c [ ]

-- a component that is refused, and what the encoder was before it
pub record RefusedComponent (e : EncodeError) (w : WriterState) (ps : Parts) (rs : List (Option Value)) : Type 0 where
  pub s : Schema
  pub v : Value
  pub m : Encoding
  pub has : HasPart s v ps rs
  pub refused : RefusesValue e m.writer s v
  pub unfailed : m.writer.failed ≡ false
  pub same : m.writer.codec ≡ w.codec

pub refused_component : (e : EncodeError) (w : WriterState) (all : ℕ) (outer : Pieces) (cs : List Component) (ps : Parts) (rs : List (Option Value)) (x : Encoding) → InSet w all outer cs x → length cs + count ps ≤ all
    → RefusesParts encoding_rules e ps x rs → RefusedComponent e w ps rs
unfolding shown
refused_component e w all outer cs (part t q s ps) (r ∷ rs) x i le (refuses_here (refuses_required {v = v} h)) = record {
  s = s;
  v = v;
  m = x;
  has = part_here refl;
  refused = h;
  unfailed = ap (λ (k : WriterState). k.failed) i.same ∙ i.unfailed;
  same = ap (λ (k : WriterState). k.codec) i.same;
}
refused_component e w all outer cs (part t q s ps) (r ∷ rs) x i le (refuses_here (refuses_there {m = m} {v = v} b c h)) =
    let d = marked_set x m i.set true i.is_set c in
    record {
      s = s;
      v = v;
      m = m;
      has = part_here (there_shown q v b).0;
      refused = h;
      unfailed = ap (λ (k : Encoding). k.writer.failed) d ∙ ap (λ (k : WriterState). k.failed) i.same ∙ i.unfailed;
      same = ap (λ (k : Encoding). k.writer.codec) d ∙ ap (λ (k : WriterState). k.codec) i.same;
    }
refused_component e w all outer cs (part t q s ps) (r ∷ rs) x i le (refuses_here (refuses_bit b u)) =
    let f : x.writer.failed ≡ true = (subst (λ (o : Enclosing). IsUnmarkedWhere e o x.writer) i.is_set u).1 in
    let g : x.writer.failed ≡ false = ap (λ (k : WriterState). k.failed) i.same ∙ i.unfailed in
    absurd cc
refused_component e w all outer cs (part t q s ps) (r ∷ rs) x i le (refuses_after {m = m} c h) =
    let o = further w all outer cs q s r x m i (omega arith) c in
    let d = refused_component e w all outer (cs ++ o.component ∷ []) ps rs m o.inside (omega (arith, length-append cs (o.component ∷ []))) h in
    record {
      s = d.s;
      v = d.v;
      m = d.m;
      has = part_after d.has;
      refused = d.refused;
      unfailed = d.unfailed;
      same = d.same;
    }
refused_component e w all outer cs no_parts rs x i le c = elim c [ ]
refused_component e w all outer cs (part t q s ps) [] x i le c = elim c [ ]
