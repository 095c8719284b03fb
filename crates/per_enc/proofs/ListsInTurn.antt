-- A list or a bag that is opened by hand: each value that comes in it is counted, and nothing else can come (ITU-T X.691,
-- 20, 22).
use Rattle.std.specs.Prelude.{OnOk, Result, Ok, Err}
use Rattle.std.proofs.Common.{◌≡◌, refl, sym, ap, ◌∙◌, inl, inr, ℕ, Bool, true, false, List, ◌∷◌, replicate, Option, Some, None}
use Rattle.std.proofs.lemmas.List.{length-replicate}
use Rattle.std.proofs.lemmas.Option.{none-some, same_Some}
use Rattle.rasn_types.specs.Values.{Value, bag_of, nothing}
use Rattle.rasn_constraints.specs.Bounds.{Size}
use Rattle.rasn_schema.specs.Structures.{list_value}
use Rattle.rasn_schema.specs.Schemas.{Schema}
use Rattle.rasn_traits.specs.Amounts.{only_values}
use Rattle.rasn_traits.specs.Bags.{bag_schema, BagOpened, ClosesBag, MemberAwaited, WritesMember}
use Rattle.rasn_traits.specs.Calls.{Written}
use Rattle.rasn_traits.specs.Lists.{ClosesList, ElementAwaited, ListForm, ListOpened, schema_of, WritesNext}
use Rattle.rasn_traits.specs.ListsInTurn.{ClosesBagInTurn, ClosesListInTurn, WritesMemberInTurn, WritesNextInTurn}
use Rattle.per_write.specs.Components.{Encoding}
use Rattle.per_core.specs.declared.encode_error.EncodeError.{EncodeError}
use Rattle.per_write.specs.declared.lists.UnwrittenElements.{UnwrittenElements}
use Rattle.per_write.specs.Faults.{IsMemory, RefusesValue}
use Rattle.per_write.specs.Lists.{IsOpenList as IsOpenListIn, NextElement}
use Rattle.per_write.specs.Rules.{encoder_rules}
use Rattle.per_write.specs.WriterState.{empty_scope, Frame, WriterState, within}
use Rattle.per_write.specs.Unplaced.{OutsideUnplaced}
use Rattle.per_pieces.specs.Turns.{counts, Enclosing, in_list, is_between}
use Rattle.per_enc.specs.Bags.{IsOpenBag as IsOpenBagIn, NextMember, OpenBag, outside}
use Rattle.per_enc.specs.Rules.{encoding_rules, noting}
use Rattle.per_enc.specs.Scopes.{AwaitsValues, closed_off, IsAmidElement, IsOpenBag, IsOpenList}
use Rattle.per_enc.proofs.AroundSets.{memory_noted}
use Rattle.per_enc.proofs.NoOpenSet.{value_inside}
use Rattle.per_enc.proofs.Noting.{behaves_begun, refuses_alike, refuses_noted, written_noted}
use Rattle.per_enc.proofs.OpenBags.{left_within}
use Rattle.per_enc.proofs.Turns.{behaves_unclosed, not_unclosed, unclosed_untimely, values_untimely}

-- a writer that is closed off writes values as it did
memory_around : (e : EncodeError) (x : Encoding) → IsMemory e (closed_off (noting x).writer) → IsMemory e x.writer
memory_around e x m = memory_noted e x (record { kind_is = m.kind_is; codec_is = m.codec_is })

refuses_around : (e : EncodeError) (x : Encoding) (s : Schema) (v : Value) → RefusesValue e (closed_off (noting x).writer) s v → RefusesValue e x.writer s v
refuses_around e x s v h = refuses_noted e x s v (refuses_alike e (closed_off (noting x).writer) (noting x).writer s v refl refl h)

written_back : (x y : WriterState) (scope : Frame) (s : Schema) (v : Value) (result : Result (Unit {0}) EncodeError) → Some scope ≡ Some x.scope → Written encoder_rules s v (closed_off x) result y
    → Written encoder_rules s v x result (record y { scope = scope })
written_back x y scope s v (Ok u) e w = record { begun = w.begun; left = w.left; same = w.same; beside = same_Some scope x.scope e; appended = w.appended }
written_back x y scope s v (Err d) e (inl m) = inl (record { kind_is = m.kind_is; codec_is = m.codec_is })
written_back x y scope s v (Err d) e (inr r) = inr (refuses_alike d (closed_off x) x s v refl refl r)

-- no presence bit and no addition is left in it
record Vacant (y : WriterState) : Type 0 where
  presences : y.scope.presences.left ≡ 0
  additions : y.scope.additions ≡ None

vacant_in : (b : Bool) (x y : WriterState) → (within b y).scope ≡ (closed_off x).scope → Vacant y
vacant_in b x y e = record { presences = ap (λ (s : Frame). s.presences.left) e; additions = ap (λ (s : Frame). s.additions) e }

vacant_alike : (y z : WriterState) → z.scope ≡ y.scope → Vacant y → Vacant z
vacant_alike y z e v = record { presences = ap (λ (s : Frame). s.presences.left) e ∙ v.presences; additions = ap (λ (s : Frame). s.additions) e ∙ v.additions }

alone : (z : WriterState) → z.scope ≡ empty_scope true → Vacant z
alone z e = record { presences = ap (λ (s : Frame). s.presences.left) e; additions = ap (λ (s : Frame). s.additions) e }

awaits_in : (n : ℕ) (y : Encoding) → y.writer.failed ≡ false → y.set ≡ counts (in_list n) → Vacant y.writer → AwaitsValues n y
awaits_in n y f t v = record { unfailed = f; turn = t; presences = v.presences; additions = v.additions }

-- a list is opened
pub list_opened : (size : Size) (mark : Bool) (n : ℕ) (x y : Encoding) (l : UnwrittenElements) (scope : Frame) (set : Enclosing) → scope ≡ (noting x).writer.scope → set ≡ (noting x).set → y.set ≡ counts (in_list 0)
    → ListOpened encoder_rules IsOpenListIn size mark n (closed_off (noting x).writer) (Ok l) y.writer → ListOpened encoding_rules IsOpenList size mark n x (Ok ((l, Some scope), set)) y
list_opened size mark n x y l scope set o w i h = λ e vs c. record { opened = (h e vs c, ap Some o); waits = w; inside = i }

pub list_refused : (size : Size) (mark : Bool) (n : ℕ) (x : Encoding) (e : EncodeError) (y : WriterState) (z : Encoding) → ListOpened encoder_rules IsOpenListIn size mark n (closed_off (noting x).writer) (Err e) y
    → ListOpened encoding_rules IsOpenList size mark n x (Err e) z
list_refused size mark n x e y z (inl m) = inl (memory_around e x m)
list_refused size mark n x e y z (inr r) = inr (λ s vs c. refuses_around e x (Schema.list s size mark) (list_value vs) (r s vs c))

pub list_awaits : (size : Size) (mark : Bool) (n : ℕ) (x : WriterState) (y : Encoding) (l : UnwrittenElements) → ListOpened encoder_rules IsOpenListIn size mark n (closed_off x) (Ok l) y.writer → y.set ≡ counts (in_list 0) → AwaitsValues 0 y
list_awaits size mark n x y l h i =
    let w = (h Schema.null (replicate n nothing) (length-replicate n nothing)).remains in
    awaits_in 0 y w.left i (vacant_in l.around x y.writer w.beside)

-- a call before an element
element_awaited : (f : ListForm) (x : Encoding) (v : Value) (vs : List Value) (l m : UnwrittenElements) (scope : Option Frame) (set : Enclosing) (y z : Encoding) (result : Result (Unit {0}) EncodeError) → OnOk result (z.set ≡ counts (in_list 1))
    → WritesNext encoder_rules IsOpenListIn l y.writer result m z.writer → IsOpenList f x (v ∷ vs) ((l, scope), set) y → ElementAwaited encoding_rules IsOpenList f x v vs result ((m, scope), set) z
element_awaited f x v vs l m scope set y z (Ok u) t w h =
    let a = w.law f (closed_off (noting x).writer) v vs h.opened.0 in
    record {
      presented = λ q p. let i = value_inside z q f.element v t p in record { opened = (a.presented q.writer i.0, h.opened.1); waits = h.waits; inside = i.1 };
      refused = λ d r. refuses_around d x (schema_of f) (list_value f.all) (a.refused d r);
      room = λ d r. memory_around d x (a.room d r);
    }
element_awaited f x v vs l m scope set y z (Err d) t w h = refused (w.law f (closed_off (noting x).writer) v vs h.opened.0)
  where
    refused : ElementAwaited encoder_rules IsOpenListIn f (closed_off (noting x).writer) v vs (Err d) m z.writer → ElementAwaited encoding_rules IsOpenList f x v vs (Err d) ((m, scope), set) z
    refused (inl q) = inl (memory_around d x q)
    refused (inr r) = inr (refuses_around d x (schema_of f) (list_value f.all) r)

pub element_next : (l m : UnwrittenElements) (scope : Option Frame) (set : Enclosing) (y z : Encoding) (result : Result (Unit {0}) EncodeError) → y.writer.failed ≡ false → is_between y.set ≡ true → OnOk result (z.set ≡ counts (in_list 1))
    → NextElement l y.writer result m z.writer → WritesNextInTurn encoding_rules AwaitsValues IsOpenList ((l, scope), set) y result ((m, scope), set) z
element_next l m scope set y z result f b t w = record {
  goes_on = record {
    law = λ g x v vs h. element_awaited g x v vs l m scope set y z result t w.next h;
    late = λ g x h. w.next.late g (closed_off (noting x).writer) h.opened.0;
    behaves = behaves_begun f w.next.behaves.fails w.next.behaves.kept;
  };
  counts = λ g x v vs h. on_ok result t w.left w.beside (vacant_in l.around (noting x).writer y.writer h.opened.0.remains.beside);
  untimely = λ n i a. values_untimely n i y result a b;
}
  where
    on_ok : (r : Result (Unit {0}) EncodeError) → OnOk r (z.set ≡ counts (in_list 1)) → OnOk r (z.writer.failed ≡ false) → OnOk r (z.writer.scope ≡ y.writer.scope) → Vacant y.writer → OnOk r (AwaitsValues 1 z)
    on_ok (Ok u) i g e v = awaits_in 1 z g i (vacant_alike y.writer z.writer e v)
    on_ok (Err d) i g e v = tt

-- one that comes out of turn
pub element_untimely : (l m : UnwrittenElements × Option Frame) (set : Enclosing) (y z : Encoding) (e : EncodeError) → IsAmidElement e y → z.writer.failed ≡ true → z.writer.codec ≡ y.writer.codec
    → WritesNextInTurn encoding_rules AwaitsValues IsOpenList (l, set) y (Err e) (m, set) z
element_untimely l m set y z e u f k = record {
  goes_on = record {
    law = λ g x v vs h. absurd (not_unclosed e y u h.opened.0.remains.left (ap is_between h.inside));
    late = λ g x h. absurd (not_unclosed e y u h.opened.0.remains.left (ap is_between h.inside));
    behaves = behaves_unclosed e y z u f k;
  };
  counts = λ g x v vs h. tt;
  untimely = λ n i a. unclosed_untimely e i y (in_list n) (only_values n) a.turn a.unfailed u;
}

-- a list is closed
pub list_closed : (l : UnwrittenElements) (o : Option Frame) (scope : Frame) (set : Enclosing) (y : Encoding) (z : WriterState) (result : Result (Unit {0}) EncodeError) → o ≡ Some scope → y.writer.failed ≡ false → is_between y.set ≡ true
    → ClosesList encoder_rules IsOpenListIn l y.writer result z → ClosesListInTurn encoding_rules AwaitsValues IsOpenList ((l, o), set) y result (record { writer = record z { scope = scope }; set = set })
list_closed l o scope set y z result e f b w = record {
  closes = record {
    law = λ g x h. written_noted x (record { writer = record z { scope = scope }; set = set }) (schema_of g) (list_value g.all) result
        (written_back (noting x).writer z scope (schema_of g) (list_value g.all) result (sym e ∙ h.opened.1) (w.law g (closed_off (noting x).writer) h.opened.0)) h.waits;
    early = λ g x v vs h. w.early g (closed_off (noting x).writer) v vs h.opened.0;
    behaves = behaves_begun f w.behaves.fails w.behaves.kept;
  };
  untimely = λ n i a. values_untimely n i y result a b;
}

-- by hand a list is always open where a scope waits
pub list_without_scope : (l : UnwrittenElements) (o : Option Frame) (set : Enclosing) (y : Encoding) (z : WriterState) (result : Result (Unit {0}) EncodeError) → o ≡ None → y.writer.failed ≡ false → is_between y.set ≡ true
    → ClosesList encoder_rules IsOpenListIn l y.writer result z → ClosesListInTurn encoding_rules AwaitsValues IsOpenList ((l, o), set) y result (record { writer = z; set = set })
list_without_scope l o set y z result e f b w = record {
  closes = record {
    law = λ g x h. absurd (none-some (noting x).writer.scope (sym e ∙ h.opened.1));
    early = λ g x v vs h. absurd (none-some (noting x).writer.scope (sym e ∙ h.opened.1));
    behaves = behaves_begun f w.behaves.fails w.behaves.kept;
  };
  untimely = λ n i a. values_untimely n i y result a b;
}

pub list_untimely : (l : UnwrittenElements × Option Frame) (set : Enclosing) (y z : Encoding) (e : EncodeError) → IsAmidElement e y → z.writer.failed ≡ true → z.writer.codec ≡ y.writer.codec
    → ClosesListInTurn encoding_rules AwaitsValues IsOpenList (l, set) y (Err e) z
list_untimely l set y z e u f k = record {
  closes = record {
    law = λ g x h. absurd (not_unclosed e y u h.opened.0.remains.left (ap is_between h.inside));
    early = λ g x v vs h. absurd (not_unclosed e y u h.opened.0.remains.left (ap is_between h.inside));
    behaves = behaves_unclosed e y z u f k;
  };
  untimely = λ n i a. unclosed_untimely e i y (in_list n) (only_values n) a.turn a.unfailed u;
}

-- a bag is opened
pub bag_opened : (size : Size) (mark : Bool) (n : ℕ) (x y : Encoding) (b : OpenBag) (scope : Frame) (set : Enclosing) → scope ≡ (noting x).writer.scope → set ≡ (noting x).set → y.set ≡ counts (in_list 0)
    → BagOpened encoder_rules IsOpenBagIn size mark n (closed_off (noting x).writer) (Ok b) y.writer → BagOpened encoding_rules IsOpenBag size mark n x (Ok ((b, Some scope), set)) y
bag_opened size mark n x y b scope set o w i h = λ e vs c. record { opened = (h e vs c, ap Some o); waits = w; inside = i }

pub bag_refused : (size : Size) (mark : Bool) (n : ℕ) (x : Encoding) (e : EncodeError) (y : WriterState) (z : Encoding) → BagOpened encoder_rules IsOpenBagIn size mark n (closed_off (noting x).writer) (Err e) y
    → BagOpened encoding_rules IsOpenBag size mark n x (Err e) z
bag_refused size mark n x e y z (inl m) = inl (memory_around e x m)
bag_refused size mark n x e y z (inr r) = inr (λ s vs c. refuses_around e x (Schema.set_of s size mark) (bag_of vs) (r s vs c))

bag_vacant : (f : ListForm) (x : WriterState) (vs : List Value) (b : OpenBag) (y : WriterState) → b.waiting ≡ None → IsOpenBagIn f (closed_off x) vs b y → Vacant y
bag_vacant f x vs b y e h =
    let w = (h.amid f.all refl).remains in
    let same : outside b.waiting y ≡ y = ap (λ (o : Option OutsideUnplaced). outside o y) e in
    vacant_alike (outside b.waiting y) y (ap (λ (z : WriterState). z.scope) (sym same)) (vacant_in b.list.around x (outside b.waiting y) w.beside)

pub bag_awaits : (size : Size) (mark : Bool) (n : ℕ) (x : WriterState) (y : Encoding) (b : OpenBag) → b.waiting ≡ None → BagOpened encoder_rules IsOpenBagIn size mark n (closed_off x) (Ok b) y.writer → y.set ≡ counts (in_list 0)
    → AwaitsValues 0 y
bag_awaits size mark n x y b e h i =
    let w = h Schema.null (replicate n nothing) (length-replicate n nothing) in
    awaits_in 0 y (left_within _ (closed_off x) _ b y.writer w) i (bag_vacant _ x _ b y.writer e w)

-- a call before a member
member_awaited : (f : ListForm) (x : Encoding) (v : Value) (vs : List Value) (b c : OpenBag) (scope : Option Frame) (set : Enclosing) (y z : Encoding) (result : Result (Unit {0}) EncodeError) → OnOk result (z.set ≡ counts (in_list 1))
    → WritesMember encoder_rules IsOpenBagIn b y.writer result c z.writer → IsOpenBag f x (v ∷ vs) ((b, scope), set) y → MemberAwaited encoding_rules IsOpenBag f x v vs result ((c, scope), set) z
member_awaited f x v vs b c scope set y z (Ok u) t w h =
    let a = w.law f (closed_off (noting x).writer) v vs h.opened.0 in
    record {
      presented = λ q p. let i = value_inside z q f.element v t p in record { opened = (a.presented q.writer i.0, h.opened.1); waits = h.waits; inside = i.1 };
      refused = λ d r. refuses_around d x (bag_schema f) (bag_of f.all) (a.refused d r);
      room = λ d r. memory_around d x (a.room d r);
    }
member_awaited f x v vs b c scope set y z (Err d) t w h = refused (w.law f (closed_off (noting x).writer) v vs h.opened.0)
  where
    refused : MemberAwaited encoder_rules IsOpenBagIn f (closed_off (noting x).writer) v vs (Err d) c z.writer → MemberAwaited encoding_rules IsOpenBag f x v vs (Err d) ((c, scope), set) z
    refused (inl q) = inl (memory_around d x q)
    refused (inr r) = inr (refuses_around d x (bag_schema f) (bag_of f.all) r)

pub member_next : (b c : OpenBag) (scope : Option Frame) (set : Enclosing) (y z : Encoding) (result : Result (Unit {0}) EncodeError) → y.writer.failed ≡ false → is_between y.set ≡ true → OnOk result (z.set ≡ counts (in_list 1))
    → NextMember b y.writer result c z.writer → WritesMemberInTurn encoding_rules AwaitsValues IsOpenBag ((b, scope), set) y result ((c, scope), set) z
member_next b c scope set y z result f t i w = record {
  goes_on = record {
    law = λ g x v vs h. member_awaited g x v vs b c scope set y z result i w.next h;
    late = λ g x h. w.next.late g (closed_off (noting x).writer) h.opened.0;
    behaves = behaves_begun f w.next.behaves.fails w.next.behaves.kept;
  };
  counts = λ g x v vs h. on_ok result i w.left w.alone;
  untimely = λ n j a. values_untimely n j y result a t;
}
  where
    on_ok : (r : Result (Unit {0}) EncodeError) → OnOk r (z.set ≡ counts (in_list 1)) → OnOk r (z.writer.failed ≡ false) → OnOk r (z.writer.scope ≡ empty_scope true) → OnOk r (AwaitsValues 1 z)
    on_ok (Ok u) j g e = awaits_in 1 z g j (alone z.writer e)
    on_ok (Err d) j g e = tt

-- one that comes out of turn
pub member_untimely : (b c : OpenBag × Option Frame) (set : Enclosing) (y z : Encoding) (e : EncodeError) → IsAmidElement e y → z.writer.failed ≡ true → z.writer.codec ≡ y.writer.codec
    → WritesMemberInTurn encoding_rules AwaitsValues IsOpenBag (b, set) y (Err e) (c, set) z
member_untimely b c set y z e u f k = record {
  goes_on = record {
    law = λ g x v vs h. absurd (not_unclosed e y u (left_within g _ _ b.0 y.writer h.opened.0) (ap is_between h.inside));
    late = λ g x h. absurd (not_unclosed e y u (left_within g _ _ b.0 y.writer h.opened.0) (ap is_between h.inside));
    behaves = behaves_unclosed e y z u f k;
  };
  counts = λ g x v vs h. tt;
  untimely = λ n i a. unclosed_untimely e i y (in_list n) (only_values n) a.turn a.unfailed u;
}

-- a bag is closed
pub bag_closed : (b : OpenBag) (o : Option Frame) (scope : Frame) (set : Enclosing) (y : Encoding) (z : WriterState) (result : Result (Unit {0}) EncodeError) → o ≡ Some scope → y.writer.failed ≡ false → is_between y.set ≡ true
    → ClosesBag encoder_rules IsOpenBagIn b y.writer result z → ClosesBagInTurn encoding_rules AwaitsValues IsOpenBag ((b, o), set) y result (record { writer = record z { scope = scope }; set = set })
bag_closed b o scope set y z result e f t w = record {
  closes = record {
    law = λ g x h. written_noted x (record { writer = record z { scope = scope }; set = set }) (bag_schema g) (bag_of g.all) result
        (written_back (noting x).writer z scope (bag_schema g) (bag_of g.all) result (sym e ∙ h.opened.1) (w.law g (closed_off (noting x).writer) h.opened.0)) h.waits;
    early = λ g x v vs h. w.early g (closed_off (noting x).writer) v vs h.opened.0;
    behaves = behaves_begun f w.behaves.fails w.behaves.kept;
  };
  untimely = λ n i a. values_untimely n i y result a t;
}

pub bag_without_scope : (b : OpenBag) (o : Option Frame) (set : Enclosing) (y : Encoding) (z : WriterState) (result : Result (Unit {0}) EncodeError) → o ≡ None → y.writer.failed ≡ false → is_between y.set ≡ true
    → ClosesBag encoder_rules IsOpenBagIn b y.writer result z → ClosesBagInTurn encoding_rules AwaitsValues IsOpenBag ((b, o), set) y result (record { writer = z; set = set })
bag_without_scope b o set y z result e f t w = record {
  closes = record {
    law = λ g x h. absurd (none-some (noting x).writer.scope (sym e ∙ h.opened.1));
    early = λ g x v vs h. absurd (none-some (noting x).writer.scope (sym e ∙ h.opened.1));
    behaves = behaves_begun f w.behaves.fails w.behaves.kept;
  };
  untimely = λ n i a. values_untimely n i y result a t;
}

pub bag_untimely : (b : OpenBag × Option Frame) (set : Enclosing) (y z : Encoding) (e : EncodeError) → IsAmidElement e y → z.writer.failed ≡ true → z.writer.codec ≡ y.writer.codec
    → ClosesBagInTurn encoding_rules AwaitsValues IsOpenBag (b, set) y (Err e) z
bag_untimely b set y z e u f k = record {
  closes = record {
    law = λ g x h. absurd (not_unclosed e y u (left_within g _ _ b.0 y.writer h.opened.0) (ap is_between h.inside));
    early = λ g x v vs h. absurd (not_unclosed e y u (left_within g _ _ b.0 y.writer h.opened.0) (ap is_between h.inside));
    behaves = behaves_unclosed e y z u f k;
  };
  untimely = λ n i a. unclosed_untimely e i y (in_list n) (only_values n) a.turn a.unfailed u;
}
