-- What is taken of values, one after another.
use Rattle.std.proofs.Common.{◌≡◌, ◌≢◌, refl, sym, ap, ◌∙◌, subst, ℕ, zero, suc, ◌+◌, ◌<◌, ◌≤◌, List, [], ◌∷◌, ◌++◌, length, get_or, take, drop, set, map, arith, Option, Some, None, option_map, Result, Ok, Err, IfOk, Bool, true, false, ◌||◌}
use Rattle.std.proofs.lemmas.Grind.{drop_more_same}
use Rattle.std.proofs.lemmas.List.{drop-set-lt, get_or-drop, length-append, length-take-le, take_all, take_more, take_more_set, with_items_is}
use Rattle.std.specs.Global.{Box, Vec}
use Rattle.std.specs.Vec.{with_items}
use Rattle.std.proofs.lemmas.Option.{slice_get-map}
use Rattle.std.specs.List.{list_any}
use Rattle.std.specs.Option.{option_and_then}
use Rattle.std.specs.Prelude.{is_some, slice_get}
use Rattle.per_core.proofs.LengthForms.{or_left, or_right}
use Rattle.rasn_dynamic.specs.declared.types.Component.{Component}
use Rattle.rasn_dynamic.specs.declared.types.ObjectSet.{ObjectSet}
use Rattle.rasn_dynamic.specs.declared.types.Row.{Row}
use Rattle.rasn_dynamic.specs.declared.types.Kind.{Kind}
use Rattle.rasn_dynamic.specs.declared.types.Kind.TheVariants.{List as ListKind, SetOf, Record as RecordKind, Choice as ChoiceKind, Open as OpenKind, Simple as SimpleKind, Date as DateKind, Containing}
use Rattle.rasn_dynamic.specs.declared.values.Value.{Value}
use Rattle.rasn_dynamic.specs.declared.values.Value.TheVariants.{Alternative, Bag, Elements, Fields, Octets}
use Rattle.rasn_schema.specs.declared.items.Place.{Place}
use Rattle.rasn_dynamic.specs.Types.{within}
use Rattle.rasn_types.specs.Variants.{variant_of}
use Rattle.rasn_dynamic.specs.Types.{schema_at}
use Rattle.rasn_dynamic.specs.Values.{levels_of, value_of}
use Rattle.per_core.specs.declared.encode_error.EncodeErrorKind.{EncodeErrorKind}
use Rattle.per_core.specs.declared.encode_error.EncodeErrorKind.TheVariants.{OutOfMemory as no_room_to_write}
use Rattle.rasn_per.specs.Calls.{AreUnread, HasNoBytes}
use Rattle.per_dynamic.specs.declared.open_types.OpenTypeError.{OpenTypeError}
use Rattle.per_dynamic.specs.OpenTypes.{AreTold, Each, fault, IsFaultOf, is_open, IsRowValue, IsUntaken, more, no_memory, none, row_of, set_of, Takes, TakesField, TakesFieldBy}
use Rattle.per_dynamic.specs.OpenTypes.{IsOpenRead, IsOpenWritten, TakesBag, TakesChoice, TakesList, TakesOneBy, TakesOpen, TakesParts, TakesRecord, told_at, unread}
use Rattle.per_dynamic.specs.declared.open_types.Way.{Way}

pub bools : {b : Bool} → b ≡ true → b ≡ false → ⊥
bools {b} e f = let h : true ≡ false = sym e ∙ f in absurd (cc)

-- a step of a loop that takes the elements of a list where they are
pub each_put : {A : Type 0} (r : ℕ → A → A → Type 0) (k : ℕ) (xs ys : List A) (x y : A) → k < length xs → k < length ys → x ≡ get_or ys k x
    → Each r (take k xs) (take k ys) × (drop k ys ≡ drop k xs) → r k x y
    → Each r (take (k + 1) xs) (take (k + 1) (set ys k y)) × (drop (k + 1) (set ys k y) ≡ drop (k + 1) xs)
each_put r k xs ys x y few fits is e h =
    let n : length (take k xs) ≡ k = length-take-le k xs (omega arith) in
    let z : k + 0 ≡ k = omega arith in
    let d : get_or ys k x ≡ get_or xs k x = subst (λ m. get_or ys m x ≡ get_or xs m x) z (sym (get_or-drop k ys 0 x) ∙ ap (λ zs. get_or zs 0 x) e.1 ∙ get_or-drop k xs 0 x) in (
      subst (λ zs. Each r zs (take (k + 1) (set ys k y))) (sym (take_more xs k x few ∙ ap (λ z. take k xs ++ z ∷ []) (sym (is ∙ d))))
          (subst (λ zs. Each r (take k xs ++ x ∷ []) zs) (sym (take_more_set ys k y fits)) (more e.0 (subst (λ m. r m x y) (sym n) h))),
      drop-set-lt (k + 1) ys k y (omega arith) ∙ drop_more_same ys xs k e.1,
    )

pub each_all : {A : Type 0} (r : ℕ → A → A → Type 0) (k : ℕ) (xs ys : List A) → length xs ≤ k → length ys ≤ k → Each r (take k xs) (take k ys) → Each r xs ys
each_all r k xs ys h g e = subst (λ zs. Each r zs ys) (take_all k xs h) (subst (λ zs. Each r (take k xs) zs) (take_all k ys g) e)

pub each_length : {A : Type 0} {r : ℕ → A → A → Type 0} {xs ys : List A} → Each r xs ys → length ys ≡ length xs
each_length none = refl
each_length (more {xs} {ys} {x} {y} e h) = length-append ys (y ∷ []) ∙ ap (λ n. n + 1) (each_length e) ∙ sym (length-append xs (x ∷ []))

-- a vector whose elements were taken where they are
pub each_kept : {A : Type 0} {r : ℕ → A → A → Type 0} (v : Vec A) (ws : List A) → Each r v.items ws → Each r v.items (with_items v ws).items
each_kept {r = r} v ws e = subst (λ zs. Each r v.items zs) (sym (with_items_is v ws (each_length e ∙ sym v.ok.0))) e

pub each_map : {A : Type 0} {r s : ℕ → A → A → Type 0} {xs ys : List A} → ((k : ℕ) (x y : A) → r k x y → s k x y) → Each r xs ys → Each s xs ys
each_map f none = none
each_map f (more {xs} {ys} {x} {y} e h) = more (each_map f e) (f (length xs) x y h)

-- the rows that are told are those that the record tells
pub takes_told : (way : Way) (ts : List Kind) (f : ℕ → Value → Value → Type 0) (cs : List Component) (xs : List Value) (own : List Component) (rows : List (Option ℕ))
    (k : ℕ) (x y : Value) → AreTold ts cs xs own rows → TakesFieldBy way ts f (told_at rows k) (slice_get own k) x y → TakesField way ts f cs xs (slice_get own k) x y
takes_told way ts f cs xs own rows k x y told h = go (slice_get own k) refl h
  where
    by_set : (c : Component) (o : Option ObjectSet) → slice_get own k ≡ Some c → set_of (slice_get ts c.of) ≡ o
        → TakesOneBy way ts f (told_at rows k) c.of o x y → TakesOneBy way ts f (row_of ts cs xs c) c.of o x y
    by_set c None e q h = h
    by_set c (Some s) e q h = subst (λ t. TakesOpen way ts f s t x y) (told k c e (ap is_some q)) h

    go : (o : Option Component) → slice_get own k ≡ o → TakesFieldBy way ts f (told_at rows k) o x y → TakesField way ts f cs xs o x y
    go None e h = h
    go (Some c) e h = by_set c (set_of (slice_get ts c.of)) e refl h

-- no row is told where there is no open type
pub none_told : (ts : List Kind) (cs : List Component) (xs : List Value) (own : List Component) → list_any (is_open ts) own ≡ false → AreTold ts cs xs own []
none_told ts cs xs own h k c e o = absurd (bools o (go own k h e))
  where
    go : (own : List Component) (k : ℕ) → list_any (is_open ts) own ≡ false → slice_get own k ≡ Some c → is_open ts c ≡ false
    go [] k h e = absurd cc
    go (d ∷ own) zero h e = let q : d ≡ c = cc in subst (λ (z : Component). is_open ts z ≡ false) q (or_left (is_open ts d) (list_any (is_open ts) own) h)
    go (d ∷ own) (suc k) h e = go own k (or_right (is_open ts d) (list_any (is_open ts) own) h) e

-- the rows of all components
pub all_told : (ts : List Kind) (cs : List Component) (xs : List Value) (own : List Component) → AreTold ts cs xs own (map (row_of ts cs xs) own)
all_told ts cs xs own k c e o = ap (option_and_then (λ row. row)) (slice_get-map (row_of ts cs xs) own k ∙ ap (option_map (row_of ts cs xs)) e)

-- levels
pub takes_below : (way : Way) (ts : List Kind) (n m i : ℕ) (x y : Value) → n ≡ suc m → TakesParts way ts (Takes way ts m) (within ts (slice_get ts i)) x y → Takes way ts n i x y
unfolding Takes
takes_below way ts zero m i x y e h = absurd cc
takes_below way ts (suc n) m i x y e h =
    let p : n ≡ m = cc in subst (λ (l : ℕ). TakesParts way ts (Takes way ts l) (within ts (slice_get ts i)) x y) (sym p) h

pub takes_last : (way : Way) (ts : List Kind) (n i : ℕ) (x y : Value) → n ≡ 0 → y ≡ x → Takes way ts n i x y
unfolding Takes
takes_last way ts zero i x y e h = h
takes_last way ts (suc n) i x y e h = absurd cc

pub no_level : (n : ℕ) → ¬ (1 ≤ n) → n ≡ 0
no_level zero h = refl
no_level (suc n) h = absurd (h (omega arith))

pub ok_as : {A E : Type 0} {P Q : A → Type 0} (r : Result A E) → ((y : A) → P y → Q y) → IfOk r P → IfOk r Q
ok_as (Ok y) f h = f y h
ok_as (Err e) f h = h

-- a value without bytes
pub untaken : (way : Way) (ts : List Kind) (i : ℕ) (w : Value) (kind : EncodeErrorKind) (e : OpenTypeError) → way.reads ≡ false → IsFaultOf kind e
    → (kind ≢ no_room_to_write → HasNoBytes (variant_of way.codec) (schema_at ts i) (levels_of w) (value_of w)) → IsUntaken way ts e
untaken way ts i w kind e r (no_memory q) h = subst (IsUntaken way ts) (sym q) tt
untaken way ts i w kind e r (fault n q) h = subst (IsUntaken way ts) (sym q) (r, (i, w, h n))

pub unread_row : (way : Way) (ts : List Kind) (f : ℕ → Value → Value → Type 0) (r : Row) (os : List ℕ) (y : Option Value) → y ≡ None
    → AreUnread (variant_of way.codec) (schema_at ts r.of) os → IsRowValue way ts f r os y
unread_row way ts f r os y e h = subst (IsRowValue way ts f r os) (sym e) (unread h)

-- a value in which no other is, and that is no octets, is left
module _ (x : Value) (no_octets : (os : List ℕ) → x ≡ Octets os → ⊥) (no_elements : (v : Vec Value) → x ≡ Elements v → ⊥) (no_bag : (v : Vec Value) → x ≡ Bag v → ⊥)
    (no_fields : (v w : Vec Value) → x ≡ Fields v w → ⊥) (no_alternative : (p : Place) (b : Box Value) → x ≡ Alternative p b → ⊥) (way : Way) (ts : List Kind) where
  parts_left : (f : ℕ → Value → Value → Type 0) (k : Option Kind) → TakesParts way ts f k x x
  parts_left f (Some (ListKind i c)) = TakesList.other no_elements refl
  parts_left f (Some (SetOf i c)) = TakesBag.other no_bag refl
  parts_left f (Some (RecordKind r)) = TakesRecord.other no_fields refl
  parts_left f (Some (ChoiceKind c)) = TakesChoice.other no_alternative refl
  parts_left f (Some (SimpleKind s)) = refl
  parts_left f (Some DateKind) = refl
  parts_left f (Some (Containing i)) = refl
  parts_left f (Some (OpenKind s)) = refl
  parts_left f None = refl

  takes_left : (n i : ℕ) → Takes way ts n i x x
  unfolding Takes
  takes_left zero i = refl
  takes_left (suc n) i = parts_left (Takes way ts n) (within ts (slice_get ts i))

  one_left : (n : ℕ) (told : Option ℕ) (i : ℕ) (o : Option ObjectSet) → TakesOneBy way ts (Takes way ts n) told i o x x
  one_left n told i None = takes_left n i
  one_left n told i (Some s) = ((λ r. IsOpenRead.other no_octets refl), (λ r. IsOpenWritten.other no_alternative refl))

  pub field_left : (n : ℕ) (told : Option ℕ) (c : Option Component) → TakesFieldBy way ts (Takes way ts n) told c x x
  field_left n told None = refl
  field_left n told (Some c) = one_left n told c.of (set_of (slice_get ts c.of))
