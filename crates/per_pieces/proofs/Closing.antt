-- The components of a SET that is open, and whether they are those of its fields.
use Rattle.std.proofs.Common.{◌≡◌, ◌≢◌, refl, sym, ap, ap₂, ◌∙◌, ℕ, suc, ◌+◌, ◌<◌, ◌≤◌, Bool, true, false, ◌&&◌, List, [], ◌∷◌, map, length, drop, get_or, arith, Option, Some, None}
use Rattle.std.specs.Prelude.{if◌then◌else◌, not, replicate}
use Rattle.std.proofs.lemmas.List.{drop_all, drop_more, get_or-map, length-map, length-replicate}
use Rattle.std.proofs.lemmas.List.Elements.{All-replicate, All-same}
use Rattle.rasn_schema.specs.Fields.{Shape, shape_of}
use Rattle.rasn_schema.specs.declared.fields.Field.{Field}
use Rattle.per_pieces.specs.Pieces.{Pieces, unplaced}
use Rattle.per_pieces.specs.OpenSets.{Component, HasMemory, OpenSet, Underway, are_of, closed, components, is_complete, is_of, with_begun}

and_false : (b : Bool) → (b && false) ≡ false
and_false true = refl
and_false false = refl

-- components of fields are as many
pub not_as_many : (fs : List Shape) (cs : List Component) → length fs ≢ length cs → are_of fs cs ≡ false
not_as_many [] [] n = absurd (n refl)
not_as_many [] (c ∷ cs) n = refl
not_as_many (f ∷ fs) [] n = refl
not_as_many (f ∷ fs) (c ∷ cs) n = ap (λ (b : Bool). is_of f c && b) (not_as_many fs cs (λ e. n (ap suc e))) ∙ and_false (is_of f c)

pub as_many : (fs : List Shape) (cs : List Component) → are_of fs cs ≡ true → length cs ≡ length fs
as_many [] [] e = refl
as_many [] (c ∷ cs) e = absurd (let f : false ≡ true = e in cc)
as_many (f ∷ fs) [] e = absurd (let f : false ≡ true = e in cc)
as_many (f ∷ fs) (c ∷ cs) e = ap suc (as_many fs cs (second (is_of f c) (are_of fs cs) e))
  where
    second : (a b : Bool) → (a && b) ≡ true → b ≡ true
    second true b h = h
    second false b h = absurd (let g : false ≡ true = h in cc)

-- a further field and its component
pub further : (fs : List Shape) (cs : List Component) (i : ℕ) (f : Shape) (c : Component) → i < length fs → i < length cs → f ≡ get_or fs i f → c ≡ get_or cs i c
    → are_of (drop i fs) (drop i cs) ≡ (is_of f c && are_of (drop (i + 1) fs) (drop (i + 1) cs))
further fs cs i f c m n e d =
    ap₂ (λ (x : List Shape) (y : List Component). are_of x y) (drop_more fs i f m ∙ ap (λ (g : Shape). g ∷ drop (i + 1) fs) (sym e))
    (drop_more cs i c n ∙ ap (λ (k : Component). k ∷ drop (i + 1) cs) (sym d))

-- the same, where a test told whether the component is the field's
pub told : (fields : List Field) (cs : List Component) (i : ℕ) (d : Field) (c : Component) (b t : Bool) → i < length fields → i < length cs → c ≡ get_or cs i c
    → b ≡ is_of (shape_of (get_or fields i d)) c → b ≡ t → are_of (map shape_of fields) cs ≡ are_of (drop i (map shape_of fields)) (drop i cs)
    → are_of (map shape_of fields) cs ≡ (t && are_of (drop (i + 1) (map shape_of fields)) (drop (i + 1) cs))
told fields cs i d c b t m n at e u h =
    let f = shape_of (get_or fields i d) in
    let within : i < length (map shape_of fields) = omega (arith, m, length-map fields shape_of) in
    h ∙ further (map shape_of fields) cs i f c within n (sym (get_or-map shape_of fields i d f m)) at
    ∙ ap (λ (k : Bool). k && are_of (drop (i + 1) (map shape_of fields)) (drop (i + 1) cs)) (sym e ∙ u)

-- after the last there is none
pub after_all : (fs : List Shape) (cs : List Component) (i : ℕ) → length fs ≤ i → length cs ≤ i → are_of (drop i fs) (drop i cs) ≡ true
after_all fs cs i m n = ap₂ (λ (x : List Shape) (y : List Component). are_of x y) (drop_all i fs m) (drop_all i cs n)

-- memory for so many components, of which none was begun
pub has_memory : (count : ℕ) (done : List Component) (capacity : ℕ) (spare : List Pieces) → done ≡ [] → count ≤ capacity → spare ≡ replicate count unplaced → HasMemory done capacity None spare
has_memory count done capacity spare none le all = record {
  enough = (rw (none, all) (omega (arith, le, length-replicate count unplaced)));
  fresh = All-same (λ (ps : Pieces). ps ≡ unplaced) spare (replicate count unplaced) all (All-replicate (λ (ps : Pieces). ps ≡ unplaced) count unplaced refl);
}

-- all that were begun, once the last one is kept
pub all_begun : (x : OpenSet) (done ks : List Component) (begun : Option (Option Bool)) (value ps : Pieces) → done ≡ x.done → begun ≡ x.begun → ks ≡ with_begun done begun value → value ≡ ps
    → ks ≡ components (record { set = x; pieces = ps })
all_begun x done ks begun value ps d b e v =
    e ∙ ap (λ (cs : List Component). with_begun cs begun value) d ∙ ap (λ (o : Option (Option Bool)). with_begun x.done o value) b ∙ ap (with_begun x.done x.begun) v

-- a test told whether components are those of some fields
pub tested : (fs gs : List Shape) (ks cs : List Component) (b t : Bool) → gs ≡ fs → ks ≡ cs → b ≡ are_of gs ks → b ≡ t → are_of fs cs ≡ t
tested fs gs ks cs b t f k e u = sym (ap (λ (hs : List Shape). are_of hs cs) f) ∙ sym (ap (are_of gs) k) ∙ sym e ∙ u

-- a SET is closed
pub is_closed : (fs : List Shape) (u : Underway) (cs : List Component) → u.set.misplaced ≡ false → u.set.awaits ≡ false → cs ≡ components u → are_of fs cs ≡ true → Some cs ≡ closed fs u
is_closed fs u cs m a e h =
    let all : is_complete fs u ≡ true = ap₂ (λ (b c : Bool). not b && (not c && are_of fs (components u))) m a ∙ sym (ap (are_of fs) e) ∙ h in
    ap Some e ∙ sym (ap (λ (b : Bool). if b then Some (components u) else None) all)

pub is_not_closed : (fs : List Shape) (u : Underway) → is_complete fs u ≡ false → None ≡ closed fs u
is_not_closed fs u e = sym (ap (λ (b : Bool). if b then Some (components u) else None) e)

pub is_misplaced : (fs : List Shape) (u : Underway) → u.set.misplaced ≡ true → None ≡ closed fs u
is_misplaced fs u e = is_not_closed fs u (ap (λ (b : Bool). not b && (not u.set.awaits && are_of fs (components u))) e)

pub is_awaited : (fs : List Shape) (u : Underway) → u.set.awaits ≡ true → None ≡ closed fs u
is_awaited fs u e =
    is_not_closed fs u (ap (λ (b : Bool). not u.set.misplaced && (not b && are_of fs (components u))) e ∙ and_false (not u.set.misplaced))

pub is_incomplete : (fs : List Shape) (u : Underway) (cs : List Component) → cs ≡ components u → are_of fs cs ≡ false → None ≡ closed fs u
is_incomplete fs u cs e h =
    is_not_closed fs u (ap (λ (b : Bool). not u.set.misplaced && (not u.set.awaits && b)) (sym (ap (are_of fs) e) ∙ h)
    ∙ ap (λ (b : Bool). not u.set.misplaced && b) (and_false (not u.set.awaits)) ∙ and_false (not u.set.misplaced))
