-- The components of a SET, presented one after another in turn (ITU-T X.691, 21.1).
use Rattle.std.proofs.Common.{◌≡◌, refl, sym, ap, ap₂, subst, ◌∙◌, ℕ, zero, suc, ◌+◌, ◌<◌, Bool, true, false, List, [], ◌∷◌, ◌++◌, length, arith, Option, Some, None, length-append}
use Rattle.std.specs.Prelude.{if◌then◌else◌, not, ◌&&◌}
use Rattle.rasn_schema.specs.Fields.{Shape, shapes_from}
use Rattle.rasn_schema.specs.Schemas.{Parts, no_parts, part, count}
use Rattle.per_pieces.specs.Pieces.{Pieces, unplaced}
use Rattle.per_pieces.specs.OpenSets.{Component, OpenSet, Underway, are_of, begins, begins_value, begins_value_where, begins_where, closed, components, opened, says_present}
use Rattle.per_pieces.proofs.Closing.{as_many, is_closed}

-- of so many components of a SET that is after some pieces, the first were presented, and were written as these
pub record HasPresented (all : ℕ) (outer : Pieces) (cs : List Component) (u : Underway) : Type 0 where
  pub outside : u.set.outer ≡ outer
  pub done : components u ≡ cs
  pub told : u.set.awaits ≡ false
  pub room : u.set.room + length cs ≡ all
  pub in_turn : u.set.misplaced ≡ false

-- none was presented
pub none_presented : (all : ℕ) (outer : Pieces) → HasPresented all outer [] (opened all outer)
none_presented all outer = record { outside = refl; done = refl; told = refl; room = omega arith; in_turn = refl }

-- a SET in which a further component was begun
abbrev pub begun : ℕ → Option Bool → Underway → OpenSet
begun n bit u = record {
  outer = u.set.outer;
  done = components u;
  begun = Some bit;
  awaits = says_present bit;
  room = n;
  misplaced = u.set.misplaced;
}

-- a further one begins
pub begins_further : (bit : Option Bool) (u : Underway) (n : ℕ) → u.set.awaits ≡ false → u.set.room ≡ suc n → begins bit u ≡ record { set = begun n bit u; pieces = unplaced }
begins_further bit u n a r = ap₂ (λ (b : Bool) (m : ℕ). begins_where b m bit u) a r

-- there is room for a further one
has_room : (all : ℕ) (outer : Pieces) (cs : List Component) (u : Underway) → HasPresented all outer cs u → length cs < all → (n : ℕ) × (u.set.room ≡ suc n)
has_room all outer cs u h lt = go u.set.room refl
  where
    go : (m : ℕ) → u.set.room ≡ m → (n : ℕ) × (u.set.room ≡ suc n)
    go zero e = absurd (let f : u.set.room + length cs ≡ all = h.room in omega arith)
    go (suc n) e = (n, e)

-- it was begun, and its value is not awaited: whatever is written now is that
further_presented : (all : ℕ) (outer : Pieces) (cs : List Component) (u : Underway) (n : ℕ) (bit : Option Bool) (value : Pieces) → HasPresented all outer cs u → u.set.room ≡ suc n
    → HasPresented all outer (cs ++ record { bit = bit; value = value } ∷ []) (record { set = record (begun n bit u) { awaits = false }; pieces = value })
further_presented all outer cs u n bit value h r = record {
  outside = h.outside;
  done = ap (λ (ks : List Component). ks ++ record { bit = bit; value = value } ∷ []) h.done;
  told = refl;
  room = let e : u.set.room + length cs ≡ all = h.room in omega (arith, r, length-append cs (record { bit = bit; value = value } ∷ []));
  in_turn = h.in_turn;
}

-- what begins a component: its place is not known, and whatever is written now is its value
pub record BeginsComponent (all : ℕ) (outer : Pieces) (cs : List Component) (bit : Option Bool) (u : Underway) : Type 0 where
  pub nothing : u.pieces ≡ unplaced
  pub value : (ps : Pieces) → HasPresented all outer (cs ++ record { bit = bit; value = ps } ∷ []) (record { set = u.set; pieces = ps })

-- a component that is absent
pub presents_absent : (all : ℕ) (outer : Pieces) (cs : List Component) (u : Underway) → HasPresented all outer cs u → length cs < all → BeginsComponent all outer cs (Some false) (begins (Some false) u)
presents_absent all outer cs u h lt =
    let n = has_room all outer cs u h lt in
    subst (BeginsComponent all outer cs (Some false)) (sym (begins_further (Some false) u n.0 h.told n.1))
    (record { nothing = refl; value = λ ps. further_presented all outer cs u n.0 (Some false) ps h n.1 })

-- one that has no presence bit
pub presents_required : (all : ℕ) (outer : Pieces) (cs : List Component) (u : Underway) → HasPresented all outer cs u → length cs < all → BeginsComponent all outer cs None (begins_value u)
presents_required all outer cs u h lt =
    let n = has_room all outer cs u h lt in
    subst (BeginsComponent all outer cs None) (sym (ap (λ (b : Bool). begins_value_where b u) h.told ∙ begins_further None u n.0 h.told n.1))
    (record { nothing = refl; value = λ ps. further_presented all outer cs u n.0 None ps h n.1 })

-- one that may be absent and is there
pub presents_present : (all : ℕ) (outer : Pieces) (cs : List Component) (u : Underway) → HasPresented all outer cs u → length cs < all
    → BeginsComponent all outer cs (Some true) (begins_value (begins (Some true) u))
presents_present all outer cs u h lt =
    let n = has_room all outer cs u h lt in
    subst (BeginsComponent all outer cs (Some true)) (sym (ap begins_value (begins_further (Some true) u n.0 h.told n.1)))
    (record { nothing = refl; value = λ ps. further_presented all outer cs u n.0 (Some true) ps h n.1 })

-- all were presented
pub all_presented : (all : ℕ) (outer : Pieces) (cs : List Component) (u : Underway) (fs : List Shape) → HasPresented all outer cs u → are_of fs cs ≡ true → closed fs u ≡ Some cs
all_presented all outer cs u fs h e = sym (is_closed fs u cs h.in_turn h.told (sym h.done) e)

-- the components of a SET that is closed are those of its fields
pub closed_as : (fs : List Shape) (u : Underway) (cs : List Component) → closed fs u ≡ Some cs → (cs ≡ components u) × (are_of fs cs ≡ true)
closed_as fs u cs e = go u.set.misplaced u.set.awaits (are_of fs (components u)) refl e
  where
    go : (m a b : Bool) → are_of fs (components u) ≡ b → (if not m && (not a && b) then Some (components u) else None) ≡ Some cs → (cs ≡ components u) × (are_of fs cs ≡ true)
    go false false true f h =
        let same : components u ≡ cs = cc in
        (sym same, ap (are_of fs) (sym same) ∙ f)
    go true a b f h = absurd (let g : None ≡ Some cs = h in cc)
    go false true b f h = absurd (let g : None ≡ Some cs = h in cc)
    go false false false f h = absurd (let g : None ≡ Some cs = h in cc)

-- as many as there are parts
length_shapes : (i : ℕ) (ps : Parts) → length (shapes_from i ps) ≡ count ps
length_shapes i no_parts = refl
length_shapes i (part k p c ps) = omega (arith, length_shapes (suc i) ps)

pub closed_count : (fs : List Shape) (u : Underway) (cs : List Component) (ps : Parts) → closed fs u ≡ Some cs → fs ≡ shapes_from 0 ps → length cs ≡ count ps
closed_count fs u cs ps e f = as_many fs cs (closed_as fs u cs e).1 ∙ ap length f ∙ length_shapes 0 ps
