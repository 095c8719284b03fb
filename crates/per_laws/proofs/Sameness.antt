-- What passes a test of being one is one, and what a whole tree is to any number of levels.
use Rattle.std.proofs.Common.{eqb-true, ◌≡◌, refl, sym, ap, ap₂, ℕ, Bool, true, false, Option, Some, None, ℤ, pos, negsuc}
use Rattle.rasn_types.specs.Contents.{TextKind, TimeKind}
use Rattle.rasn_types.specs.Values.{whole_code}
use Rattle.rasn_constraints.specs.Bounds.{Bounds, Size}
use Rattle.rasn_schema.specs.Levels.{ToLevels, PartsToLevels, to_leaf, to_date, no_date, still_cut, no_level, to_containing, to_list, to_set_of, to_sequence, to_choice, to_no_parts, to_part}
use Rattle.rasn_schema.specs.Schemas.{TagTree, TagTrees, leaf, one_of, no_trees, tree, Order, listed, by_tag, Schema, Parts, part}
use Rattle.rasn_types.proofs.Codes.{equal_lists_same}
use Rattle.per_core.proofs.LengthForms.{and_left, and_right}
use Rattle.per_laws.proofs.Tagged.{one_tag}
use Rattle.per_laws.specs.Sameness.{same_truth, same_count, same_size, same_number, same_bounds, same_text, same_time, same_order, same_tree, same_trees, is_whole, are_whole}

pub one_truth : (a b : Bool) → same_truth a b ≡ true → a ≡ b
one_truth true b e = sym e
one_truth false true e = absurd (cc)
one_truth false false e = refl

one_count : (a b : Option ℕ) → same_count a b ≡ true → a ≡ b
one_count None None e = refl
one_count (Some a) (Some b) e = ap Some (eqb-true a b e)
one_count None (Some b) e = absurd (cc)
one_count (Some a) None e = absurd (cc)

pub one_size : (a b : Size) → same_size a b ≡ true → a ≡ b
one_size a b e =
    ap₂ (λ (l m : Option ℕ). let x : Size = record { least = l; most = m } in x)
    (one_count a.least b.least (and_left (same_count a.least b.least) (same_count a.most b.most) e))
    (one_count a.most b.most (and_right (same_count a.least b.least) (same_count a.most b.most) e))

one_whole : (a b : ℤ) → whole_code a ≡ whole_code b → a ≡ b
one_whole (pos a) (pos b) e = cc
one_whole (negsuc a) (negsuc b) e = cc
one_whole (pos a) (negsuc b) e = absurd (cc)
one_whole (negsuc a) (pos b) e = absurd (cc)

one_number : (a b : Option ℤ) → same_number a b ≡ true → a ≡ b
one_number None None e = refl
one_number (Some a) (Some b) e = ap Some (one_whole a b (equal_lists_same (whole_code a) (whole_code b) e))
one_number None (Some b) e = absurd (cc)
one_number (Some a) None e = absurd (cc)

pub one_bounds : (a b : Bounds) → same_bounds a b ≡ true → a ≡ b
one_bounds a b e =
    ap₂ (λ (l h : Option ℤ). let x : Bounds = record { low = l; high = h } in x)
    (one_number a.low b.low (and_left (same_number a.low b.low) (same_number a.high b.high) e))
    (one_number a.high b.high (and_right (same_number a.low b.low) (same_number a.high b.high) e))

pub one_text : (a b : TextKind) → same_text a b ≡ true → a ≡ b
one_text TextKind.utf8 TextKind.utf8 e = refl
one_text TextKind.other TextKind.other e = refl
one_text _ _ e = absurd (cc)

pub one_time : (a b : TimeKind) → same_time a b ≡ true → a ≡ b
one_time TimeKind.utc TimeKind.utc e = refl
one_time TimeKind.generalized TimeKind.generalized e = refl
one_time _ _ e = absurd (cc)

pub one_order : (a b : Order) → same_order a b ≡ true → a ≡ b
one_order listed listed e = refl
one_order by_tag by_tag e = refl
one_order _ _ e = absurd (cc)

mutual
  pub one_tree : (t u : TagTree) → same_tree t u ≡ true → t ≡ u
  one_tree (leaf t) (leaf u) e = ap leaf (one_tag t u e)
  one_tree (one_of t ts) (one_of u us) e =
      ap₂ one_of (one_tree t u (and_left (same_tree t u) (same_trees ts us) e)) (ones_trees ts us (and_right (same_tree t u) (same_trees ts us) e))
  one_tree (leaf t) (one_of u us) e = absurd (cc)
  one_tree (one_of t ts) (leaf u) e = absurd (cc)

  ones_trees : (ts us : TagTrees) → same_trees ts us ≡ true → ts ≡ us
  ones_trees no_trees no_trees e = refl
  ones_trees (tree t ts) (tree u us) e =
      ap₂ tree (one_tree t u (and_left (same_tree t u) (same_trees ts us) e)) (ones_trees ts us (and_right (same_tree t u) (same_trees ts us) e))
  ones_trees no_trees (tree u us) e = absurd (cc)
  ones_trees (tree t ts) no_trees e = absurd (cc)

-- a whole tree to some levels is the whole of each tree that it is
mutual
  pub whole_stays : {k : ℕ} {s t : Schema} → ToLevels k s t → is_whole s ≡ true → t ≡ s
  whole_stays (to_leaf h) w = refl
  whole_stays to_date w = refl
  whole_stays (no_date h) w = absurd (cc)
  whole_stays (still_cut h) w = absurd (cc)
  whole_stays (no_level h) w = absurd (cc)
  whole_stays (to_containing c) w = ap Schema.containing (whole_stays c w)
  whole_stays (to_list {size = size} {mark = mark} c) w = ap (λ e. Schema.list e size mark) (whole_stays c w)
  whole_stays (to_set_of {size = size} {mark = mark} c) w = ap (λ e. Schema.set_of e size mark) (whole_stays c w)
  whole_stays (to_sequence {o = o} {ext = ext} {ps = ps} {adds = adds} c d) w =
      ap₂ (λ qs bs. Schema.sequence o qs ext bs) (whole_parts c (and_left (are_whole ps) (are_whole adds) w)) (whole_parts d (and_right (are_whole ps) (are_whole adds) w))
  whole_stays (to_choice {ext = ext} {ps = ps} {adds = adds} c d) w =
      ap₂ (λ qs bs. Schema.choice qs bs ext) (whole_parts c (and_left (are_whole ps) (are_whole adds) w)) (whole_parts d (and_right (are_whole ps) (are_whole adds) w))

  whole_parts : {k : ℕ} {ps qs : Parts} → PartsToLevels k ps qs → are_whole ps ≡ true → qs ≡ ps
  whole_parts to_no_parts w = refl
  whole_parts (to_part {t = t} {p = p} {s = s} {ps = ps} c cs) w =
      ap₂ (λ r rs. part t p r rs) (whole_stays c (and_left (is_whole s) (are_whole ps) w)) (whole_parts cs (and_right (is_whole s) (are_whole ps) w))
