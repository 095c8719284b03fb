-- Each tree of a type keeps to the numbers of an i128 where that of 128 levels does.
use Rattle.std.proofs.Common.{◌≡◌, refl, sym, ap₂, subst, ℕ, ◌+◌, Bool, true, ◌&&◌, arith}
use Rattle.rasn_schema.specs.Depth.{CutOf, CutParts, cut_here, alike, cut_containing, cut_list, cut_set_of, cut_sequence, cut_choice, no_cut, cut_part}
use Rattle.rasn_schema.specs.Levels.{Levelled}
use Rattle.rasn_schema.specs.Schemas.{Schema, Parts}
use Rattle.per_core.proofs.LengthForms.{and_left, and_right}
use Rattle.per_laws.proofs.Levelled.{levels_up_to, to_cut}
use Rattle.per_laws.proofs.Sameness.{whole_stays}
use Rattle.per_laws.proofs.Judged.{judged_is_lawful}
use Rattle.per_laws.specs.Judged.{judgement}
use Rattle.per_laws.specs.Verdicts.{allowed}
use Rattle.per_versions.specs.NumbersKept.{KeepsToI128, keep_to_i128, keeps_to_i128}

and_both : (a b : Bool) → a ≡ true → b ≡ true → (a && b) ≡ true
and_both a b e f = ap₂ (λ x y. x && y) e f

-- a tree of which branches are cut off has no number more
mutual
  unfolding keeps_to_i128 keep_to_i128

  cut_kept : {s t : Schema} → CutOf s t → keeps_to_i128 t ≡ true → keeps_to_i128 s ≡ true
  cut_kept cut_here h = refl
  cut_kept (alike l) h = h
  cut_kept (cut_containing c) h = cut_kept c h
  cut_kept (cut_list c) h = cut_kept c h
  cut_kept (cut_set_of c) h = cut_kept c h
  cut_kept (cut_sequence {ps = ps} {qs = qs} {adds = adds} {bdds = bdds} c d) h =
      and_both (keep_to_i128 ps) (keep_to_i128 adds) (parts_kept c (and_left (keep_to_i128 qs) (keep_to_i128 bdds) h))
      (parts_kept d (and_right (keep_to_i128 qs) (keep_to_i128 bdds) h))
  cut_kept (cut_choice {ps = ps} {qs = qs} {adds = adds} {bdds = bdds} c d) h =
      and_both (keep_to_i128 ps) (keep_to_i128 adds) (parts_kept c (and_left (keep_to_i128 qs) (keep_to_i128 bdds) h))
      (parts_kept d (and_right (keep_to_i128 qs) (keep_to_i128 bdds) h))

  parts_kept : {ps qs : Parts} → CutParts ps qs → keep_to_i128 qs ≡ true → keep_to_i128 ps ≡ true
  parts_kept no_cut h = refl
  parts_kept (cut_part {s = s} {s' = t} {ps = ps} {ps' = qs} c cs) h =
      and_both (keeps_to_i128 s) (keep_to_i128 ps) (cut_kept c (and_left (keeps_to_i128 t) (keep_to_i128 qs) h))
      (parts_kept cs (and_right (keeps_to_i128 t) (keep_to_i128 qs) h))

-- a whole tree of 128 levels is each deeper one, and the others are that one with branches cut off
pub type_kept : (T : ℕ → Schema) → Levelled T → judgement T ≡ allowed → keeps_to_i128 (T 128) ≡ true → KeepsToI128 T
type_kept T g e k n =
    let m : ℕ = 128 + n in
    let j = judged_is_lawful (T 128) e in
    let whole : T m ≡ T 128 = whole_stays (levels_up_to T g 128 m (omega arith)) j.1 in
    let deep : keeps_to_i128 (T m) ≡ true = subst (λ s. keeps_to_i128 s ≡ true) (sym whole) k in
    cut_kept (to_cut (levels_up_to T g n m (omega arith))) deep
