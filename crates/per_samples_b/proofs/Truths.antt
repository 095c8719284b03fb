-- Optional truth values in a row, read in turn.
use Rattle.std.proofs.Common.{arith, ◌≡◌, sym, subst, ℕ, suc, ◌<◌, ◌≤◌, Bool, IfOk, List, length, map, take, drop, slice_set, Result, Ok, Err, Option, Some, None}
use Rattle.rasn_below.specs.Values.{truth, slot_of, slot_levels}
use Rattle.rasn_below.specs.Components.{parts_of}
use Rattle.rasn_below.specs.Types.{boolean, optional}
use Rattle.rasn_below.specs.Calls.{AnswersAdditions, ReadsAddition, ReadsAdditions, reads_further, DecodesWell, DecoderRules}
use Rattle.rasn_below.proofs.Reading.{fails_further}
use Rattle.per_samples_b.specs.Many.{truths_from}
use Rattle.per_samples_b.proofs.Arrays.{read_there}

-- an optional truth value takes no level
pub takes_no_level : (o : Option Bool) (n : ℕ) → slot_levels (λ _. 0) o ≤ n
takes_no_level None n = omega arith
takes_no_level (Some b) n = omega arith

module _ {E S : Type 0} {rules : DecoderRules E S} (L : DecodesWell rules) where
  -- one that was read, and those after it
  pub truths_read : (i k n : ℕ) (ys : List (Option Bool)) (o : Option Bool) {s m : S} (t : S) (result : Result (List (Option Bool)) E) → i < length ys
      → IfOk result (λ xs. take (suc i) xs ≡ take (suc i) (slice_set ys i o)) → ReadsAddition rules optional boolean s (slot_of truth o) m
      → AnswersAdditions rules (parts_of (truths_from (suc i) k) n) (λ xs. map (slot_of truth) (drop (suc i) xs)) m result t
      → AnswersAdditions rules (parts_of (truths_from i (suc k)) n) (λ xs. map (slot_of truth) (drop i xs)) s result t
  truths_read i k n ys o {s} {m} t (Ok xs) h e a b =
      subst (λ rs. ReadsAdditions rules (parts_of (truths_from i (suc k)) n) s (map (slot_of truth) rs) t) (sym (read_there i xs ys o h e)) (reads_further a b)
  truths_read i k n ys o t (Err d) h e a b = fails_further L a b
