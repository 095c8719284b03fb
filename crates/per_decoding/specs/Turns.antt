-- What a decoder counts of the values that come in the open scope.
use Rattle.std.specs.Prelude.{ℕ, zero, suc, Bool, true, false}

-- How many components are still to come in the open scope: nothing is counted there, so many, of a list so many values
-- before it is gone on in, or none is in turn.
pub data Turn : Type 0 where
  uncounted : Turn
  awaiting : ℕ → Turn
  in_list : ℕ → Turn
  misplaced : Turn

-- what is still to come after one component more
abbrev pub next : Turn → Turn
next uncounted = uncounted
next (awaiting zero) = misplaced
next (awaiting (suc n)) = awaiting n
next (in_list zero) = misplaced
next (in_list (suc n)) = in_list n
next misplaced = misplaced

-- what is still to come behind so many components
abbrev pub past : ℕ → Turn → Turn
past zero x = x
past (suc n) x = past n (next x)

-- whether a scope that counts what comes can end: all that is due came
abbrev pub is_complete : Turn → Bool
is_complete uncounted = false
is_complete (awaiting zero) = true
is_complete (awaiting (suc n)) = false
is_complete (in_list n) = false
is_complete misplaced = false

-- whether a list is open in which no value is still to come before it is gone on in
abbrev pub is_between : Turn → Bool
is_between uncounted = false
is_between (awaiting n) = false
is_between (in_list zero) = true
is_between (in_list (suc n)) = false
is_between misplaced = false

-- whether a scope in which nothing is counted can end
abbrev pub is_uncounted : Turn → Bool
is_uncounted uncounted = true
is_uncounted (awaiting n) = false
is_uncounted (in_list n) = false
is_uncounted misplaced = false

-- whether what comes is counted
abbrev pub is_counted : Turn → Bool
is_counted uncounted = false
is_counted (awaiting n) = true
is_counted (in_list n) = true
is_counted misplaced = true

-- within a list in which nothing is counted no scope around it can end that counts what comes
abbrev pub within_list : Turn → Turn
within_list uncounted = uncounted
within_list x = misplaced
