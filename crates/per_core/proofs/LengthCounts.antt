-- The items that lengths count are few for their bits.
use Rattle.std.proofs.Common.{◌≡◌, ap, ◌∙◌, ℕ, ◌+◌, ◌*◌, ◌^◌, ◌<◌, ◌≤◌, length, arith, inl, inr, length-append}
use Rattle.rasn_types.specs.Bits.{Bits}
use Rattle.rasn_types.proofs.Bits.{number_below}
use Rattle.per_core.specs.Basic.{Fragment as OneFragment, LastCount}
use Rattle.per_core.specs.Spellings.{Spelling, Then}

-- a count below 16384, in eight bits or more
pub last_few : (n p : ℕ) (b : Bits) → LastCount n p b → n ≤ 8192 * length b
last_few n p b (inl x) = let h : n < 128 = x.0 in let k : length b ≡ 8 = x.1.wide in omega arith
last_few n p b (inr x) =
    let e : length x.front ≡ 2 = ap length x.is_front in
    let l : length b ≡ length x.front + length x.rest = ap length x.joins ∙ length-append x.front x.rest in
    let w : length x.rest ≡ 14 = x.is_rest.wide in
    let q : 2 ^ length x.rest ≡ 16384 = ap (λ (z : ℕ). 2 ^ z) w in
    let m = x.is_rest.means in
    let k = number_below x.rest in
    omega arith

-- a fragment's count, in eight bits
pub fragment_few : (n p : ℕ) (b : Bits) → OneFragment n p b → n ≤ 8192 * length b
fragment_few n p b x = let k : length b ≡ 8 = x.spelled.wide in let e : n ≡ 16384 * x.times = x.is in let h : x.times < 5 = x.few in omega arith

-- what is after another thing, and in front of it, is no longer than both
module _ {f g : Spelling} {p : ℕ} {b : Bits} (x : Then f g p b) where
  pub then_length : length b ≡ length x.front + length x.rest
  then_length = ap length x.joins ∙ length-append x.front x.rest
