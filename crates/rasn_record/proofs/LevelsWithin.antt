-- Numbers of levels that are each at most another one.
use Rattle.std.proofs.Common.{◌≡◌, ◌≢◌, ◌⊎◌, inl, inr, ℕ, ◌≤◌, List, [], ◌∷◌, arith}
use Rattle.std.proofs.lemmas.Bool.{cases_eq}
use Rattle.rasn_record.specs.Lists.{AreWithin, Holds, both_within, deeper_of, deepest}

pub deepest_within : (depth : ℕ) (ls : List ℕ) → AreWithin depth ls → deepest ls ≤ depth
deepest_within depth [] h = omega arith
deepest_within depth (l ∷ ls) h = let a = h.0 in let b = deepest_within depth ls h.1 in omega arith

-- the levels of root components, and those of additions
pub root_within : (k m n : ℕ) → deeper_of k m ≤ n → k ≤ n
root_within k m n h = omega arith

pub added_within : (k m n : ℕ) → deeper_of k m ≤ n → m ≤ n
added_within k m n h = omega arith

held_by : {R A : Type 0} (depth k m : ℕ) → (depth ≡ deeper_of k m) ⊎ (depth ≢ deeper_of k m)
    → Holds depth (deeper_of k m) (R × A) → (R → k ≤ depth) → (A → m ≤ depth) → deeper_of k m ≤ depth
held_by depth k m (inl e) h r a = omega (arith, e)
held_by depth k m (inr d) h r a = let p = h d in both_within (a p.1) (r p.0)

-- a depth that holds root components and additions is at least that of the deepest
pub held_within : {R A : Type 0} (depth k m : ℕ) → Holds depth (deeper_of k m) (R × A) → (R → k ≤ depth) → (A → m ≤ depth)
    → deeper_of k m ≤ depth
held_within depth k m h r a = held_by depth k m (cases_eq depth (deeper_of k m)) h r a

plain_by : {R : Type 0} (depth k : ℕ) → (depth ≡ k) ⊎ (depth ≢ k) → Holds depth k R → (R → k ≤ depth) → deeper_of k 0 ≤ depth
plain_by depth k (inl e) h r = omega (arith, e)
plain_by depth k (inr d) h r = let p = r (h d) in omega (arith, p)

-- a depth that holds root components alone is at least that of the deepest
pub plain_within : {R : Type 0} (depth k : ℕ) → Holds depth k R → (R → k ≤ depth) → deeper_of k 0 ≤ depth
plain_within depth k h r = plain_by depth k (cases_eq depth k) h r
