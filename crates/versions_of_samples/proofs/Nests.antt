-- Types that hold themselves are lawful: each of their trees, by the number of its levels.
use Rattle.std.proofs.Common.{◌≡◌, refl, ap, ℕ, zero, suc, Bool, true, false, ◌||◌, ◌&&◌}
use Rattle.rasn_types.specs.Values.{fields, no_slots, there}
use Rattle.rasn_schema.specs.Components.{sequence_at, sequence_levelled}
use Rattle.rasn_schema.specs.Depth.{meets_cut}
use Rattle.rasn_schema.specs.Lawful.{IsLawful, IsLawfulType, is_value}
use Rattle.rasn_schema.specs.Levels.{Levelled}
use Rattle.rasn_schema.specs.Normal.{normal}
use Rattle.rasn_schema.specs.Schemas.{Schema}
use Rattle.rasn_below.specs.Types.{date_at}
use Rattle.per_laws.proofs.Levelled.{levelled_type_unfolds}
use Rattle.per_samples_c.specs.AddedNests.{added_nest}
use Rattle.per_samples_c.specs.Deeps.{deep, nest_with}
use Rattle.per_samples_c.specs.Mutuals.{ping, ping_schema, pong, pong_schema}
use Rattle.per_samples_c.specs.Nests.{nest, nest_schema}
use Rattle.per_samples_sets.specs.Dnests.{dnest, dnest_schema}

of_levels : (T : ℕ → Schema) → Levelled T → ((n : ℕ) → IsLawful (T n)) → IsLawfulType T
of_levels T g h = record { unfolds = levelled_type_unfolds T g; lawful = h }

nest_lawful : (n : ℕ) → IsLawful (nest_schema n)
unfolding IsLawful
nest_lawful zero = tt
nest_lawful (suc n) = (record { root_groups = refl; few_bits = refl; lawful_tags = refl }, (tt, nest_lawful n, tt), tt)

nests_lawful : (n : ℕ) → IsLawful (sequence_at nest n)
unfolding IsLawful
nests_lawful zero = tt
nests_lawful (suc n) = nest_lawful (suc n)

pub nest_is_lawful : IsLawfulType (sequence_at nest)
nest_is_lawful = of_levels (sequence_at nest) (sequence_levelled nest) nests_lawful

mutual
  unfolding IsLawful

  ping_lawful : (n : ℕ) → IsLawful (ping_schema n)
  ping_lawful zero = tt
  ping_lawful (suc n) = (record { root_groups = refl; few_bits = refl; lawful_tags = refl }, (tt, pong_lawful n, tt), tt)

  pong_lawful : (n : ℕ) → IsLawful (pong_schema n)
  pong_lawful zero = tt
  pong_lawful (suc n) = (record { root_groups = refl; few_bits = refl; lawful_tags = refl }, (tt, ping_lawful n, tt), tt)

pings_lawful : (n : ℕ) → IsLawful (sequence_at ping n)
unfolding IsLawful
pings_lawful zero = tt
pings_lawful (suc n) = ping_lawful (suc n)

pub ping_is_lawful : IsLawfulType (sequence_at ping)
ping_is_lawful = of_levels (sequence_at ping) (sequence_levelled ping) pings_lawful

pongs_lawful : (n : ℕ) → IsLawful (sequence_at pong n)
unfolding IsLawful
pongs_lawful zero = tt
pongs_lawful (suc n) = pong_lawful (suc n)

pub pong_is_lawful : IsLawfulType (sequence_at pong)
pong_is_lawful = of_levels (sequence_at pong) (sequence_levelled pong) pongs_lawful

date_lawful : (n : ℕ) → IsLawful (date_at n)
unfolding IsLawful
date_lawful zero = tt
date_lawful (suc zero) = tt
date_lawful (suc (suc n)) = tt

dnest_lawful : (n : ℕ) → IsLawful (dnest_schema n)
unfolding IsLawful
dnest_lawful zero = tt
dnest_lawful (suc n) = (record { root_groups = refl; few_bits = refl; lawful_tags = refl }, (tt, dnest_lawful n, (tt, date_lawful n, tt)), tt)

dnests_lawful : (n : ℕ) → IsLawful (sequence_at dnest n)
unfolding IsLawful
dnests_lawful zero = tt
dnests_lawful (suc n) = dnest_lawful (suc n)

pub dnest_is_lawful : IsLawfulType (sequence_at dnest)
dnest_is_lawful = of_levels (sequence_at dnest) (sequence_levelled dnest) dnests_lawful

-- with such a component as an addition
added_lawful : (n : ℕ) → IsLawful (sequence_at added_nest n)
unfolding IsLawful
added_lawful zero = tt
added_lawful (suc n) = (record { root_groups = refl; few_bits = refl; lawful_tags = refl }, (tt, tt, tt), (tt, nests_lawful n, tt))

pub added_nest_is_lawful : IsLawfulType (sequence_at added_nest)
added_nest_is_lawful = of_levels (sequence_at added_nest) (sequence_levelled added_nest) added_lawful

-- the default is a value wherever it is whole, and in normal form
or_first : (b : Bool) → (b || false) ≡ false → b ≡ false
or_first false e = refl
or_first true e = e

nest_value : (n k : ℕ) → meets_cut (nest_schema n) (nest_with k) ≡ false → is_value (nest_schema n) (nest_with k) ≡ true
unfolding meets_cut is_value nest_with
nest_value zero k m = absurd (cc)
nest_value (suc n) zero m = refl
nest_value (suc n) (suc k) m =
    let h = nest_value n k (or_first (meets_cut (nest_schema n) (nest_with k)) (or_first (meets_cut (nest_schema n) (nest_with k) || false) m)) in
    ap (λ b. (b && true) && true) h

nest_normal : (n k : ℕ) → normal (nest_schema n) (nest_with k) ≡ nest_with k
unfolding normal nest_with
nest_normal zero k = refl
nest_normal (suc n) zero = refl
nest_normal (suc n) (suc k) = ap (λ v. fields (there v no_slots) no_slots) (nest_normal n k)

nests_value : (n k : ℕ) → meets_cut (sequence_at nest n) (nest_with k) ≡ false → is_value (sequence_at nest n) (nest_with k) ≡ true
nests_value zero k m = nest_value zero k m
nests_value (suc n) k m = nest_value (suc n) k m

nests_normal : (n k : ℕ) → normal (sequence_at nest n) (nest_with k) ≡ nest_with k
nests_normal zero k = nest_normal zero k
nests_normal (suc n) k = nest_normal (suc n) k

deep_lawful : (n : ℕ) → IsLawful (sequence_at deep n)
unfolding IsLawful
deep_lawful zero = tt
deep_lawful (suc n) = (
  record { root_groups = refl; few_bits = refl; lawful_tags = refl },
  (record { is_of_kind = nests_value n 199; is_normal = λ m. nests_normal n 199 }, nests_lawful n, tt),
  tt,
)

pub deep_is_lawful : IsLawfulType (sequence_at deep)
deep_is_lawful = of_levels (sequence_at deep) (sequence_levelled deep) deep_lawful
