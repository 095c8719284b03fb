-- What is in a Dnest, by its fields.
use denote.Hole.Carrier.{out, roll}
use Rattle.std.proofs.Common.{◌≡◌, refl, Box, Global, suc, max, Option, Some, None, [], ◌∷◌}
use Rattle.jiff.specs.Types.{Date}
use Rattle.rasn_below.specs.Times.{date_value}
use Rattle.rasn_below.specs.Values.{sequence_value, slot_of, slot_levels}
use Rattle.per_samples_sets.specs.Dnests.{dnest_contents, dnest_depth}
use Rattle.per_samples_sets.specs.declared.dnest.Dnest.{Dnest, Dnest', None', Some'}
use Rattle.per_samples_sets.specs.declared.dnest.Dnest.TheViews.{out-Dnest, roll-Dnest}

-- what is read, of its components
pub contents_read : (x : Option (Box Dnest Global)) (d : Option Date)
    → dnest_contents (roll-Dnest (record { inner = x; d = d })) ≡ slot_of (λ b. sequence_value (dnest_contents b.value)) x ∷ slot_of date_value d ∷ []
unfolding roll-Dnest roll
contents_read None d = refl
contents_read (Some b) d = refl

-- and what is looked at, with how many levels that takes
pub contents_of : (x : Dnest) → dnest_contents x ≡ slot_of (λ b. sequence_value (dnest_contents b.value)) ((out-Dnest x).inner) ∷ slot_of date_value ((out-Dnest x).d) ∷ []
unfolding out-Dnest out
contents_of (Dnest' None' d) = refl
contents_of (Dnest' (Some' p x) d) = refl

pub depth_of : (x : Dnest) → dnest_depth x ≡ max (slot_levels (λ b. suc (dnest_depth b.value)) ((out-Dnest x).inner)) (max (slot_levels (λ _. 2) ((out-Dnest x).d)) 0)
unfolding out-Dnest out
depth_of (Dnest' None' d) = refl
depth_of (Dnest' (Some' p x) d) = refl
