-- What is in a Nest, by its field.
use denote.Hole.Carrier.{out, roll}
use Rattle.std.proofs.Common.{◌≡◌, refl, Box, Global, Option, Some, None, [], ◌∷◌}
use Rattle.rasn_below.specs.Values.{sequence_value, slot_of}
use Rattle.per_samples_c.specs.Nests.{nest_contents}
use Rattle.per_samples_c.specs.declared.nest.Nest.{Nest, Nest', None', Some'}
use Rattle.per_samples_c.specs.declared.nest.Nest.TheViews.{out-Nest, roll-Nest}

-- what is read, of its component
pub contents_read : (x : Option (Box Nest Global)) → nest_contents (roll-Nest (record { inner = x })) ≡ slot_of (λ b. sequence_value (nest_contents b.value)) x ∷ []
unfolding roll-Nest roll
contents_read None = refl
contents_read (Some b) = refl

-- and what is looked at
pub contents_of : (x : Nest) → nest_contents x ≡ slot_of (λ b. sequence_value (nest_contents b.value)) ((out-Nest x).inner) ∷ []
unfolding out-Nest out
contents_of (Nest' None') = refl
contents_of (Nest' (Some' p x)) = refl
