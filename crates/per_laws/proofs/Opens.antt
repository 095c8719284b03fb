-- Open types: their octets, as they are read and as they are written.
use Rattle.std.proofs.Common.{◌≡◌, ◌↔◌, refl, ap, subst, ℕ, List, [], Option, Some, None}
use Rattle.rasn_types.specs.Bits.{Bits}
use Rattle.rasn_types.specs.Values.{Value}
use Rattle.rasn_types.specs.Variants.{Variant}
use Rattle.rasn_schema.specs.Schemas.{Schema}
use Rattle.per_core.specs.Basic.{Octets, OpenOf, basic, fills}
use Rattle.per_core.specs.Canon.{canon, bytes, completed}
use Rattle.per_core.specs.Counts.{open_bits, unconstrained_octets}
use Rattle.per_core.specs.Spellings.{Settings}
use Rattle.per_core.specs.Writers.{complete}
use Rattle.per_core.proofs.LengthForms.{same_octets}
use Rattle.per_core.proofs.Presenting.{octets_within}

pub open_is_complete : (a : Settings) (s : Schema) (v : Value) (os : List ℕ) (p : ℕ) (b : Bits) → Octets a os p b → OpenOf a (basic a s) v p b ↔ fills a s v os
open_is_complete a s v os p b h = (
  λ x. subst (λ z. fills a s v z) ((same_octets a x.octets os).agree p b b [] [] x.spelled h refl).0 x.are,
  λ x. record { octets = os; are = x; spelled = h },
)

pub open_is_written : (a : Settings) (s : Schema) (v : Value) (p : ℕ) (b : Bits) → open_bits a.variant (canon a.variant s v 0) p ≡ Some b
    → (os : List ℕ) × (bytes a.variant s v ≡ Some os) × Octets a os p b
unfolding bytes open_bits
open_is_written a s v p b e = go (canon a.variant s v 0) e
  where
    go : (o : Option Bits) → open_bits a.variant o p ≡ Some b → (os : List ℕ) × (completed o ≡ Some os) × Octets a os p b
    go None e = absurd (cc)
    go (Some bs) e = (complete bs, refl, (octets_within a (complete bs)).within p b e)

-- octets that contain a value
pub contained_is_written : (a : Variant) (s : Schema) (v : Value) (p : ℕ) (os : List ℕ) → bytes a s v ≡ Some os → canon a (Schema.containing s) v p ≡ unconstrained_octets a os p
unfolding bytes canon open_bits
contained_is_written a s v p os e = go (canon a s v 0) e
  where
    go : (o : Option Bits) → completed o ≡ Some os → open_bits a o p ≡ unconstrained_octets a os p
    go None e = absurd (cc)
    go (Some bs) e = let i : complete bs ≡ os = cc in ap (λ z. unconstrained_octets a z p) i

pub contained_is_refused : (a : Variant) (s : Schema) (v : Value) (p : ℕ) → bytes a s v ≡ None → canon a (Schema.containing s) v p ≡ None
unfolding bytes canon open_bits
contained_is_refused a s v p e = go (canon a s v 0) e
  where
    go : (o : Option Bits) → completed o ≡ None → open_bits a o p ≡ None
    go None e = refl
    go (Some bs) e = absurd (cc)
