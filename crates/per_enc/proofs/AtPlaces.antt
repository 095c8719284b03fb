-- What is written of what is at a place (X.691 14, 23).
use Rattle.std.specs.Prelude.{Result}
use Rattle.std.proofs.Common.{◌≡◌, refl, sym, ap, ◌∙◌, subst, ℕ, ◌+◌, ◌-◌, Bool, true, false, ltb-true, Option, Some, None, is_some, arith}
use Rattle.rasn_types.specs.Variants.{variant_of, Variant}
use Rattle.rasn_types.specs.declared.types.Codec.{Codec}
use Rattle.rasn_schema.specs.Enumerations.{is_extensible, items_of}
use Rattle.rasn_schema.specs.declared.items.ItemCounts.{ItemCounts}
use Rattle.rasn_schema.specs.declared.items.Place.{Place}
use Rattle.rasn_schema.specs.declared.items.Place.TheVariants.{Root, Added}
use Rattle.rasn_traits.specs.Counted.{item_at, stands_in}
use Rattle.per_core.specs.Canon.{canon, extension_bit, item_of}
use Rattle.per_core.specs.Counts.{constrained_whole, small}
use Rattle.per_core.specs.Writers.{◌▹◌, written_if}
use Rattle.per_core.specs.declared.encode_error.EncodeError.{EncodeError}
use Rattle.per_write.specs.Faults.{IsMemory}
use Rattle.per_write.specs.WriterState.{Puts, PutsIn, WriterState, StateAppends}
use Rattle.per_enc.specs.Placed.{placed_front}
use Rattle.per_enc.proofs.Placing.{two_put}

-- a list after the marker is there where the marker is
marked : (addeds : Option ℕ) → is_some addeds ≡ is_extensible addeds
marked None = refl
marked (Some n) = refl

pub root_put : (x m y : WriterState) (c : ItemCounts) (p : Place) (i n : ℕ) (marker : Bool) (result : Result (Unit {0}) EncodeError) → p ≡ Root i → stands_in c p ≡ true → n ≡ c.roots - 1 → marker ≡ is_some c.addeds
    → StateAppends x (extension_bit marker false) m → PutsIn IsMemory (λ a. constrained_whole a (n + 1) i) m result y → Puts IsMemory (placed_front (variant_of x.codec) c p) x result y
root_put x m y c (Root j) i n marker result e h k f b w =
    let same : i ≡ j = cc in
    let all : n + 1 ≡ c.roots = omega (arith, k, ltb-true j c.roots h) in
    two_put x m y (extension_bit (is_extensible c.addeds) false) (constrained_whole (variant_of x.codec) c.roots j) result
    (subst (λ (t : Bool). StateAppends x (extension_bit t false) m) (f ∙ marked c.addeds) b)
    (subst (λ (d : Codec). Puts IsMemory (constrained_whole (variant_of d) c.roots j) m result y) b.same
    (subst (λ (z : ℕ). Puts IsMemory (constrained_whole (variant_of m.codec) z j) m result y) all
    (subst (λ (z : ℕ). Puts IsMemory (constrained_whole (variant_of m.codec) (n + 1) z) m result y) same w)))
root_put x m y c (Added j) i n marker result e h k f b w = absurd cc

pub added_put : (x m y : WriterState) (c : ItemCounts) (p : Place) (i : ℕ) (marker : Bool) (result : Result (Unit {0}) EncodeError) → p ≡ Added i → marker ≡ is_some c.addeds
    → StateAppends x (extension_bit marker true) m → PutsIn IsMemory (λ a. small a i) m result y → Puts IsMemory (placed_front (variant_of x.codec) c p) x result y
added_put x m y c (Added j) i marker result e f b w =
    let same : i ≡ j = cc in
    two_put x m y (extension_bit (is_extensible c.addeds) true) (small (variant_of x.codec) j) result
    (subst (λ (t : Bool). StateAppends x (extension_bit t true) m) (f ∙ marked c.addeds) b)
    (subst (λ (d : Codec). Puts IsMemory (small (variant_of d) j) m result y) b.same
    (subst (λ (z : ℕ). Puts IsMemory (small (variant_of m.codec) z) m result y) same w))
added_put x m y c (Root j) i marker result e f b w = absurd cc

-- X.691 14: an item is what tells its place
pub item_front : (a : Variant) (c : ItemCounts) (p : Place) → stands_in c p ≡ true → placed_front a c p ≡ canon a (items_of c) (item_at p)
unfolding canon item_of
item_front a c (Root i) h = refl
item_front a c (Added i) h = ap (λ (t : Bool). extension_bit (is_extensible c.addeds) true ▹ written_if t (small a i)) (sym h)
