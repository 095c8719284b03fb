use Rattle.std.proofs.Common.{◌∙◌, ap, ap₂, subst, sym, ℕ, take}
use Rattle.std.specs.Bool.{beq}
use Rattle.std.specs.Cmp.Lexicographic.{pointwise}
use Rattle.rasn_types.specs.Bits.{unpack}
use Rattle.rasn_types.specs.Packed.{ArePacked}
use Rattle.rasn_types.proofs.Packing.{views_same, views_other}
use Rattle.rasn_types.proofs.bit_string.BitStringPartialEq.eq.Goals as goal

pub returns-then-self-other : goal.returns-then-self-other
returns-then-self-other c = c.eq.ensures
    ∙ views_same c.self.inside.len c.self.inside.octets.items c.other.inside.octets.items c.self.invariant (subst (λ (n : ℕ). ArePacked n c.other.inside.octets.items) (sym c.if-self-other.true) c.other.invariant)
    ∙ ap₂ (pointwise beq) c.self.view_is (ap (λ (n : ℕ). take n (unpack c.other.inside.octets.items)) c.if-self-other.true ∙ c.other.view_is)

pub returns-else-self-other : goal.returns-else-self-other
returns-else-self-other c = views_other c.self.inside.len c.other.inside.len c.self.inside.octets.items c.other.inside.octets.items c.self.invariant c.other.invariant c.if-self-other.false
    ∙ ap₂ (pointwise beq) c.self.view_is c.other.view_is
