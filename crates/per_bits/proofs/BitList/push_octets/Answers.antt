use Rattle.std.proofs.Common.{◌≡◌, ◌∙◌, ◌++◌, subst}
use Rattle.std.specs.Prelude.{OnOk}
use Rattle.rasn_types.specs.Bits.{Bits}
use Rattle.per_bits.proofs.LowBits.{low-eight}
use Rattle.per_bits.proofs.BitList.push_octets.Goals as goal

pub returns-then-octets-le7-clause-ok : goal.returns-then-octets-le7-clause-ok
returns-then-octets-le7-clause-ok g c =
    subst (λ (bits : Bits). OnOk c.push_field.result (c.push_field.new.self ≡ c.args.self.now ++ bits)) (c.field_of-field.ensures ∙ low-eight c.args.octets.now) c.push_field.ensures.ok
