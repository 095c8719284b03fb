use Rattle.std.proofs.Common.{◌≡◌, ◌∙◌, ◌-◌, ◌*◌, ap, length, arith}
use Rattle.std.specs.Prelude.{slice_get}
use Rattle.rasn_types.proofs.Packing.{bit_there, no_bit}
use Rattle.per_bits.specs.Octets.{filled}
use Rattle.per_bits.proofs.Readers.{filled_length}
use Rattle.per_bits.proofs.BitList.get.Goals as goal

pub returns-then-index-len : goal.returns-then-index-len
returns-then-index-len g c =
    let l = filled_length c.self.inside.spare c.self.inside.octets.items in
    let e : length (filled c.self.inside.spare c.self.inside.octets.items) ≡ c.len.result = ap length c.self.view_is ∙ omega arith in
    bit_there (8 * length c.self.inside.octets.items - c.self.inside.spare) c.self.inside.octets.items c.args.index c.index-octet.result.now (omega arith) (omega arith) c.index-octet.ensures ∙ ap (λ bs. slice_get bs c.args.index) c.self.view_is

pub returns-else-index-len : goal.returns-else-index-len
returns-else-index-len g c =
    let l = filled_length c.self.inside.spare c.self.inside.octets.items in
    let e : length (filled c.self.inside.spare c.self.inside.octets.items) ≡ c.len.result = ap length c.self.view_is ∙ omega arith in
    no_bit (8 * length c.self.inside.octets.items - c.self.inside.spare) c.self.inside.octets.items c.args.index (omega arith) (omega arith) ∙ ap (λ bs. slice_get bs c.args.index) c.self.view_is
