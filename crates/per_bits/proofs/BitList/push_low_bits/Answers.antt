use Rattle.std.proofs.Common.{◌≡◌, ◌∙◌, ◌++◌, ap, sym, subst, ℕ}
use Rattle.std.specs.Prelude.{OnOk}
use Rattle.rasn_types.specs.Bits.{Bits}
use Rattle.per_bits.specs.Octets.{filled, low_bits_of}
use Rattle.per_bits.proofs.LowBits.{low-eight}
use Rattle.per_bits.proofs.Readers.{filled_by, padded_by, room_by}
use Rattle.per_bits.proofs.BitList.push_low_bits.Goals as goal

pub returns-then-width-eq8-clause-ok : goal.returns-then-width-eq8-clause-ok
returns-then-width-eq8-clause-ok g c =
    subst (λ (bits : Bits). OnOk c.push_octets.result (c.push_octets.new.self ≡ c.args.self.now ++ bits)) (sym (ap (λ (w : ℕ). low_bits_of w c.args.octets.now) c.if-width-eq8.true ∙ low-eight c.args.octets.now)) c.push_octets.ensures.ok

pub invariant_of-self-2 : goal.invariant_of-self-2
invariant_of-self-2 g c = room_by c.append_low_bits.ensures

pub returns-clause-ok : goal.returns-clause-ok
returns-clause-ok g c = filled_by c.append_low_bits.ensures
    ∙ ap (λ bs. bs ++ low_bits_of c.args.width c.args.octets.now) (filled_by c.cut_back-spare.ensures.bits ∙ ap (λ os. filled c.self.inside.spare os) c.reserve.ensures.items ∙ c.self.view_is)

pub append_low_bits-requires-clause-padded : goal.append_low_bits-requires-clause-padded
append_low_bits-requires-clause-padded g c = padded_by c.cut_back-spare.ensures.bits
