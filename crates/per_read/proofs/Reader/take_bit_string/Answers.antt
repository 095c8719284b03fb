use Rattle.std.proofs.Common.{◌≡◌, ◌∙◌, ◌+◌, ◌/◌, ap, length, map, subst, sym, arith}
use Rattle.rasn_types.proofs.Octets.{length-pack}
use Rattle.rasn_types.proofs.Packing.{viewed}
use Rattle.rasn_schema.specs.Forms.{size_of, is_size_marked}
use Rattle.per_core.specs.Basic.{Counted, bit}
use Rattle.per_core.specs.Counts.{bit_items}
use Rattle.per_core.specs.Spellings.{Took}
use Rattle.per_read.specs.Items.{bit_code}
use Rattle.per_read.specs.ReaderState.{settings_of}
use Rattle.per_read.proofs.Calls.{answers, passes_on}
use Rattle.per_read.proofs.Refusals.{faulty_map}
use Rattle.per_read.proofs.Coded.{bits_took, none_of_bits}
use Rattle.per_read.proofs.OneByOne.{bits_counted}
use Rattle.per_read.proofs.FragmentItems.{are_gathered}
use Rattle.per_read.proofs.Reader.take_bit_string.Goals as goal

pub returns-in_err-count : goal.returns-in_err-count
returns-in_err-count c =
    let h = c.in_err-count.ensures in
    passes_on _ _ c.from_residual.ensures.1 h.kept
    (faulty_map _ (λ h. h) (none_of_bits (settings_of c.args.self.now) (size_of c.args.constraints.now) (is_size_marked c.args.constraints.now)) (rw c.size.ensures at h.err))

pub from_vec-requires : goal.from_vec-requires
from_vec-requires c =
    let count : length c.take_items.new.items ≡ c.in_ok-count.count = bits_counted (rw c.size.ensures at c.in_ok-count.ensures.ok) c.new-list.ensures in
    let octets = ap length c.into_octets.ensures ∙ length-pack ((length c.take_items.new.items + 7) / 8) c.take_items.new.items in
    omega arith

pub returns : goal.returns
returns c =
    let t = c.in_ok-count.ensures in
    let took = rw c.size.ensures at t.ok in
    let h = are_gathered took (ap (λ z. map bit_code z) c.new-list.ensures) in
    let list = c.take_items.new.items in
    let count : length list ≡ c.in_ok-count.count = bits_counted took c.new-list.ensures in
    let same : c.from_vec.result ≡ list = c.from_vec.ensures ∙ viewed c.in_ok-count.count c.into_octets.result.items list count c.into_octets.ensures in
    answers _ t.kept (subst (λ z. Took (Counted (settings_of c.args.self.now) (size_of c.args.constraints.now) (is_size_marked c.args.constraints.now) bit_items bit z) c.args.self.now.bits c.take_items.new.self.bits) (sym same)
    (bits_took (settings_of c.args.self.now) (size_of c.args.constraints.now) (is_size_marked c.args.constraints.now) _ h.codes h.held h.took))
