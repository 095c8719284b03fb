use Rattle.per_read.proofs.Calls.{answers, passes_on, field_bit, no_bit_in}
use Rattle.per_read.proofs.Reader.take_bit.Goals as goal

pub returns-in_err-take_bits : goal.returns-in_err-take_bits
returns-in_err-take_bits c = let h = c.in_err-take_bits.ensures.err in passes_on _ _ c.from_residual.ensures.1 c.in_err-take_bits.ensures.kept (h.0, no_bit_in h.1)

pub returns : goal.returns
returns c = answers _ c.in_ok-take_bits.ensures.kept (field_bit c.in_ok-take_bits.ensures.ok)
