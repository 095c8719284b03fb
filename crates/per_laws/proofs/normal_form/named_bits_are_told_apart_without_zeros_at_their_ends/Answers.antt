use Rattle.per_laws.proofs.normal_form.named_bits_are_told_apart_without_zeros_at_their_ends.Goals as goal
use Rattle.per_laws.proofs.Named

pub returns : goal.returns
returns c = Named.told_apart
