use Rattle.per_laws.proofs.named_bits.named_bits_are_written_alike_exactly_where_they_mean_the_same.Goals as goal
use Rattle.per_laws.proofs.Nameless

pub returns : goal.returns
returns c = Nameless.bytes_told_apart
