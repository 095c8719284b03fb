use Rattle.per_laws.proofs.padding.zero_padded_encoding_is_decoded.Goals as goal
use Rattle.per_laws.proofs.Loosen

pub returns : goal.returns
returns c = Loosen.strict_is_loose
