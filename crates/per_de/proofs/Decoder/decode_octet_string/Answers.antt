use Rattle.std.proofs.Common.{length}
use Rattle.rasn_schema.specs.Forms.{size_of, is_size_marked}
use Rattle.per_de.proofs.InTurn.{begun, lent_noted}
use Rattle.per_de.proofs.Decoder.decode_octet_string.Goals as goal

pub returns-clause-read : goal.returns-clause-read
returns-clause-read c = begun _ c.in_ok-begin_value.ensures.noted c.read_octet_string.ensures.read

pub returns-clause-lent : goal.returns-clause-lent
returns-clause-lent c =
    lent_noted (size_of c.args.constraints.now) (is_size_marked c.args.constraints.now) c.args.self.now c.begin_value.new.self (length c.read_octet_string.new.self.bits) _ _ c.read_octet_string.result c.in_ok-begin_value.ensures.noted c.read_octet_string.ensures.lent
