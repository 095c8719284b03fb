use Rattle.std.proofs.Common.{◌∙◌, ap, length, refl}
use Rattle.rasn_schema.specs.Forms.{size_of, is_size_marked}
use Rattle.per_de.proofs.Lending.{skipped}
use Rattle.per_de.proofs.Decoder.skip_octets.Goals as goal
