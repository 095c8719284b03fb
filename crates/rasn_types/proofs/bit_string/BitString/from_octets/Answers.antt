use Rattle.std.proofs.Common.{◌∙◌, ap, ℕ, take}
use Rattle.rasn_types.specs.Bits.{unpack}
use Rattle.rasn_types.proofs.Packing.{front_kept}
use Rattle.rasn_types.proofs.bit_string.BitString.from_octets.Goals as goal

pub returns : goal.returns
returns c = c.from_vec.ensures ∙ ap (λ os. take c.args.len (unpack os)) c.in_ok-kept.ensures.items
    ∙ ap (λ (n : ℕ). take c.args.len (unpack (take n c.args.octets.now))) c.div_ceil.ensures ∙ front_kept c.args.len c.args.octets.now
