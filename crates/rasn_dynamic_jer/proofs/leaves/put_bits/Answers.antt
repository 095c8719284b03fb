use Rattle.std.proofs.Common.{◌∙◌, sym}
use Rattle.rasn_schema.specs.Forms.{size_of}
use Rattle.rasn_dynamic.specs.Types.{of_size}
use Rattle.rasn_dynamic_jer.proofs.Tokens.{normal_there}
use Rattle.rasn_dynamic_jer.proofs.leaves.put_bits.Goals as goal

pub returns-in_ok-normal-in-NamedBits : goal.returns-in_ok-normal-in-NamedBits
returns-in_ok-normal-in-NamedBits c =
    let least = (size_of (of_size c.in-NamedBits.size)).least in
    let e = c.in_ok-normal-in-NamedBits.ensures ∙ normal_there least c.least_of.result c.args.bits.now c.least_of.ensures.least c.least_of.ensures.few in
    rw (c.in-NamedBits.is, sym e, sym c.fixed_by-in-NamedBits.ensures) c.put_counted-in-NamedBits.ensures
