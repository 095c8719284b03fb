use Rattle.std.specs.Prelude.{OnOk}
use Rattle.std.proofs.Common.{◌≡◌, ◌∙◌, rules}
use Rattle.std.proofs.lemmas.Result.{IfOk-at_ok}
use Rattle.rasn_types.specs.Variants.{variant_of}
use Rattle.rasn_types.specs.Bits.{whole_bits}
use Rattle.per_core.specs.Counts.{counted_octets}
use Rattle.per_write.specs.WriterState.{StateAppends}
use Rattle.per_write.proofs.Unbounded.{wrote_whole, wrote_number}
use Rattle.per_write.proofs.Writer.put_unconstrained_whole.Goals as goal

pub returns-in_default : goal.returns-in_default
returns-in_default g c =
    let z = g.I.IntegerType.number c.args.value.now in
    record {
      ok = wrote_whole c.args.self.now c.unless_out_of_memory.new.self _ g.I.IntegerType.range z c.deref.result.now c.put_octets.result
          c.in_ok-octets.ensures.kept
          c.to_i128.ensures.held
          (c.deref.ensures.value ∙ IfOk-at_ok _ c.in_ok-octets.ensures.ok c.number_octets-octets.ensures.octets)
          c.put_octets.ensures.ok;
      err = search rules;
      fails = search rules;
      kept = search rules;
    }

pub returns : goal.returns
returns g c =
    let x = c.args.self.now in
    let y = c.unless_out_of_memory-2.new.self in
    let z = g.I.IntegerType.number c.args.value.now in
    let is : c.in-Some.number ≡ z = c.in-Some.ensures.number in
    let written : OnOk c.unless_out_of_memory-2.result (StateAppends x (counted_octets (variant_of x.codec) (whole_bits c.in-Some.number)) y) = search rules in
    record {
      ok = wrote_number x y g.I.IntegerType.range z c.in-Some.number c.unless_out_of_memory-2.result is c.to_i128.ensures.held written;
      err = search rules;
      fails = search rules;
      kept = search rules;
    }
