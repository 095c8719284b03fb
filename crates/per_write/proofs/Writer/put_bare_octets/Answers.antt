use Rattle.std.specs.Prelude.{OnOk}
use Rattle.std.proofs.Common.{sym, rules}
use Rattle.std.proofs.lemmas.Result.{on_ok_weaker}
use Rattle.rasn_types.specs.Bits.{unpack}
use Rattle.per_core.specs.Counts.{octet_writers}
use Rattle.per_core.specs.Writers.{one_by_one, just}
use Rattle.per_write.specs.WriterState.{StateAppends}
use Rattle.per_pieces.proofs.Fragments.{octets_one_by_one}
use Rattle.per_write.proofs.Writing.{wrote_same}
use Rattle.per_write.proofs.Writer.put_bare_octets.Goals as goal

pub returns : goal.returns
returns g c =
    let x = c.args.self.now in
    let y = c.unless_out_of_memory.new.self in
    let os = c.args.octets.now in
    let written : OnOk c.unless_out_of_memory.result (StateAppends x (just (unpack os)) y) = search rules in
    record {
      ok = on_ok_weaker _ (wrote_same x y (just (unpack os)) (one_by_one (octet_writers os)) (λ p. sym (octets_one_by_one os (λ k. (c.type_inv.octets k).fits) p))) written;
      err = search rules;
      fails = search rules;
      kept = search rules;
    }
