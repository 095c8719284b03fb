use Rattle.std.specs.Prelude.{OnOk}
use Rattle.std.proofs.Common.{◌≤◌, length, subst, List, arith, rules}
use Rattle.rasn_types.specs.Variants.{unaligned}
use Rattle.per_core.specs.Writers.{Writer, one_by_one}
use Rattle.per_write.specs.WriterState.{StateAppends}
use Rattle.per_pieces.proofs.Fragments.{length-octet_writers, octets_between}
use Rattle.per_write.proofs.items.OctetsItemsToWrite.put.Goals as goal

pub slice_bounds-put_bare_octets-end : goal.slice_bounds-put_bare_octets-end
slice_bounds-put_bare_octets-end g c =
    let within = c.requires.within unaligned in
    let counted = length-octet_writers c.args.self.now.0.now in
    let bound : c.args.end ≤ length c.args.self.now.0.now = omega arith in
    bound

pub returns : goal.returns
returns g c =
    record {
      ok = subst (λ (ws : List Writer). OnOk c.put_bare_octets.result (StateAppends c.args.writer.now (one_by_one ws) c.put_bare_octets.new.self)) (octets_between c.args.self.now.0.now c.args.start c.args.end) c.put_bare_octets.ensures.ok;
      err = search rules;
      fails = search rules;
      kept = search rules;
    }
