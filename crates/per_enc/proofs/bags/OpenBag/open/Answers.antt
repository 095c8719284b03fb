use Rattle.std.proofs.Common.{refl, rules}
use Rattle.std.proofs.lemmas.Result.{err_from_is_err_and}
use Rattle.rasn_constraints.specs.Constraints.{is_marked, size_in}
use Rattle.per_enc.proofs.Opened.{bag_begun, bag_unbegun}
use Rattle.per_enc.proofs.bags.OpenBag.open.Goals as goal

pub returns-in_err-list : goal.returns-in_err-list
returns-in_err-list g c =
    let p = err_from_is_err_and c.from_residual-in_err-list.result c.from_residual-in_err-list.ensures.1 in
    record {
      opens = record {
        law = rw (p.1, p.2) (rw c.size.ensures at (bag_unbegun _ _ c.args.count c.args.writer.now c.begin_list.new.writer c.in_err-list.field-0.0 (rw c.in_ok-alloc.ensures.kept at c.in_err-list.ensures)));
        behaves = search rules;
      };
      none = rw p.1 tt;
    }

pub returns : goal.returns
returns g c = record {
  opens = record {
    law = rw c.size.ensures at (bag_begun (size_in c.size.result) (is_marked c.size.result) c.args.count c.args.writer.now c.begin_list.new.writer c.in_ok-list.list c.new.result c.new.ensures (rw c.in_ok-alloc.ensures.kept at c.in_ok-list.ensures.ok));
    behaves = search rules;
  };
  none = refl;
}
