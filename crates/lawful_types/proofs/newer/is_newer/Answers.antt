use Rattle.lawful_types.proofs.Closed.{closed_type}
use Rattle.lawful_types.proofs.Fronts.{listed_more}
use Rattle.lawful_types.proofs.OkAnswers.{then}
use Rattle.lawful_types.proofs.newer.is_newer.Goals as goal

pub returns : goal.returns
returns c =
    let ts' = c.args.newer.now.kinds.items in let ts = c.args.older.now.kinds.items in
    let i = c.args.place in let j = c.args.old_place in
    let ps = c.list.new.pairs.items in let qs = c.compare_all.new.pairs.items in
    then c.compare_all.result (rw (c.deref.ensures.value, c.deref-2.ensures.value) at c.compare_all.ensures.closed)
    (λ h. closed_type ts' ts qs i j h (listed_more ps qs i j c.compare_all.ensures.front c.in_default.ensures.listed))
