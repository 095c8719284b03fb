use Rattle.rasn_schema.proofs.Sorting.{stable_is_sorted}
use Rattle.per_enc.proofs.member_order.stable_sort_gives_one_list.Goals as goal

pub returns : goal.returns
returns c lt xs ys o s t = stable_is_sorted lt o xs ys s t
