use Rattle.per_lines.proofs.Nearest.{named_nearest}
use Rattle.per_lines.proofs.show_names.nearest.Goals as goal

pub returns : goal.returns
returns c = named_nearest _ c.all-types.result.now c.args.word.now c.word.result.now c.in_ok-place.place c.all-types.ensures c.in_ok-place.ensures c.word.ensures.word
