use Rattle.std.proofs.Common.{◌∙◌, sym, get_or, arith}
use Rattle.rasn_strings.proofs.Ascending.{small}
use Rattle.rasn_strings.proofs.permitted.is_ascending.Goals as goal

pub overflow_add-at : goal.overflow_add-at
overflow_add-at c = let s = small 0 c.args.own.now (get_or c.args.permitted.now c.loop-character.character-index 0) c.requires (sym c.contains.ensures ∙ c.if-not-contains.false) in record { fits = omega arith }
