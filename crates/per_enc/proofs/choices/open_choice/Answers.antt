use Rattle.std.proofs.Common.{◌∙◌, sym, true}
use Rattle.per_enc.proofs.Placing.{opens_where}
use Rattle.per_enc.proofs.choices.open_choice.Goals as goal

pub returns : goal.returns
returns g c =
    opens_where true _ c.is_some.result _ c.args.roots c.args.writer.now c.open_in_place.new.writer c.open_in_place.result (sym c.if-not-keeps_room.false ∙ c.keeps_room.ensures) c.is_some.ensures c.open_in_place.ensures
