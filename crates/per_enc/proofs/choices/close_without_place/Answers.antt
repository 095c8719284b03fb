use Rattle.per_enc.proofs.Placing.{closed_without_place}
use Rattle.per_enc.proofs.choices.close_without_place.Goals as goal

pub returns-in-Root : goal.returns-in-Root
returns-in-Root g c =
    closed_without_place c.args.writer.now c.close_unplaced-value.new.self c.put_root_alternative.new.writer c.args.waiting.pieces c.close_unplaced-value.result c.args.waiting.scope c.args.marker c.args.roots c.args.place _ c.put_root_alternative.result
    c.in-Root.is c.close_unplaced-value.ensures.taken c.close_unplaced-value.ensures.outside c.put_root_alternative.ensures

pub returns-in-Added : goal.returns-in-Added
returns-in-Added g c =
    closed_without_place c.args.writer.now c.close_unplaced-value.new.self c.put_added_alternative.new.writer c.args.waiting.pieces c.close_unplaced-value.result c.args.waiting.scope c.args.marker c.args.roots c.args.place _ c.put_added_alternative.result
    c.in-Added.is c.close_unplaced-value.ensures.taken c.close_unplaced-value.ensures.outside c.put_added_alternative.ensures
