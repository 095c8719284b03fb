use Rattle.std.proofs.Common.{subst}
use Rattle.rasn_types.specs.Variants.{variant_of}
use Rattle.per_core.specs.Writers.{Writer}
use Rattle.per_write.specs.Faults.{IsMemory}
use Rattle.per_write.specs.WriterState.{Puts}
use Rattle.per_enc.proofs.AtPlaces.{item_front}
use Rattle.per_enc.proofs.placed.put_item.Goals as goal

pub returns : goal.returns
returns g c =
    let x = c.args.writer.now in
    subst (λ (w : Writer). Puts IsMemory w x c.put_place.result c.put_place.new.writer) (item_front (variant_of x.codec) c.args.items c.args.place c.requires.there) c.put_place.ensures
