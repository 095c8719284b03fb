use Rattle.std.proofs.Common.{refl}
use Rattle.per_enc.proofs.AtPlaces.{added_put, root_put}
use Rattle.per_enc.proofs.placed.put_place.Goals as goal

pub returns-in_ok-put_extension_bit-in-Root : goal.returns-in_ok-put_extension_bit-in-Root
returns-in_ok-put_extension_bit-in-Root g c =
    root_put c.args.writer.now c.put_extension_bit.new.self _ c.args.counts c.args.place c.in-Root.index _ _ _ c.in-Root.is c.requires.there refl c.is_some-marker.ensures c.in_ok-put_extension_bit-in-Root.ensures.ok c.put_constrained_whole.ensures

pub returns-in_ok-put_extension_bit-in-Added : goal.returns-in_ok-put_extension_bit-in-Added
returns-in_ok-put_extension_bit-in-Added g c =
    added_put c.args.writer.now c.put_extension_bit-in-Added.new.self _ c.args.counts c.args.place c.in-Added.index _ _ c.in-Added.is c.is_some-marker.ensures c.in_ok-put_extension_bit-in-Added.ensures.ok c.put_small.ensures
