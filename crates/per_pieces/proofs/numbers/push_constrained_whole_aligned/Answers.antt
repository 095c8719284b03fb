use Rattle.std.proofs.Common.{◌∙◌, ap}
use Rattle.rasn_types.specs.Bits.{width}
use Rattle.std.proofs.lemmas.Result.{on_ok_weaker}
use Rattle.per_pieces.proofs.Bounded.{appends_few, appends_octet, appends_two, appends_many}
use Rattle.per_pieces.proofs.numbers.push_constrained_whole_aligned.Goals as goal

pub returns-in-Bits : goal.returns-in-Bits
returns-in-Bits g c =
    on_ok_weaker _ (appends_few _ _ c.args.greatest c.args.offset c.width_to.result c.width_to.ensures.width c.requires (c.of.ensures.bits c.in-Bits.is)) c.push_bits.ensures.ok

pub returns-in-Octet : goal.returns-in-Octet
returns-in-Octet g c =
    on_ok_weaker _ (appends_octet _ _ c.args.greatest c.args.offset c.requires (c.of.ensures.octet c.in-Octet.is)) c.push_on_octet.ensures

pub returns-in-TwoOctets : goal.returns-in-TwoOctets
returns-in-TwoOctets g c =
    let h = c.of.ensures.two c.in-TwoOctets.is in
    on_ok_weaker _ (appends_two _ _ c.args.greatest c.args.offset c.requires h.0 h.1) c.push_on_octet-in-TwoOctets.ensures

pub returns-in_ok-push_bits-in-Counted : goal.returns-in_ok-push_bits-in-Counted
returns-in_ok-push_bits-in-Counted g c =
    on_ok_weaker _ (appends_many _ _ _ c.args.greatest c.args.offset c.from.result c.octet_count-octets.result c.octet_count-octets.ensures.count (c.from.ensures ∙ c.width_of.ensures.width ∙ ap width c.octet_count.ensures.count) c.requires (c.of.ensures.counted c.in-Counted.is) c.in_ok-push_bits-in-Counted.ensures.ok)
    c.push_on_octet-in-Counted.ensures
