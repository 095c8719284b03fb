use Rattle.std.proofs.Common.{◌≡◌, ◌<◌, ◌∙◌, ◌∷◌, ap, length, arith}
use Rattle.rasn_types.specs.Bits.{unpack}
use Rattle.per_write.proofs.ShortOpens.{few_octets, short_open}
use Rattle.per_write.proofs.open_types.into_short_open_type.Goals as goal

pub overflow_cast-len : goal.overflow_cast-len
overflow_cast-len g c =
    let few : length c.in_ok-octets.octets.items < 128 = few_octets c.args.contents c.in_ok-octets.octets.items c.requires c.in_ok-octets.ensures in
    omega arith

pub returns : goal.returns
returns g c a =
    let long : c.len.result ≡ length c.in_ok-octets.octets.items = omega arith in
    let items : c.insert.new.self.items ≡ c.len.result ∷ c.in_ok-octets.octets.items = c.in_ok-insert.ensures.items in
    short_open a c.args.contents c.from_whole_octets.result c.in_ok-octets.octets.items c.len.result c.requires c.in_ok-octets.ensures long
    (c.from_whole_octets.ensures ∙ ap unpack items)
