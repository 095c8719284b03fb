use Rattle.per_decoding.proofs.Scoping.Contents.{contained_back, contained_read}
use Rattle.per_decoding.proofs.laws.contained_value_is_what_stands_in_its_octets.Goals as goal

pub returns : goal.returns
returns k = λ c s i t w v h. (
  λ b. let r = contained_back c h t v b in record { end = r.0; reads = r.1; closes = r.2 },
  λ x. contained_read c h x.end t v x.reads x.closes,
)
