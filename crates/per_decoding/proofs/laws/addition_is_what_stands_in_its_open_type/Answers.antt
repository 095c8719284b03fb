use Rattle.std.proofs.Common.{◌≡◌, subst, Some}
use Rattle.per_decoding.proofs.Scoping.Additions.{back_of, read_of}
use Rattle.per_decoding.specs.State.{Spells}
use Rattle.per_decoding.proofs.laws.addition_is_what_stands_in_its_open_type.Goals as goal

pub returns : goal.returns
returns k = λ c s i t w v a. (
  λ b.
      let r = back_of a c (Some v) t b in
      let e = r.2 in
      let f : r.0 ≡ v = cc in
      record { end = r.1; reads = subst (λ z. Spells c i z r.1) f r.3; closes = r.4 },
  λ x. read_of a c v x.end t x.reads x.closes,
)
