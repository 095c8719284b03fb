-- The law of a decoder's errors: what they say of an addition that isn't there, they say of the decoder (X.691 19.9).
use Rattle.std.proofs.Common.{ap}
use Rattle.rasn_traits.specs.Errors.{ErrorsWell}
use Rattle.per_core.specs.ReadingFaults.{NamesLacking}
use Rattle.per_decoding.specs.Rules.{plain_rules}

pub errors_well : ErrorsWell plain_rules NamesLacking
errors_well = record {
  lacking = λ t e s h. record {
    codec = ap (λ x. x.codec) h.is;
    stands = record { tag = h.tag; named = h.named; is = ap (λ x. x.kind) h.is };
  };
}
