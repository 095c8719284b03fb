use Rattle.std.proofs.Common.{arith, rules}
use Rattle.rasn_constructed.proofs.read.record.Goals as goal

pub record_of-requires-clause-held : goal.record_of-requires-clause-held
record_of-requires-clause-held g c = λ n e.
    let w = c.requires.held n e in
    record {
      may = λ s t le. record { may = λ x y l. w.may x y (omega (arith, le, l)); reads = λ x y r z l. w.reads x y r z (omega (arith, le, l)) };
      reads = λ s t r u le p. search rules;
    }
