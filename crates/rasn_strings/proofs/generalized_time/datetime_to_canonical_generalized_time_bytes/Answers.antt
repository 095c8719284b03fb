use Rattle.std.proofs.Common.{refl}
use Rattle.rasn_strings.proofs.GeneralizedTexts.{generalized_written}
use Rattle.rasn_strings.proofs.generalized_time.datetime_to_canonical_generalized_time_bytes.Goals as goal

pub returns-clause-written : goal.returns-clause-written
returns-clause-written g c = generalized_written _ c.args.moment c.args.moment c.year.result refl c.in_ok-written.ensures c.year.type_inv c.if-year-lt0.false c.year.ensures
