use Rattle.std.proofs.Common.{refl}
use Rattle.rasn_strings.proofs.UtcTexts.{utc_written}
use Rattle.rasn_strings.proofs.utc_time.datetime_to_canonical_utc_time_bytes.Goals as goal

pub returns-clause-written : goal.returns-clause-written
returns-clause-written g c = utc_written _ c.args.moment c.args.moment c.year-year.result c.subsec_nanosecond.result refl c.in_ok-written.ensures c.year-year.type_inv c.if-year-lt1950.false c.if-year-gt2049.false c.year-year.ensures c.subsec_nanosecond.type_inv c.if-subsec_nanosecond-ne0.false c.subsec_nanosecond.ensures
