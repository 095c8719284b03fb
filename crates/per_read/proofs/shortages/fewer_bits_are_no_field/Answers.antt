use Rattle.per_read.proofs.EndsEarly.{no_constrained, no_field, no_length, no_octets, any_settings}
use Rattle.per_read.proofs.shortages.fewer_bits_are_no_field.Goals as goal

pub returns-clause-field : goal.returns-clause-field
returns-clause-field c = λ w m s h more whole few. no_field any_settings m more whole few h

pub returns-clause-length : goal.returns-clause-length
returns-clause-length c = λ a m s h more whole few. no_length a m more whole few h

pub returns-clause-constrained : goal.returns-clause-constrained
returns-clause-constrained c = λ a n m s h more whole few. no_constrained a m more whole few n s h

pub returns-clause-octets : goal.returns-clause-octets
returns-clause-octets c = λ a m s h more whole few. no_octets a m more whole few h
