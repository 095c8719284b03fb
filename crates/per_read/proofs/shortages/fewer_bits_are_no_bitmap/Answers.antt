use Rattle.per_read.proofs.EndsEarly.{no_bitmap}
use Rattle.per_read.proofs.shortages.fewer_bits_are_no_bitmap.Goals as goal

pub returns : goal.returns
returns c = λ a m s h more whole few. no_bitmap a m more whole few s h
