use Rattle.per_lines.proofs.named.done.Goals as goal

pub returns-in-Four-clause-err : goal.returns-in-Four-clause-err
returns-in-Four-clause-err g c = rw c.in-Four.is c.done_as-in-Four.ensures.err

pub returns-in-Items-clause-err : goal.returns-in-Items-clause-err
returns-in-Items-clause-err g c = rw c.in-Items.is c.done_as-in-Items.ensures.err

pub returns-in-Seven-clause-err : goal.returns-in-Seven-clause-err
returns-in-Seven-clause-err g c = rw c.in-Seven.is c.done_as-in-Seven.ensures.err

pub returns-in-OneDefault-clause-err : goal.returns-in-OneDefault-clause-err
returns-in-OneDefault-clause-err g c = rw c.in-OneDefault.is c.done_as-in-OneDefault.ensures.err

pub returns-in-Byte-clause-err : goal.returns-in-Byte-clause-err
returns-in-Byte-clause-err g c = rw c.in-Byte.is c.done_as-in-Byte.ensures.err

pub returns-in-MaybeEmpty-clause-err : goal.returns-in-MaybeEmpty-clause-err
returns-in-MaybeEmpty-clause-err g c = rw c.in-MaybeEmpty.is c.done_as-in-MaybeEmpty.ensures.err

pub returns-in-Nested-clause-err : goal.returns-in-Nested-clause-err
returns-in-Nested-clause-err g c = rw c.in-Nested.is c.done_as-in-Nested.ensures.err

pub returns-in-Nest-clause-err : goal.returns-in-Nest-clause-err
returns-in-Nest-clause-err g c = rw c.in-Nest.is c.done_as-in-Nest.ensures.err

pub returns-in-Deep-clause-err : goal.returns-in-Deep-clause-err
returns-in-Deep-clause-err g c = rw c.in-Deep.is c.done_as-in-Deep.ensures.err

pub returns-in-Bytes-clause-err : goal.returns-in-Bytes-clause-err
returns-in-Bytes-clause-err g c = rw c.in-Bytes.is c.done_as-in-Bytes.ensures.err

pub returns-in-Nulls-clause-err : goal.returns-in-Nulls-clause-err
returns-in-Nulls-clause-err g c = rw c.in-Nulls.is c.done_as-in-Nulls.ensures.err

pub returns-in-NullList-clause-err : goal.returns-in-NullList-clause-err
returns-in-NullList-clause-err g c = rw c.in-NullList.is c.done_as-in-NullList.ensures.err

pub returns-in-Elements-clause-err : goal.returns-in-Elements-clause-err
returns-in-Elements-clause-err g c = rw c.in-Elements.is c.done_as-in-Elements.ensures.err

pub returns-in-Outer1-clause-err : goal.returns-in-Outer1-clause-err
returns-in-Outer1-clause-err g c = rw c.in-Outer1.is c.done_as-in-Outer1.ensures.err

pub returns-in-Outer2-clause-err : goal.returns-in-Outer2-clause-err
returns-in-Outer2-clause-err g c = rw c.in-Outer2.is c.done_as-in-Outer2.ensures.err

pub returns-in-Outer3-clause-err : goal.returns-in-Outer3-clause-err
returns-in-Outer3-clause-err g c = rw c.in-Outer3.is c.done_as-in-Outer3.ensures.err

pub returns-in-Grouped-clause-err : goal.returns-in-Grouped-clause-err
returns-in-Grouped-clause-err g c = rw c.in-Grouped.is c.done_as-in-Grouped.ensures.err

pub returns-in-NoneNeeded-clause-err : goal.returns-in-NoneNeeded-clause-err
returns-in-NoneNeeded-clause-err g c = rw c.in-NoneNeeded.is c.done_as-in-NoneNeeded.ensures.err

pub returns-in-OneNeeded-clause-err : goal.returns-in-OneNeeded-clause-err
returns-in-OneNeeded-clause-err g c = rw c.in-OneNeeded.is c.done_as-in-OneNeeded.ensures.err

pub returns-in-AddedDefault-clause-err : goal.returns-in-AddedDefault-clause-err
returns-in-AddedDefault-clause-err g c = rw c.in-AddedDefault.is c.done_as-in-AddedDefault.ensures.err

pub returns-in-Outers1-clause-err : goal.returns-in-Outers1-clause-err
returns-in-Outers1-clause-err g c = rw c.in-Outers1.is c.done_as-in-Outers1.ensures.err

pub returns-in-Outers3-clause-err : goal.returns-in-Outers3-clause-err
returns-in-Outers3-clause-err g c = rw c.in-Outers3.is c.done_as-in-Outers3.ensures.err

pub returns-in-BeforeNest-clause-err : goal.returns-in-BeforeNest-clause-err
returns-in-BeforeNest-clause-err g c = rw c.in-BeforeNest.is c.done_as-in-BeforeNest.ensures.err

pub returns-in-AddedNest-clause-err : goal.returns-in-AddedNest-clause-err
returns-in-AddedNest-clause-err g c = rw c.in-AddedNest.is c.done_as-in-AddedNest.ensures.err

pub returns-in-Grouped1-clause-err : goal.returns-in-Grouped1-clause-err
returns-in-Grouped1-clause-err g c = rw c.in-Grouped1.is c.done_as-in-Grouped1.ensures.err

pub returns-in-Grouped2-clause-err : goal.returns-in-Grouped2-clause-err
returns-in-Grouped2-clause-err g c = rw c.in-Grouped2.is c.done_as-in-Grouped2.ensures.err

pub returns-in-DefaultOuter1-clause-err : goal.returns-in-DefaultOuter1-clause-err
returns-in-DefaultOuter1-clause-err g c = rw c.in-DefaultOuter1.is c.done_as-in-DefaultOuter1.ensures.err

pub returns-in-DefaultOuter3-clause-err : goal.returns-in-DefaultOuter3-clause-err
returns-in-DefaultOuter3-clause-err g c = rw c.in-DefaultOuter3.is c.done_as-in-DefaultOuter3.ensures.err

pub returns-in-OneAlternative-clause-err : goal.returns-in-OneAlternative-clause-err
returns-in-OneAlternative-clause-err g c = rw c.in-OneAlternative.is c.done_as-in-OneAlternative.ensures.err

pub returns-in-TwoAlternatives-clause-err : goal.returns-in-TwoAlternatives-clause-err
returns-in-TwoAlternatives-clause-err g c = rw c.in-TwoAlternatives.is c.done_as-in-TwoAlternatives.ensures.err

pub returns-in-Alternatives-clause-err : goal.returns-in-Alternatives-clause-err
returns-in-Alternatives-clause-err g c = rw c.in-Alternatives.is c.done_as-in-Alternatives.ensures.err

pub returns-in-Many-clause-err : goal.returns-in-Many-clause-err
returns-in-Many-clause-err g c = rw c.in-Many.is c.done_as-in-Many.ensures.err

pub returns-in-Bag-clause-err : goal.returns-in-Bag-clause-err
returns-in-Bag-clause-err g c = rw c.in-Bag.is c.done_as-in-Bag.ensures.err

pub returns-in-Connect-clause-err : goal.returns-in-Connect-clause-err
returns-in-Connect-clause-err g c = rw c.in-Connect.is c.done_as-in-Connect.ensures.err

pub returns-in-Set-clause-err : goal.returns-in-Set-clause-err
returns-in-Set-clause-err g c = rw c.in-Set.is c.done_as-in-Set.ensures.err

pub returns-in-SetOptional-clause-err : goal.returns-in-SetOptional-clause-err
returns-in-SetOptional-clause-err g c = rw c.in-SetOptional.is c.done_as-in-SetOptional.ensures.err

pub returns-in-SetChoice-clause-err : goal.returns-in-SetChoice-clause-err
returns-in-SetChoice-clause-err g c = rw c.in-SetChoice.is c.done_as-in-SetChoice.ensures.err

pub returns-in-DatedNest-clause-err : goal.returns-in-DatedNest-clause-err
returns-in-DatedNest-clause-err g c = rw c.in-DatedNest.is c.done_as-in-DatedNest.ensures.err

pub returns-in-Spare-clause-err : goal.returns-in-Spare-clause-err
returns-in-Spare-clause-err g c = rw c.in-Spare.is c.done_as-in-Spare.ensures.err

pub returns-in-Pick-clause-err : goal.returns-in-Pick-clause-err
returns-in-Pick-clause-err g c = rw c.in-Pick.is c.done_as-in-Pick.ensures.err

pub returns-in-Picked-clause-err : goal.returns-in-Picked-clause-err
returns-in-Picked-clause-err g c = rw c.in-Picked.is c.done_as-in-Picked.ensures.err

pub returns-in-Signals-clause-err : goal.returns-in-Signals-clause-err
returns-in-Signals-clause-err g c = rw c.in-Signals.is c.done_as-in-Signals.ensures.err
