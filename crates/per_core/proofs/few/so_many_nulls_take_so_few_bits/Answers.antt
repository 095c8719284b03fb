use Rattle.per_core.proofs.NullRows
use Rattle.per_core.proofs.few.so_many_nulls_take_so_few_bits.Goals as goal

pub returns-clause-count : goal.returns-clause-count
returns-clause-count c = NullRows.count_of_nulls

pub returns-clause-sized : goal.returns-clause-sized
returns-clause-sized c = NullRows.fixed_nulls

pub returns-clause-in_fragments : goal.returns-clause-in_fragments
returns-clause-in_fragments c = NullRows.fragmented_nulls
