use Rattle.versions_of_samples.proofs.chains.outer3_reads_the_same_by_way_of_outer2.Goals as goal

pub returns : goal.returns
returns c = c.newest_reader_answers_the_same_by_way_of_the_middle.ensures c.outer3_adds_to_outer2.ensures c.outer2_adds_to_outer1.ensures
