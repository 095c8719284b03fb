use Rattle.per_de.proofs.open_lists.elements_of_an_open_list_are_few.Goals as goal

pub returns-clause-now : goal.returns-clause-now
returns-clause-now c = λ e size mark s i vs l h amid. amid.list.few h

pub returns-clause-with_another : goal.returns-clause-with_another
returns-clause-with_another c = λ e size mark s i j k vs l m v h amid next spelled. ((next.law e size mark s vs amid).element_read v k spelled).list.few h
