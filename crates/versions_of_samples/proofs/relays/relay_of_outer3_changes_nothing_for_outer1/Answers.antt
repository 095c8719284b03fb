use Rattle.versions_of_samples.proofs.relays.relay_of_outer3_changes_nothing_for_outer1.Goals as goal

pub returns : goal.returns
returns c =
    let lawful = c.extensible_records_are_lawful.ensures in
    c.relay_changes_nothing_that_the_older_sees.ensures.answers lawful.third lawful.first c.outer3_adds_to_outer1.ensures
