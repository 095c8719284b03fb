use Rattle.std.proofs.lemmas.Bool.{le-ltb}
use Rattle.lawful_types.proofs.Passing.{stands_at}
use Rattle.lawful_types.proofs.places.name_outside.Goals as goal

pub returns-then-name-types : goal.returns-then-name-types
returns-then-name-types c =
    let name = c.index-names-index.result in
    record { item = name; stands = stands_at c.args.names.now c.loop-index.index name c.loop-index-test.true c.index-names-index.is; fails = le-ltb name.place c.args.types c.if-name-types.true }
