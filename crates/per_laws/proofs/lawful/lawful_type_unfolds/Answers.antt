use Rattle.per_laws.proofs.lawful.lawful_type_unfolds.Goals as goal

pub returns : goal.returns
returns c = λ T l. l.unfolds
