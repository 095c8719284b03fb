use Rattle.per_laws.proofs.lawful.lawful_type_has_one_encoding.Goals as goal
use Rattle.per_laws.proofs.NormalForms

pub returns-clause-one : goal.returns-clause-one
returns-clause-one c = λ a T l. NormalForms.one_canonical_encoding a T l.unfolds

pub returns-clause-deeper : goal.returns-clause-deeper
returns-clause-deeper c = λ a T l. NormalForms.canonical_encoding_deeper a T l.unfolds
