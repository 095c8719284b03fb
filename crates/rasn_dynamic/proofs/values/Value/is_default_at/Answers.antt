use Rattle.std.proofs.Common.{◌∙◌, sym}
use Rattle.rasn_schema.specs.Normal.{normal}
use Rattle.rasn_dynamic.specs.Types.{schema_at}
use Rattle.rasn_dynamic.specs.Values.{value_of}
use Rattle.rasn_dynamic.proofs.NamedBits.{named_same, unnamed_at}
use Rattle.rasn_dynamic.proofs.SameDefaults.{same_normal}
use Rattle.rasn_dynamic.proofs.values.Value.is_default_at.Goals as goal

pub returns-in-Some : goal.returns-in-Some
returns-in-Some c = named_same c.args.kinds.now c.args.place c.least_count.result c.in-Some.size _ _ _ (sym c.named_size_at.ensures ∙ c.in-Some.is) c.least_count.ensures c.least_count.type_inv c.are_named_bits.ensures

pub returns-in-None : goal.returns-in-None
returns-in-None c = λ n. c.is_default.ensures ∙ same_normal (schema_at c.args.kinds.now c.args.place n) (value_of c.args.self.now) c.args.otherwise.now (unnamed_at c.args.kinds.now c.args.place (sym c.named_size_at.ensures ∙ c.in-None.is) n)
