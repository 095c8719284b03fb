use Rattle.std.proofs.Common.{sym}
use Rattle.rasn_dynamic.specs.Types.{schema_at}
use Rattle.rasn_dynamic.specs.Values.{value_of}
use Rattle.per_dynamic.proofs.OneSchema
use Rattle.per_dynamic.proofs.alike.type_and_table_decode_alike.Goals as goal

pub returns-clause-by_table : goal.returns-clause-by_table
returns-clause-by_table g c = let T = g.T.AsnType in let ts = c.args.types.now.kinds.items in let i = c.args.place in
    λ h strict codec octets x answer. OneSchema.answers_alike strict codec (T.schema T.CONSTRAINTS) (schema_at ts i) (h 128) T.value value_of octets x answer

pub returns-clause-by_type : goal.returns-clause-by_type
returns-clause-by_type g c = let T = g.T.AsnType in let ts = c.args.types.now.kinds.items in let i = c.args.place in
    λ h strict codec octets y answer. OneSchema.answers_alike strict codec (schema_at ts i) (T.schema T.CONSTRAINTS) (sym (h 128)) value_of T.value octets y answer
