use Rattle.rasn_types.specs.Variants.{variant_of}
use Rattle.std.proofs.Common.{sym}
use Rattle.rasn_dynamic.specs.Types.{schema_at}
use Rattle.rasn_dynamic.specs.Values.{levels_of, value_of}
use Rattle.per_dynamic.proofs.OneSchema
use Rattle.per_dynamic.proofs.Tables.{levels}
use Rattle.per_dynamic.proofs.alike.type_and_table_encode_alike.Goals as goal

pub returns-clause-equal : goal.returns-clause-equal
returns-clause-equal g c = let T = g.T.AsnType in let ts = c.args.types.now.kinds.items in let i = c.args.place in
    λ h codec x y octets others. OneSchema.equal_alike (variant_of codec) (T.schema T.CONSTRAINTS) (schema_at ts i) h (T.levelled T.CONSTRAINTS) (T.levels x) (levels_of y) (T.value x) (value_of y) octets others

pub returns-clause-encoded : goal.returns-clause-encoded
returns-clause-encoded g c = let T = g.T.AsnType in let ts = c.args.types.now.kinds.items in let i = c.args.place in
    λ h codec x y octets. OneSchema.apart (variant_of codec) (T.schema T.CONSTRAINTS) (schema_at ts i) h (T.levelled T.CONSTRAINTS) (levels ts i) (T.levels x) (levels_of y) (T.value x) (value_of y) octets

pub returns-clause-refused : goal.returns-clause-refused
returns-clause-refused g c = let T = g.T.AsnType in let ts = c.args.types.now.kinds.items in let i = c.args.place in
    λ h codec x y octets e n b. OneSchema.apart (variant_of codec) (schema_at ts i) (T.schema T.CONSTRAINTS) (λ n. sym (h n)) (levels ts i) (T.levelled T.CONSTRAINTS) (levels_of y) (T.levels x) (value_of y) (T.value x) octets (sym e) b n
