use Rattle.std.proofs.Common.{◌≡◌, refl, sym, subst, ℕ, ◌<◌, arith}
use Rattle.rasn_dynamic.specs.Types.{schema_at}
use Rattle.rasn_dynamic.specs.declared.types.Types.{Types}
use Rattle.rasn_schema.specs.Lawful.{IsLawfulType}
use Rattle.per_c.specs.declared.refusal.Refusal.TheVariants.{AlreadyLoaded, BadSchema}
use Rattle.per_c.proofs.HandleContents.{loaded}
use Rattle.per_c.proofs.table_calls.per_load.Goals as goal

pub returns-then-types-clause-refused : goal.returns-then-types-clause-refused
returns-then-types-clause-refused c = λ n. let p = loaded c.args.types.now c.requires c.if-types.true in (AlreadyLoaded, (p.0, p.1, refl), c.code.ensures.code)

pub returns-in-Ok-boxed-clause-loaded : goal.returns-in-Ok-boxed-clause-loaded
returns-in-Ok-boxed-clause-loaded c = λ n. (
  record {
    table = c.in-Ok-boxed.table.value;
    holds = c.put.ensures;
    lawful = λ place. subst (λ (t : Types). IsLawfulType (schema_at t.kinds.items place)) (sym c.in-Ok-boxed.ensures) (c.in-Ok.ensures.lawful place);
  },
  refl,
)

pub returns-in_default : goal.returns-in_default
returns-in_default c = record {
  loaded = λ e. let p : 0 < c.code-in_default.result = c.code-in_default.ensures.some in let q : c.code-in_default.result ≡ 0 = e in absurd (omega arith);
  refused = λ n. (BadSchema, c.in-Err.ensures.err, c.code-in_default.ensures.code);
  same = λ n. c.requires;
}
