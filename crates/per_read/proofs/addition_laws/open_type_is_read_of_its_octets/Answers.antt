use Rattle.std.proofs.Common.{subst}
use Rattle.per_core.specs.Basic.{OpenOf, basic}
use Rattle.per_core.specs.Spellings.{Took}
use Rattle.per_read.proofs.Opened.{open_took, took_open}
use Rattle.per_read.proofs.addition_laws.open_type_is_read_of_its_octets.Goals as goal

pub returns : goal.returns
returns c = λ a c v octets s m t k. (
  λ x. let r = took_open a (basic a c v) octets k t x in (r.0, record { left = r.1; took = r.2; ends = r.3 }),
  λ x. subst (λ z. Took (OpenOf a (basic a c) v) s z) x.0 (open_took a (basic a c v) octets k x.1.left x.1.took x.1.ends),
)
