use Rattle.std.proofs.Common.{sym, subst}
use Rattle.rasn_schema.specs.Structures.{record_value, extended}
use Rattle.per_decoding.proofs.Scoping.Relations.{reads_well}
use Rattle.per_decoding.proofs.Scoping.Scopes.{back_of, read_of}
use Rattle.per_decoding.specs.State.{Spells}
use Rattle.per_decoding.proofs.laws.record_is_what_stands_in_its_scope.Goals as goal

pub returns : goal.returns
returns c = λ ps qs marker s i t w v a. (
  λ b.
      let r = back_of ps marker qs a t v b in
      let h : Spells (extended ps marker qs) s (record_value r.0 r.1) t = read_of ps marker qs a r.2 t r.0 r.1 r.3 r.4 in
      record { roots = r.0; additions = r.1; end = r.2; is = ((reads_well (extended ps marker qs)).one s v (record_value r.0 r.1) t t b h).0; reads = r.3; closes = r.4 },
  λ x. subst (λ z. Spells (extended ps marker qs) s z t) (sym x.is) (read_of ps marker qs a x.end t x.roots x.additions x.reads x.closes),
)
