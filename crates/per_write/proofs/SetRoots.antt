-- The components of a SET that is closed, put after what is before it (ITU-T X.691, 21.1).
use Rattle.std.specs.Prelude.{Result, Ok, Err, IfOk, IfErr, OnOk, OnErr}
use Rattle.std.proofs.Common.{◌≡◌, sym, ap, ◌∙◌, subst, inl, true, List, length, Some}
use Rattle.rasn_schema.specs.Fields.{Shape, shapes_from}
use Rattle.rasn_schema.specs.Schemas.{count, Parts}
use Rattle.per_core.specs.PlacedSets.{placed}
use Rattle.per_core.specs.Writers.{◌▹◌}
use Rattle.per_pieces.specs.OpenSets.{bit_writers, closed, Component, OpenSet, value_writers}
use Rattle.per_pieces.specs.Pieces.{Appends, Pieces}
use Rattle.per_core.specs.declared.encode_error.EncodeError.{EncodeError}
use Rattle.per_write.specs.Components.{PutsComponents, underway}
use Rattle.per_write.specs.Faults.{IsMemory}
use Rattle.per_write.specs.WriterState.{WriterState}

-- they are put there, or memory ran out
pub puts_components : {E : Type 0} (fields : List Shape) (set : OpenSet) (x m y : WriterState) (cs : List Component) (before : Pieces) (pushed : Result (Unit {0}) E) (result : Result (Unit {0}) EncodeError) → Some cs ≡ closed fields (underway set x) → before ≡ set.outer
    → m ≡ record x { pieces = m.pieces }
    → ((ps : Parts) → fields ≡ shapes_from 0 ps → length cs ≡ count ps → OnOk pushed (Appends before (placed ps (bit_writers cs) ▹ placed ps (value_writers cs)) m.pieces))
    → IfOk result (λ u. pushed ≡ Ok u) → OnOk result (y ≡ m) → IfErr result (λ e. IsMemory e m) → OnErr result (y ≡ record m { failed = true })
    → PutsComponents fields set x result y
puts_components {E} fields set x m y cs before pushed (Ok u) c b e a o k r f = record {
  ok = record {
    components = cs;
    closed = sym c;
    appended = λ ps d n.
        subst (λ (z : WriterState). Appends set.outer (placed ps (bit_writers cs) ▹ placed ps (value_writers cs)) z.pieces) (sym k)
        (subst (λ (z : Pieces). Appends z (placed ps (bit_writers cs) ▹ placed ps (value_writers cs)) m.pieces) b
        (subst (λ (q : Result (Unit {0}) E). OnOk q (Appends before (placed ps (bit_writers cs) ▹ placed ps (value_writers cs)) m.pieces)) o (a ps d n)));
    same = k ∙ e ∙ ap (λ (z : WriterState). record x { pieces = z.pieces }) (sym k);
  };
  err = tt;
  fails = tt;
  kept = ap (λ (z : WriterState). z.codec) (k ∙ e);
}
puts_components {E} fields set x m y cs before pushed (Err d) c b e a o k r f = record {
  ok = tt;
  err = inl (record { kind_is = r.kind_is; codec_is = r.codec_is ∙ ap (λ (z : WriterState). z.codec) e });
  fails = ap (λ (z : WriterState). z.failed) f;
  kept = ap (λ (z : WriterState). z.codec) f ∙ ap (λ (z : WriterState). z.codec) e;
}
