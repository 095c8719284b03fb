-- A record of one component.
use Rattle.std.proofs.Common.{◌≡◌, refl, inl, inr, Result, Ok, Err, [], ◌∷◌, Option, Some}
use Rattle.rasn_below.specs.Values.{Value}
use Rattle.rasn_below.specs.Types.{TagTree, Presence, default, Schema, no_parts, part, normal, normals, settle}
use Rattle.rasn_below.specs.Calls.{EncoderRules, presents_end, presents_fields, presents_next, presents_no_more, refuses_here, refuses_root, WrittenFields, WrittenPart}

-- its component is the whole of it
pub alone_written : {E X : Type 0} (rules : EncoderRules E X) (t : TagTree) (p : Presence) (s : Schema) (r : Option Value) (x : X) (result : Result (Unit {0}) E) (y : X)
    → WrittenPart rules p s r x result y → WrittenFields rules (part t p s no_parts) no_parts (r ∷ []) (normals no_parts []) x result y
unfolding normal
alone_written rules t p s r x (Ok u) y h = presents_fields (presents_next h presents_end) presents_no_more
alone_written rules t p s r x (Err e) y (inl m) = inl m
alone_written rules t p s r x (Err e) y (inr h) = inr (refuses_root (refuses_here h))

-- and its normal form that of the whole
pub alone_normal : (t : TagTree) (d : Value) (s : Schema) (v : Value) → normals (part t (default d) s no_parts) (Some v ∷ []) ≡ Some (normal s v) ∷ []
unfolding normal settle
alone_normal t d s v = refl
