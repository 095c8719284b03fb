use Rattle.std.proofs.Common.{◌≡◌, refl, sym, ◌∙◌, inl, inr, Bool, true, false, ltb, get_or}
use Rattle.std.proofs.lemmas.Bool.{eq-eqb, ltb-true, ltb-false}
use Rattle.rasn_types.proofs.Writing.{first-is, first-none}
use Rattle.rasn_types.specs.Identifiers.{are_arcs}
use Rattle.rasn_useful.proofs.defaults.are_of_an_object.Goals as goal

pub returns-then-first-eq2 : goal.returns-then-first-eq2
returns-then-first-eq2 c = eq-eqb _ 2 c.if-first-eq2.true
    ∙ sym (first-is c.args.arcs.now _ _ c.in-len2-up.len_at_least refl refl c.type_inv.arcs (inl c.if-first-eq2.true)).lawful

pub returns-then-first-lt2 : goal.returns-then-first-lt2
returns-then-first-lt2 c = go (ltb (get_or c.args.arcs.now 1 0) 40) refl
  where
    go : (b : Bool) → ltb (get_or c.args.arcs.now 1 0) 40 ≡ b → b ≡ are_arcs c.args.arcs.now
    go true e = sym (first-is c.args.arcs.now _ _ c.in-len2-up.len_at_least refl refl c.type_inv.arcs
        (inr (c.if-first-lt2.true, ltb-true _ 40 e))).lawful
    go false e = sym (first-none c.args.arcs.now (λ _. (c.if-first-eq2.false, λ _. ltb-false _ 40 e)))
