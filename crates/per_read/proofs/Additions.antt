-- Additions are read one after another, as the bitmap says (X.691 19.7 to 19.9): what is read of the first, and of the others after
-- it, is what all of them spell, and the other way round.
use Rattle.std.proofs.Common.{◌≡◌, refl, sym, subst, List, [], ◌∷◌, Bool, true, false, Option, Some, None}
use Rattle.rasn_types.specs.Bits.{Bits}
use Rattle.rasn_types.specs.Values.{Value}
use Rattle.per_core.specs.Basic.{Additions, Rule, Unknown}
use Rattle.per_core.specs.Spellings.{Settings, Spelling, When, exactly, Took}
use Rattle.per_core.proofs.TakenInTurn.{nothing_took, then_took, took_map, took_nothing, took_then}
use Rattle.per_read.proofs.Fields.{when_took}
use Rattle.per_core.specs.AdditionFaults.{Addition, NextFlag}
use Rattle.per_read.specs.Additions.{FirstAddition}

-- what is left out takes nothing
left_out : {A : Type 0} {g : Spelling} {b m t : Bits} → Took (When A (exactly [])) b m → Took g m t → Took (When A g) b t
left_out {A} {g} {t = t} x y =
    let w = when_took x in subst (λ z. Took (When A g) z t) (sym (nothing_took w.1)) (took_map (λ p c z. (w.0, z)) y)

nothing_there : {A : Type 0} (b : Bits) → A → Took (When A (exactly [])) b b
nothing_there b h = took_map (λ p c z. (h, z)) (took_nothing b)

module _ (a : Settings) (r : Rule) (rs : List Rule) where
  -- what is read of the first addition, and of the others
  pub additions_took : (flags : List Bool) (flag : Option Bool) (rest : List Bool) (s : Option Value) (ss : List (Option Value)) {b m t : Bits} → NextFlag flags flag rest
      → Took (Addition a r s flag) b m → Took (Additions a rs ss rest) m t → Took (Additions a (r ∷ rs) (s ∷ ss) flags) b t
  additions_took [] None rest s ss {b} {m} {t} n x y = left_out x (subst (λ z. Took (Additions a rs ss z) m t) n.1 y)
  additions_took [] (Some f) rest s ss n x y = absurd (cc)
  additions_took (f ∷ bs) None rest s ss n x y = let e = n.0 in absurd (cc)
  additions_took (true ∷ bs) (Some f) rest s ss {b} {m} {t} n x y =
      let e : f ≡ true = cc in
      let g : rest ≡ bs = cc in
      took_then (subst (λ z. Took (Addition a r s (Some z)) b m) e x) (subst (λ z. Took (Additions a rs ss z) m t) g y)
  additions_took (false ∷ bs) (Some f) rest s ss {b} {m} {t} n x y =
      let e : f ≡ false = cc in
      let g : rest ≡ bs = cc in
      left_out (subst (λ z. Took (Addition a r s (Some z)) b m) e x) (subst (λ z. Took (Additions a rs ss z) m t) g y)

  -- and back
  pub took_additions : (flags : List Bool) (flag : Option Bool) (rest : List Bool) (xs : List (Option Value)) {b t : Bits} → NextFlag flags flag rest
      → Took (Additions a (r ∷ rs) xs flags) b t → FirstAddition a r rs xs flag rest b t
  took_additions flags flag rest [] n x = absurd x.spelled
  took_additions [] None rest (s ∷ ss) {b} {t} n x =
      let w = when_took x in
      record { first = s; others = ss; middle = b; are = refl; here = nothing_there b w.0; behind = subst (λ z. Took (Additions a rs ss z) b t) (sym n.1) w.1 }
  took_additions [] (Some f) rest (s ∷ ss) n x = absurd (cc)
  took_additions (f ∷ bs) None rest (s ∷ ss) n x = let e = n.0 in absurd (cc)
  took_additions (true ∷ bs) (Some f) rest (s ∷ ss) {b} {t} n x =
      let e : true ≡ f = cc in
      let g : bs ≡ rest = cc in
      let q = then_took x in
      record {
        first = s;
        others = ss;
        middle = q.0;
        are = refl;
        here = subst (λ z. Took (Addition a r s (Some z)) b q.0) e q.1;
        behind = subst (λ z. Took (Additions a rs ss z) q.0 t) g q.2;
      }
  took_additions (false ∷ bs) (Some f) rest (s ∷ ss) {b} {t} n x =
      let e : false ≡ f = cc in
      let g : bs ≡ rest = cc in
      let w = when_took x in
      record {
        first = s;
        others = ss;
        middle = b;
        are = refl;
        here = subst (λ z. Took (Addition a r s (Some z)) b b) e (nothing_there b w.0);
        behind = subst (λ z. Took (Additions a rs ss z) b t) g w.1;
      }

-- after the last of the schema's, those that it doesn't know are read
pub unknown_took : (a : Settings) (flags : List Bool) {b t : Bits} → Took (Unknown a flags) b t → Took (Additions a [] [] flags) b t
unknown_took a flags x = x

pub took_unknown : (a : Settings) (flags : List Bool) (xs : List (Option Value)) {b t : Bits} → Took (Additions a [] xs flags) b t → (xs ≡ []) × Took (Unknown a flags) b t
took_unknown a flags [] x = (refl, x)
took_unknown a flags (s ∷ ss) x = absurd x.spelled
