-- A record with an extension marker, seen from its extension bit (X.691 19).
use Rattle.std.proofs.Common.{refl, List, ◌∷◌, [], Bool, true, false, Option, ◌⊎◌, inl, inr}
use Rattle.rasn_types.specs.Bits.{Bits}
use Rattle.rasn_types.specs.Values.{Value}
use Rattle.per_core.specs.Basic.{Additions, Extended, Record, IsBitmap, Root, Rule}
use Rattle.per_core.specs.Spellings.{Settings, Then, exactly, Took}
use Rattle.per_core.proofs.TakenInTurn.{then_took, took_bit, took_map, took_then}
use Rattle.per_read.proofs.Fields.{either_took}
use Rattle.per_read.proofs.Marked.{bit_after}
use Rattle.per_read.specs.Additions.{IsExtended, IsPlain}

module _ (a : Settings) (rs adds : List Rule) (ss xs : List (Option Value)) {s t : Bits} where
  -- after a bit 0 no addition is present
  pub plain_took : {m : Bits} → Took (Root rs ss) s m → Took (Additions a adds xs []) m t → Took (Record a true rs adds ss xs) (false ∷ s) t
  plain_took r x = took_map (λ p c y. inl y) (took_then (took_bit false s) (took_then r x))

  -- after a bit 1 a bitmap shows those that are
  pub extended_took : {m n : Bits} (flags : List Bool) → Took (Root rs ss) s m → Took (IsBitmap a flags) m n → Took (Additions a adds xs flags) n t
      → Took (Record a true rs adds ss xs) (true ∷ s) t
  extended_took flags r b x = took_map (λ p c y. inr (record { flags = flags; spelled = y })) (took_then (took_bit true s) (took_then r (took_then b x)))

  -- and back
  pub took_plain : Took (Record a true rs adds ss xs) (false ∷ s) t → IsPlain a rs adds ss xs s t
  took_plain b = go (either_took b)
    where
      go : Took (Then (exactly (false ∷ [])) (Then (Root rs ss) (Additions a adds xs []))) (false ∷ s) t ⊎ Took (Extended a rs adds ss xs) (false ∷ s) t
          → IsPlain a rs adds ss xs s t
      go (inl y) = let q = then_took (bit_after false false refl t y).1 in record { middle = q.0; root = q.1; additions = q.2 }
      go (inr y) =
          let e = (bit_after false true refl t (record { front = y.front; joins = y.joins; spelled = y.spelled.spelled })).0 in absurd (cc)

  pub took_extended : Took (Record a true rs adds ss xs) (true ∷ s) t → IsExtended a rs adds ss xs s t
  took_extended b = go (either_took b)
    where
      go : Took (Then (exactly (false ∷ [])) (Then (Root rs ss) (Additions a adds xs []))) (true ∷ s) t ⊎ Took (Extended a rs adds ss xs) (true ∷ s) t → IsExtended a rs adds ss xs s t
      go (inl y) = let e = (bit_after true false refl t y).0 in absurd (cc)
      go (inr y) =
          let q = then_took (bit_after true true refl t (record { front = y.front; joins = y.joins; spelled = y.spelled.spelled })).1 in
          let w = then_took q.2 in
          record { flags = y.spelled.flags; middle = q.0; behind = w.0; root = q.1; bitmap = w.1; additions = w.2 }
