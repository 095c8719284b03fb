-- What readers of older and newer versions, and of deeper trees, answer.
use Rattle.std.proofs.Common.{◌≡◌, refl, sym, ◌∙◌, subst, ℕ, true, false, List, [], ◌∷◌, arith, inl, inr, Option, Some, None, ◌++◌}
use Rattle.rasn_types.specs.Bits.{Bits}
use Rattle.rasn_types.specs.Values.{Value}
use Rattle.rasn_schema.specs.Depth.{meets_cut, CutOf}
use Rattle.rasn_schema.specs.Schemas.{Schema}
use Rattle.per_core.specs.Basic.{basic_in, fills, fills_known, front}
use Rattle.per_core.specs.Canon.{canon, bytes, completed}
use Rattle.per_core.specs.Spellings.{Settings}
use Rattle.per_core.specs.Versions.{project, Newer, widen}
use Rattle.per_core.specs.Writers.{complete}
use Rattle.per_core.proofs.Canonical.{canonical}
use Rattle.per_core.proofs.Laws.{fronts_agree}
use Rattle.per_core.proofs.Presenting.{unpack-complete}
use Rattle.per_core.proofs.Unique.{fills_agree}
use Rattle.per_core.proofs.WriterSpellings.{zero_if}
use Rattle.per_laws.proofs.Carry.{fills_carry}
use Rattle.per_laws.proofs.DeeperTrees.{deeper, shallower, looser}
use Rattle.per_laws.proofs.Newer.{newer_reads}
use Rattle.per_laws.proofs.Older.{older_reads}
use Rattle.per_laws.proofs.OlderReadings.{older_takes, newer_takes}

-- what an older reader reads of the same octets is the projection
pub older_is_projection : (a : Settings) (s' s : Schema) → Newer s' s → (v' v : Value) (os : List ℕ) → meets_cut s' v' ≡ false → fills a s' v' os → fills a s v os → project s' s v' ≡ Some v
older_is_projection a s' s n v' v os m x y = fills_agree a os (older_reads a n v' v) x y m

-- the grammar without unknown additions
pub known_is_read : (a : Settings) (s : Schema) (v : Value) (os : List ℕ) → fills_known a s v os → fills a s v os
known_is_read a s v os x = fills_carry a os (looser a s v) x

pub written_is_known : (a : Settings) (s : Schema) (v : Value) (os : List ℕ) → bytes a.variant s v ≡ Some os → fills_known a s v os
unfolding bytes
written_is_known a s v os e = go (canon a.variant s v 0) refl e
  where
    full : (bs : Bits) → basic_in a false s v 0 bs → fills_known a s v (complete bs)
    full [] x = inr (x, refl)
    full (b ∷ bs) x = let u = unpack-complete (b ∷ bs) (omega arith) in inl (record { front = b ∷ bs; spare = u.0; spelled = x; all = u.1; some = omega arith; short = u.2; zeros = zero_if a.strict u.0 u.3 })

    go : (o : Option Bits) → canon a.variant s v 0 ≡ o → completed o ≡ Some os → fills_known a s v os
    go None i e = absurd (cc)
    go (Some bs) i e = let h : complete bs ≡ os = cc in subst (λ z. fills_known a s v z) h (full bs ((canonical a false s v).within 0 bs i))

-- the older reader
pub older_answers : (a : Settings) (s' s : Schema) → Newer s' s → (v' v : Value) (os rest rest' : List ℕ) → fills a s' v' os → meets_cut s' v' ≡ false →
    (front a s v (os ++ rest) rest' → (project s' s v' ≡ Some v) × (rest' ≡ rest)) × (project s' s v' ≡ Some v → fills a s v os)
older_answers a s' s n v' v os rest rest' x m = (
  λ y. let r = fronts_agree a os rest y.0 rest' (older_reads a n v' v) x y.2 y.1 in (r.0 m, sym r.2),
  λ e. fills_carry a os (older_takes a n v' v m e) x,
)

pub older_refuses : (a : Settings) (s' s : Schema) → Newer s' s → (v' v : Value) (os rest rest' : List ℕ) → fills a s' v' os → meets_cut s' v' ≡ false → project s' s v' ≡ None → front a s v (os ++ rest) rest' → ⊥
older_refuses a s' s n v' v os rest rest' x m e y =
    let r = (older_answers a s' s n v' v os rest rest' x m).0 y in
    let h : ◌≡◌ {A = Option Value} None (Some v) = sym e ∙ r.0 in cc

-- the newer reader, where no unknown additions are present
pub newer_answers : (a : Settings) (s' s : Schema) → Newer s' s → (v v' : Value) (os rest rest' : List ℕ) → fills_known a s v os → meets_cut s' v' ≡ false →
    (front a s' v' (os ++ rest) rest' → (widen s' s v ≡ Some v') × (rest' ≡ rest)) × (widen s' s v ≡ Some v' → fills_known a s' v' os)
newer_answers a s' s n v v' os rest rest' x m = (
  λ y. let r = fronts_agree a y.0 rest' os rest (newer_reads a n v' v) y.2 x (sym y.1) in (r.0 m, r.2),
  λ e. fills_carry a os (newer_takes a n v v' m e) x,
)

pub newer_refuses : (a : Settings) (s' s : Schema) → Newer s' s → (v v' : Value) (os rest rest' : List ℕ) → fills_known a s v os → meets_cut s' v' ≡ false → widen s' s v ≡ None → front a s' v' (os ++ rest) rest' → ⊥
newer_refuses a s' s n v v' os rest rest' x m e y =
    let r = (newer_answers a s' s n v v' os rest rest' x m).0 y in
    let h : ◌≡◌ {A = Option Value} None (Some v') = sym e ∙ r.0 in cc

-- depth
pub deeper_reads : (a : Settings) (s t : Schema) → CutOf s t → (v : Value) (os : List ℕ) → fills a s v os → fills a t v os
deeper_reads a s t c v os x = fills_carry a os (deeper a true true tt c v) x

pub shallower_reads : (a : Settings) (s t : Schema) → CutOf s t → (v : Value) (os : List ℕ) → meets_cut s v ≡ false → fills a t v os → fills a s v os
shallower_reads a s t c v os m x = fills_carry a os (shallower a true c v m) x
