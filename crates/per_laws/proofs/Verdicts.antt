-- Where all is well, each test was passed.
use Rattle.std.proofs.Common.{◌≡◌, refl, sym, ap, Bool, true, false}
use Rattle.per_laws.specs.Verdicts.{Verdict, allowed, is_allowed, both, unless, within}

pub passed : (b : Bool) (why v : Verdict) → is_allowed why ≡ false → unless b why v ≡ allowed → (b ≡ true) × (v ≡ allowed)
passed true why v n e = (refl, e)
passed false why v n e = let h : is_allowed why ≡ true = ap is_allowed e in absurd (cc)

pub both_allowed : (v w : Verdict) → both v w ≡ allowed → (v ≡ allowed) × (w ≡ allowed)
both_allowed allowed w e = (refl, e)
both_allowed _ w e = absurd (cc)

pub within_allowed : (place : Verdict → Verdict) (v : Verdict) → ((w : Verdict) → is_allowed (place w) ≡ false) → within place v ≡ allowed → v ≡ allowed
within_allowed place allowed n e = refl
within_allowed place v n e = go v refl e
  where
    go : (u : Verdict) → u ≡ v → within place u ≡ allowed → v ≡ allowed
    go allowed f e = sym f
    go u f e = let h : is_allowed (place u) ≡ true = ap is_allowed e in let k = n u in absurd (cc)
