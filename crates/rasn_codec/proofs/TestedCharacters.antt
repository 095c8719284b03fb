-- Characters that a test takes.
use Rattle.std.proofs.Common.{◌≡◌, refl, sym, ap, ap₂, ◌∙◌, ℕ, Bool, true, false, cond, ◌&&◌, ltb, List, [], ◌∷◌, arith, le-leb}
use Rattle.rasn_types.specs.Alphabets.{has, has_all, ia5}
use Rattle.rasn_strings.proofs.IntervalsOf.{has-interval_of}
use Rattle.rasn_codec.specs.AtDefault.{are_all, kept}

-- by two tests that say the same
are_all_same : (f g : ℕ → Bool) → ((c : ℕ) → f c ≡ g c) → (cs : List ℕ) → are_all f cs ≡ are_all g cs
are_all_same f g h [] = refl
are_all_same f g h (c ∷ cs) = ap₂ (λ (x y : Bool). x && y) (h c) (are_all_same f g h cs)

pub kept_same : (f g : ℕ → Bool) → ((c : ℕ) → f c ≡ g c) → (cs : List ℕ) → kept f cs ≡ kept g cs
kept_same f g h cs = ap (λ (b : Bool). cond b cs []) (are_all_same f g h cs)

-- those of IA5String are below 128
pub kept_ia5 : (cs : List ℕ) → kept (has ia5) cs ≡ kept (λ c. ltb c 128) cs
kept_ia5 = kept_same (has ia5) (λ c. ltb c 128) (λ c. has-interval_of 128 0 c ∙ ap (λ (b : Bool). b && ltb c 128) (le-leb 0 c (omega arith)))

-- what is kept is taken
all_is : (own cs : List ℕ) → are_all (has own) cs ≡ has_all own cs
all_is own [] = refl
all_is own (c ∷ cs) = ap (λ (b : Bool). has own c && b) (all_is own cs)

taken : (own cs : List ℕ) (b : Bool) → are_all (has own) cs ≡ b → has_all own (cond b cs []) ≡ true
taken own cs false e = refl
taken own cs true e = sym (all_is own cs) ∙ e

pub kept_own : (own cs : List ℕ) → has_all own (kept (has own) cs) ≡ true
kept_own own cs = taken own cs (are_all (has own) cs) refl
