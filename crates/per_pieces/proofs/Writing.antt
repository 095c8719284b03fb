-- Writers one after another.
use Rattle.std.proofs.Common.{◌≡◌, refl, sym, ap, ◌∙◌, ℕ, [], ◌++◌, Some, None, Option, arith, append_assoc, append-nil, length-append}
use Rattle.rasn_types.specs.Bits.{Bits}
use Rattle.per_core.specs.Writers.{Writer, just, join, go_on, after, ◌▹◌}

join_join : (x y : Bits) (o : Option Bits) → join x (join y o) ≡ join (x ++ y) o
join_join x y None = refl
join_join x y (Some z) = ap Some (sym (append_assoc x y z))

-- writers that write the same at each position
pub then_same : (f f' g g' : Writer) → ((p : ℕ) → f p ≡ f' p) → ((p : ℕ) → g p ≡ g' p) → (p : ℕ) → (f ▹ g) p ≡ (f' ▹ g') p
then_same f f' g g' h k p = ap (λ o. go_on o g p) (h p) ∙ go (f' p)
  where
    go : (o : Option Bits) → go_on o g p ≡ go_on o g' p
    go None = refl
    go (Some b) = ap (join b) (k (after p b))

pub then_assoc : (f g h : Writer) (p : ℕ) → (f ▹ (g ▹ h)) p ≡ ((f ▹ g) ▹ h) p
then_assoc f g h p = outer (f p)
  where
    moved : (b c : Bits) → after (after p b) c ≡ after p (b ++ c)
    moved b c = omega (arith, length-append b c)

    inner : (b : Bits) (o : Option Bits) → join b (go_on o h (after p b)) ≡ go_on (join b o) h p
    inner b None = refl
    inner b (Some c) = ap (λ q. join b (join c (h q))) (moved b c) ∙ join_join b c (h (after p (b ++ c)))

    outer : (o : Option Bits) → go_on o (g ▹ h) p ≡ go_on (go_on o g p) h p
    outer None = refl
    outer (Some b) = inner b (g (after p b))

pub then_nothing : (g : Writer) (p : ℕ) → (g ▹ just []) p ≡ g p
then_nothing g p = go (g p)
  where
    go : (o : Option Bits) → go_on o (just []) p ≡ o
    go None = refl
    go (Some b) = ap Some (append-nil b)

-- no encoding behind anything
pub none_after : (o : Option Bits) (g : Writer) (p : ℕ) → ((q : ℕ) → g q ≡ None) → go_on o g p ≡ None
none_after None g p h = refl
none_after (Some b) g p h = ap (join b) (h (after p b))
