-- Items that are written one by one.
use Rattle.std.specs.Prelude.{IsSome, slice_get, slice_range}
use Rattle.std.proofs.Common.{◌≡◌, refl, sym, ap, ap₂, ◌∙◌, subst, Bool, ℕ, zero, suc, ◌+◌, ◌-◌, ◌<◌, ◌≤◌, List, [], ◌∷◌, ◌++◌, length, length-take, map, take, drop, arith, Option, Some, None}
use Rattle.std.proofs.lemmas.List.{drop-map, take-map, take_at, drop_at, drop-take, take-take}
use Rattle.std.proofs.lemmas.Option.{get_or_from_slice_get, slice_get_within}
use Rattle.std.proofs.Math.Seq.{drop-cons}
use Rattle.rasn_types.specs.Alphabets.{Alphabet, char_code, char_width, index_of, keep_own}
use Rattle.rasn_types.specs.Bits.{Bits}
use Rattle.rasn_types.specs.Variants.{Variant}
use Rattle.per_core.specs.Canon.{char_writers, coded}
use Rattle.per_core.specs.Counts.{bit_writers}
use Rattle.per_core.specs.Writers.{Writer, after, join, one_by_one}
use Rattle.per_core.specs.WritingFaults.{HasForeign}
use Rattle.per_write.specs.Items.{HasRefused, refused_after, refused_here}

-- an element within a list is there
pub some_within : {A : Type 0} (xs : List A) (i : ℕ) (o : Option A) → o ≡ slice_get xs i → i < length xs → IsSome o
some_within [] i o e h = absurd (omega arith)
some_within (x ∷ xs) zero o e h = subst (λ (q : Option _). IsSome q) (sym e) refl
some_within (x ∷ xs) (suc i) o e h = some_within xs i o e (omega arith)

-- the first of the items between two places, and those after it
pub next_between : {A : Type 0} (f : A → Writer) (xs : List A) (i e : ℕ) (x : A) → i < e → slice_get xs i ≡ Some x → slice_range (map f xs) i e ≡ f x ∷ slice_range (map f xs) (i + 1) e
next_between f xs i e x h g =
    let within : i < length xs = slice_get_within xs i x g in
    let here : drop i xs ≡ x ∷ drop (i + 1) xs =
    drop-cons xs i x within ∙ ap (λ y. y ∷ drop (suc i) xs) (get_or_from_slice_get xs i x x g) ∙ ap (λ (n : ℕ). x ∷ drop n xs) {x = suc i} {y = i + 1} (omega arith) in
    let behind : drop i (map f xs) ≡ f x ∷ drop (i + 1) (map f xs) = drop-map f i xs ∙ ap (map f) here ∙ ap (λ (ws : List Writer). f x ∷ ws) (sym (drop-map f (i + 1) xs)) in
    let count : e - i ≡ suc (e - (i + 1)) = omega arith in
    ap₂ (λ (n : ℕ) (ws : List Writer). take n ws) count behind

-- an item without encoding
refused_at : {A : Type 0} (f : A → Writer) (xs : List A) (i : ℕ) (x : A) → slice_get xs i ≡ Some x → ((p : ℕ) → f x p ≡ None) → HasRefused (map f xs)
refused_at f [] i x g h = absurd cc
refused_at f (y ∷ ys) zero x g h = refused_here (λ p. let e : y ≡ x = cc in ap (λ z. f z p) e ∙ h p)
refused_at f (y ∷ ys) (suc i) x g h = refused_after (refused_at f ys i x g h)

pub character_refused : (a : Alphabet) (cs : List ℕ) (i c : ℕ) → slice_get cs i ≡ Some c → char_code a.variant a.characters c ≡ None → HasRefused (char_writers a.variant a.characters cs)
unfolding char_writers
character_refused a cs i c g k =
    refused_at (λ d. coded (char_width a.variant a.characters) (char_code a.variant a.characters d)) cs i c g (λ p. ap (λ (o : Option ℕ). coded (char_width a.variant a.characters) o p) k)

-- a character without a code isn't permitted
no_index : (b : Bool) (c : ℕ) (o : Option ℕ) → keep_own b c o ≡ None → o ≡ None
no_index b c None h = refl
no_index b c (Some i) h = absurd cc

pub character_foreign : (a : Alphabet) (cs : List ℕ) (i c : ℕ) → slice_get cs i ≡ Some c → char_code a.variant a.characters c ≡ None → HasForeign a.characters cs
unfolding char_code
character_foreign a cs i c g k = record {
  index = i;
  within = slice_get_within cs i c g;
  foreign = ap (λ (d : ℕ). index_of d a.characters) (get_or_from_slice_get cs i c 0 g) ∙ no_index _ c (index_of c a.characters) k;
}

pub length-char_writers : (v : Variant) (alphabet cs : List ℕ) → length (char_writers v alphabet cs) ≡ length cs
unfolding char_writers
length-char_writers v alphabet [] = refl
length-char_writers v alphabet (c ∷ cs) = ap suc (length-char_writers v alphabet cs)

pub length-bit_writers : (bs : Bits) → length (bit_writers bs) ≡ length bs
length-bit_writers [] = refl
length-bit_writers (b ∷ bs) = ap suc (length-bit_writers bs)

-- bits one by one
pub bits_one_by_one : (bs : Bits) (p : ℕ) → one_by_one (bit_writers bs) p ≡ Some bs
bits_one_by_one [] p = refl
bits_one_by_one (b ∷ bs) p = ap (join (b ∷ [])) (bits_one_by_one bs (after p (b ∷ [])))

-- the bits between two places
pub bits_between : (bs : Bits) (start end : ℕ) → slice_range (bit_writers bs) start end ≡ bit_writers (slice_range bs start end)
bits_between bs start end = ap (take (end - start)) (drop-map _ start bs) ∙ take-map _ (end - start) (drop start bs)

-- what is taken of octets behind `start` bits is what is there of the bits that the octets hold
pub taken_between : (bs all front rest these others : Bits) (start end : ℕ) → take (length bs) all ≡ bs → end ≤ length bs → start ≤ end → all ≡ front ++ rest → length front ≡ start →
    rest ≡ these ++ others → length these ≡ end - start → these ≡ slice_range bs start end
taken_between bs all front rest these others start end h l o e f i k =
    sym (take_at these others (end - start) k) ∙ ap (take (end - start)) (sym i ∙ sym (ap (drop start) e ∙ drop_at front rest start f))
    ∙ sym (ap (λ cs. take (end - start) (drop start cs)) (sym h) ∙ ap (take (end - start)) (ap (λ (n : ℕ). drop start (take n all)) (let n : length bs ≡ start + (length bs - start) = omega arith in n) ∙ drop-take start (length bs - start) all)
    ∙ take-take (end - start) (length bs - start) (drop start all) (omega arith))

-- a list is as long as its front
pub longer : (bs all : Bits) → take (length bs) all ≡ bs → length bs ≤ length all
longer bs all h = let l = sym (ap length h) ∙ length-take (length bs) all in omega arith
