-- The octets of words, one by one.
use Rattle.std.proofs.Common.{◌≡◌, refl, sym, ap, ◌∙◌, ℕ, zero, suc, ◌<◌, List, [], ◌∷◌, ◌++◌, ◌⊎◌, inl, inr, Option, Some, None, length, get_or, map, arith, append_assoc, append-nil, Bool, true, false, ◌||◌, Result, Ok, Err, IfOk, IfErr}
use Rattle.std.specs.Global.{Vec}
use Rattle.std.specs.List.{All, list_any}
use Rattle.std.proofs.lemmas.List.Splits.{slice_split_none}
use Rattle.std.proofs.lemmas.List.Elements.{All-cons}
use Rattle.message_lines.specs.Digits.{is_between, joined, octets_in, octets_of, octets_of_words}

joined-none : (x : Option (List ℕ)) → joined x None ≡ None
joined-none None = refl
joined-none (Some xs) = refl

joined-nil : (x : Option (List ℕ)) → joined x (Some []) ≡ joined (Some []) x
joined-nil None = refl
joined-nil (Some xs) = ap Some (append-nil xs)

joined-assoc : (x y z : Option (List ℕ)) → joined x (joined y z) ≡ joined (joined x y) z
joined-assoc None y z = refl
joined-assoc (Some xs) None z = refl
joined-assoc (Some xs) (Some ys) None = refl
joined-assoc (Some xs) (Some ys) (Some zs) = ap Some (sym (append_assoc xs ys zs))

-- a word more
pub words-more : (words : List (List ℕ)) (word : List ℕ) →
    octets_of_words (words ++ word ∷ []) ≡ joined (octets_of_words words) (octets_of word)
words-more [] word = joined-nil (octets_of word)
words-more (w ∷ words) word = ap (joined (octets_of w)) (words-more words word)
    ∙ joined-assoc (octets_of w) (octets_of_words words) (octets_of word)

-- where one word isn't pairs of digits, there are no octets
pub words-none : (words : List (List ℕ)) (k : ℕ) (word : List ℕ) → (k < length words) × (word ≡ get_or words k word) →
    octets_of word ≡ None → octets_of_words words ≡ None
words-none [] k word here none = absurd (omega (arith, here.0))
words-none (w ∷ words) zero word here none =
    ap (λ x. joined x (octets_of_words words)) (ap octets_of (sym here.1) ∙ none)
words-none (w ∷ words) (suc k) word here none =
    ap (joined (octets_of w)) (words-none words k word (omega (arith, here.0), here.1) none) ∙ joined-none (octets_of w)

pub words-fault : {E : Type 0} (words : List (List ℕ)) (k : ℕ) (word : List ℕ) → (k < length words) × (word ≡ get_or words k word) →
    E ⊎ (octets_of word ≡ None) → E ⊎ (octets_of_words words ≡ None)
words-fault words k word here (inl e) = inl e
words-fault words k word here (inr none) = inr (words-none words k word here none)

-- a text without what may be between octets is one word
or-left : (a b : Bool) → (a || b) ≡ false → a ≡ false
or-left true b h = h
or-left false b h = refl

or-right : (a b : Bool) → (a || b) ≡ false → b ≡ false
or-right true b h = absurd cc
or-right false b h = h

none-between : (text : List ℕ) → list_any is_between text ≡ false → All (λ c. is_between c ≡ false) text
none-between [] h = λ k d less. absurd (omega (arith, less))
none-between (c ∷ text) h =
    All-cons (λ d. is_between d ≡ false) c text (or-left (is_between c) (list_any is_between text) h)
    (none-between text (or-right (is_between c) (list_any is_between text) h))

pub one-word : (text : List ℕ) → list_any is_between text ≡ false → octets_in text ≡ octets_of text
one-word text h = ap octets_of_words (slice_split_none is_between text (none-between text h)) ∙ of-one (octets_of text)
  where
    of-one : (x : Option (List ℕ)) → joined x (Some []) ≡ x
    of-one None = refl
    of-one (Some xs) = ap Some (append-nil xs)

pub octets-as : {E : Type 0} {x y : Option (List ℕ)} (result : Result (Vec ℕ) E) → x ≡ y → IfOk result (λ octets. y ≡ Some octets.items)
    → IfOk result (λ octets. x ≡ Some octets.items)
octets-as (Ok octets) e h = e ∙ h
octets-as (Err fault) e h = tt

pub fault-as : {E : Type 0} {x y : Option (List ℕ)} (P : E → Type 0) (result : Result (Vec ℕ) E) → x ≡ y
    → IfErr result (λ fault. P fault ⊎ (y ≡ None)) → IfErr result (λ fault. P fault ⊎ (x ≡ None))
fault-as P (Ok octets) e h = tt
fault-as P (Err fault) e (inl p) = inl p
fault-as P (Err fault) e (inr q) = inr (e ∙ q)
