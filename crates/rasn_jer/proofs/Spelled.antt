-- Characters in UTF-8, one by one.
use Rattle.std.proofs.Common.{◌≡◌, ℕ, zero, suc, ◌+◌, ◌<◌, ◌∙◌, sym, ap, List, [], ◌∷◌, ◌++◌, take, append-nil, add-one, encode_utf8_all, Some, None, slice_get, length, get_or, arith}
use Rattle.std.specs.Char.{encode_utf8}
use Rattle.std.proofs.lemmas.Str.{encodes-append}
use Rattle.std.proofs.Math.Seq.{take-suc}

took : (cs : List ℕ) (i c : ℕ) → slice_get cs i ≡ Some c → take (suc i) cs ≡ take i cs ++ c ∷ []
took [] i c e = absurd cc
took (x ∷ cs) zero c e = ap (λ (y : ℕ). y ∷ []) (let t : Some x ≡ Some c = e in cc)
took (x ∷ cs) (suc i) c e = ap (λ (l : List ℕ). x ∷ l) (took cs i c e)

spelled : (cs bs ds : List ℕ) (i c : ℕ) → bs ≡ encode_utf8_all (take i cs) → take (suc i) cs ≡ take i cs ++ c ∷ [] → ds ≡ bs ++ encode_utf8 c
    → ds ≡ encode_utf8_all (take (i + 1) cs)
spelled cs bs ds i c h e d = d ∙ ap (λ (l : List ℕ). l ++ encode_utf8 c) h
    ∙ sym (ap encode_utf8_all (rw (add-one i) e) ∙ encodes-append (take i cs) (c ∷ []) ∙ ap (λ (l : List ℕ). encode_utf8_all (take i cs) ++ l) (append-nil (encode_utf8 c)))

-- the character that is there
pub spelled_there : (cs bs ds : List ℕ) (i c : ℕ) → bs ≡ encode_utf8_all (take i cs) → slice_get cs i ≡ Some c → ds ≡ bs ++ encode_utf8 c → ds ≡ encode_utf8_all (take (i + 1) cs)
spelled_there cs bs ds i c h e d = spelled cs bs ds i c h (took cs i c e) d

-- the same, where there are so many
pub spelled_within : (cs bs ds : List ℕ) (i c : ℕ) → bs ≡ encode_utf8_all (take i cs) → i < length cs → c ≡ get_or cs i 0 → ds ≡ bs ++ encode_utf8 c → ds ≡ encode_utf8_all (take (i + 1) cs)
spelled_within cs bs ds i c h l e d = spelled cs bs ds i c h (take-suc cs i 0 l ∙ ap (λ (y : ℕ). take i cs ++ y ∷ []) (sym e)) d

-- one is at each index
pub is_there : (cs : List ℕ) (i : ℕ) → i < length cs → slice_get cs i ≡ None → ⊥
is_there [] i h e = absurd (omega (arith, h))
is_there (x ∷ cs) zero h e = absurd (let t : Some x ≡ None = e in cc)
is_there (x ∷ cs) (suc i) h e = is_there cs i (omega (arith, h)) e
