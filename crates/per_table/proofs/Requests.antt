-- The words of a request, and that these are its only ones.
use Rattle.std.proofs.Common.{◌≡◌, ◌≢◌, true, false, Bool, ℕ, zero, suc, ◌<◌, ◌≤◌, ◌+◌, List, [], ◌∷◌, ◌++◌, Option, Some, None, Bor, length, get_or, refl, sym, ap, ◌∙◌, subst, arith, rules, MatchOption, IfNone}
use Rattle.std.specs.Prelude.{codes}
use Rattle.std.specs.Str.{IsUtf8}
use Rattle.std.proofs.lemmas.Str.Pattern.{IsSplitOnceResult, split_after, split_parts}
use Rattle.per_core.specs.Rows.{Codec, Aper, Uper}
use Rattle.line_replies.specs.Codecs.{codec_word}
use Rattle.per_table.specs.Requests.{IsWord, IsRequest}

empty_word : IsWord []
empty_word i l = search (rules, arith)

longer_word : (x : ℕ) (xs : List ℕ) → x ≢ 32 → IsWord xs → IsWord (x ∷ xs)
longer_word x xs n h zero l = n
longer_word x xs n h (suc i) l = h i (omega arith)

per_is_word : IsWord (codes "per")
per_is_word = longer_word 112 (codes "er") (omega arith) (longer_word 101 (codes "r") (omega arith) (longer_word 114 [] (omega arith) empty_word))

codec_is_word : (c : Codec) → IsWord (codec_word c)
codec_is_word Aper = longer_word 97 (codes "per") (omega arith) per_is_word
codec_is_word Uper = longer_word 117 (codes "per") (omega arith) per_is_word

-- the first blank of a request is after the variant
pub first_cut : (c : Codec) (line name digits : List ℕ) (r : Option (Bor (List ℕ) × Bor (List ℕ))) → IsSplitOnceResult 32 line r →
    IsRequest line c name digits → MatchOption r ⊥ (λ x. (x.0.now ≡ codec_word c) × (x.1.now ≡ name ++ 32 ∷ digits))
first_cut c line name digits r h q = split_after 32 line (codec_word c) (name ++ 32 ∷ digits) r h (omega arith) q.are_words (codec_is_word c)

-- no second blank
pub one_blank : (line : List ℕ) (x : Bor (List ℕ) × Bor (List ℕ)) → IsSplitOnceResult 32 line (Some x) → IsSplitOnceResult 32 x.1.now None →
    (c : Codec) (name digits : List ℕ) → IsRequest line c name digits → ⊥
one_blank line x h h2 c name digits q =
    let first = first_cut c line name digits (Some x) h q in
    split_after 32 x.1.now name digits None h2 (omega arith) first.1 q.is_name

-- three words
pub is_request : (line : List ℕ) (x y : Bor (List ℕ) × Bor (List ℕ)) (c : Codec) → IsUtf8 line → IsSplitOnceResult 32 line (Some x) →
    IsSplitOnceResult 32 x.1.now (Some y) → x.0.now ≡ codec_word c → IsRequest line c y.0.now y.1.now
is_request line x y c u h h2 e =
    let first = split_parts 32 line (Some x) h (omega arith) in
    let second = split_parts 32 x.1.now (Some y) h2 (omega arith) in
    record {
      is_text = u;
      are_words = first.0 ∙ ap (λ v. v ++ 32 ∷ x.1.now) e ∙ ap (λ rest. codec_word c ++ 32 ∷ rest) second.0;
      is_name = second.1;
    }
