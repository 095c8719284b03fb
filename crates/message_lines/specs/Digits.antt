-- Hexadecimal as people have it.
use Rattle.std.specs.Prelude.{ℕ, Bool, ◌==◌, ◌&&◌, ◌||◌, if◌then◌else◌, List, [], ◌∷◌, ◌++◌, Option, Some, None}
use Rattle.std.specs.List.{slice_split}
use Rattle.std.specs.Result.{result_ok}
use Rattle.hex.specs.Hex.{decode_of}

-- a blank, a tab, a comma or a colon
abbrev pub is_between : ℕ → Bool
is_between c = c == 32 || (c == 9 || (c == 44 || c == 58))

-- a word without `0x` at its front
abbrev pub without_prefix : List ℕ → List ℕ
without_prefix [] = []
without_prefix (c ∷ []) = c ∷ []
without_prefix (c ∷ d ∷ cs) = if c == 48 && (d == 120 || d == 88) then cs else c ∷ d ∷ cs

-- the octets of a word, where it is pairs of digits
abbrev pub octets_of : List ℕ → Option (List ℕ)
octets_of word = result_ok (decode_of (without_prefix word))

-- octets and those after them, where both are there
abbrev pub joined : Option (List ℕ) → Option (List ℕ) → Option (List ℕ)
joined None ys = None
joined (Some xs) None = None
joined (Some xs) (Some ys) = Some (xs ++ ys)

-- the octets of words, where each is pairs of digits
abbrev pub octets_of_words : List (List ℕ) → Option (List ℕ)
octets_of_words [] = Some []
octets_of_words (word ∷ words) = joined (octets_of word) (octets_of_words words)

-- the octets of the words of a text
abbrev pub octets_in : List ℕ → Option (List ℕ)
octets_in text = octets_of_words (slice_split is_between text)
