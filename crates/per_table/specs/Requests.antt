-- The request that a line is.
use Rattle.std.specs.Prelude.{ℕ, ◌≡◌, ◌≢◌, ◌<◌, List, [], ◌∷◌, ◌++◌, length, slice_index, Some}
use Rattle.std.specs.Str.{IsUtf8}
use Rattle.per_core.specs.Rows.{Codec}
use Rattle.rasn_dynamic.specs.Names.{place_of}
use Rattle.rasn_dynamic.specs.declared.types.Types.{Types}
use Rattle.line_replies.specs.Codecs.{codec_word}

-- no blank is in a word
abbrev pub IsWord : List ℕ → Type 0
IsWord word = (i : ℕ) → i < length word → slice_index word i ≢ 32

-- a line is a variant, a name and a text, with a blank between two
pub record IsRequest (line : List ℕ) (codec : Codec) (name text : List ℕ) : Type 0 where
  pub is_text : IsUtf8 line
  pub are_words : line ≡ codec_word codec ++ 32 ∷ (name ++ 32 ∷ text)
  pub is_name : IsWord name

-- a line is a request whose name is that of the type at a place of the table
pub record IsRequestOf (types : Types) (line : List ℕ) (codec : Codec) (place : ℕ) (text : List ℕ) : Type 0 where
  pub name : List ℕ
  pub is_request : IsRequest line codec name text
  pub stands : place_of types.names.items name ≡ Some place
