-- How a JSON text is laid out (RFC 8259 2).
use Rattle.std.specs.Prelude.{ℕ, ◌≡◌, ◌⊎◌, List, ◌∷◌, ◌++◌}
use Rattle.std.specs.Str.{IsUtf8}
use Rattle.json.specs.Layout.{pretty}
use Rattle.json.specs.Lex.{tokens}
use Rattle.json.specs.Token.{bad, Token}
use Rattle.line_replies.specs.declared.layout.Layout.{Layout}
use Rattle.line_replies.specs.declared.layout.Layout.TheVariants.{Compact, Pretty}

-- a text isn't JSON: something in it is no token
abbrev pub HasNoTokens : List ℕ → Type 0
HasNoTokens text = (front rest : List Token) × (tokens text ≡ front ++ bad ∷ rest)

-- a line for each item and member, two spaces deeper for each bracket; what isn't JSON stays as it is
abbrev pub IsInLines : List ℕ → List ℕ → Type 0
IsInLines text laid = (laid ≡ pretty (tokens text)) ⊎ ((laid ≡ text) × HasNoTokens text)

-- a JSON text as it is, or in lines of the same tokens; what isn't UTF-8 stays as it is
abbrev pub IsLaidOut : Layout → List ℕ → List ℕ → Type 0
IsLaidOut Compact text laid = laid ≡ text
IsLaidOut Pretty text laid = (tokens laid ≡ tokens text)
    × (IsInLines text laid ⊎ ((laid ≡ text) × (IsUtf8 text → ⊥)))
