-- What of a value's JSON is written.
use Rattle.std.specs.Prelude.{ℕ, ◌≡◌, ◌+◌, ◌≤◌, ◌⊎◌, List, [], ◌∷◌, ◌++◌, flat_map, Option, Some, None, Result}
use Rattle.std.specs.Prelude.{MatchResult}
use Rattle.std.specs.Str.{IsUtf8}
use Rattle.json.specs.Json.{Json, array, object, document}
use Rattle.json.specs.Value.{items_of}
use Rattle.json.specs.Print.{print}
use Rattle.json.specs.Token.{Token}
use Rattle.json.specs.Tree.{HasNumbers, json_tokens, depth}
use Rattle.json.specs.Written.{Written}
use Rattle.rasn_dynamic_jer.specs.Shown.{Member, members_from}
use Rattle.rasn_dynamic_jer.specs.declared.error.ToJsonError.{ToJsonError}
use Rattle.rasn_dynamic_jer.specs.declared.error.ToJsonError.TheVariants.{NoJson, OutOfMemory}

-- the tokens of members
abbrev pub member_tokens : Member → List Token
member_tokens m = Token.key m.0 ∷ json_tokens m.1

-- there is JSON, its tokens are written after others, and it takes no more than so many levels
pub record IsPut (o : Option Json) (n : ℕ) (old new : Written) : Type 0 where
  pub json : Json
  pub shown : o ≡ Some json
  pub numbers : HasNumbers json
  pub within : depth json ≤ n
  pub tokens : new.tokens ≡ old.tokens ++ json_tokens json

-- there are members, their tokens are written after others, and each value takes no more than so many levels
pub record ArePut (o : Option (List Member)) (n : ℕ) (old new : Written) : Type 0 where
  pub members : List Member
  pub shown : o ≡ Some members
  pub numbers : HasNumbers (object (members_from members))
  pub within : depth (object (members_from members)) ≤ n + 1
  pub tokens : new.tokens ≡ old.tokens ++ flat_map member_tokens members

-- it is refused: memory ran out, or there is none
abbrev pub IsRefused : {A : Type 0} → Option A → ToJsonError → Type 0
IsRefused o e = (e ≡ OutOfMemory) ⊎ ((e ≡ NoJson) × (o ≡ None))

-- JSON is written, or refused
pub record Puts (o : Option Json) (n : ℕ) (old : Written) (r : Result (Unit {0}) ToJsonError) (new : Written)
    : Type 0 where
  pub law : MatchResult r (λ done. IsPut o n old new) (IsRefused o)
  pub before : new.before ≡ old.before

-- members are written, or refused
pub record PutsMembers (o : Option (List Member)) (n : ℕ) (old : Written) (r : Result (Unit {0}) ToJsonError)
    (new : Written) : Type 0 where
  pub law : MatchResult r (λ done. ArePut o n old new) (IsRefused o)
  pub before : new.before ≡ old.before

-- a text is JSON in UTF-8, and reads back as it
pub record IsJsonText (o : Option Json) (text : List ℕ) : Type 0 where
  pub json : Json
  pub shown : o ≡ Some json
  pub printed : text ≡ print (json_tokens json)
  pub read : document text ≡ Some json
  pub utf8 : IsUtf8 text

-- a token is written after others, or memory ran out
pub record PutsToken (t : Token) (old : Written) (r : Result (Unit {0}) ToJsonError) (new : Written) : Type 0 where
  pub law : MatchResult r (λ done. new.tokens ≡ old.tokens ++ t ∷ []) (λ e. e ≡ OutOfMemory)
  pub before : new.before ≡ old.before

-- JSON of values, one after another
pub record AreAllPut (o : Option (List Json)) (n : ℕ) (old new : Written) : Type 0 where
  pub values : List Json
  pub shown : o ≡ Some values
  pub numbers : HasNumbers (array (items_of values))
  pub within : depth (array (items_of values)) ≤ n + 1
  pub tokens : new.tokens ≡ old.tokens ++ flat_map json_tokens values

-- all values of an array are written, or refused
pub record PutsAll (o : Option (List Json)) (n : ℕ) (old : Written) (r : Result (Unit {0}) ToJsonError) (new : Written)
    : Type 0 where
  pub law : MatchResult r (λ done. AreAllPut o n old new) (IsRefused o)
  pub before : new.before ≡ old.before
