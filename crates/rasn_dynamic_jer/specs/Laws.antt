-- What is read of what is shown.
use Rattle.std.specs.Prelude.{◌≡◌, ℕ, List, Option, Some, MatchResult, Result}
use Rattle.rasn_types.specs.Values
use Rattle.rasn_dynamic.specs.declared.types.Kind.{Kind}
use Rattle.rasn_dynamic.specs.declared.values.Value.{Value}
use Rattle.rasn_dynamic.specs.Values.{slot_of}
use Rattle.json.specs.Json.{max_depth}
use Rattle.rasn_dynamic_jer.specs.Normal.{normal_at}
use Rattle.rasn_dynamic_jer.specs.FromJson.{IsNoText, IsTextOf}
use Rattle.rasn_dynamic_jer.specs.declared.from_json_error.FromJsonError.{FromJsonError}
use Rattle.rasn_dynamic_jer.specs.declared.from_json_error.FromJsonError.TheVariants.{OutOfMemory}

-- an answer of a call that reads a text by the type at a place
abbrev pub Reads : List Kind → ℕ → List ℕ → Result Value FromJsonError → Type 0
Reads ts i text r = MatchResult r (IsTextOf ts i text) (IsNoText ts i text)

-- it is the normal form of a value, or says that memory ran out
abbrev pub IsReadBack : List Kind → ℕ → Option Values.Value → Result Value FromJsonError → Type 0
IsReadBack ts i s r = MatchResult r
    (λ y. (v : Values.Value) × (s ≡ Some v) × (slot_of y ≡ Some (normal_at ts max_depth i v)))
    (λ e. e ≡ OutOfMemory)

-- two values have one normal form
abbrev pub HaveOneForm : List Kind → ℕ → Option Values.Value → Option Values.Value → Type 0
HaveOneForm ts i s t =
    (v w : Values.Value) × (s ≡ Some v) × (t ≡ Some w) × (normal_at ts max_depth i v ≡ normal_at ts max_depth i w)
