-- Values that can be written.
use Rattle.std.specs.Prelude.{◌≡◌, true, List, [], ◌∷◌, is_some}
use Rattle.rasn_types.specs.Values.{Value}
use Rattle.per_core.specs.Writers.{Writer}

-- each value is written from position 0
abbrev pub AreWritten : (Value → Writer) → List Value → Type 0
AreWritten writes [] = Unit {0}
AreWritten writes (v ∷ vs) = (is_some (writes v 0) ≡ true) × AreWritten writes vs
