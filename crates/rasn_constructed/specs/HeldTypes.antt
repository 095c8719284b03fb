-- What a function owes that reads values of a type which another type holds, or which holds itself.
use Rattle.std.specs.Prelude.{ℕ, ◌≤◌, Result}
use Rattle.std.specs.Borrow.{MutBor}
use Rattle.std.specs.Fn.{Shared}
use Rattle.rasn_types.specs.Values.{Value}
use Rattle.rasn_types.specs.declared.types.Tag.{Tag}
use Rattle.rasn_schema.specs.Schemas.{Schema}
use Rattle.rasn_traits.specs.Calls.{DecoderRules, Reads}

-- With at most so many levels left it may be called, and reads what the type's schema relates.
pub record ReadsHeld {E S T F : Type 0} (rules : DecoderRules E S) (schema : ℕ → Schema)
    (value : T → Value) (calls : Shared F (MutBor S × (Tag × Unit {0}))
    (Result T E × (MutBor S × Unit {0}))) (held : F) (most : ℕ) : Type 0 where
  pub may : (s : MutBor S) (t : Tag) → rules.levels s.now ≤ most → calls.pre held (s, (t, tt))
  pub reads : (s : MutBor S) (t : Tag) (r : Result T E) (u : MutBor S) → rules.levels s.now ≤ most
      → calls.post held (s, (t, tt)) (r, (u, tt))
      → Reads rules (schema (rules.levels s.now)) value s.now r u.now
