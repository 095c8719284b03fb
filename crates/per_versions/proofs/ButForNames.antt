-- What is read, in the words of the calls, where bits have names in one of two versions alone.
use Rattle.std.proofs.Common.{◌↔◌, ℕ, List, []}
use Rattle.rasn_types.specs.Values.{Value}
use Rattle.rasn_schema.specs.Levels.{Levelled}
use Rattle.rasn_schema.specs.Schemas.{Schema}
use Rattle.per_core.specs.Basic.{fills_known, read}
use Rattle.per_core.specs.Spellings.{Settings}
use Rattle.per_laws.specs.NamedBits.{NewerTypeButForNames}
use Rattle.per_laws.proofs.Levelled.{levelled_type_unfolds}
use Rattle.per_laws.proofs.Nameless
use Rattle.per_versions.specs.Readings.{depth_of, IsProjection, IsWidening}
use Rattle.per_versions.proofs.Depths.{is_held}

pub older_projects : (a : Settings) (T' T : ℕ → Schema) → Levelled T' → Levelled T → NewerTypeButForNames T' T → (v : Value) (os : List ℕ) → read a T' v os → (w : Value) → read a T w os ↔ IsProjection T' T v w
older_projects a T' T g' g x v os r w =
    (Nameless.older_reader_answers a T' T (levelled_type_unfolds T' g') (levelled_type_unfolds T g) x v w os [] [] (depth_of v) (is_held T' g' v) r).0

pub newer_widens : (a : Settings) (T' T : ℕ → Schema) → Levelled T' → Levelled T → NewerTypeButForNames T' T → (v : Value) (os : List ℕ) → fills_known a (T 128) v os → (w : Value) → read a T' w os ↔ IsWidening T' T v w
newer_widens a T' T g' g x v os r w =
    (Nameless.newer_reader_answers a T' T (levelled_type_unfolds T' g') (levelled_type_unfolds T g) x v w os [] [] (depth_of w) (is_held T' g' w) r).0
