-- The year of a DATE, as it is written (ITU-T X.691 32).
use Rattle.std.specs.Prelude.{Some, ℤ, pos}
use Rattle.rasn_types.specs.Variants.{Variant}
use Rattle.per_core.specs.Counts.{number_under}
use Rattle.per_core.specs.Writers.{Writer, ◌▹◌}

-- X.691 32: the index of a range, and a year between its ends
abbrev pub put_within : Variant → ℤ → ℤ → ℤ → ℤ → Writer
put_within a index first last year = number_under a (Some (pos 0)) (Some (pos 3)) index ▹ number_under a (Some first)
    (Some last) year
