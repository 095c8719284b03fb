-- Where the bits end that are left of a message (X.691 11.2).
use Rattle.std.specs.Prelude.{ℕ, ◌-◌}
use Rattle.per_ways.specs.declared.extents.Extent.{Extent}
use Rattle.per_ways.specs.declared.extents.OpenAhead.{OpenAhead}

-- how many bits are in front of the last ones that are left: of an open type in fragments, those in front of it
abbrev pub position_of : Extent → ℕ → ℕ
position_of (Extent.After end) left = end - left
position_of (Extent.Gathered bit) left = bit

-- X.691 11.2: where the contents of an open type end; one within fragments is nowhere else than these
abbrev pub contents_end : Extent → OpenAhead → Extent
contents_end (Extent.Gathered bit) ahead = Extent.Gathered bit
contents_end (Extent.After end) (OpenAhead.InPlace left) = Extent.After (end - left)
contents_end (Extent.After end) (OpenAhead.Gathered left) = Extent.Gathered (end - left)
