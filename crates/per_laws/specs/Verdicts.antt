-- What a comparison of two schemas answers, or a judgement of one: that all is well, or the first thing that isn't and
-- its place.
use Rattle.std.specs.Prelude.{ℕ, Bool, true, false}

pub data Verdict : Type 0 where
  -- all is well
  allowed : Verdict
  -- X.680 52: what a newer version may not change: the kind, the bounds, the number type, the size, the permitted
  -- alphabet, the items, the extension marker, the order of components (SEQUENCE for SET), a tag, whether a component
  -- may be absent, a default
  other_kind other_bounds other_range other_size other_alphabet : Verdict
  other_items other_marker other_order other_tag other_presence other_default : Verdict
  -- a component, an alternative or an addition that isn't there any more, and one that is new where nothing may be
  -- added
  left_out put_in : Verdict
  -- what a lawful schema may not have: bounds or a size out of order, an addition group in the root, or one that is no
  -- SEQUENCE, too many presence bits, a tag that stands twice, an alternative that isn't required, a default that is no
  -- value or not in normal form
  bad_bounds bad_size root_group bad_group many_bits repeated_tag bad_alternative bad_default : Verdict
  -- X.680: a type that holds itself, or has more than 128 levels, of which computing finds no end
  no_end : Verdict
  -- where it is: in what octets contain, in the elements of a list or bag, in the root or after the marker, at a place
  -- from 0
  in_contents in_element in_root in_additions : Verdict → Verdict
  at_place : ℕ → Verdict → Verdict

-- whether all is well
abbrev pub is_allowed : Verdict → Bool
is_allowed allowed = true
is_allowed _ = false

-- the second one where a test is passed, else the first
abbrev pub unless : Bool → Verdict → Verdict → Verdict
unless true why v = v
unless false why v = why

-- the first that isn't well
abbrev pub both : Verdict → Verdict → Verdict
both allowed w = w
both v w = v

-- what isn't well, and where
abbrev pub within : (Verdict → Verdict) → Verdict → Verdict
within place allowed = allowed
within place v = place v
