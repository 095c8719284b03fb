-- A SET from its components, each by itself: wherever their presence bits and values were written first, they are in
-- ascending order of the components' smallest tags (ITU-T X.691, 21.1).
use Rattle.std.specs.Prelude.{Bool, List, [], ◌∷◌, Option}
use Rattle.rasn_types.specs.Values.{Value}
use Rattle.rasn_types.specs.Variants.{Variant}
use Rattle.rasn_schema.specs.Orders.{by_tags}
use Rattle.rasn_schema.specs.Schemas.{Parts, tags}
use Rattle.per_core.specs.Canon.{Member, bitmap_of, flagged, if_shown, members, shown, with_additions}
use Rattle.per_core.specs.Writers.{Writer, one_by_one, ◌▹◌}

-- what each component writes, as they are listed
abbrev pub each_writes : (Member → Option Value → Writer) → List Member → List (Option Value) → List Writer
each_writes f (m ∷ ms) (s ∷ ss) = f m s ∷ each_writes f ms ss
each_writes f _ _ = []

-- X.691 19.2: a component's presence bit, and nothing where it is required
abbrev pub its_flag : Member → Option Value → Writer
its_flag m s = flagged m.presence (shown m.presence s)

-- X.691 19.4, 19.6: a component's value, where it is written
abbrev pub its_value : Member → Option Value → Writer
its_value m s = if_shown (shown m.presence s) s m.writes

-- X.691 21.1: what was written for each component, in ascending order of their smallest tags
abbrev pub placed : Parts → List Writer → Writer
placed ps ws = one_by_one (by_tags (tags ps) ws)

-- X.691 19, 21: a SET from what is written for each of its components, as they are listed: the extension bit, the
-- presence bits and the values, each in its place, and the additions
abbrev pub placed_set : Variant → Parts → Bool → Parts → List (Option Value) → List (Option Value) → Writer
placed_set a ps ext adds rs xs =
    let ms = members a ps in
    let root = placed ps (each_writes its_flag ms rs) ▹ placed ps (each_writes its_value ms rs) in
    with_additions a ext (members a adds) xs root (bitmap_of (members a adds) xs)
