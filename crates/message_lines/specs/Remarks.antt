-- Remarks on messages, printed.
use Rattle.std.specs.Prelude.{ℕ, ◌≡◌, ◌==◌, if◌then◌else◌, List, [], ◌∷◌, ◌++◌, length, codes}
use Rattle.std.specs.List.{flat_map}
use Rattle.line_replies.specs.Layouts.{IsLaidOut}
use Rattle.line_replies.specs.declared.layout.Layout.{Layout}
use Rattle.per_messages.specs.Remarks.{Told}
use Rattle.per_messages.specs.declared.remarks.RemarkKind.{RemarkKind}
use Rattle.per_messages.specs.declared.remarks.RemarkKind.TheVariants.{Missing, Repeated, Criticality}

-- where a path leads, where it isn't empty
abbrev pub at_path : List ℕ → List ℕ
at_path path = if length path == 0 then [] else codes " at " ++ path

-- what departs, of the type with a name, and then where
abbrev pub departure : RemarkKind → List ℕ → List ℕ → List ℕ
departure Missing name place = codes "mandatory " ++ (name ++ (codes " lacks" ++ place))
departure Repeated name place = name ++ (codes " twice" ++ place)
departure Criticality name place = codes "criticality of " ++ (name ++ (codes " isn't its set's" ++ place))

-- a remark on a line, with a line feed at its front
abbrev pub remark_line : Told → List ℕ
remark_line t = 10 ∷ (codes "# " ++ departure t.kind t.name (at_path t.path))

abbrev pub remark_lines : List Told → List ℕ
remark_lines ts = flat_map remark_line ts

-- a text of JSON in a layout, and after it the remarks, each on a line
abbrev pub IsJsonWith : Layout → List ℕ → List Told → List ℕ → Type 0
IsJsonWith layout json remarks text =
    (laid : List ℕ) × IsLaidOut layout json laid × (text ≡ laid ++ remark_lines remarks)
