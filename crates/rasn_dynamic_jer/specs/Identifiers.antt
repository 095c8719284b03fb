-- The arcs of an OBJECT IDENTIFIER, by its contents octets (ITU-T X.690, 8.19) and by its text (ITU-T X.697).
use Rattle.std.specs.Prelude.{ℕ, ◌+◌, ◌-◌, ◌*◌, ◌^◌, Bool, ◌&&◌, ◌==◌, if◌then◌else◌, nat_lt, List, [], ◌∷◌, Option}
use Rattle.std.specs.Prelude.{Some, None, option_map}
use Rattle.std.specs.Option.{option_and_then}
use Rattle.std.specs.Str.{bytes_eq}
use Rattle.rasn_types.specs.Contents.{is_identifier}
use Rattle.rasn_types.specs.Identifiers.{are_arcs, contents}
use Rattle.rasn_types.specs.Values.{Value, octets}
use Rattle.json.specs.Json.{Json, string}
use Rattle.rasn_jer.specs.Strings.{dotted}

-- X.690 8.19.2: the subidentifiers that octets hold, of which the first has begun with a number: seven bits an octet
abbrev pub subidentifiers_in : ℕ → List ℕ → List ℕ
subidentifiers_in n [] = []
subidentifiers_in n (o ∷ os) =
    if nat_lt o 128 then (128 * n + o) ∷ subidentifiers_in 0 os else subidentifiers_in (128 * n + (o - 128)) os

-- X.690 8.19.4: the two arcs that the first subidentifier holds, and the others
abbrev pub arcs_of : List ℕ → List ℕ
arcs_of [] = []
arcs_of (n ∷ ns) =
    if nat_lt n 40 then 0 ∷ n ∷ ns else if nat_lt n 80 then 1 ∷ (n - 40) ∷ ns else 2 ∷ (n - 80) ∷ ns

-- the arcs of contents octets
abbrev pub arcs_in : List ℕ → List ℕ
arcs_in os = arcs_of (subidentifiers_in 0 os)

-- whether octets are the contents of an object, and so of the arcs that they hold
abbrev pub are_contents : List ℕ → Bool
are_contents os = is_identifier os && bytes_eq (contents (arcs_in os)) os

-- X.697: OBJECT IDENTIFIER: its arcs
abbrev pub identifier_json : List ℕ → Option Json
identifier_json os = if are_contents os then Some (string (dotted (arcs_in os))) else None

-- a number read on by a decimal digit; arcs are below 2 ^ 32 (this project's choice)
abbrev pub read_on : ℕ → ℕ → Option ℕ
read_on n c = if nat_lt (10 * n + (c - 48)) (2 ^ 32) then Some (10 * n + (c - 48)) else None

-- the numbers that characters spell, of which the first has begun with a number, with a full stop between two of them
abbrev pub numbers_in : ℕ → List ℕ → Option (List ℕ)
numbers_in n [] = Some (n ∷ [])
numbers_in n (c ∷ cs) =
    if c == 46 then option_map (λ ns. n ∷ ns) (numbers_in 0 cs)
    else option_and_then (λ m. numbers_in m cs) (read_on n c)

-- the object whose arcs are numbers, where a text is theirs
abbrev pub object_with : List ℕ → List ℕ → Option Value
object_with s arcs = if are_arcs arcs && bytes_eq (dotted arcs) s then Some (octets (contents arcs)) else None

-- X.697: OBJECT IDENTIFIER: the object whose arcs a text is
abbrev pub identifier_told : List ℕ → Option Value
identifier_told s = option_and_then (object_with s) (numbers_in 0 s)
