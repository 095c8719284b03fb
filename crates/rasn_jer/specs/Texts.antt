-- The text of a JSON value without spaces (RFC 8259). A JSON value is that of the toolchain's crate `json`, whose
-- `document` reads a text.
use Rattle.std.specs.Prelude.{ℕ, Bool, true, false, List, [], ◌∷◌, ◌++◌}
use Rattle.json.specs.Json.{Json, null, boolean, number, string, array, object, Items, no_items, item}
use Rattle.json.specs.Json.{Members, no_members, member}
use Rattle.json.specs.Print.{quoted, token_text}
use Rattle.json.specs.Token as Token

-- RFC 8259 4, 5: a comma is in front of every item and member but the first
abbrev pub comma : Bool → List ℕ
comma true = []
comma false = 44 ∷ []

-- RFC 8259 4: a member by its name and the text of its value
abbrev pub member_text : List ℕ → List ℕ → List ℕ
member_text name text = quoted name ++ (58 ∷ text)

-- a text between an opening and a closing character
abbrev pub enclosed : ℕ → List ℕ → ℕ → List ℕ
enclosed opening text closing = opening ∷ (text ++ closing ∷ [])

abbrev mutual
  -- RFC 8259 3: the text of a value
  pub text_of : Json → List ℕ
  text_of null = token_text Token.null
  text_of (boolean b) = token_text (Token.boolean b)
  text_of (number s) = s
  text_of (string s) = quoted s
  text_of (array js) = enclosed 91 (items_text true js) 93
  text_of (object ms) = enclosed 123 (members_text true ms) 125

  -- RFC 8259 5: the text of items, of which the first may be the first of its array
  pub items_text : Bool → Items → List ℕ
  items_text first no_items = []
  items_text first (item j js) = comma first ++ (text_of j ++ items_text false js)

  -- RFC 8259 4: the text of members, of which the first may be the first of its object
  pub members_text : Bool → Members → List ℕ
  members_text first no_members = []
  members_text first (member name j ms) = comma first ++ (member_text name (text_of j) ++ members_text false ms)

-- whether there is no member
abbrev pub is_none : Members → Bool
is_none no_members = true
is_none (member name j ms) = false

-- members after members
abbrev pub join : Members → Members → Members
join no_members ns = ns
join (member name j ms) ns = member name j (join ms ns)
