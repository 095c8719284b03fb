-- The values of the types of ITU-T X.680, without their types.
use Rattle.std.specs.Prelude.{ℕ, Bool, true, false, cond, if◌then◌else◌, nat_lt, ◌==◌, List, [], ◌∷◌, ◌++◌, map, length}
use Rattle.std.specs.Prelude.{Option, Some, None, ℤ, pos, negsuc}

-- X.680 52: which of two lists an item or an alternative is in: that before the extension marker, or that after it
pub data Side : Type 0 where
  root added : Side

mutual
  -- X.680: the value of a type; octets are also those of a text, an identifier and an open type, characters also those
  -- of a time
  pub data Value : Type 0 where
    -- X.680 19: of INTEGER
    whole : ℤ → Value
    -- X.680 18: of BOOLEAN
    truth : Bool → Value
    -- X.680 24: of NULL
    nothing : Value
    -- X.680 20: of ENUMERATED, by its list and its place there
    item : Side → ℕ → Value
    -- X.680 23: of OCTET STRING
    octets : List ℕ → Value
    -- X.680 22: of BIT STRING
    bits : List Bool → Value
    -- X.680 41: of a character string, by the characters' values
    characters : List ℕ → Value
    -- X.680 26: of SEQUENCE OF
    elements : Values → Value
    -- X.680 28: of SET OF
    bag : Values → Value
    -- X.680 25, 27: of SEQUENCE and SET: root parts, and additions
    fields : Slots → Slots → Value
    -- X.680 29: of CHOICE: the alternative by its list and its place there, and its value
    alternative : Side → ℕ → Value → Value
    -- X.680 38.4: of DATE: year, month and day
    day : ℤ → ℕ → ℕ → Value

  -- a list of values
  pub data Values : Type 0 where
    no_values : Values
    value : Value → Values → Values

  -- the parts of a record, each absent or there; one with a default is always there
  pub data Slots : Type 0 where
    no_slots : Slots
    absent : Slots → Slots
    there : Value → Slots → Slots

-- values as a list
abbrev pub values : Values → List Value
values no_values = []
values (value v vs) = v ∷ values vs

-- a list as values
abbrev pub as_values : List Value → Values
as_values [] = no_values
as_values (v ∷ vs) = value v (as_values vs)

-- slots as a list, an absent part being none
abbrev pub slots : Slots → List (Option Value)
slots no_slots = []
slots (absent s) = None ∷ slots s
slots (there v s) = Some v ∷ slots s

-- a list as slots
abbrev pub as_slots : List (Option Value) → Slots
as_slots [] = no_slots
as_slots (None ∷ s) = absent (as_slots s)
as_slots (Some v ∷ s) = there v (as_slots s)

-- the root's list is 0, that of additions 1
abbrev pub side_code : Side → ℕ
side_code root = 0
side_code added = 1

-- a whole number by its sign and its size
abbrev pub whole_code : ℤ → List ℕ
whole_code (pos n) = 0 ∷ n ∷ []
whole_code (negsuc n) = 1 ∷ n ∷ []

-- a truth value as 0 or 1
abbrev pub bool_code : Bool → ℕ
bool_code b = if b then 1 else 0

-- each value as one list of numbers, which no other value has and none begins: so values can be told apart and sorted
unfoldable mutual
  -- the list of a value
  pub code : Value → List ℕ
  code (whole z) = 0 ∷ whole_code z
  code (truth b) = 1 ∷ bool_code b ∷ []
  code nothing = 2 ∷ []
  code (item s i) = 3 ∷ side_code s ∷ i ∷ []
  code (octets os) = 4 ∷ length os ∷ os
  code (bits bs) = 5 ∷ length bs ∷ map bool_code bs
  code (characters cs) = 6 ∷ length cs ∷ cs
  code (elements vs) = 7 ∷ values_code vs
  code (bag vs) = 8 ∷ values_code vs
  code (fields r a) = 9 ∷ (slots_code r ++ slots_code a)
  code (alternative s i v) = 10 ∷ side_code s ∷ i ∷ code v
  code (day y m d) = 11 ∷ m ∷ d ∷ whole_code y

  -- the list of a list of values
  pub values_code : Values → List ℕ
  values_code no_values = 0 ∷ []
  values_code (value v vs) = 1 ∷ (code v ++ values_code vs)

  -- the list of a record's parts
  pub slots_code : Slots → List ℕ
  slots_code no_slots = 0 ∷ []
  slots_code (absent s) = 1 ∷ slots_code s
  slots_code (there v s) = 2 ∷ (code v ++ slots_code s)

-- the order of a dictionary; a proper beginning comes first
abbrev pub before : List ℕ → List ℕ → Bool
before [] [] = false
before [] (y ∷ ys) = true
before (x ∷ xs) [] = false
before (x ∷ xs) (y ∷ ys) = if nat_lt x y then true else if x == y then before xs ys else false

-- whether two lists are one
abbrev pub equal_lists : List ℕ → List ℕ → Bool
equal_lists [] [] = true
equal_lists [] (y ∷ ys) = false
equal_lists (x ∷ xs) [] = false
equal_lists (x ∷ xs) (y ∷ ys) = if x == y then equal_lists xs ys else false

-- whether two values are one
unfoldable pub same : Value → Value → Bool
unfolding code
same v w = equal_lists (code v) (code w)

-- x where it belongs in an ascending list, before the first that isn't less
abbrev pub put {ℓ} : {A : Type ℓ} → (A → A → Bool) → A → List A → List A
put less x [] = x ∷ []
put less x (y ∷ ys) = cond (less y x) (y ∷ put less x ys) (x ∷ y ∷ ys)

-- a list in ascending order
abbrev pub sorted {ℓ} : {A : Type ℓ} → (A → A → Bool) → List A → List A
sorted less [] = []
sorted less (x ∷ xs) = put less x (sorted less xs)

-- X.680 28: the bag with these elements. A bag is kept as its elements in one order, that of their lists: so equal bags
-- are equal values (this project's choice)
unfoldable pub bag_of : List Value → Value
unfolding code
bag_of vs = bag (as_values (sorted (λ v w. before (code v) (code w)) vs))
