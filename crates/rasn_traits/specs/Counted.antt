-- What the calls owe for types that are data: records by counts, items and alternatives by counts and places, stated
-- over any codec's relations and for each family of schemas that is so counted.
use Rattle.std.specs.Prelude.{◌≡◌, ℕ, suc, ◌⊎◌, Bool, true, false, nat_lt, List, Option, length, option_map, Result, Ok}
use Rattle.std.specs.Prelude.{Err, IfOk, IsErrAnd}
use Rattle.rasn_types.specs.Values.{Value, Side, added, item, alternative}
use Rattle.rasn_schema.specs.Choices.{VariantShape, one_level_in}
use Rattle.rasn_schema.specs.Enumerations.{addeds_of, is_extensible}
use Rattle.rasn_schema.specs.Structures.{presence_bits, is_of_kind}
use Rattle.rasn_schema.specs.Schemas.{count, listed, no_parts, Parts, Schema}
use Rattle.rasn_schema.specs.declared.items.ItemCounts.{ItemCounts}
use Rattle.rasn_schema.specs.declared.items.Place.{Place}
use Rattle.rasn_schema.specs.declared.items.Place.TheVariants.{Root, Added}
use Rattle.rasn_traits.specs.Amounts.{one_value}
use Rattle.rasn_traits.specs.Calls.{Behaves, DecoderRules, EncoderRules, Refuses}
use Rattle.rasn_traits.specs.Additions.{ClosesGroup}
use Rattle.rasn_traits.specs.Choices.{PassesAlternative}
pub use Rattle.rasn_traits.specs.Choices.{index_in, side_of}
use Rattle.rasn_traits.specs.Scopes.{ClosesInTurn, ClosesWritten, IsInTurn, IsReadInTurn, OpensInTurn, OpensToRead}
use Rattle.rasn_traits.specs.Scopes.{OpensToWrite}

-- the item at a place
abbrev pub item_at : Place → Value
item_at p = item (side_of p) (index_in p)

-- whether so many items, or alternatives, have one at a place
abbrev pub stands_in : ItemCounts → Place → Bool
stands_in c (Root i) = nat_lt i c.roots
stands_in c (Added i) = nat_lt i (addeds_of c.addeds)

-- how many alternatives a type states
abbrev pub variant_counts : List VariantShape → Option (List VariantShape) → ItemCounts
variant_counts vs xs = record { roots = length vs; addeds = option_map length xs }

-- Components and additions of which so many root components have a presence bit, and so many additions are after a
-- marker, where there is one.
pub record AreCounted (parts : ℕ → Parts) (marker : Bool) (additions : ℕ → Parts) (bits : ℕ) (added : Option ℕ)
    : Type 0 where
  pub bits_are : (n : ℕ) → bits ≡ presence_bits (parts n)
  pub marked : marker ≡ is_extensible added
  pub added_are : (n : ℕ) → addeds_of added ≡ count (additions n)

-- A call that opens any record of such components, in which nothing is counted.
pub record OpensFieldsOf {E X O : Type 0} (rules : EncoderRules E X) (opens : Schema → X → O → X → Type 0) (bits : ℕ)
    (added : Option ℕ) (x : X) (result : Result O E) (y : X) : Type 0 where
  pub opened : (parts : ℕ → Parts) (marker : Bool) (additions : ℕ → Parts)
      → AreCounted parts marker additions bits added
      → OpensToWrite rules opens listed parts marker additions x result y
  pub behaves : Behaves rules.already rules.failed rules.codec x result y

-- A call that opens any record of such components, so many.
pub record OpensCounted {E X O : Type 0} (rules : EncoderRules E X) (opens : Schema → X → O → X → Type 0)
    (components bits : ℕ) (added : Option ℕ) (x : X) (result : Result O E) (y : X) : Type 0 where
  pub opened : (parts : ℕ → Parts) (marker : Bool) (additions : ℕ → Parts) → ((n : ℕ) → components ≡ count (parts n))
      → AreCounted parts marker additions bits added
      → OpensToWrite rules opens listed parts marker additions x result y
  pub behaves : Behaves rules.already rules.failed rules.codec x result y

-- A call that closes any record, in which all came that is due. Without a marker it has no additions.
pub record ClosesAny {E X O : Type 0} (rules : EncoderRules E X) (opens : Schema → X → O → X → Type 0) (o : O) (j : X)
    (result : Result (Unit {0}) E) (y : X) : Type 0 where
  pub closed : (parts : ℕ → Parts) (marker : Bool) (additions : ℕ → Parts)
      → (marker ≡ false → (n : ℕ) → additions n ≡ no_parts)
      → ClosesInTurn rules opens listed parts marker additions o j result y
  pub behaves : Behaves rules.already rules.failed rules.codec j result y

-- A record was opened, whichever, and all its components were presented as they are listed.
pub record IsAnyInTurn {E X O : Type 0} (rules : EncoderRules E X) (opens : Schema → X → O → X → Type 0) (o : O) (j : X)
    : Type 0 where
  pub parts : ℕ → Parts
  pub marker : Bool
  pub additions : ℕ → Parts
  pub in_turn : IsInTurn rules opens listed parts marker additions o j

-- A call that closes any record of which all components were presented. Without a marker it has no additions.
pub record ClosesFieldsOf {E X O : Type 0} (rules : EncoderRules E X) (opens : Schema → X → O → X → Type 0) (o : O)
    (j : X) (result : Result (Unit {0}) E) (y : X) : Type 0 where
  pub closed : (parts : ℕ → Parts) (marker : Bool) (additions : ℕ → Parts)
      → (marker ≡ false → (n : ℕ) → additions n ≡ no_parts)
      → ClosesWritten rules opens listed parts marker additions o j result y
  pub behaves : Behaves rules.already rules.failed rules.codec j result y

-- whether a schema is a choice of so many alternatives
abbrev pub IsChoiceOf : ItemCounts → Schema → Type 0
IsChoiceOf c (Schema.choice ps qs marker) = (count ps ≡ c.roots) × (count qs ≡ addeds_of c.addeds)
    × (marker ≡ is_extensible c.addeds)
IsChoiceOf c _ = ⊥

-- Ok is inside a choice, where its alternative at a place is written, and Err, memory aside, refuses each such choice.
abbrev pub PlacedOpened : {E X O : Type 0} → EncoderRules E X → (Schema → Side → ℕ → X → O → X → Type 0) → ItemCounts
    → Side → ℕ → X → Result O E → X → Type 0
PlacedOpened rules opens alternatives d k x (Ok o) i = (c : Schema) → IsChoiceOf alternatives c
    → opens c d k x o i × PassesAlternative rules c d k x i
PlacedOpened rules opens alternatives d k x (Err e) i = rules.memory e x
    ⊎ ((c : Schema) (v : Value) → IsChoiceOf alternatives c → rules.refuses e x c (alternative d k v))

-- A call that opens any choice of so many alternatives, to write the one at a place.
pub record OpensPlaced {E X O : Type 0} (rules : EncoderRules E X) (opens : Schema → Side → ℕ → X → O → X → Type 0)
    (alternatives : ItemCounts) (place : Place) (x : X) (result : Result O E) (y : X) : Type 0 where
  pub law : PlacedOpened rules opens alternatives (side_of place) (index_in place) x result y
  pub behaves : Behaves rules.already rules.failed rules.codec x result y

-- a schema of an addition group of which a root component is required, or none is; one that is cut off says nothing
abbrev pub IsGroupOf : Bool → Schema → Type 0
IsGroupOf b (Schema.sequence listed ps ext adds) = b ≡ nat_lt (presence_bits ps) (count ps)
IsGroupOf b Schema.cut = Unit {0}
IsGroupOf b _ = ⊥

-- A call that closes an open type in which any such group was presented.
pub record ClosesGroupOf {E X O : Type 0} (rules : EncoderRules E X) (opens : X → O → X → Type 0) (has_required : Bool)
    (o : O) (j : X) (result : Result (Unit {0}) E) (y : X) : Type 0 where
  pub closed : (schema : ℕ → Schema) → ((n : ℕ) → IsGroupOf has_required (schema n))
      → ClosesGroup rules opens schema o j result y
  pub behaves : Behaves rules.already rules.failed rules.codec j result y

-- A call of an encoder that refuses a value which isn't of its schema's kind. It takes no memory.
pub record WritesOther {E X : Type 0} (rules : EncoderRules E X) (x : X) (result : Result (Unit {0}) E)
    (y : X) : Type 0 where
  pub law : IsErrAnd result (λ e. (s : Schema) (v : Value) → is_of_kind s v ≡ false → rules.refuses e x s v)
  pub behaves : Behaves rules.already rules.failed rules.codec x result y

-- A call of an encoder that refuses whatever is to be written, since its caller's memory ran out.
pub record WritesNothing {E X : Type 0} (rules : EncoderRules E X) (x : X) (result : Result (Unit {0}) E)
    (y : X) : Type 0 where
  pub law : IsErrAnd result (λ e. rules.memory e x ⊎ ((s : Schema) (v : Value) → rules.refuses e x s v))
  pub behaves : Behaves rules.already rules.failed rules.codec x result y

-- A call that opens any record of components and additions that are so counted, to read it, and counts nothing in it.
pub record OpensFieldsOfToRead {E S O : Type 0} (rules : DecoderRules E S) (opens : Schema → S → O → S → Type 0)
    (bits : ℕ) (added : Option ℕ) (s : S) (result : Result O E) (t : S) : Type 0 where
  pub opened : (parts : ℕ → Parts) (marker : Bool) (additions : ℕ → Parts)
      → AreCounted parts marker additions bits added → OpensToRead rules opens parts marker additions s result t
  pub deeper : IfOk result (λ o. rules.levels s ≡ suc (rules.levels t))
  pub behaves : Behaves rules.already rules.failed rules.codec s result t

-- A call that opens any record of such components, so many, to read it, and counts what comes in it.
pub record OpensCountedToRead {E S O : Type 0} (rules : DecoderRules E S) (opens : Schema → S → O → S → Type 0)
    (components bits : ℕ) (added : Option ℕ) (s : S) (result : Result O E) (t : S) : Type 0 where
  pub opened : (parts : ℕ → Parts) (marker : Bool) (additions : ℕ → Parts) → ((n : ℕ) → components ≡ count (parts n))
      → AreCounted parts marker additions bits added → OpensInTurn rules opens parts marker additions s result t
  pub deeper : IfOk result (λ o. rules.levels s ≡ suc (rules.levels t))
  pub behaves : Behaves rules.already rules.failed rules.codec s result t

-- A record was opened, whichever, and all its components were read as they are listed.
pub record IsAnyReadInTurn {E S O : Type 0} (rules : DecoderRules E S) (opens : Schema → S → O → S → Type 0) (o : O)
    (j : S) : Type 0 where
  pub parts : ℕ → Parts
  pub marker : Bool
  pub additions : ℕ → Parts
  pub in_turn : IsReadInTurn rules opens parts marker additions o j

-- Ok is where the alternative at a place stands, one level deeper, and Err, memory aside, comes only where no choice is
-- read.
abbrev pub PlacedToRead : {E S O : Type 0} → DecoderRules E S → (Schema → Side → ℕ → S → O → S → Type 0)
    → (ℕ → Schema) → S → Result (Place × O) E → S → Type 0
PlacedToRead rules opens choice s (Ok r) i =
    opens (choice (rules.levels i)) (side_of r.0) (index_in r.0) s r.1 i
PlacedToRead rules opens choice s (Err e) i =
    let c = one_level_in choice (rules.levels s) in rules.memory e s ⊎ Refuses (rules.spells c) (rules.fault c) e s

-- A call that reads the index of any choice of so many alternatives, and opens the open type of one after the
-- extension marker: one value is to come.
pub record OpensPlacedToRead {E S O : Type 0} (rules : DecoderRules E S)
    (opens : Schema → Side → ℕ → S → O → S → Type 0) (alternatives : ItemCounts) (s : S)
    (result : Result (Place × O) E) (t : S) : Type 0 where
  pub opened : (choice : ℕ → Schema) → ((n : ℕ) → IsChoiceOf alternatives (choice n))
      → PlacedToRead rules opens choice s result t
  pub counts : IfOk result (λ r. rules.awaits one_value t)
  pub place : IfOk result (λ r. stands_in alternatives r.0 ≡ true)
  pub deeper : IfOk result (λ r. rules.levels s ≡ suc (rules.levels t))
  pub behaves : Behaves rules.already rules.failed rules.codec s result t
