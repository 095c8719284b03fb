-- What opening a CHOICE of which the alternative is known does to an encoder (ITU-T X.691, 23).
use Rattle.std.specs.Prelude.{◌≡◌, ℕ}
use Rattle.rasn_types.specs.Values.{Side}
use Rattle.rasn_schema.specs.Schemas.{Schema}
use Rattle.rasn_schema.specs.declared.items.ItemCounts.{ItemCounts}
use Rattle.rasn_schema.specs.declared.items.Place.{Place}
use Rattle.rasn_traits.specs.Counted.{IsChoiceOf, index_in, side_of}
use Rattle.per_write.specs.Components.{Encoding}
use Rattle.per_write.specs.WriterState.{WriterState}
use Rattle.per_pieces.specs.Turns.{awaits, Enclosing}
use Rattle.per_enc.specs.Choices.{OutsideChoice}
use Rattle.per_enc.specs.Placed.{OpensPlaced as OpensPlacedOf}
use Rattle.per_enc.specs.Scopes.{OpensWithin}

-- a choice is open, to write one of its alternatives, which is at a place
pub record OpensPlacedIn (c : Schema) (d : Side) (k : ℕ) (x : WriterState) (outside : OutsideChoice) (i : WriterState)
    : Type 0 where
  pub alternatives : ItemCounts
  pub place : Place
  pub is_choice : IsChoiceOf alternatives c
  pub side : side_of place ≡ d
  pub index : index_in place ≡ k
  pub opened : OpensPlacedOf alternatives place x outside i

-- the same, in which one value is to come, where what encloses it waits
abbrev pub OpensPlaced : Schema → Side → ℕ → Encoding → (OutsideChoice × Enclosing) → Encoding → Type 0
OpensPlaced c d k = OpensWithin (awaits 1) (OpensPlacedIn c d k)
