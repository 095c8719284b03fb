-- Items and alternatives by counts and places, as they are read (X.691 14, 23).
use Rattle.std.proofs.Common.{◌≡◌, ◌⊎◌, inl, inr, refl, sym, ◌∙◌, ap, subst, arith, ℕ, zero, suc, Bool, true, false, length, lt-ltb, Option, Some, None}
use Rattle.std.specs.Prelude.{Ok, Err, is_some, unwrap_or}
use Rattle.rasn_types.specs.Bits.{Bits}
use Rattle.rasn_types.specs.Values.{Side, root, added}
use Rattle.rasn_schema.specs.Structures.{choice_schema, tags_of}
use Rattle.rasn_schema.specs.Enumerations.{addeds_of, is_extensible, items_of}
use Rattle.rasn_schema.specs.Schemas.{count, Schema, Parts, no_parts, part}
use Rattle.rasn_schema.specs.declared.items.ItemCounts.{ItemCounts}
use Rattle.rasn_schema.specs.declared.items.Place.{Place}
use Rattle.rasn_schema.specs.declared.items.Place.TheVariants.{Root, Added}
use Rattle.rasn_traits.specs.Calls.{Refuses}
use Rattle.rasn_traits.specs.Counted.{IsChoiceOf, index_in, item_at, side_of, stands_in}
use Rattle.per_core.specs.Basic.{basic, Octets}
use Rattle.per_core.specs.Spellings.{Settings, Took}
use Rattle.per_core.specs.IndexFaults.{index_form}
use Rattle.per_decoding.specs.ChoiceIndexes.{index_of}
use Rattle.per_decoding.specs.Enumerations.{item_form, placed_item}
use Rattle.per_core.specs.declared.decode_error.DecodeError.{DecodeError}
use Rattle.per_core.specs.declared.decode_error.DecodeErrorKind.TheVariants.{OutOfMemory}
use Rattle.per_decoding.specs.Choices.{OpensChoice, StandsFrom}
use Rattle.per_decoding.specs.Faults.{Fault, refusal}
use Rattle.per_decoding.specs.Scopes.{Enters, OutsideRecord, no_record}
use Rattle.per_decoding.specs.State.{State, Spells, settings_of}
use Rattle.per_de.specs.Outsides.{outside_choice_of, outside_contents_of, outside_record_of}
use Rattle.per_de.specs.Steps.{IsOfOctets, RefusedAs, TakesIndex}
use Rattle.per_de.specs.declared.Addition.{Addition}
use Rattle.per_de.specs.declared.Scope.{Scope}
use Rattle.per_de.proofs.Choosing.{index_below, opens_choice, refused_contents, refused_index}
use Rattle.per_de.proofs.Enumerations.{reads_item}

-- the item at a place is read
pub reads_placed : (a : Settings) (c : ItemCounts) (p : Place) {s t : Bits} → Took (item_form a c.roots (addeds_of c.addeds) (is_extensible c.addeds) (placed_item p)) s t → Took (basic a (items_of c) (item_at p)) s t
reads_placed a c (Root i) b = reads_item a c.roots (addeds_of c.addeds) (is_extensible c.addeds) (placed_item (Root i)) b
reads_placed a c (Added i) b = reads_item a c.roots (addeds_of c.addeds) (is_extensible c.addeds) (placed_item (Added i)) b

-- additions by their count
pub marked : (added : Option ℕ) → is_some added ≡ is_extensible added
marked None = refl
marked (Some n) = refl

pub how_many : (added : Option ℕ) → unwrap_or added 0 ≡ addeds_of added
how_many None = refl
how_many (Some n) = refl

tags_counted : (ps : Parts) → count ps ≡ length (tags_of ps)
tags_counted no_parts = refl
tags_counted (part t p s ps) = let e = tags_counted ps in omega arith

-- a place that an index tells is one of those there
pub stands : (a : Settings) (c : ItemCounts) (p : Place) {s m : Bits} → Took (index_form a c.roots (addeds_of c.addeds) (is_extensible c.addeds) (index_of p)) s m → stands_in c p ≡ true
stands a c (Root i) h = lt-ltb i c.roots (index_below a c.roots (addeds_of c.addeds) (is_extensible c.addeds) root i h)
stands a c (Added i) h = lt-ltb i (addeds_of c.addeds) (index_below a c.roots (addeds_of c.addeds) (is_extensible c.addeds) added i h)

at_place : (p : Place) (P : Side → ℕ → Type 0) → P (index_of p).0 (index_of p).1 → P (side_of p) (index_in p)
at_place (Root i) P h = h
at_place (Added i) P h = h

-- any choice of so many alternatives, whose index was taken
module _ (c : ItemCounts) (s x : State) (start : x ≡ s) where
  pub index_refused : (choice : Schema) → IsChoiceOf c choice → (err : DecodeError) (t : State) → TakesIndex c.roots (addeds_of c.addeds) (is_extensible c.addeds) x (Err err) t → Refuses (Spells choice) (Fault choice) err s
  index_refused (Schema.choice ps qs marker) k err t h =
      subst (λ (b : Bool). Refuses (Spells (choice_schema ps b qs)) (Fault (choice_schema ps b qs)) err s) (sym k.2)
      (refused_index ps (is_extensible c.addeds) qs c.roots (addeds_of c.addeds) (sym k.0 ∙ tags_counted ps) (sym k.1 ∙ tags_counted qs) s x start err t h)
  index_refused _ k err t h = absurd k

  module _ (p : Place) (m : ℕ) (t u : State) (inside : OutsideRecord) (o : Scope) (live : s.failed ≡ false) (deeper : s.levels ≡ suc m) (none : inside ≡ no_record m)
      (index : TakesIndex c.roots (addeds_of c.addeds) (is_extensible c.addeds) x (Ok p) t) (enters : Enters inside t (outside_record_of u.source o) u) where
    pub contents_refused : (choice : Schema) → IsChoiceOf c choice → (err : DecodeError) (i : State) → (index_of p).0 ≡ added → RefusedAs (IsOfOctets u) u err i
        → (err ≡ refusal OutOfMemory s) ⊎ Refuses (Spells choice) (Fault choice) err s
    contents_refused (Schema.choice ps qs marker) k err i side h =
        subst (λ (b : Bool). (err ≡ refusal OutOfMemory s) ⊎ Refuses (Spells (choice_schema ps b qs)) (Fault (choice_schema ps b qs)) err s) (sym k.2)
        (refused_contents ps (is_extensible c.addeds) qs c.roots (addeds_of c.addeds) (sym k.0 ∙ tags_counted ps) (sym k.1 ∙ tags_counted qs) s x start
        (index_of p).0 (index_of p).1 m t u inside o live deeper none index enters err i side h)
    contents_refused _ k err i side h = absurd k

    pub choice_opened : (choice : Schema) → IsChoiceOf c choice → (i : State) (held : Option Addition) → StandsFrom (index_of p).0 u (outside_contents_of i.source held) i
        → OpensChoice choice (side_of p) (index_in p) s (outside_choice_of i.source (record { scope = o; contents = held })) i
    choice_opened (Schema.choice ps qs marker) k i held f =
        at_place p (λ d n. OpensChoice (choice_schema ps marker qs) d n s (outside_choice_of i.source (record { scope = o; contents = held })) i)
        (subst (λ (b : Bool). OpensChoice (choice_schema ps b qs) (index_of p).0 (index_of p).1 s (outside_choice_of i.source (record { scope = o; contents = held })) i) (sym k.2)
        (opens_choice ps (is_extensible c.addeds) qs c.roots (addeds_of c.addeds) (sym k.0 ∙ tags_counted ps) (sym k.1 ∙ tags_counted qs) s x start
        (index_of p).0 (index_of p).1 m t u inside o live deeper none index enters i held f))
    choice_opened _ k i held f = absurd k

-- a level is entered, whatever the choice
pub level_inside : (d : Side) (u i : State) (held : Option Addition) (n : ℕ) → n ≡ suc u.levels → StandsFrom d u (outside_contents_of i.source held) i → n ≡ suc i.levels
level_inside root u i None n e f = e ∙ ap (λ (z : State). suc z.levels) (sym f)
level_inside root u i (Some o) n e f = absurd f
level_inside added u i None n e f = absurd f
level_inside added u i (Some o) n e f = e ∙ ap suc (sym (ap (λ (z : State). z.levels) f.enters.same))
