-- What opening a choice takes, and why it refuses.
use Rattle.std.proofs.Common.{◌≡◌, ◌⊎◌, inl, inr, refl, sym, ◌∙◌, ap, subst, arith, ℕ, zero, suc, ◌+◌, ◌<◌, Bool, false, length, List, Option, Some, None, slice_get}
use Rattle.std.specs.Prelude.{Err}
use Rattle.rasn_types.specs.Bits.{Bits}
use Rattle.rasn_types.specs.Values.{Side, root, added}
use Rattle.rasn_schema.specs.Choices.{AreVariants, VariantShape, go_by, one_level_in, place_of, variants_after}
use Rattle.rasn_schema.specs.Choices.{variants_on}
use Rattle.rasn_schema.specs.Structures.{alternative_at, choice_schema, tags_of}
use Rattle.rasn_schema.specs.Schemas
use Rattle.rasn_schema.specs.Schemas.{Schema, Parts, no_parts, part}
use Rattle.rasn_schema.proofs.DistinctAlternatives.{distinct_before, distinct_after}
use Rattle.rasn_schema.proofs.Places.{found_at}
use Rattle.rasn_schema.specs.declared.items.Place.{Place}
use Rattle.rasn_traits.specs.Calls.{DecoderRules, Refuses}
use Rattle.rasn_traits.specs.Choices.{IsAlternative, IsChosen, index_in, side_of}
use Rattle.per_core.specs.Basic.{Octets}
use Rattle.per_core.specs.Spellings.{Settings, Took, NoneIn}
use Rattle.per_core.proofs.TakenInTurn.{then_took}
use Rattle.per_core.specs.IndexFaults.{IsOfIndex, index_form}
use Rattle.per_core.specs.BitFieldFaults.{IsOfUnconstrained}
use Rattle.per_read.proofs.OfFields.{unconstrained_tested}
use Rattle.per_core.specs.declared.decode_error.DecodeError.{DecodeError}
use Rattle.per_core.specs.declared.decode_error.DecodeErrorKind.{DecodeErrorKind}
use Rattle.per_core.specs.declared.decode_error.DecodeErrorKind.TheVariants.{OutOfMemory}
use Rattle.per_decoding.proofs.Scoping.Choices.{no_contents, no_index}
use Rattle.per_decoding.specs.Choices.{OpensChoice, StandsFrom}
use Rattle.per_decoding.specs.Faults.{Fault, refusal}
use Rattle.per_core.specs.ReadingFaults.{in_added_alternative, in_octets}
use Rattle.per_decoding.proofs.Scoping.Records.{of_bits}
use Rattle.per_decoding.proofs.Scoping.Tails.{tested_new}
use Rattle.per_decoding.specs.Scopes.{Enters, OutsideRecord, no_record, with_outside_record, outside_record as in_state}
use Rattle.per_decoding.specs.State.{State, Spells, settings_of, with_bits}
use Rattle.per_de.specs.Outsides.{outside_choice_of, outside_contents_of, outside_record_of, source_after}
use Rattle.per_de.specs.Steps.{IsOfOctets, RefusedAs, TakesIndex}
use Rattle.per_de.specs.declared.Addition.{Addition}
use Rattle.per_de.specs.declared.Scope.{Scope}
use Rattle.per_de.proofs.Calls.{refuses}

-- how many alternatives a list has
abbrev pub many_on : Side → ℕ → ℕ → ℕ
many_on root r e = r
many_on added r e = e

-- an index is below that
pub index_below : (a : Settings) (r e : ℕ) (ext : Bool) (d : Side) (i : ℕ) {s m : Bits} → Took (index_form a r e ext (d, i)) s m → i < many_on d r e
index_below a r e ext root i h = let q = then_took h in q.2.spelled.below
index_below a r e ext added i h = let q = then_took h in q.2.spelled.known

-- what is refused of a choice at the levels inside is refused at those outside
pub at_level : (choice : ℕ → Schema) (s : State) (m : ℕ) (err : DecodeError) → s.levels ≡ suc m → (err ≡ refusal OutOfMemory s) ⊎ Refuses (Spells (choice m)) (Fault (choice m)) err s
    → (err ≡ refusal OutOfMemory s) ⊎ Refuses (Spells (one_level_in choice s.levels)) (Fault (one_level_in choice s.levels)) err s
at_level choice s m err deeper h = subst (λ l. (err ≡ refusal OutOfMemory s) ⊎ Refuses (Spells (one_level_in choice l)) (Fault (one_level_in choice l)) err s) (sym deeper) h

-- the alternative at an index
there_at : (ps : Parts) (i : ℕ) → i < length (tags_of ps) → (s : Schema) × (alternative_at ps i ≡ Some s)
there_at no_parts i h = absurd (omega arith)
there_at (part t p s ps) zero h = (s, refl)
there_at (part t p s ps) (suc i) h = there_at ps i (omega arith)

-- the place of the tag at an index
pub place_found : (vs : List VariantShape) (xs : Option (List VariantShape)) (d : Side) (i : ℕ) (t : Schemas.Tag) → AreVariants vs xs → slice_get (go_by (variants_on d vs xs)) i ≡ Some t → place_of t (variants_on d vs xs) ≡ Some i
place_found vs xs root i t v e = found_at (go_by vs) i 0 t (distinct_before (go_by vs) (go_by (variants_after xs)) v.distinct) e ∙ ap Some (let n : 0 + i ≡ i = omega arith in n)
place_found vs xs added i t v e = found_at (go_by (variants_after xs)) i 0 t (distinct_after (go_by vs) (go_by (variants_after xs)) v.distinct) e ∙ ap Some (let n : 0 + i ≡ i = omega arith in n)

-- the alternative at a place is the one that goes by the tag there
pub goes_by : {E S O : Type 0} (rules : DecoderRules E S) (opens : Schema → Side → ℕ → S → O → S → Type 0) (choice : ℕ → Schema) (vs : List VariantShape) (xs : Option (List VariantShape)) (t : Schemas.Tag) (p : Place) (s : S) (o : O) (i : S)
    → AreVariants vs xs → slice_get (go_by (variants_on (side_of p) vs xs)) (index_in p) ≡ Some t → IsAlternative rules opens choice vs xs p s o i → IsChosen rules opens choice vs xs t s o i
goes_by rules opens choice vs xs t p s o i v e h = record {
  deeper = h.deeper;
  side = side_of p;
  index = index_in p;
  place = place_found vs xs (side_of p) (index_in p) t v e;
  schema = h.schema;
  there = h.there;
  opened = h.opened;
}

-- the bits outside of an alternative's open type are those in front of it
outer_source : (d : Side) (u i : State) (o : Option Addition) → StandsFrom d u (outside_contents_of i.source o) i → source_after i.source o ≡ u.source
outer_source root u i None f = ap (λ z. z.source) f
outer_source root u i (Some o) f = absurd f
outer_source added u i None f = absurd f
outer_source added u i (Some o) f = ap (λ z. z.source) f.enters.waits

-- a choice of these alternatives, of which there are so many, and whose index was taken
module _ (ps : Parts) (marker : Bool) (qs : Parts) (r e : ℕ) (few : r ≡ length (tags_of ps)) (more : e ≡ length (tags_of qs)) (s x : State) (start : x ≡ s) where
  index_moved : (y : Side × ℕ) {t : Bits} → Took (index_form (settings_of x) r e marker y) x.bits t → Took (index_form (settings_of s) (length (tags_of ps)) (length (tags_of qs)) marker y) s.bits t
  index_moved y {t} h =
      subst (λ (n : ℕ). Took (index_form (settings_of s) (length (tags_of ps)) n marker y) s.bits t) more
      (subst (λ (n : ℕ). Took (index_form (settings_of s) n e marker y) s.bits t) few (subst (λ z. Took (index_form (settings_of z) r e marker y) z.bits t) start h))

  index_back : (y : Side × ℕ) (t : Bits) → Took (index_form (settings_of s) (length (tags_of ps)) (length (tags_of qs)) marker y) s.bits t → Took (index_form (settings_of x) r e marker y) x.bits t
  index_back y t h =
      subst (λ z. Took (index_form (settings_of z) r e marker y) z.bits t) (sym start)
      (subst (λ (n : ℕ). Took (index_form (settings_of s) n e marker y) s.bits t) (sym few) (subst (λ (n : ℕ). Took (index_form (settings_of s) (length (tags_of ps)) n marker y) s.bits t) (sym more) h))

  -- no index is read
  pub refused_index : (err : DecodeError) (t : State) → TakesIndex r e marker x (Err err) t → Refuses (Spells (choice_schema ps marker qs)) (Fault (choice_schema ps marker qs)) err s
  refused_index err t h =
      let says : IsOfIndex (settings_of s) (length (tags_of ps)) (length (tags_of qs)) marker s.bits h.kind =
      subst (λ (n : ℕ). IsOfIndex (settings_of s) (length (tags_of ps)) n marker s.bits h.kind) more
      (subst (λ (n : ℕ). IsOfIndex (settings_of s) n e marker s.bits h.kind) few (subst (λ z. IsOfIndex (settings_of z) r e marker z.bits h.kind) start h.because.0)) in
      refuses (choice_schema ps marker qs) s h.kind err (h.is ∙ ap (λ z. refusal h.kind z) start) says
      (no_index (settings_of s) ps marker qs (λ y u k. h.because.1 y u (index_back y u k)))

  -- a level is entered after it
  module _ (d : Side) (k m : ℕ) (t u : State) (inside : OutsideRecord) (o : Scope) (live : s.failed ≡ false) (deeper : s.levels ≡ suc m) (none : inside ≡ no_record m)
      (index : Took (index_form (settings_of x) r e marker (d, k)) x.bits t.bits × (t ≡ with_bits x t.bits)) (enters : Enters inside t (outside_record_of u.source o) u) where
    after_index : t ≡ with_bits s t.bits
    after_index = index.1 ∙ ap (λ z. with_bits z t.bits) start

    entered : u ≡ with_outside_record (with_bits s t.bits) (no_record m)
    entered = enters.same ∙ ap (λ z. with_outside_record t z) none ∙ ap (λ z. with_outside_record z (no_record m)) after_index

    bits_left : u.bits ≡ t.bits
    bits_left = ap (λ z. z.bits) entered

    index_taken : Took (index_form (settings_of s) (length (tags_of ps)) (length (tags_of qs)) marker (d, k)) s.bits u.bits
    index_taken = index_moved (d, k) (subst (λ z. Took (index_form (settings_of x) r e marker (d, k)) x.bits z) (sym bits_left) index.0)

    pub opens_choice : (i : State) (held : Option Addition) → StandsFrom d u (outside_contents_of i.source held) i → OpensChoice (choice_schema ps marker qs) d k s (outside_choice_of i.source (record { scope = o; contents = held })) i
    opens_choice i held f = record {
      live = live;
      middle = u;
      deeper = deeper ∙ ap suc (sym (ap (λ z. z.levels) entered));
      took = index_taken;
      enters = record {
        waits = ap (λ z. outside_record_of z o) (outer_source d u i held f) ∙ enters.waits ∙ ap (λ z. in_state z) after_index;
        same = entered ∙ ap (λ z. with_outside_record (with_bits s z) (no_record m)) (sym bits_left) ∙ ap (λ l. with_outside_record (with_bits s u.bits) (no_record l)) (sym (ap (λ z. z.levels) entered));
      };
      stands = f;
    }

    -- where it would be in an open type, none is read
    pub refused_contents : (err : DecodeError) (i : State) → d ≡ added → RefusedAs (IsOfOctets u) u err i
        → (err ≡ refusal OutOfMemory s) ⊎ Refuses (Spells (choice_schema ps marker qs)) (Fault (choice_schema ps marker qs)) err s
    refused_contents err i side h = go h.kind h.is h.because
      where
        same : settings_of u ≡ settings_of s
        same = ap settings_of entered

        at : (z : DecodeErrorKind) → refusal z u ≡ refusal z s
        at z = ap (λ y. refusal z y) entered

        placed : Took (index_form (settings_of s) (length (tags_of ps)) (length (tags_of qs)) marker (added, k)) s.bits u.bits
        placed = subst (λ z. Took (index_form (settings_of s) (length (tags_of ps)) (length (tags_of qs)) marker (z, k)) s.bits u.bits) side index_taken

        there : (c : Schema) × (alternative_at qs k ≡ Some c)
        there = there_at qs k (index_below (settings_of s) (length (tags_of ps)) (length (tags_of qs)) marker added k placed)

        go : (z : DecodeErrorKind) → err ≡ refusal z u → IsOfOctets u z → (err ≡ refusal OutOfMemory s) ⊎ Refuses (Spells (choice_schema ps marker qs)) (Fault (choice_schema ps marker qs)) err s
        go z is (inl out) = inl (is ∙ ap (λ y. refusal y u) out ∙ at OutOfMemory)
        go z is (inr h) =
            let nothing : NoneIn (Octets (settings_of s)) u.bits = subst (λ y. NoneIn (Octets y) u.bits) same h.1 in
            inr (record {
              nothing = λ v y b. no_contents (settings_of s) ps marker qs k placed nothing v y.bits b.took;
              stands = subst (λ y. Fault (choice_schema ps marker qs) y s) (sym (is ∙ at z)) (record {
                codec = refl;
                stands = of_bits z (choice_schema ps marker qs) s (tested_new z (unconstrained_tested z h.0))
                    (in_added_alternative placed there.1 (in_octets (subst (λ y. IsOfUnconstrained y 8 u.bits z) same h.0) nothing));
              });
            })
