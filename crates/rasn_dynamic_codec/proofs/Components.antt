-- How the law of components in turn, or of additions, follows from that of each, over any encoder.
use Rattle.std.proofs.Common.{◌≡◌, refl, sym, ap, ◌∙◌, subst, ℕ, suc, ◌+◌, ◌<◌, ◌≤◌, ◌⊎◌, inl, inr, Bool, true, false, Result, Ok, Err, List, [], ◌∷◌, map, length, drop, get_or, Option, Some, None, arith, length-drop}
use Rattle.std.specs.Prelude.{◌&&◌, is_some}
use Rattle.std.proofs.lemmas.Bool.{and_parts}
use Rattle.std.proofs.lemmas.List.{drop_more, drop_all}
use Rattle.rasn_types.specs.Values.{Value as Content}
use Rattle.rasn_schema.specs.Structures.{tag_of}
use Rattle.rasn_schema.specs.Lists.{deepest}
use Rattle.rasn_schema.specs.Normal.{normals, AtDepths}
use Rattle.rasn_schema.specs.Records.{AtParts}
use Rattle.rasn_schema.specs.Schemas
use Rattle.rasn_schema.specs.Schemas.{leaf, Schema, Parts, no_parts, part, TagTree}
use Rattle.rasn_traits.specs.Additions.{presents_no_more, WrittenAddition, WrittenAdditions}
use Rattle.rasn_traits.specs.Calls.{EncoderRules, PresentsWell}
use Rattle.rasn_traits.specs.Scopes.{PresentsPart, presents_end, presents_next, refuses_here, refuses_after, WrittenPart, WrittenParts}
use Rattle.rasn_traits.proofs.Writing.{parts_room}
use Rattle.rasn_dynamic_codec.specs.OneAddition.{normal_addition}
use Rattle.rasn_dynamic_codec.proofs.OneAddition.{addition_normal, addition_refused, addition_written}
use Rattle.rasn_dynamic.specs.declared.types.Component.{Component}
use Rattle.rasn_dynamic.specs.declared.types.Kind.{Kind}
use Rattle.rasn_dynamic.specs.declared.values.Value.{Value}
use Rattle.rasn_dynamic.specs.Types.{grouped, in_root, parts_at, presence_of, schema_at}
use Rattle.rasn_dynamic.specs.Values.{levels_of, slot_of}
use Rattle.rasn_dynamic_codec.specs.Writes.{fit, may_stand}

-- as many values as components
pub fit_length : (cs : List Component) (os : List (Option Content)) → fit true cs os ≡ true → length cs ≡ length os
fit_length [] [] e = refl
fit_length [] (o ∷ os) e = absurd (cc)
fit_length (c ∷ cs) [] e = absurd (cc)
fit_length (c ∷ cs) (o ∷ os) e = ap suc (fit_length cs os (and_parts (may_stand true c.presence o) (fit true cs os) e).1)

pub length_slots : (vs : List Value) → length (map slot_of vs) ≡ length vs
length_slots [] = refl
length_slots (v ∷ vs) = ap suc (length_slots vs)

module _ {E X : Type 0} (rules : EncoderRules E X) where
  -- What is written in turn: components, or additions.
  pub record Turns : Type 1 where
    -- which may be groups
    pub groups : Component → Bool
    pub one : Schemas.Presence → Schema → Option Content → X → Result (Unit {0}) E → X → Type 0
    pub all : Parts → List (Option Content) → X → Result (Unit {0}) E → X → Type 0
    pub refused : (t : TagTree) (p : Schemas.Presence) (s : Schema) (ps : Parts) (x y z : X) (o : Option Content) (os : List (Option Content)) (e : E) → one p s o x (Err e) y → all (part t p s ps) (o ∷ os) x (Err e) z
    pub written : (t : TagTree) (p : Schemas.Presence) (s : Schema) (ps : Parts) (x m : X) (u : Unit {0}) (o : Option Content) (os : List (Option Content)) → one p s o x (Ok u) m
        → (r : Result (Unit {0}) E) (y : X) → all ps os m r y → all (part t p s ps) (o ∷ os) x r y
    pub ended : (x : X) → all no_parts [] x (Ok tt) x

  pub part_refused : (t : TagTree) (p : Schemas.Presence) (s : Schema) (ps : Parts) (x y z : X) (o : Option Content) (os : List (Option Content)) (e : E) → WrittenPart rules p s o x (Err e) y → WrittenParts rules (part t p s ps) (o ∷ os) x (Err e) z
  part_refused t p s ps x y z o os e (inl m) = inl m
  part_refused t p s ps x y z o os e (inr h) = inr (refuses_here h)

  pub part_written : PresentsWell rules → (t : TagTree) (p : Schemas.Presence) (s : Schema) (ps : Parts) (x m : X) (o : Option Content) (os : List (Option Content)) → PresentsPart rules p s x o m
      → (r : Result (Unit {0}) E) (y : X) → WrittenParts rules ps os m r y → WrittenParts rules (part t p s ps) (o ∷ os) x r y
  part_written L t p s ps x m o os a (Ok u) y w = presents_next a w
  part_written L t p s ps x m o os a (Err e) y (inr h) = inr (refuses_after a h)
  part_written L t p s ps x m o os a (Err e) y (inl h) = inl (parts_room rules L (part t p s no_parts) x (o ∷ []) m e (presents_next a presents_end) h)

  pub added_refused : (t : TagTree) (p : Schemas.Presence) (s : Schema) (ps : Parts) (x y z : X) (o : Option Content) (os : List (Option Content)) (e : E) → WrittenAddition rules p s o x (Err e) y → WrittenAdditions rules (part t p s ps) (o ∷ os) x (Err e) z
  added_refused t p s ps x y z o os e h = addition_refused rules t p s ps x z o os e h

  abbrev pub components : PresentsWell rules → Turns
  components L = record {
    groups = in_root;
    one = WrittenPart rules;
    all = WrittenParts rules;
    refused = part_refused;
    written = λ t p s ps x m u o os a. part_written L t p s ps x m o os a;
    ended = λ x. presents_end;
  }

  abbrev pub additions : PresentsWell rules → List Kind → Turns
  additions L ts = record {
    groups = grouped ts;
    one = WrittenAddition rules;
    all = WrittenAdditions rules;
    refused = added_refused;
    written = λ t p s ps x m u o os a. addition_written rules L t p s ps x m o os a;
    ended = λ x. presents_no_more;
  }

  module _ (T : Turns) where
    -- What comes of the components from a place on comes of all.
    pub record Onward (ts : List Kind) (cs : List Component) (vs : List Value) (x : X) (i : ℕ) (y : X) : Type 0 where
      pub at : (n : ℕ) → deepest levels_of vs ≤ n → (r : Result (Unit {0}) E) (z : X)
          → T.all (parts_at T.groups ts (drop i cs) n) (normals (parts_at T.groups ts (drop i cs) n) (map slot_of (drop i vs))) y r z
          → T.all (parts_at T.groups ts cs n) (normals (parts_at T.groups ts cs n) (map slot_of vs)) x r z
      pub fits : fit true (drop i cs) (map slot_of (drop i vs)) ≡ true
      pub shallow : deepest levels_of (drop i vs) ≤ deepest levels_of vs
      pub kept : rules.codec y ≡ rules.codec x

    pub onward_init : (ts : List Kind) (cs : List Component) (vs : List Value) (x : X) → fit true cs (map slot_of vs) ≡ true → Onward ts cs vs x 0 x
    onward_init ts cs vs x f = record { at = λ n le r z w. w; fits = f; shallow = omega arith; kept = refl }

    module _ {ts : List Kind} {cs : List Component} {vs : List Value} {x : X} {i : ℕ} {y : X} (h : Onward ts cs vs x i y) where
      -- there is a component where there is a value
      pub onward_index : i < length vs → i < length cs
      onward_index l = go cs vs i l h.fits
        where
          go : (cs : List Component) (vs : List Value) (i : ℕ) → i < length vs → fit true (drop i cs) (map slot_of (drop i vs)) ≡ true → i < length cs
          go cs vs i l f = omega (arith, fit_length (drop i cs) (map slot_of (drop i vs)) f, length_slots (drop i vs), length-drop {A = Component}, length-drop {A = Value})

      module _ (d : Component) (v : Value) (lc : i < length cs) (ed : d ≡ get_or cs i d) (lv : i < length vs) (ev : v ≡ get_or vs i v) where
        components_at : drop i cs ≡ d ∷ drop (i + 1) cs
        components_at = drop_more cs i d lc ∙ ap (λ e. e ∷ drop (i + 1) cs) (sym ed)

        values_at : drop i vs ≡ v ∷ drop (i + 1) vs
        values_at = drop_more vs i v lv ∙ ap (λ w. w ∷ drop (i + 1) vs) (sym ev)

        fits_both : (may_stand true d.presence (slot_of v) ≡ true) × (fit true (drop (i + 1) cs) (map slot_of (drop (i + 1) vs)) ≡ true)
        fits_both = and_parts (may_stand true d.presence (slot_of v)) (fit true (drop (i + 1) cs) (map slot_of (drop (i + 1) vs))) (rw (components_at, values_at) at h.fits)

        pub onward_stands : may_stand true d.presence (slot_of v) ≡ true
        onward_stands = fits_both.0

        -- the component at the place, and those after it
        abbrev pub tree : TagTree
        tree = leaf (tag_of d.tag)

        abbrev pub presence : Schemas.Presence
        presence = presence_of (T.groups d) d.presence

        abbrev pub of : ℕ → Schema
        of = schema_at ts d.of

        abbrev pub behind : ℕ → Parts
        behind = parts_at T.groups ts (drop (i + 1) cs)

        abbrev pub slots_after : List (Option Content)
        slots_after = map slot_of (drop (i + 1) vs)

        at_first : (n : ℕ) → deepest levels_of vs ≤ n → (r : Result (Unit {0}) E) (z : X)
            → T.all (part tree presence (of n) (behind n)) (normal_addition presence (of n) (slot_of v) ∷ normals (behind n) slots_after) y r z
            → T.all (parts_at T.groups ts cs n) (normals (parts_at T.groups ts cs n) (map slot_of vs)) x r z
        at_first n le r z w = (rw (components_at, values_at) at (h.at n le)) r z (rw (addition_normal tree presence (of n) (behind n) (slot_of v) slots_after) w)

        -- a component is refused
        pub onward_refused : (e : E) (z : X) → AtDepths of (levels_of v) (λ s. T.one presence s (normal_addition presence s (slot_of v)) y (Err e) z)
            → AtParts (parts_at T.groups ts cs) (deepest levels_of vs) (λ ps. T.all ps (normals ps (map slot_of vs)) x (Err e) z)
        onward_refused e z w = record {
          at = λ n le. let s = rw values_at at h.shallow in at_first n le (Err e) z
              (T.refused tree presence (of n) (behind n) y z z (normal_addition presence (of n) (slot_of v)) (normals (behind n) slots_after) e (w.at n (omega (arith, s, le))));
        }

        -- a component is presented
        pub onward_presented : (u : Unit {0}) (m : X) → AtDepths of (levels_of v) (λ s. T.one presence s (normal_addition presence s (slot_of v)) y (Ok u) m)
            → rules.codec m ≡ rules.codec y → Onward ts cs vs x (i + 1) m
        onward_presented u m w k = let s = rw values_at at h.shallow in record {
          at = λ n le r z q. at_first n le r z
              (T.written tree presence (of n) (behind n) y m u (normal_addition presence (of n) (slot_of v)) (normals (behind n) slots_after) (w.at n (omega (arith, s, le))) r z q);
          fits = fits_both.1;
          shallow = omega (arith, s);
          kept = k ∙ h.kept;
        }

      -- all components are presented
      pub onward_ended : length vs ≤ i → AtParts (parts_at T.groups ts cs) (deepest levels_of vs) (λ ps. T.all ps (normals ps (map slot_of vs)) x (Ok tt) y)
      unfolding normals
      onward_ended l = record { at = λ n le. h.at n le (Ok tt) y (ended n (drop i cs) (map slot_of (drop i vs)) (ap (map slot_of) (drop_all i vs l)) h.fits) }
        where
          ended : (n : ℕ) (ds : List Component) (os : List (Option Content)) → os ≡ [] → fit true ds os ≡ true → T.all (parts_at T.groups ts ds n) (normals (parts_at T.groups ts ds n) os) y (Ok tt) y
          ended n [] [] e f = T.ended y
          ended n [] (o ∷ os) e f = absurd (cc)
          ended n (d ∷ ds) [] e f = absurd (cc)
          ended n (d ∷ ds) (o ∷ os) e f = absurd (cc)
