-- The schemas of each place of a table are each the next one to its number of levels.
use Rattle.std.proofs.Common.{◌≡◌, refl, ℕ, zero, suc, Bool, List, [], ◌∷◌, Option, Some, None, arith}
use Rattle.std.specs.Prelude.{slice_get}
use Rattle.rasn_schema.specs.Levels.{no_date, no_level, PartsToLevels, still_cut, to_choice, to_containing, to_date, to_leaf, to_list, to_no_parts, to_part, to_sequence, to_set_of, ToLevels}
use Rattle.rasn_schema.specs.Schemas.{Schema}
use Rattle.rasn_traits.specs.Moments.{date_at}
use Rattle.rasn_dynamic.specs.declared.types.Alternative.{Alternative}
use Rattle.rasn_dynamic.specs.declared.types.Component.{Component}
use Rattle.rasn_dynamic.specs.declared.types.Kind.{Kind}
use Rattle.rasn_dynamic.specs.declared.types.Kind.TheVariants.{Simple as SimpleKind, Date, List as ListKind, SetOf, Record as RecordKind, Choice as ChoiceKind, Containing, Open as OpenKind}
use Rattle.rasn_dynamic.specs.declared.types.Simple.{Simple}
use Rattle.rasn_dynamic.specs.declared.types.Simple.TheVariants.{BitString, Boolean, Characters, Enumerated, GeneralizedTime, Integer, NamedBits, Null, ObjectIdentifier, OctetString, Open, Text, UtcTime, Utf8}
use Rattle.rasn_dynamic.specs.Types.{alternatives_in, at_place, behind, grouped, in_root, parts_in, plain_at, schema_at, simple_schema}
use Rattle.rasn_dynamic.proofs.Places.{kind_at, none_there, place_there}

parts_levels : (g : Component → Bool) (s u : ℕ → Schema) (n : ℕ) (cs : List Component) → ((j : ℕ) → ToLevels n (s j) (u j)) → PartsToLevels n (parts_in g s cs) (parts_in g u cs)
parts_levels g s u n [] h = to_no_parts
parts_levels g s u n (c ∷ cs) h = to_part (h c.of) (parts_levels g s u n cs h)

alternative_levels : (s u : ℕ → Schema) (n : ℕ) (cs : List Alternative) → ((j : ℕ) → ToLevels n (s j) (u j)) → PartsToLevels n (alternatives_in s cs) (alternatives_in u cs)
alternative_levels s u n [] h = to_no_parts
alternative_levels s u n (c ∷ cs) h = to_part (h c.of) (alternative_levels s u n cs h)

simple_levels : (k : Simple) (n : ℕ) → ToLevels n (simple_schema k) (simple_schema k)
simple_levels Boolean n = to_leaf tt
simple_levels Null n = to_leaf tt
simple_levels (Integer c) n = to_leaf tt
simple_levels (Enumerated i) n = to_leaf tt
simple_levels (OctetString c) n = to_leaf tt
simple_levels (BitString c) n = to_leaf tt
simple_levels (NamedBits c) n = to_leaf tt
simple_levels (Characters s) n = to_leaf tt
simple_levels Utf8 n = to_leaf tt
simple_levels Text n = to_leaf tt
simple_levels ObjectIdentifier n = to_leaf tt
simple_levels UtcTime n = to_leaf tt
simple_levels GeneralizedTime n = to_leaf tt
simple_levels Open n = to_leaf tt

date_levels : (n : ℕ) → ToLevels n (date_at n) (date_at (suc n))
date_levels zero = still_cut (omega arith)
date_levels (suc zero) = no_date (omega arith)
date_levels (suc (suc n)) = to_date

-- with no level, and with one
plain_cut : (ts : List Kind) (k : Kind) → ToLevels zero (plain_at ts k zero) (plain_at ts k (suc zero))
plain_cut ts (SimpleKind k) = simple_levels k zero
plain_cut ts Date = date_levels zero
plain_cut ts (ListKind i c) = no_level tt
plain_cut ts (SetOf i c) = no_level tt
plain_cut ts (RecordKind r) = no_level tt
plain_cut ts (ChoiceKind c) = no_level tt
plain_cut ts (Containing i) = to_leaf tt
plain_cut ts (OpenKind o) = to_leaf tt

contained_cut : (ts : List Kind) (o : Option Kind) → ToLevels zero (at_place (λ k. plain_at ts k zero) o) (at_place (λ k. plain_at ts k (suc zero)) o)
contained_cut ts None = to_leaf tt
contained_cut ts (Some k) = plain_cut ts k

kind_cut : (ts : List Kind) (k : Kind) → ToLevels zero (kind_at ts k zero) (kind_at ts k (suc zero))
kind_cut ts (SimpleKind k) = simple_levels k zero
kind_cut ts Date = date_levels zero
kind_cut ts (ListKind i c) = no_level tt
kind_cut ts (SetOf i c) = no_level tt
kind_cut ts (RecordKind r) = no_level tt
kind_cut ts (ChoiceKind c) = no_level tt
kind_cut ts (Containing i) = to_containing (contained_cut ts (slice_get ts i))
kind_cut ts (OpenKind o) = to_leaf tt

-- with more
module _ (ts : List Kind) (n : ℕ) (h : (j : ℕ) → ToLevels n (schema_at ts j n) (schema_at ts j (suc n))) where
  plain_levels : (k : Kind) → ToLevels (suc n) (plain_at ts k (suc n)) (plain_at ts k (suc (suc n)))
  plain_levels (SimpleKind k) = simple_levels k (suc n)
  plain_levels Date = date_levels (suc n)
  plain_levels (ListKind i c) = to_list (h i)
  plain_levels (SetOf i c) = to_set_of (h i)
  plain_levels (RecordKind r) =
      to_sequence (parts_levels in_root (λ j. schema_at ts j n) (λ j. schema_at ts j (suc n)) n r.root.items h) (parts_levels (grouped ts) (λ j. schema_at ts j n) (λ j. schema_at ts j (suc n)) n (behind r.additions) h)
  plain_levels (ChoiceKind c) =
      to_choice (alternative_levels (λ j. schema_at ts j n) (λ j. schema_at ts j (suc n)) n c.roots.items h) (alternative_levels (λ j. schema_at ts j n) (λ j. schema_at ts j (suc n)) n (behind c.addeds) h)
  plain_levels (Containing i) = to_leaf tt
  plain_levels (OpenKind o) = to_leaf tt

  contained_levels : (o : Option Kind) → ToLevels (suc n) (at_place (λ k. plain_at ts k (suc n)) o) (at_place (λ k. plain_at ts k (suc (suc n))) o)
  contained_levels None = to_leaf tt
  contained_levels (Some k) = plain_levels k

  kind_levels : (k : Kind) → ToLevels (suc n) (kind_at ts k (suc n)) (kind_at ts k (suc (suc n)))
  kind_levels (SimpleKind k) = plain_levels (SimpleKind k)
  kind_levels Date = date_levels (suc n)
  kind_levels (ListKind i c) = plain_levels (ListKind i c)
  kind_levels (SetOf i c) = plain_levels (SetOf i c)
  kind_levels (RecordKind r) = plain_levels (RecordKind r)
  kind_levels (ChoiceKind c) = plain_levels (ChoiceKind c)
  kind_levels (Containing i) = to_containing (contained_levels (slice_get ts i))
  kind_levels (OpenKind o) = plain_levels (OpenKind o)

none_levels : (ts : List Kind) (i n : ℕ) → slice_get ts i ≡ None → ToLevels n (schema_at ts i n) (schema_at ts i (suc n))
none_levels ts i n e = rw (none_there ts i e n, none_there ts i e (suc n)) (to_leaf tt)

cut_levels : (ts : List Kind) (i : ℕ) (o : Option Kind) → slice_get ts i ≡ o → ToLevels zero (schema_at ts i zero) (schema_at ts i (suc zero))
cut_levels ts i None e = none_levels ts i zero e
cut_levels ts i (Some k) e = rw (place_there ts i k e zero, place_there ts i k e (suc zero)) (kind_cut ts k)

next_levels : (ts : List Kind) (i n : ℕ) (o : Option Kind) → slice_get ts i ≡ o → ((j : ℕ) → ToLevels n (schema_at ts j n) (schema_at ts j (suc n)))
    → ToLevels (suc n) (schema_at ts i (suc n)) (schema_at ts i (suc (suc n)))
next_levels ts i n None e h = none_levels ts i (suc n) e
next_levels ts i n (Some k) e h = rw (place_there ts i k e (suc n), place_there ts i k e (suc (suc n))) (kind_levels ts n h k)

pub schema_levels : (ts : List Kind) (n i : ℕ) → ToLevels n (schema_at ts i n) (schema_at ts i (suc n))
schema_levels ts zero i = cut_levels ts i (slice_get ts i) refl
schema_levels ts (suc n) i = next_levels ts i n (slice_get ts i) refl (λ j. schema_levels ts n j)
