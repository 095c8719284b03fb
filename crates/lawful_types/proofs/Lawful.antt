-- A table whose types keep the rules is lawful to any number of levels, and a type that is lawful to two keeps them.
use Rattle.std.proofs.Common.{◌≡◌, refl, sym, ap, ap₂, ◌∙◌, ℕ, zero, suc, ◌+◌, Bool, true, false, cond, ◌&&◌, List, [], ◌∷◌, ◌++◌, ◌≤◌, Option, Some, None, Result, Ok, Err, true≢false, arith}
use Rattle.std.specs.Prelude.{MatchResult, count_by, is_some, nat_lt, slice_get}
use Rattle.std.proofs.lemmas.List.Sums.{sum_by-cons}
use Rattle.rasn_types.specs.Values.{elements, no_values, same, Value}
use Rattle.rasn_types.proofs.Codes.{same_true}
use Rattle.rasn_schema.specs.Depth.{meets_cut, Unfolds}
use Rattle.rasn_schema.specs.Structures.{tag_of, has_bit, presence_bits}
use Rattle.rasn_schema.specs.Lawful.{all_pass, are_distinct, are_required, AreLawful, if_bag, is_group_schema, is_value}
use Rattle.rasn_schema.specs.Lawful.{IsLawful, IsLawfulDefault, IsLawfulPresence, IsLawfulType, leaves, no_groups}
use Rattle.rasn_schema.specs.Lawful.{tags_below}
use Rattle.rasn_schema.specs.Lists.{deepest}
use Rattle.rasn_schema.specs.Normal.{normal, over_bag}
use Rattle.rasn_schema.specs.Schemas
use Rattle.rasn_schema.specs.Schemas.{leaf, part, Schema}
use Rattle.rasn_schema.proofs.Places.{and_first, and_second}
use Rattle.rasn_dynamic.specs.declared.types.Alternative.{Alternative}
use Rattle.rasn_dynamic.specs.declared.types.Component.{Component}
use Rattle.rasn_dynamic.specs.declared.types.DefaultTree.{DefaultTree}
use Rattle.rasn_dynamic.specs.declared.types.DefaultValue.{DefaultValue}
use Rattle.rasn_dynamic.specs.declared.types.DefaultValue.TheVariants
use Rattle.rasn_dynamic.specs.declared.types.Kind.{Kind}
use Rattle.rasn_dynamic.specs.declared.types.Kind.TheVariants.{Simple as SimpleKind, Date, List as ListKind, SetOf, Record as RecordKind, Choice as ChoiceKind, Containing, Open as OpenKind}
use Rattle.rasn_dynamic.specs.declared.types.Presence.{Presence}
use Rattle.rasn_dynamic.specs.declared.types.Presence.TheVariants.{Default, Group, Optional, Required}
use Rattle.rasn_dynamic.specs.declared.types.Simple.{Simple}
use Rattle.rasn_dynamic.specs.declared.types.Simple.TheVariants.{BitString, Boolean, Characters, Integer, NamedBits, OctetString}
use Rattle.rasn_dynamic.specs.declared.types.Simple.TheVariants as Simples
use Rattle.rasn_dynamic.specs.Types.{alternatives_in, at_place, behind, default_value, grouped, in_root, is_not_required, kind_in, parts_in, plain_in, presence_of, required_in, schema_at, simple_schema, tree_value}
use Rattle.rasn_dynamic.proofs.Levelled.{schema_levels}
use Rattle.rasn_dynamic.proofs.SameDefaults.{same_self}
use Rattle.per_laws.specs.Levels.{levels_of}
use Rattle.per_laws.proofs.VersionsAt128Levels.{levelled_holds}
use Rattle.per_laws.proofs.Levelled.{levelled_type_unfolds}
use Rattle.lawful_types.specs.declared.fault.Reason.{Reason}
use Rattle.lawful_types.specs.declared.fault.Reason.TheVariants as Reasons
use Rattle.lawful_types.specs.declared.fault.Fault.{Fault}
use Rattle.lawful_types.specs.TypeRules.{deepest_default, default_levels, held_levels, IsFaultOf, has_lawful_default, is_default_of, is_default_of_plain, is_default_of_simple, is_default_tree_of, is_default_within, is_lawful_kind, is_right, keeps, keeps_bounds, keeps_defaults, keeps_presence_bits, keeps_size, keeps_tags, tags_of, tree_levels}
use Rattle.lawful_types.proofs.OneKind.{one_right}
use Rattle.lawful_types.proofs.Passing.{and_true, passes_at}

-- ---- defaults: they are in normal form, and values of what the kinds say, unless cut off

and_self : (b : Bool) (v : Value) → (b && same v v) ≡ b
and_self true v = same_self v
and_self false v = refl

simple_value : (d : DefaultValue) (k : Simple) → (is_value (simple_schema k) (default_value d) && same (normal (simple_schema k) (default_value d)) (default_value d)) ≡ is_default_of_simple d k
unfolding is_value normal
simple_value d (NamedBits c) = refl
simple_value d k = and_self (is_value (simple_schema k) (default_value d)) (default_value d)

module _ (ts : List Kind) (s : ℕ → Schema) where
  plain_value : (n : ℕ) (d : DefaultValue) (k : Kind) → meets_cut (plain_in ts s n k) (default_value d) ≡ false → is_right (plain_in ts s n k) (default_value d) ≡ is_default_of_plain d k
  unfolding meets_cut is_value if_bag normal over_bag
  plain_value n d (SimpleKind k) e = simple_value d k
  plain_value zero d Date e = absurd cc
  plain_value (suc zero) d Date e = absurd cc
  plain_value (suc (suc n)) TheVariants.Null Date e = refl
  plain_value (suc (suc n)) _ Date e = refl
  plain_value zero d (ListKind i c) e = absurd cc
  plain_value (suc n) TheVariants.NoElements (ListKind i c) e = same_self (default_value TheVariants.NoElements)
  plain_value (suc n) _ (ListKind i c) e = refl
  plain_value zero d (SetOf i c) e = absurd cc
  plain_value (suc n) TheVariants.Null (SetOf i c) e = refl
  plain_value (suc n) _ (SetOf i c) e = refl
  plain_value zero d (RecordKind r) e = absurd cc
  plain_value (suc n) TheVariants.Null (RecordKind r) e = refl
  plain_value (suc n) _ (RecordKind r) e = refl
  plain_value zero d (ChoiceKind c) e = absurd cc
  plain_value (suc n) TheVariants.Null (ChoiceKind c) e = refl
  plain_value (suc n) _ (ChoiceKind c) e = refl
  plain_value n d (Containing i) e = refl
  plain_value n d (OpenKind o) e = simple_value d Simples.Open

  plain_uncut : (n : ℕ) (d : DefaultValue) (k : Kind) → meets_cut (plain_in ts s (suc (suc n)) k) (default_value d) ≡ false
  unfolding meets_cut
  plain_uncut n d (SimpleKind Boolean) = refl
  plain_uncut n d (SimpleKind _) = refl
  plain_uncut n TheVariants.Null Date = refl
  plain_uncut n _ Date = refl
  plain_uncut n TheVariants.Null (ListKind i c) = refl
  plain_uncut n _ (ListKind i c) = refl
  plain_uncut n TheVariants.Null (SetOf i c) = refl
  plain_uncut n _ (SetOf i c) = refl
  plain_uncut n TheVariants.Null (RecordKind r) = refl
  plain_uncut n _ (RecordKind r) = refl
  plain_uncut n TheVariants.Null (ChoiceKind c) = refl
  plain_uncut n _ (ChoiceKind c) = refl
  plain_uncut n d (Containing i) = refl
  plain_uncut n d (OpenKind o) = refl

  within_value : (n : ℕ) (d : DefaultValue) (o : Option Kind) → meets_cut (at_place (plain_in ts s n) o) (default_value d) ≡ false → is_right (at_place (plain_in ts s n) o) (default_value d) ≡ is_default_within d o
  unfolding is_value
  within_value n d None e = refl
  within_value n d (Some k) e = plain_value n d k e

  within_uncut : (n : ℕ) (d : DefaultValue) (o : Option Kind) → meets_cut (at_place (plain_in ts s (suc (suc n))) o) (default_value d) ≡ false
  unfolding meets_cut
  within_uncut n d None = refl
  within_uncut n d (Some k) = plain_uncut n d k

  place_value : (n : ℕ) (d : DefaultValue) (o : Option Kind) → meets_cut (at_place (kind_in ts s n) o) (default_value d) ≡ false → is_right (at_place (kind_in ts s n) o) (default_value d) ≡ is_default_of ts d o
  unfolding meets_cut is_value normal
  place_value n d None e = refl
  place_value n d (Some (Containing i)) e = within_value n d (slice_get ts i) e
  place_value n d (Some (SimpleKind k)) e = plain_value n d (SimpleKind k) e
  place_value n d (Some Date) e = plain_value n d Date e
  place_value n d (Some (ListKind i c)) e = plain_value n d (ListKind i c) e
  place_value n d (Some (SetOf i c)) e = plain_value n d (SetOf i c) e
  place_value n d (Some (RecordKind r)) e = plain_value n d (RecordKind r) e
  place_value n d (Some (ChoiceKind c)) e = plain_value n d (ChoiceKind c) e
  place_value n d (Some (OpenKind o)) e = plain_value n d (OpenKind o) e

  place_uncut : (n : ℕ) (d : DefaultValue) (o : Option Kind) → meets_cut (at_place (kind_in ts s (suc (suc n))) o) (default_value d) ≡ false
  unfolding meets_cut
  place_uncut n d None = refl
  place_uncut n d (Some (Containing i)) = within_uncut n d (slice_get ts i)
  place_uncut n d (Some (SimpleKind k)) = plain_uncut n d (SimpleKind k)
  place_uncut n d (Some Date) = plain_uncut n d Date
  place_uncut n d (Some (ListKind i c)) = plain_uncut n d (ListKind i c)
  place_uncut n d (Some (SetOf i c)) = plain_uncut n d (SetOf i c)
  place_uncut n d (Some (RecordKind r)) = plain_uncut n d (RecordKind r)
  place_uncut n d (Some (ChoiceKind c)) = plain_uncut n d (ChoiceKind c)
  place_uncut n d (Some (OpenKind o)) = plain_uncut n d (OpenKind o)

-- one that holds no values
pub plain_right : (ts : List Kind) (i n : ℕ) (d : DefaultValue) → is_default_of ts d (slice_get ts i) ≡ is_right (schema_at ts i (suc (suc n))) (default_value d)
unfolding schema_at
plain_right ts i n d = sym (place_value ts (λ j. schema_at ts j (suc n)) (suc (suc n)) d (slice_get ts i) (place_uncut ts (λ j. schema_at ts j (suc n)) n d (slice_get ts i)))

empty_uncut : (ts : List Kind) (i n : ℕ) → meets_cut (schema_at ts i (suc (suc n))) (elements no_values) ≡ false
unfolding schema_at
empty_uncut ts i n = place_uncut ts (λ j. schema_at ts j (suc n)) n TheVariants.NoElements (slice_get ts i)

module _ (ts : List Kind) (i : ℕ) where
  unfolds : Unfolds (schema_at ts i)
  unfolds = levelled_type_unfolds (schema_at ts i) (λ n. schema_levels ts n i)

  holds : (v : Value) (n : ℕ) → levels_of v + 2 ≤ n → meets_cut (schema_at ts i n) v ≡ false
  holds = levelled_holds (schema_at ts i) (λ n. schema_levels ts n i)

  empty_holds : (n : ℕ) → 2 ≤ n → meets_cut (schema_at ts i n) (elements no_values) ≡ false
  empty_holds zero le = absurd (omega (arith, le))
  empty_holds (suc zero) le = absurd (omega (arith, le))
  empty_holds (suc (suc n)) le = empty_uncut ts i n

  uncut : (v : Value) (n : ℕ) → held_levels v + 2 ≤ n → meets_cut (schema_at ts i n) v ≡ false
  uncut (elements no_values) n le = empty_holds n le
  uncut v n le = holds v n le

  module _ (d : DefaultTree) where
    -- the same to each number of levels that holds it
    alike : (n : ℕ) → meets_cut (schema_at ts i n) (tree_value d) ≡ false → is_right (schema_at ts i n) (tree_value d) ≡ is_default_tree_of ts i d
    alike n u = one_right (schema_at ts i) unfolds (tree_value d) n (tree_levels d + 2) u (holds (tree_value d) (tree_levels d + 2) (omega arith))

    default_lawful : (n : ℕ) → is_default_tree_of ts i d ≡ true → IsLawfulDefault (schema_at ts i n) (tree_value d)
    default_lawful n h = record {
      is_of_kind = λ e. and_first (is_value (schema_at ts i n) (tree_value d)) (same (normal (schema_at ts i n) (tree_value d)) (tree_value d)) (alike n e ∙ h);
      is_normal = λ e. same_true (normal (schema_at ts i n) (tree_value d)) (tree_value d) (and_second (is_value (schema_at ts i n) (tree_value d)) (same (normal (schema_at ts i n) (tree_value d)) (tree_value d)) (alike n e ∙ h));
    }

    lawful_default : (n : ℕ) → held_levels (tree_value d) + 2 ≤ n → IsLawfulDefault (schema_at ts i n) (tree_value d) → is_default_tree_of ts i d ≡ true
    lawful_default n le x =
        let u = uncut (tree_value d) n le in
        sym (alike n u) ∙ and_true (is_value (schema_at ts i n) (tree_value d)) (same (normal (schema_at ts i n) (tree_value d)) (tree_value d)) (x.is_of_kind u) (ap (λ v. same v (tree_value d)) (x.is_normal u) ∙ same_self (tree_value d))

-- ---- groups: their types are SEQUENCEs

group_in : (ts : List Kind) (s : ℕ → Schema) (n : ℕ) (o : Option Kind) → is_some (required_in o) ≡ true → is_group_schema (at_place (kind_in ts s n) o) ≡ true
group_in ts s n None e = absurd cc
group_in ts s n (Some (SimpleKind k)) e = absurd cc
group_in ts s n (Some Date) e = absurd cc
group_in ts s n (Some (ListKind i c)) e = absurd cc
group_in ts s n (Some (SetOf i c)) e = absurd cc
group_in ts s zero (Some (RecordKind r)) e = refl
group_in ts s (suc n) (Some (RecordKind r)) e = refl
group_in ts s n (Some (ChoiceKind c)) e = absurd cc
group_in ts s n (Some (Containing i)) e = absurd cc
group_in ts s n (Some (OpenKind o)) e = absurd cc

group_at : (ts : List Kind) (n i : ℕ) → is_some (required_in (slice_get ts i)) ≡ true → is_group_schema (schema_at ts i n) ≡ true
unfolding schema_at
group_at ts zero i e = group_in ts (λ j. Schemas.cut) zero (slice_get ts i) e
group_at ts (suc n) i e = group_in ts (λ j. schema_at ts j n) (suc n) (slice_get ts i) e

-- ---- what a record and a choice are, parts aside

no_groups_in : (s : ℕ → Schema) (cs : List Component) → no_groups (parts_in in_root s cs) ≡ true
no_groups_in s [] = refl
no_groups_in s (c ∷ cs) = go c.presence (no_groups_in s cs)
  where
    go : (p : Presence) → no_groups (parts_in in_root s cs) ≡ true → no_groups (part (leaf (tag_of c.tag)) (presence_of false p) (s c.of) (parts_in in_root s cs)) ≡ true
    go Required e = e
    go Optional e = e
    go Group e = e
    go (Default d) e = e

bit_of : (g : Bool) (p : Presence) → has_bit (presence_of g p) ≡ cond (is_not_required p) 1 0
bit_of g Required = refl
bit_of g Optional = refl
bit_of true Group = refl
bit_of false Group = refl
bit_of g (Default d) = refl

bits_in : (g : Component → Bool) (s : ℕ → Schema) (cs : List Component) → presence_bits (parts_in g s cs) ≡ count_by (λ c. is_not_required c.presence) cs
bits_in g s [] = refl
bits_in g s (c ∷ cs) = ap₂ (λ a b. a + b) (bit_of (g c) c.presence) (bits_in g s cs) ∙ sym (sum_by-cons (λ (c : Component). cond (is_not_required c.presence) 1 0) c cs)

required_parts : (s : ℕ → Schema) (cs : List Alternative) → are_required (alternatives_in s cs) ≡ true
required_parts s [] = refl
required_parts s (c ∷ cs) = required_parts s cs

tags_in : (s : ℕ → Schema) (cs : List Alternative) → tags_below (alternatives_in s cs) ≡ tags_of cs
unfolding leaves
tags_in s [] = refl
tags_in s (c ∷ cs) = ap (λ us. tag_of c.tag ∷ us) (tags_in s cs)

distinct_in : (s : ℕ → Schema) (cs ds : List Alternative) → are_distinct (tags_below (alternatives_in s cs) ++ tags_below (alternatives_in s ds)) ≡ are_distinct (tags_of cs ++ tags_of ds)
distinct_in s cs ds = ap₂ (λ us vs. are_distinct (us ++ vs)) (tags_in s cs) (tags_in s ds)

-- ---- a kind is lawful, by the schemas of places

simple_lawful : (k : Simple) → keeps_bounds (SimpleKind k) ≡ true → keeps_size (SimpleKind k) ≡ true → IsLawful (simple_schema k)
unfolding IsLawful
simple_lawful (Integer c) b z = b
simple_lawful (OctetString c) b z = z
simple_lawful (BitString c) b z = z
simple_lawful (NamedBits c) b z = z
simple_lawful (Characters c) b z = z
simple_lawful _ b z = tt

-- a kind that keeps all rules keeps each
kept : (ts : List Kind) (k : Kind) → is_lawful_kind ts k ≡ true → (r : Reason) → keeps r ts k ≡ true
kept ts k h r = go r
  where
    with_tags : Bool
    with_tags = keeps_tags k && keeps_defaults ts k

    with_bits : Bool
    with_bits = keeps_presence_bits k && with_tags

    with_size : Bool
    with_size = keeps_size k && with_bits

    go : (r : Reason) → keeps r ts k ≡ true
    go Reasons.Bounds = and_first (keeps_bounds k) with_size h
    go Reasons.Size = and_first (keeps_size k) with_bits (and_second (keeps_bounds k) with_size h)
    go Reasons.PresenceBits = and_first (keeps_presence_bits k) with_tags (and_second (keeps_size k) with_bits (and_second (keeps_bounds k) with_size h))
    go Reasons.Tags = and_first (keeps_tags k) (keeps_defaults ts k) (and_second (keeps_presence_bits k) with_tags (and_second (keeps_size k) with_bits (and_second (keeps_bounds k) with_size h)))
    go Reasons.Default = and_second (keeps_tags k) (keeps_defaults ts k) (and_second (keeps_presence_bits k) with_tags (and_second (keeps_size k) with_bits (and_second (keeps_bounds k) with_size h)))

module _ (ts : List Kind) (s : ℕ → Schema) (lawful : (j : ℕ) → IsLawful (s j)) where
  alternatives_lawful : (cs : List Alternative) → AreLawful (alternatives_in s cs)
  unfolding IsLawful
  alternatives_lawful [] = tt
  alternatives_lawful (c ∷ cs) = (tt, lawful c.of, alternatives_lawful cs)

  module _ (of_group : (j : ℕ) → is_some (required_in (slice_get ts j)) ≡ true → is_group_schema (s j) ≡ true)
      (of_default : (j : ℕ) (d : DefaultTree) → is_default_tree_of ts j d ≡ true → IsLawfulDefault (s j) (tree_value d)) where
    presence_lawful : (g : Bool) (c : Component) → (g ≡ true → is_group_schema (s c.of) ≡ true) → has_lawful_default ts c ≡ true → IsLawfulPresence (s c.of) (presence_of g c.presence)
    presence_lawful g c h e = go g c.presence h e
      where
        go : (g : Bool) (p : Presence) → (g ≡ true → is_group_schema (s c.of) ≡ true) → has_lawful_default ts (record { name = c.name; tag = c.tag; presence = p; of = c.of }) ≡ true → IsLawfulPresence (s c.of) (presence_of g p)
        go g Required h e = tt
        go g Optional h e = tt
        go true Group h e = h refl
        go false Group h e = tt
        go g (Default d) h e = of_default c.of d e

    parts_lawful : (g : Component → Bool) → ((c : Component) → g c ≡ true → is_group_schema (s c.of) ≡ true) → (cs : List Component) → all_pass (has_lawful_default ts) cs ≡ true → AreLawful (parts_in g s cs)
    unfolding IsLawful
    parts_lawful g h [] e = tt
    parts_lawful g h (c ∷ cs) e =
        (presence_lawful (g c) c (h c) (and_first (has_lawful_default ts c) (all_pass (has_lawful_default ts) cs) e), lawful c.of, parts_lawful g h cs (and_second (has_lawful_default ts c) (all_pass (has_lawful_default ts) cs) e))

    plain_lawful : (n : ℕ) (k : Kind) → is_lawful_kind ts k ≡ true → IsLawful (plain_in ts s n k)
    unfolding IsLawful
    plain_lawful n (SimpleKind k) h = simple_lawful k (kept ts (SimpleKind k) h Reasons.Bounds) (kept ts (SimpleKind k) h Reasons.Size)
    plain_lawful zero Date h = tt
    plain_lawful (suc zero) Date h = tt
    plain_lawful (suc (suc n)) Date h = tt
    plain_lawful zero (ListKind i c) h = tt
    plain_lawful (suc n) (ListKind i c) h = (kept ts (ListKind i c) h Reasons.Size, lawful i)
    plain_lawful zero (SetOf i c) h = tt
    plain_lawful (suc n) (SetOf i c) h = (kept ts (SetOf i c) h Reasons.Size, lawful i)
    plain_lawful zero (RecordKind r) h = tt
    plain_lawful (suc n) (RecordKind r) h =
        let e = kept ts (RecordKind r) h Reasons.Default in let roots = all_pass (has_lawful_default ts) r.root.items in let adds = all_pass (has_lawful_default ts) (behind r.additions) in (
          record { root_groups = no_groups_in s r.root.items; few_bits = ap (λ b. nat_lt b 65536) (bits_in in_root s r.root.items) ∙ kept ts (RecordKind r) h Reasons.PresenceBits; lawful_tags = refl },
          parts_lawful in_root (λ c x. absurd cc) r.root.items (and_first roots adds e),
          parts_lawful (grouped ts) (λ c x. of_group c.of x) (behind r.additions) (and_second roots adds e),
        )
    plain_lawful zero (ChoiceKind c) h = tt
    plain_lawful (suc n) (ChoiceKind c) h = (
      record { all_required = ap₂ (λ a b. a && b) (required_parts s c.roots.items) (required_parts s (behind c.addeds)); distinct_tags = distinct_in s c.roots.items (behind c.addeds) ∙ kept ts (ChoiceKind c) h Reasons.Tags },
      alternatives_lawful c.roots.items,
      alternatives_lawful (behind c.addeds),
    )
    plain_lawful n (Containing i) h = tt
    plain_lawful n (OpenKind o) h = tt

    module _ (all : (i : ℕ) (k : Kind) → slice_get ts i ≡ Some k → is_lawful_kind ts k ≡ true) where
      within_lawful : (n i : ℕ) (o : Option Kind) → slice_get ts i ≡ o → IsLawful (at_place (plain_in ts s n) o)
      unfolding IsLawful
      within_lawful n i None e = tt
      within_lawful n i (Some k) e = plain_lawful n k (all i k e)

      kind_lawful : (n : ℕ) (k : Kind) → is_lawful_kind ts k ≡ true → IsLawful (kind_in ts s n k)
      unfolding IsLawful
      kind_lawful n (Containing i) h = within_lawful n i (slice_get ts i) refl
      kind_lawful n (SimpleKind k) h = plain_lawful n (SimpleKind k) h
      kind_lawful n Date h = plain_lawful n Date h
      kind_lawful n (ListKind i c) h = plain_lawful n (ListKind i c) h
      kind_lawful n (SetOf i c) h = plain_lawful n (SetOf i c) h
      kind_lawful n (RecordKind r) h = plain_lawful n (RecordKind r) h
      kind_lawful n (ChoiceKind c) h = plain_lawful n (ChoiceKind c) h
      kind_lawful n (OpenKind o) h = plain_lawful n (OpenKind o) h

      place_is_lawful : (n i : ℕ) (o : Option Kind) → slice_get ts i ≡ o → IsLawful (at_place (kind_in ts s n) o)
      unfolding IsLawful
      place_is_lawful n i None e = tt
      place_is_lawful n i (Some k) e = kind_lawful n k (all i k e)

-- where all is cut off
cut_default : (ts : List Kind) (j : ℕ) (d : DefaultTree) → is_default_tree_of ts j d ≡ true → IsLawfulDefault Schemas.cut (tree_value d)
unfolding meets_cut
cut_default ts j d h = record { is_of_kind = λ e. absurd cc; is_normal = λ e. absurd cc }

cut_lawful : ℕ → IsLawful Schemas.cut
unfolding IsLawful
cut_lawful j = tt

schema_lawful : (ts : List Kind) → ((i : ℕ) (k : Kind) → slice_get ts i ≡ Some k → is_lawful_kind ts k ≡ true) → (n i : ℕ) → IsLawful (schema_at ts i n)
unfolding schema_at
schema_lawful ts all zero i = place_is_lawful ts (λ j. Schemas.cut) cut_lawful (λ j e. refl) (cut_default ts) all zero i (slice_get ts i) refl
schema_lawful ts all (suc n) i = place_is_lawful ts (λ j. schema_at ts j n) (λ j. schema_lawful ts all n j) (λ j e. group_at ts n j e) (λ j d e. default_lawful ts j d n e) all (suc n) i (slice_get ts i) refl

pub types_lawful : (ts : List Kind) → all_pass (is_lawful_kind ts) ts ≡ true → (i : ℕ) → IsLawfulType (schema_at ts i)
types_lawful ts h i = record {
  unfolds = levelled_type_unfolds (schema_at ts i) (λ n. schema_levels ts n i);
  lawful = λ n. schema_lawful ts (passes_at (is_lawful_kind ts) ts h) n i;
}

-- ---- a kind that is lawful to three levels more than its defaults take keeps each rule

module _ (ts : List Kind) (n : ℕ) where
  kept_bounds : (k : Kind) → IsLawful (kind_in ts (λ j. schema_at ts j n) (suc n) k) → keeps_bounds k ≡ true
  unfolding IsLawful
  kept_bounds (SimpleKind (Integer c)) x = x
  kept_bounds (SimpleKind _) x = refl
  kept_bounds _ x = refl

  kept_size : (k : Kind) → IsLawful (kind_in ts (λ j. schema_at ts j n) (suc n) k) → keeps_size k ≡ true
  unfolding IsLawful
  kept_size (SimpleKind (OctetString c)) x = x
  kept_size (SimpleKind (BitString c)) x = x
  kept_size (SimpleKind (NamedBits c)) x = x
  kept_size (SimpleKind (Characters c)) x = x
  kept_size (SimpleKind _) x = refl
  kept_size (ListKind i c) x = x.0
  kept_size (SetOf i c) x = x.0
  kept_size _ x = refl

  kept_bits : (k : Kind) → IsLawful (kind_in ts (λ j. schema_at ts j n) (suc n) k) → keeps_presence_bits k ≡ true
  unfolding IsLawful
  kept_bits (RecordKind r) x = sym (ap (λ b. nat_lt b 65536) (bits_in in_root (λ j. schema_at ts j n) r.root.items)) ∙ x.0.few_bits
  kept_bits _ x = refl

  kept_tags : (k : Kind) → IsLawful (kind_in ts (λ j. schema_at ts j n) (suc n) k) → keeps_tags k ≡ true
  unfolding IsLawful
  kept_tags (ChoiceKind c) x = sym (distinct_in (λ j. schema_at ts j n) c.roots.items (behind c.addeds)) ∙ x.0.distinct_tags
  kept_tags _ x = refl

  kept_default : (g : Bool) (c : Component) → default_levels c.presence + 2 ≤ n → IsLawfulPresence (schema_at ts c.of n) (presence_of g c.presence) → has_lawful_default ts c ≡ true
  kept_default g c le x = go g c.presence le x
    where
      go : (g : Bool) (p : Presence) → default_levels p + 2 ≤ n → IsLawfulPresence (schema_at ts c.of n) (presence_of g p) → has_lawful_default ts (record { name = c.name; tag = c.tag; presence = p; of = c.of }) ≡ true
      go g Required le x = refl
      go g Optional le x = refl
      go g Group le x = refl
      go g (Default d) le x = lawful_default ts c.of d n le x

  kept_parts : (g : Component → Bool) (cs : List Component) → deepest (λ c. default_levels c.presence) cs + 2 ≤ n → AreLawful (parts_in g (λ j. schema_at ts j n) cs) → all_pass (has_lawful_default ts) cs ≡ true
  unfolding IsLawful
  kept_parts g [] le x = refl
  kept_parts g (c ∷ cs) le x = ap₂ (λ a b. a && b) (kept_default (g c) c (omega (arith, le)) x.0) (kept_parts g cs (omega (arith, le)) x.2)

  kept_defaults : (k : Kind) → deepest_default k + 2 ≤ n → IsLawful (kind_in ts (λ j. schema_at ts j n) (suc n) k) → keeps_defaults ts k ≡ true
  unfolding IsLawful
  kept_defaults (RecordKind r) le x = ap₂ (λ a b. a && b) (kept_parts in_root r.root.items (omega (arith, le)) x.1) (kept_parts (grouped ts) (behind r.additions) (omega (arith, le)) x.2)
  kept_defaults _ le x = refl

  each_kept : (r : Reason) (k : Kind) → deepest_default k + 2 ≤ n → IsLawful (kind_in ts (λ j. schema_at ts j n) (suc n) k) → keeps r ts k ≡ true
  each_kept Reasons.Bounds k le x = kept_bounds k x
  each_kept Reasons.Size k le x = kept_size k x
  each_kept Reasons.PresenceBits k le x = kept_bits k x
  each_kept Reasons.Tags k le x = kept_tags k x
  each_kept Reasons.Default k le x = kept_defaults k le x

  lawful_keeps : (i : ℕ) (r : Reason) (k : Kind) → slice_get ts i ≡ Some k → deepest_default k + 2 ≤ n → IsLawful (schema_at ts i (suc n)) → keeps r ts k ≡ true
  unfolding schema_at
  lawful_keeps i r k e le x = each_kept r k le (go (slice_get ts i) e x)
    where
      go : (o : Option Kind) → o ≡ Some k → IsLawful (at_place (kind_in ts (λ j. schema_at ts j n) (suc n)) o) → IsLawful (kind_in ts (λ j. schema_at ts j n) (suc n) k)
      go o f y = rw f at y

-- a type that breaks a rule isn't
pub unlawful : (ts : List Kind) (i : ℕ) (r : Reason) (k : Kind) → slice_get ts i ≡ Some k → keeps r ts k ≡ false → (n : ℕ) → deepest_default k + 3 ≤ n → IsLawful (schema_at ts i n) → ⊥
unlawful ts i r k e f zero le x = absurd (omega (arith, le))
unlawful ts i r k e f (suc n) le x = true≢false (sym (lawful_keeps ts n i r k e (omega (arith, le)) x) ∙ f)

-- what is told of a table's types
pub judged : (ts : List Kind) (r : Result (Unit {0}) Fault) → MatchResult r (λ done. all_pass (is_lawful_kind ts) ts ≡ true) (λ fault. IsFaultOf ts fault) →
    MatchResult r (λ done. (i : ℕ) → IsLawfulType (schema_at ts i)) (λ fault. IsFaultOf ts fault)
judged ts (Ok u) h = types_lawful ts h
judged ts (Err f) h = h
