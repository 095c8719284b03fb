-- The fields of components, as they are listed and in ascending order of their tags, state the components in that order.
use Rattle.std.proofs.Common.{◌≡◌, refl, ap, subst, ◌∙◌, ℕ, zero, suc, ◌+◌, List, [], ◌∷◌, map, Some, arith}
use Rattle.rasn_schema.specs.Orders.{canonised, put_part, how_many_less, insert_at}
use Rattle.rasn_schema.specs.Fields.{Shape, in_tag_order, presence_of, shapes_from}
use Rattle.rasn_schema.specs.Structures.{field_tag}
use Rattle.rasn_schema.specs.Schemas.{TagTree, leaf, one_of, smallest, tags, Presence, Schema, Parts, no_parts, part}
use Rattle.rasn_sets.specs.Components.{StandsAt, stands_first, stands_after}

-- A field states a component of a record.
pub record IsFieldOf (ps : Parts) (f : Shape) (k : TagTree) (p : Presence) (c : Schema) : Type 0 where
  pub stands : StandsAt k p c f.index ps
  pub tag : f.tag ≡ field_tag k
  pub presence : f.presence ≡ presence_of p

-- Fields state components of a record, in turn.
pub data AreFieldsOf (ps : Parts) : List Shape → Parts → Type 0 where
  no_fields : AreFieldsOf ps [] no_parts
  a_field : {f : Shape} {fs : List Shape} {k : TagTree} {p : Presence} {c : Schema} {cs : Parts}
      → IsFieldOf ps f k p c → AreFieldsOf ps fs cs → AreFieldsOf ps (f ∷ fs) (part k p c cs)

-- components that are in a record from a place on
pub record StandsFrom (ps : Parts) (i : ℕ) (cs : Parts) : Type 0 where
  pub at : (j : ℕ) (k : TagTree) (p : Presence) (c : Schema) → StandsAt k p c j cs → StandsAt k p c (i + j) ps

pub all_stand : (ps : Parts) → StandsFrom ps 0 ps
all_stand ps = record { at = λ j k p c h. let e : j ≡ 0 + j = omega arith in subst (λ n. StandsAt k p c n ps) e h }

others_stand : {ps : Parts} {i : ℕ} {k : TagTree} {p : Presence} {c : Schema} {cs : Parts} → StandsFrom ps i (part k p c cs) → StandsFrom ps (suc i) cs
others_stand {ps} {i} w = record {
  at = λ j k p c h. let e : i + suc j ≡ suc i + j = omega arith in subst (λ n. StandsAt k p c n ps) e (w.at (suc j) k p c (stands_after h));
}

first_is : {ps : Parts} {i : ℕ} {k : TagTree} {p : Presence} {c : Schema} {cs : Parts} → StandsFrom ps i (part k p c cs) → (f : Shape) → f.index ≡ i → f.tag ≡ field_tag k
    → f.presence ≡ presence_of p → IsFieldOf ps f k p c
first_is {ps} {i} {k} {p} {c} w f n t b = record {
  stands = let e : i + 0 ≡ f.index = omega (arith, n) in subst (λ n. StandsAt k p c n ps) e (w.at 0 k p c stands_first);
  tag = t;
  presence = b;
}

-- as they are listed
pub as_listed : {ps : Parts} (i : ℕ) (cs : Parts) → StandsFrom ps i cs → AreFieldsOf ps (shapes_from i cs) cs
as_listed i no_parts w = no_fields
as_listed i (part k p c cs) w = a_field (first_is w _ refl refl refl) (as_listed (suc i) cs (others_stand w))

-- a field is put where its component is
put_field : {ps : Parts} (n : ℕ) {f : Shape} {fs : List Shape} {k : TagTree} {p : Presence} {c : Schema} {cs : Parts}
    → IsFieldOf ps f k p c → AreFieldsOf ps fs cs → AreFieldsOf ps (insert_at n f fs) (put_part n k p c cs)
put_field zero h a = a_field h a
put_field (suc n) h no_fields = a_field h no_fields
put_field (suc n) h (a_field g a) = a_field g (put_field n h a)

field_is_smallest : (k : TagTree) → field_tag k ≡ smallest k
unfolding smallest
field_is_smallest (leaf t) = refl
field_is_smallest (one_of t ts) = refl

tags_of_fields : (i : ℕ) (cs : Parts) → map (λ (f : Shape). f.tag) (shapes_from i cs) ≡ tags cs
tags_of_fields i no_parts = refl
tags_of_fields i (part k p c cs) = rw (field_is_smallest k, tags_of_fields (suc i) cs) refl

-- in ascending order of their tags
pub in_order : {ps : Parts} (i : ℕ) (cs : Parts) → StandsFrom ps i cs → AreFieldsOf ps (in_tag_order (shapes_from i cs)) (canonised cs)
in_order i no_parts w = no_fields
in_order {ps} i (part k p c cs) w =
    let f : Shape = record { index = i; tag = field_tag k; tree = Some k; presence = presence_of p } in
    let ts = map (λ (f : Shape). f.tag) (shapes_from (suc i) cs) in
    let e : how_many_less (field_tag k) ts ≡ how_many_less (smallest k) (tags cs) =
    ap (λ t. how_many_less t ts) (field_is_smallest k) ∙ ap (how_many_less (smallest k)) (tags_of_fields (suc i) cs) in
    subst (λ n. AreFieldsOf ps (in_tag_order (shapes_from i (part k p c cs))) (put_part n k p c (canonised cs))) e
    (put_field (how_many_less (field_tag k) ts) (first_is w _ refl refl refl) (in_order (suc i) cs (others_stand w)))
