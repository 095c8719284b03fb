-- Lawful types by their parts, and that their parts are newer versions of themselves.
use Rattle.std.proofs.Common.{◌≡◌, refl, ap, ◌∙◌, ap₂, ℕ, zero, suc, ◌+◌, Bool, true, false, ltb, ◌&&◌, List, [], ◌∷◌, ◌++◌, Some}
use Rattle.rasn_constraints.specs.Bounds.{Size}
use Rattle.rasn_constraints.specs.LawfulConstraints.{is_lawful_size}
use Rattle.rasn_schema.specs.Bags.{set_at, set_levelled}
use Rattle.rasn_schema.specs.Components.{Component, alternatives_at, alternatives_levelled, components_levelled, parts_of}
use Rattle.rasn_schema.specs.Lawful.{leaves, are_distinct, are_lawful_tags, are_required, no_groups, tags_below}
use Rattle.rasn_schema.specs.Lawful.{IsLawful, AreLawful, IsLawfulRecord, IsLawfulChoice, IsLawfulType}
use Rattle.rasn_schema.specs.Structures.{has_bit, presence_bits}
use Rattle.rasn_schema.specs.Levels.{Levelled, containing_levelled, record_levelled}
use Rattle.rasn_schema.specs.Lists.{list_at, list_levelled}
use Rattle.rasn_schema.specs.Records.{record_at}
use Rattle.rasn_schema.specs.Schemas.{Presence, required, optional, group, default, Order, listed, by_tag, Schema, Parts, part}
use Rattle.per_core.specs.Versions.{Newer, NewerParts, unchanged, newer_sequence}
use Rattle.per_laws.proofs.VersionOfItself.{newer_than_itself}
use Rattle.per_laws.proofs.Levelled.{levelled_type_unfolds}
use Rattle.per_laws.specs.Components.{IsLawfulComponent, AreLawfulComponents, IsNewerComponent, AreNewer}
use Rattle.per_laws.specs.Judged.{judge_choice, judge_record}
use Rattle.per_laws.specs.Verdicts.{allowed}
use Rattle.per_laws.proofs.Components.{of_part}
use Rattle.per_laws.proofs.Judged.{choice_lawful, record_lawful}

-- what a record's and a choice's demands look at is the same at each number of levels
groups_at : (cs : List Component) (m n : ℕ) → no_groups (parts_of cs m) ≡ no_groups (parts_of cs n)
groups_at [] m n = refl
groups_at (c ∷ cs) m n = go c.presence (groups_at cs m n)
  where
    go : (p : Presence) → no_groups (parts_of cs m) ≡ no_groups (parts_of cs n) → no_groups (part c.tags p (c.schema m) (parts_of cs m)) ≡ no_groups (part c.tags p (c.schema n) (parts_of cs n))
    go required e = e
    go optional e = e
    go group e = refl
    go (default d) e = e

bits_at : (cs : List Component) (m n : ℕ) → presence_bits (parts_of cs m) ≡ presence_bits (parts_of cs n)
bits_at [] m n = refl
bits_at (c ∷ cs) m n = ap (λ b. has_bit c.presence + b) (bits_at cs m n)

tags_at : (cs : List Component) (m n : ℕ) → tags_below (parts_of cs m) ≡ tags_below (parts_of cs n)
tags_at [] m n = refl
tags_at (c ∷ cs) m n = go c.presence (tags_at cs m n)
  where
    go : (p : Presence) → tags_below (parts_of cs m) ≡ tags_below (parts_of cs n) → tags_below (part c.tags p (c.schema m) (parts_of cs m)) ≡ tags_below (part c.tags p (c.schema n) (parts_of cs n))
    go required e = ap (λ us. leaves c.tags ++ us) e
    go optional e = ap (λ us. leaves c.tags ++ us) e
    go group e = e
    go (default d) e = ap (λ us. leaves c.tags ++ us) e

required_at : (cs : List Component) (m n : ℕ) → are_required (parts_of cs m) ≡ are_required (parts_of cs n)
required_at [] m n = refl
required_at (c ∷ cs) m n = go c.presence (required_at cs m n)
  where
    go : (p : Presence) → are_required (parts_of cs m) ≡ are_required (parts_of cs n) → are_required (part c.tags p (c.schema m) (parts_of cs m)) ≡ are_required (part c.tags p (c.schema n) (parts_of cs n))
    go required e = e
    go optional e = refl
    go group e = refl
    go (default d) e = refl

order_at : (o : Order) (roots adds : List Component) (m n : ℕ) → are_lawful_tags o (parts_of roots m) (parts_of adds m) ≡ are_lawful_tags o (parts_of roots n) (parts_of adds n)
order_at listed roots adds m n = refl
order_at by_tag roots adds m n = ap are_distinct (ap₂ (λ us vs. us ++ vs) (tags_at roots m n) (tags_at adds m n))

parts_lawful : (cs : List Component) → AreLawfulComponents cs → (n : ℕ) → AreLawful (parts_of cs n)
unfolding IsLawful
parts_lawful [] k n = tt
parts_lawful (c ∷ cs) k n = (k.0.presence n, k.0.schema n, parts_lawful cs k.1 n)

record_at_lawful : (o : Order) (ext : Bool) (roots adds : List Component) → IsLawfulRecord o (parts_of roots 0) (parts_of adds 0) → AreLawfulComponents roots → AreLawfulComponents adds →
    (n : ℕ) → IsLawful (record_at o (parts_of roots) ext (parts_of adds) n)
unfolding IsLawful
record_at_lawful o ext roots adds r k l zero = tt
record_at_lawful o ext roots adds r k l (suc n) = (
  record {
    root_groups = groups_at roots n 0 ∙ r.root_groups;
    few_bits = ap (λ (b : ℕ). ltb b 65536) (bits_at roots n 0) ∙ r.few_bits;
    lawful_tags = order_at o roots adds n 0 ∙ r.lawful_tags;
  },
  parts_lawful roots k n,
  parts_lawful adds l n,
)

pub record_parts : (o : Order) (ext : Bool) (roots adds : List Component) → judge_record o (parts_of roots 0) (parts_of adds 0) ≡ allowed → AreLawfulComponents roots → AreLawfulComponents adds →
    IsLawfulType (record_at o (parts_of roots) ext (parts_of adds))
record_parts o ext roots adds j k l = record {
  unfolds = levelled_type_unfolds (record_at o (parts_of roots) ext (parts_of adds)) (record_levelled (components_levelled roots) (components_levelled adds));
  lawful = record_at_lawful o ext roots adds (record_lawful o (parts_of roots 0) (parts_of adds 0) j) k l;
}

choice_at_lawful : (roots adds : List Component) → IsLawfulChoice (parts_of roots 0) (parts_of adds 0) → AreLawfulComponents roots → AreLawfulComponents adds → (n : ℕ) → IsLawful (alternatives_at roots (Some adds) n)
unfolding IsLawful
choice_at_lawful roots adds r k l zero = tt
choice_at_lawful roots adds r k l (suc n) = (
  record {
    all_required = ap₂ (λ a b. a && b) (required_at roots n 0) (required_at adds n 0) ∙ r.all_required;
    distinct_tags = ap are_distinct (ap₂ (λ us vs. us ++ vs) (tags_at roots n 0) (tags_at adds n 0)) ∙ r.distinct_tags;
  },
  parts_lawful roots k n,
  parts_lawful adds l n,
)

pub choice_parts : (roots adds : List Component) → judge_choice (parts_of roots 0) (parts_of adds 0) ≡ allowed → AreLawfulComponents roots → AreLawfulComponents adds → IsLawfulType (alternatives_at roots (Some adds))
choice_parts roots adds j k l = record {
  unfolds = levelled_type_unfolds (alternatives_at roots (Some adds)) (alternatives_levelled roots (Some adds));
  lawful = choice_at_lawful roots adds (choice_lawful (parts_of roots 0) (parts_of adds 0) j) k l;
}

list_at_lawful : (T : ℕ → Schema) (size : Size) (mark : Bool) → ((n : ℕ) → IsLawful (T n)) → is_lawful_size size.least size.most ≡ true → (n : ℕ) → IsLawful (list_at T size mark n)
unfolding IsLawful
list_at_lawful T size mark l e zero = tt
list_at_lawful T size mark l e (suc n) = (e, l n)

pub list_parts : (T : ℕ → Schema) (size : Size) (mark : Bool) → Levelled T → IsLawfulType T → is_lawful_size size.least size.most ≡ true → IsLawfulType (list_at T size mark)
list_parts T size mark g l e = record { unfolds = levelled_type_unfolds (list_at T size mark) (list_levelled size mark g); lawful = list_at_lawful T size mark l.lawful e }

set_at_lawful : (T : ℕ → Schema) (size : Size) (mark : Bool) → ((n : ℕ) → IsLawful (T n)) → is_lawful_size size.least size.most ≡ true → (n : ℕ) → IsLawful (set_at T size mark n)
unfolding IsLawful
set_at_lawful T size mark l e zero = tt
set_at_lawful T size mark l e (suc n) = (e, l n)

pub set_parts : (T : ℕ → Schema) (size : Size) (mark : Bool) → Levelled T → IsLawfulType T → is_lawful_size size.least size.most ≡ true → IsLawfulType (set_at T size mark)
set_parts T size mark g l e = record { unfolds = levelled_type_unfolds (set_at T size mark) (set_levelled size mark g); lawful = set_at_lawful T size mark l.lawful e }

contents_at_lawful : (s : Schema) → IsLawful s → IsLawful (Schema.containing s)
unfolding IsLawful
contents_at_lawful s l = l

pub contents_parts : (T : ℕ → Schema) → Levelled T → IsLawfulType T → IsLawfulType (λ n. Schema.containing (T n))
contents_parts T g l = record { unfolds = levelled_type_unfolds (λ n. Schema.containing (T n)) (containing_levelled g); lawful = λ n. contents_at_lawful (T n) (l.lawful n) }

-- a component of a lawful type is a newer version of itself, as an addition of a record of its own
in_additions : {o o' : Order} {ext ext' : Bool} {ps' ps adds' adds : Parts} → Newer (Schema.sequence o' ps' ext' adds') (Schema.sequence o ps ext adds) → NewerParts ext adds' adds
in_additions (unchanged h) = absurd h
in_additions (newer_sequence n ns) = ns

alone : (c : Component) → IsLawfulComponent c → (n : ℕ) → NewerParts true (parts_of (c ∷ []) n) (parts_of (c ∷ []) n)
alone c k n = in_additions (newer_than_itself (record_at listed (parts_of []) true (parts_of (c ∷ []))) (record_parts listed true [] (c ∷ []) refl tt (k, tt)) (suc n))

stays : (c : Component) → IsLawfulComponent c → IsNewerComponent c c
stays c k = record {
  tags = refl;
  presence = λ n. (of_part (alone c k n)).0;
  schema = λ n. (of_part (alone c k n)).1;
}

pub components_stay : (may : Bool) (cs : List Component) → AreLawfulComponents cs → AreNewer may cs cs
components_stay may [] k = tt
components_stay true (c ∷ cs) k = (stays c k.0, components_stay true cs k.1)
components_stay false (c ∷ cs) k = (stays c k.0, components_stay false cs k.1)
