-- Newer versions by what was added to them, at each number of levels.
use Rattle.std.proofs.Common.{ℕ, zero, suc, ◌+◌, Bool, true, false, List, [], ◌∷◌, ◌++◌, arith, Some}
use Rattle.rasn_constraints.specs.Bounds.{Size}
use Rattle.rasn_schema.specs.Bags.{set_at}
use Rattle.rasn_schema.specs.Components.{Component, alternatives_at, parts_of}
use Rattle.rasn_schema.specs.Forms.{always}
use Rattle.rasn_schema.specs.Lawful.{IsLawfulType}
use Rattle.rasn_schema.specs.Lists.{list_at}
use Rattle.rasn_schema.specs.Records.{record_at}
use Rattle.rasn_schema.specs.Schemas.{TagTree, Presence, Order, Schema, Parts, part}
use Rattle.per_core.specs.Versions.{NewerPresence, Newer, NewerParts, NewerType, unchanged, more_items, newer_containing, newer_list, newer_set_of, newer_sequence, newer_choice, no_more, more_parts, also}
use Rattle.per_laws.proofs.VersionOfItself.{newer_than_itself}
use Rattle.per_laws.specs.Components.{AreNewer}

pub of_part : {may : Bool} {t t' : TagTree} {p' p : Presence} {s' s : Schema} {ps' ps : Parts} → NewerParts may (part t' p' s' ps') (part t p s ps) →
    NewerPresence s' s p' p × Newer s' s × NewerParts may ps' ps
of_part (also h n ns) = (h, n, ns)

grown : (adds more : List Component) (n : ℕ) → NewerParts true (parts_of adds n) (parts_of adds n) → NewerParts true (parts_of (adds ++ more) n) (parts_of adds n)
grown [] [] n h = no_more
grown [] (c ∷ cs) n h = more_parts
grown (c ∷ cs) more n h = let q = of_part h in also q.0 q.1 (grown cs more n q.2)

record_grows : {o o' : Order} {ps' ps xs' xs : Parts} (bs : Parts) → Newer (Schema.sequence o' ps' true xs') (Schema.sequence o ps true xs) → (NewerParts true xs' xs → NewerParts true bs xs) →
    Newer (Schema.sequence o' ps' true bs) (Schema.sequence o ps true xs)
record_grows bs (unchanged h) f = absurd h
record_grows bs (newer_sequence n ns) f = newer_sequence n (f ns)

pub more_additions : (o : Order) (roots adds more : List Component) → IsLawfulType (record_at o (parts_of roots) true (parts_of adds)) →
    NewerType (record_at o (parts_of roots) true (parts_of (adds ++ more))) (record_at o (parts_of roots) true (parts_of adds))
more_additions o roots adds more l zero = unchanged tt
more_additions o roots adds more l (suc n) =
    record_grows (parts_of (adds ++ more) n) (newer_than_itself (record_at o (parts_of roots) true (parts_of adds)) l (suc n)) (grown adds more n)

choice_grows : {ps' ps xs' xs : Parts} (bs : Parts) → Newer (Schema.choice ps' xs' true) (Schema.choice ps xs true) → (NewerParts true xs' xs → NewerParts true bs xs) →
    Newer (Schema.choice ps' bs true) (Schema.choice ps xs true)
choice_grows bs (unchanged h) f = absurd h
choice_grows bs (newer_choice n ns) f = newer_choice n (f ns)

pub more_alternatives : (roots adds more : List Component) → IsLawfulType (alternatives_at roots (Some adds)) →
    NewerType (alternatives_at roots (Some (adds ++ more))) (alternatives_at roots (Some adds))
more_alternatives roots adds more l zero = unchanged tt
more_alternatives roots adds more l (suc n) = choice_grows (parts_of (adds ++ more) n) (newer_than_itself (alternatives_at roots (Some adds)) l (suc n)) (grown adds more n)

pub items_added : (roots adds more : ℕ) → NewerType (always (Schema.items roots (adds + more) true)) (always (Schema.items roots adds true))
items_added roots adds more n = more_items (omega arith)

pub list_newer : (T' T : ℕ → Schema) (size : Size) (mark : Bool) → NewerType T' T → NewerType (list_at T' size mark) (list_at T size mark)
list_newer T' T size mark k zero = unchanged tt
list_newer T' T size mark k (suc n) = newer_list (k n)

pub set_newer : (T' T : ℕ → Schema) (size : Size) (mark : Bool) → NewerType T' T → NewerType (set_at T' size mark) (set_at T size mark)
set_newer T' T size mark k zero = unchanged tt
set_newer T' T size mark k (suc n) = newer_set_of (k n)

pub contents_newer : (T' T : ℕ → Schema) → NewerType T' T → NewerType (λ n. Schema.containing (T' n)) (λ n. Schema.containing (T n))
contents_newer T' T k n = newer_containing (k n)

parts_newer : (may : Bool) (news olds : List Component) → AreNewer may news olds → (n : ℕ) → NewerParts may (parts_of news n) (parts_of olds n)
parts_newer true [] [] k n = no_more
parts_newer true (c ∷ cs) [] k n = more_parts
parts_newer true (c ∷ cs) (d ∷ ds) k n = rw (k.0.tags) (also (k.0.presence n) (k.0.schema n) (parts_newer true cs ds k.1 n))
parts_newer true [] (d ∷ ds) k n = absurd k
parts_newer false [] [] k n = no_more
parts_newer false (c ∷ cs) (d ∷ ds) k n = rw (k.0.tags) (also (k.0.presence n) (k.0.schema n) (parts_newer false cs ds k.1 n))
parts_newer false (c ∷ cs) [] k n = absurd k
parts_newer false [] (d ∷ ds) k n = absurd k

pub record_newer : (o : Order) (ext : Bool) (rs' rs xs' xs : List Component) → AreNewer false rs' rs → AreNewer ext xs' xs →
    NewerType (record_at o (parts_of rs') ext (parts_of xs')) (record_at o (parts_of rs) ext (parts_of xs))
record_newer o ext rs' rs xs' xs k l zero = unchanged tt
record_newer o ext rs' rs xs' xs k l (suc n) = newer_sequence (parts_newer false rs' rs k n) (parts_newer ext xs' xs l n)

pub choice_newer : (rs' rs xs' xs : List Component) → AreNewer false rs' rs → AreNewer true xs' xs → NewerType (alternatives_at rs' (Some xs')) (alternatives_at rs (Some xs))
choice_newer rs' rs xs' xs k l zero = unchanged tt
choice_newer rs' rs xs' xs k l (suc n) = newer_choice (parts_newer false rs' rs k n) (parts_newer true xs' xs l n)
