-- What canon writes of a kind, as a spelling by what it writes of the members: of a part that is written it's known that it isn't at its default.
use Rattle.per_core.specs.Basic
use Rattle.std.proofs.Common.{◌≡◌, refl, sym, ap, ◌∙◌, subst, ℕ, suc, Bool, true, List, [], ◌∷◌, length, Option, Some}
use Rattle.rasn_types.specs.Values.{Value, elements, bag_of, fields, alternative, Side, as_values, slots, as_slots}
use Rattle.rasn_types.specs.Variants.{Variant}
use Rattle.rasn_types.proofs.Values.{as_slots-slots}
use Rattle.rasn_constraints.specs.Bounds.{Size}
use Rattle.rasn_schema.specs.Schemas.{Order, Tag, tags, Schema, Parts, no_parts, part}
use Rattle.rasn_schema.specs.Orders.{ordered}
use Rattle.per_core.specs.Spellings.{Settings, Spelling}
use Rattle.per_core.specs.Writers.{Writer, written_if}
use Rattle.per_core.specs.Counts.{list_items}
use Rattle.per_core.specs.Canon.{canon, members, Member, shown, record_of}
use Rattle.per_core.specs.Basic.{As, Counted, Rule, Record_in, Open, Fills}
use Rattle.per_core.proofs.WriterSpellings.{Within, refused_within, if_within}
use Rattle.per_core.proofs.Presenting.{Pairs, record_within, open_within}
use Rattle.per_core.proofs.Canonical.{as_within, ordered-pairs, list_within, bags_within, choices_within}
use Rattle.per_laws.proofs.Carry.{Carry}
use Rattle.per_laws.specs.Written.{is_written}
use Rattle.per_laws.proofs.SameWritten.{Fits, ordered_root, record_same, written_shown}

-- the canonical bits, as a spelling
abbrev pub Writes : Settings → Schema → Value → Spelling
Writes a t v p b = canon a.variant t v p ≡ Some b

written_so : (a : Settings) (t : Schema) (v : Value) → Within (canon a.variant t v) (Writes a t v)
written_so a t v = record { within = λ p b e. e }

carried : {f : Writer} {g : Spelling} → Within f g → Carry (λ p b. f p ≡ Some b) g
carried h = record { carry = λ p b e. h.within p b e }

-- octets that contain a value
pub contained_layer : (a : Settings) (t : Schema) (v : Value) → Carry (Writes a (Schema.containing t) v) (Open a (Fills a (Writes a t v)))
unfolding canon
contained_layer a t v = carried (open_within a (canon a.variant t v) (Writes a t v) (written_so a t v))

-- lists
pub list_layer : (a : Settings) (t : Schema) (size : Size) (mark : Bool) (v : Value) → Carry (Writes a (Schema.list t size mark) v) (As (λ vs. elements (as_values vs)) (Counted a size mark list_items (Writes a t)) v)
unfolding canon
list_layer a t size mark v = carried (list_within a t (Writes a t) size mark (written_so a t) v)

pub bag_layer : (a : Settings) (t : Schema) (size : Size) (mark : Bool) (v : Value) → Carry (Writes a (Schema.set_of t size mark) v) (As bag_of (Counted a size mark list_items (Writes a t)) v)
unfolding canon
bag_layer a t size mark v = carried (bags_within a t (Writes a t) size mark (written_so a t) v)

-- records
guarded : Variant → Parts → List Member
guarded a no_parts = []
guarded a (part t p s ps) = record { presence = p; writes = λ v. written_if (is_written p v) (canon a s v) } ∷ guarded a ps

abbrev pub written_rules : Settings → Parts → List Rule
written_rules a no_parts = []
written_rules a (part t p s ps) = record { presence = p; spells = λ v q b. (is_written p v ≡ true) × Writes a s v q b } ∷ written_rules a ps

guarded-fits : (a : Variant) (ps : Parts) (xs : List (Option Value)) → Fits (members a ps) (guarded a ps) xs
unfolding members guarded
guarded-fits a no_parts xs = tt
guarded-fits a (part t p s ps) [] = guarded-fits a ps []
guarded-fits a (part t p s ps) (x ∷ xs) = (
  record { alike = refl; each = λ v e k. ap (λ b. written_if b (canon a s v)) (sym (written_shown p v (ap (shown p) (sym e) ∙ k))) },
  guarded-fits a ps xs,
)

guarded-length : (a : Variant) (ps : Parts) → length (members a ps) ≡ length (guarded a ps)
unfolding members guarded
guarded-length a no_parts = refl
guarded-length a (part t p s ps) = ap suc (guarded-length a ps)

guarded-pairs : (a : Settings) (ps : Parts) → Pairs (guarded a.variant ps) (written_rules a ps)
unfolding guarded
guarded-pairs a no_parts = tt
guarded-pairs a (part t p s ps) = (record { alike = refl; each = λ v. if_within (is_written p v) (λ h. record { within = λ q b e. (h, e) }) }, guarded-pairs a ps)

record_written : (a : Settings) (u : Bool) (o : Order) (ts : List Tag) (ext : Bool) (ps adds : Parts) (r x : List (Option Value)) →
    Within (record_of a.variant ext (ordered o ts (members a.variant ps)) (members a.variant adds) (ordered o ts r) x) (Record_in a u ext (ordered o ts (written_rules a ps)) (written_rules a adds) (ordered o ts r) x)
record_written a u o ts ext ps adds r x =
    subst (λ w. Within w (Record_in a u ext (ordered o ts (written_rules a ps)) (written_rules a adds) (ordered o ts r) x))
    (sym (record_same a.variant ext (ordered o ts (members a.variant ps)) (ordered o ts (guarded a.variant ps)) (members a.variant adds) (guarded a.variant adds) (ordered o ts r) (ordered o ts r) x
    (ordered_root o ts (members a.variant ps) (guarded a.variant ps) (guarded-length a.variant ps) r (guarded-fits a.variant ps r)) (guarded-fits a.variant adds x)))
    (record_within a u ext (ordered o ts (guarded a.variant ps)) (guarded a.variant adds) (ordered o ts (written_rules a ps)) (written_rules a adds)
    (ordered-pairs o ts (guarded a.variant ps) (written_rules a ps) (guarded-pairs a ps)) (guarded-pairs a adds) (ordered o ts r) x)

fields_within : (a : Settings) (u : Bool) (o : Order) (ext : Bool) (ps adds : Parts) (v : Value) → Within (canon a.variant (Schema.sequence o ps ext adds) v)
    (As (λ (x : List (Option Value) × List (Option Value)). fields (as_slots x.0) (as_slots x.1)) (λ x. Record_in a u ext (ordered o (tags ps) (written_rules a ps)) (written_rules a adds) (ordered o (tags ps) x.0) x.1) v)
unfolding canon
fields_within a u o ext ps adds (fields r x) = as_within (λ (x : List (Option Value) × List (Option Value)). fields (as_slots x.0) (as_slots x.1))
    (λ x. Record_in a u ext (ordered o (tags ps) (written_rules a ps)) (written_rules a adds) (ordered o (tags ps) x.0) x.1)
    (slots r, slots x) (fields r x) (ap (λ z. fields z x) (sym (as_slots-slots r)) ∙ ap (λ z. fields (as_slots (slots r)) z) (sym (as_slots-slots x)))
    (record_written a u o (tags ps) ext ps adds (slots r) (slots x))
fields_within a u o ext ps adds _ = refused_within

pub record_layer : (a : Settings) (u : Bool) (o : Order) (ext : Bool) (ps adds : Parts) (v : Value) → Carry (Writes a (Schema.sequence o ps ext adds) v)
    (As (λ (x : List (Option Value) × List (Option Value)). fields (as_slots x.0) (as_slots x.1)) (λ x. Record_in a u ext (ordered o (tags ps) (written_rules a ps)) (written_rules a adds) (ordered o (tags ps) x.0) x.1) v)
record_layer a u o ext ps adds v = carried (fields_within a u o ext ps adds v)

-- choices
abbrev pub chosen_rules : Settings → Parts → List Rule
chosen_rules a no_parts = []
chosen_rules a (part t p s ps) = record { presence = p; spells = Writes a s } ∷ chosen_rules a ps

chosen-pairs : (a : Settings) (ps : Parts) → Pairs (members a.variant ps) (chosen_rules a ps)
unfolding members
chosen-pairs a no_parts = tt
chosen-pairs a (part t p s ps) = (record { alike = refl; each = written_so a s }, chosen-pairs a ps)

pub choice_layer : (a : Settings) (ext : Bool) (ps adds : Parts) (v : Value) → Carry (Writes a (Schema.choice ps adds ext) v)
    (As (λ (x : Side × ℕ × Value). alternative x.0 x.1 x.2) (λ x. Basic.Choice a ext (chosen_rules a ps) (chosen_rules a adds) x.0 x.1 x.2) v)
unfolding canon
choice_layer a ext ps adds v = carried (choices_within a ext (members a.variant ps) (members a.variant adds) (chosen_rules a ps) (chosen_rules a adds) (chosen-pairs a ps) (chosen-pairs a adds) v)
