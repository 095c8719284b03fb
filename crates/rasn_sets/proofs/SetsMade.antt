-- How all items of a SET are read, and the SET that is made of them.
use Rattle.std.proofs.Common.{◌≡◌, refl, sym, ap, subst, ◌∙◌, ◌⊎◌, inl, inr, ℕ, ◌+◌, List, [], ◌++◌, map, length, Result, Ok, Err, Option}
use Rattle.rasn_types.specs.Values.{Value}
use Rattle.rasn_types.specs.declared.types.Codec.{Codec}
use Rattle.rasn_types.specs.declared.types.Tag.{Tag}
use Rattle.rasn_schema.specs.Orders.{canonised, canonised_slots}
use Rattle.rasn_schema.specs.Fields.{Shape, in_tag_order, shape_of, shapes_from}
use Rattle.rasn_schema.specs.declared.fields.Field.{Field}
use Rattle.rasn_schema.specs.Schemas.{Parts}
use Rattle.rasn_traits.specs.Calls.{DecoderRules, DecodesWell}
use Rattle.rasn_traits.specs.Scopes.{AnswersFields, ReadsFields, reads_fields, ReadsNoFields}
use Rattle.rasn_traits.proofs.Reading.{fails_after_root, fails_root}
use Rattle.rasn_sets.specs.Components.{Gathers, MakesSet, ReadsEach}
use Rattle.rasn_sets.specs.SetsRead.{ItemsAnswered}
use Rattle.rasn_sets.specs.Turns.{FailsAfter, FailsRoot, ReadsAfter, ReadsRoot}
use Rattle.rasn_sets.proofs.ItemOrder.{AreFieldsOf, all_stand, as_listed, in_order}
use Rattle.rasn_sets.proofs.SetReadings.{after_read, after_refused, root_read, root_refused}

module _ {E S I : Type 0} {rules : DecoderRules E S} (L : DecodesWell rules) {ps qs : Parts} {place : I → ℕ} {slot : I → Option Value}
    {gives : S → ℕ → Tag → Result I E → S → Type 0} {fields behind : List Shape} (d : fields ≡ shapes_from 0 ps) (b : behind ≡ shapes_from 0 qs)
    (s : S) (each : ReadsEach rules ps qs (length fields) place slot (rules.levels s) gives) where
  are_root : (fs : List Field) → map shape_of fs ≡ in_tag_order fields → AreFieldsOf ps (map shape_of fs) (canonised ps)
  are_root fs h = subst (λ z. AreFieldsOf ps z (canonised ps)) (sym (h ∙ ap in_tag_order d)) (in_order 0 ps (all_stand ps))

  are_after : (fs : List Field) → map shape_of fs ≡ behind → AreFieldsOf qs (map shape_of fs) qs
  are_after fs h = subst (λ z. AreFieldsOf qs z qs) (sym (h ∙ b)) (as_listed 0 qs (all_stand qs))

  pub items_read : {m t : S} {zs us : List I} → (fs : List Field) × (map shape_of fs ≡ in_tag_order fields) × ReadsRoot rules gives fs s [] m zs
      → (bs : List Field) × (map shape_of bs ≡ behind) × ReadsAfter gives (length fields) bs m zs t us → ItemsAnswered rules fields behind ps qs place slot s (Ok us) t
  items_read {m} {t} {zs} {us} x y =
      let o = root_read L each x.0 (canonised ps) s [] m zs (are_root x.0 x.1) refl x.2 in
      let q = after_read L each y.0 qs m zs t us (are_after y.0 y.1) o.level y.2 in (
        o.items,
        q.items,
        o.slots,
        q.behind ∙ ap (λ z. z ++ q.items) o.behind,
        subst (λ z. Gathers place slot z (canonised ps) o.items o.slots) x.1 o.gathered,
        q.places ∙ ap (map (λ (f : Shape). length fields + f.index)) y.1,
        reads_fields o.read q.read,
      )

  pub root_failed : {e : E} → rules.memory e s ⊎ ((fs : List Field) × (map shape_of fs ≡ in_tag_order fields) × FailsRoot rules gives e fs s)
      → rules.memory e s ⊎ ReadsNoFields rules (canonised ps) qs e s
  root_failed (inl h) = inl h
  root_failed {e} (inr x) = fails_root L (root_refused L each x.0 (canonised ps) s e (are_root x.0 x.1) refl x.2)

  pub after_failed : {e : E} {m : S} {zs : List I} → (fs : List Field) × (map shape_of fs ≡ in_tag_order fields) × ReadsRoot rules gives fs s [] m zs
      → (bs : List Field) × (map shape_of bs ≡ behind) × FailsAfter rules gives e (length fields) bs m → rules.memory e s ⊎ ReadsNoFields rules (canonised ps) qs e s
  after_failed {e} {m} {zs} x y =
      let o = root_read L each x.0 (canonised ps) s [] m zs (are_root x.0 x.1) refl x.2 in
      fails_after_root L o.slots m o.read (after_refused L each y.0 qs m e (are_after y.0 y.1) o.level y.2)

  -- the SET that is made of the items
  pub set_made : {T : Type 0} {contents added : T → List (Option Value)} {makes : List I → Result T E → Type 0} (made : MakesSet rules (rules.codec s) fields behind ps contents added place slot makes)
      (zs : List I) (r : Result T E) (t : S) → ItemsAnswered rules fields behind ps qs place slot s (Ok zs) t → makes zs r
      → AnswersFields rules (canonised ps) qs (λ x. canonised_slots ps (contents x)) added s r t
  set_made {contents = contents} {added} {makes} made zs (Ok v) t a h =
      let w = made.makes a.0 a.1 a.2 (Ok v) a.4 a.5 (subst (λ z. makes z (Ok v)) a.3 h) in
      subst (λ z. ReadsFields rules (canonised ps) qs s z (added v) t) (sym w.0) (subst (λ z. ReadsFields rules (canonised ps) qs s a.2 z t) (sym w.1) a.6)
  set_made {makes = makes} made zs (Err e) t a h = inl (made.makes a.0 a.1 a.2 (Err e) a.4 a.5 (subst (λ z. makes z (Err e)) a.3 h) s refl)

-- what makes a SET for a decoder makes it for one of the same variant
pub same_variant : {E S I T : Type 0} {rules : DecoderRules E S} {c d : Codec} {fields behind : List Shape} {ps : Parts} {contents added : T → List (Option Value)}
    {place : I → ℕ} {slot : I → Option Value} {gives : List I → Result T E → Type 0}
    → d ≡ c → MakesSet rules c fields behind ps contents added place slot gives → MakesSet rules d fields behind ps contents added place slot gives
same_variant {rules = rules} {fields = fields} {behind} {ps} {contents} {added} {place} {slot} {gives} e m =
    subst (λ k. MakesSet rules k fields behind ps contents added place slot gives) (sym e) m
