-- Types at places, by whether they are octets that contain a value.
use Rattle.std.proofs.Common.{◌≡◌, refl, sym, subst, ℕ, zero, suc, List}
use Rattle.std.specs.Prelude.{slice_get}
use Rattle.rasn_schema.specs.Schemas
use Rattle.rasn_schema.specs.Schemas.{Schema}
use Rattle.per_core.specs.Versions.{Newer, newer_containing, unchanged}
use Rattle.rasn_traits.specs.Moments.{date_at}
use Rattle.rasn_dynamic.specs.declared.types.Kind.{Kind}
use Rattle.rasn_dynamic.specs.declared.types.Kind.TheVariants.{Simple as SimpleKind, Date, List as ListKind, SetOf, Record as RecordKind, Choice as ChoiceKind, Containing, Open as OpenKind}
use Rattle.rasn_dynamic.specs.Types.{kind_in, plain_in}
use Rattle.lawful_types.specs.declared.pairs.Pair.{Pair}
use Rattle.lawful_types.specs.OneLevel.{IsNewerKind, IsNewerPlain, IsNewerWithin, IsOpen}

plain_kind : (ts : List Kind) (s : ℕ → Schema) (n : ℕ) (k : Kind) → ((i : ℕ) → k ≡ Containing i → ⊥) → kind_in ts s n k ≡ plain_in ts s n k
plain_kind ts s n (SimpleKind k) h = refl
plain_kind ts s n Date h = refl
plain_kind ts s n (ListKind i c) h = refl
plain_kind ts s n (SetOf i c) h = refl
plain_kind ts s n (RecordKind r) h = refl
plain_kind ts s n (ChoiceKind c) h = refl
plain_kind ts s n (Containing i) h = absurd (h i refl)
plain_kind ts s n (OpenKind o) h = refl

-- a DATE is the same at each number of levels
pub date_newer : (n : ℕ) → Newer (date_at n) (date_at n)
date_newer zero = unchanged tt
date_newer (suc zero) = unchanged tt
date_newer (suc (suc n)) = unchanged tt

module _ (ts' ts : List Kind) (ps : List Pair) where
  pub kind_newer : (k' k : Kind) → ((i : ℕ) → k' ≡ Containing i → ⊥) → ((i : ℕ) → k ≡ Containing i → ⊥) → IsNewerPlain ts' ts ps k' k → IsNewerKind ts' ts ps k' k
  kind_newer k' k g' g h s' s n v =
      subst (λ x. Newer x (kind_in ts s n k)) (sym (plain_kind ts' s' n k' g')) (subst (λ x. Newer (plain_in ts' s' n k') x) (sym (plain_kind ts s n k g)) (h s' s n v))

  pub open_newer : (k' k : Kind) → IsOpen k' → IsOpen k → IsNewerPlain ts' ts ps k' k
  open_newer k' k e' e s' s n v =
      subst (λ x. Newer x (plain_in ts s n k)) (sym (e' ts' s' n)) (subst (λ x. Newer Schemas.any x) (sym (e ts s n)) (unchanged tt))

  pub containing_newer : (i j : ℕ) → IsNewerWithin ts' ts ps (slice_get ts' i) (slice_get ts j) → IsNewerKind ts' ts ps (Containing i) (Containing j)
  containing_newer i j h s' s n v = newer_containing (h s' s n v)
