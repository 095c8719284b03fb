use Rattle.std.proofs.Common.{◌≡◌, ◌≤◌, ℕ, zero, suc, List, [], ◌∷◌, Some, arith, refl}
use Rattle.rasn_below.specs.Page.{Value, alternative, list_value, octets, root}
use Rattle.rasn_below.specs.Types.{normal, settle}
use Rattle.per_core.specs.Rows.{Variant, aligned, unaligned, bytes}
use Rattle.per_samples_c.specs.Filters.{filter_schema}
use Rattle.per_samples_c.proofs.filter_rows.a_filter_is_its_index_and_an_alternative.Goals as goal

abbrev one : Value
one = alternative root 0 (list_value (alternative root 3 (octets (0x61 ∷ [])) ∷ alternative root 2 (alternative root 1 (list_value [])) ∷ []))

abbrev written : Variant → List ℕ
written unaligned = 0x00 ∷ 0xb0 ∷ 0x16 ∷ 0x19 ∷ 0x00 ∷ []
written aligned = 0x00 ∷ 0x02 ∷ 0xc0 ∷ 0x01 ∷ 0x61 ∷ 0x90 ∷ 0x00 ∷ []

within : (a : Variant) (n : ℕ) → 5 ≤ n → bytes a (filter_schema n) (normal (filter_schema n) one) ≡ Some (written a)
unfolding bytes normal settle
within a zero h = absurd (omega arith)
within a (suc zero) h = absurd (omega arith)
within a (suc (suc zero)) h = absurd (omega arith)
within a (suc (suc (suc zero))) h = absurd (omega arith)
within a (suc (suc (suc (suc zero)))) h = absurd (omega arith)
within unaligned (suc (suc (suc (suc (suc n))))) h = refl
within aligned (suc (suc (suc (suc (suc n))))) h = refl

present : (n : ℕ) → 1 ≤ n → bytes aligned (filter_schema n) (normal (filter_schema n) (alternative root 3 (octets (0x61 ∷ [])))) ≡ Some (0xc0 ∷ 0x01 ∷ 0x61 ∷ [])
unfolding bytes normal settle
present zero h = absurd (omega arith)
present (suc n) h = refl

pub returns-clause-aligned_present : goal.returns-clause-aligned_present
returns-clause-aligned_present c = record { at = present }

pub returns-clause-within : goal.returns-clause-within
returns-clause-within c = record { at = within unaligned }

pub returns-clause-aligned_within : goal.returns-clause-aligned_within
returns-clause-aligned_within c = record { at = within aligned }
