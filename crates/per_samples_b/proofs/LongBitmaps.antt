-- What is written of the last of 65 additions alone, at each depth that holds it.
use Rattle.std.proofs.Common.{arith, ◌≡◌, refl, ℕ, zero, suc, ◌≤◌, true, [], ◌∷◌, ◌++◌, map, replicate, Some, None}
use Rattle.rasn_below.specs.Values.{truth, record_value, slot_of}
use Rattle.rasn_below.specs.Types.{normal, sequence_at, settle}
use Rattle.per_core.specs.Rows.{aligned, unaligned, bytes}
use Rattle.per_samples_b.specs.Many.{many}

pub unaligned_row : (n : ℕ) → 1 ≤ n → bytes unaligned (sequence_at many n) (normal (sequence_at many n) (record_value [] (map (slot_of truth) (replicate 64 None ++ Some true ∷ []))))
    ≡ Some (0xd0 ∷ 0x40 ∷ replicate 7 0x00 ++ 0x20 ∷ 0x30 ∷ 0x00 ∷ [])
unfolding bytes normal settle
unaligned_row zero h = absurd (omega (arith, h))
unaligned_row (suc n) h = refl

pub aligned_row : (n : ℕ) → 1 ≤ n → bytes aligned (sequence_at many n) (normal (sequence_at many n) (record_value [] (map (slot_of truth) (replicate 64 None ++ Some true ∷ []))))
    ≡ Some (0xc0 ∷ 0x41 ∷ replicate 8 0x00 ++ 0x80 ∷ 0x01 ∷ 0x80 ∷ [])
unfolding bytes normal settle
aligned_row zero h = absurd (omega (arith, h))
aligned_row (suc n) h = refl
