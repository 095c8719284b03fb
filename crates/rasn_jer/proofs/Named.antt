-- Bits that have names, in normal form (X.691 16.2).
use Rattle.std.proofs.Common.{◌≡◌, refl, sym, ap, ◌∙◌, subst, ℕ, ◌-◌, ◌^◌, ◌<◌, Bool, true, false, cond, ltb, lt-ltb, ◌++◌, length, replicate, append-nil, arith, Option, Some, None}
use Rattle.std.specs.Option.{unwrap_or}
use Rattle.rasn_types.specs.Bits.{Bits, filled_up, trimmed}
use Rattle.rasn_types.specs.Values.{Value, bits}
use Rattle.rasn_constraints.specs.Bounds.{Size}
use Rattle.rasn_schema.specs.Normal.{normal, normal_bits}
use Rattle.rasn_schema.specs.Schemas.{Schema}
use Rattle.json.specs.Json.{Json}
use Rattle.rasn_jer.specs.Shown.{fixed_count, IsBits, Shows, shows_bits}

-- bits up to the least count are those in normal form
normal_form : (l : Option ℕ) (n : ℕ) (bs : Bits) → n ≡ unwrap_or l 0 → n < 2 ^ 64 → filled_up n (trimmed bs) ≡ normal_bits l bs
normal_form None n bs e h =
    let z : n - length (trimmed bs) ≡ 0 = omega arith in
    ap (λ (m : ℕ). trimmed bs ++ replicate m false) z ∙ append-nil (trimmed bs)
normal_form (Some l) n bs e h =
    let s : ltb l (2 ^ 64) ≡ true = lt-ltb l (2 ^ 64) (subst (λ (m : ℕ). m < 2 ^ 64) e h) in
    ap (λ (m : ℕ). filled_up m (trimmed bs)) e ∙ sym (ap (λ b. cond b (filled_up l (trimmed bs)) (trimmed bs)) s)

normal_is : (size : Size) (mark : Bool) (bs : Bits) → normal (Schema.bit_string size mark true) (bits bs) ≡ bits (normal_bits size.least bs)
unfolding normal
normal_is size mark bs = refl

-- what shows these shows the normal form
pub named_shown : (size : Size) (mark : Bool) (n : ℕ) (fixed : Option ℕ) (bs : Bits) (j : Json) → n ≡ unwrap_or size.least 0 → n < 2 ^ 64 → fixed ≡ fixed_count size mark → IsBits fixed (filled_up n (trimmed bs)) j
    → Shows (Schema.bit_string size mark true) (normal (Schema.bit_string size mark true) (bits bs)) j
named_shown size mark n fixed bs j e h f k = subst (λ (v : Value). Shows (Schema.bit_string size mark true) v j)
    (ap bits (normal_form size.least n bs e h) ∙ sym (normal_is size mark bs)) (shows_bits (subst (λ (o : Option ℕ). IsBits o (filled_up n (trimmed bs)) j) f k))
