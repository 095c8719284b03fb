-- Bits that have names: their normal forms are equal exactly where they mean the same, and are the fewest.
use Rattle.std.proofs.Common.{◌≡◌, ◌↔◌, refl, sym, ap, subst, ◌∙◌, ℕ, ◌+◌, ◌-◌, ◌^◌, ◌<◌, ◌≤◌, Bool, true, false, cond, ltb, ◌&&◌, ◌++◌, length, replicate, arith, Option, Some, None, append_assoc, ltb-true, lt-ltb, leb-true, le-leb, ap₂}
use Rattle.std.proofs.Math.Nat.{lt_of_le_of_lt}
use Rattle.std.proofs.lemmas.List.{replicate-append-replicate}
use Rattle.rasn_types.specs.Bits.{Bits, filled_up, trimmed}
use Rattle.rasn_types.specs.Values.{Value}
use Rattle.rasn_types.proofs.Trimming.{trimmed-few, trimmed-filled, trimmed-split, trimmed-trimmed, trimmed-zeros, length-filled}
use Rattle.rasn_constraints.specs.Bounds.{allows, at_least, at_most, Size}
use Rattle.rasn_schema.specs.Normal.{normal, normal_bits}
use Rattle.rasn_schema.specs.Schemas.{Schema}
use Rattle.per_core.proofs.LengthForms.{and_left, and_right}
use Rattle.per_laws.specs.NamedBits.{MeanTheSame, IsFewest}

-- bits in normal form are trimmed to the same ones
trimmed-normal : (l : Option ℕ) (bs : Bits) → trimmed (normal_bits l bs) ≡ trimmed bs
trimmed-normal None bs = trimmed-trimmed bs
trimmed-normal (Some l) bs = go (ltb l (2 ^ 64))
  where
    go : (t : Bool) → trimmed (cond t (filled_up l (trimmed bs)) (trimmed bs)) ≡ trimmed bs
    go true = trimmed-filled l bs
    go false = trimmed-trimmed bs

-- the normal form is that of the trimmed bits
normal-trimmed : (l : Option ℕ) (bs cs : Bits) → trimmed bs ≡ trimmed cs → normal_bits l bs ≡ normal_bits l cs
normal-trimmed None bs cs e = e
normal-trimmed (Some l) bs cs e = ap (λ ts. cond (ltb l (2 ^ 64)) (filled_up l ts) ts) e

-- bits mean the same exactly where the trimmed ones are the same
alike_trimmed : (bs cs : Bits) → MeanTheSame bs cs → trimmed bs ≡ trimmed cs
alike_trimmed bs cs m = sym (trimmed-zeros bs m.here) ∙ ap trimmed m.same ∙ trimmed-zeros cs m.there

trimmed_alike : (bs cs : Bits) → trimmed bs ≡ trimmed cs → MeanTheSame bs cs
trimmed_alike bs cs e =
    let x = trimmed-split bs in
    let y = trimmed-split cs in
    let swap : replicate x.0 false ++ replicate y.0 false ≡ replicate y.0 false ++ replicate x.0 false =
    replicate-append-replicate x.0 y.0 false ∙ ap (λ (n : ℕ). replicate n false) (let c : x.0 + y.0 ≡ y.0 + x.0 = omega arith in c) ∙ sym (replicate-append-replicate y.0 x.0 false) in
    record {
      here = y.0;
      there = x.0;
      same = ap (λ ds. ds ++ replicate y.0 false) x.1 ∙ append_assoc (trimmed bs) (replicate x.0 false) (replicate y.0 false)
          ∙ ap₂ (λ ts zs. ts ++ zs) e swap ∙ sym (append_assoc (trimmed cs) (replicate y.0 false) (replicate x.0 false))
          ∙ sym (ap (λ ds. ds ++ replicate x.0 false) y.1);
    }

bits_of : (bs cs : Bits) → Value.bits bs ≡ Value.bits cs → bs ≡ cs
bits_of bs cs e = cc

-- normal forms are equal exactly where bits mean the same
pub told_apart : (size : Size) (mark : Bool) (bs cs : Bits) → normal (Schema.bit_string size mark true) (Value.bits bs) ≡ normal (Schema.bit_string size mark true) (Value.bits cs) ↔ MeanTheSame bs cs
unfolding normal
told_apart size mark bs cs = (
  λ e. trimmed_alike bs cs (sym (trimmed-normal size.least bs) ∙ ap trimmed (bits_of (normal_bits size.least bs) (normal_bits size.least cs) e) ∙ trimmed-normal size.least cs),
  λ m. ap Value.bits (normal-trimmed size.least bs cs (alike_trimmed bs cs m)),
)

-- the normal form means the same
pub mean_the_same : (size : Size) (mark : Bool) (bs ns : Bits) → normal (Schema.bit_string size mark true) (Value.bits bs) ≡ Value.bits ns → MeanTheSame bs ns
unfolding normal
mean_the_same size mark bs ns e =
    trimmed_alike bs ns (sym (trimmed-normal size.least bs) ∙ ap trimmed (bits_of (normal_bits size.least bs) ns e))

-- so many bits, where the trimmed ones are no more than c and the least count isn't either
fewest : (l : Option ℕ) (bs : Bits) (c : ℕ) → at_least l c ≡ true → c < 2 ^ 64 → length (trimmed bs) ≤ c → at_least l (length (normal_bits l bs)) ≡ true × (length (normal_bits l bs) ≤ c)
fewest None bs c h k t = (refl, t)
fewest (Some l) bs c h k t =
    let few : l ≤ c = leb-true l c h in
    let small : ltb l (2 ^ 64) ≡ true = lt-ltb l (2 ^ 64) (let i : l < 2 ^ 64 = omega arith in i) in
    let e : length (normal_bits (Some l) bs) ≡ length (trimmed bs) + (l - length (trimmed bs)) =
    ap (λ b. length (cond b (filled_up l (trimmed bs)) (trimmed bs))) small ∙ length-filled l (trimmed bs) in (
      le-leb l (length (normal_bits (Some l) bs)) (let i : l ≤ length (normal_bits (Some l) bs) = omega arith in i),
      let i : length (normal_bits (Some l) bs) ≤ c = omega arith in i,
    )

still_most : (u : Option ℕ) (n c : ℕ) → n ≤ c → at_most u c ≡ true → at_most u n ≡ true
still_most None n c h e = refl
still_most (Some u) n c h e = let l : c ≤ u = leb-true c u e in le-leb n u (let i : n ≤ u = omega arith in i)

-- the normal form of bits whose count the size allows is such, and has no more bits
pub normal_fewest : (size : Size) (bs cs : Bits) → MeanTheSame bs cs → allows size (length cs) ≡ true → IsFewest size (normal_bits size.least bs) cs
normal_fewest size bs cs m h =
    let ns = normal_bits size.least bs in
    let g : (at_most size.most (length cs) && ltb (length cs) (2 ^ 64)) ≡ true = and_right (at_least size.least (length cs)) (at_most size.most (length cs) && ltb (length cs) (2 ^ 64)) h in
    let small : length cs < 2 ^ 64 = ltb-true (length cs) (2 ^ 64) (and_right (at_most size.most (length cs)) (ltb (length cs) (2 ^ 64)) g) in
    let t : length (trimmed bs) ≡ length (trimmed cs) = ap length (alike_trimmed bs cs m) in
    let f = fewest size.least bs (length cs) (and_left (at_least size.least (length cs)) (at_most size.most (length cs) && ltb (length cs) (2 ^ 64)) h) small (let j : length (trimmed bs) ≤ length cs = omega (arith, trimmed-few cs) in j) in
    record {
      allowed = ap₂ (λ a b. a && b) f.0 (ap₂ (λ a b. a && b) (still_most size.most (length ns) (length cs) f.1 (and_left (at_most size.most (length cs)) (ltb (length cs) (2 ^ 64)) g))
          (lt-ltb (length ns) (2 ^ 64) (lt_of_le_of_lt f.1 small)));
      few = f.1;
    }

pub normal_allowed : (size : Size) (bs : Bits) → allows size (length bs) ≡ true → allows size (length (normal_bits size.least bs)) ≡ true
normal_allowed size bs h = (normal_fewest size bs bs (record { here = 0; there = 0; same = refl }) h).allowed

-- the normal form is the fewest bits that mean the same and whose count the size allows, where there are any
pub are_fewest : (size : Size) (mark : Bool) (bs ns cs : Bits) → normal (Schema.bit_string size mark true) (Value.bits bs) ≡ Value.bits ns → MeanTheSame bs cs → allows size (length cs) ≡ true → IsFewest size ns cs
unfolding normal
are_fewest size mark bs ns cs e m h = subst (λ (ds : Bits). IsFewest size ds cs) (bits_of (normal_bits size.least bs) ns e) (normal_fewest size bs cs m h)
