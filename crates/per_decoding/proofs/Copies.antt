-- Octets that bits fill, when they are copied.
use Rattle.std.proofs.Common.{◌≡◌, sym, ◌∙◌, ap, ℕ, ◌+◌, ◌*◌, ◌/◌, ◌%◌, take, List, length, arith}
use Rattle.std.proofs.lemmas.List.{take_all}
use Rattle.rasn_types.specs.Bits.{AreOctets, Bits, unpack}
use Rattle.rasn_types.specs.Packed.{packed}
use Rattle.rasn_types.proofs.Bits.{length-unpack}
use Rattle.rasn_types.proofs.Octets.{length-pack}
use Rattle.rasn_types.proofs.Packing.{unpack-packed}
use Rattle.per_decoding.specs.Sources.{AreOctetsIn}

-- whole octets that are copied are the bits that they were
pub copy_same : (bits : Bits) (os : List ℕ) (n : ℕ) → length bits ≡ 8 * n → os ≡ packed bits → unpack os ≡ bits
copy_same bits os n l e =
    let many : length os ≡ n = ap length e ∙ length-pack ((length bits + 7) / 8) bits ∙ omega (arith, l) in
    let whole : length bits ≡ length (unpack os) = omega (arith, l, many, length-unpack os) in
    sym (take_all (length bits) (unpack os) (omega (arith, whole))) ∙ ap (λ z. take (length bits) (unpack z)) e ∙ unpack-packed bits

pub octets_copied : (bits : Bits) (os : List ℕ) → length bits % 8 ≡ 0 → AreOctets os → os ≡ packed bits → AreOctetsIn bits os
octets_copied bits os whole h e = record { are = h; same = copy_same bits os (length bits / 8) (omega (arith, whole)) e }
