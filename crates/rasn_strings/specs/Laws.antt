-- The characters of each type can be held (X.680 41): those of ISO 646 in an octet, those of BMPString in 16 bits.
use Rattle.std.specs.Prelude.{ℕ, zero, suc, ◌+◌, ◌≤◌, ◌≡◌, refl, true, nat_lt}
use Rattle.std.proofs.Common.{arith}
use Rattle.std.proofs.lemmas.Bool.{lt-ltb}
use Rattle.rasn_types.specs.Alphabets.{bmp, from_to, greatest, ia5, interval_of}

-- each character of IA5String is one of ISO 646
pub ia5_ascii : nat_lt (greatest ia5) 128 ≡ true
unfolding interval_of
ia5_ascii = refl

greatest_from_to : (n f : ℕ) → greatest (from_to n (suc f)) ≤ f + n
greatest_from_to zero f = omega arith
greatest_from_to (suc n) f =
    let r : greatest (from_to n (suc (suc f))) ≤ suc f + n = greatest_from_to n (suc f) in omega arith

greatest_interval : (n : ℕ) → nat_lt (greatest (interval_of (suc n) 0)) (suc n) ≡ true
unfolding interval_of
greatest_interval n = let r = greatest_from_to n 0 in lt-ltb _ _ (omega arith)

-- each character of BMPString is one of 16 bits
pub bmp_held : nat_lt (greatest bmp) 65536 ≡ true
bmp_held = greatest_interval 65535
