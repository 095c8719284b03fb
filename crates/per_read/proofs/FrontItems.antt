-- Octets and bits that are taken from the front.
use Rattle.std.proofs.Common.{◌≡◌, ◌<◌, refl, sym, ap, ◌∙◌, ℕ, zero, suc, ◌*◌, Bool, false, [], ◌∷◌, ◌++◌, length, take, drop, replicate, length-take, length-drop, length-append, arith}
use Rattle.std.proofs.lemmas.List.{take-append-drop, take-append-le}
use Rattle.rasn_types.specs.Bits.{Bits, number_of, pack}
use Rattle.per_core.specs.Basic.{OneByOne, bit, octet}
use Rattle.per_core.specs.Spellings.{Spelling, Took, bit_offset, NoneIn}
use Rattle.per_core.specs.Writers.{after}
use Rattle.per_read.specs.Takes.{Front}
use Rattle.per_read.proofs.Fronts.{front_took}
use Rattle.per_read.specs.TakenPositions.{LastTaken}

-- one that isn't there
pub no_front_in : {n : ℕ} {s : Bits} → length s < n → NoneIn (Front n) s
no_front_in {n} {s} h bits t b = let r = front_took b in omega (arith, r.0, ap length r.1, length-append bits t)

-- whole octets, one after another
octets_in_row : (n : ℕ) (bits : Bits) → length bits ≡ 8 * n → (p : ℕ) → OneByOne octet (pack n bits) p bits
octets_in_row zero [] l p = refl
octets_in_row zero (b ∷ bits) l p = absurd (omega arith)
octets_in_row (suc n) bits l p = record {
  front = take 8 bits;
  rest = drop 8 bits;
  is_front = record {
    wide = length-take 8 bits ∙ omega arith;
    means = ap number_of (sym (take-append-le 8 bits (replicate 8 false) (omega arith)));
  };
  is_rest = octets_in_row n (drop 8 bits) (length-drop 8 bits ∙ omega arith) (after p (take 8 bits));
  joins = sym (take-append-drop 8 bits);
}

pub octets_took : (n : ℕ) (bits : Bits) {s t : Bits} → Took (Front (8 * n) bits) s t → Took (OneByOne octet (pack n bits)) s t
octets_took n bits {s} {t} a = let r = front_took a in record { front = bits; joins = r.1; spelled = octets_in_row n bits r.0 (bit_offset s) }

-- bits, one after another
bits_in_row : (bits : Bits) (p : ℕ) → OneByOne bit bits p bits
bits_in_row [] p = refl
bits_in_row (b ∷ bits) p = record { front = b ∷ []; rest = bits; is_front = refl; is_rest = bits_in_row bits (after p (b ∷ [])); joins = refl }

pub bits_took : (n : ℕ) (bits : Bits) {s t : Bits} → Took (Front n bits) s t → Took (OneByOne bit bits) s t
bits_took n bits {s} {t} a = let r = front_took a in record { front = bits; joins = r.1; spelled = bits_in_row bits (bit_offset s) }

-- a front after something else is what was taken last
pub last_front : {f : Spelling} {n : ℕ} {bits s m t : Bits} → Took f s m → Took (Front n bits) m t → LastTaken n bits s t
last_front a b = let r = front_took b in record { before = a.front; joins = a.joins ∙ ap (λ z. a.front ++ z) r.1; wide = r.0 }

-- and after one more bit
pub last_after : {n : ℕ} {bits s m t : Bits} (b : Bool) → s ≡ b ∷ m → LastTaken n bits m t → LastTaken n bits s t
last_after b e h = record { before = b ∷ h.before; joins = e ∙ ap (λ z. b ∷ z) h.joins; wide = h.wide }
