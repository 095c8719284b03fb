use Rattle.std.proofs.Common.{◌≡◌, ◌∙◌, ◌-◌, ◌+◌, ◌*◌, ◌%◌, ◌^◌, ℕ, ap₂, bit_or, length, arith, refl}
use Rattle.rasn_types.specs.Bits.{to_bits}
use Rattle.rasn_types.proofs.Bits.{length-to_bits}
use Rattle.per_write.proofs.BitmapsWritten.{small_bitmap, word_after}
use Rattle.per_write.proofs.Writer.put_small_bitmap.Goals as goal

pub returns : goal.returns
returns g c =
    let bits = to_bits c.args.count c.args.word in
    let long : length bits ≡ c.args.count = length-to_bits c.args.count c.args.word in
    let less : c.from-front.result ≡ c.args.count - 1 = omega arith in
    small_bitmap c.args.self.now c.put_bits.new.self bits _ c.put_bits.result (omega (arith, long))
    (ap₂ (λ (n m : ℕ). to_bits (7 + n) (bit_or (c.from-front.result * 2 ^ c.args.count % 2 ^ 128) m)) c.from-2.ensures c.from.ensures
    ∙ word_after c.args.word c.args.count c.from-front.result _ c.requires.fits c.requires.few less refl) c.put_bits.ensures
