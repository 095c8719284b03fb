-- What is taken off the front of bits or octets has few items.
use Rattle.std.proofs.Common.{◌≡◌, ap, ◌∙◌, subst, ℕ, ◌+◌, ◌-◌, ◌*◌, true, List, [], length, arith, inl, inr, length-append}
use Rattle.rasn_types.specs.Bits.{Bits, unpack}
use Rattle.rasn_types.proofs.Bits.{length-unpack}
use Rattle.rasn_types.specs.Values.{Value}
use Rattle.rasn_schema.specs.Schemas.{Schema}
use Rattle.per_core.specs.Basic.{OpenOf, basic, fills, front}
use Rattle.per_core.specs.Spellings.{Settings, Spelling, Took}
use Rattle.per_core.specs.ItemCounts.{most_items}
use Rattle.per_core.proofs.ItemsWithin.{Few, few}
use Rattle.per_core.proofs.HeldIn.{HeldIn, open_held}

pub took_few : (a : Settings) (c : Schema) (v : Value) (s t : Bits) → Took (basic a c v) s t → Few (most_items (length s - length t)) c v
took_few a c v s t h =
    let l : length s ≡ length h.front + length t = ap length h.joins ∙ length-append h.front t in
    few a true c v _ h.front (length s - length t) (omega arith) h.spelled

pub fills_few : (a : Settings) (c : Schema) (v : Value) (os : List ℕ) → fills a c v os → Few (most_items (8 * length os)) c v
fills_few a c v os (inl x) =
    let l : length (unpack os) ≡ length x.front + length x.spare = ap length x.all ∙ length-append x.front x.spare in
    let m = length-unpack os in
    few a true c v 0 x.front (8 * length os) (omega arith) x.spelled
fills_few a c v os (inr x) = few a true c v 0 [] (8 * length os) (omega arith) x.0

pub front_few : (a : Settings) (c : Schema) (v : Value) (os rest : List ℕ) → front a c v os rest → Few (most_items (8 * (length os - length rest))) c v
front_few a c v os rest x =
    let l : length os ≡ length x.0 + length rest = ap length x.1 ∙ length-append x.0 rest in
    let e : length x.0 ≡ length os - length rest = omega arith in
    subst (λ (k : ℕ). Few (most_items (8 * k)) c v) e (fills_few a c v x.0 x.2)

-- a value in an open type, after something else
pub open_few : (a : Settings) (c : Schema) (v : Value) (f : Spelling) (s m t : Bits) → Took f s m → Took (OpenOf a (basic a c) v) m t → Few (most_items (length s - length t)) c v
open_few a c v f s m t b o =
    let k : length s ≡ length b.front + length m = ap length b.joins ∙ length-append b.front m in
    let l : length m ≡ length o.front + length t = ap length o.joins ∙ length-append o.front t in
    let x : HeldIn (length s - length t) (basic a c v) = open_held a (length s - length t) (basic a c v) _ o.front (omega arith) o.spelled in
    few a true c v x.at x.bits (length s - length t) x.fits x.spelled
