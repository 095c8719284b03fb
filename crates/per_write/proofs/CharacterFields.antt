-- Characters in fields of a number's bits.
use Rattle.std.specs.Prelude.{slice_get, slice_range}
use Rattle.std.proofs.Common.{◌≡◌, refl, sym, ap, ◌∙◌, subst, ℕ, ◌+◌, ◌-◌, ◌*◌, ◌%◌, ◌^◌, ◌<◌, ◌≤◌, min, List, [], ◌∷◌, ◌++◌, map, take, drop, arith, Option, Some, None, bit_or}
use Rattle.std.proofs.lemmas.List.{drop-map, take-map}
use Rattle.std.proofs.lemmas.Nat.{mul-le}
use Rattle.std.proofs.Math.Nat.{add-mul}
use Rattle.rasn_types.specs.Alphabets.{Alphabet, char_code, char_width}
use Rattle.rasn_types.specs.Bits.{Bits, to_bits}
use Rattle.per_bits.specs.Octets.{low_bits_of}
use Rattle.per_core.specs.Canon.{char_writers, coded}
use Rattle.per_core.specs.Writers.{Writer, after, go_on, join, just, one_by_one, ◌▹◌}
use Rattle.per_write.specs.Characters.{AreOwnBetween, IsBitField}
use Rattle.per_write.specs.Unwritten.{Remains}
use Rattle.per_write.specs.WriterState.{WriterState, StateAppends}
use Rattle.per_write.proofs.Fields.{field_more, one_more}
use Rattle.per_write.proofs.OpenTypes.{IsStill, still_then}
use Rattle.per_write.proofs.Steps.{next_between}
use Rattle.per_write.proofs.Writing.{remains_after}

-- ---- codes are written the same wherever they begin

code_still : (w : ℕ) (o : Option ℕ) → IsStill (coded w o)
code_still w None p q = refl
code_still w (Some i) p q = refl

codes_still : (w : ℕ) (code : ℕ → Option ℕ) (cs : List ℕ) → IsStill (one_by_one (map (λ (c : ℕ). coded w (code c)) cs))
codes_still w code [] p q = refl
codes_still w code (c ∷ cs) p q = still_then (coded w (code c)) (one_by_one (map (λ (d : ℕ). coded w (code d)) cs)) (code_still w (code c)) (codes_still w code cs) p q

nothing_before : (o : Option Bits) → o ≡ join [] o
nothing_before None = refl
nothing_before (Some b) = refl

-- ---- a field of no characters, and one with a character more

pub field_first : (a : Alphabet) (cs : List ℕ) (i number : ℕ) → IsBitField a cs i i number
unfolding char_writers
field_first a cs i number last h p =
    let w = char_width a.variant a.characters in
    let f = λ (d : ℕ). coded w (char_code a.variant a.characters d) in
    let these = slice_range cs i last in
    let mapped : slice_range (map f cs) i last ≡ map f these = ap (take (last - i)) (drop-map f i cs) ∙ take-map f (last - i) (drop i cs) in
    let still : (q : ℕ) → one_by_one (slice_range (map f cs) i last) p ≡ one_by_one (slice_range (map f cs) i last) q =
    subst (λ (ws : List Writer). (q : ℕ) → one_by_one ws p ≡ one_by_one ws q) (sym mapped) (λ q. codes_still w (char_code a.variant a.characters) these p q) in
    let none : (i - i) * w ≡ 0 = ap (λ (n : ℕ). n * w) (let d : i - i ≡ 0 = omega arith in d) ∙ omega arith in
    still (after p []) ∙ nothing_before (one_by_one (slice_range (map f cs) i last) (after p []))
    ∙ ap (λ (n : ℕ). (just (to_bits n number) ▹ one_by_one (slice_range (map f cs) i last)) p) (sym none)

field_further : (a : Alphabet) (cs : List ℕ) (start i c code number new : ℕ) → slice_get cs i ≡ Some c → char_code a.variant a.characters c ≡ Some code →
    to_bits ((i + 1 - start) * char_width a.variant a.characters) new ≡ to_bits ((i - start) * char_width a.variant a.characters) number ++ to_bits (char_width a.variant a.characters) code →
    IsBitField a cs start i number → IsBitField a cs start (i + 1) new
unfolding char_writers
field_further a cs start i c code number new g k e r last h p =
    let w = char_width a.variant a.characters in
    let f = λ (d : ℕ). coded w (char_code a.variant a.characters d) in
    let bits = to_bits ((i - start) * w) number in
    let next = one_by_one (slice_range (map f cs) (i + 1) last) in
    r last (omega arith) p
    ∙ ap (λ (ws : List Writer). (just bits ▹ one_by_one ws) p) (next_between f cs i last c (omega arith) g)
    ∙ sym (one_more bits (to_bits w code) (f c) next (λ q. ap (λ (o : Option ℕ). coded w o q) k) p)
    ∙ ap (λ (bs : Bits). (just bs ▹ next) p) (sym e)

-- the number of a field, which fits its bits
pub record Field (a : Alphabet) (cs : List ℕ) (start end number : ℕ) : Type 0 where
  pub below : number < 2 ^ ((end - start) * char_width a.variant a.characters)
  pub written : IsBitField a cs start end number

pub field_next : (a : Alphabet) (cs : List ℕ) (start i end c code number n width : ℕ) → width ≡ char_width a.variant a.characters → start ≤ i → i < end →
    (end - start) * char_width a.variant a.characters ≤ 56 → slice_get cs i ≡ Some c → char_code a.variant a.characters c ≡ Some code → code < 2 ^ char_width a.variant a.characters → n ≡ code →
    Field a cs start i number → Field a cs start (i + 1) (bit_or (number * 2 ^ width % 2 ^ 64) n)
field_next a cs start i end c code number n width e h l few g k s d r =
    let w = char_width a.variant a.characters in
    let new = bit_or (number * 2 ^ width % 2 ^ 64) n in
    let further : (i + 1 - start) * w ≡ (i - start) * w + w = ap (λ (m : ℕ). m * w) (let o : i + 1 - start ≡ (i - start) + 1 = omega arith in o) ∙ add-mul (i - start) 1 w ∙ omega arith in
    let within : (i + 1 - start) * w ≤ (end - start) * w = mul-le (i + 1 - start) w (end - start) w (omega arith) (omega arith) in
    let more = field_more number ((i - start) * w) code w new n r.below s (omega arith) d (ap (λ (m : ℕ). bit_or (number * 2 ^ m % 2 ^ 64) n) e) in
    record {
      below = subst (λ (m : ℕ). new < 2 ^ m) (sym further) more.0;
      written = field_further a cs start i c code number new g k (ap (λ (m : ℕ). to_bits m new) further ∙ more.1) r.written;
    }

-- ---- as many characters as one field holds

pub next_within : (at end most count : ℕ) → at < end → count ≡ min most (end - at) → at + count ≤ end
next_within at end most count h e = omega (arith, e)

-- ---- field by field

-- a field is written of what remains
pub remains_field : (a : Alphabet) (cs : List ℕ) (at next end number bits n : ℕ) (all : Writer) (x y z : WriterState) → next ≤ end → bits ≡ (next - at) * char_width a.variant a.characters → n ≡ number → IsBitField a cs at next number →
    Remains x all y (one_by_one (slice_range (char_writers a.variant a.characters cs) at end)) → StateAppends y (just (to_bits bits n)) z →
    Remains x all z (one_by_one (slice_range (char_writers a.variant a.characters cs) next end))
remains_field a cs at next end number bits n all x y z h e d f r w =
    let ws = char_writers a.variant a.characters cs in
    remains_after x y z all (one_by_one (slice_range ws at end)) (just (to_bits bits n)) (one_by_one (slice_range ws next end)) r
    (λ p. f end h p ∙ sym (ap (λ (m : ℕ). (just (to_bits m n) ▹ one_by_one (slice_range ws next end)) p) e ∙ ap (λ (m : ℕ). (just (to_bits ((next - at) * char_width a.variant a.characters) m) ▹ one_by_one (slice_range ws next end)) p) d)) w

-- ---- characters that are each written as their own values

each_own : (w : ℕ) (code : ℕ → Option ℕ) (cs : List ℕ) (p : ℕ) → map code cs ≡ map Some cs → one_by_one (map (λ (c : ℕ). coded w (code c)) cs) p ≡ Some (low_bits_of w cs)
each_own w code [] p e = refl
each_own w code (c ∷ cs) p e =
    let first : code c ≡ Some c = cc in
    let others : map code cs ≡ map Some cs = cc in
    let rest = one_by_one (map (λ (d : ℕ). coded w (code d)) cs) in
    ap (λ (o : Option ℕ). go_on (coded w o p) rest p) first ∙ ap (join (to_bits w c)) (each_own w code cs (after p (to_bits w c)) others)

pub own_written : (a : Alphabet) (cs octets : List ℕ) (start end width : ℕ) → width ≡ char_width a.variant a.characters → AreOwnBetween a cs start end octets →
    (p : ℕ) → just (low_bits_of width octets) p ≡ one_by_one (slice_range (char_writers a.variant a.characters cs) start end) p
unfolding char_writers
own_written a cs octets start end width e h p =
    let w = char_width a.variant a.characters in
    let f = λ (d : ℕ). coded w (char_code a.variant a.characters d) in
    let mapped : slice_range (map f cs) start end ≡ map f octets = ap (take (end - start)) (drop-map f start cs) ∙ take-map f (end - start) (drop start cs) ∙ ap (map f) (sym h.these) in
    ap (λ (n : ℕ). just (low_bits_of n octets) p) e ∙ sym (ap (λ (ws : List Writer). one_by_one ws p) mapped ∙ each_own w (char_code a.variant a.characters) octets p h.own.codes)
