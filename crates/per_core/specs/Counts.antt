-- Constrained whole numbers, lengths, numbers, and open types as they are written (ITU-T X.691, 11.2 and 11.5 to 11.9).
use Rattle.std.specs.Prelude.{ℕ, zero, suc, ◌+◌, ◌-◌, ◌*◌, ◌/◌, ◌%◌, Bool, true, false, cond, if◌then◌else◌, not, ◌&&◌}
use Rattle.std.specs.Prelude.{nat_le, nat_lt, ◌==◌, List, [], ◌∷◌, ◌++◌, map, length, take, drop, replicate, Option}
use Rattle.std.specs.Prelude.{Some, None, ℤ, pos}
use Rattle.rasn_types.specs.Bits.{Bits, width, to_bits, pack, octets_of_natural, natural_bits, whole_bits}
use Rattle.rasn_types.specs.Variants.{Variant, aligned, unaligned}
use Rattle.rasn_constraints.specs.Bounds.{allows, holds, fits_i128, above, Bounds, Size, any_size}
use Rattle.per_core.specs.Writers.{Writer, just, refused, ◌▹◌, one_by_one, padding, written_if, complete}
use Rattle.per_core.specs.declared.items.Item.{Item}
use Rattle.per_core.specs.declared.items.Item.TheVariants.{Octet, Bit, Character}

-- X.691 11.5.7: by how many numbers there are, of which the aligned variant has one: in bits, in an octet, in two
-- octets, or in octets that are counted
abbrev pub by_range {ℓ} : {A : Type ℓ} → ℕ → (in_bits in_octet in_two counted : A) → A
by_range n b o t c = cond (nat_le n 255) b (cond (n == 256) o (cond (nat_le n 65536) t c))

-- X.691 11.5: a constrained whole number: the o-th of n numbers, counted from 0
unfoldable pub constrained_whole : Variant → ℕ → ℕ → Writer
unfolding width octets_of_natural natural_bits
constrained_whole unaligned n o = written_if (nat_lt o n) (just (to_bits (width n) o))
constrained_whole aligned n o = written_if (nat_lt o n) (by_range n (just (to_bits (width n) o))
    (padding aligned ▹ just (to_bits 8 o)) (padding aligned ▹ just (to_bits 16 o))
    (just (to_bits (width ((width n + 7) / 8)) (octets_of_natural o - 1)) ▹ padding aligned ▹ just (natural_bits o)))

-- a fragment of n items, unless it is empty
abbrev pub unless_zero : ℕ → List ℕ
unless_zero zero = []
unless_zero (suc n) = suc n ∷ []

-- X.691 11.9.3.8: how many items are in each fragment: 65536 as often as it fits, then 49152, 32768 or 16384 where
-- one fits, and then the rest below 16384, which is always there
abbrev pub fragment_sizes : ℕ → List ℕ
fragment_sizes n = replicate (n / 65536) 65536 ++ (unless_zero (n % 65536 / 16384 * 16384) ++ n % 16384 ∷ [])

-- X.691 11.9.3.6 to 11.9.3.8: the length determinant of a fragment
unfoldable pub determinant : ℕ → Bits
determinant m = if nat_lt m 128 then to_bits 8 m else if nat_lt m 16384 then true ∷ false
    ∷ to_bits 14 m else to_bits 8 (192 + m / 16384)

-- X.691 11.9.3.5 to 11.9.3.8: the items in fragments, each after padding and its determinant
abbrev pub in_fragments : Variant → List ℕ → List Writer → Writer
in_fragments a [] items = just []
in_fragments a (m ∷ ms) items = padding a ▹ just (determinant m) ▹ one_by_one (take m items)
    ▹ in_fragments a ms (drop m items)

-- what is counted: elements, octets, bits, or characters of some width
pub data ItemKind : Type 0 where
  list_items octet_items bit_items : ItemKind
  char_items : (width : ℕ) → ItemKind

-- X.691 16.9 to 16.11, 17.6 to 17.8, 20.6, 30.5.6, 30.5.7: whether items begin on an octet, after a bounded length
-- above 0
abbrev pub is_aligned : ItemKind → ℕ → ℕ → Bool
is_aligned list_items lb ub = false
is_aligned octet_items lb ub = not (lb == ub && nat_le ub 2)
is_aligned bit_items lb ub = not (lb == ub && nat_le ub 16)
is_aligned (char_items w) lb ub = if lb == ub then nat_lt 16 (ub * w) else nat_le 16 (ub * w)

-- padding, where a test passes
abbrev pub padding_if : Bool → Variant → Writer
padding_if true a = padding a
padding_if false a = just []

-- X.691 11.9.4.1: the bounds between which a count is written as a constrained whole number: both, where the upper one
-- is below 65536
abbrev pub constrained_between : Option ℕ → Option ℕ → Option (ℕ × ℕ)
constrained_between (Some lb) (Some ub) = if nat_lt ub 65536 then Some (lb, ub) else None
constrained_between least most = None

-- X.691 11.9.3.3, 11.9.4.1: items whose count is written as a constrained whole number where both bounds are there and
-- the upper one is below 65536, and else in fragment_sizes
abbrev pub counted_under : Variant → Option ℕ → Option ℕ → ItemKind → ℕ → List Writer → Writer
counted_under a (Some lb) (Some ub) kind n items = if nat_lt ub 65536 then
    constrained_whole a (ub - lb + 1) (n - lb) ▹ padding_if (nat_lt 0 n && is_aligned kind lb ub) a ▹ one_by_one items
    else in_fragments a (fragment_sizes n) items
counted_under a None most kind n items = in_fragments a (fragment_sizes n) items
counted_under a (Some lb) None kind n items = in_fragments a (fragment_sizes n) items

-- items, where the size allows their count
abbrev pub counted_in : Variant → Size → ItemKind → List Writer → Writer
counted_in a size kind items = written_if (allows size (length items))
    (counted_under a size.least size.most kind (length items) items)

-- X.691 13.1, 16.6, 17.3, 20.4, 30.4: an extensible constraint's bit, 0 and the form under the constraint, or 1 and the
-- form without; a constraint that isn't extensible has no bit
abbrev pub marked_form : Bool → Bool → Writer → Writer → Writer
marked_form false is_inside inside outside = inside
marked_form true true inside outside = just (false ∷ []) ▹ inside
marked_form true false inside outside = just (true ∷ []) ▹ outside

-- X.691 16, 17, 20, 30.5: items under a size constraint
abbrev pub counted : Variant → Size → Bool → ItemKind → List Writer → Writer
counted a size mark kind items =
    marked_form mark (allows size (length items)) (counted_in a size kind items) (counted_in a any_size kind items)

-- octets, of eight bits each
abbrev pub octet_writers : List ℕ → List Writer
octet_writers os = map (λ o. written_if (nat_lt o 256) (just (to_bits 8 o))) os

-- bits, of one each
abbrev pub bit_writers : Bits → List Writer
bit_writers bs = map (λ b. just (b ∷ [])) bs

-- X.691 11.9.3.5: octets after an unconstrained length
abbrev pub unconstrained_octets : Variant → List ℕ → Writer
unconstrained_octets a os = counted a any_size false octet_items (octet_writers os)

-- whole octets, given as bits, after an unconstrained length
unfoldable pub counted_octets : Variant → Bits → Writer
unfolding width octets_of_natural natural_bits constrained_whole determinant
counted_octets a bits = unconstrained_octets a (pack (length bits / 8) bits)

-- X.691 11.5, 11.7, 11.8, 13.2: a number as its bounds say; an upper bound alone leaves it unconstrained. Under bounds
-- it fits i128 (this project's choice)
unfoldable pub number_under : Variant → Option ℤ → Option ℤ → ℤ → Writer
unfolding natural_bits whole_bits counted_octets constrained_whole
number_under a (Some l) (Some u) v = written_if (fits_i128 v) (constrained_whole a (above l u + 1) (above l v))
number_under a (Some l) None v = written_if (fits_i128 v) (counted_octets a (natural_bits (above l v)))
number_under a None (Some u) v = written_if (fits_i128 v) (counted_octets a (whole_bits v))
number_under a None None v = counted_octets a (whole_bits v)

-- X.691 13: a number under a value constraint
unfoldable pub number_form : Variant → Bounds → Bool → ℤ → Writer
unfolding number_under whole_bits counted_octets
number_form a bounds mark v =
    marked_form mark (holds bounds v) (written_if (holds bounds v) (number_under a bounds.low bounds.high v))
    (counted_octets a (whole_bits v))

-- X.691 11.2: an open type: the complete encoding of its contents, which begins at position 0, after an unconstrained
-- length in octets
unfoldable pub open_bits : Variant → Option Bits → Writer
unfolding determinant constrained_whole
open_bits a None = refused
open_bits a (Some bits) = unconstrained_octets a (complete bits)

-- X.691 11.6: a normally small number: a bit 0 and six bits up to 63, else a bit 1 and a number with lower bound 0
unfoldable pub small : Variant → ℕ → Writer
unfolding number_under
small a i = if nat_lt i 64 then just (false ∷ to_bits 6 i) else just (true ∷ [])
    ▹ number_under a (Some (pos 0)) None (pos i)

-- what is counted
abbrev pub counted_of : Item → ItemKind
counted_of Octet = octet_items
counted_of Bit = bit_items
counted_of (Character w) = char_items w

-- how many bits an item has
abbrev pub bits_of : Item → ℕ
bits_of Octet = 8
bits_of Bit = 1
bits_of (Character w) = w
