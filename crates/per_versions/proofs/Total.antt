-- Writers that write from every position.
use Rattle.std.proofs.Common.{◌≡◌, refl, sym, ap, ◌∙◌, subst, ℕ, zero, suc, ◌+◌, ◌-◌, ◌*◌, ◌/◌, ◌^◌, ◌<◌, ◌≤◌, Bool, true, false, cond, ◌&&◌, leb, ltb, eqb, List, [], ◌∷◌, ◌++◌, map, length, take, drop, replicate, Option, Some, None, ℤ, pos, arith, inl, inr, lt-ltb, leb-true, ltb-true}
use Rattle.rasn_types.specs.Alphabets.{char_code, char_width, greatest, index_of, keep_own}
use Rattle.rasn_types.specs.Bits.{AreOctets, Bits, number_of, pack, to_bits, unpack, width, natural_bits}
use Rattle.rasn_types.specs.Bits.{octets_of_natural, octets_of_whole, unsigned, whole_bits}
use Rattle.rasn_types.specs.Variants.{Variant, aligned, unaligned}
use Rattle.rasn_types.proofs.Bits.{length-to_bits, length-unpack, number_below, width_least}
use Rattle.rasn_types.proofs.Octets.{length-pack, length-whole_bits, octets-pack, octets_of_signed}
use Rattle.rasn_constraints.specs.Bounds.{allows, above, any_size, at_least, at_most, Size}
use Rattle.per_core.specs.Basic.{Char, IsSemiConstrainedWhole, IsUnconstrainedWhole, Counted, number_spelling, octet, Small, String}
use Rattle.per_core.specs.Canon.{char_writers, coded}
use Rattle.per_core.specs.Counts.{bit_items, bit_writers, char_items, constrained_whole, counted, counted_in, counted_octets, counted_under, ItemKind, determinant, fragment_sizes, in_fragments, is_aligned, marked_form, number_under, octet_items, octet_writers, padding_if, small, unconstrained_octets}
use Rattle.per_core.specs.Spellings.{Settings, Spelling}
use Rattle.per_core.specs.Writers.{after, go_on, join, just, one_by_one, padding, written_if, Writer, ◌▹◌}
use Rattle.per_core.proofs.Counting.{length-map'}
use Rattle.per_core.proofs.LengthForms.{and_left, and_right}
use Rattle.per_core.specs.ItemCounts.{Each}
use Rattle.per_versions.proofs.Spelled.{lengthy_spelled, Somewhere}
use Rattle.rasn_schema.specs.Normal.{normal_bits}
use Rattle.per_laws.proofs.Named.{normal_allowed}
use Rattle.per_laws.proofs.Valued.{bits_countable}

pub record Total (w : Writer) : Type 0 where
  pub at : (p : ℕ) → (b : Bits) × (w p ≡ Some b)

pub just_total : (b : Bits) → Total (just b)
just_total b = record { at = λ p. (b, refl) }

pub then_total : {f g : Writer} → Total f → Total g → Total (f ▹ g)
then_total {f} {g} h k = record { at = λ p. let x = h.at p in let y = k.at (after p x.0) in (append x.0 y.0, ap (λ o. go_on o g p) x.1 ∙ ap (join x.0) y.1) }
  where
    append : Bits → Bits → Bits
    append b c = b ++ c

pub if_total : {w : Writer} {t : Bool} → t ≡ true → Total w → Total (written_if t w)
if_total {w} e h = subst (λ t. Total (written_if t w)) (sym e) h

pub cond_total : {f g : Writer} (t : Bool) → Total f → Total g → Total (cond t f g)
cond_total true h k = h
cond_total false h k = k

pub padding_total : (a : Variant) → Total (padding a)
padding_total a = record { at = λ p. (replicate _ false, refl) }

padding_if_total : (t : Bool) (a : Variant) → Total (padding_if t a)
padding_if_total true a = padding_total a
padding_if_total false a = just_total []

-- numbers
pub whole_number_total : (a : Variant) (n o : ℕ) → o < n → Total (constrained_whole a n o)
unfolding constrained_whole
whole_number_total unaligned n o h = if_total (lt-ltb o n h) (just_total (to_bits (width n) o))
whole_number_total aligned n o h = if_total (lt-ltb o n h) (cond_total (leb n 255) (just_total _) (cond_total (eqb n 256) (then_total (padding_total aligned) (just_total _))
    (cond_total (leb n 65536) (then_total (padding_total aligned) (just_total _)) (then_total (just_total _) (then_total (padding_total aligned) (just_total _))))))

-- items
one_total : (ws : List Writer) → Each Total ws → Total (one_by_one ws)
one_total [] h = just_total []
one_total (w ∷ ws) h = then_total h.0 (one_total ws h.1)

each_take : (n : ℕ) (ws : List Writer) → Each Total ws → Each Total (take n ws)
each_take zero ws h = tt
each_take (suc n) [] h = tt
each_take (suc n) (w ∷ ws) h = (h.0, each_take n ws h.1)

each_drop : (n : ℕ) (ws : List Writer) → Each Total ws → Each Total (drop n ws)
each_drop zero ws h = h
each_drop (suc n) [] h = tt
each_drop (suc n) (w ∷ ws) h = each_drop n ws h.1

fragments_total : (a : Variant) (ms : List ℕ) (ws : List Writer) → Each Total ws → Total (in_fragments a ms ws)
fragments_total a [] ws h = just_total []
fragments_total a (m ∷ ms) ws h = then_total (padding_total a) (then_total (just_total (determinant m)) (then_total (one_total (take m ws) (each_take m ws h)) (fragments_total a ms (drop m ws) (each_drop m ws h))))

under_total : (a : Variant) (size : Size) (kind : ItemKind) (ws : List Writer) → allows size (length ws) ≡ true → Each Total ws → Total (counted_under a size.least size.most kind (length ws) ws)
under_total a size kind ws e h = go size.least size.most (and_left (at_least size.least n) _ e) (and_left (at_most size.most n) (ltb n (2 ^ 64)) (and_right (at_least size.least n) _ e))
  where
    n : ℕ
    n = length ws

    go : (l u : Option ℕ) → at_least l n ≡ true → at_most u n ≡ true → Total (counted_under a l u kind n ws)
    go None u f g = fragments_total a (fragment_sizes n) ws h
    go (Some lb) None f g = fragments_total a (fragment_sizes n) ws h
    go (Some lb) (Some ub) f g =
        let i : lb ≤ n = leb-true lb n f in
        let j : n ≤ ub = leb-true n ub g in
        cond_total (ltb ub 65536) (then_total (whole_number_total a (ub - lb + 1) (n - lb) (omega arith)) (then_total (padding_if_total (ltb 0 n && is_aligned kind lb ub) a) (one_total ws h)))
        (fragments_total a (fragment_sizes n) ws h)

-- a count that a size allows, any count allows; after an extension bit any may stand
any_allowed : (size : Size) (n : ℕ) → allows size n ≡ true → allows any_size n ≡ true
any_allowed size n e = and_right (at_most size.most n) (ltb n (2 ^ 64)) (and_right (at_least size.least n) (at_most size.most n && ltb n (2 ^ 64)) e)

abbrev pub IsCounted : Size → Bool → ℕ → Type 0
IsCounted size false n = allows size n ≡ true
IsCounted size true n = allows any_size n ≡ true

pub is_counted : {X : Type 0} (a : Settings) (size : Size) (mark : Bool) (kind : ItemKind) (item : X → Spelling) (xs : List X) (p : ℕ) (b : Bits) → Counted a size mark kind item xs p b → IsCounted size mark (length xs)
is_counted a size false kind item xs p b x = x.allowed
is_counted a size true kind item xs p b (inl x) = any_allowed size (length xs) x.is_rest.allowed
is_counted a size true kind item xs p b (inr x) = x.is_rest.allowed

pub counted_total : (a : Variant) (size : Size) (mark : Bool) (kind : ItemKind) (ws : List Writer) → IsCounted size mark (length ws) → Each Total ws → Total (counted a size mark kind ws)
counted_total a size false kind ws e h = if_total e (under_total a size kind ws e h)
counted_total a size true kind ws e h = go (allows size (length ws)) refl
  where
    go : (t : Bool) → allows size (length ws) ≡ t → Total (marked_form true t (counted_in a size kind ws) (counted_in a any_size kind ws))
    go true f = then_total (just_total (false ∷ [])) (if_total f (under_total a size kind ws f h))
    go false f = then_total (just_total (true ∷ [])) (if_total e (under_total a any_size kind ws e h))

pub each_mapped : {X : Type 0} (f : X → Writer) (xs : List X) → Each (λ x. Total (f x)) xs → Each Total (map f xs)
each_mapped f [] h = tt
each_mapped f (x ∷ xs) h = (h.0, each_mapped f xs h.1)

pub each_of : {X : Type 0} (P Q : X → Type 0) → ((x : X) → P x → Q x) → (xs : List X) → Each P xs → Each Q xs
each_of P Q f [] h = tt
each_of P Q f (x ∷ xs) h = (f x h.0, each_of P Q f xs h.1)

-- items that are written one by one
pub items_total : {X : Type 0} (a : Variant) (size : Size) (mark : Bool) (kind : ItemKind) (f : X → Writer) (xs : List X) → IsCounted size mark (length xs) → Each (λ x. Total (f x)) xs → Total (counted a size mark kind (map f xs))
items_total a size mark kind f xs e h = counted_total a size mark kind (map f xs) (subst (IsCounted size mark) (sym (length-map' f xs)) e) (each_mapped f xs h)

-- octets
octet_below : (o : ℕ) → Somewhere (octet o) → o < 256
octet_below o x =
    let l : length x.bits ≡ 8 = x.spelled.wide in
    let m : number_of x.bits ≡ o = x.spelled.means in
    let b : number_of x.bits < 2 ^ 8 = subst (λ k. number_of x.bits < 2 ^ k) l (number_below x.bits) in omega arith

octet_total : (o : ℕ) → o < 256 → Total (written_if (ltb o 256) (just (to_bits 8 o)))
octet_total o h = if_total (lt-ltb o 256 h) (just_total (to_bits 8 o))

pub octet_string_total : (a : Settings) (c : Variant) (size : Size) (mark : Bool) (os : List ℕ) (p : ℕ) (b : Bits) → Counted a size mark octet_items octet os p b → Total (counted c size mark octet_items (octet_writers os))
octet_string_total a c size mark os p b x =
    items_total c size mark octet_items (λ o. written_if (ltb o 256) (just (to_bits 8 o))) os (is_counted a size mark octet_items octet os p b x)
    (each_of (λ o. Somewhere (octet o)) _ (λ o y. octet_total o (octet_below o y)) os (lengthy_spelled a octet size mark octet_items os p b x))

each_octet : (os : List ℕ) → AreOctets os → Each (λ o. o < 256) os
each_octet [] h = tt
each_octet (o ∷ os) h = (h.0, each_octet os h.1)

pub few_octets_total : (a : Variant) (os : List ℕ) → AreOctets os → allows any_size (length os) ≡ true → Total (unconstrained_octets a os)
few_octets_total a os h e = items_total a any_size false octet_items (λ o. written_if (ltb o 256) (just (to_bits 8 o))) os e (each_of (λ o. o < 256) _ octet_total os (each_octet os h))

-- bits
-- bits in normal form are as many as may be written
pub normal_counted : (size : Size) (mark : Bool) (bs : Bits) → IsCounted size mark (length bs) → IsCounted size mark (length (normal_bits size.least bs))
normal_counted size false bs h = normal_allowed size bs h
normal_counted size true bs h = bits_countable size.least bs h

pub bit_string_total : (a : Variant) (size : Size) (mark : Bool) (bs : Bits) → IsCounted size mark (length bs) → Total (counted a size mark bit_items (bit_writers bs))
bit_string_total a size mark bs e = items_total a size mark bit_items (λ b. just (b ∷ [])) bs e (all bs)
  where
    all : (bs : Bits) → Each (λ b. Total (just (b ∷ []))) bs
    all [] = tt
    all (b ∷ bs) = (just_total (b ∷ []), all bs)

-- numbers in their fewest octets
few : (n : ℕ) → n < 2 ^ 64 → allows any_size n ≡ true
few n h = lt-ltb n (2 ^ 64) h

fewer : (m n : ℕ) → m ≤ n → allows any_size n ≡ true → allows any_size m ≡ true
fewer m n h e = let l : n < 2 ^ 64 = ltb-true n (2 ^ 64) e in few m (below m n h l)
  where
    below : (m n : ℕ) → m ≤ n → n < 2 ^ 64 → m < 2 ^ 64
    below m n h l = omega arith

bits_total : (a : Variant) (b : Bits) → allows any_size (length b / 8) ≡ true → Total (counted_octets a b)
unfolding counted_octets
bits_total a b e = few_octets_total a (pack (length b / 8) b) (octets-pack (length b / 8) b) (subst (λ n. allows any_size n ≡ true) (sym (length-pack (length b / 8) b)) e)

pub whole_total : (a : Settings) (c : Variant) (z : ℤ) (p : ℕ) (b : Bits) → IsUnconstrainedWhole a z p b → Total (counted_octets c (whole_bits z))
whole_total a c z p b x =
    let l : length (whole_bits z) / 8 ≡ octets_of_whole z = omega (arith, length-whole_bits z) in
    let m : octets_of_whole z ≤ length x.octets = subst (λ y. octets_of_whole y ≤ length x.octets) x.means (octets_of_signed x.octets x.some) in
    bits_total c (whole_bits z) (fewer (length (whole_bits z) / 8) (length x.octets) (omega arith) x.spelled.allowed)

octets_of_unsigned : (os : List ℕ) → 0 < length os → octets_of_natural (unsigned os) ≤ length os
unfolding octets_of_natural
octets_of_unsigned os h =
    let l : length (unpack os) ≡ 8 * length os = length-unpack os in
    let b : unsigned os < 2 ^ (8 * length os) = subst (λ k. unsigned os < 2 ^ k) l (number_below (unpack os)) in
    let w : width (unsigned os + 1) ≤ 8 * length os = width_least (unsigned os + 1) (8 * length os) (omega arith) in omega arith

natural_octets : (n : ℕ) → length (natural_bits n) / 8 ≡ octets_of_natural n
unfolding natural_bits
natural_octets n = omega (arith, length-to_bits (8 * octets_of_natural n) n)

natural_total : (a : Settings) (c : Variant) (n p : ℕ) (b : Bits) → IsSemiConstrainedWhole a n p b → Total (counted_octets c (natural_bits n))
natural_total a c n p b x =
    let m : octets_of_natural n ≤ length x.octets = subst (λ k. octets_of_natural k ≤ length x.octets) x.means (octets_of_unsigned x.octets x.some) in
    let l = natural_octets n in
    bits_total c (natural_bits n) (fewer (length (natural_bits n) / 8) (length x.octets) (omega arith) x.spelled.allowed)

-- a number that some lower bound is not far below
near_octets : (n k : ℕ) → n < 2 ^ k → octets_of_natural n ≤ k + 1
unfolding octets_of_natural
near_octets n k h = let w : width (n + 1) ≤ k = width_least (n + 1) k (omega arith) in omega arith

pub near_total : (c : Variant) (n : ℕ) → n < 2 ^ 129 → Total (counted_octets c (natural_bits n))
near_total c n h =
    let l = natural_octets n in
    let m = near_octets n 129 h in
    bits_total c (natural_bits n) (few (length (natural_bits n) / 8) (small_enough (length (natural_bits n) / 8) (omega arith)))
  where
    small_enough : (m : ℕ) → m ≤ 130 → m < 2 ^ 64
    small_enough m h = omega arith

pub few_bits_total : (c : Variant) (b : Bits) → length b / 8 ≤ 130 → Total (counted_octets c b)
few_bits_total c b h = bits_total c b (few (length b / 8) (small_enough (length b / 8) h))
  where
    small_enough : (m : ℕ) → m ≤ 130 → m < 2 ^ 64
    small_enough m h = omega arith

-- by bounds
pub spelled_total : (a : Settings) (c : Variant) (l u : Option ℤ) (z : ℤ) (p : ℕ) (b : Bits) → number_spelling a l u z p b → Total (number_under c l u z)
unfolding number_under
spelled_total a c None None z p b x = whole_total a c z p b x
spelled_total a c None (Some u) z p b x = if_total x.0 (whole_total a c z p b x.1)
spelled_total a c (Some l) None z p b x = if_total x.0 (natural_total a c (above l z) p b x.1)
spelled_total a c (Some l) (Some u) z p b x = if_total x.0 (whole_number_total c (above l u + 1) (above l z) x.1.below)

pub small_total : (a : Settings) (c : Variant) (i p : ℕ) (b : Bits) → Small a i p b → Total (small c i)
unfolding small
small_total a c i p b x = go x
  where
    short : i < 64 → Total (cond (ltb i 64) (just (false ∷ to_bits 6 i)) (just (true ∷ []) ▹ number_under c (Some (pos 0)) None (pos i)))
    short h = subst (λ t. Total (cond t (just (false ∷ to_bits 6 i)) (just (true ∷ []) ▹ number_under c (Some (pos 0)) None (pos i)))) (sym (lt-ltb i 64 h)) (just_total (false ∷ to_bits 6 i))

    go : Small a i p b → Total (cond (ltb i 64) (just (false ∷ to_bits 6 i)) (just (true ∷ []) ▹ number_under c (Some (pos 0)) None (pos i)))
    go (inl y) =
        let w = y.is_rest.wide in
        let m : number_of y.rest ≡ i = y.is_rest.means in
        let h : number_of y.rest < 2 ^ 6 = subst (λ k. number_of y.rest < 2 ^ k) w (number_below y.rest) in short (omega arith)
    go (inr y) = cond_total (ltb i 64) (just_total (false ∷ to_bits 6 i)) (then_total (just_total (true ∷ [])) (spelled_total a c (Some (pos 0)) None (pos i) _ y.rest y.is_rest.spelled))

-- characters
pub characters_total : (a : Settings) (c : Variant) (alphabet : List ℕ) (size : Size) (mark : Bool) (cs : List ℕ) (p : ℕ) (b : Bits) → String a alphabet size mark cs p b
    → Total (counted c size mark (char_items (char_width c alphabet)) (char_writers c alphabet cs))
unfolding char_writers char_code
characters_total a c alphabet size mark cs p b x =
    items_total c size mark (char_items (char_width c alphabet)) (λ k. coded (char_width c alphabet) (char_code c alphabet k)) cs
    (is_counted a size mark (char_items (char_width a.variant alphabet)) (Char a alphabet) cs p b x)
    (each_of (λ k. Somewhere (Char a alphabet k)) _ one cs (lengthy_spelled a (Char a alphabet) size mark (char_items (char_width a.variant alphabet)) cs p b x))
  where
    of_place : (o : Option ℕ) (t : Bool) (k n : ℕ) (d : Bool) → keep_own d k o ≡ Some n → Total (coded (char_width c alphabet) (keep_own t k o))
    of_place None t k n d e = absurd (cc)
    of_place (Some i) t k n d e = just_total _

    one : (k : ℕ) → Somewhere (Char a alphabet k) → Total (coded (char_width c alphabet) (char_code c alphabet k))
    one k y = of_place (index_of k alphabet) (ltb (greatest alphabet) (2 ^ char_width c alphabet)) k y.spelled.index (ltb (greatest alphabet) (2 ^ char_width a.variant alphabet)) y.spelled.is
