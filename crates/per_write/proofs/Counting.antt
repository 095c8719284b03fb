-- Items under a size constraint, as they are written and refused.
use Rattle.std.specs.Prelude.{option_map, slice_range, is_some, IfErr}
use Rattle.std.specs.Option.{unwrap_or}
use Rattle.std.proofs.Common.{◌≡◌, refl, sym, ap, ap₂, ◌∙◌, subst, ℕ, ◌+◌, ◌-◌, ◌^◌, ◌<◌, ◌≤◌, Bool, true, false, ◌&&◌, cond, ltb, leb, lt-ltb, le-leb, leb-true, ltb-true, List, [], ◌∷◌, length, drop, drop-drop, take_all, length-take, length-drop, arith, Option, Some, None, Result, Ok, Err, pos}
use Rattle.std.proofs.lemmas.Bool.{le-ltb}
use Rattle.std.proofs.Math.Bool.{and-true}
use Rattle.rasn_types.specs.Variants.{variant_of, Variant, unaligned}
use Rattle.rasn_types.specs.Bits.{width}
use Rattle.rasn_types.specs.declared.types.Codec.{Codec}
use Rattle.rasn_constraints.specs.Bounds.{allows, any_size, at_least, at_most, holds, Size}
use Rattle.rasn_constraints.specs.Constraints.{bounds_by, end_of, is_marked, size_between, size_in, start_of}
use Rattle.rasn_constraints.specs.declared.constraints.Bounded.{Bounded}
use Rattle.rasn_constraints.specs.declared.constraints.Bounded.TheVariants as Variants
use Rattle.rasn_constraints.specs.declared.constraints.Extensible.{Extensible}
use Rattle.per_core.specs.Counts.{constrained_whole, counted, ItemKind, marked_form, counted_in, counted_under, determinant, in_fragments, is_aligned, padding_if, fragment_sizes}
use Rattle.per_core.specs.Writers.{Writer, just, ◌▹◌, one_by_one, padding, written_if}
use Rattle.per_core.specs.declared.encode_error.EncodeError.{EncodeError}
use Rattle.per_core.specs.declared.encode_error.EncodeErrorKind.{EncodeErrorKind}
use Rattle.per_core.specs.declared.encode_error.EncodeErrorKind.TheVariants.{SizeConstraintNotSatisfied}
use Rattle.per_write.specs.Faults.{IsError, IsMemory}
use Rattle.per_write.specs.Items.{IsOnlySize, RefusesCounted, no_memory, wrong_count}
use Rattle.per_pieces.specs.Fragments.{one_fragment}
use Rattle.per_write.specs.WriterState.{WriterState, StateAppends}
use Rattle.per_core.proofs.ConstrainedLengths.{IsConstrained, IsFree}
use Rattle.per_core.proofs.LengthForms.{and_left, and_right}
use Rattle.per_pieces.proofs.Fragments.{first_fragment, in_their_fragments, fragments_of_few, fragments_of_many}
use Rattle.per_write.specs.Unwritten.{Remains}
use Rattle.per_pieces.proofs.Writing.{then_assoc}
use Rattle.per_write.proofs.Writing.{remains_after, remains_last, wrote_none, wrote_same, wrote_then}

-- items between two places
length-slice : (ws : List Writer) (start end : ℕ) → start ≤ end → end ≤ length ws → length (slice_range ws start end) ≡ end - start
length-slice ws start end h l = length-take (end - start) (drop start ws) ∙ omega (arith, length-drop start ws)

-- items after their count
pub wrote_fragment : (writers : Variant → List Writer) (x m y : WriterState) (start end : ℕ) → start ≤ end → end ≤ length (writers (variant_of x.codec)) →
    StateAppends x (padding (variant_of x.codec) ▹ just (determinant (end - start))) m → StateAppends m (one_by_one (slice_range (writers (variant_of m.codec)) start end)) y →
    StateAppends x (one_fragment (variant_of x.codec) (slice_range (writers (variant_of x.codec)) start end)) y
wrote_fragment writers x m y start end h l v w =
    subst (λ (n : ℕ). StateAppends x ((padding (variant_of x.codec) ▹ just (determinant n)) ▹ one_by_one (slice_range (writers (variant_of x.codec)) start end)) y)
    (sym (length-slice (writers (variant_of x.codec)) start end h l))
    (wrote_then x m y _ _ v (subst (λ (c : Codec). StateAppends m (one_by_one (slice_range (writers (variant_of c)) start end)) y) v.same w))

-- one fragment more
pub fragment_written : (writers : Variant → List Writer) (x y z : WriterState) (start end n : ℕ) →
    let all = writers (variant_of x.codec) in
    n ≡ length all → 16384 ≤ n - start → end ≡ start + first_fragment (n - start) →
    Remains x (in_fragments (variant_of x.codec) (fragment_sizes (length all)) all) y (in_fragments (variant_of x.codec) (fragment_sizes (length (drop start all))) (drop start all)) →
    StateAppends y (one_fragment (variant_of y.codec) (slice_range (writers (variant_of y.codec)) start end)) z →
    Remains x (in_fragments (variant_of x.codec) (fragment_sizes (length all)) all) z (in_fragments (variant_of x.codec) (fragment_sizes (length (drop end all))) (drop end all))
fragment_written writers x y z start end n e h d r w =
    let a = variant_of x.codec in
    let all = writers a in
    let left : length (drop start all) ≡ n - start = length-drop start all ∙ omega arith in
    let size : end - start ≡ first_fragment (n - start) = omega arith in
    let m : end - start ≡ first_fragment (length (drop start all)) = size ∙ ap first_fragment (sym left) in
    let place : start + (end - start) ≡ end = omega arith in
    let behind : drop (end - start) (drop start all) ≡ drop end all = drop-drop (end - start) start all ∙ ap (λ (k : ℕ). drop k all) place in
    let many : 16384 ≤ length (drop start all) = omega arith in
    remains_after x y z _ _ (one_fragment a (slice_range all start end)) _ r
    (λ p. fragments_of_many a (drop start all) (end - start) many m p ∙ ap (λ (ws : List Writer). (one_fragment a (slice_range all start end) ▹ in_fragments a (fragment_sizes (length ws)) ws) p) behind)
    (subst (λ (c : Codec). StateAppends y (one_fragment (variant_of c) (slice_range (writers (variant_of c)) start end)) z) r.same w)

-- the last fragment
pub last_written : (writers : Variant → List Writer) (kind : ItemKind) (x y z : WriterState) (start n : ℕ) →
    let all = writers (variant_of x.codec) in
    n ≡ length all → n < 2 ^ 64 → start ≤ n → n - start < 16384 →
    Remains x (in_fragments (variant_of x.codec) (fragment_sizes (length all)) all) y (in_fragments (variant_of x.codec) (fragment_sizes (length (drop start all))) (drop start all)) →
    StateAppends y (one_fragment (variant_of y.codec) (slice_range (writers (variant_of y.codec)) start n)) z →
    StateAppends x (counted_in (variant_of x.codec) any_size kind all) z
last_written writers kind x y z start n e l h d r w =
    let a = variant_of x.codec in
    let all = writers a in
    let left : length (drop start all) ≡ n - start = length-drop start all ∙ omega arith in
    let all_of_it : slice_range all start n ≡ drop start all = take_all (n - start) (drop start all) (omega arith) in
    let few : length (drop start all) < 16384 = omega arith in
    wrote_same x z _ _ (in_their_fragments a kind all (omega arith))
    (remains_last x y z _ _ (one_fragment a (slice_range all start n)) r
    (λ p. fragments_of_few a (drop start all) few p ∙ ap (λ (ws : List Writer). one_fragment a ws p) (sym all_of_it))
    (subst (λ (c : Codec). StateAppends y (one_fragment (variant_of c) (slice_range (writers (variant_of c)) start n)) z) r.same w))

-- a count that a size allows is within its bounds
bounds_there : (least most : Option ℕ) (l u k : ℕ) → least ≡ Some l → most ≡ Some u → allows (record { least = least; most = most }) k ≡ true →
    allows (record { least = Some l; most = Some u }) k ≡ true
bounds_there least most l u k e f h = subst (λ (o : Option ℕ). allows (record { least = o; most = Some u }) k ≡ true) e (subst (λ (o : Option ℕ). allows (record { least = least; most = o }) k ≡ true) f h)

pub allowed_least : (least most : Option ℕ) (l u n k : ℕ) → least ≡ Some l → most ≡ Some u → n ≡ k → allows (record { least = least; most = most }) k ≡ true → l ≤ n
allowed_least least most l u n k e f d h =
    subst (λ (q : ℕ). l ≤ q) (sym d) (leb-true l k (and_left (leb l k) (leb k u && ltb k (2 ^ 64)) (bounds_there least most l u k e f h)))

pub allowed_most : (least most : Option ℕ) (l u n k : ℕ) → least ≡ Some l → most ≡ Some u → n ≡ k → allows (record { least = least; most = most }) k ≡ true → n ≤ u
allowed_most least most l u n k e f d h =
    subst (λ (q : ℕ). q ≤ u) (sym d) (leb-true k u (and_left (leb k u) (ltb k (2 ^ 64)) (and_right (leb l k) (leb k u && ltb k (2 ^ 64)) (bounds_there least most l u k e f h))))

-- a size allows no greater count
pub allowed_small : (least most : Option ℕ) (k : ℕ) → allows (record { least = least; most = most }) k ≡ true → k < 2 ^ 64
allowed_small least most k h = ltb-true k (2 ^ 64) (and_right (at_most most k) (ltb k (2 ^ 64)) (and_right (at_least least k) (at_most most k && ltb k (2 ^ 64)) h))

-- X.691 11.9.4.1: the form of items whose count is within bounds that constrain it, and within others
pub counted_constrained : (a : Variant) (least most : Option ℕ) (l u n : ℕ) (on_octet : Bool) (kind : ItemKind) (items : List Writer) → IsConstrained least most l u → n ≡ length items
    → allows (record { least = least; most = most }) (length items) ≡ true → on_octet ≡ (ltb 0 n && is_aligned kind l u) → (p : ℕ)
    → ((constrained_whole a (u - l + 1) (n - l) ▹ padding_if on_octet a) ▹ one_by_one items) p ≡ counted_in a (record { least = least; most = most }) kind items p
counted_constrained a least most l u n on_octet kind items b e h o p =
    sym (then_assoc (constrained_whole a (u - l + 1) (n - l)) (padding_if on_octet a) (one_by_one items) p)
    ∙ ap (λ (t : Bool). (constrained_whole a (u - l + 1) (n - l) ▹ padding_if t a ▹ one_by_one items) p) o
    ∙ ap (λ (k : ℕ). (constrained_whole a (u - l + 1) (k - l) ▹ padding_if (ltb 0 k && is_aligned kind l u) a ▹ one_by_one items) p) e
    ∙ ap (λ (t : Bool). cond t (constrained_whole a (u - l + 1) (length items - l) ▹ padding_if (ltb 0 (length items) && is_aligned kind l u) a ▹ one_by_one items) (in_fragments a (fragment_sizes (length items)) items) p) (sym (lt-ltb u 65536 b.few))
    ∙ ap (λ (q : Option ℕ). counted_under a (Some l) q kind (length items) items p) (sym b.upper)
    ∙ ap (λ (q : Option ℕ). counted_under a q most kind (length items) items p) (sym b.lower)
    ∙ ap (λ (t : Bool). written_if t (counted_under a least most kind (length items) items) p) (sym h)

under_free : (a : Variant) (least most : Option ℕ) (kind : ItemKind) (n : ℕ) (items : List Writer) → IsFree least most → counted_under a least most kind n items ≡ in_fragments a (fragment_sizes n) items
under_free a None most kind n items f = refl
under_free a (Some l) None kind n items f = refl
under_free a (Some l) (Some u) kind n items f =
    ap (λ (t : Bool). cond t (constrained_whole a (u - l + 1) (n - l) ▹ padding_if (ltb 0 n && is_aligned kind l u) a ▹ one_by_one items) (in_fragments a (fragment_sizes n) items)) (le-ltb u 65536 f)

pub counted_free : (a : Variant) (least most : Option ℕ) (kind : ItemKind) (items : List Writer) → IsFree least most → allows (record { least = least; most = most }) (length items) ≡ true → (p : ℕ)
    → in_fragments a (fragment_sizes (length items)) items p ≡ counted_in a (record { least = least; most = most }) kind items p
counted_free a least most kind items f h p =
    ap (λ (w : Writer). w p) (sym (under_free a least most kind (length items) items f)) ∙ ap (λ (t : Bool). written_if t (counted_under a least most kind (length items) items) p) (sym h)

-- items after a count within bounds
pub wrote_bounded : (writers : Variant → List Writer) (kind : ItemKind) (x m y : WriterState) (least most : Option ℕ) (l u n : ℕ) (on_octet : Bool) →
    let all = writers (variant_of x.codec) in
    IsConstrained least most l u → n ≡ length all → allows (record { least = least; most = most }) (length all) ≡ true → on_octet ≡ (ltb 0 n && is_aligned kind l u) →
    StateAppends x (constrained_whole (variant_of x.codec) (u - l + 1) (n - l) ▹ padding_if on_octet (variant_of x.codec)) m →
    StateAppends m (one_by_one (slice_range (writers (variant_of m.codec)) 0 n)) y →
    StateAppends x (counted_in (variant_of x.codec) (record { least = least; most = most }) kind all) y
wrote_bounded writers kind x m y least most l u n on_octet b e h o v w =
    let a = variant_of x.codec in
    let all = writers a in
    let all_of_it : slice_range all 0 n ≡ all = take_all (n - 0) all (omega arith) in
    wrote_same x y ((constrained_whole a (u - l + 1) (n - l) ▹ padding_if on_octet a) ▹ one_by_one all) (counted_in a (record { least = least; most = most }) kind all)
    (counted_constrained a least most l u n on_octet kind all b e h o)
    (wrote_then x m y _ _ v
    (subst (λ (ws : List Writer). StateAppends m (one_by_one ws) y) all_of_it (subst (λ (c : Codec). StateAppends m (one_by_one (slice_range (writers (variant_of c)) 0 n)) y) v.same w)))

-- X.691 11.5.4, 11.9.4.1: a count that is the only one has no bits in the unaligned variant, and its items no padding
only_count : (t : Bool) (p : ℕ) → just [] p ≡ (constrained_whole unaligned (0 + 1) 0 ▹ padding_if t unaligned) p
unfolding constrained_whole width
only_count true p = refl
only_count false p = refl

without_length : (a : Variant) (l u n : ℕ) (t : Bool) → a ≡ unaligned → l ≡ u → l ≤ n → n ≤ u → (p : ℕ)
    → just [] p ≡ (constrained_whole a (u - l + 1) (n - l) ▹ padding_if t a) p
without_length a l u n t v e h k p =
    only_count t p
    ∙ ap (λ (m : ℕ). (constrained_whole unaligned (m + 1) 0 ▹ padding_if t unaligned) p) (let z : 0 ≡ u - l = omega (arith, e) in z)
    ∙ ap (λ (m : ℕ). (constrained_whole unaligned (u - l + 1) m ▹ padding_if t unaligned) p) (let z : 0 ≡ n - l = omega (arith, e, h, k) in z)
    ∙ ap (λ (b : Variant). (constrained_whole b (u - l + 1) (n - l) ▹ padding_if t b) p) (sym v)

pub wrote_without_length : (writers : Variant → List Writer) (kind : ItemKind) (x y : WriterState) (least most : Option ℕ) (l u n : ℕ) → x.failed ≡ false →
    let all = writers (variant_of x.codec) in
    IsConstrained least most l u → n ≡ length all → allows (record { least = least; most = most }) (length all) ≡ true → variant_of x.codec ≡ unaligned → l ≡ u → l ≤ n → n ≤ u →
    StateAppends x (one_by_one (slice_range (writers (variant_of x.codec)) 0 n)) y →
    StateAppends x (counted_in (variant_of x.codec) (record { least = least; most = most }) kind all) y
wrote_without_length writers kind x y least most l u n f b e h v d i k w =
    let t = ltb 0 n && is_aligned kind l u in
    wrote_bounded writers kind x x y least most l u n t b e h refl
    (wrote_same x x (just []) _ (without_length (variant_of x.codec) l u n t v d i k) (wrote_none x f)) w

-- X.691 17.6, 17.7: items whose count is the only one
allows_only : (n k : ℕ) → n < 65536 → n ≡ k → allows (record { least = Some n; most = Some n }) k ≡ true
allows_only n k few e =
    subst (λ (m : ℕ). allows (record { least = Some n; most = Some n }) m ≡ true) e
    (ap₂ (λ (p q : Bool). p && (p && q)) (le-leb n n (omega arith)) (lt-ltb n (2 ^ 64) (omega (arith, few))))

pub wrote_only_count : (x y : WriterState) (size : Option (Extensible (Bounded ℕ))) (kind : ItemKind) (items : List Writer) (n : ℕ) → x.failed ≡ false → variant_of x.codec ≡ unaligned
    → IsOnlySize size n → n ≡ length items → StateAppends x (one_by_one items) y → StateAppends x (counted (variant_of x.codec) (size_in size) (is_marked size) kind items) y
wrote_only_count x y size kind items n f v only e w =
    let a = variant_of x.codec in
    let all : slice_range items 0 n ≡ items = take_all (n - 0) items (omega (arith, e)) in
    let within = wrote_without_length (λ (b : Variant). items) kind x y (Some n) (Some n) n n n f (record { lower = refl; upper = refl; few = only.few }) e
    (allows_only n (length items) only.few e) v refl (omega arith) (omega arith) (subst (λ (ws : List Writer). StateAppends x (one_by_one ws) y) (sym all) w) in
    subst (λ (m : Bool). StateAppends x (counted a (size_in size) m kind items) y) (sym only.unmarked)
    (subst (λ (z : Size). StateAppends x (counted_in a z kind items) y) (sym only.alone) within)

-- items of which no size is stated
pub wrote_unstated : (a : Variant) (x y : WriterState) (size : Option (Extensible (Bounded ℕ))) (kind : ItemKind) (items : List Writer) → is_some size ≡ false
    → StateAppends x (counted a any_size false kind items) y → StateAppends x (counted a (size_in size) (is_marked size) kind items) y
wrote_unstated a x y None kind items e w = w
wrote_unstated a x y (Some s) kind items e w = absurd cc

-- want of memory refuses counted items
pub refused_for_memory : (size : Size) (mark : Bool) (items : List Writer) (x : WriterState) (r : Result (Unit {0}) EncodeError)
    → IfErr r (λ e. IsMemory e x) → IfErr r (λ e. RefusesCounted size mark (λ k. ⊥) items e x)
refused_for_memory size mark items x (Ok u) h = tt
refused_for_memory size mark items x (Err e) h = no_memory h

-- items whose count no bounds constrain
pub wrote_free : (items : List Writer) (kind : ItemKind) (x y : WriterState) (least most : Option ℕ) → IsFree least most → allows (record { least = least; most = most }) (length items) ≡ true
    → StateAppends x (counted_in (variant_of x.codec) any_size kind items) y → StateAppends x (counted_in (variant_of x.codec) (record { least = least; most = most }) kind items) y
wrote_free items kind x y least most f h w =
    let a = variant_of x.codec in
    wrote_same x y (counted_in a any_size kind items) (counted_in a (record { least = least; most = most }) kind items)
    (λ p. sym (in_their_fragments a kind items (allowed_small least most (length items) h) p) ∙ counted_free a least most kind items f h p) w

-- whether padding is in front of items
pub pads_some : (n : ℕ) (o t : Bool) → 0 < n → o ≡ t → o ≡ (ltb 0 n && t)
pads_some n o t h e = e ∙ ap (λ (b : Bool). b && t) (sym (lt-ltb 0 n h))

pub pads_none : (n : ℕ) (o t : Bool) → n ≤ 0 → o ≡ ltb 0 n → o ≡ (ltb 0 n && t)
pads_none n o t h e = let z : ltb 0 n ≡ false = le-ltb 0 n h in e ∙ z ∙ ap (λ (b : Bool). b && t) (sym z)

-- the size that a constraint states, and no size where there is none
size_from : (b : Bounded ℕ) (lower upper : Option ℕ) → lower ≡ start_of b → upper ≡ end_of b → size_between b ≡ record { least = lower; most = upper }
size_from b lower upper l u = sym (ap₂ {C = Size} (λ (p q : Option ℕ). record { least = p; most = q }) l u)

pub stated_size : (size : Option (Extensible (Bounded ℕ))) (default stated : Extensible (Bounded ℕ)) (lower upper : Option ℕ) → default.constraint ≡ Variants.None → stated ≡ unwrap_or size default →
    lower ≡ start_of stated.constraint → upper ≡ end_of stated.constraint → size_in size ≡ record { least = lower; most = upper }
stated_size None default stated lower upper d e l u =
    let b : stated.constraint ≡ Variants.None = ap (λ (s : Extensible (Bounded ℕ)). s.constraint) e ∙ d in
    size_from Variants.None lower upper (l ∙ ap start_of b) (u ∙ ap end_of b)
stated_size (Some s) default stated lower upper d e l u =
    size_from s.constraint lower upper (l ∙ ap (λ (s : Extensible (Bounded ℕ)). start_of s.constraint) e) (u ∙ ap (λ (s : Extensible (Bounded ℕ)). end_of s.constraint) e)

pub stated_mark : (size : Option (Extensible (Bounded ℕ))) (default stated : Extensible (Bounded ℕ)) → default.extensible ≡ false → stated ≡ unwrap_or size default → is_marked size ≡ stated.extensible
stated_mark None default stated d e = sym (ap (λ (s : Extensible (Bounded ℕ)). s.extensible) e ∙ d)
stated_mark (Some s) default stated d e = sym (ap (λ (s : Extensible (Bounded ℕ)). s.extensible) e)

-- a count of a `usize` is within bounds where the size allows it
allowed_within : (l u : Option ℕ) (n : ℕ) → n < 2 ^ 64 → holds (record { low = option_map pos l; high = option_map pos u }) (pos n) ≡ allows (record { least = l; most = u }) n
allowed_within None None n h = sym (lt-ltb n (2 ^ 64) h)
allowed_within (Some l) None n h = sym (ap (λ (b : Bool). leb l n && b) (lt-ltb n (2 ^ 64) h))
allowed_within None (Some u) n h = sym (ap (λ (b : Bool). leb n u && b) (lt-ltb n (2 ^ 64) h) ∙ and-true (leb n u))
allowed_within (Some l) (Some u) n h = sym (ap (λ (b : Bool). leb l n && (leb n u && b)) (lt-ltb n (2 ^ 64) h) ∙ ap (λ (b : Bool). leb l n && b) (and-true (leb n u)))

pub allowed_is : (b : Bounded ℕ) (lower upper : Option ℕ) (n k : ℕ) (t : Bool) → lower ≡ start_of b → upper ≡ end_of b → n ≡ k → n < 2 ^ 64 → t ≡ holds (bounds_by pos b) (pos n) →
    allows (record { least = lower; most = upper }) k ≡ t
allowed_is b lower upper n k t l u e h w =
    ap (allows (record { least = lower; most = upper })) (sym e)
    ∙ ap (λ (s : Size). allows s n) (sym (size_from b lower upper l u))
    ∙ sym (allowed_within (start_of b) (end_of b) n h)
    ∙ sym w

-- a size's extension bit, and the items
pub wrote_inside : (writers : Variant → List Writer) (kind : ItemKind) (size under : Size) (mark : Bool) (x m y : WriterState) → mark ≡ true → size ≡ under →
    allows under (length (writers (variant_of x.codec))) ≡ true → StateAppends x (just (false ∷ [])) m → StateAppends m (counted_in (variant_of m.codec) under kind (writers (variant_of m.codec))) y →
    StateAppends x (counted (variant_of x.codec) size mark kind (writers (variant_of x.codec))) y
wrote_inside writers kind size under mark x m y e d h v w =
    let a = variant_of x.codec in
    let all = writers a in
    subst (λ (s : Size). StateAppends x (counted a s mark kind all) y) (sym d)
    (subst (λ (b : Bool). StateAppends x (counted a under b kind all) y) (sym e)
    (wrote_same x y (just (false ∷ []) ▹ counted_in a under kind all) (counted a under true kind all)
    (λ p. ap (λ (b : Bool). marked_form true b (counted_in a under kind all) (counted_in a any_size kind all) p) (sym h))
    (wrote_then x m y _ _ v (subst (λ (c : Codec). StateAppends m (counted_in (variant_of c) under kind (writers (variant_of c))) y) v.same w))))

pub wrote_outside : (writers : Variant → List Writer) (kind : ItemKind) (size under : Size) (mark : Bool) (x m y : WriterState) → mark ≡ true → size ≡ under →
    allows under (length (writers (variant_of x.codec))) ≡ false → StateAppends x (just (true ∷ [])) m → StateAppends m (counted_in (variant_of m.codec) any_size kind (writers (variant_of m.codec))) y →
    StateAppends x (counted (variant_of x.codec) size mark kind (writers (variant_of x.codec))) y
wrote_outside writers kind size under mark x m y e d h v w =
    let a = variant_of x.codec in
    let all = writers a in
    subst (λ (s : Size). StateAppends x (counted a s mark kind all) y) (sym d)
    (subst (λ (b : Bool). StateAppends x (counted a under b kind all) y) (sym e)
    (wrote_same x y (just (true ∷ []) ▹ counted_in a any_size kind all) (counted a under true kind all)
    (λ p. ap (λ (b : Bool). marked_form true b (counted_in a under kind all) (counted_in a any_size kind all) p) (sym h))
    (wrote_then x m y _ _ v (subst (λ (c : Codec). StateAppends m (counted_in (variant_of c) any_size kind (writers (variant_of c))) y) v.same w))))

-- a count that is refused
pub refuses_count : (size : Size) (mark : Bool) (fault : EncodeErrorKind → Type 0) (items : List Writer) (e : EncodeError) (x : WriterState) (lower upper : Option ℕ) (n : ℕ) →
    n ≡ length items → mark ≡ false → size ≡ record { least = lower; most = upper } → allows (record { least = lower; most = upper }) (length items) ≡ false →
    IsError (SizeConstraintNotSatisfied (record { size = n; lower = lower; upper = upper })) e x → RefusesCounted size mark fault items e x
refuses_count size mark fault items e x lower upper n d m s h i =
    wrong_count m (record {
      out_of_size = ap (λ (t : Size). allows t (length items)) s ∙ h;
      count_is = refl;
      lower_is = sym (ap (λ (t : Size). t.least) s);
      upper_is = sym (ap (λ (t : Size). t.most) s);
    }) (subst (λ (k : ℕ). IsError (SizeConstraintNotSatisfied (record { size = k; lower = lower; upper = upper })) e x) d i)
