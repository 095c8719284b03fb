-- From one position the basic grammar relates one bit list to at most one value, and no spelling is a proper beginning of another.
use Rattle.std.proofs.Common.{◌≡◌, refl, sym, ap, ◌∙◌, subst, ℕ, ◌+◌, Bool, true, false, List, [], ◌∷◌, arith, inl, inr, Option, Some, None, ℤ, pos, negsuc, leb-true}
use lib.Signed.{le_z}
use Rattle.rasn_types.specs.Bits.{unpack, unsigned, signed}
use Rattle.rasn_types.specs.Values.{Value}
use Rattle.rasn_constraints.specs.Bounds.{holds, above, Bounds, unbounded}
use Rattle.per_core.specs.Basic.{Marked, IsSemiConstrainedWhole, IsUnconstrainedWhole, number_spelling, IsNumber, IsNumberOf, at_least_zero, Small, Fills, Open, As}
use Rattle.per_core.specs.Spellings.{Settings, Spelling, BitField}
use Rattle.per_core.proofs.SpellingsAgree.{Agree, weaken, either_agree, when_agree, field_agree, no_yes, yes_no, behind}
use Rattle.per_core.proofs.LengthForms.{and_left, same_octets, bounded_agree}

-- numbers
pub above_same : (l z z' : ℤ) → le_z l z ≡ true → le_z l z' ≡ true → above l z ≡ above l z' → z ≡ z'
above_same (pos l) (pos z) (pos z') h h' e = ap pos (omega (arith, leb-true l z h, leb-true l z' h'))
above_same (pos l) (pos z) (negsuc z') h h' e = absurd (cc)
above_same (pos l) (negsuc z) z' h h' e = absurd (cc)
above_same (negsuc l) (pos z) (pos z') h h' e = ap pos (omega arith)
above_same (negsuc l) (pos z) (negsuc z') h h' e = absurd (omega (arith, leb-true z' l h'))
above_same (negsuc l) (negsuc z) (pos z') h h' e = absurd (omega (arith, leb-true z l h))
above_same (negsuc l) (negsuc z) (negsuc z') h h' e = ap negsuc (omega (arith, leb-true z l h, leb-true z' l h'))

pub in_natural_agree : (a : Settings) (n m : ℕ) → Agree (n ≡ m) (IsSemiConstrainedWhole a n) (IsSemiConstrainedWhole a m)
in_natural_agree a n m = record {
  agree = λ p b c s t x y e.
      let r = (same_octets a x.octets y.octets).agree p b c s t x.spelled y.spelled e in
      (sym x.means ∙ ap unsigned r.0 ∙ y.means, r.1);
}

pub in_whole_agree : (a : Settings) (n m : ℤ) → Agree (n ≡ m) (IsUnconstrainedWhole a n) (IsUnconstrainedWhole a m)
in_whole_agree a n m = record {
  agree = λ p b c s t x y e.
      let r = (same_octets a x.octets y.octets).agree p b c s t x.spelled y.spelled e in
      (sym x.means ∙ ap signed r.0 ∙ y.means, r.1);
}

number_agree : (a : Settings) (l u : Option ℤ) (z z' : ℤ) → holds (record { low = l; high = u }) z ≡ true → holds (record { low = l; high = u }) z' ≡ true →
    Agree (z ≡ z') (number_spelling a l u z) (number_spelling a l u z')
number_agree a None None z z' h h' = in_whole_agree a z z'
number_agree a None (Some u) z z' h h' = when_agree (λ f g. in_whole_agree a z z')
number_agree a (Some l) None z z' h h' = when_agree (λ f g. weaken (above_same l z z' (and_left (le_z l z) true h) (and_left (le_z l z') true h')) (in_natural_agree a (above l z) (above l z')))
number_agree a (Some l) (Some u) z z' h h' = when_agree (λ f g. weaken (above_same l z z' (and_left (le_z l z) (le_z z u) h) (and_left (le_z l z') (le_z z' u) h')) (bounded_agree a (above l u + 1) (above l z) (above l z')))

pub is_number_agree : (a : Settings) (bounds : Bounds) (z z' : ℤ) → Agree (z ≡ z') (IsNumber a bounds z) (IsNumber a bounds z')
is_number_agree a bounds z z' = record {
  agree = λ p b c s t x y e.
      (number_agree a bounds.low bounds.high z z' x.within y.within).agree p b c s t x.spelled y.spelled e;
}

-- two forms with a mark
pub marked_agree : {X Y : Type 0} (P : X → Y → Type 0) (mark : Bool) (f g : X → Spelling) (f' g' : Y → Spelling) (x : X) (y : Y) →
    Agree (P x y) (f x) (f' y) → Agree (P x y) (g x) (g' y) → Agree (P x y) (Marked mark f g x) (Marked mark f' g' y)
marked_agree P false f g f' g' x y w v = w
marked_agree P true f g f' g' x y w v = either_agree (behind (false ∷ []) w) (no_yes (f x) (g' y)) (yes_no (g x) (f' y)) (behind (true ∷ []) v)

pub is_number_of_agree : (a : Settings) (bounds : Bounds) (mark : Bool) (range : Bounds) (z z' : ℤ) → Agree (z ≡ z') (IsNumberOf a bounds mark range z) (IsNumberOf a bounds mark range z')
is_number_of_agree a bounds mark range z z' = record {
  agree = λ p b c s t x y e.
      (marked_agree (λ (x y : ℤ). x ≡ y) mark (IsNumber a bounds) (IsNumber a unbounded) (IsNumber a bounds) (IsNumber a unbounded) z z'
      (is_number_agree a bounds z z') (is_number_agree a unbounded z z')).agree p b c s t x.spelled y.spelled e;
}

pub small_agree : (a : Settings) (i j : ℕ) → Agree (i ≡ j) (Small a i) (Small a j)
small_agree a i j = either_agree (behind (false ∷ []) (field_agree 6 i j)) (no_yes (BitField 6 i) (IsNumber a at_least_zero (pos j))) (yes_no (IsNumber a at_least_zero (pos i)) (BitField 6 j))
    (behind (true ∷ []) (weaken (λ e. cc) (is_number_agree a at_least_zero (pos i) (pos j))))

-- values that are made of what is spelled
pub as_agree : {X Y : Type 0} (Q : Value → Value → Type 0) (make : X → Value) (make' : Y → Value) (f : X → Spelling) (g : Y → Spelling) (v w : Value) →
    ((x : X) (y : Y) → Agree (Q (make x) (make' y)) (f x) (g y)) → Agree (Q v w) (As make f v) (As make' g w)
as_agree Q make make' f g v w each = record {
  agree = λ p b c s t x y e.
      let r = (each x.of y.of).agree p b c s t x.spelled y.spelled e in
      (subst (λ z. Q z w) (sym x.is) (subst (λ z. Q (make x.of) z) (sym y.is) r.0), r.1);
}

-- octets that are a complete encoding of two things
pub fills_agree : {P : Type 0} {f g : Spelling} (a : Settings) (os : List ℕ) → Agree P f g → Fills a f os → Fills a g os → P
fills_agree a os w (inl x) (inl y) = (w.agree 0 x.front y.front x.spare y.spare x.spelled y.spelled (sym x.all ∙ y.all)).0
fills_agree a os w (inl x) (inr y) = (w.agree 0 x.front [] x.spare (unpack os) x.spelled y.0 (sym x.all)).0
fills_agree a os w (inr x) (inl y) = (w.agree 0 [] y.front (unpack os) y.spare x.0 y.spelled y.all).0
fills_agree a os w (inr x) (inr y) = (w.agree 0 [] [] [] [] x.0 y.0 refl).0

pub open_agree : {P : Type 0} (a : Settings) (C D : List ℕ → Type 0) → ((os : List ℕ) → C os → D os → P) → Agree P (Open a C) (Open a D)
open_agree a C D h = record {
  agree = λ p b c s t x y e.
      let r = (same_octets a x.octets y.octets).agree p b c s t x.spelled y.spelled e in
      (h y.octets (subst C r.0 x.are) y.are, r.1);
}
