-- What one reader takes another one takes too.
use Rattle.std.proofs.Common.{◌≡◌, refl, ap, subst, ℕ, zero, suc, ◌+◌, ◌-◌, Bool, true, false, cond, ◌&&◌, ltb, List, [], ◌∷◌, ◌++◌, length, inl, inr, Option, Some, None}
use Rattle.rasn_types.specs.Bits.{Bits}
use Rattle.rasn_types.specs.Values.{Value}
use Rattle.rasn_constraints.specs.Bounds.{allows, Size, any_size}
use Rattle.per_core.specs.Basic.{OneByOne, IsConstrainedWhole, LastCount, Fragment, InFragments, UnconstrainedLength, PaddingIf, length_form, Sized, Counted, Fills, Open, Rule, FlagOf, Flags, IsLeftOut, Holds, Body, Bodies, Root, Unknown, OpenOf, Additions, Record}
use Rattle.per_core.specs.Counts.{ItemKind, is_aligned}
use Rattle.per_core.specs.Spellings.{Settings, Spelling, Then, Either, When, AnyPadding}
use Rattle.per_core.specs.Writers.{after}
use Rattle.per_core.proofs.LengthForms.{Zip}
use Rattle.per_core.proofs.Records.{SlotRel, Along}

pub record Carry (f g : Spelling) : Type 0 where
  pub carry : (p : ℕ) (b : Bits) → f p b → g p b

pub kept : {f : Spelling} → Carry f f
kept = record { carry = λ p b x. x }

-- one spelling after another
pub carries : {f g h : Spelling} → Carry f g → Carry g h → Carry f h
carries x y = record { carry = λ p b e. y.carry p b (x.carry p b e) }

pub then_carry : {f f' g g' : Spelling} → Carry f f' → Carry g g' → Carry (Then f g) (Then f' g')
then_carry h k = record { carry = λ p b x. record { front = x.front; rest = x.rest; is_front = h.carry p x.front x.is_front; is_rest = k.carry (after p x.front) x.rest x.is_rest; joins = x.joins } }

pub either_carry : {f f' g g' : Spelling} → Carry f f' → Carry g g' → Carry (Either f g) (Either f' g')
either_carry {f} {f'} {g} {g'} h k = record { carry = λ p b x. go p b x }
  where
    go : (p : ℕ) (b : Bits) → Either f g p b → Either f' g' p b
    go p b (inl x) = inl (h.carry p b x)
    go p b (inr x) = inr (k.carry p b x)

pub when_carry : {A B : Type 0} {f g : Spelling} → (A → B) → Carry f g → Carry (When A f) (When B g)
when_carry h k = record { carry = λ p b x. (h x.0, k.carry p b x.1) }

pub fills_carry : {f g : Spelling} (a : Settings) (os : List ℕ) → Carry f g → Fills a f os → Fills a g os
fills_carry a os h (inl x) = inl (record { front = x.front; spare = x.spare; spelled = h.carry 0 x.front x.spelled; all = x.all; some = x.some; short = x.short; zeros = x.zeros })
fills_carry a os h (inr x) = inr (h.carry 0 [] x.0, x.1)

pub open_carry : (a : Settings) {C D : List ℕ → Type 0} → ((os : List ℕ) → C os → D os) → Carry (Open a C) (Open a D)
open_carry a h = record { carry = λ p b x. record { octets = x.octets; are = h x.octets x.are; spelled = x.spelled } }

-- a value in an open type
pub contained_carry : {f g : Spelling} (a : Settings) → Carry f g → Carry (Open a (Fills a f)) (Open a (Fills a g))
contained_carry a h = open_carry a (λ os y. fills_carry a os h y)

-- lists, whose members are carried one by one
module _ {X Y : Type 0} (R : X → Y → Type 0) (f : X → Spelling) (g : Y → Spelling) (each : (x : X) (y : Y) → R x y → Carry (f x) (g y)) where
  zip-length : (xs : List X) (ys : List Y) → Zip R xs ys → length xs ≡ length ys
  zip-length [] [] z = refl
  zip-length (x ∷ xs) (y ∷ ys) z = ap suc (zip-length xs ys z.1)
  zip-length [] (y ∷ ys) z = absurd z
  zip-length (x ∷ xs) [] z = absurd z

  row_carry : (xs : List X) (ys : List Y) → Zip R xs ys → Carry (OneByOne f xs) (OneByOne g ys)
  row_carry [] [] z = kept
  row_carry (x ∷ xs) (y ∷ ys) z = then_carry (each x y z.0) (row_carry xs ys z.1)
  row_carry [] (y ∷ ys) z = absurd z
  row_carry (x ∷ xs) [] z = absurd z

  divided : (xs xs' : List X) (ys : List Y) → Zip R (xs ++ xs') ys → (us : List Y) × (us' : List Y) × (ys ≡ us ++ us') × Zip R xs us × Zip R xs' us'
  divided [] xs' ys z = ([], ys, refl, tt, z)
  divided (x ∷ xs) xs' [] z = absurd z
  divided (x ∷ xs) xs' (y ∷ ys) z = let r = divided xs xs' ys z.1 in (y ∷ r.0, r.1, ap (λ l. y ∷ l) r.2, (z.0, r.3), r.4)

  fragments_carry : (a : Settings) (k : ℕ) (xs : List X) (ys : List Y) → Zip R xs ys → Carry (InFragments a f k xs) (InFragments a g k ys)
  fragments_carry a zero xs ys z = subst (λ n. Carry (InFragments a f zero xs) (Then (AnyPadding a) (Then (LastCount n) (OneByOne g ys)))) (zip-length xs ys z)
      (then_carry kept (then_carry kept (row_carry xs ys z)))
  fragments_carry a (suc k) xs ys z = record {
    carry = λ p b x.
        let d = divided x.these x.others ys (subst (λ l. Zip R l ys) x.all z) in
        record {
          these = d.0;
          others = d.1;
          all = d.2;
          spelled = (then_carry kept (then_carry (subst (λ n. Carry (Fragment (length x.these)) (Fragment n)) (zip-length x.these d.0 d.3) kept)
              (then_carry (row_carry x.these d.0 d.3) (fragments_carry a k x.others d.1 d.4)))).carry p b x.spelled;
        };
  }

  unsized_carry : (a : Settings) (xs : List X) (ys : List Y) → Zip R xs ys → Carry (UnconstrainedLength a f xs) (UnconstrainedLength a g ys)
  unsized_carry a xs ys z = record { carry = λ p b x. record { fragments = x.fragments; spelled = (fragments_carry a x.fragments xs ys z).carry p b x.spelled } }

  form_carry : (a : Settings) (l u : Option ℕ) (kind : ItemKind) (xs : List X) (ys : List Y) → Zip R xs ys → Carry (length_form a l u kind f xs) (length_form a l u kind g ys)
  form_carry a None u kind xs ys z = unsized_carry a xs ys z
  form_carry a (Some lb) None kind xs ys z = unsized_carry a xs ys z
  form_carry a (Some lb) (Some ub) kind xs ys z = choose (ltb ub 65536)
    where
      bounded_row : Carry (Then (IsConstrainedWhole a (ub - lb + 1) (length xs - lb)) (Then (PaddingIf (ltb 0 (length xs) && is_aligned kind lb ub) a) (OneByOne f xs)))
          (Then (IsConstrainedWhole a (ub - lb + 1) (length ys - lb)) (Then (PaddingIf (ltb 0 (length ys) && is_aligned kind lb ub) a) (OneByOne g ys)))
      bounded_row = subst (λ n. Carry (Then (IsConstrainedWhole a (ub - lb + 1) (length xs - lb)) (Then (PaddingIf (ltb 0 (length xs) && is_aligned kind lb ub) a) (OneByOne f xs)))
          (Then (IsConstrainedWhole a (ub - lb + 1) (n - lb)) (Then (PaddingIf (ltb 0 n && is_aligned kind lb ub) a) (OneByOne g ys)))) (zip-length xs ys z)
          (then_carry kept (then_carry kept (row_carry xs ys z)))

      choose : (t : Bool) → Carry (cond t (Then (IsConstrainedWhole a (ub - lb + 1) (length xs - lb)) (Then (PaddingIf (ltb 0 (length xs) && is_aligned kind lb ub) a) (OneByOne f xs))) (UnconstrainedLength a f xs))
          (cond t (Then (IsConstrainedWhole a (ub - lb + 1) (length ys - lb)) (Then (PaddingIf (ltb 0 (length ys) && is_aligned kind lb ub) a) (OneByOne g ys))) (UnconstrainedLength a g ys))
      choose true = bounded_row
      choose false = unsized_carry a xs ys z

  sized_carry : (a : Settings) (size : Size) (kind : ItemKind) (xs : List X) (ys : List Y) → Zip R xs ys → Carry (Sized a size kind f xs) (Sized a size kind g ys)
  sized_carry a size kind xs ys z = record { carry = λ p b x. record { allowed = subst (λ n. allows size n ≡ true) (zip-length xs ys z) x.allowed; spelled = (form_carry a size.least size.most kind xs ys z).carry p b x.spelled } }

  pub lengthy_carry : (a : Settings) (size : Size) (mark : Bool) (kind : ItemKind) (xs : List X) (ys : List Y) → Zip R xs ys → Carry (Counted a size mark kind f xs) (Counted a size mark kind g ys)
  lengthy_carry a size false kind xs ys z = sized_carry a size kind xs ys z
  lengthy_carry a size true kind xs ys z = either_carry (then_carry kept (sized_carry a size kind xs ys z)) (then_carry kept (sized_carry a any_size kind xs ys z))

-- records
pub record Leads (S : Option Value → Option Value → Type 0) (r' r : Rule) : Type 0 where
  pub flags : (b : Bool) → Carry (FlagOf r'.presence b) (FlagOf r.presence b)
  pub left_out : (s' s : Option Value) → S s' s → IsLeftOut r'.presence s' → IsLeftOut r.presence s
  pub held : (v' : Value) (s : Option Value) → S (Some v') s → (v : Value) × (s ≡ Some v) × Carry (r'.spells v') (r.spells v)

abbrev pub AllLead : Bool → List SlotRel → List Rule → List Rule → Type 0
AllLead may [] [] [] = Unit {0}
AllLead true [] (r ∷ rs') [] = Unit {0}
AllLead may (S ∷ Ss) (r' ∷ rs') (r ∷ rs) = Leads S r' r × AllLead may Ss rs' rs
AllLead may _ _ _ = ⊥

flags_carry : (Ss : List SlotRel) (rs' rs : List Rule) → AllLead false Ss rs' rs → (bs : List Bool) → Carry (Flags rs' bs) (Flags rs bs)
flags_carry [] [] [] k bs = kept
flags_carry (S ∷ Ss) (r' ∷ rs') (r ∷ rs) k [] = kept
flags_carry (S ∷ Ss) (r' ∷ rs') (r ∷ rs) k (b ∷ bs) = then_carry (k.0.flags b) (flags_carry Ss rs' rs k.1 bs)
flags_carry [] [] (r ∷ rs) k bs = absurd k
flags_carry [] (r' ∷ rs') [] k bs = absurd k
flags_carry [] (r' ∷ rs') (r ∷ rs) k bs = absurd k
flags_carry (S ∷ Ss) [] rs k bs = absurd k
flags_carry (S ∷ Ss) (r' ∷ rs') [] k bs = absurd k

-- a slot that is held, and its spelling changed
pub held_carry : (S : SlotRel) (r' r : Rule) → Leads S r' r → (s' s : Option Value) → S s' s → (F : (Value → Spelling) → Value → Spelling) →
    ((f g : Value → Spelling) (v w : Value) → Carry (f v) (g w) → Carry (F f v) (F g w)) → Carry (Holds s' (F r'.spells)) (Holds s (F r.spells))
held_carry S r' r k s' s h F up = record {
  carry = λ p b x.
      let q = k.held x.held s (subst (λ z. S z s) x.is h) in
      record { held = q.0; is = q.1; spelled = (up r'.spells r.spells x.held q.0 q.2).carry p b x.spelled };
}

body_carry : (S : SlotRel) (r' r : Rule) → Leads S r' r → (b : Bool) (s' s : Option Value) → S s' s → Carry (Body r' b s') (Body r b s)
body_carry S r' r k true s' s h = held_carry S r' r k s' s h (λ f. f) (λ f g v w c. c)
body_carry S r' r k false s' s h = when_carry (k.left_out s' s h) kept

bodies_carry : (Ss : List SlotRel) (rs' rs : List Rule) → AllLead false Ss rs' rs → (bs : List Bool) (ss' ss : List (Option Value)) → Along false Ss ss' ss → Carry (Bodies rs' bs ss') (Bodies rs bs ss)
bodies_carry [] [] [] k bs [] [] l = kept
bodies_carry (S ∷ Ss) (r' ∷ rs') (r ∷ rs) k [] (s' ∷ ss') (s ∷ ss) l = kept
bodies_carry (S ∷ Ss) (r' ∷ rs') (r ∷ rs) k (b ∷ bs) (s' ∷ ss') (s ∷ ss) l = then_carry (body_carry S r' r k.0 b s' s l.0) (bodies_carry Ss rs' rs k.1 bs ss' ss l.1)
bodies_carry [] [] [] k bs [] (s ∷ ss) l = absurd l
bodies_carry [] [] [] k bs (s' ∷ ss') [] l = absurd l
bodies_carry [] [] [] k bs (s' ∷ ss') (s ∷ ss) l = absurd l
bodies_carry (S ∷ Ss) (r' ∷ rs') (r ∷ rs) k bs [] ss l = absurd l
bodies_carry (S ∷ Ss) (r' ∷ rs') (r ∷ rs) k bs (s' ∷ ss') [] l = absurd l
bodies_carry [] [] (r ∷ rs) k bs ss' ss l = absurd k
bodies_carry [] (r' ∷ rs') [] k bs ss' ss l = absurd k
bodies_carry [] (r' ∷ rs') (r ∷ rs) k bs ss' ss l = absurd k
bodies_carry (S ∷ Ss) [] rs k bs ss' ss l = absurd k
bodies_carry (S ∷ Ss) (r' ∷ rs') [] k bs ss' ss l = absurd k

pub root_carry : (Ss : List SlotRel) (rs' rs : List Rule) → AllLead false Ss rs' rs → (ss' ss : List (Option Value)) → Along false Ss ss' ss → Carry (Root rs' ss') (Root rs ss)
root_carry Ss rs' rs k ss' ss l = record { carry = λ p b x. record { shown = x.shown; spelled = (then_carry (flags_carry Ss rs' rs k x.shown) (bodies_carry Ss rs' rs k x.shown ss' ss l)).carry p b x.spelled } }

-- known additions become unknown ones
pub skipped_carry : (a : Settings) (rs : List Rule) (ss : List (Option Value)) (bs : List Bool) → Carry (Additions a rs ss bs) (Unknown a bs)
skipped_carry a [] [] bs = kept
skipped_carry a [] (s ∷ ss) bs = record { carry = λ p b x. absurd x }
skipped_carry a (r ∷ rs) [] bs = record { carry = λ p b x. absurd x }
skipped_carry a (r ∷ rs) (s ∷ ss) [] = record { carry = λ p b x. (skipped_carry a rs ss []).carry p b x.1 }
skipped_carry a (r ∷ rs) (s ∷ ss) (false ∷ bs) = record { carry = λ p b x. (skipped_carry a rs ss bs).carry p b x.1 }
skipped_carry a (r ∷ rs) (s ∷ ss) (true ∷ bs) = then_carry (record { carry = λ p b x. (open_carry a {C = Fills a (r.spells x.held)} {D = λ os. Unit {0}} (λ os y. tt)).carry p b x.spelled }) (skipped_carry a rs ss bs)

additions_carry : (a : Settings) (may : Bool) (Ss : List SlotRel) (rs' rs : List Rule) → AllLead may Ss rs' rs → (bs : List Bool) (ss' ss : List (Option Value)) → Along may Ss ss' ss →
    Carry (Additions a rs' ss' bs) (Additions a rs ss bs)
additions_carry a may [] [] [] k bs [] [] l = kept
additions_carry a may [] [] [] k bs (s' ∷ ss') [] l = record { carry = λ p b x. absurd x }
additions_carry a true [] (r ∷ rs') [] k bs ss' [] l = skipped_carry a (r ∷ rs') ss' bs
additions_carry a false [] (r ∷ rs') [] k bs ss' ss l = absurd k
additions_carry a true [] (r ∷ rs') [] k bs [] (s ∷ ss) l = absurd l
additions_carry a true [] (r ∷ rs') [] k bs (s' ∷ ss') (s ∷ ss) l = absurd l
additions_carry a may [] [] [] k bs [] (s ∷ ss) l = record { carry = λ p b x. impossible may s ss l }
  where
    impossible : (may : Bool) (s : Option Value) (ss : List (Option Value)) → Along may [] [] (s ∷ ss) → ⊥
    impossible true s ss l = l
    impossible false s ss l = l
additions_carry a may [] [] [] k bs (s' ∷ ss') (s ∷ ss) l = record { carry = λ p b x. absurd x }
additions_carry a may (S ∷ Ss) (r' ∷ rs') (r ∷ rs) k [] (s' ∷ ss') (s ∷ ss) l = when_carry (k.0.left_out s' s l.0) (additions_carry a may Ss rs' rs k.1 [] ss' ss l.1)
additions_carry a may (S ∷ Ss) (r' ∷ rs') (r ∷ rs) k (false ∷ bs) (s' ∷ ss') (s ∷ ss) l = when_carry (k.0.left_out s' s l.0) (additions_carry a may Ss rs' rs k.1 bs ss' ss l.1)
additions_carry a may (S ∷ Ss) (r' ∷ rs') (r ∷ rs) k (true ∷ bs) (s' ∷ ss') (s ∷ ss) l =
    then_carry (held_carry S r' r k.0 s' s l.0 (OpenOf a) (λ f g v w c. open_carry a (λ os y. fills_carry a os c y))) (additions_carry a may Ss rs' rs k.1 bs ss' ss l.1)
additions_carry a may (S ∷ Ss) (r' ∷ rs') (r ∷ rs) k bs [] ss l = absurd l
additions_carry a may (S ∷ Ss) (r' ∷ rs') (r ∷ rs) k bs (s' ∷ ss') [] l = absurd l
additions_carry a may [] [] (r ∷ rs) k bs ss' ss l = absurd k
additions_carry a true [] (r' ∷ rs') (r ∷ rs) k bs ss' ss l = absurd k
additions_carry a false [] (r' ∷ rs') (r ∷ rs) k bs ss' ss l = absurd k
additions_carry a may (S ∷ Ss) [] rs k bs ss' ss l = absurd k
additions_carry a may (S ∷ Ss) (r' ∷ rs') [] k bs ss' ss l = absurd k

-- A record that a reader of more additions takes is taken by one of fewer, in each of its parts.
pub fields_carry : (a : Settings) (ext may : Bool) (Ss As : List SlotRel) (rs' rs adds' adds : List Rule) → AllLead false Ss rs' rs → AllLead may As adds' adds →
    (ss' ss xs' xs : List (Option Value)) → Along false Ss ss' ss → Along may As xs' xs → Carry (Record a ext rs' adds' ss' xs') (Record a ext rs adds ss xs)
fields_carry a false may Ss As rs' rs adds' adds k k' ss' ss xs' xs l m = then_carry (root_carry Ss rs' rs k ss' ss l) (additions_carry a may As adds' adds k' [] xs' xs m)
fields_carry a true may Ss As rs' rs adds' adds k k' ss' ss xs' xs l m = either_carry
    (then_carry kept (then_carry (root_carry Ss rs' rs k ss' ss l) (additions_carry a may As adds' adds k' [] xs' xs m)))
    (record { carry = λ p b x. record { flags = x.flags; spelled = (then_carry kept (then_carry (root_carry Ss rs' rs k ss' ss l) (then_carry kept (additions_carry a may As adds' adds k' x.flags xs' xs m)))).carry p b x.spelled } })
