-- Two readings of a record: by the same rules, or by the rules of a newer and an older version.
use Rattle.std.proofs.Common.{◌≡◌, refl, sym, subst, ◌-◌, Bool, true, false, List, [], ◌∷◌, length, arith, Option, Some}
use Rattle.rasn_types.specs.Values.{Value}
use Rattle.rasn_constraints.specs.Bounds.{any_size}
use Rattle.per_core.specs.Basic.{Sized, bit, Fills, Rule, FlagOf, Flags, IsLeftOut, Holds, Body, Bodies, Root, Unknown, OpenOf, Additions, IsBitmap, Extended, Record}
use Rattle.per_core.specs.Counts.{bit_items}
use Rattle.per_core.specs.Spellings.{Settings, Spelling, exactly, Then, BitField}
use Rattle.per_core.proofs.SpellingsAgree.{Agree, weaken, then_agree, either_agree, when_agree, never_agree, agree_never, exactly_agree, empty_agree, field_agree, no_yes, yes_no, behind}
use Rattle.per_core.proofs.LengthForms.{Zip-same, sized_agree}
use Rattle.per_core.proofs.Unique.{fills_agree, open_agree}

abbrev pub SlotRel : Type 1
SlotRel = Option Value → Option Value → Type 0

-- two rules whose readings are related by S
pub record Kin (S : SlotRel) (r' r : Rule) : Type 0 where
  pub flags : (b b' : Bool) → Agree (b ≡ b') (FlagOf r'.presence b) (FlagOf r.presence b')
  pub left_out : (s' s : Option Value) → IsLeftOut r'.presence s' → IsLeftOut r.presence s → S s' s
  pub held : (v' v : Value) → Agree (S (Some v') (Some v)) (r'.spells v') (r.spells v)

-- the first lists may be longer where `may` is true
abbrev pub AllKin : Bool → List SlotRel → List Rule → List Rule → Type 0
AllKin may [] [] [] = Unit {0}
AllKin true [] (r ∷ rs') [] = Unit {0}
AllKin may (S ∷ Ss) (r' ∷ rs') (r ∷ rs) = Kin S r' r × AllKin may Ss rs' rs
AllKin may _ _ _ = ⊥

abbrev pub Along : Bool → List SlotRel → List (Option Value) → List (Option Value) → Type 0
Along may [] [] [] = Unit {0}
Along true [] (s ∷ ss') [] = Unit {0}
Along may (S ∷ Ss) (s' ∷ ss') (s ∷ ss) = S s' s × Along may Ss ss' ss
Along may _ _ _ = ⊥

flags_agree : (Ss : List SlotRel) (rs' rs : List Rule) → AllKin false Ss rs' rs → (bs bs' : List Bool) → Agree (bs ≡ bs') (Flags rs' bs) (Flags rs bs')
flags_agree [] [] [] k [] [] = weaken (λ u. refl) empty_agree
flags_agree [] [] [] k [] (b ∷ bs) = agree_never
flags_agree [] [] [] k (b ∷ bs) bs' = never_agree
flags_agree (S ∷ Ss) (r' ∷ rs') (r ∷ rs) k [] bs' = never_agree
flags_agree (S ∷ Ss) (r' ∷ rs') (r ∷ rs) k (b ∷ bs) [] = agree_never
flags_agree (S ∷ Ss) (r' ∷ rs') (r ∷ rs) k (b ∷ bs) (b' ∷ bs') =
    weaken (λ e. let e0 : b ≡ b' = e.0 in let e1 : bs ≡ bs' = e.1 in cc) (then_agree (k.0.flags b b') (λ e. flags_agree Ss rs' rs k.1 bs bs'))
flags_agree [] [] (r ∷ rs) k bs bs' = absurd k
flags_agree [] (r' ∷ rs') [] k bs bs' = absurd k
flags_agree [] (r' ∷ rs') (r ∷ rs) k bs bs' = absurd k
flags_agree (S ∷ Ss) [] rs k bs bs' = absurd k
flags_agree (S ∷ Ss) (r' ∷ rs') [] k bs bs' = absurd k

pub holds_agree : (S : SlotRel) (s' s : Option Value) (f g : Value → Spelling) → ((v' v : Value) → Agree (S (Some v') (Some v)) (f v') (g v)) → Agree (S s' s) (Holds s' f) (Holds s g)
holds_agree S s' s f g h = record {
  agree = λ p b c t u x y e.
      let r = (h x.held y.held).agree p b c t u x.spelled y.spelled e in
      (subst (λ z. S z s) (sym x.is) (subst (λ z. S (Some x.held) z) (sym y.is) r.0), r.1);
}

body_agree : (S : SlotRel) (r' r : Rule) → Kin S r' r → (b : Bool) (s' s : Option Value) → Agree (S s' s) (Body r' b s') (Body r b s)
body_agree S r' r k true s' s = holds_agree S s' s r'.spells r.spells k.held
body_agree S r' r k false s' s = when_agree (λ x y. weaken (λ u. k.left_out s' s x y) empty_agree)

bodies_agree : (Ss : List SlotRel) (rs' rs : List Rule) → AllKin false Ss rs' rs → (bs : List Bool) (ss' ss : List (Option Value)) →
    Agree (Along false Ss ss' ss) (Bodies rs' bs ss') (Bodies rs bs ss)
bodies_agree [] [] [] k [] [] [] = empty_agree
bodies_agree [] [] [] k [] [] (s ∷ ss) = agree_never
bodies_agree [] [] [] k [] (s' ∷ ss') ss = never_agree
bodies_agree [] [] [] k (b ∷ bs) ss' ss = never_agree
bodies_agree (S ∷ Ss) (r' ∷ rs') (r ∷ rs) k [] ss' ss = never_agree
bodies_agree (S ∷ Ss) (r' ∷ rs') (r ∷ rs) k (b ∷ bs) [] ss = never_agree
bodies_agree (S ∷ Ss) (r' ∷ rs') (r ∷ rs) k (b ∷ bs) (s' ∷ ss') [] = agree_never
bodies_agree (S ∷ Ss) (r' ∷ rs') (r ∷ rs) k (b ∷ bs) (s' ∷ ss') (s ∷ ss) = then_agree (body_agree S r' r k.0 b s' s) (λ e. bodies_agree Ss rs' rs k.1 bs ss' ss)
bodies_agree [] [] (r ∷ rs) k bs ss' ss = absurd k
bodies_agree [] (r' ∷ rs') [] k bs ss' ss = absurd k
bodies_agree [] (r' ∷ rs') (r ∷ rs) k bs ss' ss = absurd k
bodies_agree (S ∷ Ss) [] rs k bs ss' ss = absurd k
bodies_agree (S ∷ Ss) (r' ∷ rs') [] k bs ss' ss = absurd k

pub root_agree : (Ss : List SlotRel) (rs' rs : List Rule) → AllKin false Ss rs' rs → (ss' ss : List (Option Value)) →
    Agree (Along false Ss ss' ss) (Root rs' ss') (Root rs ss)
root_agree Ss rs' rs k ss' ss = record {
  agree = λ p b c s t x y e.
      let w = then_agree (flags_agree Ss rs' rs k x.shown y.shown) (λ e.
      subst (λ bs. Agree (Along false Ss ss' ss) (Bodies rs' x.shown ss') (Bodies rs bs ss)) e (bodies_agree Ss rs' rs k x.shown ss' ss)) in
      let r = w.agree p b c s t x.spelled y.spelled e in (r.0.1, r.1);
}

-- additions, of which the second reader may know fewer
pub unknown_agree : (a : Settings) (bs : List Bool) → Agree (Unit {0}) (Unknown a bs) (Unknown a bs)
unknown_agree a [] = empty_agree
unknown_agree a (false ∷ bs) = unknown_agree a bs
unknown_agree a (true ∷ bs) = weaken (λ r. tt) (then_agree (open_agree a (λ os. Unit {0}) (λ os. Unit {0}) (λ os c d. c)) (λ u. unknown_agree a bs))

nothing_agree : (a : Settings) (rs : List Rule) (ss : List (Option Value)) → Agree (Unit {0}) (Additions a rs ss []) (exactly [])
nothing_agree a [] [] = empty_agree
nothing_agree a [] (s ∷ ss) = never_agree
nothing_agree a (r ∷ rs) [] = never_agree
nothing_agree a (r ∷ rs) (s ∷ ss) = record { agree = λ p b c t u x y e. (nothing_agree a rs ss).agree p b c t u x.1 y e }

skipped_agree : (a : Settings) (rs : List Rule) (ss : List (Option Value)) (bs : List Bool) → Agree (Unit {0}) (Additions a rs ss bs) (Unknown a bs)
skipped_agree a [] [] bs = unknown_agree a bs
skipped_agree a [] (s ∷ ss) bs = never_agree
skipped_agree a (r ∷ rs) [] bs = never_agree
skipped_agree a (r ∷ rs) (s ∷ ss) [] = nothing_agree a (r ∷ rs) (s ∷ ss)
skipped_agree a (r ∷ rs) (s ∷ ss) (false ∷ bs) = record { agree = λ p b c t u x y e. (skipped_agree a rs ss bs).agree p b c t u x.1 y e }
skipped_agree a (r ∷ rs) (s ∷ ss) (true ∷ bs) = weaken (λ r. tt) (then_agree (record {
  agree = λ p b c t u x y e.
      (open_agree a (Fills a (r.spells x.held)) (λ os. Unit {0}) (λ os x y. y)).agree p b c t u x.spelled y e;
}) (λ u. skipped_agree a rs ss bs))

pub additions_agree : (a : Settings) (may : Bool) (Ss : List SlotRel) (rs' rs : List Rule) → AllKin may Ss rs' rs → (bs : List Bool) (ss' ss : List (Option Value)) →
    Agree (Along may Ss ss' ss) (Additions a rs' ss' bs) (Additions a rs ss bs)
additions_agree a may [] [] [] k bs [] [] = unknown_agree a bs
additions_agree a may [] [] [] k bs [] (s ∷ ss) = agree_never
additions_agree a may [] [] [] k bs (s' ∷ ss') ss = never_agree
additions_agree a false [] (r ∷ rs') [] k bs ss' ss = absurd k
additions_agree a true [] (r ∷ rs') [] k bs ss' (s ∷ ss) = agree_never
additions_agree a true [] (r ∷ rs') [] k bs [] [] = never_agree
additions_agree a true [] (r ∷ rs') [] k bs (s' ∷ ss') [] = skipped_agree a (r ∷ rs') (s' ∷ ss') bs
additions_agree a may (S ∷ Ss) (r' ∷ rs') (r ∷ rs) k bs [] ss = never_agree
additions_agree a may (S ∷ Ss) (r' ∷ rs') (r ∷ rs) k bs (s' ∷ ss') [] = agree_never
additions_agree a may (S ∷ Ss) (r' ∷ rs') (r ∷ rs) k [] (s' ∷ ss') (s ∷ ss) =
    when_agree (λ x y. weaken (λ z. (k.0.left_out s' s x y, z)) (additions_agree a may Ss rs' rs k.1 [] ss' ss))
additions_agree a may (S ∷ Ss) (r' ∷ rs') (r ∷ rs) k (false ∷ bs) (s' ∷ ss') (s ∷ ss) =
    when_agree (λ x y. weaken (λ z. (k.0.left_out s' s x y, z)) (additions_agree a may Ss rs' rs k.1 bs ss' ss))
additions_agree a may (S ∷ Ss) (r' ∷ rs') (r ∷ rs) k (true ∷ bs) (s' ∷ ss') (s ∷ ss) =
    then_agree (holds_agree S s' s (OpenOf a r'.spells) (OpenOf a r.spells) (λ v' v. open_agree a (Fills a (r'.spells v')) (Fills a (r.spells v)) (λ os x y. fills_agree a os (k.0.held v' v) x y)))
    (λ z. additions_agree a may Ss rs' rs k.1 bs ss' ss)
additions_agree a may [] [] (r ∷ rs) k bs ss' ss = absurd k
additions_agree a true [] (r' ∷ rs') (r ∷ rs) k bs ss' ss = absurd k
additions_agree a false [] (r' ∷ rs') (r ∷ rs) k bs ss' ss = absurd k
additions_agree a may (S ∷ Ss) [] rs k bs ss' ss = absurd k
additions_agree a may (S ∷ Ss) (r' ∷ rs') [] k bs ss' ss = absurd k

pub bitmap_agree : (a : Settings) (bs bs' : List Bool) → Agree (bs ≡ bs') (IsBitmap a bs) (IsBitmap a bs')
bitmap_agree a bs bs' = record {
  agree = λ p b c s t x y e.
      let large = sized_agree (λ x y. x ≡ y) bit bit (λ x y. weaken (λ e. let e' : x ∷ [] ≡ y ∷ [] = e in cc) (exactly_agree (x ∷ []) (y ∷ []) refl)) a any_size bit_items bs bs' in
      let few : Agree (bs ≡ bs') (Then (BitField 6 (length bs - 1)) (exactly bs)) (Then (BitField 6 (length bs' - 1)) (exactly bs'))
      = weaken (λ r. r.1) (then_agree (field_agree 6 (length bs - 1) (length bs' - 1)) (λ l. exactly_agree bs bs' (omega (arith, x.some, y.some)))) in
      let w = either_agree (behind (false ∷ []) few) (no_yes (Then (BitField 6 (length bs - 1)) (exactly bs)) (Sized a any_size bit_items bit bs'))
      (yes_no (Sized a any_size bit_items bit bs) (Then (BitField 6 (length bs' - 1)) (exactly bs')))
      (behind (true ∷ []) (weaken (Zip-same bs bs') large)) in
      w.agree p b c s t x.spelled y.spelled e;
}

-- all of a record
module _ (a : Settings) (may : Bool) (Ss As : List SlotRel) (rs' rs adds' adds : List Rule) (k : AllKin false Ss rs' rs) (k' : AllKin may As adds' adds) (ss' ss xs' xs : List (Option Value)) where
  abbrev pub Both : Type 0
  Both = Along false Ss ss' ss × Along may As xs' xs

  plain_agree : Agree Both (Then (Root rs' ss') (Additions a adds' xs' [])) (Then (Root rs ss) (Additions a adds xs []))
  plain_agree = then_agree (root_agree Ss rs' rs k ss' ss) (λ u. additions_agree a may As adds' adds k' [] xs' xs)

  extended_agree : Agree Both (Extended a rs' adds' ss' xs') (Extended a rs adds ss xs)
  extended_agree = record {
    agree = λ p b c s t x y e.
        let w = behind (true ∷ []) (then_agree (root_agree Ss rs' rs k ss' ss) (λ u. then_agree (bitmap_agree a x.flags y.flags) (λ e.
        subst (λ bs. Agree (Along may As xs' xs) (Additions a adds' xs' x.flags) (Additions a adds xs bs)) e (additions_agree a may As adds' adds k' x.flags xs' xs)))) in
        let r = w.agree p b c s t x.spelled y.spelled e in ((r.0.0, r.0.1.1), r.1);
  }

  pub fields_agree : (ext : Bool) → Agree Both (Record a ext rs' adds' ss' xs') (Record a ext rs adds ss xs)
  fields_agree false = plain_agree
  fields_agree true = either_agree (behind (false ∷ []) plain_agree)
      (record { agree = λ p b c s t x y e. (no_yes (Then (Root rs' ss') (Additions a adds' xs' [])) (Then (Root rs ss) (Then (IsBitmap a y.flags) (Additions a adds xs y.flags)))).agree p b c s t x y.spelled e })
      (record { agree = λ p b c s t x y e. (yes_no (Then (Root rs' ss') (Then (IsBitmap a x.flags) (Additions a adds' xs' x.flags))) (Then (Root rs ss) (Additions a adds xs []))).agree p b c s t x.spelled y e })
      extended_agree
