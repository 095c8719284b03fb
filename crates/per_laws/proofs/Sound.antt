-- Two that are alike spell one value, and end alike.
use Rattle.std.proofs.Common.{◌≡◌, ◌↔◌, refl, sym, ap, subst, ◌∙◌, ℕ, zero, suc, ◌+◌, ◌-◌, Bool, true, false, cond, ◌&&◌, ltb, List, [], ◌∷◌, ◌++◌, length, length-append, append-nil, arith, inl, inr, Option, Some, None}
use Rattle.rasn_types.specs.Bits.{Bits}
use Rattle.rasn_types.specs.Values.{Value, elements, bag_of, fields, alternative, Side, root, added, as_values, as_slots}
use Rattle.rasn_constraints.specs.Bounds.{Size, any_size}
use Rattle.rasn_schema.specs.Orders.{ordered, by_tags, insert_at, how_many_less}
use Rattle.rasn_schema.specs.Schemas.{Order, listed, by_tag, Tag, tags, Schema, Parts, no_parts, part}
use Rattle.per_core.specs.Basic.{OneByOne, LastCount, Fragment, InFragments, UnconstrainedLength, IsConstrainedWhole, PaddingIf, length_form, Sized, Counted, Octets, Small, Fills, Open, Flags, IsLeftOut, Holds, Body, Bodies, Root, Unknown_in, Additions_in, IsBitmap, Extended_in, Record_in, ExtensionBit, Chosen, Choice, As, basic, basic_in, rules_in, fills, front}
use Rattle.per_core.specs.Counts.{list_items, is_aligned}
use Rattle.per_core.specs.Spellings.{Settings, Spelling, exactly, Then, Either, When, never, AnyPadding}
use Rattle.per_core.specs.Writers.{after}
use Rattle.per_core.proofs.Laws.{one_value, one_front}
use Rattle.per_laws.proofs.Skipped.{end_alike}
use Rattle.per_laws.specs.Alike.{Pair, Same, no_pair, WhenPair, EitherPair, Both, EachAlike, FragmentsAlike, UnconstrainedAlike, FormAlike, SizedAlike, LengthyAlike, OpenAlike, AnyOpens, UnknownAlike, Kin, rules_of, HoldsAlike, BodyAlike, BodiesAlike, RootAlike, AdditionsAlike, ExtendedAlike, FieldsAlike, ChosenAlike, AlternativeAlike, AsAlike, alike_in, kins, AreAlike}

-- both of a pair have the spelling and end alike; and what has the spelling pairs with itself
pub record Sound (f : Spelling) (F : Pair) : Type 0 where
  pub both : (p : ℕ) (b c : Bits) → F p b c → f p b × f p c × (after p b ≡ after p c)
  pub itself : (p : ℕ) (b : Bits) → f p b → F p b b

pub same_sound : (f : Spelling) → Sound f (Same f)
same_sound f = record { both = λ p b c x. (x.0, subst (f p) x.1 x.0, ap (after p) x.1); itself = λ p b x. (x, refl) }

no_sound : Sound never no_pair
no_sound = record { both = λ p b c x. absurd x; itself = λ p b x. x }

when_sound : (A : Type 0) {f : Spelling} {F : Pair} → Sound f F → Sound (When A f) (WhenPair A F)
when_sound A h = record { both = λ p b c x. let r = h.both p b c x.1 in ((x.0, r.0), (x.0, r.1), r.2); itself = λ p b x. (x.0, h.itself p b x.1) }

either_sound : {f g : Spelling} {F G : Pair} → Sound f F → Sound g G → Sound (Either f g) (EitherPair F G)
either_sound {f} {g} {F} {G} h k = record { both = two; itself = one }
  where
    two : (p : ℕ) (b c : Bits) → EitherPair F G p b c → Either f g p b × Either f g p c × (after p b ≡ after p c)
    two p b c (inl x) = let r = h.both p b c x in (inl r.0, inl r.1, r.2)
    two p b c (inr x) = let r = k.both p b c x in (inr r.0, inr r.1, r.2)

    one : (p : ℕ) (b : Bits) → Either f g p b → EitherPair F G p b b
    one p b (inl x) = inl (h.itself p b x)
    one p b (inr x) = inr (k.itself p b x)

behind : (p : ℕ) (b c d : Bits) → d ≡ b ++ c → after p d ≡ after (after p b) c
behind p b c d e = ap (after p) e ∙ omega (arith, length-append b c)

then_sound : {f g : Spelling} {F G : Pair} → Sound f F → Sound g G → Sound (Then f g) (Both F G)
then_sound {f} {g} {F} {G} h k = record {
  both = λ p b c x.
      let r = h.both p x.front x.other_front x.is_front in
      let s = k.both (after p x.front) x.rest x.other_rest x.is_rest in (
        record { front = x.front; rest = x.rest; is_front = r.0; is_rest = s.0; joins = x.joins },
        record { front = x.other_front; rest = x.other_rest; is_front = r.1; is_rest = subst (λ q. g q x.other_rest) r.2 s.1; joins = x.others_join },
        behind p x.front x.rest b x.joins ∙ s.2 ∙ ap (λ q. after q x.other_rest) r.2 ∙ sym (behind p x.other_front x.other_rest c x.others_join),
      );
  itself = λ p b x. record {
    front = x.front;
    rest = x.rest;
    other_front = x.front;
    other_rest = x.rest;
    is_front = h.itself p x.front x.is_front;
    is_rest = k.itself (after p x.front) x.rest x.is_rest;
    joins = x.joins;
    others_join = x.joins;
  };
}

cond_sound : {f g : Spelling} {F G : Pair} (t : Bool) → Sound f F → Sound g G → Sound (cond t f g) (cond t F G)
cond_sound true h k = h
cond_sound false h k = k

-- elements
module _ (a : Settings) (item : Value → Spelling) (pair : Value → Pair) (each : (v : Value) → Sound (item v) (pair v)) where
  each_sound : (vs : List Value) → Sound (OneByOne item vs) (EachAlike pair vs)
  each_sound [] = same_sound (exactly [])
  each_sound (v ∷ vs) = then_sound (each v) (each_sound vs)

  fragments_sound : (k : ℕ) (vs : List Value) → Sound (InFragments a item k vs) (FragmentsAlike a pair k vs)
  fragments_sound zero vs = then_sound (same_sound (AnyPadding a)) (then_sound (same_sound (LastCount (length vs))) (each_sound vs))
  fragments_sound (suc k) vs = record {
    both = λ p b c x. let r = (one x.these x.others (fragments_sound k x.others)).both p b c x.alike in
        (record { these = x.these; others = x.others; all = x.all; spelled = r.0 }, record { these = x.these; others = x.others; all = x.all; spelled = r.1 }, r.2);
    itself = λ p b x. record { these = x.these; others = x.others; all = x.all; alike = (one x.these x.others (fragments_sound k x.others)).itself p b x.spelled };
  }
    where
      one : (these others : List Value) → Sound (InFragments a item k others) (FragmentsAlike a pair k others) → Sound (Then (AnyPadding a) (Then (Fragment (length these)) (Then (OneByOne item these) (InFragments a item k others))))
          (Both (Same (AnyPadding a)) (Both (Same (Fragment (length these))) (Both (EachAlike pair these) (FragmentsAlike a pair k others))))
      one these others h = then_sound (same_sound (AnyPadding a)) (then_sound (same_sound (Fragment (length these))) (then_sound (each_sound these) h))

  unconstrained_sound : (vs : List Value) → Sound (UnconstrainedLength a item vs) (UnconstrainedAlike a pair vs)
  unconstrained_sound vs = record {
    both = λ p b c x. let r = (fragments_sound x.fragments vs).both p b c x.alike in (record { fragments = x.fragments; spelled = r.0 }, record { fragments = x.fragments; spelled = r.1 }, r.2);
    itself = λ p b x. record { fragments = x.fragments; alike = (fragments_sound x.fragments vs).itself p b x.spelled };
  }

  form_sound : (l u : Option ℕ) (vs : List Value) → Sound (length_form a l u list_items item vs) (FormAlike a l u pair vs)
  form_sound None u vs = unconstrained_sound vs
  form_sound (Some lb) None vs = unconstrained_sound vs
  form_sound (Some lb) (Some ub) vs = cond_sound (ltb ub 65536)
      (then_sound (same_sound (IsConstrainedWhole a (ub - lb + 1) (length vs - lb))) (then_sound (same_sound (PaddingIf (ltb 0 (length vs) && is_aligned list_items lb ub) a)) (each_sound vs)))
      (unconstrained_sound vs)

  sized_sound : (size : Size) (vs : List Value) → Sound (Sized a size list_items item vs) (SizedAlike a size pair vs)
  sized_sound size vs = record {
    both = λ p b c x. let r = (form_sound size.least size.most vs).both p b c x.alike in (record { allowed = x.allowed; spelled = r.0 }, record { allowed = x.allowed; spelled = r.1 }, r.2);
    itself = λ p b x. record { allowed = x.allowed; alike = (form_sound size.least size.most vs).itself p b x.spelled };
  }

  lengthy_sound : (size : Size) (mark : Bool) (vs : List Value) → Sound (Counted a size mark list_items item vs) (LengthyAlike a size mark pair vs)
  lengthy_sound size false vs = sized_sound size vs
  lengthy_sound size true vs = either_sound (then_sound (same_sound (exactly (false ∷ []))) (sized_sound size vs)) (then_sound (same_sound (exactly (true ∷ []))) (sized_sound any_size vs))

-- open types
pub refill : (a : Settings) (f : Spelling) (b : Bits) (os : List ℕ) → f 0 b → Fills a (exactly b) os → Fills a f os
refill a f b os x (inl y) = inl (record { front = y.front; spare = y.spare; spelled = subst (f 0) (sym y.spelled) x; all = y.all; some = y.some; short = y.short; zeros = y.zeros })
refill a f b os x (inr y) = inr (subst (f 0) (sym y.0) x, y.1)

-- the bits that octets are a complete encoding of
pub record Filled (a : Settings) (f : Spelling) (os : List ℕ) : Type 0 where
  pub bits : Bits
  pub spelled : f 0 bits
  pub are : Fills a (exactly bits) os

pub filled : (a : Settings) (f : Spelling) (os : List ℕ) → Fills a f os → Filled a f os
filled a f os (inl x) = record { bits = x.front; spelled = x.spelled; are = inl (record { front = x.front; spare = x.spare; spelled = refl; all = x.all; some = x.some; short = x.short; zeros = x.zeros }) }
filled a f os (inr x) = record { bits = []; spelled = x.0; are = inr (refl, x.1) }

pub octets_end : (a : Settings) (os qs : List ℕ) (p : ℕ) (b c : Bits) → Octets a os p b → Octets a qs p c → after p b ≡ after p c
octets_end a os qs p b c x y = end_alike a (os ∷ []) (qs ∷ []) p b c
    (record { front = b; rest = []; is_front = x; is_rest = refl; joins = sym (append-nil b) }) (record { front = c; rest = []; is_front = y; is_rest = refl; joins = sym (append-nil c) }) refl

pub open_sound : (a : Settings) {f : Spelling} {F : Pair} → Sound f F → Sound (Open a (Fills a f)) (OpenAlike a F)
open_sound a {f} {F} h = record {
  both = λ p b c x.
      let r = h.both 0 x.contents x.others x.alike in (
        record { octets = x.is_open.octets; are = refill a f x.contents x.is_open.octets r.0 x.is_open.are; spelled = x.is_open.spelled },
        record { octets = x.other_open.octets; are = refill a f x.others x.other_open.octets r.1 x.other_open.are; spelled = x.other_open.spelled },
        octets_end a x.is_open.octets x.other_open.octets p b c x.is_open.spelled x.other_open.spelled,
      );
  itself = λ p b x.
      let r = filled a f x.octets x.are in
      let o : Open a (Fills a (exactly r.bits)) p b = record { octets = x.octets; are = r.are; spelled = x.spelled } in
      record { contents = r.bits; others = r.bits; alike = h.itself 0 r.bits r.spelled; is_open = o; other_open = o };
}

any_sound : (a : Settings) → Sound (Open a (λ os. Unit {0})) (AnyOpens a)
any_sound a = record { both = λ p b c x. (x.0, x.1, octets_end a x.0.octets x.1.octets p b c x.0.spelled x.1.spelled); itself = λ p b x. (x, x) }

unknown_sound : (a : Settings) (bs : List Bool) → Sound (Unknown_in a true bs) (UnknownAlike a bs)
unknown_sound a [] = same_sound (exactly [])
unknown_sound a (false ∷ bs) = unknown_sound a bs
unknown_sound a (true ∷ bs) = then_sound (any_sound a) (unknown_sound a bs)

-- records
pub holds_sound : (s : Option Value) {f : Value → Spelling} {F : Value → Pair} → ((v : Value) → Sound (f v) (F v)) → Sound (Holds s f) (HoldsAlike s F)
holds_sound s h = record {
  both = λ p b c x. let r = (h x.held).both p b c x.alike in (record { held = x.held; is = x.is; spelled = r.0 }, record { held = x.held; is = x.is; spelled = r.1 }, r.2);
  itself = λ p b x. record { held = x.held; is = x.is; alike = (h x.held).itself p b x.spelled };
}

abbrev pub KinsSound : List Kin → Type 0
KinsSound [] = Unit {0}
KinsSound (k ∷ ks) = ((v : Value) → Sound (k.rule.spells v) (k.alike v)) × KinsSound ks

body_sound : (k : Kin) → ((v : Value) → Sound (k.rule.spells v) (k.alike v)) → (b : Bool) (s : Option Value) → Sound (Body k.rule b s) (BodyAlike k b s)
body_sound k h true s = holds_sound s h
body_sound k h false s = same_sound (When (IsLeftOut k.rule.presence s) (exactly []))

bodies_sound : (ks : List Kin) → KinsSound ks → (bs : List Bool) (ss : List (Option Value)) → Sound (Bodies (rules_of ks) bs ss) (BodiesAlike ks bs ss)
bodies_sound [] h [] [] = same_sound (exactly [])
bodies_sound (k ∷ ks) h (b ∷ bs) (s ∷ ss) = then_sound (body_sound k h.0 b s) (bodies_sound ks h.1 bs ss)
bodies_sound [] h [] (s ∷ ss) = no_sound
bodies_sound [] h (b ∷ bs) ss = no_sound
bodies_sound (k ∷ ks) h [] ss = no_sound
bodies_sound (k ∷ ks) h (b ∷ bs) [] = no_sound

pub root_sound : (ks : List Kin) → KinsSound ks → (ss : List (Option Value)) → Sound (Root (rules_of ks) ss) (RootAlike ks ss)
root_sound ks h ss = record {
  both = λ p b c x. let r = (one x.shown).both p b c x.alike in (record { shown = x.shown; spelled = r.0 }, record { shown = x.shown; spelled = r.1 }, r.2);
  itself = λ p b x. record { shown = x.shown; alike = (one x.shown).itself p b x.spelled };
}
  where
    one : (shown : List Bool) → Sound (Then (Flags (rules_of ks) shown) (Bodies (rules_of ks) shown ss)) (Both (Same (Flags (rules_of ks) shown)) (BodiesAlike ks shown ss))
    one shown = then_sound (same_sound (Flags (rules_of ks) shown)) (bodies_sound ks h shown ss)

pub additions_sound : (a : Settings) (ks : List Kin) → KinsSound ks → (ss : List (Option Value)) (bs : List Bool) → Sound (Additions_in a true (rules_of ks) ss bs) (AdditionsAlike a ks ss bs)
additions_sound a [] h [] bs = unknown_sound a bs
additions_sound a [] h (s ∷ ss) bs = no_sound
additions_sound a (k ∷ ks) h [] bs = no_sound
additions_sound a (k ∷ ks) h (s ∷ ss) [] = when_sound (IsLeftOut k.rule.presence s) (additions_sound a ks h.1 ss [])
additions_sound a (k ∷ ks) h (s ∷ ss) (false ∷ bs) = when_sound (IsLeftOut k.rule.presence s) (additions_sound a ks h.1 ss bs)
additions_sound a (k ∷ ks) h (s ∷ ss) (true ∷ bs) = then_sound (holds_sound s (λ v. open_sound a (h.0 v))) (additions_sound a ks h.1 ss bs)

extended_sound : (a : Settings) (ks adds : List Kin) → KinsSound ks → KinsSound adds → (ss xs : List (Option Value)) → Sound (Extended_in a true (rules_of ks) (rules_of adds) ss xs) (ExtendedAlike a ks adds ss xs)
extended_sound a ks adds h k ss xs = record {
  both = λ p b c x. let r = (one x.flags).both p b c x.alike in (record { flags = x.flags; spelled = r.0 }, record { flags = x.flags; spelled = r.1 }, r.2);
  itself = λ p b x. record { flags = x.flags; alike = (one x.flags).itself p b x.spelled };
}
  where
    one : (flags : List Bool) → Sound (Then (exactly (true ∷ [])) (Then (Root (rules_of ks) ss) (Then (IsBitmap a flags) (Additions_in a true (rules_of adds) xs flags))))
        (Both (Same (exactly (true ∷ []))) (Both (RootAlike ks ss) (Both (Same (IsBitmap a flags)) (AdditionsAlike a adds xs flags))))
    one flags = then_sound (same_sound (exactly (true ∷ []))) (then_sound (root_sound ks h ss) (then_sound (same_sound (IsBitmap a flags)) (additions_sound a adds k xs flags)))

fields_sound : (a : Settings) (ext : Bool) (ks adds : List Kin) → KinsSound ks → KinsSound adds → (ss xs : List (Option Value)) → Sound (Record_in a true ext (rules_of ks) (rules_of adds) ss xs) (FieldsAlike a ext ks adds ss xs)
fields_sound a false ks adds h k ss xs = then_sound (root_sound ks h ss) (additions_sound a adds k xs [])
fields_sound a true ks adds h k ss xs =
    either_sound (then_sound (same_sound (exactly (false ∷ []))) (then_sound (root_sound ks h ss) (additions_sound a adds k xs []))) (extended_sound a ks adds h k ss xs)

-- choices
chosen_sound : (ks : List Kin) → KinsSound ks → (i : ℕ) (v : Value) → Sound (Chosen (rules_of ks) i v) (ChosenAlike ks i v)
chosen_sound [] h i v = no_sound
chosen_sound (k ∷ ks) h zero v = h.0 v
chosen_sound (k ∷ ks) h (suc i) v = chosen_sound ks h.1 i v

alternative_sound : (a : Settings) (ext : Bool) (ks adds : List Kin) → KinsSound ks → KinsSound adds → (d : Side) (i : ℕ) (v : Value) →
    Sound (Choice a ext (rules_of ks) (rules_of adds) d i v) (AlternativeAlike a ext ks adds d i v)
alternative_sound a ext ks adds h k root i v =
    then_sound (same_sound (ExtensionBit ext false)) (then_sound (same_sound (IsConstrainedWhole a (length (rules_of ks)) i)) (chosen_sound ks h i v))
alternative_sound a ext ks adds h k added i v =
    then_sound (same_sound (ExtensionBit ext true)) (then_sound (same_sound (Small a i)) (open_sound a (chosen_sound adds k i v)))

as_sound : {X : Type 0} (make : X → Value) {f : X → Spelling} {F : X → Pair} → ((x : X) → Sound (f x) (F x)) → (v : Value) → Sound (As make f v) (AsAlike make F v)
as_sound make h v = record {
  both = λ p b c x. let r = (h x.of).both p b c x.alike in (record { of = x.of; is = x.is; spelled = r.0 }, record { of = x.of; is = x.is; spelled = r.1 }, r.2);
  itself = λ p b x. record { of = x.of; is = x.is; alike = (h x.of).itself p b x.spelled };
}

-- in the order in which they are written
rules_insert : (n : ℕ) (k : Kin) (ks : List Kin) → rules_of (insert_at n k ks) ≡ insert_at n k.rule (rules_of ks)
rules_insert zero k ks = refl
rules_insert (suc n) k [] = refl
rules_insert (suc n) k (j ∷ ks) = ap (λ rs. j.rule ∷ rs) (rules_insert n k ks)

rules_by_tags : (ts : List Tag) (ks : List Kin) → rules_of (by_tags ts ks) ≡ by_tags ts (rules_of ks)
rules_by_tags ts [] = refl
rules_by_tags [] (k ∷ ks) = refl
rules_by_tags (t ∷ ts) (k ∷ ks) = rules_insert (how_many_less t ts) k (by_tags ts ks) ∙ ap (insert_at (how_many_less t ts) k.rule) (rules_by_tags ts ks)

pub rules_ordered : (o : Order) (ts : List Tag) (ks : List Kin) → rules_of (ordered o ts ks) ≡ ordered o ts (rules_of ks)
rules_ordered listed ts ks = refl
rules_ordered by_tag ts ks = rules_by_tags ts ks

sound_insert : (n : ℕ) (k : Kin) (ks : List Kin) → ((v : Value) → Sound (k.rule.spells v) (k.alike v)) → KinsSound ks → KinsSound (insert_at n k ks)
sound_insert zero k ks h i = (h, i)
sound_insert (suc n) k [] h i = (h, tt)
sound_insert (suc n) k (j ∷ ks) h i = (i.0, sound_insert n k ks h i.1)

sound_by_tags : (ts : List Tag) (ks : List Kin) → KinsSound ks → KinsSound (by_tags ts ks)
sound_by_tags ts [] h = tt
sound_by_tags [] (k ∷ ks) h = h
sound_by_tags (t ∷ ts) (k ∷ ks) h = sound_insert (how_many_less t ts) k (by_tags ts ks) h.0 (sound_by_tags ts ks h.1)

pub sound_ordered : (o : Order) (ts : List Tag) (ks : List Kin) → KinsSound ks → KinsSound (ordered o ts ks)
sound_ordered listed ts ks h = h
sound_ordered by_tag ts ks h = sound_by_tags ts ks h

pub rules_kins : (a : Settings) (ps : Parts) → rules_of (kins a ps) ≡ rules_in a true ps
unfolding kins rules_in
rules_kins a no_parts = refl
rules_kins a (part t p s ps) = ap (λ rs. record { presence = p; spells = basic_in a true s } ∷ rs) (rules_kins a ps)

-- all kinds
record_sound : (a : Settings) (o : Order) (ps : Parts) (ext : Bool) (adds : Parts) → KinsSound (kins a ps) → KinsSound (kins a adds) → (ss xs : List (Option Value)) →
    Sound (Record_in a true ext (ordered o (tags ps) (rules_in a true ps)) (rules_in a true adds) ss xs) (FieldsAlike a ext (ordered o (tags ps) (kins a ps)) (kins a adds) ss xs)
record_sound a o ps ext adds h k ss xs =
    let e : rules_of (ordered o (tags ps) (kins a ps)) ≡ ordered o (tags ps) (rules_in a true ps) = rules_ordered o (tags ps) (kins a ps) ∙ ap (ordered o (tags ps)) (rules_kins a ps) in
    let F = FieldsAlike a ext (ordered o (tags ps) (kins a ps)) (kins a adds) ss xs in
    subst (λ rs. Sound (Record_in a true ext rs (rules_in a true adds) ss xs) F) e
    (subst (λ rs. Sound (Record_in a true ext (rules_of (ordered o (tags ps) (kins a ps))) rs ss xs) F) (rules_kins a adds)
    (fields_sound a ext (ordered o (tags ps) (kins a ps)) (kins a adds) (sound_ordered o (tags ps) (kins a ps) h) k ss xs))

choice_sound : (a : Settings) (ps adds : Parts) (ext : Bool) → KinsSound (kins a ps) → KinsSound (kins a adds) → (d : Side) (i : ℕ) (v : Value) →
    Sound (Choice a ext (rules_in a true ps) (rules_in a true adds) d i v) (AlternativeAlike a ext (kins a ps) (kins a adds) d i v)
choice_sound a ps adds ext h k d i v =
    let F = AlternativeAlike a ext (kins a ps) (kins a adds) d i v in
    subst (λ rs. Sound (Choice a ext rs (rules_in a true adds) d i v) F) (rules_kins a ps)
    (subst (λ rs. Sound (Choice a ext (rules_of (kins a ps)) rs d i v) F) (rules_kins a adds) (alternative_sound a ext (kins a ps) (kins a adds) h k d i v))

mutual
  unfolding alike_in kins basic_in

  pub all_sound : (a : Settings) (s : Schema) (v : Value) → Sound (basic a s v) (alike_in a s v)
  all_sound a (Schema.containing e) v = open_sound a (all_sound a e v)
  all_sound a (Schema.list e size mark) v = as_sound (λ vs. elements (as_values vs)) (lengthy_sound a (basic a e) (alike_in a e) (all_sound a e) size mark) v
  all_sound a (Schema.set_of e size mark) v = as_sound bag_of (lengthy_sound a (basic a e) (alike_in a e) (all_sound a e) size mark) v
  all_sound a (Schema.sequence o ps ext adds) v =
      as_sound (λ (x : List (Option Value) × List (Option Value)). fields (as_slots x.0) (as_slots x.1)) (λ x. record_sound a o ps ext adds (kins_sound a ps) (kins_sound a adds) (ordered o (tags ps) x.0) x.1) v
  all_sound a (Schema.choice ps adds ext) v =
      as_sound (λ (x : Side × ℕ × Value). alternative x.0 x.1 x.2) (λ x. choice_sound a ps adds ext (kins_sound a ps) (kins_sound a adds) x.0 x.1 x.2) v
  all_sound a s v = same_sound (basic a s v)

  pub kins_sound : (a : Settings) (ps : Parts) → KinsSound (kins a ps)
  kins_sound a no_parts = tt
  kins_sound a (part t p s ps) = (all_sound a s, kins_sound a ps)

-- ---- complete encodings

module _ (a : Settings) (s : Schema) (os qs : List ℕ) (k : AreAlike a s os qs) where
  two_spelled : basic a s k.value 0 k.bits × basic a s k.value 0 k.other_bits × (after 0 k.bits ≡ after 0 k.other_bits)
  two_spelled = (all_sound a s k.value).both 0 k.bits k.other_bits k.alike

  pub first_read : fills a s k.value os
  first_read = refill a (basic a s k.value) k.bits os two_spelled.0 k.are

  pub second_read : fills a s k.value qs
  second_read = refill a (basic a s k.value) k.other_bits qs two_spelled.1 k.others_are

  pub read_the_same : (v : Value) → fills a s v os ↔ fills a s v qs
  read_the_same v = (
    λ x. subst (λ w. fills a s w qs) (one_value a s k.value v os first_read x) second_read,
    λ x. subst (λ w. fills a s w os) (one_value a s k.value v qs second_read x) first_read,
  )

  pub front_the_same : (v : Value) (rest left : List ℕ) → front a s v (os ++ rest) left ↔ front a s v (qs ++ rest) left
  front_the_same v rest left = (
    λ x. let e = one_front a s v k.value (os ++ rest) left rest x (os, refl, first_read) in
        subst (λ w. front a s w (qs ++ rest) left) (sym e.0) (subst (front a s k.value (qs ++ rest)) (sym e.1) (qs, refl, second_read)),
    λ x. let e = one_front a s v k.value (qs ++ rest) left rest x (qs, refl, second_read) in
        subst (λ w. front a s w (os ++ rest) left) (sym e.0) (subst (front a s k.value (os ++ rest)) (sym e.1) (os, refl, first_read)),
  )

-- what is read is alike itself
pub alike_itself : (a : Settings) (s : Schema) (v : Value) (os : List ℕ) → fills a s v os → AreAlike a s os os
alike_itself a s v os x =
    let r = filled a (basic a s v) os x in
    record { value = v; bits = r.bits; other_bits = r.bits; alike = (all_sound a s v).itself 0 r.bits r.spelled; are = r.are; others_are = r.are }
