-- Two encodings that are the same but for additions that the schema doesn't know, at any depth (ITU-T X.691, 19.9).
use Rattle.std.specs.Prelude.{ℕ, zero, suc, ◌+◌, ◌-◌, ◌≡◌, ◌⊎◌, Bool, true, false, cond, ◌&&◌, nat_lt, List, [], ◌∷◌}
use Rattle.std.specs.Prelude.{◌++◌, length, Option, Some, None}
use Rattle.rasn_types.specs.Bits.{Bits}
use Rattle.rasn_types.specs.Values.{Value, elements, bag_of, fields, alternative, Side, root, added, as_values}
use Rattle.rasn_types.specs.Values.{as_slots}
use Rattle.rasn_constraints.specs.Bounds.{allows, Size, any_size}
use Rattle.rasn_schema.specs.Orders.{ordered}
use Rattle.rasn_schema.specs.Schemas
use Rattle.rasn_schema.specs.Schemas.{tags, Schema, Parts, no_parts, part}
use Rattle.per_core.specs.Basic.{IsConstrainedWhole, LastCount, Fragment, PaddingIf, Small, Fills, Open, Rule, Flags}
use Rattle.per_core.specs.Basic.{IsLeftOut, IsBitmap, ExtensionBit, basic}
use Rattle.per_core.specs.Counts.{list_items, is_aligned}
use Rattle.per_core.specs.Spellings.{Settings, Spelling, exactly, When, AnyPadding}
use Rattle.per_core.specs.Writers.{after}

-- two lists of bits that may be from a position on
abbrev pub Pair : Type 1
Pair = ℕ → Bits → Bits → Type 0

-- two lists of bits are one, of one spelling
abbrev pub Same : Spelling → Pair
Same f p b c = f p b × (b ≡ c)

-- no two lists
abbrev pub no_pair : Pair
no_pair p b c = ⊥

-- a pair, where a fact holds
abbrev pub WhenPair : Type 0 → Pair → Pair
WhenPair A F p b c = A × F p b c

-- one of two pairs
abbrev pub EitherPair : Pair → Pair → Pair
EitherPair F G p b c = F p b c ⊎ G p b c

-- one pair in front of another
pub record Both (F G : Pair) (p : ℕ) (b c : Bits) : Type 0 where
  pub front : Bits
  pub rest : Bits
  pub other_front : Bits
  pub other_rest : Bits
  pub is_front : F p front other_front
  pub is_rest : G (after p front) rest other_rest
  pub joins : b ≡ front ++ rest
  pub others_join : c ≡ other_front ++ other_rest

-- elements, each alike
abbrev pub EachAlike : (Value → Pair) → List Value → Pair
EachAlike element [] = Same (exactly [])
EachAlike element (v ∷ vs) = Both (element v) (EachAlike element vs)

-- X.691 11.9.3.8: one fragment of elements after the same count, and the rest
pub record FragmentAlike (a : Settings) (element : Value → Pair) (rest : List Value → Pair) (vs : List Value) (p : ℕ)
    (b c : Bits) : Type 0 where
  pub these : List Value
  pub others : List Value
  pub all : vs ≡ these ++ others
  pub alike : Both (Same (AnyPadding a)) (Both (Same (Fragment (length these)))
      (Both (EachAlike element these) (rest others))) p b c

-- X.691 11.9.3.5 to 11.9.3.8: elements in k fragments and a last one, after the same counts
abbrev pub FragmentsAlike : Settings → (Value → Pair) → ℕ → List Value → Pair
FragmentsAlike a element zero vs =
    Both (Same (AnyPadding a)) (Both (Same (LastCount (length vs))) (EachAlike element vs))
FragmentsAlike a element (suc k) vs = FragmentAlike a element (FragmentsAlike a element k) vs

-- in some number of fragments
pub record UnconstrainedAlike (a : Settings) (element : Value → Pair) (vs : List Value) (p : ℕ) (b c : Bits)
    : Type 0 where
  pub fragments : ℕ
  pub alike : FragmentsAlike a element fragments vs p b c

-- X.691 11.9.3.3, 11.9.4.1: elements after the same count, by the bounds of it
abbrev pub FormAlike : Settings → Option ℕ → Option ℕ → (Value → Pair) → List Value → Pair
FormAlike a None most element vs = UnconstrainedAlike a element vs
FormAlike a (Some lb) None element vs = UnconstrainedAlike a element vs
FormAlike a (Some lb) (Some ub) element vs = cond (nat_lt ub 65536)
    (Both (Same (IsConstrainedWhole a (ub - lb + 1) (length vs - lb)))
    (Both (Same (PaddingIf (nat_lt 0 (length vs) && is_aligned list_items lb ub) a)) (EachAlike element vs)))
    (UnconstrainedAlike a element vs)

-- elements whose count the size allows
pub record SizedAlike (a : Settings) (size : Size) (element : Value → Pair) (vs : List Value) (p : ℕ) (b c : Bits)
    : Type 0 where
  pub allowed : allows size (length vs) ≡ true
  pub alike : FormAlike a size.least size.most element vs p b c

-- X.691 20.4: elements under a size constraint, after the same extension bit, where it has one
abbrev pub LengthyAlike : Settings → Size → Bool → (Value → Pair) → List Value → Pair
LengthyAlike a size false element vs = SizedAlike a size element vs
LengthyAlike a size true element vs = EitherPair (Both (Same (exactly (false ∷ []))) (SizedAlike a size element vs))
    (Both (Same (exactly (true ∷ []))) (SizedAlike a any_size element vs))

-- X.691 11.2: two open types, whose octets are complete encodings of two alike; there may be more octets in the one
pub record OpenAlike (a : Settings) (F : Pair) (p : ℕ) (b c : Bits) : Type 0 where
  pub contents : Bits
  pub others : Bits
  pub alike : F 0 contents others
  pub is_open : Open a (Fills a (exactly contents)) p b
  pub other_open : Open a (Fills a (exactly others)) p c

-- X.691 19.9: two additions that the schema doesn't know: open types of any octets
abbrev pub AnyOpens : Settings → Pair
AnyOpens a p b c = Open a (λ os. Unit {0}) p b × Open a (λ os. Unit {0}) p c

-- as many as the same bits show
abbrev pub UnknownAlike : Settings → List Bool → Pair
UnknownAlike a [] = Same (exactly [])
UnknownAlike a (false ∷ bs) = UnknownAlike a bs
UnknownAlike a (true ∷ bs) = Both (AnyOpens a) (UnknownAlike a bs)

-- a part, addition or alternative, how its value is spelled, and which two spellings of it are alike
pub record Kin : Type 1 where
  pub rule : Rule
  pub alike : Value → Pair

-- how the values are spelled
abbrev pub rules_of : List Kin → List Rule
rules_of [] = []
rules_of (k ∷ ks) = k.rule ∷ rules_of ks

-- a part that is there in both
pub record HoldsAlike (s : Option Value) (F : Value → Pair) (p : ℕ) (b c : Bits) : Type 0 where
  pub held : Value
  pub is : s ≡ Some held
  pub alike : F held p b c

-- a part that the same presence bit shows, or leaves out
abbrev pub BodyAlike : Kin → Bool → Option Value → Pair
BodyAlike k true s = HoldsAlike s k.alike
BodyAlike k false s = Same (When (IsLeftOut k.rule.presence s) (exactly []))

-- all parts
abbrev pub BodiesAlike : List Kin → List Bool → List (Option Value) → Pair
BodiesAlike [] [] [] = Same (exactly [])
BodiesAlike (k ∷ ks) (b ∷ bs) (s ∷ ss) = Both (BodyAlike k b s) (BodiesAlike ks bs ss)
BodiesAlike _ _ _ = no_pair

-- X.691 19.2 to 19.6: the same presence bits, and the root parts
pub record RootAlike (ks : List Kin) (ss : List (Option Value)) (p : ℕ) (b c : Bits) : Type 0 where
  pub shown : List Bool
  pub alike : Both (Same (Flags (rules_of ks) shown)) (BodiesAlike ks shown ss) p b c

-- X.691 19.7 to 19.9: additions as the same bitmap shows them: those of the schema alike, and after them any
abbrev pub AdditionsAlike : Settings → List Kin → List (Option Value) → List Bool → Pair
AdditionsAlike a [] [] bs = UnknownAlike a bs
AdditionsAlike a [] (s ∷ ss) bs = no_pair
AdditionsAlike a (k ∷ ks) [] bs = no_pair
AdditionsAlike a (k ∷ ks) (s ∷ ss) [] = WhenPair (IsLeftOut k.rule.presence s) (AdditionsAlike a ks ss [])
AdditionsAlike a (k ∷ ks) (s ∷ ss) (false ∷ bs) = WhenPair (IsLeftOut k.rule.presence s) (AdditionsAlike a ks ss bs)
AdditionsAlike a (k ∷ ks) (s ∷ ss) (true ∷ bs) =
    Both (HoldsAlike s (λ v. OpenAlike a (k.alike v))) (AdditionsAlike a ks ss bs)

-- X.691 19: extension bit 1, the root parts, the same bitmap, and the additions that it shows
pub record ExtendedAlike (a : Settings) (ks adds : List Kin) (ss xs : List (Option Value)) (p : ℕ) (b c : Bits)
    : Type 0 where
  pub flags : List Bool
  pub alike : Both (Same (exactly (true ∷ []))) (Both (RootAlike ks ss)
      (Both (Same (IsBitmap a flags)) (AdditionsAlike a adds xs flags))) p b c

-- X.691 19, 21: a SEQUENCE or SET
abbrev pub FieldsAlike : Settings → Bool → List Kin → List Kin → List (Option Value) → List (Option Value) → Pair
FieldsAlike a false ks adds ss xs = Both (RootAlike ks ss) (AdditionsAlike a adds xs [])
FieldsAlike a true ks adds ss xs =
    EitherPair (Both (Same (exactly (false ∷ []))) (Both (RootAlike ks ss) (AdditionsAlike a adds xs [])))
    (ExtendedAlike a ks adds ss xs)

-- the value of the alternative at a place
abbrev pub ChosenAlike : List Kin → ℕ → Value → Pair
ChosenAlike [] i v = no_pair
ChosenAlike (k ∷ ks) zero v = k.alike v
ChosenAlike (k ∷ ks) (suc i) v = ChosenAlike ks i v

-- X.691 23: the same alternative
abbrev pub AlternativeAlike : Settings → Bool → List Kin → List Kin → Side → ℕ → Value → Pair
AlternativeAlike a ext ks adds root i v =
    Both (Same (ExtensionBit ext false))
    (Both (Same (IsConstrainedWhole a (length (rules_of ks)) i)) (ChosenAlike ks i v))
AlternativeAlike a ext ks adds added i v =
    Both (Same (ExtensionBit ext true)) (Both (Same (Small a i)) (OpenAlike a (ChosenAlike adds i v)))

-- a value that is made of what both spell
pub record AsAlike {X : Type 0} (make : X → Value) (F : X → Pair) (v : Value) (p : ℕ) (b c : Bits) : Type 0 where
  pub of : X
  pub is : v ≡ make of
  pub alike : F of p b c

unfoldable mutual
  unfolding Schemas.smallest bag_of

  -- two spellings of a value along its schema, from one position on: the same, bit for bit, but for the octets of
  -- additions that the schema doesn't know, and for the octets of the open types in which these stand
  pub alike_in : Settings → Schema → Value → Pair
  alike_in a (Schema.containing e) = λ v. OpenAlike a (alike_in a e v)
  alike_in a (Schema.list e size mark) =
      AsAlike (λ vs. elements (as_values vs)) (LengthyAlike a size mark (alike_in a e))
  alike_in a (Schema.set_of e size mark) = AsAlike bag_of (LengthyAlike a size mark (alike_in a e))
  alike_in a (Schema.sequence o ps ext adds) =
      AsAlike (λ (x : List (Option Value) × List (Option Value)). fields (as_slots x.0) (as_slots x.1))
      (λ x. FieldsAlike a ext (ordered o (tags ps) (kins a ps)) (kins a adds) (ordered o (tags ps) x.0) x.1)
  alike_in a (Schema.choice ps adds ext) =
      AsAlike (λ (x : Side × ℕ × Value). alternative x.0 x.1 x.2)
      (λ x. AlternativeAlike a ext (kins a ps) (kins a adds) x.0 x.1 x.2)
  alike_in a s = λ v. Same (basic a s v)

  -- two spellings of each of some parts, additions or alternatives, but for what stands unknown in open types
  pub kins : Settings → Parts → List Kin
  kins a no_parts = []
  kins a (part t p s ps) =
      record { rule = record { presence = p; spells = basic a s }; alike = alike_in a s } ∷ kins a ps

-- X.691 11.1: octets and others that are complete encodings, alike but for additions that the schema doesn't know
pub record AreAlike (a : Settings) (s : Schema) (octets others : List ℕ) : Type 0 where
  pub value : Value
  pub bits : Bits
  pub other_bits : Bits
  pub alike : alike_in a s value 0 bits other_bits
  pub are : Fills a (exactly bits) octets
  pub others_are : Fills a (exactly other_bits) others
