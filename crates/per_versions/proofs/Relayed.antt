-- What is read of a value that was read and is written again.
use Rattle.std.proofs.Common.{◌≡◌, ◌↔◌, refl, sym, ap, ◌∙◌, subst, ℕ, ◌+◌, ◌≤◌, Bool, false, List, Some, Result, Ok, Err, inl, inr, arith}
use Rattle.rasn_types.specs.Variants.{variant_of}
use Rattle.rasn_types.specs.Values.{Value}
use Rattle.rasn_types.specs.declared.types.Codec.{Codec}
use Rattle.rasn_schema.specs.Lawful.{IsLawful}
use Rattle.rasn_schema.specs.Levels.{Levelled}
use Rattle.rasn_schema.specs.Normal.{normal}
use Rattle.rasn_schema.specs.Schemas.{Schema}
use Rattle.per_core.specs.Basic.{basic_in, Fills, fills_known, read}
use Rattle.per_core.specs.Spellings.{Settings, Spelling}
use Rattle.per_core.specs.Versions.{NewerType, project}
use Rattle.per_laws.proofs.Takes.{some_is}
use Rattle.per_laws.proofs.Carry.{fills_carry}
use Rattle.per_laws.proofs.Loosen.{loose, loosen}
use Rattle.per_laws.proofs.VersionsAt128Levels.{levelled_holds, older_less, newer_less}
use Rattle.per_core.specs.declared.decode_error.DecodeError.{DecodeError}
use Rattle.rasn_per.specs.Calls.{DecodedBy, AreBytes, reading}
use Rattle.per_versions.specs.Answers.{Answers}
use Rattle.per_versions.specs.Readings.{depth_of, normal_form, IsInReach, IsProjection, IsWidening}
use Rattle.per_versions.proofs.Depths.{normal_at, projection_at}
use Rattle.per_versions.proofs.Laws
use Rattle.per_versions.proofs.PassedOn.{commute}
use Rattle.per_versions.proofs.ProjectionsBack.{goes_back}
use Rattle.per_versions.proofs.Normalised.{stays_in_reach}

pub older_relayed : (a b : Settings) (T' T : ℕ → Schema) → Levelled T' → Levelled T → ((n : ℕ) → IsLawful (T' n)) → NewerType T' T → (k : ℕ) (v : Value) (os ps : List ℕ) → read a T' v os → AreBytes b.variant T' k v ps →
    (w : Value) → read b T w ps ↔ IsProjection T' T (normal_form T' v) w
older_relayed a b T' T g' g l x k v os ps r h = Laws.older_projects b T' T g' g x (normal_form T' v) ps ((Laws.read_again a b T' g' l k v os ps r h (normal_form T' v)).1 refl)

pub newer_relayed : (a b : Settings) (T' T : ℕ → Schema) → Levelled T' → Levelled T → ((n : ℕ) → IsLawful (T n)) → NewerType T' T → (k : ℕ) (v : Value) (os ps : List ℕ) → read a T v os → AreBytes b.variant T k v ps →
    (w : Value) → read b T' w ps ↔ IsWidening T' T (normal_form T v) w
newer_relayed a b T' T g' g l x k v os ps r h =
    let again = (Laws.read_again a b T g l k v os ps r h (normal_form T v)).1 refl in
    Laws.newer_widens b T' T g' g x (normal_form T v) ps (Laws.written_known b T g k v ps h (normal_form T v) again)

-- the trees of two versions are cut off at the same places
pub in_older_reach : (a : Settings) (T' T : ℕ → Schema) → Levelled T' → ((n : ℕ) → IsLawful (T' n)) → NewerType T' T → (v : Value) (os : List ℕ) → read a T' v os → IsInReach T T' (normal_form T' v)
in_older_reach a T' T g' l x v os r = older_less (x 128) (normal_form T' v) (stays_in_reach a T' g' l v os r)

pub in_newer_reach : (a : Settings) (T' T : ℕ → Schema) → Levelled T → ((n : ℕ) → IsLawful (T n)) → NewerType T' T → (v : Value) (os : List ℕ) → read a T v os → IsInReach T' T (normal_form T v)
in_newer_reach a T' T g l x v os r = newer_less (x 128) (normal_form T v) (stays_in_reach a T g l v os r)

-- what is known with zero padding is known with any
pub loosely_known : (a : Settings) (s : Schema) (v : Value) (os : List ℕ) → fills_known a s v os → fills_known (loose a) s v os
loosely_known a s v os x = go (basic_in (loose a) false s v) (fills_carry a os (loosen a false s v) x)
  where
    go : (f : Spelling) → Fills a f os → Fills (loose a) f os
    go f (inl x) = inl (record { front = x.front; spare = x.spare; spelled = x.spelled; all = x.all; some = x.some; short = x.short; zeros = tt })
    go f (inr x) = inr x

-- the projection of a value and that of its normal form have one normal form
module _ (T' T : ℕ → Schema) (g' : Levelled T') (g : Levelled T) (l : (n : ℕ) → IsLawful (T n)) (x : NewerType T' T) (v w : Value) (i : IsProjection T' T v w) where
  -- at each depth that holds the value and its normal form
  at_depth : (n : ℕ) → depth_of v ≤ n → depth_of (normal_form T' v) ≤ n → (u : Value) × IsProjection T' T (normal_form T' v) u × (normal (T n) u ≡ normal (T n) w)
  at_depth n a b =
      let z = normal_form T' v in
      let held = levelled_holds T' g' v n (omega arith) in
      let q = commute (x n) (l n) v w held ((projection_at T' T g' g x v w n held).0 i) in
      let e = subst (λ y. project (T' n) (T n) y ≡ Some q.0) (normal_at T' g' v n a) q.1 in
      (q.0, (projection_at T' T g' g x z q.0 n (levelled_holds T' g' z n (omega arith))).1 e, q.2)

  one_projection : (u u' : Value) → IsProjection T' T (normal_form T' v) u → IsProjection T' T (normal_form T' v) u' → u ≡ u'
  one_projection u u' j k = some_is u u' (sym j ∙ k)

  same_form : (u r : Value) (m : ℕ) → depth_of u ≤ m → depth_of w ≤ m → r ≡ u → normal (T m) r ≡ normal (T m) w → normal_form T u ≡ normal_form T w
  same_form u r m a b e f = sym (normal_at T g u m a) ∙ ap (normal (T m)) (sym e) ∙ f ∙ normal_at T g w m b

  pub passed : (u : Value) × IsProjection T' T (normal_form T' v) u × (normal_form T u ≡ normal_form T w)
  passed =
      let n = depth_of v + depth_of (normal_form T' v) in
      let q = at_depth n (omega arith) (omega arith) in
      let r = at_depth (n + depth_of q.0 + depth_of w) (omega arith) (omega arith) in
      (q.0, q.1, same_form q.0 r.0 (n + depth_of q.0 + depth_of w) (omega arith) (omega arith) (one_projection r.0 q.0 r.1 q.1) r.2)

  pub passed_alike : (u : Value) → IsProjection T' T (normal_form T' v) u → normal_form T u ≡ normal_form T w
  passed_alike u j = ap (normal_form T) (one_projection u passed.0 j passed.1) ∙ passed.2

-- and where the normal form of a value has a projection, the value has one
pub returned : (T' T : ℕ → Schema) → Levelled T' → Levelled T → ((n : ℕ) → IsLawful (T n)) → NewerType T' T → (v u : Value) → IsProjection T' T (normal_form T' v) u → (w : Value) × IsProjection T' T v w
returned T' T g' g l x v u i =
    let z = normal_form T' v in
    let n = depth_of v + depth_of z in
    let e = (projection_at T' T g' g x z u n (levelled_holds T' g' z n (omega arith))).0 i in
    let held = levelled_holds T' g' v n (omega arith) in
    let q = goes_back (x n) (l n) v u held (subst (λ y. project (T' n) (T n) y ≡ Some u) (sym (normal_at T' g' v n (omega arith))) e) in
    (q.0, (projection_at T' T g' g x v q.0 n held).1 q.1)

-- a reader answers one of the values that octets are read as, where there is one
pub one_of : {T : Type 0} (strict : Bool) (codec : Codec) (type : ℕ → Schema) (value : T → Value) (octets : List ℕ) (answer : Result T DecodeError) (IsRead : Value → Type 0) (u : Value) →
    DecodedBy strict codec type value octets answer → read (reading strict (variant_of codec)) type u octets → ((w : Value) → read (reading strict (variant_of codec)) type w octets → IsRead w) → Answers value IsRead answer
one_of strict codec type value octets (Ok x) IsRead u d r h = record { ok = h (value x) d.ok.are_read; err = tt }
one_of strict codec type value octets (Err e) IsRead u d r h = record { ok = tt; err = λ m w i. d.err m u r }
