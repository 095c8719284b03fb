-- What is read, in the words of the calls.
use Rattle.std.proofs.Common.{◌≡◌, ◌↔◌, sym, ap, ◌∙◌, subst, ℕ, ◌+◌, ◌≤◌, ◌<◌, length, List, Option, Some, None, Result, Ok, Err, Bool, false, arith}
use Rattle.std.proofs.Math.Nat.{le_refl}
use Rattle.rasn_types.specs.Bits.{AreOctets}
use Rattle.rasn_types.specs.Variants.{variant_of, Variant}
use Rattle.rasn_types.specs.Values.{Value}
use Rattle.rasn_types.specs.declared.types.Codec.{Codec}
use Rattle.rasn_schema.specs.Schemas.{Schema}
use Rattle.rasn_schema.specs.Depth.{meets_cut}
use Rattle.rasn_schema.specs.Lawful.{IsLawful}
use Rattle.rasn_schema.specs.Levels.{Levelled}
use Rattle.rasn_schema.specs.Normal.{normal}
use Rattle.per_core.specs.Basic.{fills_known, read}
use Rattle.per_core.specs.Canon.{bytes}
use Rattle.per_core.specs.Spellings.{Settings}
use Rattle.per_core.specs.Versions.{NewerType, project, widen}
use Rattle.per_core.proofs.Laws.{same_bytes, full_octets}
use Rattle.per_laws.proofs.AnyDepth.{older_reader_at, newer_reader_at}
use Rattle.per_laws.proofs.Carry.{fills_carry}
use Rattle.per_laws.proofs.Chains.{projects_in_steps}
use Rattle.per_laws.proofs.OlderReadings.{newer_holds}
use Rattle.per_laws.proofs.Normals.{normal_of_normal}
use Rattle.per_laws.proofs.Readers.{written_is_known}
use Rattle.per_laws.proofs.Transitive.{newer_transitive}
use Rattle.per_laws.proofs.Types.{up_to}
use Rattle.per_laws.specs.Levels.{levels_of}
use Rattle.per_laws.proofs.Depths
use Rattle.per_laws.proofs.VersionsAt128Levels.{levelled_holds, few_levels_are_projected, few_levels_are_widened}
use Rattle.per_laws.proofs.Levelled.{levelled_type_unfolds, few_levels_are_read}
use Rattle.per_laws.proofs.Peers
use Rattle.per_core.specs.declared.decode_error.DecodeError.{DecodeError}
use Rattle.rasn_per.specs.Calls.{DecodedBy, AreBytes, HasNoBytes, basically, reading}
use Rattle.per_versions.specs.Answers.{Answers}
use Rattle.per_versions.specs.Readings.{AreCanonical, depth_of, normal_form, IsProjection, IsWidening, IsReadBack, IsReadByOlder, IsReadByNewer}
use Rattle.per_versions.proofs.Depths.{is_held, normal_at, bytes_at, no_bytes_at, projection_at, widening_at}
use Rattle.per_versions.proofs.Normalised.{stays_in_reach}

-- a reader answers just what the octets are read as
pub answered : {T : Type 0} (strict : Bool) (codec : Codec) (type : ℕ → Schema) (value : T → Value) (octets : List ℕ) (answer : Result T DecodeError) (IsRead : Value → Type 0) →
    DecodedBy strict codec type value octets answer → ((w : Value) → read (reading strict (variant_of codec)) type w octets ↔ IsRead w) → Answers value IsRead answer
answered strict codec type value octets (Ok x) IsRead d h = record { ok = (h (value x)).0 d.ok.are_read; err = tt }
answered strict codec type value octets (Err e) IsRead d h = record { ok = tt; err = λ m w r. d.err m w ((h w).1 r) }

-- what canonical octets are read as
pub own_reads : (a : Settings) (T : ℕ → Schema) → Levelled T → (k : ℕ) (v : Value) (os : List ℕ) → AreBytes a.variant T k v os → (w : Value) → read a T w os ↔ IsReadBack T v w
own_reads a T g k v os h w =
    let e = bytes_at T g a.variant k v os h (k + depth_of v) (omega arith) (omega arith) in
    let q = Depths.type_reads a T (levelled_type_unfolds T g) (normal_form T v) os (k + depth_of v) e in
    (λ x. let r = q.0 w x in record { normal = r.0; in_reach = r.1 }, λ r. subst (λ z. read a T z os) (sym r.normal) (q.1 r.in_reach))

pub older_reads : (a : Settings) (T' T : ℕ → Schema) → Levelled T' → Levelled T → NewerType T' T → (k : ℕ) (v : Value) (os : List ℕ) → AreBytes a.variant T' k v os →
    (w : Value) → read a T w os ↔ IsReadByOlder T' T v w
older_reads a T' T g' g x k v os h w =
    let q = Peers.older_type_reads a T' T (levelled_type_unfolds T' g') (levelled_type_unfolds T g) x z os n n (le_refl n) (omega arith) held e w in
    (λ y. let r = q.0 y in record { projection = p.1 r.0; in_reach = r.1 }, λ r. q.1 (p.0 r.projection) r.in_reach)
  where
    z : Value
    z = normal_form T' v

    n : ℕ
    n = k + depth_of v + depth_of z + 128

    held : meets_cut (T' n) z ≡ false
    held = levelled_holds T' g' z n (omega arith)

    p : IsProjection T' T z w ↔ (project (T' n) (T n) z ≡ Some w)
    p = projection_at T' T g' g x z w n held

    e : bytes a.variant (T' n) z ≡ Some os
    e = bytes_at T' g' a.variant k v os h n (omega arith) (omega arith)

pub newer_reads : (a : Settings) (T' T : ℕ → Schema) → Levelled T' → Levelled T → NewerType T' T → (k : ℕ) (v : Value) (os : List ℕ) → AreBytes a.variant T k v os →
    (w : Value) → read a T' w os ↔ IsReadByNewer T' T v w
newer_reads a T' T g' g x k v os h w =
    let q = Peers.newer_type_reads a T' T (levelled_type_unfolds T' g') (levelled_type_unfolds T g) x z os n n (le_refl n) (omega arith) e w held in
    (λ y. let r = q.0 y in record { widening = p.1 r.0; in_reach = r.1 }, λ r. q.1 (p.0 r.widening) r.in_reach)
  where
    z : Value
    z = normal_form T v

    n : ℕ
    n = k + depth_of v + depth_of w + 128

    held : meets_cut (T' n) w ≡ false
    held = levelled_holds T' g' w n (omega arith)

    p : IsWidening T' T z w ↔ (widen (T' n) (T n) z ≡ Some w)
    p = widening_at T' T g' g x w z n held

    e : bytes a.variant (T n) z ≡ Some os
    e = bytes_at T g a.variant k v os h n (omega arith) (omega arith)

-- what octets of any basic encoding are read as
pub older_projects : (a : Settings) (T' T : ℕ → Schema) → Levelled T' → Levelled T → NewerType T' T → (v : Value) (os : List ℕ) → read a T' v os → (w : Value) → read a T w os ↔ IsProjection T' T v w
older_projects a T' T g' g x v os r w = older_reader_at a T' T (levelled_type_unfolds T' g') (levelled_type_unfolds T g) x v w os (depth_of v) (is_held T' g' v) r

pub newer_widens : (a : Settings) (T' T : ℕ → Schema) → Levelled T' → Levelled T → NewerType T' T → (v : Value) (os : List ℕ) → fills_known a (T 128) v os → (w : Value) → read a T' w os ↔ IsWidening T' T v w
newer_widens a T' T g' g x v os r w = newer_reader_at a T' T (levelled_type_unfolds T' g') (levelled_type_unfolds T g) x v w os (depth_of w) (is_held T' g' w) r

-- octets without unknown additions have none that a newer version doesn't know
pub stays_known : (a : Settings) (T' T : ℕ → Schema) → Levelled T' → Levelled T → NewerType T' T → (v w : Value) (os : List ℕ) → fills_known a (T 128) v os → IsWidening T' T v w → fills_known a (T' 128) w os
stays_known a T' T g' g x v w os h i = fills_carry a os
    (newer_holds a (x 128) (up_to T' (levelled_type_unfolds T' g') 128 n (omega arith)) (up_to T (levelled_type_unfolds T g) 128 n (omega arith)) (x n) v w held ((widening_at T' T g' g x w v n held).0 i)) h
  where
    n : ℕ
    n = depth_of w + 128

    held : meets_cut (T' n) w ≡ false
    held = levelled_holds T' g' w n (omega arith)

-- nor have canonical octets
pub written_known : (a : Settings) (T : ℕ → Schema) → Levelled T → (k : ℕ) (v : Value) (os : List ℕ) → AreBytes a.variant T k v os → (w : Value) → read a T w os → fills_known a (T 128) w os
written_known a T g k v os h w r =
    let n = k + depth_of v + 128 in
    let q = (own_reads a T g k v os h w).0 r in
    let e = bytes_at T g a.variant k v os h n (omega arith) (omega arith) in
    let f = (Depths.writes_at_less a.variant (T 128) (T n) (up_to T (levelled_type_unfolds T g) 128 n (omega arith)) (normal_form T v) os).1 e q.in_reach in
    subst (λ z. fills_known a (T 128) z os) (sym q.normal) (written_is_known a (T 128) (normal_form T v) os f)

-- three versions
pub transitive : (T'' T' T : ℕ → Schema) → NewerType T'' T' → NewerType T' T → NewerType T'' T
transitive T'' T' T x y n = newer_transitive (T'' n) (T' n) (T n) (x n) (y n)

pub in_steps : (T'' T' T : ℕ → Schema) → Levelled T'' → Levelled T' → Levelled T → NewerType T'' T' → NewerType T' T → (v w u : Value) → IsProjection T'' T' v w → IsProjection T' T w u ↔ IsProjection T'' T v u
in_steps T'' T' T g'' g' g x y v w u i = (λ j. q.1 (sym s ∙ p.0 j), λ j. p.1 (s ∙ q.0 j))
  where
    n : ℕ
    n = depth_of v + depth_of w

    held : meets_cut (T'' n) v ≡ false
    held = levelled_holds T'' g'' v n (omega arith)

    s : project (T' n) (T n) w ≡ project (T'' n) (T n) v
    s = projects_in_steps (T'' n) (T' n) (T n) (x n) (y n) v w ((projection_at T'' T' g'' g' x v w n held).0 i)

    p : IsProjection T' T w u ↔ (project (T' n) (T n) w ≡ Some u)
    p = projection_at T' T g' g y w u n (levelled_holds T' g' w n (omega arith))

    q : IsProjection T'' T v u ↔ (project (T'' n) (T n) v ≡ Some u)
    q = projection_at T'' T g'' g (transitive T'' T' T x y) v u n held

-- round trips
pub told_apart : (a : Variant) (T : ℕ → Schema) → Levelled T → (k l : ℕ) (v w : Value) (os ps : List ℕ) → AreBytes a T k v os → AreBytes a T l w ps → (os ≡ ps) ↔ (normal_form T v ≡ normal_form T w)
told_apart a T g k l v w os ps h i = (λ j. same_bytes a (T n) (normal_form T v) (normal_form T w) ps (e ∙ ap Some j) f, λ j. one (sym e ∙ ap (bytes a (T n)) j ∙ f))
  where
    n : ℕ
    n = k + l + depth_of v + depth_of w

    e : bytes a (T n) (normal_form T v) ≡ Some os
    e = bytes_at T g a k v os h n (omega arith) (omega arith)

    f : bytes a (T n) (normal_form T w) ≡ Some ps
    f = bytes_at T g a l w ps i n (omega arith) (omega arith)

    one : ◌≡◌ {A = Option (List ℕ)} (Some os) (Some ps) → os ≡ ps
    one j = cc

pub whole_octets : (a : Variant) (T : ℕ → Schema) → Levelled T → (k : ℕ) (v : Value) (os : List ℕ) → AreBytes a T k v os → (0 < length os) × AreOctets os
whole_octets a T g k v os h = full_octets (basically a) (T (k + depth_of v)) (normal_form T v) os (bytes_at T g a k v os h (k + depth_of v) (omega arith) (omega arith))

-- canonical octets are those of the normal form along each tree that holds it
pub written_canonically : (a : Variant) (T : ℕ → Schema) → Levelled T → (k : ℕ) (v : Value) (os : List ℕ) → AreBytes a T k v os → AreCanonical a T (normal_form T v) os
written_canonically a T g k v os h n d =
    let z = normal_form T v in
    let m = k + depth_of v + n in
    let e = bytes_at T g a k v os h m (omega arith) (omega arith) in
    let i : meets_cut (T n) z ≡ false = levelled_holds T g z n d in
    (Depths.writes_at_less a (T n) (T m) (up_to T (levelled_type_unfolds T g) n m (omega arith)) z os).1 e (Peers.uncut_writes (T n) (T n) z i)

-- of values of at most 128 levels
pub few_read_back : (a : Settings) (T : ℕ → Schema) → Levelled T → (k : ℕ) (v : Value) (os : List ℕ) → AreBytes a.variant T k v os → levels_of (normal_form T v) ≤ 128 →
    (w : Value) → read a T w os ↔ (w ≡ normal_form T v)
few_read_back a T g k v os h l w =
    let e = bytes_at T g a.variant k v os h (k + depth_of v) (omega arith) (omega arith) in
    let r = few_levels_are_read a T g (normal_form T v) os (k + depth_of v) l e in
    (λ x. ((own_reads a T g k v os h w).0 x).normal, λ i. subst (λ z. read a T z os) (sym i) r)

pub few_projected : (a : Settings) (T' T : ℕ → Schema) → Levelled T' → Levelled T → NewerType T' T → (k : ℕ) (v : Value) (os : List ℕ) → AreBytes a.variant T' k v os → levels_of (normal_form T' v) ≤ 128 →
    (w : Value) → read a T w os ↔ IsProjection T' T (normal_form T' v) w
few_projected a T' T g' g x k v os h l w = (λ y. ((older_reads a T' T g' g x k v os h w).0 y).projection, λ i. few_levels_are_projected a T' T g' g x z w os n n (le_refl n) (omega arith) l e (p.0 i))
  where
    z : Value
    z = normal_form T' v

    n : ℕ
    n = k + depth_of v + depth_of z + 130

    e : bytes a.variant (T' n) z ≡ Some os
    e = bytes_at T' g' a.variant k v os h n (omega arith) (omega arith)

    p : IsProjection T' T z w ↔ (project (T' n) (T n) z ≡ Some w)
    p = projection_at T' T g' g x z w n (levelled_holds T' g' z n (omega arith))

pub few_widened : (a : Settings) (T' T : ℕ → Schema) → Levelled T' → Levelled T → NewerType T' T → (k : ℕ) (v : Value) (os : List ℕ) → AreBytes a.variant T k v os → levels_of (normal_form T v) ≤ 128 →
    (w : Value) → read a T' w os ↔ IsWidening T' T (normal_form T v) w
few_widened a T' T g' g x k v os h l w = (λ y. ((newer_reads a T' T g' g x k v os h w).0 y).widening, λ i. few_levels_are_widened a T' T g' g x z w os n n (le_refl n) (omega arith) (omega arith) l e (p.0 i))
  where
    z : Value
    z = normal_form T v

    n : ℕ
    n = k + depth_of v + depth_of w + 128

    e : bytes a.variant (T n) z ≡ Some os
    e = bytes_at T g a.variant k v os h n (omega arith) (omega arith)

    p : IsWidening T' T z w ↔ (widen (T' n) (T n) z ≡ Some w)
    p = widening_at T' T g' g x w z n (levelled_holds T' g' w n (omega arith))

-- the normal form of a normal form is itself
pub normal_again : (T : ℕ → Schema) → Levelled T → (v : Value) → normal_form T (normal_form T v) ≡ normal_form T v
normal_again T g v =
    let z = normal_form T v in
    let n = depth_of v + depth_of z in
    let e = normal_at T g v n (omega arith) in
    sym (normal_at T g z n (omega arith)) ∙ ap (normal (T n)) (sym e) ∙ normal_of_normal (T n) v ∙ e

-- a value that was read back is written as the same octets
module _ (a : Variant) (T : ℕ → Schema) (g : Levelled T) (k l : ℕ) (v w : Value) (os : List ℕ) (h : AreBytes a T k v os) (r : IsReadBack T v w) where
  same_form : normal_form T w ≡ normal_form T v
  same_form = ap (normal_form T) r.normal ∙ normal_again T g v

  pub again : (ps : List ℕ) → AreBytes a T l w ps → ps ≡ os
  again ps i = (told_apart a T g l k w v ps os i h).1 same_form

  pub never_none : HasNoBytes a T l w → ⊥
  never_none i = none (sym (no_bytes_at T g a l w i n (omega arith) (omega arith)) ∙ ap (bytes a (T n)) same_form ∙ bytes_at T g a k v os h n (omega arith) (omega arith))
    where
      n : ℕ
      n = k + l + depth_of v + depth_of w

      none : ◌≡◌ {A = Option (List ℕ)} None (Some os) → ⊥
      none j = absurd (cc)

-- a value that was read is read again in normal form
pub read_again : (a b : Settings) (T : ℕ → Schema) → Levelled T → ((n : ℕ) → IsLawful (T n)) → (k : ℕ) (v : Value) (os ps : List ℕ) → read a T v os → AreBytes b.variant T k v ps →
    (w : Value) → read b T w ps ↔ (w ≡ normal_form T v)
read_again a b T g l k v os ps r h w =
    let q = own_reads b T g k v ps h w in
    (λ x. (q.0 x).normal, λ i. q.1 (record { normal = i; in_reach = stays_in_reach a T g l v os r }))
