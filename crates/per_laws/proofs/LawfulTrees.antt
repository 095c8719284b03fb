-- What a lawful type gives to the laws of depth and of versions: its trees unfold.
use Rattle.std.proofs.Common.{◌≡◌, ◌↔◌, sym, ap, ◌∙◌, subst, ℕ, ◌+◌, ◌≤◌, false, List, arith, Some}
use Rattle.rasn_types.specs.Values.{Value}
use Rattle.rasn_types.specs.Variants.{Variant}
use Rattle.rasn_schema.specs.Schemas.{Schema}
use Rattle.rasn_schema.specs.Normal.{normal}
use Rattle.rasn_schema.specs.Depth.{meets_cut}
use Rattle.rasn_schema.specs.Lawful.{IsLawfulType}
use Rattle.per_core.specs.Spellings.{Settings}
use Rattle.per_core.specs.Canon.{bytes}
use Rattle.per_core.specs.Basic.{fills_known, read}
use Rattle.per_core.specs.Versions.{NewerType, project, widen}
use Rattle.per_core.proofs.Laws.{same_normal_bytes}
use Rattle.per_laws.proofs.AnyDepth
use Rattle.per_laws.proofs.Normals.{normal_of_normal}
use Rattle.per_laws.proofs.Types.{up_to, less_cut}
use Rattle.per_laws.specs.Written.{writes_cut}
use Rattle.per_laws.proofs.Depths
use Rattle.per_laws.proofs.NormalForms
use Rattle.per_laws.proofs.Peers

pub one_normal_form : (T : ℕ → Schema) → IsLawfulType T → (v : Value) (m n : ℕ) → meets_cut (T m) v ≡ false → meets_cut (T n) v ≡ false →
    (normal (T m) v ≡ normal (T n) v) × (normal (T m) (normal (T n) v) ≡ normal (T n) v)
one_normal_form T l v m n h k =
    let e = NormalForms.one_normal_form T l.unfolds v m n h k in
    (e, ap (normal (T m)) (sym e) ∙ normal_of_normal (T m) v ∙ e)

-- both encodings are those of a tree that holds both values
pub told_apart : (a : Variant) (T : ℕ → Schema) → IsLawfulType T → (v w : Value) (m n : ℕ) (os ps : List ℕ) → meets_cut (T m) v ≡ false → meets_cut (T n) w ≡ false →
    bytes a (T m) (normal (T m) v) ≡ Some os → bytes a (T n) (normal (T n) w) ≡ Some ps → (os ≡ ps) ↔ (normal (T m) v ≡ normal (T n) w)
told_apart a T l v w m n os ps h k e f =
    let u = l.unfolds in
    let i = less_cut (up_to T u m (m + n) (omega arith)) v h in
    let j = less_cut (up_to T u n (m + n) (omega arith)) w k in
    let b = NormalForms.canonical_encoding_deeper a T u v os m (m + n) (omega arith) h e in
    let c = NormalForms.canonical_encoding_deeper a T u w ps n (m + n) (omega arith) k f in
    let q = same_normal_bytes a (T (m + n)) v w os ps b c in
    let x = NormalForms.one_normal_form T u v m (m + n) h i in
    let y = NormalForms.one_normal_form T u w n (m + n) k j in
    (λ z. x ∙ q.0 z ∙ sym y, λ z. q.1 (sym x ∙ z ∙ y))

pub reads : (a : Settings) (T : ℕ → Schema) → IsLawfulType T → (v w : Value) (os : List ℕ) (n : ℕ) → bytes a.variant (T n) v ≡ Some os →
    read a T w os ↔ ((w ≡ v) × (writes_cut (T 128) (T 128) v ≡ false))
reads a T l v w os n e =
    let q = Depths.type_reads a T l.unfolds v os n e in
    (q.0 w, λ z. subst (λ x. read a T x os) (sym z.0) (q.1 z.1))

pub older_reads : (a : Settings) (newer older : ℕ → Schema) → IsLawfulType newer → IsLawfulType older → NewerType newer older → (v w : Value) (os : List ℕ) (m n : ℕ) → m ≤ n → 128 ≤ n →
    meets_cut (newer n) v ≡ false → bytes a.variant (newer m) v ≡ Some os →
    read a older w os ↔ ((project (newer n) (older n) v ≡ Some w) × (writes_cut (older 128) (newer 128) v ≡ false))
older_reads a newer older l k x v w os m n i j h e =
    let q = Peers.older_type_reads a newer older l.unfolds k.unfolds x v os m n i j h e w in
    (q.0, λ z. q.1 z.0 z.1)

pub newer_reads : (a : Settings) (newer older : ℕ → Schema) → IsLawfulType newer → IsLawfulType older → NewerType newer older → (v w : Value) (os : List ℕ) (m n : ℕ) → m ≤ n → 128 ≤ n →
    bytes a.variant (older m) v ≡ Some os → meets_cut (newer n) w ≡ false →
    read a newer w os ↔ ((widen (newer n) (older n) v ≡ Some w) × (writes_cut (newer 128) (older 128) v ≡ false))
newer_reads a newer older l k x v w os m n i j e h =
    let q = Peers.newer_type_reads a newer older l.unfolds k.unfolds x v os m n i j e w h in
    (q.0, λ z. q.1 z.0 z.1)

pub older_reader_reads : (a : Settings) (newer older : ℕ → Schema) → IsLawfulType newer → IsLawfulType older → NewerType newer older → (v w : Value) (os : List ℕ) (n : ℕ) →
    meets_cut (newer n) v ≡ false → read a newer v os → read a older w os ↔ (project (newer n) (older n) v ≡ Some w)
older_reader_reads a newer older l k x v w os n h e = AnyDepth.older_reader_at a newer older l.unfolds k.unfolds x v w os n h e

pub newer_reader_reads : (a : Settings) (newer older : ℕ → Schema) → IsLawfulType newer → IsLawfulType older → NewerType newer older → (v w : Value) (os : List ℕ) (n : ℕ) →
    meets_cut (newer n) w ≡ false → fills_known a (older 128) v os → read a newer w os ↔ (widen (newer n) (older n) v ≡ Some w)
newer_reader_reads a newer older l k x v w os n h e = AnyDepth.newer_reader_at a newer older l.unfolds k.unfolds x v w os n h e
