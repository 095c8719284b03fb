-- A type's trees at any depth that holds a value: its normal form, its canonical octets, its projection and its widening.
use Rattle.std.proofs.Common.{◌≡◌, ◌↔◌, sym, ap, ◌∙◌, ℕ, ◌+◌, ◌≤◌, List, Some, None, false, arith}
use Rattle.std.proofs.Math.Nat.{le_refl}
use Rattle.rasn_types.specs.Values.{Value}
use Rattle.rasn_types.specs.Variants.{Variant}
use Rattle.rasn_schema.specs.Schemas.{Schema}
use Rattle.rasn_schema.specs.Depth.{Unfolds, meets_cut}
use Rattle.rasn_schema.specs.Levels.{Levelled}
use Rattle.rasn_schema.specs.Normal.{normal}
use Rattle.per_core.specs.Canon.{bytes}
use Rattle.per_core.specs.Versions.{NewerType, project, widen}
use Rattle.per_laws.proofs.AnyDepth.{project_alike}
use Rattle.per_laws.proofs.Successors.{newer_succeeds}
use Rattle.per_laws.proofs.Types.{up_to}
use Rattle.per_laws.proofs.Wider.{wider, narrower}
use Rattle.per_laws.proofs.VersionsAt128Levels.{levelled_holds}
use Rattle.per_laws.proofs.Levelled.{levelled_type_unfolds}
use Rattle.per_laws.proofs.NormalForms.{one_normal_form}
use Rattle.rasn_per.specs.Calls.{AreBytes, HasNoBytes}
use Rattle.per_versions.specs.Readings.{depth_of, normal_form, IsProjection, IsWidening}

-- one type
module _ (T : ℕ → Schema) (g : Levelled T) where
  -- the tree that `depth_of` names holds the value
  pub is_held : (v : Value) → meets_cut (T (depth_of v)) v ≡ false
  is_held v = levelled_holds T g v (depth_of v) (le_refl (depth_of v))

  pub normal_at : (v : Value) (n : ℕ) → depth_of v ≤ n → normal (T n) v ≡ normal_form T v
  normal_at v n l = one_normal_form T (levelled_type_unfolds T g) v n (depth_of v) (levelled_holds T g v n l) (is_held v)

  pub bytes_at : (a : Variant) (k : ℕ) (v : Value) (os : List ℕ) → AreBytes a T k v os → (n : ℕ) → k ≤ n → depth_of v ≤ n → bytes a (T n) (normal_form T v) ≡ Some os
  bytes_at a k v os h n l m = ap (bytes a (T n)) (sym (normal_at v n m)) ∙ h.at n l

  pub no_bytes_at : (a : Variant) (k : ℕ) (v : Value) → HasNoBytes a T k v → (n : ℕ) → k ≤ n → depth_of v ≤ n → bytes a (T n) (normal_form T v) ≡ None
  no_bytes_at a k v h n l m = ap (bytes a (T n)) (sym (normal_at v n m)) ∙ h.at n l

-- two versions of a type: along all trees that hold the newer value
module _ (T' T : ℕ → Schema) (u' : Unfolds T') (u : Unfolds T) (k : NewerType T' T) where
  pub one_projection : (v : Value) (m n : ℕ) → meets_cut (T' m) v ≡ false → meets_cut (T' n) v ≡ false → project (T' m) (T m) v ≡ project (T' n) (T n) v
  one_projection v m n h i = deeper m n h ∙ sym (again n m i)
    where
      deeper : (m n : ℕ) → meets_cut (T' m) v ≡ false → project (T' m) (T m) v ≡ project (T' (m + n)) (T (m + n)) v
      deeper m n h = project_alike (k m) (up_to T' u' m (m + n) (omega arith)) (up_to T u m (m + n) (omega arith)) v h

      again : (n m : ℕ) → meets_cut (T' n) v ≡ false → project (T' n) (T n) v ≡ project (T' (m + n)) (T (m + n)) v
      again n m i = project_alike (k n) (up_to T' u' n (m + n) (omega arith)) (up_to T u n (m + n) (omega arith)) v i

  pub same_widening : (v w : Value) (m n : ℕ) → meets_cut (T' m) w ≡ false → meets_cut (T' n) w ≡ false → widen (T' m) (T m) v ≡ Some w → widen (T' n) (T n) v ≡ Some w
  same_widening v w m n h i e =
      let s = newer_succeeds (k m) in
      let t = newer_succeeds (k n) in
      let f = wider s (up_to T' u' m (m + n) (omega arith)) (up_to T u m (m + n) (omega arith)) v w e h in
      narrower t (up_to T' u' n (m + n) (omega arith)) (up_to T u n (m + n) (omega arith)) v w f i

-- and so as they are defined
module _ (T' T : ℕ → Schema) (g' : Levelled T') (g : Levelled T) (k : NewerType T' T) where
  pub projection_at : (v w : Value) (n : ℕ) → meets_cut (T' n) v ≡ false → IsProjection T' T v w ↔ (project (T' n) (T n) v ≡ Some w)
  projection_at v w n h =
      let e = one_projection T' T (levelled_type_unfolds T' g') (levelled_type_unfolds T g) k v n (depth_of v) h (is_held T' g' v) in
      (λ p. e ∙ p, λ p. sym e ∙ p)

  pub widening_at : (w v : Value) (n : ℕ) → meets_cut (T' n) w ≡ false → IsWidening T' T v w ↔ (widen (T' n) (T n) v ≡ Some w)
  widening_at w v n h =
      let same = same_widening T' T (levelled_type_unfolds T' g') (levelled_type_unfolds T g) k v w in
      (λ p. same (depth_of w) n (is_held T' g' w) h p, λ p. same n (depth_of w) h (is_held T' g' w) p)
