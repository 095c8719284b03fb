-- Which presences a newer component may have.
use Rattle.std.proofs.Common.{◌≡◌, refl, sym, subst, Bool, true, false, List}
use Rattle.std.specs.Prelude.{◌&&◌, is_some, slice_get}
use Rattle.rasn_schema.specs.Schemas.{Schema}
use Rattle.per_core.specs.Versions.{NewerPresence}
use Rattle.rasn_dynamic.specs.declared.types.Component.{Component}
use Rattle.rasn_dynamic.specs.declared.types.DefaultTree.{DefaultTree}
use Rattle.rasn_dynamic.specs.declared.types.Kind.{Kind}
use Rattle.rasn_dynamic.specs.declared.types.Presence.{Presence}
use Rattle.rasn_dynamic.specs.declared.types.Presence.TheVariants.{Default, Group, Optional, Required}
use Rattle.rasn_dynamic.specs.Defaults.{groups}
use Rattle.rasn_dynamic.specs.Types.{presence_of, required_in, tree_value}
use Rattle.lawful_types.specs.TypeRules.{is_default_tree_of}
use Rattle.lawful_types.specs.OneLevel.{IsNewerPresence}
use Rattle.lawful_types.proofs.SameValues.{is_widened}

-- whether a component may be a group
pub may_be_group : (b : Bool) (ts : List Kind) (c : Component) → (b && is_some (required_in (slice_get ts c.of))) ≡ groups b ts c
may_be_group true ts c = refl
may_be_group false ts c = refl

module _ (b : Bool) (ts' ts : List Kind) (c' c : Component) where
  pub required : c'.presence ≡ Required → c.presence ≡ Required → IsNewerPresence b ts' ts c' c
  required e' e s' s h k' k = rw (e', e) tt

  pub optional : c'.presence ≡ Optional → c.presence ≡ Optional → IsNewerPresence b ts' ts c' c
  optional e' e s' s h k' k = rw (e', e) tt

  -- a presence in place of an equal one
  in_place : (s' s : Schema) (p' p q' q : Presence) → p' ≡ q' → p ≡ q → NewerPresence s' s (presence_of (groups b ts' c') q') (presence_of (groups b ts c) q) →
      NewerPresence s' s (presence_of (groups b ts' c') p') (presence_of (groups b ts c) p)
  in_place s' s p' p q' q e' e h =
      subst (λ x. NewerPresence s' s (presence_of (groups b ts' c') x) (presence_of (groups b ts c) p)) (sym e')
      (subst (λ x. NewerPresence s' s (presence_of (groups b ts' c') q') (presence_of (groups b ts c) x)) (sym e) h)

  both_groups : (s' s : Schema) (d' d : Bool) → d' ≡ d → NewerPresence s' s (presence_of d' Group) (presence_of d Group)
  both_groups s' s true true e = tt
  both_groups s' s false false e = tt
  both_groups s' s true false e = absurd cc
  both_groups s' s false true e = absurd cc

  pub group : c'.presence ≡ Group → c.presence ≡ Group → groups b ts' c' ≡ groups b ts c → IsNewerPresence b ts' ts c' c
  group e' e f s' s h k' k = in_place (s' c'.of) (s c.of) c'.presence c.presence Group Group e' e (both_groups (s' c'.of) (s c.of) (groups b ts' c') (groups b ts c) f)

  no_group : (s' s : Schema) (d' d : Bool) → d' ≡ false → NewerPresence s' s (presence_of d' Group) (presence_of d Optional)
  no_group s' s true d e = absurd cc
  no_group s' s false d e = tt

  pub newer_group : c'.presence ≡ Group → c.presence ≡ Optional → groups b ts' c' ≡ false → IsNewerPresence b ts' ts c' c
  newer_group e' e f s' s h k' k = in_place (s' c'.of) (s c.of) c'.presence c.presence Group Optional e' e (no_group (s' c'.of) (s c.of) (groups b ts' c') (groups b ts c) f)

  no_old_group : (s' s : Schema) (d' d : Bool) → d ≡ false → NewerPresence s' s (presence_of d' Optional) (presence_of d Group)
  no_old_group s' s d' true e = absurd cc
  no_old_group s' s d' false e = tt

  pub older_group : c'.presence ≡ Optional → c.presence ≡ Group → groups b ts c ≡ false → IsNewerPresence b ts' ts c' c
  older_group e' e f s' s h k' k = in_place (s' c'.of) (s c.of) c'.presence c.presence Optional Group e' e (no_old_group (s' c'.of) (s c.of) (groups b ts' c') (groups b ts c) f)

  pub same_default : (d' d : DefaultTree) → c'.presence ≡ Default d' → c.presence ≡ Default d → tree_value d' ≡ tree_value d → is_default_tree_of ts' c'.of d' ≡ true → is_default_tree_of ts c.of d ≡ true → IsNewerPresence b ts' ts c' c
  same_default d' d e' e f l' l s' s h k' k = in_place (s' c'.of) (s c.of) c'.presence c.presence (Default d') (Default d) e' e (is_widened (s' c'.of) (s c.of) (tree_value d') (tree_value d) h f (k' c'.of d' l') (k c.of d l))
