-- Components of lawful types, and components of a newer version beside those of the older one (ITU-T X.680, 52), in the
-- words of a page's lists.
use Rattle.std.specs.Prelude.{ℕ, ◌≡◌, Bool, true, List, [], ◌∷◌}
use Rattle.rasn_schema.specs.Components.{Component}
use Rattle.rasn_schema.specs.Lawful.{IsLawful, IsLawfulPresence}
use Rattle.per_core.specs.Versions.{NewerPresence, NewerType}

-- a component of a lawful type, which is a SEQUENCE where it is a group, and whose default is a value of it
pub record IsLawfulComponent (c : Component) : Type 0 where
  pub presence : (n : ℕ) → IsLawfulPresence (c.schema n) c.presence
  pub schema : (n : ℕ) → IsLawful (c.schema n)

abbrev pub AreLawfulComponents : List Component → Type 0
AreLawfulComponents [] = Unit {0}
AreLawfulComponents (c ∷ cs) = IsLawfulComponent c × AreLawfulComponents cs

-- a component of the newer version, in the place of one of the older version: under the same tags, as often there, and
-- of a newer type
pub record IsNewerComponent (new old : Component) : Type 0 where
  pub tags : new.tags ≡ old.tags
  pub presence : (n : ℕ) → NewerPresence (new.schema n) (old.schema n) new.presence old.presence
  pub schema : NewerType new.schema old.schema

-- components of the newer version, each in the place of one of the older version; the truth value says whether some may
-- have been added at the end
abbrev pub AreNewer : Bool → List Component → List Component → Type 0
AreNewer may [] [] = Unit {0}
AreNewer true (c ∷ cs) [] = Unit {0}
AreNewer may (new ∷ news) (old ∷ olds) = IsNewerComponent new old × AreNewer may news olds
AreNewer _ _ _ = ⊥
