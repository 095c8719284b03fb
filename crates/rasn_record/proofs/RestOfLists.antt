-- Those after the first of a list, and the levels left after a component.
use Rattle.std.proofs.Common.{◌≡◌, refl, ap, ◌∙◌, List, [], ◌∷◌, Option}
use Rattle.std.specs.Prelude.{map}
use Rattle.rasn_types.specs.Values.{Value}
use Rattle.rasn_schema.specs.Schemas.{Presence, Schema}
use Rattle.rasn_traits.specs.Calls.{DecoderRules, DecodesWell}
use Rattle.rasn_traits.specs.Scopes.{ReadsPart}
use Rattle.rasn_traits.proofs.Reading.{part_reads_well}
use Rattle.rasn_record.specs.Lists.{behind}

pub behind-map : {A B : Type 0} (f : A → B) (xs : List A) → behind (map f xs) ≡ map f (behind xs)
behind-map f [] = refl
behind-map f (x ∷ xs) = refl

-- those after the fourth, one after another
pub after_four : {A : Type 0} (xs : List A) {ys zs us vs : List A} → ys ≡ behind xs → zs ≡ behind ys → us ≡ behind zs → vs ≡ behind us → vs ≡ behind (behind (behind (behind xs)))
after_four xs a b c d = d ∙ ap behind (c ∙ ap behind (b ∙ ap behind a))

pub four-map : {A B : Type 0} (f : A → B) (xs : List A) {ys zs us vs : List A} → ys ≡ behind xs → zs ≡ behind ys → us ≡ behind zs → vs ≡ behind us → map f vs ≡ behind (behind (behind (behind (map f xs))))
four-map f xs a b c d = rw (behind-map f xs, behind-map f (behind xs), behind-map f (behind (behind xs)), behind-map f (behind (behind (behind xs)))) (ap (map f) (after_four xs a b c d))

-- after a component that is read as many levels are left
pub level_of : {E S : Type 0} {rules : DecoderRules E S} (L : DecodesWell rules) {p : Presence} {c : Schema} {s m : S} {r : Option Value} → ReadsPart rules p c s r m → rules.levels m ≡ rules.levels s
level_of L {p} {c} {s} {m} {r} a = (part_reads_well L p c).level s r m a
