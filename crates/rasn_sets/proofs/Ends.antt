-- How the decoder is after items that a function gave.
use Rattle.std.proofs.Common.{◌≡◌, refl, sym, subst, ℕ, ◌+◌, Bool, true, false, List, [], map, Result, Ok, Err}
use Rattle.std.specs.Prelude.{IfOk}
use Rattle.rasn_types.specs.declared.types.Tag.{Tag}
use Rattle.rasn_schema.specs.Fields.{Shape, shape_of}
use Rattle.rasn_schema.specs.declared.fields.Field.{Field}
use Rattle.rasn_traits.specs.Calls.{DecoderRules, DecodesWell}
use Rattle.rasn_sets.specs.Components.{EndsUnfailed, last_given, none_given, MadeUnfailed}
use Rattle.rasn_sets.specs.Turns.{Keeps, keeps, ReadsField, field_left_out, field_required, field_there, after_kept, ReadsRoot, root_end, root_next, ReadsAfter, after_end, after_next}

-- what isn't failed
pub unfailed : (b : Bool) → (b ≡ true → ⊥) → b ≡ false
unfailed true h = absurd (h refl)
unfailed false h = refl

module _ {E S I : Type 0} {rules : DecoderRules E S} (L : DecodesWell rules) {gives : S → ℕ → Tag → Result I E → S → Type 0} where
  keeps_ends : (i : ℕ) (tag : Tag) (s : S) (xs : List I) (t : S) (ys : List I) → Keeps gives i tag s xs t ys → rules.failed t ≡ false
      → EndsUnfailed rules.failed gives ys
  keeps_ends i tag s xs t ys (keeps x g e) h = subst (EndsUnfailed rules.failed gives) (sym e) (last_given xs g h)

  field_ends : (f : Field) (s : S) (xs : List I) (t : S) (ys : List I) → ReadsField rules gives f s xs t ys
      → (rules.failed s ≡ false → EndsUnfailed rules.failed gives xs) → rules.failed t ≡ false → EndsUnfailed rules.failed gives ys
  field_ends f s xs t ys (field_required q k) before h = keeps_ends f.index f.tag s xs t ys k h
  field_ends f s xs t ys (field_there m q b k) before h = keeps_ends f.index f.tag m xs t ys k h
  field_ends f s xs t ys (field_left_out q b e) before h =
      subst (EndsUnfailed rules.failed gives) (sym e) (before (L.marked.begun s false t b))

  pub root_ends : (fs : List Field) (s : S) (xs : List I) (t : S) (ys : List I) → ReadsRoot rules gives fs s xs t ys
      → (rules.failed s ≡ false → EndsUnfailed rules.failed gives xs) → rules.failed t ≡ false → EndsUnfailed rules.failed gives ys
  root_ends fs s xs t ys root_end before h = before h
  root_ends fs s xs t ys (root_next {f = f} {fs = gs} {m = m} {ws = ws} a b) before h =
      root_ends gs m ws t ys b (field_ends f s xs m ws a before) h

  pub after_ends : (first : ℕ) (fs : List Field) (s : S) (xs : List I) (t : S) (ys : List I) → ReadsAfter gives first fs s xs t ys
      → (rules.failed s ≡ false → EndsUnfailed rules.failed gives xs) → rules.failed t ≡ false → EndsUnfailed rules.failed gives ys
  after_ends first fs s xs t ys after_end before h = before h
  after_ends first fs s xs t ys (after_next {f = f} {fs = gs} {m = m} {ws = ws} (after_kept k) b) before h =
      after_ends first gs m ws t ys b (keeps_ends (first + f.index) f.tag s xs m ws k) h

  -- all items of a SET
  pub items_end : (first : ℕ) {shapes behind : List Shape} {s m t : S} {xs ys : List I}
      → (fs : List Field) × (map shape_of fs ≡ shapes) × ReadsRoot rules gives fs s [] m xs
      → (bs : List Field) × (map shape_of bs ≡ behind) × ReadsAfter gives first bs m xs t ys
      → rules.failed t ≡ false → EndsUnfailed rules.failed gives ys
  items_end first {s = s} {m} {t} {xs} {ys} a b =
      after_ends first b.0 m xs t ys b.2 (root_ends a.0 s [] m xs a.2 (λ h. none_given))

  -- the SET that is made of them
  pub made_ends : {T : Type 0} (makes : List I → Result T E → Type 0) (xs : List I) (r : Result T E) (t : S) → makes xs r
      → (rules.failed t ≡ false → EndsUnfailed rules.failed gives xs)
      → IfOk r (λ v. rules.failed t ≡ false → MadeUnfailed rules.failed gives makes v)
  made_ends makes xs (Ok v) t a f = λ h. (xs, a, f h)
  made_ends makes xs (Err e) t a f = tt
