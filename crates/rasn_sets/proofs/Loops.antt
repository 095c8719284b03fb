-- How what is left of a list of fields is read: the first one, and those after it.
use Rattle.std.proofs.Common.{◌≡◌, sym, ap, subst, ◌∙◌, ◌⊎◌, inl, inr, ℕ, ◌+◌, ◌<◌, ◌≤◌, true, false, List, ◌∷◌, map, length, drop, get_or, Result, Ok, Err}
use Rattle.std.proofs.lemmas.List.{drop_more, drop_all}
use Rattle.rasn_types.specs.declared.types.Tag.{Tag}
use Rattle.rasn_schema.specs.declared.fields.Field.{Field}
use Rattle.rasn_schema.specs.Fields.{Shape, is_not_required, shape_of}
use Rattle.rasn_traits.specs.Calls.{DecoderRules, Refuses}
use Rattle.rasn_sets.specs.SetsRead.{AfterTaken, RootTaken}
use Rattle.rasn_sets.specs.Turns.{AfterRead, FailsAfter, after_further, after_here, FailsFieldAfter, after_none, FieldAfterRead, ReadsFieldAfter, after_kept, FailsField, fails_bit, fails_required, fails_there, FailsRoot, root_after, root_here, FieldRead, ItemKept, Keeps, KeepsNone, ReadsAfter, after_end, after_next, ReadsField, field_required, field_there, ReadsRoot, root_end, root_next, RootRead}

at_field : (fs : List Field) (i : ℕ) (f : Field) → i < length fs → f ≡ get_or fs i f → drop i fs ≡ f ∷ drop (i + 1) fs
at_field fs i f h e = drop_more fs i f h ∙ ap (λ v. v ∷ drop (i + 1) fs) (sym e)

module _ {E S I : Type 0} (rules : DecoderRules E S) (gives : S → ℕ → Tag → Result I E → S → Type 0) (fs : List Field) (i : ℕ) where
  pub root_done : (s : S) (xs : List I) → length fs ≤ i → ReadsRoot rules gives (drop i fs) s xs s xs
  root_done s xs h = subst (λ z. ReadsRoot rules gives z s xs s xs) (sym (drop_all i fs h)) root_end

  pub root_further : {f : Field} {s m t : S} {xs ws ys : List I} → i < length fs → f ≡ get_or fs i f → ReadsField rules gives f s xs m ws
      → ReadsRoot rules gives (drop (i + 1) fs) m ws t ys → ReadsRoot rules gives (drop i fs) s xs t ys
  root_further {f} {s} {m} {t} {xs} {ws} {ys} h e a b = subst (λ z. ReadsRoot rules gives z s xs t ys) (sym (at_field fs i f h e)) (root_next a b)

  pub root_fails_here : {f : Field} {s : S} {e : E} → i < length fs → f ≡ get_or fs i f → FailsField rules gives e f s → FailsRoot rules gives e (drop i fs) s
  root_fails_here {f} {s} {e} h q a = subst (λ z. FailsRoot rules gives e z s) (sym (at_field fs i f h q)) (root_here a)

  pub root_fails_further : {f : Field} {s m : S} {xs ws : List I} {e : E} → i < length fs → f ≡ get_or fs i f → ReadsField rules gives f s xs m ws
      → FailsRoot rules gives e (drop (i + 1) fs) m → FailsRoot rules gives e (drop i fs) s
  root_fails_further {f} {s} {e = e} h q a b = subst (λ z. FailsRoot rules gives e z s) (sym (at_field fs i f h q)) (root_after a b)

  pub after_done : (first : ℕ) (s : S) (xs : List I) → length fs ≤ i → ReadsAfter gives first (drop i fs) s xs s xs
  after_done first s xs h = subst (λ z. ReadsAfter gives first z s xs s xs) (sym (drop_all i fs h)) after_end

  pub after_on : {first : ℕ} {f : Field} {s m t : S} {xs ws ys : List I} → i < length fs → f ≡ get_or fs i f → ReadsFieldAfter gives first f s xs m ws
      → ReadsAfter gives first (drop (i + 1) fs) m ws t ys → ReadsAfter gives first (drop i fs) s xs t ys
  after_on {first} {f} {s} {m} {t} {xs} {ws} {ys} h e a b = subst (λ z. ReadsAfter gives first z s xs t ys) (sym (at_field fs i f h e)) (after_next a b)

  pub after_fails_here : {first : ℕ} {f : Field} {s : S} {e : E} → i < length fs → f ≡ get_or fs i f → FailsFieldAfter rules gives e first f s
      → FailsAfter rules gives e first (drop i fs) s
  after_fails_here {first} {f} {s} {e} h q a = subst (λ z. FailsAfter rules gives e first z s) (sym (at_field fs i f h q)) (after_here a)

  pub after_fails_on : {first : ℕ} {f : Field} {s m : S} {xs ws : List I} {e : E} → i < length fs → f ≡ get_or fs i f → ReadsFieldAfter gives first f s xs m ws
      → FailsAfter rules gives e first (drop (i + 1) fs) m → FailsAfter rules gives e first (drop i fs) s
  after_fails_on {first} {f} {s} {e = e} h q a b = subst (λ z. FailsAfter rules gives e first z s) (sym (at_field fs i f h q)) (after_further a b)

module _ {E S I : Type 0} (rules : DecoderRules E S) (gives : S → ℕ → Tag → Result I E → S → Type 0) where
  -- the item of a component without a presence bit, and of one after its bit 1
  pub field_is_required : (f : Field) (s : S) (xs : List I) (r : Result (Unit {0}) E) (t : S) (ys : List I) → is_not_required f.presence ≡ false
      → ItemKept rules gives f.index f.tag s xs r t ys → FieldRead rules gives f s xs r t ys
  field_is_required f s xs (Ok u) t ys h a = field_required h a
  field_is_required f s xs (Err e) t ys h a = fails_required h a

  pub field_is_there : (f : Field) (s m : S) (xs : List I) (r : Result (Unit {0}) E) (t : S) (ys : List I) → is_not_required f.presence ≡ true → rules.marks s true m
      → ItemKept rules gives f.index f.tag m xs r t ys → FieldRead rules gives f s xs r t ys
  field_is_there f s m xs (Ok u) t ys h b a = field_there m h b a
  field_is_there f s m xs (Err e) t ys h b a = fails_there m h b a

  pub bit_fails : (f : Field) (s : S) (e : E) → is_not_required f.presence ≡ true → ⊥ ⊎ Refuses rules.marks rules.unmarked e s → FailsField rules gives e f s
  bit_fails f s e h (inl a) = absurd a
  bit_fails f s e h (inr r) = fails_bit h r

  -- the fields of a list, which are those of a type
  pub root_taken : (fs : List Field) {shapes : List Shape} (s : S) (xs : List I) (r : Result (Unit {0}) E) (t : S) (ys : List I) → map shape_of fs ≡ shapes
      → RootRead rules gives fs s xs r t ys → RootTaken rules gives shapes s xs r t ys
  root_taken fs s xs (Ok u) t ys h a = (fs, h, a)
  root_taken fs s xs (Err e) t ys h a = inr (fs, h, a)

  pub after_taken : (fs : List Field) (first : ℕ) {shapes : List Shape} (s : S) (xs : List I) (r : Result (Unit {0}) E) (t : S) (ys : List I) → map shape_of fs ≡ shapes
      → AfterRead rules gives first fs s xs r t ys → AfterTaken rules gives first shapes s xs r t ys
  after_taken fs first s xs (Ok u) t ys h a = (fs, h, a)
  after_taken fs first s xs (Err e) t ys h a = (fs, h, a)

  -- the item of an addition, by its index
  pub after_is : (first n : ℕ) (f : Field) (s : S) (xs : List I) (r : Result (Unit {0}) E) (t : S) (ys : List I) → n ≡ first + f.index
      → ItemKept rules gives n f.tag s xs r t ys → FieldAfterRead rules gives first f s xs r t ys
  after_is first n f s xs (Ok u) t ys h a = after_kept (subst (λ k. Keeps gives k f.tag s xs t ys) h a)
  after_is first n f s xs (Err e) t ys h a = after_none (subst (λ k. KeepsNone rules gives e k f.tag s) h a)
