-- How lists are opened: what is in front of their first item (X.691 20).
use Rattle.std.proofs.Common.{◌≡◌, inl, inr, ℕ, ◌^◌, ◌&&◌, ltb, Bool, true, false, List, [], ◌∷◌, ◌++◌, length, Option, Some, None, refl, sym, ◌∙◌, ap, subst, append_assoc}
use Rattle.std.proofs.lemmas.Bool.{lt-ltb, le-ltb}
use Rattle.std.proofs.lemmas.Result.{IfOk-weaker, IfErr-weaker}
use Rattle.std.specs.Prelude.{Result, Ok, Err, OnOk}
use Rattle.rasn_types.specs.Bits.{Bits}
use Rattle.rasn_constraints.specs.Bounds.{any_size, Size}
use Rattle.rasn_constraints.specs.Constraints.{start_of, end_of, size_between}
use Rattle.rasn_constraints.specs.declared.constraints.Bounded.{Bounded}
use Rattle.rasn_schema.specs.Schemas.{Schema}
use Rattle.per_core.specs.Basic.{OneByOne, PaddingIf, Sized, UnconstrainedLength}
use Rattle.per_core.specs.Counts.{list_items}
use Rattle.per_core.specs.Spellings.{Settings, Spelling, never, Took, NoneIn}
use Rattle.per_core.proofs.TakenInTurn.{took_then, then_took, took_map, took_agree, took_nothing, nothing_took}
use Rattle.per_core.specs.SizeFaults.{IsOfOpening}
use Rattle.per_read.specs.Lists.{AreOpenItems, Leaves, ListRule, OpensList, Rest, RestUpTo, list_form, list_rule}
use Rattle.per_core.specs.Lengths.{Between, CountFrom, under_size, LengthUpToSized, UpToBetween, UpToSized}
use Rattle.per_core.specs.Lengths.{UpToUnconstrained, WholeFragments}
use Rattle.per_read.specs.ReaderState.{ReaderState, settings_of}
use Rattle.per_core.specs.declared.decode_error.DecodeErrorKind.{DecodeErrorKind}
use Rattle.per_read.specs.declared.lists.UnreadElements.{UnreadElements}
use Rattle.per_read.proofs.Marked.{mark_in, mark_past, in_mark, past_mark, no_mark}
use Rattle.per_read.proofs.OpenLists.{counted, length_split, of_counted, up_to_split}
use Rattle.per_core.proofs.ConstrainedLengths.{IsConstrained, IsFree}
use Rattle.per_read.proofs.SizeForms.{countable, count_agree, no_count_between, of_sized, sized_of, under_constrained, under_free}

module _ {X : Type 0} (a : Settings) (item : X → Spelling) where
  -- the forms up to a further item, by what bounds choose
  up_to_free : (l u : Option ℕ) → IsFree l u → (xs : List X) → UpToSized a l u item xs ≡ UpToUnconstrained a item xs
  up_to_free None u h xs = refl
  up_to_free (Some lb) None h xs = refl
  up_to_free (Some lb) (Some ub) h xs = rw (le-ltb ub 65536 h) refl

  up_to_constrained : {l u : Option ℕ} {lb ub : ℕ} → IsConstrained l u lb ub → (xs : List X) → UpToSized a l u item xs ≡ UpToBetween a lb ub item xs
  up_to_constrained {l} {u} {lb} {ub} h xs = rw (h.lower, h.upper, lt-ltb ub 65536 h.few) refl

  length_free : (l u : Option ℕ) → IsFree l u → (xs : List X) → LengthUpToSized a l u item xs ≡ WholeFragments a item xs
  length_free None u h xs = refl
  length_free (Some lb) None h xs = refl
  length_free (Some lb) (Some ub) h xs = rw (le-ltb ub 65536 h) refl

  -- elements of a list begin anywhere
  no_padding : (b : Bool) (s : Bits) → Took (PaddingIf (b && false) a) s s
  no_padding true s = took_nothing s
  no_padding false s = took_nothing s

  unpadded : (b : Bool) {s t : Bits} → Took (PaddingIf (b && false) a) s t → s ≡ t
  unpadded true c = nothing_took c
  unpadded false c = nothing_took c

  abbrev rule : Size → Bool → ListRule X
  rule size mark = record { settings = a; size = size; mark = mark; item = item }

  module _ (size : Bounded ℕ) where
    abbrev under : List X → Spelling
    under = under_size a (start_of size) (end_of size) list_items item

    -- where its count isn't constrained, the first length is still to be read
    pub amid_free : IsFree (start_of size) (end_of size) → (s : Bits) → AreOpenItems (rule (size_between size) false) s [] (record { size = size; count = 0; left = 0; more = true }) s
    amid_free free s = record {
      count = refl;
      on = λ xs t i. sized_of a list_items item xs (size_between size) i.allowed
          (as_under xs t (countable (size_between size) (length xs) i.allowed) (subst (λ z. Took (UnconstrainedLength a item z) s t) (sym i.all) i.took));
      back = λ xs t c. record { others = xs; all = refl; allowed = c.spelled.allowed; took = took_map (λ p b y. y.spelled) (subst (λ z. Took z s t) (is xs) (of_sized a list_items item xs (size_between size) c)) };
      miscounted = λ xs t refused few c. record {
        items = xs;
        rest = t;
        count = refl;
        is_least = refl;
        is_most = refl;
        refused = refused;
        took = as_under xs t (lt-ltb (length xs) (2 ^ 64) few) c;
      };
      up_to = λ xs t c. subst (λ z. Took z s t) (sym (up_to_free (start_of size) (end_of size) free xs)) c;
      up_to_length = λ xs t c. subst (λ z. Took z s t) (sym (length_free (start_of size) (end_of size) free xs)) c;
    }
      where
        is : (xs : List X) → under xs ≡ Sized a any_size list_items item xs
        is xs = under_free a list_items item xs (start_of size) (end_of size) free

        as_under : (xs : List X) (t : Bits) → ltb (length xs) (2 ^ 64) ≡ true → Took (UnconstrainedLength a item xs) s t → Took (under xs) s t
        as_under xs t few c = subst (λ z. Took z s t) (sym (is xs)) (took_map (λ p b y. record { allowed = few; spelled = y }) c)

    -- after a constrained count, so many items are still to be read
    module _ {lb ub : ℕ} (bounds : IsConstrained (start_of size) (end_of size) lb ub) where
      is_between : (xs : List X) → under xs ≡ Between a lb ub list_items item xs
      is_between xs = under_constrained a list_items item xs bounds

      pub amid_counted : (n : ℕ) {s m : Bits} → Took (CountFrom a lb ub n) s m → AreOpenItems (rule (size_between size) false) s [] (record { size = size; count = 0; left = n; more = false }) m
      amid_counted n {s} {m} b = record {
        count = refl;
        on = λ xs t i. sized_of a list_items item xs (size_between size) i.allowed (as_under xs t (subst (λ z. Took (Rest a item false n z) m t) (sym i.all) i.took));
        back = λ xs t c. record { others = xs; all = refl; allowed = c.spelled.allowed; took = of_under xs t (of_sized a list_items item xs (size_between size) c) };
        miscounted = λ xs t refused few c. record { items = xs; rest = t; count = refl; is_least = refl; is_most = refl; refused = refused; took = as_under xs t c };
        up_to = λ xs t c. subst (λ z. Took z s t) (sym (up_to_constrained bounds xs)) (up_to xs t c);
        up_to_length = λ xs t c. let d = length_split item a false n xs c in absurd d.behind.spelled;
      }
        where
          as_under : (xs : List X) (t : Bits) → Took (Rest a item false n xs) m t → Took (under xs) s t
          as_under xs t c =
              let d = of_counted item a xs c in
              let count : Took (CountFrom a lb ub (length xs)) s m = subst (λ (z : ℕ). Took (CountFrom a lb ub z) s m) (sym d.0) b in
              subst (λ z. Took z s t) (sym (is_between xs)) (took_then count (took_then (no_padding (ltb 0 (length xs)) m) d.1))

          of_under : (xs : List X) (t : Bits) → Took (under xs) s t → Took (Rest a item false n xs) m t
          of_under xs t c =
              let r = then_took (subst (λ z. Took z s t) (is_between xs) c) in
              let v = then_took r.2 in
              let k = took_agree (count_agree a lb ub (length xs) n) r.1 b in
              counted item a xs k.0 (subst (λ z. Took (OneByOne item xs) z t) (sym (unpadded (ltb 0 (length xs)) v.1) ∙ k.1) v.2)

          up_to : (xs : List X) (t : Bits) → Took (RestUpTo a item false n xs) m t → Took (UpToBetween a lb ub item xs) s t
          up_to xs t c = elim (up_to_split item a false n xs c) [
            | inl d ↦ took_map (λ p y j. record { count = n; fewer = d.0; spelled = j }) (took_then b d.1)
            | inr d ↦ absurd d.behind.spelled
          ]

      pub none_counted : {s : Bits} → NoneIn (CountFrom a lb ub) s → NoneIn (list_form (rule (size_between size) false)) s
      none_counted {s} none xs t c = no_count_between a lb ub list_items item none xs t (subst (λ z. Took z s t) (is_between xs) (of_sized a list_items item xs (size_between size) c))

  -- after an extension bit
  abbrev outside : List X → Spelling
  outside = Sized a any_size list_items item

  module _ (size : Size) where
    abbrev inside : List X → Spelling
    inside = Sized a size list_items item

    pub none_marked : {s : Bits} → s ≡ [] → NoneIn (list_form (rule size true)) s
    none_marked e = no_mark inside outside e

    module _ {s m : Bits} where
      pub amid_inside : {l : UnreadElements} {here : Bits} {before : List X} → s ≡ false ∷ m → AreOpenItems (rule size false) m before l here → AreOpenItems (rule size true) s before l here
      amid_inside {before = before} e h = record {
        count = h.count;
        on = λ xs t i. mark_in inside outside e xs t (h.on xs t i);
        back = λ xs t c. h.back xs t (in_mark inside outside e xs t c);
        miscounted = λ xs t refused few c. let r = h.miscounted xs t refused few c in record {
          items = r.items;
          rest = r.rest;
          count = r.count;
          is_least = r.is_least;
          is_most = r.is_most;
          refused = r.refused;
          took = mark_in (under_size a size.least size.most list_items item) (λ xs. never) e r.items r.rest r.took;
        };
        up_to = λ xs t c. mark_in (UpToSized a size.least size.most item) (UpToUnconstrained a item) e (before ++ xs) t (h.up_to xs t c);
        up_to_length = λ xs t c. mark_in (LengthUpToSized a size.least size.most item) (WholeFragments a item) e (before ++ xs) t (h.up_to_length xs t c);
      }

      pub amid_outside : {l : UnreadElements} {here : Bits} {before : List X} → s ≡ true ∷ m → AreOpenItems (rule any_size false) m before l here → AreOpenItems (rule size true) s before l here
      amid_outside {before = before} e h = record {
        count = h.count;
        on = λ xs t i. mark_past inside outside e xs t (h.on xs t i);
        back = λ xs t c. h.back xs t (past_mark inside outside e xs t c);
        miscounted = λ xs t refused few c. let r = h.miscounted xs t refused few c in
            let g : true ≡ false = sym (lt-ltb (length (before ++ xs)) (2 ^ 64) few) ∙ r.refused in absurd (cc);
        up_to = λ xs t c. mark_past (UpToSized a size.least size.most item) (UpToUnconstrained a item) e (before ++ xs) t (h.up_to xs t c);
        up_to_length = λ xs t c. mark_past (LengthUpToSized a size.least size.most item) (WholeFragments a item) e (before ++ xs) t (h.up_to_length xs t c);
      }

      pub none_inside : s ≡ false ∷ m → NoneIn (list_form (rule size false)) m → NoneIn (list_form (rule size true)) s
      none_inside e none xs t c = none xs t (in_mark inside outside e xs t c)

      pub none_outside : s ≡ true ∷ m → NoneIn (list_form (rule any_size false)) m → NoneIn (list_form (rule size true)) s
      none_outside e none xs t c = none xs t (past_mark inside outside e xs t c)

-- bits that are left where some, or none, were taken
pub leaves_all : (s : Bits) → Leaves s s
leaves_all s = record { front = []; joins = refl }

pub leaves_after : {T E : Type 0} {s m : Bits} (t : Bits) (r : Result T E) → Leaves s m → OnOk r (Leaves m t) → OnOk r (Leaves s t)
leaves_after t (Ok v) a b = record { front = a.front ++ b.front; joins = a.joins ∙ ap (λ z. a.front ++ z) b.joins ∙ sym (append_assoc a.front b.front t) }
leaves_after t (Err e) a b = tt

-- what a call opens after others that took the bit
pub opens_after : {size other : Size} {mark marked : Bool} {x m y : ReaderState} {r : Result UnreadElements DecodeErrorKind} → OpensList other marked m r y → m.options ≡ x.options → Leaves x.bits m.bits
    → ((l : UnreadElements) (e : Schema) → AreOpenItems (list_rule (settings_of x) other marked e) m.bits [] l y.bits → AreOpenItems (list_rule (settings_of x) size mark e) x.bits [] l y.bits)
    → ((k : DecodeErrorKind) → IsOfOpening (settings_of x) other marked m.bits k → IsOfOpening (settings_of x) size mark x.bits k)
    → ((e : Schema) → NoneIn (list_form (list_rule (settings_of x) other marked e)) m.bits → NoneIn (list_form (list_rule (settings_of x) size mark e)) x.bits)
    → OpensList size mark x r y
opens_after {y = y} {r = r} h same leaves f i g = record {
  ok = IfOk-weaker r _ _ (λ l amid e. f l e (rw (sym same) (amid e))) h.ok;
  err = IfErr-weaker r _ _ (λ k none. (i k (rw (sym same) none.0), λ e. g e (rw (sym same) (none.1 e)))) h.err;
  leaves = leaves_after y.bits r leaves h.leaves;
  kept = h.kept ∙ same;
}
