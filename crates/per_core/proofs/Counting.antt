-- Counted items are spelled by what the length relation asks.
use Rattle.std.proofs.Common.{◌≡◌, refl, sym, ap, ◌∙◌, subst, ℕ, zero, suc, ◌+◌, ◌-◌, ◌*◌, ◌/◌, ◌%◌, ◌<◌, ◌≤◌, Bool, true, false, cond, ◌&&◌, ltb, List, [], ◌∷◌, ◌++◌, map, length, take, drop, replicate, arith, Option, Some, None, ltb-true, append-nil, length-take, length-drop, take-append-drop, take_all, lt-ltb, le-ltb}
use Rattle.rasn_types.specs.Bits.{Bits, to_bits}
use Rattle.rasn_constraints.specs.Bounds.{allows, Size, any_size}
use Rattle.per_core.specs.Basic.{OneByOne, LastCount, Fragment, UnconstrainedLength, PaddingIf, length_form, Sized, Counted}
use Rattle.per_core.specs.Counts.{fragment_sizes, unless_zero, determinant, in_fragments, ItemKind, is_aligned, padding_if, counted_under, counted_in, marked_form, counted}
use Rattle.per_core.specs.Spellings.{Settings, Spelling, exactly, Then, AnyPadding, BitField}
use Rattle.per_core.specs.Writers.{after, Writer, just, ◌▹◌, one_by_one, padding, written_if}
use Rattle.per_core.proofs.WriterSpellings.{Within, just_within, then_within, if_within, cond_within, relax, left_within, right_within, when_within, field_within, padding_within, bounded_within}

pub length-map' : {X Y : Type 0} (f : X → Y) (xs : List X) → length (map f xs) ≡ length xs
length-map' f [] = refl
length-map' f (x ∷ xs) = ap suc (length-map' f xs)

take-map' : {X Y : Type 0} (f : X → Y) (n : ℕ) (xs : List X) → take n (map f xs) ≡ map f (take n xs)
take-map' f zero xs = refl
take-map' f (suc n) [] = refl
take-map' f (suc n) (x ∷ xs) = let r : take n (map f xs) ≡ map f (take n xs) = take-map' f n xs in cc

drop-map' : {X Y : Type 0} (f : X → Y) (n : ℕ) (xs : List X) → drop n (map f xs) ≡ map f (drop n xs)
drop-map' f zero xs = refl
drop-map' f (suc n) [] = refl
drop-map' f (suc n) (x ∷ xs) = drop-map' f n xs

-- fragment_sizes: fragments, and a last count below 16384
abbrev Plan : List ℕ → ℕ → Type 0
Plan [] n = ⊥
Plan (m ∷ []) n = (m ≡ n) × (m < 16384)
Plan (m ∷ k ∷ ms) n = (j : ℕ) × (0 < j) × (j < 5) × (m ≡ 16384 * j) × (m ≤ n) × Plan (k ∷ ms) (n - m)

last_count : (m : ℕ) → m < 16384 → Within (just (determinant m)) (LastCount m)
unfolding determinant
last_count m h = cond_cases (ltb m 128) refl
  where
    cond_cases : (b : Bool) → ltb m 128 ≡ b → Within (just (cond b (to_bits 8 m) (cond (ltb m 16384) (true ∷ false ∷ to_bits 14 m) (to_bits 8 (192 + m / 16384))))) (LastCount m)
    cond_cases true e = left_within (when_within (ltb-true m 128 e) (field_within 8 m (omega (arith, ltb-true m 128 e))))
    cond_cases false e = right_within (rw (lt-ltb m 16384 h) (two (field_within 14 m h)))
      where
        two : Within (just (to_bits 14 m)) (BitField 14 m) → Within (just (true ∷ false ∷ to_bits 14 m)) (Then (exactly (true ∷ false ∷ [])) (BitField 14 m))
        two w = record {
          within = λ p b e. let e' : true ∷ false ∷ to_bits 14 m ≡ b = cc in
              record { front = true ∷ false ∷ []; rest = to_bits 14 m; is_front = refl; is_rest = w.within ((p + 2) % 8) (to_bits 14 m) refl; joins = sym e' };
        }

fragment_count : (m j : ℕ) → 0 < j → j < 5 → m ≡ 16384 * j → Within (just (determinant m)) (Fragment m)
unfolding determinant
fragment_count m j h l e = rw (not-below m 128 (omega arith), not-below m 16384 (omega arith))
    (relax (λ p b x. record { times = m / 16384; some = omega arith; few = omega arith; is = omega arith; spelled = x }) (field_within 8 (192 + m / 16384) (omega arith)))
  where
    not-below : (m k : ℕ) → k ≤ m → ltb m k ≡ false
    not-below m k h = le-ltb m k h

-- the plan that is written
last_plan : (q s : ℕ) → q < 4 → s < 16384 → Plan (unless_zero (q * 16384) ++ s ∷ []) (q * 16384 + s)
last_plan zero s h l = (omega arith, l)
last_plan (suc zero) s h l = (1, omega arith, omega arith, omega arith, omega arith, (omega arith, l))
last_plan (suc (suc zero)) s h l = (2, omega arith, omega arith, omega arith, omega arith, (omega arith, l))
last_plan (suc (suc (suc zero))) s h l = (3, omega arith, omega arith, omega arith, omega arith, (omega arith, l))
last_plan (suc (suc (suc (suc q)))) s h l = absurd (omega arith)

full_plan : (k r m : ℕ) (ms : List ℕ) → Plan (m ∷ ms) r → Plan (replicate k 65536 ++ m ∷ ms) (65536 * k + r)
full_plan zero r m ms h = subst (λ n. Plan (m ∷ ms) n) (omega arith) h
full_plan (suc zero) r m ms h = (4, omega arith, omega arith, omega arith, omega arith, subst (λ n. Plan (m ∷ ms) n) (omega arith) h)
full_plan (suc (suc k)) r m ms h = (
  4,
  omega arith,
  omega arith,
  omega arith,
  omega arith,
  subst (λ n. Plan (replicate (suc k) 65536 ++ m ∷ ms) n) (omega arith) (full_plan (suc k) r m ms h),
)

full_plan' : (k r : ℕ) (l : List ℕ) → Plan l r → Plan (replicate k 65536 ++ l) (65536 * k + r)
full_plan' k r [] h = absurd h
full_plan' k r (m ∷ ms) h = full_plan k r m ms h

planned : (n : ℕ) → Plan (fragment_sizes n) n
planned n = subst (λ k. Plan (fragment_sizes n) k) (omega arith)
    (full_plan' (n / 65536) (n % 65536 / 16384 * 16384 + n % 16384) (unless_zero (n % 65536 / 16384 * 16384) ++ n % 16384 ∷ [])
    (last_plan (n % 65536 / 16384) (n % 16384) (omega arith) (omega arith)))

then_nothing : {v : Writer} {f : Spelling} → Within v f → Within (v ▹ just []) f
then_nothing {v} {f} h = record {
  within = λ p b e. let x = (then_within h (just_within [])).within p b e in
      subst (f p) (sym (x.joins ∙ ap (λ z. x.front ++ z) x.is_rest ∙ append-nil x.front)) x.is_front;
}

length-taken : {X : Type 0} (m : ℕ) (xs : List X) → m ≤ length xs → length (take m xs) ≡ m
length-taken m xs h = simp length-take (omega arith)

module _ {X : Type 0} (w : X → Writer) (f : X → Spelling) (each : (x : X) → Within (w x) (f x)) where
  pub row_within : (xs : List X) → Within (one_by_one (map w xs)) (OneByOne f xs)
  row_within [] = just_within []
  row_within (x ∷ xs) = then_within (each x) (row_within xs)

  pub in_fragments_within : (a : Settings) (ms : List ℕ) (xs : List X) → Plan ms (length xs) → Within (in_fragments a.variant ms (map w xs)) (UnconstrainedLength a f xs)
  in_fragments_within a [] xs h = absurd h
  in_fragments_within a (m ∷ []) xs h =
      let e : take m (map w xs) ≡ map w xs = take_all m (map w xs) (omega (arith, length-map' w xs, h.0)) in
      rw e (relax (λ p b x. record { fragments = zero; spelled = x })
      (then_within (padding_within a) (then_within (subst (λ n. Within (just (determinant m)) (LastCount n)) h.0 (last_count m h.1)) (then_nothing (row_within xs)))))
  in_fragments_within a (m ∷ k ∷ ms) xs h =
      subst (λ l. Within (padding a.variant ▹ just (determinant m) ▹ one_by_one l ▹ in_fragments a.variant (k ∷ ms) (drop m (map w xs))) (UnconstrainedLength a f xs)) (sym (take-map' w m xs))
      (subst (λ l. Within (padding a.variant ▹ just (determinant m) ▹ one_by_one (map w (take m xs)) ▹ in_fragments a.variant (k ∷ ms) l) (UnconstrainedLength a f xs)) (sym (drop-map' w m xs))
      (relax (again (length-taken m xs h.4))
      (then_within (padding_within a) (then_within (fragment_count m h.0 h.1 h.2 h.3) (then_within (row_within (take m xs))
      (in_fragments_within a (k ∷ ms) (drop m xs) (subst (λ n. Plan (k ∷ ms) n) (sym (length-drop m xs)) h.5)))))))
    where
      again : length (take m xs) ≡ m → (p : ℕ) (b : Bits) → Then (AnyPadding a) (Then (Fragment m) (Then (OneByOne f (take m xs)) (UnconstrainedLength a f (drop m xs)))) p b → UnconstrainedLength a f xs p b
      again l p b x = record {
        fragments = suc x.is_rest.is_rest.is_rest.fragments;
        spelled = record {
          these = take m xs;
          others = drop m xs;
          all = sym (take-append-drop m xs);
          spelled = record {
            front = x.front;
            rest = x.rest;
            is_front = x.is_front;
            joins = x.joins;
            is_rest = record {
              front = x.is_rest.front;
              rest = x.is_rest.rest;
              joins = x.is_rest.joins;
              is_front = subst (λ n. Fragment n (after p x.front) x.is_rest.front) (sym l) x.is_rest.is_front;
              is_rest = record {
                front = x.is_rest.is_rest.front;
                rest = x.is_rest.is_rest.rest;
                is_front = x.is_rest.is_rest.is_front;
                joins = x.is_rest.is_rest.joins;
                is_rest = x.is_rest.is_rest.is_rest.spelled;
              };
            };
          };
        };
      }

  -- the fragment_sizes that are written
  pub unsized_within : (a : Settings) (xs : List X) → Within (in_fragments a.variant (fragment_sizes (length xs)) (map w xs)) (UnconstrainedLength a f xs)
  unsized_within a xs = in_fragments_within a (fragment_sizes (length xs)) xs (planned (length xs))

  padding_if_within : (a : Settings) (b : Bool) → Within (padding_if b a.variant) (PaddingIf b a)
  padding_if_within a true = padding_within a
  padding_if_within a false = just_within []

  under_within : (a : Settings) (l u : Option ℕ) (kind : ItemKind) (xs : List X) → Within (counted_under a.variant l u kind (length xs) (map w xs)) (length_form a l u kind f xs)
  under_within a None u kind xs = unsized_within a xs
  under_within a (Some lb) None kind xs = unsized_within a xs
  under_within a (Some lb) (Some ub) kind xs = cond_within (ltb ub 65536)
      (λ e. then_within (bounded_within a (ub - lb + 1) (length xs - lb)) (then_within (padding_if_within a (ltb 0 (length xs) && is_aligned kind lb ub)) (row_within xs)))
      (λ e. unsized_within a xs)

  sized_within : (a : Settings) (size : Size) (kind : ItemKind) (xs : List X) → Within (counted_in a.variant size kind (map w xs)) (Sized a size kind f xs)
  sized_within a size kind xs = subst (λ n. Within (written_if (allows size n) (counted_under a.variant size.least size.most kind n (map w xs))) (Sized a size kind f xs)) (sym (length-map' w xs))
      (if_within (allows size (length xs)) (λ e. relax (λ p b x. record { allowed = e; spelled = x }) (under_within a size.least size.most kind xs)))

  pub counted_within : (a : Settings) (size : Size) (mark : Bool) (kind : ItemKind) (xs : List X) → Within (counted a.variant size mark kind (map w xs)) (Counted a size mark kind f xs)
  counted_within a size mark kind xs = form mark (allows size (length (map w xs)))
    where
      form : (mark inside : Bool) → Within (marked_form mark inside (counted_in a.variant size kind (map w xs)) (counted_in a.variant any_size kind (map w xs))) (Counted a size mark kind f xs)
      form false inside = sized_within a size kind xs
      form true true = left_within (then_within (just_within (false ∷ [])) (sized_within a size kind xs))
      form true false = right_within (then_within (just_within (true ∷ [])) (sized_within a any_size kind xs))
