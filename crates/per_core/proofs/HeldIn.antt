-- What is spelled within a spelling: each element, part and alternative is in no more bits than the whole.
use Rattle.std.proofs.Common.{◌≡◌, refl, sym, ap, ◌∙◌, ℕ, zero, suc, ◌+◌, ◌-◌, ◌*◌, ◌≤◌, ◌⊎◌, Bool, true, false, cond, ◌&&◌, ltb, List, [], ◌∷◌, ◌++◌, length, arith, inl, inr, Option, Some, None, length-append, subst}
use Rattle.rasn_types.specs.Bits.{Bits, unpack}
use Rattle.rasn_types.proofs.Bits.{length-unpack}
use Rattle.rasn_types.specs.Values.{Value, put, sorted}
use Rattle.rasn_constraints.specs.Bounds.{Size, any_size}
use Rattle.rasn_schema.specs.Orders.{ordered, by_tags, insert_at, how_many_less}
use Rattle.rasn_schema.specs.Schemas.{Order, listed, by_tag, Tag}
use Rattle.per_core.specs.Basic.{OneByOne, InFragments, UnconstrainedLength, IsConstrainedWhole, PaddingIf, length_form, Counted, octet, Fills, Open, Rule, IsLeftOut, Bodies, Root, Additions_in, Record_in}
use Rattle.per_core.specs.Counts.{ItemKind, is_aligned}
use Rattle.per_core.specs.Spellings.{Settings, Spelling, Then}
use Rattle.per_core.proofs.Readings.{length-by_tags}
use Rattle.per_core.specs.ItemCounts.{Each}
use Rattle.per_core.proofs.LengthCounts.{then_length}

-- so many bits at most, from some position on, have a spelling
pub record HeldIn (m : ℕ) (f : Spelling) : Type 0 where
  pub at : ℕ
  pub bits : Bits
  pub fits : length bits ≤ m
  pub spelled : f at bits

-- items
each_append : {X : Type 0} (P : X → Type 0) (xs ys : List X) → Each P xs → Each P ys → Each P (xs ++ ys)
each_append P [] ys h k = k
each_append P (x ∷ xs) ys h k = (h.0, each_append P xs ys h.1 k)

module _ {X : Type 0} (a : Settings) (m : ℕ) (item : X → Spelling) where
  each_held : (xs : List X) (p : ℕ) (b : Bits) → length b ≤ m → OneByOne item xs p b → Each (λ x. HeldIn m (item x)) xs
  each_held [] p b h x = tt
  each_held (y ∷ ys) p b h x = let l = then_length x in
      (record { at = p; bits = x.front; fits = omega arith; spelled = x.is_front }, each_held ys _ x.rest (omega arith) x.is_rest)

  fragments_held : (k : ℕ) (xs : List X) (p : ℕ) (b : Bits) → length b ≤ m → InFragments a item k xs p b → Each (λ x. HeldIn m (item x)) xs
  fragments_held zero xs p b h x =
      let l = then_length x in
      let y = x.is_rest in
      let n = then_length y in each_held xs _ y.rest (omega arith) y.is_rest
  fragments_held (suc k) xs p b h x =
      let y = x.spelled in
      let z = y.is_rest in
      let w = z.is_rest in
      let l = then_length y in
      let n = then_length z in
      let o = then_length w in
      let q = each_held x.these _ w.front (omega arith) w.is_front in
      let r = fragments_held k x.others _ w.rest (omega arith) w.is_rest in
      subst (λ ys. Each (λ y. HeldIn m (item y)) ys) (sym x.all) (each_append (λ y. HeldIn m (item y)) x.these x.others q r)

  form_held : (l u : Option ℕ) (kind : ItemKind) (xs : List X) (p : ℕ) (b : Bits) → length b ≤ m → length_form a l u kind item xs p b → Each (λ x. HeldIn m (item x)) xs
  form_held None u kind xs p b h x = fragments_held x.fragments xs p b h x.spelled
  form_held (Some lb) None kind xs p b h x = fragments_held x.fragments xs p b h x.spelled
  form_held (Some lb) (Some ub) kind xs p b h x = choose (ltb ub 65536) x
    where
      choose : (t : Bool) → cond t (Then (IsConstrainedWhole a (ub - lb + 1) (length xs - lb)) (Then (PaddingIf (ltb 0 (length xs) && is_aligned kind lb ub) a) (OneByOne item xs)))
          (UnconstrainedLength a item xs) p b → Each (λ x. HeldIn m (item x)) xs
      choose true y =
          let z = y.is_rest in
          let l = then_length y in
          let n = then_length z in each_held xs _ z.rest (omega arith) z.is_rest
      choose false y = fragments_held y.fragments xs p b h y.spelled

  pub lengthy_held : (size : Size) (mark : Bool) (kind : ItemKind) (xs : List X) (p : ℕ) (b : Bits) → length b ≤ m → Counted a size mark kind item xs p b → Each (λ x. HeldIn m (item x)) xs
  lengthy_held size false kind xs p b h x = form_held size.least size.most kind xs p b h x.spelled
  lengthy_held size true kind xs p b h (inl x) = let l = then_length x in form_held size.least size.most kind xs _ x.rest (omega arith) x.is_rest.spelled
  lengthy_held size true kind xs p b h (inr x) = let l = then_length x in form_held any_size.least any_size.most kind xs _ x.rest (omega arith) x.is_rest.spelled

-- octets take eight bits each
octets_long : (os : List ℕ) (p : ℕ) (b : Bits) → OneByOne octet os p b → 8 * length os ≤ length b
octets_long [] p b x = omega arith
octets_long (o ∷ os) p b x = let l = then_length x in let w = x.is_front.wide in let r = octets_long os _ x.rest x.is_rest in omega arith

fragments_long : (a : Settings) (k : ℕ) (os : List ℕ) (p : ℕ) (b : Bits) → InFragments a octet k os p b → 8 * length os ≤ length b
fragments_long a zero os p b x =
    let l = then_length x in
    let y = x.is_rest in
    let n = then_length y in
    let r = octets_long os _ y.rest y.is_rest in omega arith
fragments_long a (suc k) os p b x =
    let y = x.spelled in
    let z = y.is_rest in
    let w = z.is_rest in
    let l = then_length y in
    let n = then_length z in
    let o = then_length w in
    let e : length os ≡ length x.these + length x.others = ap length x.all ∙ length-append x.these x.others in
    let q = octets_long x.these _ w.front w.is_front in
    let r = fragments_long a k x.others _ w.rest w.is_rest in omega arith

-- an open type's contents
pub open_held : (a : Settings) (m : ℕ) (f : Spelling) (p : ℕ) (b : Bits) → length b ≤ m → Open a (Fills a f) p b → HeldIn m f
open_held a m f p b h x = go x.are
  where
    long : 8 * length x.octets ≤ length b
    long = fragments_long a x.spelled.spelled.fragments x.octets p b x.spelled.spelled.spelled

    go : Fills a f x.octets → HeldIn m f
    go (inl y) =
        let l : length (unpack x.octets) ≡ length y.front + length y.spare = ap length y.all ∙ length-append y.front y.spare in
        let n = length-unpack x.octets in
        let o = long in
        record { at = 0; bits = y.front; fits = omega arith; spelled = y.spelled }
    go (inr y) = record { at = 0; bits = []; fits = omega arith; spelled = y.0 }

-- parts: what isn't held was left out
abbrev pub SlotHeld : ℕ → Rule → Option Value → Type 0
SlotHeld m r s = IsLeftOut r.presence s ⊎ ((v : Value) × (s ≡ Some v) × HeldIn m (r.spells v))

abbrev pub SlotsHeld : ℕ → List Rule → List (Option Value) → Type 0
SlotsHeld m [] [] = Unit {0}
SlotsHeld m (r ∷ rs) (s ∷ ss) = SlotHeld m r s × SlotsHeld m rs ss
SlotsHeld m _ _ = ⊥

module _ (m : ℕ) where
  bodies_held : (rs : List Rule) (bs : List Bool) (ss : List (Option Value)) (p : ℕ) (b : Bits) → length b ≤ m → Bodies rs bs ss p b → SlotsHeld m rs ss
  bodies_held [] [] [] p b h x = tt
  bodies_held (r ∷ rs) (true ∷ bs) (s ∷ ss) p b h x =
      let l = then_length x in
      let y = x.is_front in
      (inr (y.held, y.is, record { at = p; bits = x.front; fits = omega arith; spelled = y.spelled }), bodies_held rs bs ss _ x.rest (omega arith) x.is_rest)
  bodies_held (r ∷ rs) (false ∷ bs) (s ∷ ss) p b h x = let l = then_length x in (inl x.is_front.0, bodies_held rs bs ss _ x.rest (omega arith) x.is_rest)
  bodies_held [] [] (s ∷ ss) p b h x = absurd x
  bodies_held [] (c ∷ bs) ss p b h x = absurd x
  bodies_held (r ∷ rs) [] ss p b h x = absurd x
  bodies_held (r ∷ rs) (c ∷ bs) [] p b h x = absurd x

  root_held : (rs : List Rule) (ss : List (Option Value)) (p : ℕ) (b : Bits) → length b ≤ m → Root rs ss p b → SlotsHeld m rs ss
  root_held rs ss p b h x = let l = then_length x.spelled in bodies_held rs x.shown ss _ x.spelled.rest (omega arith) x.spelled.is_rest

  additions_held : (a : Settings) (u : Bool) (rs : List Rule) (ss : List (Option Value)) (bs : List Bool) (p : ℕ) (b : Bits) → length b ≤ m → Additions_in a u rs ss bs p b → SlotsHeld m rs ss
  additions_held a u [] [] bs p b h x = tt
  additions_held a u [] (s ∷ ss) bs p b h x = absurd x
  additions_held a u (r ∷ rs) [] bs p b h x = absurd x
  additions_held a u (r ∷ rs) (s ∷ ss) [] p b h x = (inl x.0, additions_held a u rs ss [] p b h x.1)
  additions_held a u (r ∷ rs) (s ∷ ss) (false ∷ bs) p b h x = (inl x.0, additions_held a u rs ss bs p b h x.1)
  additions_held a u (r ∷ rs) (s ∷ ss) (true ∷ bs) p b h x =
      let l = then_length x in
      let y = x.is_front in
      (inr (y.held, y.is, open_held a m (r.spells y.held) p x.front (omega arith) y.spelled), additions_held a u rs ss bs _ x.rest (omega arith) x.is_rest)

  -- in the order in which a SET's parts are listed
  as_many : (rs : List Rule) (ss : List (Option Value)) → SlotsHeld m rs ss → length rs ≡ length ss
  as_many [] [] h = refl
  as_many (r ∷ rs) (s ∷ ss) h = ap suc (as_many rs ss h.1)
  as_many [] (s ∷ ss) h = absurd h
  as_many (r ∷ rs) [] h = absurd h

  taken_out : (n : ℕ) (r : Rule) (s : Option Value) (rs : List Rule) (ss : List (Option Value)) → length rs ≡ length ss → SlotsHeld m (insert_at n r rs) (insert_at n s ss) → SlotHeld m r s × SlotsHeld m rs ss
  taken_out zero r s rs ss l h = h
  taken_out (suc n) r s [] [] l h = h
  taken_out (suc n) r s (q ∷ rs) (t ∷ ss) l h = let k = taken_out n r s rs ss (omega arith) h.1 in (k.0, (h.0, k.1))
  taken_out (suc n) r s [] (t ∷ ss) l h = absurd (omega arith)
  taken_out (suc n) r s (q ∷ rs) [] l h = absurd (omega arith)

  as_tagged : (ts : List Tag) (rs : List Rule) (ss : List (Option Value)) → length rs ≡ length ss → SlotsHeld m (by_tags ts rs) (by_tags ts ss) → SlotsHeld m rs ss
  as_tagged ts [] [] l h = tt
  as_tagged [] (r ∷ rs) (s ∷ ss) l h = h
  as_tagged (t ∷ ts) (r ∷ rs) (s ∷ ss) l h =
      let e : length rs ≡ length ss = omega arith in
      let k = taken_out (how_many_less t ts) r s (by_tags ts rs) (by_tags ts ss) (length-by_tags ts rs ∙ e ∙ sym (length-by_tags ts ss)) h in
      (k.0, as_tagged ts rs ss e k.1)
  as_tagged ts [] (s ∷ ss) l h = absurd (omega arith)
  as_tagged ts (r ∷ rs) [] l h = absurd (omega arith)

  as_listed : (o : Order) (ts : List Tag) (rs : List Rule) (ss : List (Option Value)) → SlotsHeld m (ordered o ts rs) (ordered o ts ss) → SlotsHeld m rs ss
  as_listed listed ts rs ss h = h
  as_listed by_tag ts rs ss h = as_tagged ts rs ss (sym (length-by_tags ts rs) ∙ as_many (by_tags ts rs) (by_tags ts ss) h ∙ length-by_tags ts ss) h

  -- all of a record
  fields_in_turn : (a : Settings) (u ext : Bool) (rs adds : List Rule) (ss xs : List (Option Value)) (p : ℕ) (b : Bits) → length b ≤ m → Record_in a u ext rs adds ss xs p b → SlotsHeld m rs ss × SlotsHeld m adds xs
  fields_in_turn a u false rs adds ss xs p b h x =
      let l = then_length x in (root_held rs ss p x.front (omega arith) x.is_front, additions_held a u adds xs [] _ x.rest (omega arith) x.is_rest)
  fields_in_turn a u true rs adds ss xs p b h (inl x) =
      let y = x.is_rest in
      let l = then_length x in
      let n = then_length y in (root_held rs ss _ y.front (omega arith) y.is_front, additions_held a u adds xs [] _ y.rest (omega arith) y.is_rest)
  fields_in_turn a u true rs adds ss xs p b h (inr z) =
      let x = z.spelled in
      let y = x.is_rest in
      let w = y.is_rest in
      let l = then_length x in
      let n = then_length y in
      let o = then_length w in (root_held rs ss _ y.front (omega arith) y.is_front, additions_held a u adds xs z.flags _ w.rest (omega arith) w.is_rest)

  pub fields_held : (a : Settings) (u ext : Bool) (o : Order) (ts : List Tag) (rs adds : List Rule) (ss xs : List (Option Value)) (p : ℕ) (b : Bits) → length b ≤ m →
      Record_in a u ext (ordered o ts rs) adds (ordered o ts ss) xs p b → SlotsHeld m rs ss × SlotsHeld m adds xs
  fields_held a u ext o ts rs adds ss xs p b h x = let r = fields_in_turn a u ext (ordered o ts rs) adds (ordered o ts ss) xs p b h x in (as_listed o ts rs ss r.0, r.1)

-- a fact of each member, in ascending order
module _ {X : Type 0} (P : X → Type 0) (less : X → X → Bool) where
  all_put : (x : X) (ys : List X) → P x → Each P ys → Each P (put less x ys)
  all_put x [] h k = (h, tt)
  all_put x (y ∷ ys) h k = go (less y x) (all_put x ys h k.1)
    where
      go : (t : Bool) → Each P (put less x ys) → Each P (cond t (y ∷ put less x ys) (x ∷ y ∷ ys))
      go true r = (k.0, r)
      go false r = (h, (k.0, k.1))

  pub all_sorted : (xs : List X) → Each P xs → Each P (sorted less xs)
  all_sorted [] h = tt
  all_sorted (x ∷ xs) h = all_put x (sorted less xs) h.0 (all_sorted xs h.1)

pub each_map : {X : Type 0} (P Q : X → Type 0) → ((x : X) → P x → Q x) → (xs : List X) → Each P xs → Each Q xs
each_map P Q f [] h = tt
each_map P Q f (x ∷ xs) h = (f x h.0, each_map P Q f xs h.1)
