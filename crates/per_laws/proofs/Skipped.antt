-- Unknown additions: records that are read with them, whatever their octets are, and where these end.
use Rattle.std.proofs.Common.{◌≡◌, ◌↔◌, ◌⊎◌, inl, inr, refl, sym, ap, ◌∙◌, subst, ℕ, zero, suc, ◌+◌, ◌*◌, ◌%◌, ◌<◌, Bool, true, false, List, [], ◌∷◌, ◌++◌, length, append_assoc, append-nil, length-append, arith, Option}
use Rattle.rasn_types.specs.Bits.{Bits, unpack}
use Rattle.rasn_types.specs.Values.{Value, fields, as_slots}
use Rattle.rasn_types.specs.Variants.{Variant, aligned, unaligned}
use Rattle.rasn_schema.specs.Orders.{ordered}
use Rattle.rasn_schema.specs.Schemas.{Order, Parts, Schema, tags, count}
use Rattle.per_core.specs.Basic.{OneByOne, LastCount, InFragments, octet, Octets, Rule, Root, IsBitmap, Unknown_in, Additions_in, Record_in, basic, basic_in, fills, rules}
use Rattle.per_core.specs.Spellings.{Settings, ZeroIf, Spelling, exactly, Then, AnyPadding}
use Rattle.per_core.specs.Writers.{after, pad}
use Rattle.per_core.proofs.Laws.{one_spelling, one_value}
use Rattle.per_core.proofs.Readings.{length-rules}
use Rattle.per_laws.specs.Unknown.{count_set, OpenTypes, BeforeUnknown, WithUnknown}

-- positions after bits
after_both : (p : ℕ) (b c : Bits) → after (after p b) c ≡ after p (b ++ c)
after_both p b c = omega (arith, length-append b c)

after_front : (p : ℕ) (b c d : Bits) → d ≡ b ++ c → after p d ≡ after (after p b) c
after_front p b c d e = ap (after p) e ∙ sym (after_both p b c)

-- a spelling that goes on after another one
then_after : (f g h k : Spelling) → ((q : ℕ) (b c : Bits) → q < 8 → g q b → k (after q b) c → h q (b ++ c)) →
    (p : ℕ) (b c : Bits) → Then f g p b → k (after p b) c → Then f h p (b ++ c)
then_after f g h k each p b c x y =
    let e = after_front p x.front x.rest b x.joins in
    record {
      front = x.front;
      rest = x.rest ++ c;
      is_front = x.is_front;
      is_rest = each (after p x.front) x.rest c (omega arith) x.is_rest (subst (λ q. k q c) e y);
      joins = ap (λ z. z ++ c) x.joins ∙ append_assoc x.front x.rest c;
    }

-- and that ends before another one
record Halves (g k : Spelling) (p : ℕ) (b : Bits) : Type 0 where
  before : Bits
  behind : Bits
  joins : b ≡ before ++ behind
  is_before : g p before
  is_after : k (after p before) behind

then_halves : (f g h k : Spelling) (p : ℕ) (b : Bits) (x : Then f h p b) → Halves g k (after p x.front) x.rest → Halves (Then f g) k p b
then_halves f g h k p b x y = record {
  before = x.front ++ y.before;
  behind = y.behind;
  joins = x.joins ∙ ap (λ z. x.front ++ z) y.joins ∙ sym (append_assoc x.front y.before y.behind);
  is_before = record { front = x.front; rest = y.before; is_front = x.is_front; is_rest = y.is_before; joins = refl };
  is_after = subst (λ q. k q y.behind) (after_both p x.front y.before) y.is_after;
}

-- unknown additions are open types of any octets
opens_unknown : (a : Settings) (more : List Bool) (octets : List (List ℕ)) → count_set more ≡ length octets → (p : ℕ) (b : Bits) → OpenTypes a octets p b → Unknown_in a true more p b
opens_unknown a [] [] l p b x = x
opens_unknown a [] (os ∷ octets) l p b x = absurd (omega arith)
opens_unknown a (false ∷ more) octets l p b x = opens_unknown a more octets l p b x
opens_unknown a (true ∷ more) [] l p b x = absurd (omega arith)
opens_unknown a (true ∷ more) (os ∷ octets) l p b x = record {
  front = x.front;
  rest = x.rest;
  is_front = record { octets = os; are = tt; spelled = x.is_front };
  is_rest = opens_unknown a more octets (omega arith) (after p x.front) x.rest x.is_rest;
  joins = x.joins;
}

record Opened (a : Settings) (more : List Bool) (p : ℕ) (b : Bits) : Type 0 where
  octets : List (List ℕ)
  announced : count_set more ≡ length octets
  spelled : OpenTypes a octets p b

unknown_opens : (a : Settings) (more : List Bool) (p : ℕ) (b : Bits) → Unknown_in a true more p b → Opened a more p b
unknown_opens a [] p b x = record { octets = []; announced = refl; spelled = x }
unknown_opens a (false ∷ more) p b x = let r = unknown_opens a more p b x in record { octets = r.octets; announced = r.announced; spelled = r.spelled }
unknown_opens a (true ∷ more) p b x =
    let r = unknown_opens a more (after p x.front) x.rest x.is_rest in
    record {
      octets = x.is_front.octets ∷ r.octets;
      announced = ap suc r.announced;
      spelled = record { front = x.front; rest = x.rest; is_front = x.is_front.spelled; is_rest = r.spelled; joins = x.joins };
    }

-- a bitmap that is no longer than the schema's list
unknown_none : (a : Settings) (bs : List Bool) (p : ℕ) (b : Bits) → Unknown_in a false bs p b → Unknown_in a true bs p b
unknown_none a [] p b x = x
unknown_none a (false ∷ bs) p b x = unknown_none a bs p b x
unknown_none a (true ∷ bs) p b x = absurd x

known_alone : (a : Settings) (rs : List Rule) (xs : List (Option Value)) (bs : List Bool) (p : ℕ) (b : Bits) → Additions_in a false rs xs bs p b → Additions_in a true rs xs bs p b
known_alone a [] [] bs p b x = unknown_none a bs p b x
known_alone a [] (s ∷ xs) bs p b x = absurd x
known_alone a (r ∷ rs) [] bs p b x = absurd x
known_alone a (r ∷ rs) (s ∷ xs) [] p b x = (x.0, known_alone a rs xs [] p b x.1)
known_alone a (r ∷ rs) (s ∷ xs) (false ∷ bs) p b x = (x.0, known_alone a rs xs bs p b x.1)
known_alone a (r ∷ rs) (s ∷ xs) (true ∷ bs) p b x = record { front = x.front; rest = x.rest; is_front = x.is_front; is_rest = known_alone a rs xs bs (after p x.front) x.rest x.is_rest; joins = x.joins }

no_flags : (a : Settings) (rs : List Rule) (xs : List (Option Value)) (p : ℕ) (b : Bits) → Additions_in a true rs xs [] p b → Additions_in a false rs xs [] p b
no_flags a [] [] p b x = x
no_flags a [] (s ∷ xs) p b x = absurd x
no_flags a (r ∷ rs) [] p b x = absurd x
no_flags a (r ∷ rs) (s ∷ xs) p b x = (x.0, no_flags a rs xs p b x.1)

-- the additions of the schema, and the unknown ones after them
goes_on : (a : Settings) (more : List Bool) (octets : List (List ℕ)) → count_set more ≡ length octets → (rs : List Rule) (xs : List (Option Value)) (shown : List Bool) → length shown ≡ length rs →
    (p : ℕ) (b c : Bits) → p < 8 → Additions_in a false rs xs shown p b → OpenTypes a octets (after p b) c → Additions_in a true rs xs (shown ++ more) p (b ++ c)
goes_on a more octets n [] [] [] k p b c l x y =
    let e : after p b ≡ p = ap (after p) x ∙ omega arith in
    subst (λ z. Unknown_in a true more p (z ++ c)) (sym x) (opens_unknown a more octets n p c (subst (λ q. OpenTypes a octets q c) e y))
goes_on a more octets n [] [] (t ∷ shown) k p b c l x y = absurd (omega arith)
goes_on a more octets n [] (s ∷ xs) shown k p b c l x y = absurd x
goes_on a more octets n (r ∷ rs) [] shown k p b c l x y = absurd x
goes_on a more octets n (r ∷ rs) (s ∷ xs) [] k p b c l x y = absurd (omega arith)
goes_on a more octets n (r ∷ rs) (s ∷ xs) (false ∷ shown) k p b c l x y = (x.0, goes_on a more octets n rs xs shown (omega arith) p b c l x.1 y)
goes_on a more octets n (r ∷ rs) (s ∷ xs) (true ∷ shown) k p b c l x y =
    then_after _ (Additions_in a false rs xs shown) (Additions_in a true rs xs (shown ++ more)) (OpenTypes a octets) (goes_on a more octets n rs xs shown (omega arith)) p b c x y

record Parted (a : Settings) (rs : List Rule) (xs : List (Option Value)) (bs : List Bool) (p : ℕ) (b : Bits) : Type 0 where
  shown : List Bool
  more : List Bool
  joins : bs ≡ shown ++ more
  enough : (length shown ≡ length rs) ⊎ (more ≡ [])
  octets : List (List ℕ)
  announced : count_set more ≡ length octets
  halves : Halves (Additions_in a false rs xs shown) (OpenTypes a octets) p b

one_more : {m n : ℕ} {more : List Bool} → (m ≡ n) ⊎ (more ≡ []) → (suc m ≡ suc n) ⊎ (more ≡ [])
one_more (inl e) = inl (ap suc e)
one_more (inr e) = inr e

parted : (a : Settings) (rs : List Rule) (xs : List (Option Value)) (bs : List Bool) (p : ℕ) (b : Bits) → p < 8 → Additions_in a true rs xs bs p b → Parted a rs xs bs p b
parted a [] [] bs p b l x =
    let r = unknown_opens a bs p b x in
    let e : p ≡ after p [] = omega arith in
    record {
      shown = [];
      more = bs;
      joins = refl;
      enough = inl refl;
      octets = r.octets;
      announced = r.announced;
      halves = record { before = []; behind = b; joins = refl; is_before = refl; is_after = subst (λ q. OpenTypes a r.octets q b) e r.spelled };
    }
parted a [] (s ∷ xs) bs p b l x = absurd x
parted a (r ∷ rs) [] bs p b l x = absurd x
parted a (r ∷ rs) (s ∷ xs) [] p b l x = record {
  shown = [];
  more = [];
  joins = refl;
  enough = inr refl;
  octets = [];
  announced = refl;
  halves = record { before = b; behind = []; joins = sym (append-nil b); is_before = no_flags a (r ∷ rs) (s ∷ xs) p b x; is_after = refl };
}
parted a (r ∷ rs) (s ∷ xs) (false ∷ bs) p b l x =
    let q = parted a rs xs bs p b l x.1 in
    record {
      shown = false ∷ q.shown;
      more = q.more;
      joins = ap (λ z. false ∷ z) q.joins;
      enough = one_more q.enough;
      octets = q.octets;
      announced = q.announced;
      halves = record { before = q.halves.before; behind = q.halves.behind; joins = q.halves.joins; is_before = (x.0, q.halves.is_before); is_after = q.halves.is_after };
    }
parted a (r ∷ rs) (s ∷ xs) (true ∷ bs) p b l x =
    let q = parted a rs xs bs (after p x.front) x.rest (omega arith) x.is_rest in
    record {
      shown = true ∷ q.shown;
      more = q.more;
      joins = ap (λ z. true ∷ z) q.joins;
      enough = one_more q.enough;
      octets = q.octets;
      announced = q.announced;
      halves = then_halves _ (Additions_in a false rs xs q.shown) (Additions_in a true rs xs bs) (OpenTypes a q.octets) p b x q.halves;
    }

-- records
none_on : (a : Settings) (more : List Bool) (octets : List (List ℕ)) → more ≡ [] → count_set more ≡ length octets → (rs : List Rule) (xs : List (Option Value)) (shown : List Bool) →
    (p : ℕ) (b c : Bits) → Additions_in a false rs xs shown p b → OpenTypes a octets (after p b) c → Additions_in a true rs xs (shown ++ more) p (b ++ c)
none_on a [] [] e n rs xs shown p b c x y =
    let d : b ++ c ≡ b = ap (λ z. b ++ z) y ∙ append-nil b in
    subst (λ z. Additions_in a true rs xs z p (b ++ c)) (sym (append-nil shown)) (subst (λ z. Additions_in a true rs xs shown p z) (sym d) (known_alone a rs xs shown p b x))
none_on a [] (os ∷ octets) e n rs xs shown p b c x y = absurd (omega arith)
none_on a (t ∷ more) octets e n rs xs shown p b c x y = absurd (cc)

either_on : (a : Settings) (more : List Bool) (octets : List (List ℕ)) → count_set more ≡ length octets → (rs : List Rule) (xs : List (Option Value)) (shown : List Bool) (n : ℕ) → length rs ≡ n → (length shown ≡ n) ⊎ (more ≡ []) →
    (p : ℕ) (b c : Bits) → p < 8 → Additions_in a false rs xs shown p b → OpenTypes a octets (after p b) c → Additions_in a true rs xs (shown ++ more) p (b ++ c)
either_on a more octets m rs xs shown n e (inl k) p b c l x y = goes_on a more octets m rs xs shown (omega arith) p b c l x y
either_on a more octets m rs xs shown n e (inr k) p b c l x y = none_on a more octets k m rs xs shown p b c x y

abbrev Bitmapped : Settings → Parts → List (Option Value) → List Bool → Bool → List Bool → Spelling
Bitmapped a adds xs flags u bs = Then (IsBitmap a flags) (Additions_in a u (rules a adds) xs bs)

abbrev Rooted : Settings → Order → Parts → Parts → List (Option Value) → List (Option Value) → List Bool → Bool → List Bool → Spelling
Rooted a o ps adds ss xs flags u bs = Then (Root (ordered o (tags ps) (rules a ps)) (ordered o (tags ps) ss)) (Bitmapped a adds xs flags u bs)

read_with : (a : Settings) (o : Order) (ps adds : Parts) (more : List Bool) (octets : List (List ℕ)) (v : Value) (p : ℕ) (b c : Bits) → BeforeUnknown a o ps adds more v p b → count_set more ≡ length octets →
    OpenTypes a octets (after p b) c → basic a (Schema.sequence o ps true adds) v p (b ++ c)
unfolding basic_in
read_with a o ps adds more octets v p b c x n y =
    let ss = x.components in
    let xs = x.additions in
    let flags = x.shown ++ more in
    record {
      of = (ss, xs);
      is = x.is;
      spelled = inr (record {
        flags = flags;
        spelled = then_after _ (Rooted a o ps adds ss xs flags false x.shown) (Rooted a o ps adds ss xs flags true flags) (OpenTypes a octets) (λ q b c l.
            then_after _ (Bitmapped a adds xs flags false x.shown) (Bitmapped a adds xs flags true flags) (OpenTypes a octets) (λ q b c l.
            then_after _ (Additions_in a false (rules a adds) xs x.shown) (Additions_in a true (rules a adds) xs flags) (OpenTypes a octets)
            (either_on a more octets n (rules a adds) xs x.shown (count adds) (length-rules a adds) x.enough) q b c) q b c) p b c x.spelled y;
      });
    }

pub unknown_changes_nothing : (a : Settings) (o : Order) (ps adds : Parts) (more : List Bool) (octets : List (List ℕ)) (v w : Value) (p : ℕ) (b c : Bits) → BeforeUnknown a o ps adds more v p b → count_set more ≡ length octets →
    OpenTypes a octets (after p b) c → basic a (Schema.sequence o ps true adds) w p (b ++ c) ↔ (w ≡ v)
unknown_changes_nothing a o ps adds more octets v w p b c x n y =
    let s = Schema.sequence o ps true adds in
    let r = read_with a o ps adds more octets v p b c x n y in (
      λ z. (one_spelling a s w v p (b ++ c) (b ++ c) [] [] z r refl).0,
      λ e. subst (λ z. basic a s z p (b ++ c)) (sym e) r,
    )

pub complete_is_read : (a : Settings) (o : Order) (ps adds : Parts) (more : List Bool) (contents : List (List ℕ)) (v w : Value) (b c spare : Bits) (os : List ℕ) → BeforeUnknown a o ps adds more v 0 b → count_set more ≡ length contents →
    OpenTypes a contents (after 0 b) c → unpack os ≡ b ++ (c ++ spare) → length spare < 8 → ZeroIf a.strict spare → fills a (Schema.sequence o ps true adds) w os ↔ (w ≡ v)
complete_is_read a o ps adds more contents v w b c spare os x n y e l z =
    let s = Schema.sequence o ps true adds in
    let r : fills a s v os = inl (record {
      front = b ++ c;
      spare = spare;
      spelled = read_with a o ps adds more contents v 0 b c x n y;
      all = e ∙ sym (append_assoc b c spare);
      some = omega (arith, length-append b c, ap length x.spelled.joins, length-append x.spelled.front x.spelled.rest, ap length x.spelled.is_front);
      short = l;
      zeros = z;
    }) in
    (λ q. one_value a s w v os q r, λ i. subst (λ q. fills a s q os) (sym i) r)

on_flags : (a : Settings) (o : Order) (ps adds : Parts) (ss xs : List (Option Value)) (shown fs gs : List Bool) (p : ℕ) (b : Bits) → fs ≡ gs →
    Then (exactly (true ∷ [])) (Rooted a o ps adds ss xs fs false shown) p b → Then (exactly (true ∷ [])) (Rooted a o ps adds ss xs gs false shown) p b
on_flags a o ps adds ss xs shown fs gs p b e x = subst (λ flags. Then (exactly (true ∷ [])) (Rooted a o ps adds ss xs flags false shown) p b) e x

pub unknown_after : (a : Settings) (o : Order) (ps adds : Parts) (v : Value) (p : ℕ) (b : Bits) → basic a (Schema.sequence o ps true adds) v p (true ∷ b) → WithUnknown a o ps adds v p (true ∷ b)
unfolding basic_in
unknown_after a o ps adds v p b x = go x.of.0 x.of.1 x.is x.spelled
  where
    go : (ss xs : List (Option Value)) → v ≡ fields (as_slots ss) (as_slots xs) → Record_in a true true (ordered o (tags ps) (rules a ps)) (rules a adds) (ordered o (tags ps) ss) xs p (true ∷ b) → WithUnknown a o ps adds v p (true ∷ b)
    go ss xs e (inl y) = let h : true ∷ b ≡ false ∷ y.rest = y.joins ∙ ap (λ z. z ++ y.rest) y.is_front in absurd (cc)
    go ss xs e (inr z) =
        let y = z.spelled in
        let w = y.is_rest.is_rest in
        let q = parted a (rules a adds) xs z.flags (after (after (after p y.front) y.is_rest.front) w.front) w.rest (omega arith) w.is_rest in
        let h = then_halves _ _ _ (OpenTypes a q.octets) p (true ∷ b) y (then_halves _ _ _ (OpenTypes a q.octets) (after p y.front) y.rest y.is_rest
        (then_halves _ _ _ (OpenTypes a q.octets) (after (after p y.front) y.is_rest.front) y.is_rest.rest w q.halves)) in
        record {
          more = q.more;
          octets = q.octets;
          known = h.before;
          unknown = h.behind;
          joins = h.joins;
          is_known = record { components = ss; additions = xs; is = e; shown = q.shown; enough = to_count q.enough; spelled = on_flags a o ps adds ss xs q.shown z.flags (q.shown ++ q.more) p h.before q.joins h.is_before };
          announced = q.announced;
          is_unknown = h.is_after;
        }
      where
        to_count : {m : ℕ} {more : List Bool} → (m ≡ length (rules a adds)) ⊎ (more ≡ []) → (m ≡ count adds) ⊎ (more ≡ [])
        to_count (inl e) = inl (e ∙ length-rules a adds)
        to_count (inr e) = inr e

-- where octets end: on an octet in ALIGNED, as far into one as they began in UNALIGNED
settled : Variant → ℕ → ℕ
settled a p = (p + pad a p) % 8

settled_again : (a : Variant) (p n : ℕ) → settled a ((settled a p + 8 * n) % 8) ≡ settled a p
unfolding settled
settled_again aligned p n = omega arith
settled_again unaligned p n = omega arith

row_length : (os : List ℕ) (p : ℕ) (b : Bits) → OneByOne octet os p b → length b ≡ 8 * length os
row_length [] p b x = ap length x
row_length (o ∷ os) p b x = omega (arith, ap length x.joins, length-append x.front x.rest, x.is_front.wide, row_length os (after p x.front) x.rest x.is_rest)

last_length : (n p : ℕ) (b : Bits) → LastCount n p b → length b % 8 ≡ 0
last_length n p b (inl x) = omega (arith, x.1.wide)
last_length n p b (inr x) = omega (arith, ap length x.joins, length-append x.front x.rest, ap length x.is_front, x.is_rest.wide)

padded_whole : (a : Settings) (f : Spelling) (p : ℕ) (b : Bits) (x : Then (AnyPadding a) f p b) → length x.rest % 8 ≡ 0 → after p b ≡ settled a.variant p
unfolding settled
padded_whole a f p b x e = omega (arith, ap length x.joins, length-append x.front x.rest, x.is_front.fits)

after_octets : (a : Settings) (p n : ℕ) (b c d : Bits) → length b ≡ pad a.variant p → length c ≡ 8 → length d ≡ 8 * n → after (after (after p b) c) d ≡ (settled a.variant p + 8 * n) % 8
unfolding settled
after_octets a p n b c d e f g = omega arith

fragments_settle : (a : Settings) (k : ℕ) (os : List ℕ) (p : ℕ) (b : Bits) → InFragments a octet k os p b → after p b ≡ settled a.variant p
fragments_settle a zero os p b x =
    let y = x.is_rest in
    padded_whole a _ p b x (omega (arith, ap length y.joins, length-append y.front y.rest, last_length (length os) (after p x.front) y.front y.is_front, row_length os (after (after p x.front) y.front) y.rest y.is_rest))
fragments_settle a (suc k) os p b z =
    let x = z.spelled in
    let y = x.is_rest in
    let w = y.is_rest in
    let q = after (after (after p x.front) y.front) w.front in
    let e : after p b ≡ after q w.rest = omega (arith, ap length x.joins, length-append x.front x.rest, ap length y.joins, length-append y.front y.rest, ap length w.joins, length-append w.front w.rest) in
    e ∙ fragments_settle a k z.others q w.rest w.is_rest
    ∙ ap (settled a.variant) (after_octets a p (length z.these) x.front y.front w.front x.is_front.fits y.is_front.spelled.wide (row_length z.these (after (after p x.front) y.front) w.front w.is_front))
    ∙ settled_again a.variant p (length z.these)

octets_settle : (a : Settings) (os : List ℕ) (p : ℕ) (b : Bits) → Octets a os p b → after p b ≡ settled a.variant p
octets_settle a os p b x = fragments_settle a x.spelled.fragments os p b x.spelled.spelled

pub end_alike : (a : Settings) (octets others : List (List ℕ)) (p : ℕ) (b c : Bits) → OpenTypes a octets p b → OpenTypes a others p c → length octets ≡ length others → after p b ≡ after p c
end_alike a [] [] p b c x y l = ap (after p) (x ∙ sym y)
end_alike a [] (os ∷ others) p b c x y l = absurd (omega arith)
end_alike a (os ∷ octets) [] p b c x y l = absurd (omega arith)
end_alike a (os ∷ octets) (os' ∷ others) p b c x y l =
    let e : after p x.front ≡ after p y.front = octets_settle a os p x.front x.is_front ∙ sym (octets_settle a os' p y.front y.is_front) in
    after_front p x.front x.rest b x.joins
    ∙ end_alike a octets others (after p x.front) x.rest y.rest x.is_rest (subst (λ q. OpenTypes a others q y.rest) (sym e) y.is_rest) (omega arith)
    ∙ ap (λ q. after q y.rest) e ∙ sym (after_front p y.front y.rest c y.joins)
