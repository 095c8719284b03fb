-- What is read of a record, a list, a bag or a choice is written, where its parts, elements or alternatives are.
use Rattle.std.proofs.Common.{◌≡◌, refl, sym, ap, ◌∙◌, subst, ℕ, zero, suc, ◌-◌, ◌^◌, ◌<◌, Bool, true, false, cond, ◌||◌, leb, List, [], ◌∷◌, map, length, Option, Some, None, arith, inl, inr, lt-ltb}
use Rattle.rasn_types.specs.Bits.{Bits, to_bits}
use Rattle.rasn_types.specs.Values.{as_slots, as_values, slots, Value, values}
use Rattle.rasn_types.specs.Variants.{Variant}
use Rattle.rasn_types.proofs.Values.{slots-as_slots, values-as_values}
use Rattle.rasn_constraints.specs.Bounds.{any_size, Size}
use Rattle.rasn_schema.specs.Orders.{canonised, canonised_slots, put_part, by_tags, how_many_less, insert_at}
use Rattle.rasn_schema.specs.Depth.{meets_cut, slots_meet_cut}
use Rattle.rasn_schema.specs.Lawful.{AreLawful, IsLawful}
use Rattle.rasn_schema.specs.Structures.{list_value, record_value}
use Rattle.rasn_schema.specs.Normal.{normal, normals}
use Rattle.rasn_schema.specs.Schemas.{by_tag, count, listed, no_parts, part, Parts, Presence, Schema, smallest, tags, TagTree}
use Rattle.per_core.specs.Basic.{basic_in, Record_in, rules_in}
use Rattle.per_core.specs.Canon.{any_set, bitmap, bitmap_of, bodies_of, canon, flags_of, members, opens_of, record_of, shown, with_additions}
use Rattle.per_core.specs.Canon as Canon
use Rattle.per_core.specs.Counts.{counted, list_items}
use Rattle.per_core.specs.Spellings.{Settings}
use Rattle.per_core.specs.Writers.{just, ◌▹◌}
use Rattle.per_core.proofs.Counting.{length-map'}
use Rattle.per_core.proofs.LengthForms.{or_left, or_right}
use Rattle.per_core.proofs.Presenting.{some_both}
use Rattle.per_core.proofs.Readings.{length-by_tags}
use Rattle.per_core.specs.ItemCounts.{Each, EachSlot}
use Rattle.rasn_schema.proofs.Canonised.{count_ordered}
use Rattle.per_core.proofs.SetReadings.{normal_record, read_as_listed, written}
use Rattle.per_core.specs.WritingFaults.{element_after, element_here, HasElement}
use Rattle.per_versions.proofs.Ordered.{lawful_in_order}
use Rattle.per_versions.proofs.PartsRead.{element_read, IsRead, set_read}
use Rattle.per_versions.proofs.Spelled.{fields_spelled}
use Rattle.per_versions.specs.CountableOpens.{AdditionsCountable, AreCountable, PartsCountable}
use Rattle.per_versions.proofs.Parts.{all_hidden, all_shown, AllSlots, bitmap_there, bodies_total, EachPart, flags_total, IsHidden, IsShown, open_total, Writes}
use Rattle.per_versions.proofs.Total.{bit_string_total, cond_total, is_counted, IsCounted, items_total, just_total, then_total, Total}

-- ---- additions

none_set : (c : Variant) (ps : Parts) (ws : List (Option Value)) (bs : Bits) → AllSlots IsHidden ps ws → bitmap_of (members c ps) ws ≡ Some bs → any_set bs ≡ false
unfolding members bitmap_of
none_set c no_parts [] bs h e = let i : [] ≡ bs = cc in subst (λ b. any_set b ≡ false) i refl
none_set c no_parts (w ∷ ws) bs h e = absurd h
none_set c (part t p s ps) [] bs h e = absurd h
none_set c (part t p s ps) (w ∷ ws) bs h e =
    let q = some_both (shown p w) (bitmap_of (members c ps) ws) bs e in
    let i : q.0 ≡ false = same_bit q.0 (sym q.2 ∙ h.0) in
    subst (λ b. any_set b ≡ false) (sym q.4) (ap (λ b. b || any_set q.1) i ∙ none_set c ps ws q.1 h.1 q.3)
  where
    same_bit : (b : Bool) → Some b ≡ Some false → b ≡ false
    same_bit b e = cc

module _ (a : Settings) (u : Bool) (c : Variant) where
  opens_total : (ps : Parts) (ws : List (Option Value)) (bs : Bits) → bitmap_of (members c ps) ws ≡ Some bs → AllSlots (IsShown a u) ps ws → EachPart (Writes a u c) ps → AdditionsCountable c ps ws → Total (opens_of c (members c ps) ws bs)
  unfolding members bitmap_of AdditionsCountable
  opens_total no_parts [] bs e h k z = just_total []
  opens_total no_parts (w ∷ ws) bs e h k z = absurd h
  opens_total (part t p s ps) [] bs e h k z = absurd h
  opens_total (part t p s ps) (None ∷ ws) bs e h k z =
      let q = some_both (shown p None) (bitmap_of (members c ps) ws) bs e in
      subst (λ b. Total (opens_of c (members c (part t p s ps)) (None ∷ ws) b)) (sym q.4) (none q.0 q.1 (opens_total ps ws q.1 q.3 h.1 k.1 z))
    where
      none : (b : Bool) (cs : Bits) → Total (opens_of c (members c ps) ws cs) → Total (opens_of c (members c (part t p s ps)) (None ∷ ws) (b ∷ cs))
      none true cs r = r
      none false cs r = r
  opens_total (part t p s ps) (Some v ∷ ws) bs e h k z =
      let q = some_both (shown p (Some v)) (bitmap_of (members c ps) ws) bs e in
      subst (λ b. Total (opens_of c (members c (part t p s ps)) (Some v ∷ ws) b)) (sym q.4) (one q.0 q.1 q.2 h.0 (opens_total ps ws q.1 q.3 h.1 k.1 z.1))
    where
      one : (b : Bool) (cs : Bits) → shown p (Some v) ≡ Some b → IsShown a u p s (Some v) → Total (opens_of c (members c ps) ws cs) → Total (opens_of c (members c (part t p s ps)) (Some v ∷ ws) (b ∷ cs))
      one true cs f (inl g) r = absurd (cc)
      one true cs f (inr x) r = let i : v ≡ x.0 = cc in then_total (open_total c (canon c s v) (k.0 v (subst (IsRead a u s) (sym i) x.3) z.0.1) z.0.0) r
      one false cs f g r = r

bitmap_total : (c : Variant) (bs : Bits) → length bs < 2 ^ 64 → Total (bitmap c bs)
unfolding bitmap
bitmap_total c bs h = cond_total (leb (length bs) 64) (then_total (just_total (false ∷ to_bits 6 (length bs - 1))) (just_total bs)) (then_total (just_total (true ∷ [])) (bit_string_total c any_size false bs (lt-ltb (length bs) (2 ^ 64) h)))

-- ---- records
module _ (a : Settings) (u : Bool) (c : Variant) (ps adds : Parts) (lawful : AreLawful ps) (lawful_added : AreLawful adds) (few : count adds < 2 ^ 64) (each : EachPart (Writes a u c) ps) (each_added : EachPart (Writes a u c) adds) where
  written_so : (ext : Bool) (ws xs : List (Option Value)) → AllSlots (IsShown a u) ps ws → AllSlots (IsShown a u) adds xs → (ext ≡ false → AllSlots IsHidden adds xs) → PartsCountable c ps ws → AdditionsCountable c adds xs → Total (record_of c ext (members c ps) (members c adds) ws xs)
  unfolding record_of
  written_so ext ws xs h k n y z = go ext n (bitmap_there a u c adds xs k)
    where
      inner : Total (flags_of (members c ps) ws ▹ bodies_of (members c ps) ws)
      inner = then_total (flags_total a u c ps ws h) (bodies_total a u c ps ws h each y)

      go : (ext : Bool) → (ext ≡ false → AllSlots IsHidden adds xs) → ((bs : Bits) × (bitmap_of (members c adds) xs ≡ Some bs) × (length bs ≡ count adds))
          → Total (with_additions c ext (members c adds) xs (flags_of (members c ps) ws ▹ bodies_of (members c ps) ws) (bitmap_of (members c adds) xs))
      go true n q = subst (λ o. Total (with_additions c true (members c adds) xs (flags_of (members c ps) ws ▹ bodies_of (members c ps) ws) o)) (sym q.1)
          (then_total (just_total (any_set q.0 ∷ [])) (then_total inner (cond_total (any_set q.0) (then_total (bitmap_total c q.0 (omega (arith, few, q.2))) (opens_total a u c adds xs q.0 q.1 k each_added z)) (just_total []))))
      go false n q = subst (λ o. Total (with_additions c false (members c adds) xs (flags_of (members c ps) ws ▹ bodies_of (members c ps) ws) o)) (sym q.1) (shut (any_set q.0) (none_set c adds xs q.0 (n refl) q.1))
        where
          shut : (t : Bool) → t ≡ false → Total (Canon.extension_bit false t ▹ (flags_of (members c ps) ws ▹ bodies_of (members c ps) ws) ▹ cond t (bitmap c q.0 ▹ opens_of c (members c adds) xs q.0) (just []))
          shut true e = absurd (cc)
          shut false e = then_total (just_total []) (then_total inner (just_total []))

  pub record_total : (ext : Bool) → Writes a u c (Schema.sequence listed ps ext adds)
  unfolding basic_in canon meets_cut AreCountable
  record_total ext w r z =
      let x = r.where_it_is.spelled in
      let ss = x.of.0 in
      let xs = x.of.1 in
      let s = Schema.sequence listed ps ext adds in
      let e : w ≡ record_value (normals ps ss) (normals adds xs) = r.is ∙ ap (normal s) x.is ∙ normal_record listed ps ext adds ss xs in
      let f = fields_spelled a u ext (rules_in a u ps) (rules_in a u adds) ss xs r.where_it_is.at r.where_it_is.bits x.spelled in
      let m : (slots_meet_cut ps (slots (as_slots ss)) || slots_meet_cut adds (slots (as_slots xs))) ≡ false = subst (λ v. meets_cut s v ≡ false) x.is r.uncut in
      let m0 : slots_meet_cut ps ss ≡ false = subst (λ l. slots_meet_cut ps l ≡ false) (slots-as_slots ss) (or_left (slots_meet_cut ps (slots (as_slots ss))) (slots_meet_cut adds (slots (as_slots xs))) m) in
      let m1 : slots_meet_cut adds xs ≡ false = subst (λ l. slots_meet_cut adds l ≡ false) (slots-as_slots xs) (or_right (slots_meet_cut ps (slots (as_slots ss))) (slots_meet_cut adds (slots (as_slots xs))) m) in
      let y : PartsCountable c ps (slots (as_slots (normals ps ss))) × AdditionsCountable c adds (slots (as_slots (normals adds xs))) = subst (AreCountable c s) e z in
      let t = written_so ext (normals ps ss) (normals adds xs) (all_shown a u ps ss lawful f.0 m0) (all_shown a u adds xs lawful_added f.1 m1) (none r.where_it_is.at r.where_it_is.bits ext ss xs x.spelled m1)
      (subst (PartsCountable c ps) (slots-as_slots (normals ps ss)) y.0) (subst (AdditionsCountable c adds) (slots-as_slots (normals adds xs)) y.1) in
      subst (λ v. Total (canon c s v)) (sym e)
      (subst (λ l. Total (record_of c ext (members c ps) (members c adds) l (slots (as_slots (normals adds xs))))) (sym (slots-as_slots (normals ps ss)))
      (subst (λ l. Total (record_of c ext (members c ps) (members c adds) (normals ps ss) l)) (sym (slots-as_slots (normals adds xs))) t))
    where
      none : (p : ℕ) (b : Bits) (ext : Bool) (ss xs : List (Option Value)) → Record_in a u ext (rules_in a u ps) (rules_in a u adds) ss xs p b → slots_meet_cut adds xs ≡ false → ext ≡ false → AllSlots IsHidden adds (normals adds xs)
      none p b true ss xs f m e = absurd (cc)
      none p b false ss xs f m e = all_hidden a u adds xs _ f.rest lawful_added f.is_rest m

-- ---- SETs
each_put : (P : Schema → Type 0) (n : ℕ) (t : TagTree) (p : Presence) (s : Schema) (ps : Parts) → P s → EachPart P ps → EachPart P (put_part n t p s ps)
each_put P zero t p s ps h k = (h, k)
each_put P (suc n) t p s no_parts h k = (h, tt)
each_put P (suc n) t p s (part v q r ps) h k = (k.0, each_put P n t p s ps h k.1)

each_ordered : (P : Schema → Type 0) (ps : Parts) → EachPart P ps → EachPart P (canonised ps)
each_ordered P no_parts h = tt
each_ordered P (part t p s ps) h = each_put P (how_many_less (smallest t) (tags ps)) t p s (canonised ps) h.0 (each_ordered P ps h.1)

-- the first slot, and the others
OfSlot : (Value → Type 0) → Option Value → Type 0
OfSlot P None = Unit {0}
OfSlot P (Some v) = P v

first_slot : (P : Value → Type 0) (Q : List (Option Value) → Type 0) (x : Option Value) (xs : List (Option Value)) → EachSlot P Q (x ∷ xs) → OfSlot P x × Q xs
unfolding OfSlot
first_slot P Q None xs h = (tt, h)
first_slot P Q (Some v) xs h = h

slot_first : (P : Value → Type 0) (Q : List (Option Value) → Type 0) (x : Option Value) (xs : List (Option Value)) → OfSlot P x → Q xs → EachSlot P Q (x ∷ xs)
unfolding OfSlot
slot_first P Q None xs h k = k
slot_first P Q (Some v) xs h k = (h, k)

module _ (c : Variant) where
  short_put : (n : ℕ) (t : TagTree) (p : Presence) (s : Schema) (ps : Parts) (x : Option Value) (xs : List (Option Value)) → length xs ≡ count ps → OfSlot (AreCountable c s) x → PartsCountable c ps xs → PartsCountable c (put_part n t p s ps) (insert_at n x xs)
  unfolding PartsCountable
  short_put zero t p s ps x xs l h k = slot_first (AreCountable c s) (PartsCountable c ps) x xs h k
  short_put (suc n) t p s no_parts x [] l h k = slot_first (AreCountable c s) (PartsCountable c no_parts) x [] h tt
  short_put (suc n) t p s (part v q r ps) x (y ∷ ys) l h k =
      let f = first_slot (AreCountable c r) (PartsCountable c ps) y ys k in
      slot_first (AreCountable c r) (PartsCountable c (put_part n t p s ps)) y (insert_at n x ys) f.0 (short_put n t p s ps x ys (omega arith) h f.1)
  short_put (suc n) t p s no_parts x (y ∷ ys) l h k = absurd (omega arith)
  short_put (suc n) t p s (part v q r ps) x [] l h k = absurd (omega arith)

  short_ordered : (ps : Parts) (rs : List (Option Value)) → length rs ≡ count ps → PartsCountable c ps rs → PartsCountable c (canonised ps) (canonised_slots ps rs)
  unfolding PartsCountable
  short_ordered no_parts rs l h = tt
  short_ordered (part t p s ps) [] l h = absurd (omega arith)
  short_ordered (part t p s ps) (x ∷ xs) l h =
      let f = first_slot (AreCountable c s) (PartsCountable c ps) x xs h in
      let i : length xs ≡ count ps = omega arith in
      short_put (how_many_less (smallest t) (tags ps)) t p s (canonised ps) x (by_tags (tags ps) xs) (length-by_tags (tags ps) xs ∙ i ∙ sym (count_ordered ps)) f.0 (short_ordered ps xs i f.1)

length-normals : (ps : Parts) (rs : List (Option Value)) → length rs ≡ count ps → length (normals ps rs) ≡ count ps
unfolding normals
length-normals no_parts rs l = l
length-normals (part t p s ps) [] l = absurd (omega arith)
length-normals (part t p s ps) (None ∷ xs) l = let h = length-normals ps xs (omega arith) in omega arith
length-normals (part t p s ps) (Some v ∷ xs) l = let h = length-normals ps xs (omega arith) in omega arith

pub set_total : (a : Settings) (u : Bool) (c : Variant) (ps adds : Parts) (ext : Bool) → IsLawful (Schema.sequence by_tag ps ext adds) → count adds < 2 ^ 64 → EachPart (Writes a u c) ps → EachPart (Writes a u c) adds → Writes a u c (Schema.sequence by_tag ps ext adds)
unfolding AreCountable IsLawful
set_total a u c ps adds ext lawful few each each_added w r z =
    let s = Schema.sequence by_tag ps ext adds in
    let y = r.where_it_is in
    let l = read_as_listed a u ps ext adds r.value y.at y.bits y.spelled in
    let rs = normals ps l.root in
    let xs = normals adds l.added in
    let e : w ≡ record_value rs xs = r.is ∙ ap (normal s) l.is ∙ normal_record by_tag ps ext adds l.root l.added in
    let q = set_read rs xs (subst (IsRead a u s) e r) in
    let k = lawful_in_order ps ext adds lawful in
    let v = record_value (canonised_slots ps rs) xs in
    let h : PartsCountable c ps (slots (as_slots rs)) × AdditionsCountable c adds (slots (as_slots xs)) = subst (AreCountable c s) e z in
    let i = short_ordered c ps rs (length-normals ps l.root l.counted) (subst (PartsCountable c ps) (slots-as_slots rs) h.0) in
    let j : AreCountable c (Schema.sequence listed (canonised ps) ext adds) v = (subst (PartsCountable c (canonised ps)) (sym (slots-as_slots (canonised_slots ps rs))) i, h.1) in
    subst (λ x. Total (canon c s x)) (sym e) (subst Total (sym (written c ps ext adds rs xs))
    (record_total a u c (canonised ps) adds k.1 k.2 few (each_ordered (Writes a u c) ps each) each_added ext v q j))

-- ---- lists and bags
pub each_has : {P : Value → Type 0} (vs : List Value) → ((v : Value) → HasElement v vs → P v) → Each P vs
each_has [] h = tt
each_has (v ∷ vs) h = (h v element_here, each_has vs (λ w i. h w (element_after i)))

pub each_both : {P Q R : Value → Type 0} (f : (v : Value) → P v → Q v → R v) (vs : List Value) → Each P vs → Each Q vs → Each R vs
each_both f [] h k = tt
each_both f (v ∷ vs) h k = (f v h.0 k.0, each_both f vs h.1 k.1)

module _ (a : Settings) (u : Bool) (c : Variant) (e : Schema) (one : Writes a u c e) where
  pub list_total : (size : Size) (mark : Bool) → Writes a u c (Schema.list e size mark)
  unfolding basic_in canon normal AreCountable
  list_total size mark w r z =
      let s = Schema.list e size mark in
      let y = r.where_it_is in
      let x = y.spelled in
      let own = map (normal e) (values (as_values x.of)) in
      let i : w ≡ list_value own = r.is ∙ ap (normal s) x.is in
      let q : IsRead a u s (list_value own) = subst (IsRead a u s) i r in
      let k : Each (AreCountable c e) own = subst (Each (AreCountable c e)) (values-as_values own) (subst (AreCountable c s) i z) in
      let t = each_both {P = IsRead a u e} {Q = AreCountable c e} {R = λ v. Total (canon c e v)} (λ v h z. one v h z) own (each_has {P = IsRead a u e} own (λ v h. element_read h q)) k in
      let n : length own ≡ length x.of = length-map' (normal e) (values (as_values x.of)) ∙ ap length (values-as_values x.of) in
      let m : IsCounted size mark (length own) = subst (IsCounted size mark) (sym n) (is_counted a size mark list_items (basic_in a u e) x.of y.at y.bits x.spelled) in
      subst (λ v. Total (canon c s v)) (sym i) (subst (λ l. Total (counted c size mark list_items (map (canon c e) l))) (sym (values-as_values own)) (items_total c size mark list_items (canon c e) own m t))
