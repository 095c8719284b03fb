-- What is read of any kind is written.
use Rattle.std.proofs.Common.{◌≡◌, refl, sym, ap, ◌∙◌, subst, ℕ, zero, suc, ◌^◌, ◌<◌, Bool, true, false, ◌&&◌, ltb, List, [], ◌∷◌, map, length, Some, arith, ltb-true}
use Rattle.rasn_types.specs.Bits.{Bits}
use Rattle.rasn_types.specs.Alphabets.{visible}
use Rattle.rasn_types.specs.Values.{added, alternative, as_values, bag, bag_of, before, code, root, same, Side, sorted, Value, values}
use Rattle.rasn_types.specs.Variants.{Variant}
use Rattle.rasn_types.proofs.Values.{values-as_values}
use Rattle.rasn_constraints.specs.Bounds.{any_size, Size}
use Rattle.rasn_schema.specs.Structures.{alternative_at, choice_schema}
use Rattle.rasn_schema.specs.Depth.{meets_cut}
use Rattle.rasn_schema.specs.Lawful.{AreLawful, IsLawful}
use Rattle.rasn_schema.specs.Normal.{normal, normal_at, normal_bits, over_alternative, over_bag}
use Rattle.rasn_schema.specs.Schemas
use Rattle.rasn_schema.specs.Schemas.{by_tag, count, listed, no_parts, Order, part, Parts, Schema}
use Rattle.per_core.specs.Basic.{Choice, basic_in, bit, Chosen, fills, Rule, rules_in}
use Rattle.per_core.specs.Canon as Canon
use Rattle.per_core.specs.Canon.{ascending, bytes, canon, chosen, completed, members, octet_key}
use Rattle.per_core.specs.Counts.{bit_items, counted, list_items}
use Rattle.per_core.specs.Spellings.{Settings}
use Rattle.rasn_types.specs.AllOf.{all_of, joined}
use Rattle.per_core.specs.Writers.{complete, written_if, Writer}
use Rattle.rasn_schema.proofs.Bags.{bag_becomes, some_list}
use Rattle.per_core.proofs.Counting.{length-map'}
use Rattle.per_core.proofs.LengthForms.{and_left, and_right}
use Rattle.per_core.proofs.Readings.{length-rules-in}
use Rattle.per_core.specs.ItemCounts.{Each}
use Rattle.per_versions.proofs.Faultless.{length-sorted, read_whole}
use Rattle.per_versions.proofs.PartsRead.{alternative_read, contained_read, IsGood, IsRead, member_read, same_itself}
use Rattle.per_versions.proofs.Spelled.{all_sorted, open_spelled}
use Rattle.per_versions.specs.CountableOpens.{AddedCountable, AlternativeCountable, AreCountable, IsCountable}
use Rattle.per_versions.specs.Writable.{are_writable, is_writable}
use Rattle.per_versions.proofs.Leaves.{bit_total, date_total, item_total, marked_total}
use Rattle.per_versions.proofs.Parts.{EachPart, open_total, Writes}
use Rattle.per_versions.proofs.Records.{each_both, each_has, list_total, record_total, set_total}
use Rattle.per_versions.proofs.Total.{bit_string_total, characters_total, counted_total, each_mapped, if_total, is_counted, IsCounted, just_total, normal_counted, octet_string_total, small_total, then_total, Total, whole_number_total}

-- ---- bags
all_some : (vs : List Value) → all_of (λ v. Some v) vs ≡ Some vs
all_some [] = refl
all_some (v ∷ vs) = ap (joined (Some v)) (all_some vs)

sorted_again : (vs : List Value) → bag_of (sorted (λ v w. before (code v) (code w)) vs) ≡ bag_of vs
sorted_again vs =
    let less : Value → Value → Bool = λ v w. before (code v) (code w) in
    let q = bag_becomes (λ v. Some v) vs vs (all_some vs) in
    ap bag_of (some_list (sorted less vs) q.0 (sym (all_some (sorted less vs)) ∙ q.1)) ∙ q.2

bag_total : (a : Settings) (u : Bool) (c : Variant) (e : Schema) → Writes a u c e → (size : Size) (mark : Bool) → Writes a u c (Schema.set_of e size mark)
unfolding basic_in canon normal over_bag bag_of AreCountable
bag_total a u c e one size mark w r z =
    let less : Value → Value → Bool = λ v w. before (code v) (code w) in
    let s = Schema.set_of e size mark in
    let y = r.where_it_is in
    let x = y.spelled in
    let own = map (normal e) (values (as_values (sorted less x.of))) in
    let all = sorted less own in
    let i : w ≡ bag_of own = r.is ∙ ap (normal s) x.is in
    let q : IsRead a u s (bag_of own) = subst (IsRead a u s) i r in
    let h : Each (IsRead a u e) all = all_sorted (IsRead a u e) less own (each_has {P = IsRead a u e} own (λ v h. member_read h q)) in
    let k : Each (AreCountable c e) all = subst (Each (AreCountable c e)) (values-as_values all) (subst (AreCountable c s) i z) in
    let t = each_both {P = IsRead a u e} {Q = AreCountable c e} {R = λ v. Total (canon c e v)} (λ v h z. one v h z) all h k in
    let writers = map (canon c e) all in
    let later : Writer → Writer → Bool = λ f g. before (octet_key (f 0)) (octet_key (g 0)) in
    let n : length (sorted later writers) ≡ length x.of =
    length-sorted later writers ∙ length-map' (canon c e) all ∙ length-sorted less own ∙ length-map' (normal e) (values (as_values (sorted less x.of))) ∙ ap length (values-as_values (sorted less x.of)) ∙ length-sorted less x.of in
    let m : IsCounted size mark (length (sorted later writers)) = subst (IsCounted size mark) (sym n) (is_counted a size mark list_items (basic_in a u e) x.of y.at y.bits x.spelled) in
    let f = counted_total c size mark list_items (sorted later writers) m (all_sorted Total later writers (each_mapped (canon c e) all t)) in
    let g : same (bag_of all) (bag (as_values all)) ≡ true = ap (λ v. same v (bag (as_values all))) (sorted_again own) ∙ same_itself (bag (as_values all)) in
    subst (λ v. Total (canon c s v)) (sym i)
    (subst (λ l. Total (written_if (same (bag_of l) (bag (as_values all))) (counted c size mark list_items (ascending (map (canon c e) l))))) (sym (values-as_values all)) (if_total g f))

-- ---- choices
length-members : (c : Variant) (ps : Parts) → length (members c ps) ≡ count ps
unfolding members
length-members c no_parts = refl
length-members c (part t p s ps) = let h = length-members c ps in omega arith

chosen_within : (rs : List Rule) (i : ℕ) (v : Value) (p : ℕ) (b : Bits) → Chosen rs i v p b → i < length rs
chosen_within [] i v p b x = absurd x
chosen_within (r ∷ rs) zero v p b x = omega arith
chosen_within (r ∷ rs) (suc i) v p b x = let h = chosen_within rs i v p b x in omega arith

module _ (a : Settings) (u : Bool) (c : Variant) where
  chosen_total : (ps : Parts) (i : ℕ) (v : Value) → EachPart (Writes a u c) ps → ((s : Schema) → alternative_at ps i ≡ Some s → IsRead a u s v) → AlternativeCountable c ps i v → i < count ps → Total (chosen (members c ps) i v)
  unfolding members AlternativeCountable
  chosen_total no_parts i v each h z l = absurd (omega arith)
  chosen_total (part t p s ps) zero v each h z l = each.0 v (h s refl) z
  chosen_total (part t p s ps) (suc i) v each h z l = chosen_total ps i v each.1 h z (omega arith)

  added_short : (ps : Parts) (i : ℕ) (v : Value) → AddedCountable c ps i v → i < count ps → IsCountable (chosen (members c ps) i v 0) × AlternativeCountable c ps i v
  unfolding members AlternativeCountable AddedCountable
  added_short no_parts i v z l = absurd (omega arith)
  added_short (part t p s ps) zero v z l = z
  added_short (part t p s ps) (suc i) v z l = added_short ps i v z (omega arith)

  choice_total : (ps adds : Parts) (ext : Bool) → IsLawful (Schema.choice ps adds ext) → EachPart (Writes a u c) ps → EachPart (Writes a u c) adds → Writes a u c (Schema.choice ps adds ext)
  unfolding basic_in canon normal AreCountable Canon.choice_of
  choice_total ps adds ext l each each_added w r z =
      let s = Schema.choice ps adds ext in
      let x = r.where_it_is.spelled in
      let i : w ≡ over_alternative (normal_at ps) (normal_at adds) (alternative x.of.0 x.of.1 x.of.2) = r.is ∙ ap (normal s) x.is in
      subst (λ v. Total (canon c s v)) (sym i) (go r.where_it_is.at r.where_it_is.bits ext x.of.0 x.of.1 x.of.2 (record { lawful = l; kept = λ e. absurd (cc) }) x.spelled (subst (IsRead a u s) i r) (subst (AreCountable c s) i z))
    where
      go : (p : ℕ) (b : Bits) (ext : Bool) (d : Side) (i : ℕ) (v : Value) → IsGood false (choice_schema ps ext adds) → Choice a ext (rules_in a u ps) (rules_in a u adds) d i v p b → IsRead a u (Schema.choice ps adds ext) (over_alternative (normal_at ps) (normal_at adds) (alternative d i v)) →
          AreCountable c (Schema.choice ps adds ext) (over_alternative (normal_at ps) (normal_at adds) (alternative d i v)) → Total (canon c (Schema.choice ps adds ext) (over_alternative (normal_at ps) (normal_at adds) (alternative d i v)))
      go p b ext root i v g x q y =
          let n : i < length (members c ps) = subst (λ k. i < k) (length-rules-in a u ps ∙ sym (length-members c ps)) x.is_rest.is_front.below in
          let m : i < count ps = subst (λ k. i < k) (length-members c ps) n in
          then_total (bit_total ext) (then_total (whole_number_total c (length (members c ps)) i n) (chosen_total ps i (normal_at ps i v) each (λ s e. (alternative_read {d = root} e g q).1) y m))
      go p b true added i v g x q y =
          let o = open_spelled a (Chosen (rules_in a u adds) i v) _ x.is_rest.rest x.is_rest.is_rest in
          let m : i < count adds = subst (λ k. i < k) (length-rules-in a u adds) (chosen_within (rules_in a u adds) i v o.at o.bits o.spelled) in
          let h = added_short adds i (normal_at adds i v) y m in
          then_total (just_total (true ∷ [])) (then_total (small_total a c i _ x.is_rest.front x.is_rest.is_front)
          (open_total c (chosen (members c adds) i (normal_at adds i v)) (chosen_total adds i (normal_at adds i v) each_added (λ s e. (alternative_read {d = added} e g q).1) h.1 m) h.0))
      go p b false added i v g x q y = absurd x.is_front

-- ---- all kinds
module _ (a : Settings) (u : Bool) (c : Variant) where
  sequence_total : (o : Order) (ps adds : Parts) (ext : Bool) → IsLawful (Schema.sequence o ps ext adds) → count adds < 2 ^ 64 → EachPart (Writes a u c) ps → EachPart (Writes a u c) adds → Writes a u c (Schema.sequence o ps ext adds)
  unfolding IsLawful
  sequence_total listed ps adds ext l few h k = record_total a u c ps adds l.1 l.2 few h k ext
  sequence_total by_tag ps adds ext l few h k = set_total a u c ps adds ext l few h k

  mutual
    unfolding IsLawful AreLawful is_writable are_writable basic_in canon normal AreCountable

    pub total : (s : Schema) → IsLawful s → is_writable s ≡ true → Writes a u c s
    total Schema.boolean l k = λ w r z. let x = r.where_it_is.spelled in subst (λ v. Total (canon c Schemas.boolean v)) (sym (r.is ∙ x.is)) (just_total (x.of ∷ []))
    total Schema.null l k = λ w r z. let x = r.where_it_is.spelled in subst (λ v. Total (canon c Schemas.null v)) (sym (r.is ∙ x.is)) (just_total [])
    total Schema.real l k = λ w r z. absurd r.where_it_is.spelled
    total Schema.cut l k = λ w r z. absurd r.where_it_is.spelled
    total Schema.any l k = λ w r z. let x = r.where_it_is.spelled in subst (λ v. Total (canon c Schemas.any v)) (sym (r.is ∙ x.is)) (octet_string_total a c any_size false x.of r.where_it_is.at r.where_it_is.bits x.spelled)
    total (Schema.text kind) l k = λ w r z. let x = r.where_it_is.spelled in
        subst (λ v. Total (canon c (Schemas.text kind) v)) (sym (r.is ∙ x.is)) (if_total x.spelled.0 (octet_string_total a c any_size false x.of r.where_it_is.at r.where_it_is.bits x.spelled.1))
    total Schema.identifier l k = λ w r z. let x = r.where_it_is.spelled in
        subst (λ v. Total (canon c Schemas.identifier v)) (sym (r.is ∙ x.is)) (if_total x.spelled.0 (octet_string_total a c any_size false x.of r.where_it_is.at r.where_it_is.bits x.spelled.1))
    total (Schema.time kind) l k = λ w r z. let x = r.where_it_is.spelled in
        subst (λ v. Total (canon c (Schemas.time kind) v)) (sym (r.is ∙ x.is)) (if_total x.spelled.0 (characters_total a c visible any_size false x.of r.where_it_is.at r.where_it_is.bits x.spelled.1))
    total Schema.date l k = λ w r z. let x = r.where_it_is.spelled in
        let y = x.spelled.spelled.is_rest in
        subst (λ v. Total (canon c Schemas.date v)) (sym (r.is ∙ x.is)) (date_total c x.of.0 x.of.1 x.of.2 x.spelled.is_day y.is_front.below y.is_rest.below)
    total (Schema.number bounds mark range) l k = λ w r z. let x = r.where_it_is.spelled in
        subst (λ v. Total (canon c (Schemas.number bounds mark range) v)) (sym (r.is ∙ x.is)) (if_total x.spelled.in_range (marked_total a c bounds mark range x.of r.where_it_is.at r.where_it_is.bits k x.spelled.in_range x.spelled.spelled))
    total (Schema.items n e ext) l k = λ w r z. let x = r.where_it_is.spelled in
        subst (λ v. Total (canon c (Schemas.items n e ext) v)) (sym (r.is ∙ x.is)) (item_total a c n e ext x.of.0 x.of.1 r.where_it_is.at r.where_it_is.bits x.spelled)
    total (Schema.octet_string size mark) l k = λ w r z. let x = r.where_it_is.spelled in
        subst (λ v. Total (canon c (Schemas.octet_string size mark) v)) (sym (r.is ∙ x.is)) (octet_string_total a c size mark x.of r.where_it_is.at r.where_it_is.bits x.spelled)
    total (Schema.bit_string size mark true) l k = λ w r z. let x = r.where_it_is.spelled in
        subst (λ v. Total (canon c (Schemas.bit_string size mark true) v)) (sym (r.is ∙ ap (normal (Schemas.bit_string size mark true)) x.is))
        (bit_string_total c size mark (normal_bits size.least x.of) (normal_counted size mark x.of (is_counted a size mark bit_items bit x.of r.where_it_is.at r.where_it_is.bits x.spelled)))
    total (Schema.bit_string size mark false) l k = λ w r z. let x = r.where_it_is.spelled in
        subst (λ v. Total (canon c (Schemas.bit_string size mark false) v)) (sym (r.is ∙ x.is)) (bit_string_total c size mark x.of (is_counted a size mark bit_items bit x.of r.where_it_is.at r.where_it_is.bits x.spelled))
    total (Schema.char_string alphabet size mark) l k = λ w r z. let x = r.where_it_is.spelled in
        subst (λ v. Total (canon c (Schemas.char_string alphabet size mark) v)) (sym (r.is ∙ x.is)) (characters_total a c alphabet size mark x.of r.where_it_is.at r.where_it_is.bits x.spelled)
    total (Schema.containing e) l k = λ w r z. open_total c (canon c e w) (total e l k w (contained_read r) z.1) z.0
    total (Schema.list e size mark) l k = list_total a u c e (total e l.1 k) size mark
    total (Schema.set_of e size mark) l k = bag_total a u c e (total e l.1 k) size mark
    total (Schema.sequence o ps ext adds) l k =
        let rest = and_right (are_writable ps) (are_writable adds && ltb (count adds) (2 ^ 64)) k in
        sequence_total o ps adds ext l (ltb-true (count adds) (2 ^ 64) (and_right (are_writable adds) (ltb (count adds) (2 ^ 64)) rest))
        (totals ps l.1 (and_left (are_writable ps) (are_writable adds && ltb (count adds) (2 ^ 64)) k)) (totals adds l.2 (and_left (are_writable adds) (ltb (count adds) (2 ^ 64)) rest))
    total (Schema.choice ps adds ext) l k =
        choice_total a u c ps adds ext l (totals ps l.1 (and_left (are_writable ps) (are_writable adds) k)) (totals adds l.2 (and_right (are_writable ps) (are_writable adds) k))

    totals : (ps : Parts) → AreLawful ps → are_writable ps ≡ true → EachPart (Writes a u c) ps
    totals no_parts l k = tt
    totals (part t p s ps) l k = (total s l.1 (and_left (is_writable s) (are_writable ps) k), totals ps l.2 (and_right (is_writable s) (are_writable ps) k))

-- complete encodings
pub written_bits : (a : Settings) (c : Variant) (s : Schema) (v : Value) (os : List ℕ) → IsLawful s → is_writable s ≡ true → meets_cut s v ≡ false → fills a s v os → AreCountable c s (normal s v) → (p : ℕ) → (b : Bits) × (canon c s (normal s v) p ≡ Some b)
written_bits a c s v os l k m f z = (total a true c s l k (normal s v) (read_whole a s v os m f) z).at

pub written_bytes : (a : Settings) (c : Variant) (s : Schema) (v : Value) (os : List ℕ) → IsLawful s → is_writable s ≡ true → meets_cut s v ≡ false → fills a s v os → AreCountable c s (normal s v) → (qs : List ℕ) × (bytes c s (normal s v) ≡ Some qs)
unfolding bytes
written_bytes a c s v os l k m f z = let x = written_bits a c s v os l k m f z 0 in (complete x.0, ap completed x.1)
