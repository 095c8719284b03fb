-- What is in the normal form of what was read was read, too: parts, additions, elements, members and alternatives.
use Rattle.std.proofs.Common.{◌≡◌, refl, sym, ap, subst, ◌∙◌, ℕ, zero, suc, Bool, true, false, cond, ◌||◌, List, [], ◌∷◌, map, inl, inr, Option, Some, None, eq-eqb}
use Rattle.rasn_types.specs.Bits.{Bits}
use Rattle.rasn_types.specs.Values.{Value, elements, bag, bag_of, alternative, Side, root, added, as_values, values, as_slots, slots, equal_lists, same, before, code, put, sorted}
use Rattle.rasn_types.proofs.Values.{values-as_values, slots-as_slots}
use Rattle.rasn_constraints.specs.Bounds.{Size}
use Rattle.rasn_schema.specs.Orders.{canonised, canonised_slots}
use Rattle.rasn_schema.specs.Structures.{alternative_at, alternative_in, choice_schema, list_value, record_value}
use Rattle.rasn_schema.specs.Depth.{meets_cut, slots_meet_cut, meets_cut_at, in_slots, any_of, in_alternative}
use Rattle.rasn_schema.specs.Lawful.{AreLawful, IsLawful, IsLawfulPresence}
use Rattle.rasn_schema.specs.Normal.{is_vacant, settle, each_slot, over_bag, over_alternative, normal, normals, normal_at}
use Rattle.rasn_schema.specs.Schemas.{TagTree, Presence, required, optional, group, default, Schema, Parts, no_parts, part, listed, by_tag}
use Rattle.per_core.specs.Basic.{IsLeftOut, Choice, Chosen, basic_in, rules_in}
use Rattle.per_core.specs.Canon.{shown}
use Rattle.per_core.specs.Counts.{list_items}
use Rattle.per_core.specs.Spellings.{Settings}
use Rattle.per_core.proofs.LengthForms.{and_left, and_right, or_left, or_right}
use Rattle.per_core.specs.ItemCounts.{Each}
use Rattle.per_core.proofs.SetReadings.{one_record, in_order, read_as_listed, normal_record, normal_in_order}
use Rattle.per_versions.specs.NumbersKept.{keeps_to_i128, keep_to_i128}
use Rattle.per_core.specs.WritingFaults.{HasPart, part_here, part_after, HasElement, element_here, element_after}
use Rattle.per_versions.proofs.Ordered.{lawful_in_order, kept_in_order, uncut_ordered}
use Rattle.per_versions.proofs.Spelled.{Somewhere, lengthy_spelled, open_spelled, SlotSpelled, SlotsSpelled, fields_spelled, all_sorted}

-- a lawful schema, which keeps to the numbers of an i128 where that is asked
pub record IsGood (asked : Bool) (s : Schema) : Type 0 where
  pub lawful : IsLawful s
  pub kept : asked ≡ true → keeps_to_i128 s ≡ true

-- the normal form of what a tree reads that holds it
pub record IsRead (a : Settings) (u : Bool) (s : Schema) (w : Value) : Type 0 where
  pub value : Value
  pub where_it_is : Somewhere (basic_in a u s value)
  pub uncut : meets_cut s value ≡ false
  pub is : w ≡ normal s value

-- parts that are good
pub record AreGood (asked : Bool) (ps : Parts) : Type 0 where
  pub lawful : AreLawful ps
  pub kept : asked ≡ true → keep_to_i128 ps ≡ true

good_first : {asked : Bool} {t : TagTree} {p : Presence} {s : Schema} {ps : Parts} → AreGood asked (part t p s ps) → IsLawfulPresence s p × IsGood asked s × AreGood asked ps
unfolding AreLawful keep_to_i128
good_first {s = s} {ps = ps} g = (
  g.lawful.0,
  record { lawful = g.lawful.1; kept = λ k. and_left (keeps_to_i128 s) (keep_to_i128 ps) (g.kept k) },
  record { lawful = g.lawful.2; kept = λ k. and_right (keeps_to_i128 s) (keep_to_i128 ps) (g.kept k) },
)

-- parts in normal form, of what was read
pub record AreRead (a : Settings) (u : Bool) (ps : Parts) (ws : List (Option Value)) : Type 0 where
  pub slots : List (Option Value)
  pub are : SlotsSpelled (rules_in a u ps) slots
  pub uncut : slots_meet_cut ps slots ≡ false
  pub normal : ws ≡ normals ps slots

pub settled_is : (p : Presence) (s : Schema) (x v : Value) → ◌≡◌ {A = Option Value} (Some v) (settle p s (normal s x)) → v ≡ normal s x
unfolding settle
settled_is required s x v e = cc
settled_is optional s x v e = cc
settled_is (default d) s x v e = cc
settled_is group s x v e = go (is_vacant s (normal s x)) e
  where
    go : (t : Bool) → ◌≡◌ {A = Option Value} (Some v) (cond t None (Some (normal s x))) → v ≡ normal s x
    go true e = absurd (cc)
    go false e = cc

equal_itself : (xs : List ℕ) → equal_lists xs xs ≡ true
equal_itself [] = refl
equal_itself (x ∷ xs) = ap (λ c. cond c (equal_lists xs xs) false) (eq-eqb x x refl) ∙ equal_itself xs

pub same_itself : (v : Value) → same v v ≡ true
unfolding same
same_itself v = equal_itself (code v)

-- what is left out isn't written
pub left_out_hidden : (p : Presence) (s : Schema) (x : Value) → IsLawfulPresence s p → IsLeftOut p (Some x) → meets_cut s x ≡ false → shown p (Some (normal s x)) ≡ Some true → ⊥
unfolding shown
left_out_hidden required s x l h m e = h
left_out_hidden optional s x l h m e = cc
left_out_hidden group s x l h m e = cc
left_out_hidden (default d) s x l h m e =
    let i : x ≡ d = cc in
    let n : normal s x ≡ d = subst (λ z. normal s z ≡ d) (sym i) (l.is_normal (subst (λ z. meets_cut s z ≡ false) i m)) in
    let j : same (normal s x) d ≡ true = subst (λ z. same z d ≡ true) (sym n) (same_itself d) in cc

part_read : {a : Settings} {u asked : Bool} {s : Schema} {v : Value} {ps : Parts} {ws : List (Option Value)} → HasPart s v ps ws → AreGood asked ps → AreRead a u ps ws → IsGood asked s × IsRead a u s v
unfolding normals rules_in slots_meet_cut
part_read {a} {u} {asked} {s} {v} (part_here {t = t} {p = p} {ps = ps} {rs = rs} sh) g r = go r.slots r.are r.uncut r.normal
  where
    one : (x : Value) → SlotSpelled (record { presence = p; spells = basic_in a u s }) (Some x) → meets_cut s x ≡ false → v ≡ normal s x → IsRead a u s v
    one x (inl h) m e = absurd (left_out_hidden p s x (good_first g).0 h m (subst (λ z. shown p (Some z) ≡ Some true) e sh))
    one x (inr h) m e = let i : x ≡ h.0 = cc in record { value = x; where_it_is = subst (λ z. Somewhere (basic_in a u s z)) (sym i) h.2; uncut = m; is = e }

    go : (ss : List (Option Value)) → SlotsSpelled (record { presence = p; spells = basic_in a u s } ∷ rules_in a u ps) ss → in_slots (meets_cut s) (slots_meet_cut ps) ss ≡ false →
        (Some v ∷ rs) ≡ each_slot (λ v. settle p s (normal s v)) (normals ps) ss → IsGood asked s × IsRead a u s v
    go [] h m e = absurd h
    go (None ∷ ss) h m e = absurd (cc)
    go (Some x ∷ ss) h m e = let f : Some v ≡ settle p s (normal s x) = cc in
        ((good_first g).1, one x h.0 (or_left (meets_cut s x) (slots_meet_cut ps ss) m) (settled_is p s x v f))
part_read {a} {u} {asked} {s} {v} (part_after {t = t} {p = p} {c = c} {r = q} {ps = ps} {rs = rs} h) g r = part_read h (good_first g).2 (go r.slots r.are r.uncut r.normal)
  where
    go : (ss : List (Option Value)) → SlotsSpelled (record { presence = p; spells = basic_in a u c } ∷ rules_in a u ps) ss → in_slots (meets_cut c) (slots_meet_cut ps) ss ≡ false →
        (q ∷ rs) ≡ each_slot (λ v. settle p c (normal c v)) (normals ps) ss → AreRead a u ps rs
    go [] h m e = absurd h
    go (None ∷ ss) h m e = record { slots = ss; are = h.1; uncut = m; normal = cc }
    go (Some x ∷ ss) h m e = record { slots = ss; are = h.1; uncut = or_right (meets_cut c x) (slots_meet_cut ps ss) m; normal = cc }

-- a record in normal form, of what was read
pub record IsRecordRead (a : Settings) (u : Bool) (ps adds : Parts) (rs xs : List (Option Value)) : Type 0 where
  pub root : AreRead a u ps rs
  pub additions : AreRead a u adds xs

record_read : {a : Settings} {u : Bool} {ps adds : Parts} {ext : Bool} (rs xs : List (Option Value)) → IsRead a u (Schema.sequence listed ps ext adds) (record_value rs xs) → IsRecordRead a u ps adds rs xs
unfolding basic_in meets_cut
record_read {a} {u} {ps} {adds} {ext} rs xs r =
    let x = r.where_it_is.spelled in
    let f = fields_spelled a u ext (rules_in a u ps) (rules_in a u adds) x.of.0 x.of.1 r.where_it_is.at r.where_it_is.bits x.spelled in
    let e = one_record rs xs (normals ps x.of.0) (normals adds x.of.1) (r.is ∙ ap (normal (Schema.sequence listed ps ext adds)) x.is ∙ normal_record listed ps ext adds x.of.0 x.of.1) in
    let m : (slots_meet_cut ps (slots (as_slots x.of.0)) || slots_meet_cut adds (slots (as_slots x.of.1))) ≡ false = subst (λ z. meets_cut (Schema.sequence listed ps ext adds) z ≡ false) x.is r.uncut in
    record {
      root = record {
        slots = x.of.0;
        are = f.0;
        uncut = subst (λ l. slots_meet_cut ps l ≡ false) (slots-as_slots x.of.0) (or_left (slots_meet_cut ps (slots (as_slots x.of.0))) (slots_meet_cut adds (slots (as_slots x.of.1))) m);
        normal = e.0;
      };
      additions = record {
        slots = x.of.1;
        are = f.1;
        uncut = subst (λ l. slots_meet_cut adds l ≡ false) (slots-as_slots x.of.1) (or_right (slots_meet_cut ps (slots (as_slots x.of.0))) (slots_meet_cut adds (slots (as_slots x.of.1))) m);
        normal = e.1;
      };
    }

pub in_root : {a : Settings} {u asked : Bool} {s : Schema} {v : Value} {ps adds : Parts} {ext : Bool} {rs : List (Option Value)} (xs : List (Option Value)) → HasPart s v ps rs → IsGood asked (Schema.sequence listed ps ext adds) →
    IsRead a u (Schema.sequence listed ps ext adds) (record_value rs xs) → IsGood asked s × IsRead a u s v
unfolding IsLawful keeps_to_i128
in_root {ps = ps} {adds = adds} {rs = rs} xs h g r = part_read h (record { lawful = g.lawful.1; kept = λ k. and_left (keep_to_i128 ps) (keep_to_i128 adds) (g.kept k) }) (record_read rs xs r).root

pub in_additions : {a : Settings} {u asked : Bool} {s : Schema} {v : Value} {ps adds : Parts} {ext : Bool} {xs : List (Option Value)} (rs : List (Option Value)) → HasPart s v adds xs → IsGood asked (Schema.sequence listed ps ext adds) →
    IsRead a u (Schema.sequence listed ps ext adds) (record_value rs xs) → IsGood asked s × IsRead a u s v
unfolding IsLawful keeps_to_i128
in_additions {ps = ps} {adds = adds} {xs = xs} rs h g r = part_read h (record { lawful = g.lawful.2; kept = λ k. and_right (keep_to_i128 ps) (keep_to_i128 adds) (g.kept k) }) (record_read rs xs r).additions

-- a SET is read as the SEQUENCE of its parts in order
pub set_good : {asked : Bool} {ps adds : Parts} {ext : Bool} → IsGood asked (Schema.sequence by_tag ps ext adds) → IsGood asked (Schema.sequence listed (canonised ps) ext adds)
set_good {asked} {ps} {adds} {ext} g = record { lawful = lawful_in_order ps ext adds g.lawful; kept = λ k. kept_in_order ps ext adds (g.kept k) }

pub set_read : {a : Settings} {u : Bool} {ps adds : Parts} {ext : Bool} (rs xs : List (Option Value)) → IsRead a u (Schema.sequence by_tag ps ext adds) (record_value rs xs) →
    IsRead a u (Schema.sequence listed (canonised ps) ext adds) (record_value (canonised_slots ps rs) xs)
unfolding meets_cut
set_read {a} {u} {ps} {adds} {ext} rs xs r =
    let s = Schema.sequence by_tag ps ext adds in
    let y = r.where_it_is in
    let l = read_as_listed a u ps ext adds r.value y.at y.bits y.spelled in
    let e = one_record rs xs (normals ps l.root) (normals adds l.added) (r.is ∙ ap (normal s) l.is ∙ normal_record by_tag ps ext adds l.root l.added) in
    let m : (slots_meet_cut ps (slots (as_slots l.root)) || slots_meet_cut adds (slots (as_slots l.added))) ≡ false = subst (λ z. meets_cut s z ≡ false) l.is r.uncut in
    let m0 : slots_meet_cut ps l.root ≡ false = subst (λ q. slots_meet_cut ps q ≡ false) (slots-as_slots l.root) (or_left (slots_meet_cut ps (slots (as_slots l.root))) (slots_meet_cut adds (slots (as_slots l.added))) m) in
    let m1 : slots_meet_cut adds (slots (as_slots l.added)) ≡ false = or_right (slots_meet_cut ps (slots (as_slots l.root))) (slots_meet_cut adds (slots (as_slots l.added))) m in
    let m2 : slots_meet_cut (canonised ps) (slots (as_slots (canonised_slots ps l.root))) ≡ false = subst (λ q. slots_meet_cut (canonised ps) q ≡ false) (sym (slots-as_slots (canonised_slots ps l.root))) (uncut_ordered ps l.root l.counted m0) in
    record {
      value = record_value (canonised_slots ps l.root) l.added;
      where_it_is = record { at = y.at; bits = y.bits; spelled = in_order a u ps ext adds l.root l.added y.at y.bits (subst (λ z. basic_in a u s z y.at y.bits) l.is y.spelled) };
      uncut = neither m2 m1;
      is = ap (λ q. record_value (canonised_slots ps q) xs) e.0 ∙ ap (record_value (canonised_slots ps (normals ps l.root))) e.1 ∙ sym (normal_in_order ps ext adds l.root l.added l.counted);
    }
  where
    neither : {b c : Bool} → b ≡ false → c ≡ false → (b || c) ≡ false
    neither e f = cc

-- what octets contain
pub contained_good : {asked : Bool} {e : Schema} → IsGood asked (Schema.containing e) → IsGood asked e
unfolding IsLawful keeps_to_i128
contained_good g = record { lawful = g.lawful; kept = g.kept }

pub contained_read : {a : Settings} {u : Bool} {e : Schema} {w : Value} → IsRead a u (Schema.containing e) w → IsRead a u e w
unfolding basic_in meets_cut normal
contained_read {a} {u} {e} r =
    let y = r.where_it_is in
    record { value = r.value; where_it_is = open_spelled a (basic_in a u e r.value) y.at y.bits y.spelled; uncut = r.uncut; is = r.is }

-- elements of a list
all_read : (a : Settings) (u : Bool) (e : Schema) (vs : List Value) → Each (λ v. Somewhere (basic_in a u e v)) vs → any_of (meets_cut e) vs ≡ false → Each (IsRead a u e) (map (normal e) vs)
all_read a u e [] h m = tt
all_read a u e (v ∷ vs) h m = (
  record { value = v; where_it_is = h.0; uncut = or_left (meets_cut e v) (any_of (meets_cut e) vs) m; is = refl },
  all_read a u e vs h.1 (or_right (meets_cut e v) (any_of (meets_cut e) vs) m),
)

of_each : (P : Value → Type 0) {v : Value} {vs : List Value} → HasElement v vs → Each P vs → P v
of_each P element_here h = h.0
of_each P (element_after i) h = of_each P i h.1

pub element_read : {a : Settings} {u : Bool} {e : Schema} {size : Size} {mark : Bool} {v : Value} {vs : List Value} → HasElement v vs → IsRead a u (Schema.list e size mark) (list_value vs) → IsRead a u e v
unfolding basic_in meets_cut normal
element_read {a} {u} {e} {size} {mark} {v} {vs} i r =
    let y = r.where_it_is in
    let x = y.spelled in
    let each = lengthy_spelled a (basic_in a u e) size mark list_items x.of y.at y.bits x.spelled in
    let m : any_of (meets_cut e) x.of ≡ false = subst (λ l. any_of (meets_cut e) l ≡ false) (values-as_values x.of) (subst (λ z. meets_cut (Schema.list e size mark) z ≡ false) x.is r.uncut) in
    let n : elements (as_values vs) ≡ elements (as_values (map (normal e) (values (as_values x.of)))) = r.is ∙ ap (normal (Schema.list e size mark)) x.is in
    let n' : as_values vs ≡ as_values (map (normal e) (values (as_values x.of))) = cc in
    let is : vs ≡ map (normal e) x.of = sym (values-as_values vs) ∙ ap values n' ∙ values-as_values (map (normal e) (values (as_values x.of))) ∙ ap (map (normal e)) (values-as_values x.of) in
    of_each (IsRead a u e) i (subst (Each (IsRead a u e)) (sym is) (all_read a u e x.of each m))

-- members of a bag
module _ (P : Value → Type 0) (less : Value → Value → Bool) where
  of_put : (v : Value) (vs : List Value) → Each P (put less v vs) → P v × Each P vs
  of_put v [] h = (h.0, tt)
  of_put v (w ∷ ws) h = go (less w v) (of_put v ws) h
    where
      go : (t : Bool) → (Each P (put less v ws) → P v × Each P ws) → Each P (cond t (w ∷ put less v ws) (v ∷ w ∷ ws)) → P v × Each P (w ∷ ws)
      go true ih k = let r = ih k.1 in (r.0, (k.0, r.1))
      go false ih k = (k.0, k.1)

  of_sorted : (vs : List Value) → Each P (sorted less vs) → Each P vs
  of_sorted [] h = tt
  of_sorted (v ∷ vs) h = let r = of_put v (sorted less vs) h in (r.0, of_sorted vs r.1)

pub member_read : {a : Settings} {u : Bool} {e : Schema} {size : Size} {mark : Bool} {v : Value} {vs : List Value} → HasElement v vs → IsRead a u (Schema.set_of e size mark) (bag_of vs) → IsRead a u e v
unfolding basic_in meets_cut normal over_bag bag_of
member_read {a} {u} {e} {size} {mark} {v} {vs} i r =
    let less : Value → Value → Bool = λ v w. before (code v) (code w) in
    let y = r.where_it_is in
    let x = y.spelled in
    let own = sorted less x.of in
    let each = all_sorted (λ v. Somewhere (basic_in a u e v)) less x.of (lengthy_spelled a (basic_in a u e) size mark list_items x.of y.at y.bits x.spelled) in
    let m : any_of (meets_cut e) own ≡ false = subst (λ l. any_of (meets_cut e) l ≡ false) (values-as_values own) (subst (λ z. meets_cut (Schema.set_of e size mark) z ≡ false) x.is r.uncut) in
    let n : bag (as_values (sorted less vs)) ≡ bag (as_values (sorted less (map (normal e) (values (as_values own))))) = r.is ∙ ap (normal (Schema.set_of e size mark)) x.is in
    let n' : as_values (sorted less vs) ≡ as_values (sorted less (map (normal e) (values (as_values own)))) = cc in
    let is : sorted less vs ≡ sorted less (map (normal e) own) =
    sym (values-as_values (sorted less vs)) ∙ ap values n' ∙ values-as_values (sorted less (map (normal e) (values (as_values own)))) ∙ ap (λ l. sorted less (map (normal e) l)) (values-as_values own) in
    of_each (IsRead a u e) i (of_sorted (IsRead a u e) less vs (subst (Each (IsRead a u e)) (sym is) (all_sorted (IsRead a u e) less (map (normal e) own) (all_read a u e own each m))))

-- the alternative that is chosen
chosen_read : {a : Settings} {u asked : Bool} {s : Schema} (ps : Parts) (i : ℕ) (w x : Value) → alternative_at ps i ≡ Some s → AreGood asked ps → Somewhere (Chosen (rules_in a u ps) i x) → meets_cut_at ps i x ≡ false →
    w ≡ normal_at ps i x → IsGood asked s × IsRead a u s w
unfolding rules_in meets_cut_at normal_at
chosen_read no_parts i w x e g h m n = absurd (cc)
chosen_read {a} {u} {asked} {s} (part t p c ps) zero w x e g h m n =
    let i : c ≡ s = cc in
    subst (λ z. IsGood asked z × IsRead a u z w) i ((good_first g).1, record { value = x; where_it_is = h; uncut = m; is = n })
chosen_read (part t p c ps) (suc i) w x e g h m n = chosen_read ps i w x e (good_first g).2 h m n

pub alternative_read : {a : Settings} {u asked : Bool} {s : Schema} {w : Value} {ps adds : Parts} {ext : Bool} {d : Side} {k : ℕ} → alternative_in (choice_schema ps ext adds) d k ≡ Some s → IsGood asked (choice_schema ps ext adds) →
    IsRead a u (choice_schema ps ext adds) (alternative d k w) → IsGood asked s × IsRead a u s w
unfolding basic_in meets_cut normal IsLawful keeps_to_i128
alternative_read {a} {u} {asked} {s} {w} {ps} {adds} {ext} {d} {k} e g r =
    let y = r.where_it_is in
    let x = y.spelled in
    go y.at y.bits x.of.0 x.of.1 x.of.2 x.spelled (subst (λ z. meets_cut (choice_schema ps ext adds) z ≡ false) x.is r.uncut) (r.is ∙ ap (normal (choice_schema ps ext adds)) x.is)
  where
    root_good : AreGood asked ps
    root_good = record { lawful = g.lawful.1; kept = λ q. and_left (keep_to_i128 ps) (keep_to_i128 adds) (g.kept q) }

    added_good : AreGood asked adds
    added_good = record { lawful = g.lawful.2; kept = λ q. and_right (keep_to_i128 ps) (keep_to_i128 adds) (g.kept q) }

    go : (p : ℕ) (b : Bits) (c : Side) (i : ℕ) (x : Value) → Choice a ext (rules_in a u ps) (rules_in a u adds) c i x p b → in_alternative (meets_cut_at ps) (meets_cut_at adds) (alternative c i x) ≡ false →
        alternative d k w ≡ over_alternative (normal_at ps) (normal_at adds) (alternative c i x) → IsGood asked s × IsRead a u s w
    go p b root i x h m n =
        let f : d ≡ root = cc in
        let j : k ≡ i = cc in
        let v : w ≡ normal_at ps i x = cc in
        let q : alternative_at ps i ≡ Some s = subst (λ z. alternative_at ps z ≡ Some s) j (subst (λ z. alternative_in (choice_schema ps ext adds) z k ≡ Some s) f e) in
        chosen_read ps i w x q root_good (record { at = _; bits = h.is_rest.rest; spelled = h.is_rest.is_rest }) m v
    go p b added i x h m n =
        let f : d ≡ added = cc in
        let j : k ≡ i = cc in
        let v : w ≡ normal_at adds i x = cc in
        let q : alternative_at adds i ≡ Some s = subst (λ z. alternative_at adds z ≡ Some s) j (subst (λ z. alternative_in (choice_schema ps ext adds) z k ≡ Some s) f e) in
        chosen_read adds i w x q added_good (open_spelled a (Chosen (rules_in a u adds) i x) _ h.is_rest.rest h.is_rest.is_rest) m v
