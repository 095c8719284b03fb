-- Whether two defaults are the same value, by what they hold.
use Rattle.std.proofs.Common.{◌≡◌, refl, sym, ap, ap₂, ◌∙◌, subst, ◌⊎◌, inl, inr, suc, ℕ, ℤ, Bool, true, false, eqb, ◌&&◌, List, [], ◌∷◌, map, length, Option, Some, None, arith}
use Rattle.std.proofs.lemmas.Bool.{ne_eqb}
use Rattle.std.specs.Global.{Vec}
use Rattle.std.specs.Prelude.{is_some, not}
use Rattle.rasn_types.specs.Values.{Value, alternative, bits, characters, nothing, octets, same, truth, whole}
use Rattle.rasn_schema.specs.Structures.{list_value, record_value}
use Rattle.rasn_schema.specs.declared.items.Place.{Place}
use Rattle.rasn_schema.specs.declared.items.Place.TheVariants.{Root, Added}
use Rattle.rasn_traits.specs.Counted.{index_in, item_at, side_of}
use Rattle.rasn_dynamic.specs.declared.types.DefaultTree.{DefaultTree}
use Rattle.rasn_dynamic.specs.declared.types.DefaultTree.TheOpen.{DefaultTree-F, Absent, Alternative, Elements, Fields, Plain}
use Rattle.rasn_dynamic.specs.declared.types.DefaultTree.TheViews
use Rattle.rasn_dynamic.specs.declared.types.DefaultTree.TheViews.{roll-DefaultTree}
use Rattle.rasn_dynamic.specs.declared.types.DefaultTree.TheVariants as Variants
use Rattle.rasn_dynamic.specs.declared.types.DefaultTree.TheVariants.{rolls-Absent, rolls-Alternative, rolls-Elements, rolls-Fields, rolls-Plain}
use Rattle.rasn_dynamic.specs.declared.types.DefaultTree.TheFolds.{fold-roll-DefaultTree, ind-DefaultTree, map-DefaultTree}
use Rattle.rasn_dynamic.specs.declared.types.DefaultValue.{DefaultValue}
use Rattle.rasn_dynamic.specs.declared.types.DefaultValue.TheVariants
use Rattle.rasn_dynamic.specs.Defaults.{all_pairs, same_slot}
use Rattle.rasn_dynamic.specs.Types.{default_value, stated, tree_slot, tree_step, tree_value}
use Rattle.rasn_dynamic.proofs.NormalForms.{lists_same, records_same, shape}
use Rattle.rasn_dynamic.proofs.Comparing.{chosen_same}
use Rattle.rasn_dynamic.proofs.Pairs.{pairs_of}
use Rattle.rasn_dynamic.proofs.SameDefaults.{differs}

-- ---- defaults that hold no values

pub other_truth : (b : Bool) (d : DefaultValue) → ((c : _) → d ≡ TheVariants.Boolean c → ⊥) → false ≡ same (truth b) (default_value d)
unfolding same
other_truth b (TheVariants.Boolean c) h = absurd (h c refl)
other_truth b (TheVariants.Item (Root i)) h = refl
other_truth b (TheVariants.Item (Added i)) h = refl
other_truth b _ h = refl

pub other_number : (z : ℤ) (d : DefaultValue) → ((c : _) → d ≡ TheVariants.Integer c → ⊥) → false ≡ same (whole z) (default_value d)
unfolding same
other_number z (TheVariants.Integer c) h = absurd (h c refl)
other_number z (TheVariants.Item (Root i)) h = refl
other_number z (TheVariants.Item (Added i)) h = refl
other_number z _ h = refl

pub other_item : (p : Place) (d : DefaultValue) → ((c : _) → d ≡ TheVariants.Item c → ⊥) → false ≡ same (item_at p) (default_value d)
unfolding same
other_item p (TheVariants.Item c) h = absurd (h c refl)
other_item (Root i) _ h = refl
other_item (Added i) _ h = refl

pub other_octets : (os : List ℕ) (d : DefaultValue) → ((c : _) → d ≡ TheVariants.Octets c → ⊥) → false ≡ same (octets os) (default_value d)
unfolding same
other_octets os (TheVariants.Octets c) h = absurd (h c refl)
other_octets os (TheVariants.Item (Root i)) h = refl
other_octets os (TheVariants.Item (Added i)) h = refl
other_octets os _ h = refl

pub other_bits : (bs : List Bool) (d : DefaultValue) → ((c : _) → d ≡ TheVariants.Bits c → ⊥) → false ≡ same (bits bs) (default_value d)
unfolding same
other_bits bs (TheVariants.Bits c) h = absurd (h c refl)
other_bits bs (TheVariants.Item (Root i)) h = refl
other_bits bs (TheVariants.Item (Added i)) h = refl
other_bits bs _ h = refl

pub other_characters : (cs : List ℕ) (d : DefaultValue) → ((c : _) → d ≡ TheVariants.Characters c → ⊥) → false ≡ same (characters cs) (default_value d)
unfolding same
other_characters cs (TheVariants.Characters c) h = absurd (h c refl)
other_characters cs (TheVariants.Item (Root i)) h = refl
other_characters cs (TheVariants.Item (Added i)) h = refl
other_characters cs _ h = refl

pub other_null : (d : DefaultValue) → (d ≡ TheVariants.Null → ⊥) → false ≡ same nothing (default_value d)
unfolding same
other_null TheVariants.Null h = absurd (h refl)
other_null (TheVariants.Item (Root i)) h = refl
other_null (TheVariants.Item (Added i)) h = refl
other_null _ h = refl

pub other_list : (d : DefaultValue) → (d ≡ TheVariants.NoElements → ⊥) → false ≡ same (list_value []) (default_value d)
unfolding same
other_list TheVariants.NoElements h = absurd (h refl)
other_list (TheVariants.Item (Root i)) h = refl
other_list (TheVariants.Item (Added i)) h = refl
other_list _ h = refl

-- one that may be the list without elements, and a list
pub list_plain : (d : DefaultValue) (ws : List Value) → (same (list_value []) (default_value d) && eqb (length ws) 0) ≡ same (default_value d) (list_value ws)
unfolding same
list_plain TheVariants.NoElements [] = refl
list_plain TheVariants.NoElements (w ∷ ws) = ne_eqb (suc (length ws)) 0 (λ e. omega arith)
list_plain (TheVariants.Item (Root i)) ws = refl
list_plain (TheVariants.Item (Added i)) ws = refl
list_plain _ ws = refl

pub plain_list : (d : DefaultValue) (ws : List Value) → (same (list_value []) (default_value d) && eqb (length ws) 0) ≡ same (list_value ws) (default_value d)
unfolding same
plain_list TheVariants.NoElements [] = refl
plain_list TheVariants.NoElements (w ∷ ws) = ne_eqb (suc (length ws)) 0 (λ e. omega arith)
plain_list (TheVariants.Item (Root i)) ws = refl
plain_list (TheVariants.Item (Added i)) ws = refl
plain_list _ ws = refl

pub no_list_plain : (d : DefaultValue) (ws : List Value) (a : Bool) → a ≡ same (list_value []) (default_value d) → a ≡ false → false ≡ same (default_value d) (list_value ws)
no_list_plain d ws a h e = ap (λ b. b && eqb (length ws) 0) (sym e ∙ h) ∙ list_plain d ws

pub no_plain_list : (d : DefaultValue) (ws : List Value) (a : Bool) → a ≡ same (list_value []) (default_value d) → a ≡ false → false ≡ same (list_value ws) (default_value d)
no_plain_list d ws a h e = ap (λ b. b && eqb (length ws) 0) (sym e ∙ h) ∙ plain_list d ws

map_count : {A B : Type 0} (f : A → B) (xs : List A) → length xs ≡ length (map f xs)
map_count f [] = refl
map_count f (x ∷ xs) = ap suc (map_count f xs)

pub is_list_plain : (d : DefaultValue) (ds : List DefaultTree) (a b : Bool) → a ≡ same (list_value []) (default_value d) → a ≡ true → b ≡ eqb (length ds) 0 → b ≡ same (default_value d) (list_value (map tree_value ds))
is_list_plain d ds a b h e k = k ∙ ap (λ (n : ℕ). eqb n 0) (map_count tree_value ds) ∙ ap (λ c. c && eqb (length (map tree_value ds)) 0) (sym e ∙ h) ∙ list_plain d (map tree_value ds)

pub is_plain_list : (d : DefaultValue) (ds : List DefaultTree) (a b : Bool) → a ≡ same (list_value []) (default_value d) → a ≡ true → b ≡ eqb (length ds) 0 → b ≡ same (list_value (map tree_value ds)) (default_value d)
is_plain_list d ds a b h e k = k ∙ ap (λ (n : ℕ). eqb n 0) (map_count tree_value ds) ∙ ap (λ c. c && eqb (length (map tree_value ds)) 0) (sym e ∙ h) ∙ plain_list d (map tree_value ds)

-- ---- defaults by their variants

roll_tree : (x : DefaultTree-F DefaultTree) → tree_slot (roll-DefaultTree x) ≡ tree_step (map-DefaultTree DefaultTree (Option Value) tree_slot x)
roll_tree x = fold-roll-DefaultTree (Option Value) tree_step x

pub fields_stated : (x y : Vec DefaultTree) (rs xs : List DefaultTree) (d : DefaultTree) → rs ≡ x.items → xs ≡ y.items → d ≡ TheViews.Fields x y → record_value (map tree_slot rs) (map tree_slot xs) ≡ tree_value d
fields_stated x y rs xs d e f h = ap₂ (λ us ws. record_value (map tree_slot us) (map tree_slot ws)) e f ∙ sym (ap stated (ap tree_slot (h ∙ sym (rolls-Fields x y)) ∙ roll_tree (Fields x y)))

pub chosen_stated : (p : Place) (x : _) (w d : DefaultTree) → d ≡ TheViews.Alternative p x → w ≡ x.value → alternative (side_of p) (index_in p) (tree_value w) ≡ tree_value d
chosen_stated p x w d h e = ap (λ u. alternative (side_of p) (index_in p) (tree_value u)) e ∙ sym (ap stated (ap tree_slot (h ∙ sym (rolls-Alternative p x)) ∙ roll_tree (Alternative p x)))

plain_shape : (p : DefaultValue) (n : ℕ) → (n ≡ 2) ⊎ (n ≡ 3) → shape (default_value p) ≡ n → ⊥
plain_shape (TheVariants.Item (Root i)) n (inl h) e = cc
plain_shape (TheVariants.Item (Root i)) n (inr h) e = cc
plain_shape (TheVariants.Item (Added i)) n (inl h) e = cc
plain_shape (TheVariants.Item (Added i)) n (inr h) e = cc
plain_shape _ n (inl h) e = cc
plain_shape _ n (inr h) e = cc

abbrev Unlisted : DefaultTree → Type 0
Unlisted d = ((y : _) → d ≡ Variants.Plain y → ⊥) → ((y : _) → d ≡ TheViews.Elements y → ⊥) → shape (tree_value d) ≡ 1 → ⊥

unlisted_roll : (x : DefaultTree-F DefaultTree) → Unlisted (roll-DefaultTree x)
unlisted_roll (Plain y) h k = absurd (h y (rolls-Plain y))
unlisted_roll (Elements y) h k = absurd (k y (rolls-Elements y))
unlisted_roll x h k = subst (λ w. shape w ≡ 1 → ⊥) (sym (ap stated (roll_tree x))) (λ e. cc)

unlisted : (d : DefaultTree) → Unlisted d
unlisted = ind-DefaultTree Unlisted (λ x y is. unlisted_roll x)

abbrev Unrecorded : DefaultTree → Type 0
Unrecorded d = ((y z : _) → d ≡ TheViews.Fields y z → ⊥) → shape (tree_value d) ≡ 2 → ⊥

unrecorded_roll : (x : DefaultTree-F DefaultTree) → Unrecorded (roll-DefaultTree x)
unrecorded_roll (Fields y z) h = absurd (h y z (rolls-Fields y z))
unrecorded_roll (Plain y) h = subst (λ w. shape w ≡ 2 → ⊥) (sym (ap stated (roll_tree (Plain y)))) (plain_shape y 2 (inl refl))
unrecorded_roll x h = subst (λ w. shape w ≡ 2 → ⊥) (sym (ap stated (roll_tree x))) (λ e. cc)

pub unrecorded : (d : DefaultTree) → Unrecorded d
unrecorded = ind-DefaultTree Unrecorded (λ x y is. unrecorded_roll x)

abbrev Unchosen : DefaultTree → Type 0
Unchosen d = ((y z : _) → d ≡ TheViews.Alternative y z → ⊥) → shape (tree_value d) ≡ 3 → ⊥

unchosen_roll : (x : DefaultTree-F DefaultTree) → Unchosen (roll-DefaultTree x)
unchosen_roll (Alternative y z) h = absurd (h y z (rolls-Alternative y z))
unchosen_roll (Plain y) h = subst (λ w. shape w ≡ 3 → ⊥) (sym (ap stated (roll_tree (Plain y)))) (plain_shape y 3 (inr refl))
unchosen_roll x h = subst (λ w. shape w ≡ 3 → ⊥) (sym (ap stated (roll_tree x))) (λ e. cc)

unchosen : (d : DefaultTree) → Unchosen d
unchosen = ind-DefaultTree Unchosen (λ x y is. unchosen_roll x)

pub no_list : (vs : List Value) (d : DefaultTree) → ((y : _) → d ≡ Variants.Plain y → ⊥) → ((y : _) → d ≡ TheViews.Elements y → ⊥) → false ≡ same (list_value vs) (tree_value d)
no_list vs d h k = sym (differs (list_value vs) (tree_value d) (λ e. unlisted d h k (sym (ap shape e))))

pub no_record : (rs xs : List (Option Value)) (d : DefaultTree) → ((y z : _) → d ≡ TheViews.Fields y z → ⊥) → false ≡ same (record_value rs xs) (tree_value d)
no_record rs xs d h = sym (differs (record_value rs xs) (tree_value d) (λ e. unrecorded d h (sym (ap shape e))))

pub no_choice : (p : Place) (v : Value) (d : DefaultTree) → ((y z : _) → d ≡ TheViews.Alternative y z → ⊥) → false ≡ same (alternative (side_of p) (index_in p) v) (tree_value d)
no_choice p v d h = sym (differs (alternative (side_of p) (index_in p) v) (tree_value d) (λ e. unchosen d h (sym (ap shape e))))

-- a value that holds none is no record and no alternative
pub plain_no_record : (p : DefaultValue) (x y : Vec DefaultTree) (d : DefaultTree) → d ≡ TheViews.Fields x y → false ≡ same (default_value p) (tree_value d)
plain_no_record p x y d h = sym (differs (default_value p) (tree_value d) (λ e. plain_shape p 2 (inl refl) (ap shape (e ∙ sym (fields_stated x y x.items y.items d refl refl h)))))

pub plain_no_choice : (p : DefaultValue) (a : Place) (x : _) (d : DefaultTree) → d ≡ TheViews.Alternative a x → false ≡ same (default_value p) (tree_value d)
plain_no_choice p a x d h = sym (differs (default_value p) (tree_value d) (λ e. plain_shape p 3 (inr refl) (ap shape (e ∙ sym (chosen_stated a x x.value d h refl)))))

-- ---- defaults that hold values

pub values_same : (ds es : List DefaultTree) → all_pairs (λ d e. same (tree_value d) (tree_value e)) ds es ≡ same (list_value (map tree_value ds)) (list_value (map tree_value es))
values_same ds es = pairs_of same tree_value tree_value ds es ∙ lists_same (map tree_value ds) (map tree_value es)

pub slots_same : (rs xs ds es : List DefaultTree) → (all_pairs (λ d e. same_slot (tree_slot d) (tree_slot e)) rs ds && all_pairs (λ d e. same_slot (tree_slot d) (tree_slot e)) xs es)
    ≡ same (record_value (map tree_slot rs) (map tree_slot xs)) (record_value (map tree_slot ds) (map tree_slot es))
slots_same rs xs ds es = ap₂ (λ a b. a && b) (pairs_of same_slot tree_slot tree_slot rs ds) (pairs_of same_slot tree_slot tree_slot xs es) ∙ records_same (map tree_slot rs) (map tree_slot xs) (map tree_slot ds) (map tree_slot es)

-- ---- parts of records

pub absent_same : (o q : Option Value) (a b : Bool) → a ≡ is_some o → a ≡ false → b ≡ is_some q → not b ≡ same_slot o q
absent_same None None a b e f h = ap not h
absent_same None (Some w) a b e f h = ap not h
absent_same (Some v) q a b e f h = absurd (let k : true ≡ false = sym e ∙ f in cc)

pub there_absent : (o q : Option Value) (a b : Bool) → a ≡ is_some o → a ≡ true → b ≡ is_some q → b ≡ false → false ≡ same_slot o q
there_absent None q a b e f h k = absurd (let l : true ≡ false = sym f ∙ e in cc)
there_absent (Some v) None a b e f h k = refl
there_absent (Some v) (Some w) a b e f h k = absurd (let l : true ≡ false = sym h ∙ k in cc)

pub both_there : (o q : Option Value) (a b r : Bool) → a ≡ is_some o → a ≡ true → b ≡ is_some q → b ≡ true → r ≡ same (stated o) (stated q) → r ≡ same_slot o q
both_there None q a b r e f h k l = absurd (let m : true ≡ false = sym f ∙ e in cc)
both_there (Some v) None a b r e f h k l = absurd (let m : true ≡ false = sym k ∙ h in cc)
both_there (Some v) (Some w) a b r e f h k l = l

-- ---- what holds values, by what it holds

pub records_differ : (rs xs ds es : List DefaultTree) (d : DefaultTree) (a : Bool) → a ≡ all_pairs (λ d e. same_slot (tree_slot d) (tree_slot e)) rs ds → a ≡ false → record_value (map tree_slot ds) (map tree_slot es) ≡ tree_value d
    → false ≡ same (record_value (map tree_slot rs) (map tree_slot xs)) (tree_value d)
records_differ rs xs ds es d a h e f =
    ap (λ b. b && all_pairs (λ d e. same_slot (tree_slot d) (tree_slot e)) xs es) (sym e ∙ h) ∙ slots_same rs xs ds es ∙ ap (same (record_value (map tree_slot rs) (map tree_slot xs))) f

pub records_agree : (rs xs ds es : List DefaultTree) (d : DefaultTree) (a b : Bool) → a ≡ all_pairs (λ d e. same_slot (tree_slot d) (tree_slot e)) rs ds → a ≡ true → b ≡ all_pairs (λ d e. same_slot (tree_slot d) (tree_slot e)) xs es
    → record_value (map tree_slot ds) (map tree_slot es) ≡ tree_value d → b ≡ same (record_value (map tree_slot rs) (map tree_slot xs)) (tree_value d)
records_agree rs xs ds es d a b h e k f =
    k ∙ ap (λ c. c && all_pairs (λ d e. same_slot (tree_slot d) (tree_slot e)) xs es) (sym e ∙ h) ∙ slots_same rs xs ds es ∙ ap (same (record_value (map tree_slot rs) (map tree_slot xs))) f

pub choices_differ : (p q : Place) (v w : Value) (d : DefaultTree) (a : Bool) → a ≡ same (item_at p) (item_at q) → a ≡ false → alternative (side_of q) (index_in q) w ≡ tree_value d → false ≡ same (alternative (side_of p) (index_in p) v) (tree_value d)
choices_differ p q v w d a h e f = ap (λ b. b && same v w) (sym e ∙ h) ∙ chosen_same p q v w ∙ ap (same (alternative (side_of p) (index_in p) v)) f

pub choices_agree : (p q : Place) (v w : Value) (d : DefaultTree) (a b : Bool) → a ≡ same (item_at p) (item_at q) → a ≡ true → b ≡ same v w → alternative (side_of q) (index_in q) w ≡ tree_value d → b ≡ same (alternative (side_of p) (index_in p) v) (tree_value d)
choices_agree p q v w d a b h e k f = k ∙ ap (λ c. c && same v w) (sym e ∙ h) ∙ chosen_same p q v w ∙ ap (same (alternative (side_of p) (index_in p) v)) f

-- a default that is absent, or holds no values
pub absent_stated : (d : DefaultTree) → d ≡ Variants.Absent → tree_value d ≡ nothing
absent_stated d e = ap tree_value (e ∙ sym rolls-Absent) ∙ ap stated (roll_tree Absent)

pub plain_stated : (p : DefaultValue) (d : DefaultTree) → d ≡ Variants.Plain p → tree_value d ≡ default_value p
plain_stated p d e = ap tree_value (e ∙ sym (rolls-Plain p)) ∙ ap stated (roll_tree (Plain p))
