-- Defaults of components: which values are one, whichever the schema.
use Rattle.std.proofs.Common.{◌≡◌, refl, sym, ap, ◌∙◌, ℕ, zero, suc, Bool, true, false, not, cond, nat_eq, eqb, if◌then◌else◌, List, [], ◌∷◌, map, length, eqb-true, lt-ltb, arith, ℤ, None}
use mathlib.Core.Bool.{beq}
use Rattle.std.specs.Ordering.{int_eq}
use Rattle.std.specs.Bool.{Decides}
use Rattle.std.specs.Cmp.Lexicographic.{pointwise}
use Rattle.std.specs.Prelude.{◌||◌, ◌==◌, nat_lt}
use Rattle.std.proofs.lemmas.Bool.{and_from, and_parts, eq-eqb, ne_eqb}
use Rattle.std.proofs.lemmas.Bool.Decides.{same_from_decides, Decides-eqb, Decides-int_eq}
use Rattle.std.proofs.lemmas.Slice.Eq.{slice_eq-Decides}
use Rattle.rasn_types.specs.Alphabets.{has, has_all}
use Rattle.rasn_types.specs.Values.{Value, bag_of, bits, characters, code, equal_lists, nothing, octets, same, truth, whole}
use Rattle.rasn_types.specs.Values
use Rattle.rasn_types.proofs.Codes.{same_true}
use Rattle.rasn_constraints.specs.Bounds.{unbounded}
use Rattle.rasn_schema.specs.Structures.{list_value, is_of_kind}
use Rattle.rasn_schema.specs.Normal.{normal, over_bag}
use Rattle.rasn_schema.specs.Schemas
use Rattle.rasn_schema.specs.Schemas.{Schema}
use Rattle.rasn_schema.specs.declared.items.Place.{Place}
use Rattle.rasn_schema.specs.declared.items.Place.TheVariants.{Root, Added}
use Rattle.rasn_traits.specs.Counted.{item_at}
use Rattle.rasn_dynamic.specs.declared.types.DefaultValue.{DefaultValue}
use Rattle.rasn_dynamic.specs.declared.types.DefaultValue.TheVariants
use Rattle.rasn_dynamic.specs.Types.{default_value}
use Rattle.rasn_dynamic.specs.declared.values.Value.{Value as Tree}
use Rattle.rasn_dynamic.specs.Values.{value_of, NotBits, NotCharacters, NotElements, NotItem, NotNull, NotOctets, NotTruth, NotWhole}

-- values that are no default, and that a schema doesn't make one
abbrev is_other : Value → Bool
is_other (Values.bag vs) = true
is_other (Values.fields r x) = true
is_other (Values.alternative s i v) = true
is_other (Values.elements (Values.value v vs)) = true
is_other _ = false

no_other : (d : DefaultValue) → is_other (default_value d) ≡ false
no_other (TheVariants.Boolean b) = refl
no_other TheVariants.Null = refl
no_other (TheVariants.Integer z) = refl
no_other (TheVariants.Item (Root i)) = refl
no_other (TheVariants.Item (Added i)) = refl
no_other (TheVariants.Octets os) = refl
no_other (TheVariants.Bits bs) = refl
no_other (TheVariants.Characters cs) = refl
no_other TheVariants.NoElements = refl

other_differs : (v : Value) (d : DefaultValue) → is_other v ≡ true → same v (default_value d) ≡ false
other_differs v d e = go (same v (default_value d)) refl
  where
    go : (b : Bool) → same v (default_value d) ≡ b → same v (default_value d) ≡ false
    go false q = q
    go true q = absurd (let f : true ≡ false = sym e ∙ (ap is_other (same_true v (default_value d) q) ∙ no_other d) in cc)

-- the normal form of such a value is one too
other_normal : (s : Schema) (v : Value) → is_other v ≡ true → is_other (normal s v) ≡ true
unfolding normal over_bag bag_of
other_normal (Schemas.containing s) v e = other_normal s v e
other_normal (Schemas.bit_string z m true) (Values.bits bs) e = absurd cc
other_normal (Schemas.bit_string z m true) v e = e
other_normal (Schemas.bit_string z m false) v e = e
other_normal (Schemas.list s z m) (Values.elements (Values.value v vs)) e = refl
other_normal (Schemas.list s z m) v e = e
other_normal (Schemas.set_of s z m) (Values.bag vs) e = refl
other_normal (Schemas.set_of s z m) v e = e
other_normal (Schemas.sequence o ps x qs) (Values.fields r a) e = refl
other_normal (Schemas.sequence o ps x qs) v e = e
other_normal (Schemas.choice ps qs x) (Values.alternative Values.root i v) e = refl
other_normal (Schemas.choice ps qs x) (Values.alternative Values.added i v) e = refl
other_normal (Schemas.choice ps qs x) v e = e
other_normal _ v e = e

-- whether values are named bits, or octets that contain them
abbrev pub is_named : Schema → Bool
is_named (Schemas.bit_string z m b) = b
is_named (Schemas.containing s) = is_named s
is_named s = false

-- any other value is in normal form, where bits have no names
plain_normal : (s : Schema) (v : Value) → is_named s ≡ false → is_other v ≡ false → normal s v ≡ v
unfolding normal over_bag
plain_normal (Schemas.containing s) v n e = plain_normal s v n e
plain_normal (Schemas.bit_string z m true) v n e = absurd cc
plain_normal (Schemas.bit_string z m false) v n e = refl
plain_normal (Schemas.list s z m) (Values.elements Values.no_values) n e = refl
plain_normal (Schemas.list s z m) (Values.elements (Values.value v vs)) n e = absurd cc
plain_normal (Schemas.list s z m) v n e = refl
plain_normal (Schemas.set_of s z m) (Values.bag vs) n e = absurd cc
plain_normal (Schemas.set_of s z m) v n e = refl
plain_normal (Schemas.sequence o ps x qs) (Values.fields r a) n e = absurd cc
plain_normal (Schemas.sequence o ps x qs) v n e = refl
plain_normal (Schemas.choice ps qs x) (Values.alternative d i v) n e = absurd cc
plain_normal (Schemas.choice ps qs x) v n e = refl
plain_normal _ v n e = refl

-- a value is a default as its normal form is, whichever the schema, where bits have no names
pub same_normal : (s : Schema) (v : Value) (d : DefaultValue) → is_named s ≡ false → same v (default_value d) ≡ same (normal s v) (default_value d)
same_normal s v d n = go (is_other v) refl
  where
    go : (b : Bool) → is_other v ≡ b → same v (default_value d) ≡ same (normal s v) (default_value d)
    go true e = other_differs v d e ∙ sym (other_differs (normal s v) d (other_normal s v e))
    go false e = ap (λ w. same w (default_value d)) (sym (plain_normal s v n e))

-- what is of no kind of a default's isn't one
equal_lists_same : (xs ys : List ℕ) → equal_lists xs ys ≡ true → xs ≡ ys
equal_lists_same [] [] e = refl
equal_lists_same [] (y ∷ ys) e = absurd (cc)
equal_lists_same (x ∷ xs) [] e = absurd (cc)
equal_lists_same (x ∷ xs) (y ∷ ys) e = go (eqb x y) refl e (equal_lists_same xs ys)
  where
    go : (b : Bool) → eqb x y ≡ b → cond b (equal_lists xs ys) false ≡ true → (equal_lists xs ys ≡ true → xs ≡ ys) → x ∷ xs ≡ y ∷ ys
    go true h e r = let u : x ≡ y = eqb-true x y h in let v : xs ≡ ys = r e in cc
    go false h e r = absurd (cc)

equal_lists_self : (xs : List ℕ) → equal_lists xs xs ≡ true
equal_lists_self [] = refl
equal_lists_self (x ∷ xs) = rw (eq-eqb x x refl) (equal_lists_self xs)

pub same_self : (v : Value) → same v v ≡ true
unfolding same
same_self v = equal_lists_self (code v)

pub differs : (v w : Value) → (v ≡ w → ⊥) → same v w ≡ false
differs v w h = go (same v w) refl
  where
    go : (b : Bool) → same v w ≡ b → same v w ≡ false
    go false q = q
    go true q = absurd (h (same_true v w q))

decided : {A : Type 0} (value : A → Value) (x y : A) → (value x ≡ value y → x ≡ y) → Decides (same (value x) (value y)) (x ≡ y)
decided value x y h = (λ e. h (same_true (value x) (value y) e), λ e. rw e (same_self (value y)))

same_by : {A : Type 0} (value : A → Value) (r : Bool) (x y : A) → Decides r (x ≡ y) → (value x ≡ value y → x ≡ y) → r ≡ same (value x) (value y)
same_by value r x y d h = same_from_decides r (same (value x) (value y)) d (decided value x y h)

pub same_truth : (a b : Bool) → beq a b ≡ same (truth a) (truth b)
unfolding same code
same_truth true true = refl
same_truth true false = refl
same_truth false true = refl
same_truth false false = refl

pub no_truth : (v : Value) (b : Bool) → NotTruth v → false ≡ same v (truth b)
no_truth v b h = sym (differs v (truth b) (λ e. absurd (let f : true ≡ false = sym (ap (is_of_kind Schemas.boolean) e) ∙ h in cc)))

pub null_same : (v : Value) (r : Bool) → (r ≡ false → NotNull v) → (r ≡ true → v ≡ nothing) → r ≡ same v nothing
null_same v true h k = rw (k refl) (sym (same_self nothing))
null_same v false h k = sym (differs v nothing (λ e. absurd (let f : true ≡ false = sym (ap (is_of_kind Schemas.null) e) ∙ h refl in cc)))

whole_of : (a b : ℤ) → whole a ≡ whole b → a ≡ b
whole_of a b e = cc

pub same_whole : (a b : ℤ) → int_eq a b ≡ same (whole a) (whole b)
same_whole a b = same_by whole (int_eq a b) a b (Decides-int_eq a b) (whole_of a b)

pub no_whole : (v : Value) (z : ℤ) → NotWhole v → false ≡ same v (whole z)
no_whole v z h = sym (differs v (whole z) (λ e. absurd (let f : true ≡ false = sym (ap (is_of_kind (Schemas.number unbounded false unbounded)) e) ∙ h unbounded unbounded false in cc)))

octets_of : (xs ys : List ℕ) → octets xs ≡ octets ys → xs ≡ ys
octets_of xs ys e = cc

pub same_octets : (xs ys : List ℕ) → pointwise nat_eq xs ys ≡ same (octets xs) (octets ys)
same_octets xs ys = same_from_decides _ _ (slice_eq-Decides Decides-eqb xs ys (pointwise nat_eq xs ys) refl) (decided octets xs ys (octets_of xs ys))

pub no_octets : (v : Value) (os : List ℕ) → NotOctets v → false ≡ same v (octets os)
no_octets v os h = sym (differs v (octets os) (λ e. absurd (let f : true ≡ false = sym (ap (is_of_kind Schemas.any) e) ∙ h.no_open in cc)))

characters_of : (xs ys : List ℕ) → characters xs ≡ characters ys → xs ≡ ys
characters_of xs ys e = cc

pub same_characters : (xs ys : List ℕ) → pointwise nat_eq xs ys ≡ same (characters xs) (characters ys)
same_characters xs ys = same_from_decides _ _ (slice_eq-Decides Decides-eqb xs ys (pointwise nat_eq xs ys) refl) (decided characters xs ys (characters_of xs ys))

pub no_elements : (v : Value) → NotElements v → false ≡ same v (list_value [])
no_elements v h = sym (differs v (list_value []) (λ e. absurd (let f : true ≡ false = sym (ap (is_of_kind (Schemas.list Schemas.null (record { least = None; most = None }) false)) e) ∙ h Schemas.null (record { least = None; most = None }) false in cc)))

-- bits
bools_decide : (a b : Bool) → Decides (beq a b) (a ≡ b)
bools_decide true true = (λ e. refl, λ e. refl)
bools_decide true false = (λ e. absurd (cc), λ e. absurd (cc))
bools_decide false true = (λ e. absurd (cc), λ e. absurd (cc))
bools_decide false false = (λ e. refl, λ e. refl)

bits_of : (xs ys : List Bool) → bits xs ≡ bits ys → xs ≡ ys
bits_of xs ys e = cc

pub same_bits : (xs ys : List Bool) → pointwise beq xs ys ≡ same (bits xs) (bits ys)
same_bits xs ys = same_from_decides _ _ (slice_eq-Decides bools_decide xs ys (pointwise beq xs ys) refl) (decided bits xs ys (bits_of xs ys))

pub no_bits : (v : Value) (bs : List Bool) → NotBits v → false ≡ same v (bits bs)
no_bits v bs h = sym (differs v (bits bs) (λ e. absurd (let f : true ≡ false = sym (ap (is_of_kind (Schemas.bit_string (record { least = None; most = None }) false false)) e) ∙ h (record { least = None; most = None }) false false in cc)))

-- items, by their places
pub same_root : (i j : ℕ) → eqb i j ≡ same (item_at (Root i)) (item_at (Root j))
same_root i j = same_by (λ k. Values.item Values.root k) (eqb i j) i j (Decides-eqb i j) (λ e. cc)

pub same_added : (i j : ℕ) → eqb i j ≡ same (item_at (Added i)) (item_at (Added j))
same_added i j = same_by (λ k. Values.item Values.added k) (eqb i j) i j (Decides-eqb i j) (λ e. cc)

pub root_added : (i j : ℕ) → false ≡ same (item_at (Root i)) (item_at (Added j))
root_added i j = sym (differs (Values.item Values.root i) (Values.item Values.added j) (λ e. absurd cc))

pub added_root : (i j : ℕ) → false ≡ same (item_at (Added i)) (item_at (Root j))
added_root i j = sym (differs (Values.item Values.added i) (Values.item Values.root j) (λ e. absurd cc))

pub no_item_of : (v : Value) (p : Place) → NotItem v → false ≡ same v (item_at p)
no_item_of v (Root i) h = sym (differs v (item_at (Root i)) (λ e. absurd (let f : true ≡ false = sym (lt-ltb i (suc i) (omega arith)) ∙ (sym (ap (is_of_kind (Schemas.items (suc i) 0 false)) e) ∙ h (suc i) 0 false) in cc)))
no_item_of v (Added i) h = sym (differs v (item_at (Added i)) (λ e. absurd (let f : true ≡ false = sym (lt-ltb i (suc i) (omega arith)) ∙ (sym (ap (is_of_kind (Schemas.items 0 (suc i) false)) e) ∙ h 0 (suc i) false) in cc)))

-- characters: each string's are among themselves
or_true : (b c : Bool) → c ≡ true → (b || c) ≡ true
or_true true c e = refl
or_true false c e = e

has_more : (d : ℕ) (own cs : List ℕ) → has_all own cs ≡ true → has_all (d ∷ own) cs ≡ true
has_more d own [] e = refl
has_more d own (c ∷ cs) e =
    let p = and_parts (has own c) (has_all own cs) e in
    and_from (eqb d c || has own c) (has_all (d ∷ own) cs) (or_true (eqb d c) (has own c) p.0) (has_more d own cs p.1)

has_own : (cs : List ℕ) → has_all cs cs ≡ true
has_own [] = refl
has_own (c ∷ cs) = and_from (eqb c c || has cs c) (has_all (c ∷ cs) cs) (rw (eq-eqb c c refl) refl) (has_more c cs cs (has_own cs))

pub no_characters : (v : Value) (cs : List ℕ) → NotCharacters v → false ≡ same v (characters cs)
no_characters v cs h = sym (differs v (characters cs) (λ e. absurd (let f : true ≡ false = sym (has_own cs) ∙ (sym (ap (is_of_kind (Schemas.char_string cs (record { least = None; most = None }) false)) e) ∙ h.no_string cs (record { least = None; most = None }) false) in cc)))

-- a list, by whether it has elements
pub same_empty : (vs : List Tree) → eqb (length vs) 0 ≡ same (list_value (map value_of vs)) (list_value [])
unfolding same code
same_empty [] = refl
same_empty (v ∷ vs) = ne_eqb (suc (length vs)) 0 (λ e. omega arith)
