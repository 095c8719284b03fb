-- The normal form of a normal form is itself.
use Rattle.std.proofs.Common.{◌≡◌, refl, sym, ap, ◌∙◌, ℕ, zero, suc, ◌^◌, Bool, true, false, cond, ltb, List, [], ◌∷◌, map, Option, Some, None}
use Rattle.rasn_types.specs.Values.{Value, elements, bag, bag_of, fields, alternative, root, added, as_values, as_slots, values, slots}
use Rattle.rasn_types.specs.Bits.{Bits, filled_up, trimmed}
use Rattle.rasn_types.proofs.Trimming.{trimmed-trimmed, trimmed-filled}
use Rattle.rasn_types.proofs.Values.{slots-as_slots, values-as_values}
use Rattle.rasn_constraints.specs.Bounds.{Size}
use Rattle.rasn_schema.specs.Normal.{is_vacant, settle, each_slot, normal_bits, over_bits, if_named, over_elements, over_bag, over_fields, over_alternative, normal, normals, normal_at}
use Rattle.rasn_schema.specs.Schemas.{Presence, required, optional, group, default, Schema, Parts, no_parts, part}
use Rattle.rasn_types.specs.AllOf.{all_of, joined}
use Rattle.rasn_schema.proofs.Bags.{bag_becomes, sort, some_list}

-- what the first function makes of what the second one answers is that itself
abbrev pub Fixes : {X : Type 0} → (X → X) → (X → X) → Type 0
Fixes {X} g f = (v : X) → g (f v) ≡ f v

abbrev Still : {X : Type 0} → (X → X) → Type 0
Still f = Fixes f f

map_fixed : (g f : Value → Value) → Fixes g f → (vs : List Value) → map g (map f vs) ≡ map f vs
map_fixed g f h [] = refl
map_fixed g f h (v ∷ vs) = let a : g (f v) ≡ f v = h v in let b : map g (map f vs) ≡ map f vs = map_fixed g f h vs in cc

trimmed_still : (l : Option ℕ) → Still (normal_bits l)
trimmed_still None bs = trimmed-trimmed bs
trimmed_still (Some l) bs = go (ltb l (2 ^ 64))
  where
    go : (t : Bool) → cond t (filled_up l (trimmed (cond t (filled_up l (trimmed bs)) (trimmed bs)))) (trimmed (cond t (filled_up l (trimmed bs)) (trimmed bs))) ≡ cond t (filled_up l (trimmed bs)) (trimmed bs)
    go true = ap (filled_up l) (trimmed-filled l bs)
    go false = trimmed-trimmed bs

bits_still : (f : Bits → Bits) → Still f → Still (over_bits f)
bits_still f h (Value.bits bs) = ap Value.bits (h bs)
bits_still f h _ = refl

pub named_still : (named : Bool) (size : Size) → Still (if_named named size)
named_still false size = λ v. refl
named_still true size = bits_still (normal_bits size.least) (trimmed_still size.least)

pub elements_fixed : (g f : Value → Value) → Fixes g f → Fixes (over_elements g) (over_elements f)
elements_fixed g f h (elements vs) = ap (λ l. elements (as_values (map g l))) (values-as_values (map f (values vs))) ∙ ap (λ l. elements (as_values l)) (map_fixed g f h (values vs))
elements_fixed g f h _ = refl

-- the bag of what the elements of a bag become
all_map : (f : Value → Value) (vs : List Value) → all_of (λ v. Some (f v)) vs ≡ Some (map f vs)
all_map f [] = refl
all_map f (v ∷ vs) = ap (joined (Some (f v))) (all_map f vs)

pub bag_map : (f : Value → Value) (vs : List Value) → bag_of (map f (sort vs)) ≡ bag_of (map f vs)
unfolding sort
bag_map f vs =
    let q = bag_becomes (λ v. Some (f v)) vs (map f vs) (all_map f vs) in
    ap bag_of (some_list (map f (sort vs)) q.0 (sym (all_map f (sort vs)) ∙ q.1)) ∙ q.2

pub bags_fixed : (g f : Value → Value) → Fixes g f → Fixes (over_bag g) (over_bag f)
unfolding over_bag bag_of sort
bags_fixed g f h (bag vs) =
    ap (λ l. bag_of (map g l)) (values-as_values (sort (map f (values vs)))) ∙ bag_map g (map f (values vs)) ∙ ap bag_of (map_fixed g f h (values vs))
bags_fixed g f h _ = refl

pub fields_fixed : (f' f g' g : List (Option Value) → List (Option Value)) → Fixes f' f → Fixes g' g → Fixes (over_fields f' g') (over_fields f g)
fields_fixed f' f g' g h k (fields r x) =
    ap (λ l. fields (as_slots (f' l)) (as_slots (g' (slots (as_slots (g (slots x))))))) (slots-as_slots (f (slots r))) ∙ ap (λ l. fields (as_slots (f' (f (slots r)))) (as_slots (g' l))) (slots-as_slots (g (slots x)))
    ∙ ap (λ l. fields (as_slots l) (as_slots (g' (g (slots x))))) (h (slots r)) ∙ ap (λ l. fields (as_slots (f (slots r))) (as_slots l)) (k (slots x))
fields_fixed f' f g' g h k _ = refl

pub alternative_fixed : (f' f g' g : ℕ → Value → Value) → ((i : ℕ) → Fixes (f' i) (f i)) → ((i : ℕ) → Fixes (g' i) (g i)) → Fixes (over_alternative f' g') (over_alternative f g)
alternative_fixed f' f g' g h k (alternative root i v) = ap (alternative root i) (h i v)
alternative_fixed f' f g' g h k (alternative added i v) = ap (alternative added i) (k i v)
alternative_fixed f' f g' g h k _ = refl

-- settling is what one slot goes through, by two schemas of which the same groups are vacant
settled : (p : Presence) (s' s : Schema) → ((v : Value) → is_vacant s' v ≡ is_vacant s v) → (f' f : Value → Value) → Fixes f' f → (v : Value) (g : List (Option Value) → List (Option Value)) (xs : List (Option Value)) →
    each_slot (λ v. settle p s' (f' v)) g (settle p s (f v) ∷ xs) ≡ settle p s (f v) ∷ g xs
unfolding settle
settled required s' s m f' f h v g xs = ap (λ w. Some w ∷ g xs) (h v)
settled optional s' s m f' f h v g xs = ap (λ w. Some w ∷ g xs) (h v)
settled (default d) s' s m f' f h v g xs = ap (λ w. Some w ∷ g xs) (h v)
settled group s' s m f' f h v g xs = go (is_vacant s (f v)) refl
  where
    go : (t : Bool) → is_vacant s (f v) ≡ t → each_slot (λ v. cond (is_vacant s' (f' v)) None (Some (f' v))) g (cond t None (Some (f v)) ∷ xs) ≡ cond t None (Some (f v)) ∷ g xs
    go true e = refl
    go false e = ap (λ w. cond (is_vacant s' w) None (Some w) ∷ g xs) (h v) ∙ ap (λ t. cond t None (Some (f v)) ∷ g xs) (m (f v) ∙ e)

pub slots_fixed : (p : Presence) (s' s : Schema) → ((v : Value) → is_vacant s' v ≡ is_vacant s v) → (f' f : Value → Value) (g' g : List (Option Value) → List (Option Value)) → Fixes f' f → Fixes g' g
    → Fixes (each_slot (λ v. settle p s' (f' v)) g') (each_slot (λ v. settle p s (f v)) g)
slots_fixed p s' s m f' f g' g h k [] = refl
slots_fixed p s' s m f' f g' g h k (None ∷ xs) = ap (λ l. None ∷ l) (k xs)
slots_fixed p s' s m f' f g' g h k (Some v ∷ xs) = settled p s' s m f' f h v g' (g xs) ∙ ap (λ l. settle p s (f v) ∷ l) (k xs)

mutual
  unfolding normal

  still : (s : Schema) → Still (normal s)
  still (Schema.containing e) = still e
  still (Schema.list e size mark) = elements_fixed (normal e) (normal e) (still e)
  still (Schema.set_of e size mark) = bags_fixed (normal e) (normal e) (still e)
  still (Schema.sequence o ps ext adds) = fields_fixed (normals ps) (normals ps) (normals adds) (normals adds) (stills ps) (stills adds)
  still (Schema.choice ps adds ext) = alternative_fixed (normal_at ps) (normal_at ps) (normal_at adds) (normal_at adds) (still_at ps) (still_at adds)
  still (Schema.bit_string size mark named) = named_still named size
  still _ = λ v. refl

  stills : (ps : Parts) → Still (normals ps)
  stills no_parts = λ v. refl
  stills (part t p s ps) = slots_fixed p s s (λ v. refl) (normal s) (normal s) (normals ps) (normals ps) (still s) (stills ps)

  still_at : (ps : Parts) (i : ℕ) → Still (normal_at ps i)
  still_at no_parts i = λ v. refl
  still_at (part t p s ps) zero = still s
  still_at (part t p s ps) (suc i) = still_at ps i

-- the normal form of a normal form is itself
pub normal_of_normal : (s : Schema) (v : Value) → normal s (normal s v) ≡ normal s v
normal_of_normal s v = still s v
