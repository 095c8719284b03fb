-- What refuses a SET OF (ITU-T X.691, 22): its count, or a member, in whatever order they are written.
use Rattle.std.proofs.Common.{◌≡◌, refl, sym, ap, subst, ◌∙◌, ℕ, Bool, true, false, cond, List, [], ◌∷◌, map, length, Option, None}
use Rattle.rasn_types.specs.Variants.{variant_of, Variant}
use Rattle.rasn_types.specs.Values.{Value, as_values, bag_of, before, code, put, same, sorted, values}
use Rattle.rasn_types.proofs.Values.{values-as_values}
use Rattle.rasn_constraints.specs.Bounds.{allows, Size, value_of, lower_of, upper_of}
use Rattle.rasn_schema.specs.Structures.{list_value}
use Rattle.rasn_schema.specs.Schemas.{Schema}
use Rattle.per_core.specs.Canon.{ascending, canon, octet_key}
use Rattle.per_core.specs.Counts.{counted, list_items}
use Rattle.per_core.specs.Writers.{Writer, written_if}
use Rattle.rasn_schema.proofs.Bags.{sort}
use Rattle.per_core.specs.declared.encode_error.EncodeError.{EncodeError}
use Rattle.per_core.specs.declared.encode_error.EncodeErrorKind.{EncodeErrorKind}
use Rattle.per_core.specs.declared.encode_error.EncodeErrorKind.TheVariants.{SizeConstraintNotSatisfied}
use Rattle.per_core.specs.declared.encode_error.EncodeErrorKind.TheVariants.{ValueConstraintNotSatisfied}
use Rattle.per_core.specs.declared.encode_error.EncodeErrorKind.TheVariants.{AlphabetConstraintNotSatisfied}
use Rattle.per_core.specs.declared.encode_error.EncodeErrorKind.TheVariants.{IntegerTypeConversionFailed}
use Rattle.per_core.specs.declared.encode_error.EncodeErrorKind.TheVariants.{VariantNotInChoice, RealNotSupported}
use Rattle.per_core.specs.declared.encode_error.EncodeErrorKind.TheVariants.{TooManyAdditions, Below, AlreadyFailed}
use Rattle.per_core.specs.declared.encode_error.EncodeErrorKind.TheVariants.{OutOfMemory, OutOfTurn, WrongKind}
use Rattle.per_core.specs.WritingFaults.{HasElement, element_here, element_after, IsAbsent, IsForeign, IsOther}
use Rattle.per_core.specs.WritingFaults.{IsOutOfBounds, IsOutOfSize, IsPastBounds, IsReal, IsUnlawful, OutsideSize}
use Rattle.per_core.specs.WritingFaults.{StandsIn, at_once, in_addition, in_alternative, in_contents, in_element}
use Rattle.per_core.specs.WritingFaults.{in_member, in_part, in_set}
use Rattle.per_write.specs.Faults.{RefusesValue, Stands}
use Rattle.per_write.specs.Items.{HasRefused, refused_after, refused_here}
use Rattle.per_write.specs.WriterState.{WriterState}
use Rattle.per_write.proofs.Elements.{length-forms}
use Rattle.per_write.proofs.Refusing.{none_counted, none_outside}
use Rattle.per_enc.proofs.BagOrder.{element_sorted, length_sorted}

-- a refused one stays among them, in whatever order
refused_turn : (w u : Writer) (us l : List Writer) → (HasRefused (w ∷ us) → HasRefused l) → HasRefused (w ∷ u ∷ us) → HasRefused (u ∷ l)
refused_turn w u us l r (refused_here h) = refused_after (r (refused_here h))
refused_turn w u us l r (refused_after (refused_here h)) = refused_here h
refused_turn w u us l r (refused_after (refused_after k)) = refused_after (r (refused_after k))

module _ (less : Writer → Writer → Bool) where
  refused_put : (w : Writer) (l : List Writer) → HasRefused (w ∷ l) → HasRefused (put less w l)
  refused_put w [] h = h
  refused_put w (u ∷ us) h = go (less u w) (refused_put w us)
    where
      go : (b : Bool) → (HasRefused (w ∷ us) → HasRefused (put less w us)) → HasRefused (cond b (u ∷ put less w us) (w ∷ u ∷ us))
      go true r = refused_turn w u us (put less w us) r h
      go false r = h

  refused_sorted : (l : List Writer) → HasRefused l → HasRefused (sorted less l)
  refused_sorted [] h = h
  refused_sorted (w ∷ ws) (refused_here h) = refused_put w (sorted less ws) (refused_here h)
  refused_sorted (w ∷ ws) (refused_after k) = refused_put w (sorted less ws) (refused_after (refused_sorted ws k))

refused_of : (f : Value → Writer) (v : Value) → ((p : ℕ) → f v p ≡ None) → (l : List Value) → HasElement v l → HasRefused (map f l)
refused_of f v r [] h = elim h [ ]
refused_of f v r (w ∷ ws) element_here = refused_here r
refused_of f v r (w ∷ ws) (element_after k) = refused_after (refused_of f v r ws k)

none_if : (b : Bool) (w : Writer) (p : ℕ) → w p ≡ None → written_if b w p ≡ None
none_if true w p h = h
none_if false w p h = refl

-- where its members aren't written in order, a bag isn't
bag_without : (a : Variant) (e : Schema) (size : Size) (mark : Bool) (vs : List Value) (p : ℕ) → counted a size mark list_items (ascending (map (canon a e) (sort vs))) p ≡ None
    → canon a (Schema.set_of e size mark) (bag_of vs) p ≡ None
unfolding canon bag_of sort
bag_without a e size mark vs p h =
    let there : values (as_values (sort vs)) ≡ sort vs = values-as_values (sort vs) in
    none_if (same (bag_of (values (as_values (sort vs)))) (bag_of vs)) (counted a size mark list_items (ascending (map (canon a e) (values (as_values (sort vs)))))) p
    (ap (λ l. counted a size mark list_items (ascending (map (canon a e) l)) p) there ∙ h)

in_sort : (v : Value) (vs : List Value) → HasElement v vs → HasElement v (sort vs)
unfolding sort
in_sort v vs h = element_sorted (λ v w. before (code v) (code w)) v vs h

length-sort : (vs : List Value) → length (sort vs) ≡ length vs
unfolding sort
length-sort vs = length_sorted (λ v w. before (code v) (code w)) vs

-- a member is refused
pub none_of_member : (a : Variant) (e : Schema) (size : Size) (mark : Bool) (vs : List Value) (v : Value) → ((p : ℕ) → canon a e v p ≡ None) → HasElement v vs → (p : ℕ)
    → canon a (Schema.set_of e size mark) (bag_of vs) p ≡ None
none_of_member a e size mark vs v r h p =
    bag_without a e size mark vs p (none_counted a size mark list_items (ascending (map (canon a e) (sort vs)))
    (refused_sorted (λ f g. before (octet_key (f 0)) (octet_key (g 0))) (map (canon a e) (sort vs)) (refused_of (canon a e) v r (sort vs) (in_sort v vs h))) p)

-- the count is outside a size that isn't extensible
pub none_of_count : (a : Variant) (e : Schema) (size : Size) (mark : Bool) (vs : List Value) → mark ≡ false → allows size (length vs) ≡ false → (p : ℕ)
    → canon a (Schema.set_of e size mark) (bag_of vs) p ≡ None
none_of_count a e size mark vs m h p =
    let n : length (ascending (map (canon a e) (sort vs))) ≡ length vs =
    length_sorted (λ f g. before (octet_key (f 0)) (octet_key (g 0))) (map (canon a e) (sort vs)) ∙ length-forms (canon a e) (sort vs) ∙ length-sort vs in
    bag_without a e size mark vs p (none_outside a size mark list_items (ascending (map (canon a e) (sort vs))) m (ap (allows size) n ∙ h) p)

-- a fault that is in a member
pub stands_in_member : (kind : EncodeErrorKind) (x y : WriterState) (e : Schema) (size : Size) (mark : Bool) (v : Value) (vs : List Value) → y.failed ≡ false → HasElement v vs → Stands kind y e v
    → Stands kind x (Schema.set_of e size mark) (bag_of vs)
stands_in_member (ValueConstraintNotSatisfied told) x y e size mark v vs f h k = in_member h k
stands_in_member IntegerTypeConversionFailed x y e size mark v vs f h k = in_member h k
stands_in_member AlreadyFailed x y e size mark v vs f h k = absurd cc
stands_in_member (SizeConstraintNotSatisfied told) x y e size mark v vs f h k = in_member h k
stands_in_member AlphabetConstraintNotSatisfied x y e size mark v vs f h k = in_member h k
stands_in_member VariantNotInChoice x y e size mark v vs f h k = absurd k
stands_in_member RealNotSupported x y e size mark v vs f h k = in_member h k
stands_in_member TooManyAdditions x y e size mark v vs f h k = absurd k
stands_in_member Below x y e size mark v vs f h k = in_member h k
stands_in_member OutOfMemory x y e size mark v vs f h k = absurd k
stands_in_member OutOfTurn x y e size mark v vs f h k = in_member h k
stands_in_member WrongKind x y e size mark v vs f h k = in_member h k

-- a fault that is in a list is in the bag of its elements
bag_stands : (fault : Schema → Value → Type 0) (e : Schema) (size : Size) (mark : Bool) (ws vs : List Value) → ((v : Value) → HasElement v ws → HasElement v vs)
    → (fault (Schema.list e size mark) (list_value ws) → fault (Schema.set_of e size mark) (bag_of vs)) → (s : Schema) (v : Value) → s ≡ Schema.list e size mark → v ≡ list_value ws
    → StandsIn fault s v → StandsIn fault (Schema.set_of e size mark) (bag_of vs)
bag_stands fault e size mark ws vs moves once s v i j (at_once h) = at_once (once (subst (λ t. fault t (list_value ws)) i (subst (fault s) j h)))
bag_stands fault e size mark ws vs moves once s v i j (in_element {e = c} {v = u} {vs = us} h k) =
    let same_element : c ≡ e = cc in
    let same_values : as_values us ≡ as_values ws = cc in
    let same_list : us ≡ ws = sym (values-as_values us) ∙ ap values same_values ∙ values-as_values ws in
    in_member (moves u (subst (HasElement u) same_list h)) (subst (λ t. StandsIn fault t u) same_element k)
bag_stands fault e size mark ws vs moves once s v i j (in_part xs h k) = absurd cc
bag_stands fault e size mark ws vs moves once s v i j (in_addition rs h k) = absurd cc
bag_stands fault e size mark ws vs moves once s v i j (in_set rs xs k) = absurd cc
bag_stands fault e size mark ws vs moves once s v i j (in_member h k) = absurd cc
bag_stands fault e size mark ws vs moves once s v i j (in_contents k) = absurd cc
bag_stands fault e size mark ws vs moves once s v i j (in_alternative h k) = absurd cc

count_stands : (n : ℕ) (l u : Option ℕ) (e : Schema) (size : Size) (mark : Bool) (ws vs : List Value) → length ws ≡ length vs
    → IsOutOfSize n l u (Schema.list e size mark) (list_value ws) → IsOutOfSize n l u (Schema.set_of e size mark) (bag_of vs)
unfolding bag_of sort
count_stands n l u e size true ws vs s h = absurd h
count_stands n l u e size false ws vs s h =
    let same_count : length (values (as_values ws)) ≡ length (values (as_values (sort vs))) =
    ap length (values-as_values ws) ∙ s ∙ sym (length-sort vs) ∙ sym (ap length (values-as_values (sort vs))) in
    subst (λ (k : ℕ). OutsideSize size k n l u) same_count h

stands_as_bag : (kind : EncodeErrorKind) (x : WriterState) (e : Schema) (size : Size) (mark : Bool) (ws vs : List Value) → length ws ≡ length vs → ((v : Value) → HasElement v ws → HasElement v vs)
    → Stands kind x (Schema.list e size mark) (list_value ws) → Stands kind x (Schema.set_of e size mark) (bag_of vs)
stands_as_bag (SizeConstraintNotSatisfied told) x e size mark ws vs s moves h = bag_stands (IsOutOfSize told.size told.lower told.upper) e size mark ws vs moves (count_stands told.size told.lower told.upper e size mark ws vs s) _ _ refl refl h
stands_as_bag (ValueConstraintNotSatisfied told) x e size mark ws vs s moves h = bag_stands (IsOutOfBounds (value_of told) (lower_of told) (upper_of told)) e size mark ws vs moves (λ q. absurd q) _ _ refl refl h
stands_as_bag AlphabetConstraintNotSatisfied x e size mark ws vs s moves h = bag_stands IsForeign e size mark ws vs moves (λ q. absurd q) _ _ refl refl h
stands_as_bag IntegerTypeConversionFailed x e size mark ws vs s moves h = bag_stands IsPastBounds e size mark ws vs moves (λ q. absurd q) _ _ refl refl h
stands_as_bag VariantNotInChoice x e size mark ws vs s moves h = absurd h
stands_as_bag RealNotSupported x e size mark ws vs s moves h = bag_stands IsReal e size mark ws vs moves (λ q. absurd q) _ _ refl refl h
stands_as_bag TooManyAdditions x e size mark ws vs s moves h = absurd h
stands_as_bag Below x e size mark ws vs s moves h = bag_stands IsUnlawful e size mark ws vs moves (λ q. absurd q) _ _ refl refl h
stands_as_bag AlreadyFailed x e size mark ws vs s moves h = h
stands_as_bag OutOfMemory x e size mark ws vs s moves h = absurd h
stands_as_bag OutOfTurn x e size mark ws vs s moves h = bag_stands IsAbsent e size mark ws vs moves (λ q. absurd (cc)) _ _ refl refl h
stands_as_bag WrongKind x e size mark ws vs s moves h = bag_stands IsOther e size mark ws vs moves (λ q. absurd (cc)) _ _ refl refl h

-- what refuses a list refuses the bag of its elements, where that has no encoding either
pub refused_as_bag : (d : EncodeError) (x : WriterState) (e : Schema) (size : Size) (mark : Bool) (ws vs : List Value) → length ws ≡ length vs → ((v : Value) → HasElement v ws → HasElement v vs)
    → (x.failed ≡ false → (p : ℕ) → canon (variant_of x.codec) (Schema.set_of e size mark) (bag_of vs) p ≡ None)
    → RefusesValue d x (Schema.list e size mark) (list_value ws) → RefusesValue d x (Schema.set_of e size mark) (bag_of vs)
refused_as_bag d x e size mark ws vs s moves n h = record {
  none = n;
  stands = stands_as_bag d.kind x e size mark ws vs s moves h.stands;
  codec_is = h.codec_is;
}
