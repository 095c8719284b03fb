-- Lists that are written element by element.
use Rattle.std.specs.Prelude.{Result, Ok, Err}
use Rattle.std.specs.Option.{unwrap_or}
use Rattle.std.proofs.Common.{◌≡◌, ◌⊎◌, refl, sym, ap, ap₂, ◌∙◌, subst, ℕ, zero, suc, ◌-◌, ◌%◌, ◌<◌, ◌≤◌, Bool, true, false, ◌&&◌, ltb, List, [], ◌∷◌, ◌++◌, map, length, take, drop, length-take, length-drop, replicate, append_assoc, ◌^◌, arith, Option, Some, None, inl, inr}
use Rattle.std.proofs.lemmas.List.{length-replicate}
use Rattle.rasn_types.specs.Bits.{Bits}
use Rattle.rasn_types.specs.Variants.{variant_of, Variant, aligned, unaligned}
use Rattle.rasn_types.specs.Values.{Value}
use Rattle.rasn_types.specs.declared.types.Codec.{Codec}
use Rattle.rasn_types.proofs.Values.{values-as_values}
use Rattle.rasn_constraints.specs.Bounds.{allows, Size, any_size}
use Rattle.rasn_schema.specs.Structures.{list_value}
use Rattle.rasn_schema.specs.Schemas.{Schema}
use Rattle.rasn_traits.specs.Calls.{Written}
use Rattle.rasn_traits.specs.Lists.{AwaitsElement, ListForm, ListOpened, schema_of}
use Rattle.per_core.specs.Canon.{canon}
use Rattle.per_core.specs.Counts.{counted, counted_in, determinant, fragment_sizes, in_fragments, list_items, marked_form}
use Rattle.per_core.specs.Writers.{Writer, after, join, just, ◌▹◌, one_by_one, pad, padding, refused}
use Rattle.per_core.specs.declared.encode_error.EncodeError.{EncodeError}
use Rattle.per_core.specs.declared.encode_error.EncodeErrorKind.{EncodeErrorKind}
use Rattle.per_core.specs.declared.encode_error.EncodeErrorKind.TheVariants.{SizeConstraintNotSatisfied}
use Rattle.per_core.specs.declared.encode_error.EncodeErrorKind.TheVariants.{ValueConstraintNotSatisfied}
use Rattle.per_core.specs.declared.encode_error.EncodeErrorKind.TheVariants.{AlphabetConstraintNotSatisfied}
use Rattle.per_core.specs.declared.encode_error.EncodeErrorKind.TheVariants.{IntegerTypeConversionFailed}
use Rattle.per_core.specs.declared.encode_error.EncodeErrorKind.TheVariants.{VariantNotInChoice, RealNotSupported}
use Rattle.per_core.specs.declared.encode_error.EncodeErrorKind.TheVariants.{TooManyAdditions, Below, AlreadyFailed}
use Rattle.per_core.specs.declared.encode_error.EncodeErrorKind.TheVariants.{OutOfMemory, OutOfTurn, WrongKind}
use Rattle.per_write.specs.declared.lists.UnwrittenElements.{UnwrittenElements}
use Rattle.per_core.specs.WritingFaults.{at_once, element_after, element_here, HasElement, in_element, OutsideSize}
use Rattle.per_write.specs.Faults.{IsError, IsMemory, RefusesValue, Stands}
use Rattle.per_pieces.specs.Fragments.{constrained_length, one_fragment, unconstrained_length}
use Rattle.per_write.specs.Items.{HasRefused, refused_after, refused_here}
use Rattle.per_write.specs.Lists.{count_left, IsOpenList, Begins, BeginsItems, Enters, EntersItems, count_after, count_memory, count_outside, fragment_and, RefusesCount, still}
use Rattle.per_write.specs.Unwritten.{Remains}
use Rattle.per_write.specs.Rules.{encoder_rules}
use Rattle.per_pieces.proofs.Placed.{remains_behind as pieces_after, remains_none, remains_same as pieces_same, remains_then as pieces_then}
use Rattle.per_write.specs.WriterState.{Puts, Frame, WriterState, StateAppends, within}
use Rattle.per_pieces.proofs.Fragments.{first_fragment, fragments_of_few, fragments_of_many, in_their_fragments}
use Rattle.per_core.proofs.ConstrainedLengths.{IsConstrained, IsFree}
use Rattle.per_write.proofs.Counting.{counted_constrained, counted_free}
use Rattle.per_write.proofs.Refusing.{none_counted, none_outside}
use Rattle.per_pieces.proofs.Writing.{then_assoc, then_nothing, then_same}
use Rattle.per_write.proofs.Writing.{remains_after, remains_all, remains_last}

join_nothing : (o : Option Bits) → join [] o ≡ o
join_nothing None = refl
join_nothing (Some b) = refl

-- fragments are the same from positions that are equal modulo 8
pad_modulo : (a : Variant) (p q : ℕ) → p % 8 ≡ q % 8 → pad a p ≡ pad a q
pad_modulo aligned p q e = ap (λ n. (8 - n) % 8) e
pad_modulo unaligned p q e = refl

padding_modulo : (a : Variant) (g : Writer) (p q : ℕ) → p % 8 ≡ q % 8 → (padding a ▹ g) p ≡ (padding a ▹ g) q
padding_modulo a g p q e = go (pad a p) (pad a q) (pad_modulo a p q e)
  where
    go : (n m : ℕ) → n ≡ m → join (replicate n false) (g (after p (replicate n false))) ≡ join (replicate m false) (g (after q (replicate m false)))
    go n m d = ap (λ r. join (replicate n false) (g r)) (omega (arith, e)) ∙ ap (λ (k : ℕ). join (replicate k false) (g (after q (replicate k false)))) d

fragments_modulo : (a : Variant) (ns : List ℕ) (ws : List Writer) (p q : ℕ) → p % 8 ≡ q % 8 → in_fragments a ns ws p ≡ in_fragments a ns ws q
fragments_modulo a [] ws p q e = refl
fragments_modulo a (n ∷ ns) ws p q e = padding_modulo a (just (determinant n) ▹ one_by_one (take n ws) ▹ in_fragments a ns (drop n ws)) p q e

-- the items of a fragment one after another, and then those after it
spread : (a : Variant) (m n : ℕ) (ws : List Writer) → n ≤ length ws → (p : ℕ) →
    (one_by_one (take n ws) ▹ in_fragments a (fragment_sizes m) (drop n ws)) p ≡ fragment_and a m n ws p
spread a m zero ws h p =
    let e : after p [] % 8 ≡ p % 8 = omega arith in
    join_nothing (in_fragments a (fragment_sizes m) ws (after p [])) ∙ fragments_modulo a (fragment_sizes m) ws (after p []) p e
spread a m (suc n) [] h p = absurd (omega arith)
spread a m (suc n) (w ∷ ws) h p =
    sym (then_assoc w (one_by_one (take n ws)) (in_fragments a (fragment_sizes m) (drop n ws)) p)
    ∙ then_same w w (one_by_one (take n ws) ▹ in_fragments a (fragment_sizes m) (drop n ws)) (fragment_and a m n ws) (λ q. refl) (spread a m n ws (omega arith)) p

-- X.691 11.9.3.6, 11.9.3.7: a last fragment begins with its length
pub begins_few : (x y : WriterState) (count : ℕ) (around : Bool) → count < 16384 → StateAppends x (unconstrained_length (variant_of x.codec) count) y →
    Begins (λ a ws. in_fragments a (fragment_sizes count) ws) count x (record { fragment = count; behind = None; around = around }) y
begins_few x y count around h w = record {
  counted = omega arith;
  some = λ z. z;
  remains = λ ws e. few ws e;
}
  where
    few : (ws : List Writer) → length ws ≡ count → Remains x (in_fragments (variant_of x.codec) (fragment_sizes count) ws) y (one_by_one ws)
    few ws e =
        let a = variant_of x.codec in
        subst (λ (n : ℕ). Remains x (in_fragments a (fragment_sizes n) ws) y (one_by_one ws)) e
        (remains_after x x y _ _ (unconstrained_length a (length ws)) (one_by_one ws) (remains_all x (in_fragments a (fragment_sizes (length ws)) ws) w.begun)
        (fragments_of_few a ws (omega (arith, e, h))) (subst (λ (n : ℕ). StateAppends x (unconstrained_length a n) y) (sym e) w))

-- X.691 11.9.3.8: a fragment that isn't the last begins with its length
pub begins_many : (x y : WriterState) (count n : ℕ) (around : Bool) → 16384 ≤ count → n ≡ first_fragment count → StateAppends x (unconstrained_length (variant_of x.codec) n) y →
    Begins (λ a ws. in_fragments a (fragment_sizes count) ws) count x (record { fragment = n; behind = Some (count - n); around = around }) y
begins_many x y count n around h f w = record {
  counted = omega arith;
  some = λ z. omega (arith, f, h);
  remains = λ ws e. many ws e;
}
  where
    many : (ws : List Writer) → length ws ≡ count → Remains x (in_fragments (variant_of x.codec) (fragment_sizes count) ws) y (fragment_and (variant_of x.codec) (count - n) n ws)
    many ws e =
        let a = variant_of x.codec in
        let d : length (drop n ws) ≡ count - n = length-drop n ws ∙ ap (λ (k : ℕ). k - n) e in
        let within : n ≤ length ws = omega (arith, e, f, h) in
        let t : length (take n ws) ≡ n = length-take n ws ∙ omega (arith, within) in
        let rest = in_fragments a (fragment_sizes (count - n)) (drop n ws) in
        remains_after x x y _ _ (unconstrained_length a n) (fragment_and a (count - n) n ws) (remains_all x (in_fragments a (fragment_sizes count) ws) w.begun)
        (λ p. ap (λ (k : ℕ). in_fragments a (fragment_sizes k) ws p) (sym e)
        ∙ fragments_of_many a ws n (omega (arith, e, h)) (f ∙ ap first_fragment (sym e)) p
        ∙ ap (λ (k : ℕ). (one_fragment a (take n ws) ▹ in_fragments a (fragment_sizes k) (drop n ws)) p) d
        ∙ ap (λ (k : ℕ). ((unconstrained_length a k ▹ one_by_one (take n ws)) ▹ rest) p) t
        ∙ sym (then_assoc (unconstrained_length a n) (one_by_one (take n ws)) rest p)
        ∙ then_same (unconstrained_length a n) (unconstrained_length a n) (one_by_one (take n ws) ▹ rest) (fragment_and a (count - n) n ws) (λ q. refl) (spread a (count - n) n ws within) p) w

-- one thing was written, and of what was to be written after it so much remains
remains_behind : (x m y : WriterState) (f g rest : Writer) → StateAppends x f m → Remains m g y rest → Remains x (f ▹ g) y rest
remains_behind x m y f g rest h k = record {
  begun = h.begun;
  left = k.left;
  same = k.same ∙ h.same;
  beside = k.beside ∙ h.beside;
  pieces = pieces_after x.pieces m.pieces y.pieces f g rest h.appended k.pieces;
}

remains_same : (x y : WriterState) (f g rest : Writer) → ((p : ℕ) → f p ≡ g p) → Remains x f y rest → Remains x g y rest
remains_same x y f g rest e h = record {
  begun = h.begun;
  left = h.left;
  same = h.same;
  beside = h.beside;
  pieces = pieces_same x.pieces y.pieces f g rest e h.pieces;
}

remains_then : (x y z : WriterState) (all rest more : Writer) → Remains x all y rest → Remains y rest z more → Remains x all z more
remains_then x y z all rest more h k = record {
  begun = h.begun;
  left = k.left;
  same = k.same ∙ h.same;
  beside = k.beside ∙ h.beside;
  pieces = pieces_then x.pieces y.pieces z.pieces all rest more h.pieces k.pieces;
}

none_aligned : (b : Bool) → false ≡ (b && false)
none_aligned true = refl
none_aligned false = refl

-- X.691 11.9.4.1: a count within bounds that constrain it is in front of all elements
pub begins_constrained : (x y : WriterState) (least most : Option ℕ) (l u count : ℕ) (around : Bool) → IsConstrained least most l u → allows (record { least = least; most = most }) count ≡ true
    → StateAppends x (constrained_length (variant_of x.codec) l u count false) y
    → Begins (λ a ws. counted_in a (record { least = least; most = most }) list_items ws) count x (record { fragment = count; behind = None; around = around }) y
begins_constrained x y least most l u count around b h w = record { counted = omega arith; some = λ z. z; remains = λ ws e. each ws e }
  where
    each : (ws : List Writer) → length ws ≡ count → Remains x (counted_in (variant_of x.codec) (record { least = least; most = most }) list_items ws) y (one_by_one ws)
    each ws e =
        let a = variant_of x.codec in
        remains_after x x y _ _ (constrained_length a l u count false) (one_by_one ws) (remains_all x (counted_in a (record { least = least; most = most }) list_items ws) w.begun)
        (λ p. sym (counted_constrained a least most l u count false list_items ws b (sym e) (ap (allows (record { least = least; most = most })) e ∙ h) (none_aligned (ltb 0 count)) p)) w

-- X.691 11.9.3.5 to 11.9.3.8: within others, the first fragment begins
pub begins_free : (x y : WriterState) (least most : Option ℕ) (count : ℕ) (l : UnwrittenElements) → IsFree least most → allows (record { least = least; most = most }) count ≡ true
    → Begins (λ a ws. in_fragments a (fragment_sizes count) ws) count x l y → Begins (λ a ws. counted_in a (record { least = least; most = most }) list_items ws) count x l y
begins_free x y least most count l f h w = record { counted = w.counted; some = w.some; remains = λ ws e. each ws e }
  where
    each : (ws : List Writer) → length ws ≡ count → Remains x (counted_in (variant_of x.codec) (record { least = least; most = most }) list_items ws) y (still (variant_of x.codec) l.behind l.fragment ws)
    each ws e =
        let a = variant_of x.codec in
        remains_same x y (in_fragments a (fragment_sizes count) ws) (counted_in a (record { least = least; most = most }) list_items ws) (still a l.behind l.fragment ws)
        (λ p. ap (λ (n : ℕ). in_fragments a (fragment_sizes n) ws p) (sym e) ∙ counted_free a least most list_items ws f (ap (allows (record { least = least; most = most })) e ∙ h) p) (w.remains ws e)

-- without an extension marker no bit is in front
pub begins_bare : (size under : Size) (mark : Bool) (x y : WriterState) (count : ℕ) (l : UnwrittenElements) → mark ≡ false → size ≡ under →
    Begins (λ a ws. counted_in a under list_items ws) count x l y → Begins (λ a ws. counted a size mark list_items ws) count x l y
begins_bare size under mark x y count l e d w =
    subst (λ (s : Size). Begins (λ a ws. counted a s mark list_items ws) count x l y) (sym d) (subst (λ (b : Bool). Begins (λ a ws. counted a under b list_items ws) count x l y) (sym e) w)

-- X.691 20.4: a size's extension bit, and what is in front of the elements
pub begins_inside : (size under : Size) (mark : Bool) (x m y : WriterState) (count : ℕ) (l : UnwrittenElements) → mark ≡ true → size ≡ under → allows under count ≡ true → StateAppends x (just (false ∷ [])) m →
    Begins (λ a ws. counted_in a under list_items ws) count m l y → Begins (λ a ws. counted a size mark list_items ws) count x l y
begins_inside size under mark x m y count l e d h v w = record { counted = w.counted; some = w.some; remains = λ ws k. each ws k }
  where
    each : (ws : List Writer) → length ws ≡ count → Remains x (counted (variant_of x.codec) size mark list_items ws) y (still (variant_of x.codec) l.behind l.fragment ws)
    each ws k =
        let a = variant_of x.codec in
        let r = subst (λ (c : Codec). Remains m (counted_in (variant_of c) under list_items ws) y (still (variant_of c) l.behind l.fragment ws)) v.same (w.remains ws k) in
        subst (λ (s : Size). Remains x (counted a s mark list_items ws) y (still a l.behind l.fragment ws)) (sym d)
        (subst (λ (b : Bool). Remains x (counted a under b list_items ws) y (still a l.behind l.fragment ws)) (sym e)
        (remains_same x y (just (false ∷ []) ▹ counted_in a under list_items ws) (counted a under true list_items ws) (still a l.behind l.fragment ws)
        (λ p. ap (λ (b : Bool). marked_form true b (counted_in a under list_items ws) (counted_in a any_size list_items ws) p) (sym (ap (allows under) k ∙ h)))
        (remains_behind x m y (just (false ∷ [])) (counted_in a under list_items ws) (still a l.behind l.fragment ws) v r)))

pub begins_outside : (size under : Size) (mark : Bool) (x m y : WriterState) (count : ℕ) (l : UnwrittenElements) → count < 2 ^ 64 → mark ≡ true → size ≡ under → allows under count ≡ false → StateAppends x (just (true ∷ [])) m →
    Begins (λ a ws. in_fragments a (fragment_sizes count) ws) count m l y → Begins (λ a ws. counted a size mark list_items ws) count x l y
begins_outside size under mark x m y count l small e d h v w = record { counted = w.counted; some = w.some; remains = λ ws k. each ws k }
  where
    each : (ws : List Writer) → length ws ≡ count → Remains x (counted (variant_of x.codec) size mark list_items ws) y (still (variant_of x.codec) l.behind l.fragment ws)
    each ws k =
        let a = variant_of x.codec in
        let r = subst (λ (c : Codec). Remains m (in_fragments (variant_of c) (fragment_sizes count) ws) y (still (variant_of c) l.behind l.fragment ws)) v.same (w.remains ws k) in
        subst (λ (s : Size). Remains x (counted a s mark list_items ws) y (still a l.behind l.fragment ws)) (sym d)
        (subst (λ (b : Bool). Remains x (counted a under b list_items ws) y (still a l.behind l.fragment ws)) (sym e)
        (remains_same x y (just (true ∷ []) ▹ counted_in a any_size list_items ws) (counted a under true list_items ws) (still a l.behind l.fragment ws)
        (λ p. ap (λ (b : Bool). marked_form true b (counted_in a under list_items ws) (counted_in a any_size list_items ws) p) (sym (ap (allows under) k ∙ h)))
        (remains_behind x m y (just (true ∷ [])) (counted_in a any_size list_items ws) (still a l.behind l.fragment ws) v
        (remains_same m y (in_fragments a (fragment_sizes count) ws) (counted_in a any_size list_items ws) (still a l.behind l.fragment ws)
        (λ p. ap (λ (n : ℕ). in_fragments a (fragment_sizes n) ws p) (sym k) ∙ in_their_fragments a list_items ws (omega (arith, k, small)) p) r))))

-- a count that is refused
pub refuses_count_of : (size : Size) (mark : Bool) (e : EncodeError) (x : WriterState) (lower upper : Option ℕ) (count : ℕ) → mark ≡ false → size ≡ record { least = lower; most = upper } →
    allows (record { least = lower; most = upper }) count ≡ false → IsError (SizeConstraintNotSatisfied (record { size = count; lower = lower; upper = upper })) e x → RefusesCount size mark count e x
refuses_count_of size mark e x lower upper count m s h i = count_outside m (record {
  out_of_size = ap (λ (t : Size). allows t count) s ∙ h;
  count_is = refl;
  lower_is = sym (ap (λ (t : Size). t.least) s);
  upper_is = sym (ap (λ (t : Size). t.most) s);
}) i

-- X.691 20: the bits of a list
list_form : (a : Variant) (e : Schema) (size : Size) (mark : Bool) (vs : List Value) (p : ℕ) → counted a size mark list_items (map (canon a e) vs) p ≡ canon a (Schema.list e size mark) (list_value vs) p
unfolding canon
list_form a e size mark vs p = ap (λ ws. counted a size mark list_items (map (canon a e) ws) p) (sym (values-as_values vs))

pub length-forms : (f : Value → Writer) (vs : List Value) → length (map f vs) ≡ length vs
length-forms f [] = refl
length-forms f (v ∷ vs) = ap suc (length-forms f vs)

-- whether anything is open changes nothing of what was written
remains_within : (around : Bool) (x y : WriterState) (all rest : Writer) → Remains x all y rest → Remains (within around x) all (within around y) rest
remains_within around x y all rest h = record {
  begun = h.begun;
  left = h.left;
  same = h.same;
  beside = ap (λ (s : Frame). record s { is_open = around }) h.beside;
  pieces = h.pieces;
}

wrote_within : (around : Bool) (x y : WriterState) (more : Writer) → StateAppends x more y → StateAppends (within around x) more (within around y)
wrote_within around x y more h = record {
  begun = h.begun;
  left = h.left;
  same = h.same;
  beside = ap (λ (s : Frame). record s { is_open = around }) h.beside;
  appended = h.appended;
}

-- an element is written where something is open
stays_open : {x y : WriterState} {more : Writer} → StateAppends x more y → x.scope.is_open ≡ true → y.scope.is_open ≡ true
stays_open h e = ap (λ (s : Frame). s.is_open) h.beside ∙ e

-- what is in front of items was written after all that was there, and something is open
pub entered : {form : Variant → List Writer → Writer} (count : ℕ) (x y : WriterState) (l : UnwrittenElements) → l.around ≡ x.scope.is_open → Begins form count (within true x) l y → Enters form count x l y
entered {form} count x y l e h = record {
  counted = h.counted;
  remains = λ ws k. back ws (h.remains ws k);
  is_open = ap (λ (s : Frame). s.is_open) (h.remains (replicate count refused) (length-replicate count refused)).beside;
}
  where
    back : (ws : List Writer) → Remains (within true x) (form (variant_of x.codec) ws) y (still (variant_of x.codec) l.behind l.fragment ws)
        → Remains x (form (variant_of x.codec) ws) (within l.around y) (still (variant_of x.codec) l.behind l.fragment ws)
    back ws r = record {
      begun = r.begun;
      left = r.left;
      same = r.same;
      beside = ap (λ (s : Frame). record s { is_open = l.around }) r.beside ∙ ap (λ (b : Bool). record x.scope { is_open = b }) e;
      pieces = r.pieces;
    }

refuses_around : {size : Size} {mark : Bool} {count : ℕ} {e : EncodeError} {x : WriterState} → RefusesCount size mark count e (within true x) → RefusesCount size mark count e x
refuses_around (count_memory m) = count_memory (record { kind_is = m.kind_is; codec_is = m.codec_is })
refuses_around (count_outside m o i) = count_outside m o (record { kind_is = i.kind_is; codec_is = i.codec_is })

-- what a call that opens a list of so many items owes
pub list_entered : {form : Variant → List Writer → Writer} (size : Size) (mark : Bool) (count : ℕ) (around : Bool) (x y : WriterState) (result : Result UnwrittenElements EncodeError) → around ≡ x.scope.is_open
    → BeginsItems (RefusesCount size mark count) form count around (within true x) result y → EntersItems (RefusesCount size mark count) form count x result y
list_entered size mark count around x y (Ok l) e h = record { ok = entered count x y l (h.stated ∙ e) h.ok; err = tt; fails = tt; kept = h.kept }
list_entered size mark count around x y (Err d) e h = record { ok = tt; err = refuses_around h.err; fails = h.fails; kept = h.kept }

-- a list is opened
pub list_begun : (size : Size) (mark : Bool) (count : ℕ) (x y : WriterState) (l : UnwrittenElements) → Enters (λ a ws. counted a size mark list_items ws) count x l y → (e : Schema) (vs : List Value) → length vs ≡ count →
    IsOpenList (record { element = e; size = size; mark = mark; all = vs }) x vs l y
list_begun size mark count x y l h e vs k =
    let a = variant_of x.codec in record {
      front = [];
      all_is = refl;
      counted = h.counted ∙ sym k;
      remains = remains_same x (within l.around y) (counted a size mark list_items (map (canon a e) vs)) (canon a (Schema.list e size mark) (list_value vs)) (still a l.behind l.fragment (map (canon a e) vs)) (list_form a e size mark vs)
          (h.remains (map (canon a e) vs) (length-forms (canon a e) vs ∙ k));
      is_open = h.is_open;
    }

-- a count is refused
list_of_count : (x : WriterState) (e : Schema) (size : Size) (mark : Bool) (vs : List Value) (lower upper : Option ℕ) → mark ≡ false → OutsideSize size (length vs) (length vs) lower upper →
    Stands (SizeConstraintNotSatisfied (record { size = length vs; lower = lower; upper = upper })) x (Schema.list e size mark) (list_value vs)
list_of_count x e size true vs lower upper m o = absurd cc
list_of_count x e size false vs lower upper m o = at_once (subst (λ (ws : List Value). OutsideSize size (length ws) (length vs) lower upper) (sym (values-as_values vs)) o)

count_refused : (size : Size) (mark : Bool) (x : WriterState) (d : EncodeError) (e : Schema) (vs : List Value) (count : ℕ) (lower upper : Option ℕ) → length vs ≡ count → mark ≡ false → OutsideSize size count count lower upper →
    IsError (SizeConstraintNotSatisfied (record { size = count; lower = lower; upper = upper })) d x → RefusesValue d x (Schema.list e size mark) (list_value vs)
count_refused size mark x d e vs count lower upper k m o h =
    let a = variant_of x.codec in
    let n : length (map (canon a e) vs) ≡ count = length-forms (canon a e) vs ∙ k in record {
      none = λ f p. sym (list_form a e size mark vs p) ∙ none_outside a size mark list_items (map (canon a e) vs) m (ap (allows size) n ∙ o.out_of_size) p;
      stands = subst (λ q. Stands q x (Schema.list e size mark) (list_value vs)) (sym h.kind_is)
          (subst (λ (i : ℕ). Stands (SizeConstraintNotSatisfied (record { size = i; lower = lower; upper = upper })) x (Schema.list e size mark) (list_value vs)) k
          (list_of_count x e size mark vs lower upper m (subst (λ (i : ℕ). OutsideSize size i i lower upper) (sym k) o)));
      codec_is = h.codec_is;
    }

-- an element that is refused
pub refused_in : (f : Value → Writer) (front : List Value) (v : Value) (vs : List Value) → ((p : ℕ) → f v p ≡ None) → HasRefused (map f (front ++ v ∷ vs))
refused_in f [] v vs h = refused_here h
refused_in f (w ∷ front) v vs h = refused_after (refused_in f front v vs h)

pub element_in : (front : List Value) (v : Value) (vs : List Value) → HasElement v (front ++ v ∷ vs)
element_in [] v vs = element_here
element_in (w ∷ front) v vs = element_after (element_in front v vs)

stands_in_element : (kind : EncodeErrorKind) (x y : WriterState) (e : Schema) (size : Size) (mark : Bool) (v : Value) (vs : List Value) → y.failed ≡ false → HasElement v vs → Stands kind y e v →
    Stands kind x (Schema.list e size mark) (list_value vs)
stands_in_element (ValueConstraintNotSatisfied told) x y e size mark v vs f h k = in_element h k
stands_in_element IntegerTypeConversionFailed x y e size mark v vs f h k = in_element h k
stands_in_element AlreadyFailed x y e size mark v vs f h k = absurd cc
stands_in_element (SizeConstraintNotSatisfied told) x y e size mark v vs f h k = in_element h k
stands_in_element AlphabetConstraintNotSatisfied x y e size mark v vs f h k = in_element h k
stands_in_element VariantNotInChoice x y e size mark v vs f h k = absurd k
stands_in_element RealNotSupported x y e size mark v vs f h k = in_element h k
stands_in_element TooManyAdditions x y e size mark v vs f h k = absurd k
stands_in_element Below x y e size mark v vs f h k = in_element h k
stands_in_element OutOfMemory x y e size mark v vs f h k = absurd k
stands_in_element OutOfTurn x y e size mark v vs f h k = in_element h k
stands_in_element WrongKind x y e size mark v vs f h k = in_element h k

refuses_element : (d : EncodeError) (x y : WriterState) (e : Schema) (size : Size) (mark : Bool) (front : List Value) (v : Value) (vs : List Value) → y.failed ≡ false → y.codec ≡ x.codec → RefusesValue d y e v →
    RefusesValue d x (Schema.list e size mark) (list_value (front ++ v ∷ vs))
refuses_element d x y e size mark front v vs f s h = let a = variant_of x.codec in record {
  none = λ b p. sym (list_form a e size mark (front ++ v ∷ vs) p)
      ∙ none_counted a size mark list_items (map (canon a e) (front ++ v ∷ vs)) (refused_in (canon a e) front v vs (λ q. subst (λ (c : Codec). canon (variant_of c) e v q ≡ None) s (h.none f q))) p;
  stands = stands_in_element d.kind x y e size mark v (front ++ v ∷ vs) f (element_in front v vs) h.stands;
  codec_is = h.codec_is ∙ s;
}

-- the next of a fragment's items
still_next : (a : Variant) (b : Option ℕ) (n : ℕ) (w : Writer) (ws : List Writer) (p : ℕ) → still a b (suc n) (w ∷ ws) p ≡ (w ▹ still a b n ws) p
still_next a None n w ws p = refl
still_next a (Some m) n w ws p = refl

-- the next element, where its fragment has begun
pub element_next : (f : ListForm) (x y : WriterState) (v : Value) (vs : List Value) (l : UnwrittenElements) (n : ℕ) → l.fragment ≡ suc n → IsOpenList f x (v ∷ vs) l y →
    AwaitsElement encoder_rules IsOpenList f x v vs (record { fragment = n; behind = l.behind; around = l.around }) y
element_next f x y v vs l n e h = record {
  presented = λ z w. next z w;
  refused = λ d r. subst (λ ws. RefusesValue d x (schema_of f) (list_value ws)) (sym h.all_is) (refuses_element d x y f.element f.size f.mark h.front v vs h.remains.left h.remains.same r);
  room = λ d m. record { kind_is = m.kind_is; codec_is = m.codec_is ∙ h.remains.same };
}
  where
    a : Variant
    a = variant_of x.codec

    next : (z : WriterState) → StateAppends y (canon (variant_of y.codec) f.element v) z → IsOpenList f x vs (record { fragment = n; behind = l.behind; around = l.around }) z
    next z w = record {
      front = h.front ++ v ∷ [];
      all_is = h.all_is ∙ sym (append_assoc h.front (v ∷ []) vs);
      counted = omega (arith, h.counted, e);
      remains = remains_after x (within l.around y) (within l.around z) (canon a (schema_of f) (list_value f.all)) (still a l.behind (suc n) (map (canon a f.element) (v ∷ vs))) (canon a f.element v) (still a l.behind n (map (canon a f.element) vs))
          (subst (λ (k : ℕ). Remains x (canon a (schema_of f) (list_value f.all)) (within l.around y) (still a l.behind k (map (canon a f.element) (v ∷ vs)))) e h.remains)
          (still_next a l.behind n (canon a f.element v) (map (canon a f.element) vs))
          (wrote_within l.around y z (canon a f.element v) (subst (λ (c : Codec). StateAppends y (canon (variant_of c) f.element v) z) h.remains.same w));
      is_open = stays_open w h.is_open;
    }

-- a fragment begins in an open list
pub fragment_begun : (f : ListForm) (x y z : WriterState) (vs : List Value) (l m : UnwrittenElements) → m.around ≡ l.around → l.fragment ≡ 0 → 0 < length vs → IsOpenList f x vs l y →
    Begins (λ a ws. in_fragments a (fragment_sizes (count_after l.behind)) ws) (count_after l.behind) y m z → IsOpenList f x vs m z
fragment_begun f x y z vs l m i e s h k = record {
  front = h.front;
  all_is = h.all_is;
  counted = k.counted ∙ after_all;
  remains = subst (λ (b : Bool). Remains x (canon a (schema_of f) (list_value f.all)) (within b z) (still a m.behind m.fragment (map (canon a f.element) vs))) (sym i)
      (remains_then x (within l.around y) (within l.around z) (canon a (schema_of f) (list_value f.all)) (still a l.behind l.fragment (map (canon a f.element) vs)) (still a m.behind m.fragment (map (canon a f.element) vs)) h.remains
      (remains_within l.around y z (still a l.behind l.fragment (map (canon a f.element) vs)) (still a m.behind m.fragment (map (canon a f.element) vs))
      (remains_same y z (in_fragments a (fragment_sizes (count_after l.behind)) (map (canon a f.element) vs)) (still a l.behind l.fragment (map (canon a f.element) vs)) (still a m.behind m.fragment (map (canon a f.element) vs))
      (same l.behind refl)
      (subst (λ (c : Codec). Remains y (in_fragments (variant_of c) (fragment_sizes (count_after l.behind)) (map (canon a f.element) vs)) z (still (variant_of c) m.behind m.fragment (map (canon a f.element) vs))) h.remains.same
      written))));
  is_open = ap (λ (s : Frame). s.is_open) written.beside ∙ h.is_open;
}
  where
    a : Variant
    a = variant_of x.codec

    after_all : count_after l.behind ≡ length vs
    after_all = omega (arith, h.counted, e)

    written : Remains y (in_fragments (variant_of y.codec) (fragment_sizes (count_after l.behind)) (map (canon a f.element) vs)) z (still (variant_of y.codec) m.behind m.fragment (map (canon a f.element) vs))
    written = k.remains (map (canon a f.element) vs) (length-forms (canon a f.element) vs ∙ sym after_all)

    same : (b : Option ℕ) → l.behind ≡ b → (p : ℕ) → in_fragments a (fragment_sizes (count_after l.behind)) (map (canon a f.element) vs) p ≡ still a l.behind l.fragment (map (canon a f.element) vs) p
    same None d p = let z : count_after l.behind ≡ 0 = ap count_after d in absurd (omega (arith, z, after_all, s))
    same (Some n) d p = ap (λ (b : Option ℕ). in_fragments a (fragment_sizes (count_after b)) (map (canon a f.element) vs) p) d
        ∙ sym (ap₂ (λ (b : Option ℕ) (k : ℕ). still a b k (map (canon a f.element) vs) p) d e)

-- X.691 11.9.3.8: after fragments of 16384 items or more a last length is zero
pub list_ended : (f : ListForm) (x y z : WriterState) (l : UnwrittenElements) (m : ℕ) (result : Result (Unit {0}) EncodeError) → l.behind ≡ Some m → IsOpenList f x [] l y →
    Puts IsMemory (unconstrained_length (variant_of y.codec) m) (within l.around y) result z → Written encoder_rules (schema_of f) (list_value f.all) x result z
list_ended f x y z l m (Err d) e h w = inl (record { kind_is = w.err.kind_is; codec_is = w.err.codec_is ∙ h.remains.same })
list_ended f x y z l m (Ok u) e h w =
    let a = variant_of x.codec in
    let b : count_after l.behind ≡ m = ap count_after e in
    let no_more : m ≡ 0 = omega (arith, h.counted, b) in
    let no_item : l.fragment ≡ 0 = omega (arith, h.counted) in
    remains_last x (within l.around y) z (canon a (schema_of f) (list_value f.all)) (still a l.behind l.fragment []) (unconstrained_length a 0) h.remains
    (λ p. ap₂ (λ (o : Option ℕ) (k : ℕ). still a o k [] p) (e ∙ ap Some no_more) no_item ∙ fragments_of_few a [] (omega arith) p ∙ then_nothing (unconstrained_length a 0) p)
    (subst (λ (k : ℕ). StateAppends (within l.around y) (unconstrained_length a k) z) no_more (subst (λ (c : Codec). StateAppends (within l.around y) (unconstrained_length (variant_of c) m) z) h.remains.same w.ok))

-- a list whose last length was written
pub list_left : (f : ListForm) (x y : WriterState) (l : UnwrittenElements) → l.behind ≡ None → IsOpenList f x [] l y → StateAppends x (canon (variant_of x.codec) (schema_of f) (list_value f.all)) (within l.around y)
list_left f x y l e h =
    let a = variant_of x.codec in record {
      begun = h.remains.begun;
      left = h.remains.left;
      same = h.remains.same;
      beside = h.remains.beside;
      appended = remains_none x.pieces y.pieces (canon a (schema_of f) (list_value f.all)) (still a l.behind l.fragment []) (λ p. ap (λ (o : Option ℕ). still a o l.fragment [] p) e) h.remains.pieces;
    }

pub unwrapped_after : (b : Option ℕ) → unwrap_or b 0 ≡ count_after b
unwrapped_after None = refl
unwrapped_after (Some m) = refl

-- a fragment begins, so long as an element is left
pub fragment_begun_at : (f : ListForm) (x y z : WriterState) (v : Value) (vs : List Value) (l m : UnwrittenElements) (n : ℕ) → m.around ≡ l.around → l.fragment ≡ 0 → n ≡ unwrap_or l.behind 0 →
    Begins (λ a ws. in_fragments a (fragment_sizes n) ws) n y m z → IsOpenList f x (v ∷ vs) l y → IsOpenList f x (v ∷ vs) m z
fragment_begun_at f x y z v vs l m n i e d k h =
    fragment_begun f x y z (v ∷ vs) l m i e (omega arith) h (subst (λ (i : ℕ). Begins (λ a ws. in_fragments a (fragment_sizes i) ws) i y m z) (d ∙ unwrapped_after l.behind) k)

-- what is in front of items was written, and nothing refused
pub begins_left : {form : Variant → List Writer → Writer} (x y : WriterState) (count : ℕ) (l : UnwrittenElements) → Begins form count x l y → y.failed ≡ false
begins_left x y count l h = (h.remains (replicate count refused) (length-replicate count refused)).left

pub begins_beside : {form : Variant → List Writer → Writer} (x y : WriterState) (count : ℕ) (l : UnwrittenElements) → Begins form count x l y → y.scope ≡ x.scope
begins_beside x y count l h = (h.remains (replicate count refused) (length-replicate count refused)).beside

-- nor is one left in a fragment that begins where none is left
pub none_begun : {form : Variant → List Writer → Writer} (y z : WriterState) (l m : UnwrittenElements) (n : ℕ) → n ≡ unwrap_or l.behind 0 → Begins form n y m z → count_left l ≡ 0 → count_left m ≡ 0
none_begun y z l m n d k e = let b = d ∙ unwrapped_after l.behind in let c = k.counted in omega (arith, b, c, e)

-- what a call that opens a list owes
pub list_law : (size : Size) (mark : Bool) (count : ℕ) (x y : WriterState) (result : Result UnwrittenElements EncodeError) → EntersItems (RefusesCount size mark count) (λ a ws. counted a size mark list_items ws) count x result y →
    ListOpened encoder_rules IsOpenList size mark count x result y
list_law size mark count x y (Ok l) h = λ e vs k. list_begun size mark count x y l h.ok e vs k
list_law size mark count x y (Err d) h = outside h.err
  where
    outside : RefusesCount size mark count d x → IsMemory d x ⊎ ((e : Schema) (vs : List Value) → length vs ≡ count → RefusesValue d x (Schema.list e size mark) (list_value vs))
    outside (count_memory m) = inl m
    outside (count_outside m o i) = inr (λ e vs k. count_refused size mark x d e vs count _ _ k m o i)
