-- A record whose components aren't those of its type is refused.
use Rattle.std.proofs.Common.{◌≡◌, refl, sym, ap, ap₂, ◌∙◌, ℕ, zero, suc, ◌+◌, ◌≤◌, ◌⊎◌, inl, inr, Bool, true, false, Result, Err, List, [], ◌∷◌, Option, Some, None, arith}
use Rattle.std.specs.Prelude.{◌&&◌, cond, count_by, is_some, length, nat_lt, slice_get}
use Rattle.std.specs.Global.{Vec}
use Rattle.std.proofs.lemmas.List.Sums.{sum_by-cons}
use Rattle.rasn_types.specs.Values.{Value as Content}
use Rattle.rasn_types.proofs.Values.{slots-as_slots}
use Rattle.rasn_schema.specs.Enumerations.{addeds_of, is_extensible}
use Rattle.rasn_schema.specs.Structures.{tag_of, has_bit, presence_bits, record_value, all_may_be, is_of_kind, may_be}
use Rattle.rasn_schema.specs.Normal.{normal, normals, settle, AtDepths}
use Rattle.rasn_schema.specs.Records.{record_at}
use Rattle.rasn_schema.specs.Schemas
use Rattle.rasn_schema.specs.Schemas.{count, leaf, listed, Parts, part, Schema}
use Rattle.rasn_traits.specs.Calls.{EncoderRules, Written}
use Rattle.rasn_traits.specs.Counted.{AreCounted, IsGroupOf}
use Rattle.rasn_traits.proofs.Writing.{at_suc, normal-ordered}
use Rattle.rasn_dynamic_codec.specs.OneAddition.{normal_addition}
use Rattle.rasn_dynamic_codec.proofs.OneAddition.{addition_normal}
use Rattle.rasn_dynamic.specs.declared.types.Component.{Component}
use Rattle.rasn_dynamic.specs.declared.types.Kind.{Kind}
use Rattle.rasn_dynamic.specs.declared.types.Kind.TheVariants.{Simple as SimpleKind, Date, List as ListKind, SetOf, Record as RecordKind, Choice as ChoiceKind, Containing, Open as OpenKind}
use Rattle.rasn_dynamic.proofs.Places.{record_there}
use Rattle.rasn_dynamic.specs.declared.types.Presence.{Presence}
use Rattle.rasn_dynamic.specs.declared.types.Presence.TheVariants.{Default, Group, Optional, Required}
use Rattle.rasn_dynamic.specs.declared.types.Record.{Record}
use Rattle.rasn_dynamic.specs.Types.{added_count, behind, grouped, has_required, in_root, is_not_required, parts_at, parts_in, presence_of, required_in, record_schema, schema_at}
use Rattle.rasn_dynamic_codec.specs.Writes.{fit, may_stand}

-- components that don't fit
unfit_next : (g : Bool) (s : Schema) (p : Presence) (o : Option Content) (rest all : Bool) → (rest ≡ false → all ≡ false) → (may_stand false p o && rest) ≡ false
    → (may_be (presence_of g p) (normal_addition (presence_of g p) s o) && all) ≡ false
unfolding settle
unfit_next g s Optional None rest all ih f = ih f
unfit_next g s Optional (Some v) rest all ih f = ih f
unfit_next g s Required None rest all ih f = refl
unfit_next g s Required (Some v) rest all ih f = ih f
unfit_next true s Group o rest all ih f = ih f
unfit_next false s Group None rest all ih f = ih f
unfit_next false s Group (Some v) rest all ih f = ih f
unfit_next g s (Default d) None rest all ih f = ih f
unfit_next g s (Default d) (Some v) rest all ih f = ih f

unfit_values : (g : Component → Bool) (s : ℕ → Schema) (cs : List Component) (os : List (Option Content)) → fit false cs os ≡ false → all_may_be (parts_in g s cs) (normals (parts_in g s cs) os) ≡ false
unfolding normals
unfit_values g s [] [] e = absurd (cc)
unfit_values g s [] (o ∷ os) e = refl
unfit_values g s (c ∷ cs) [] e = refl
unfit_values g s (c ∷ cs) (o ∷ os) e =
    ap (all_may_be (parts_in g s (c ∷ cs))) (addition_normal (leaf (tag_of c.tag)) (presence_of (g c) c.presence) (s c.of) (parts_in g s cs) o os)
    ∙ unfit_next (g c) (s c.of) c.presence o (fit false cs os) (all_may_be (parts_in g s cs) (normals (parts_in g s cs) os)) (unfit_values g s cs os) e

left_false : (c d : Bool) → c ≡ false → (c && d) ≡ false
left_false c d e = ap (λ z. z && d) e

right_false : (c d : Bool) → d ≡ false → (c && d) ≡ false
right_false true d e = e
right_false false d e = refl

record_parts : (ts : List Kind) (r : Record) (os xs : List (Option Content)) (n : ℕ)
    → is_of_kind (record_schema ts r (suc n)) (normal (record_schema ts r (suc n)) (record_value os xs))
    ≡ (all_may_be (parts_at in_root ts r.root.items n) (normals (parts_at in_root ts r.root.items n) os) && all_may_be (parts_at (grouped ts) ts (behind r.additions) n) (normals (parts_at (grouped ts) ts (behind r.additions) n) xs))
record_parts ts r os xs n =
    let ps = parts_at in_root ts r.root.items n in
    let qs = parts_at (grouped ts) ts (behind r.additions) n in
    ap (is_of_kind (Schemas.sequence listed ps (is_some r.additions) qs)) (normal-ordered listed ps (is_some r.additions) qs os xs)
    ∙ ap₂ (λ a b. all_may_be ps a && all_may_be qs b) (slots-as_slots (normals ps os)) (slots-as_slots (normals qs xs))

-- root components that don't fit, and additions
pub unfit_root : (ts : List Kind) (r : Record) (os xs : List (Option Content)) → fit false r.root.items os ≡ false
    → (k n : ℕ) → suc k ≤ n → is_of_kind (record_schema ts r n) (normal (record_schema ts r n) (record_value os xs)) ≡ false
unfit_root ts r os xs e k zero le = absurd (omega (arith, le))
unfit_root ts r os xs e k (suc n) le = record_parts ts r os xs n ∙ left_false _ _ (unfit_values in_root (λ j. schema_at ts j n) r.root.items os e)

pub unfit_added : (ts : List Kind) (r : Record) (os xs : List (Option Content)) → fit false (behind r.additions) xs ≡ false
    → (k n : ℕ) → suc k ≤ n → is_of_kind (record_schema ts r n) (normal (record_schema ts r n) (record_value os xs)) ≡ false
unfit_added ts r os xs e k zero le = absurd (omega (arith, le))
unfit_added ts r os xs e k (suc n) le = record_parts ts r os xs n ∙ right_false (all_may_be (parts_at in_root ts r.root.items n) (normals (parts_at in_root ts r.root.items n) os)) _ (unfit_values (grouped ts) (λ j. schema_at ts j n) (behind r.additions) xs e)

-- a record that isn't opened
pub record_unopened : {E X : Type 0} (rules : EncoderRules E X) (parts : ℕ → Parts) (marker : Bool) (additions : ℕ → Parts) (k : ℕ) (v : Content) (x y : X) (e : E)
    → rules.memory e x ⊎ ((n : ℕ) (w : Content) → rules.refuses e x (Schemas.sequence listed (parts n) marker (additions n)) w)
    → AtDepths (record_at listed parts marker additions) (suc k) (λ s. Written rules s (normal s v) x (Err e) y)
record_unopened rules parts marker additions k v x y e (inl m) = at_suc (λ n le. inl m)
record_unopened rules parts marker additions k v x y e (inr h) = at_suc (λ n le. inr (h n _))

-- presence bits are those of the components that needn't be there
bit_there : (g : Bool) (p : Presence) → cond (is_not_required p) 1 0 ≡ has_bit (presence_of g p)
bit_there g Required = refl
bit_there g Optional = refl
bit_there true Group = refl
bit_there false Group = refl
bit_there g (Default d) = refl

bits_there : (g : Component → Bool) (s : ℕ → Schema) (cs : List Component) → count_by (λ c. is_not_required c.presence) cs ≡ presence_bits (parts_in g s cs)
bits_there g s [] = refl
bits_there g s (c ∷ cs) = sum_by-cons (λ (c : Component). cond (is_not_required c.presence) 1 0) c cs ∙ ap₂ (λ a b. a + b) (bit_there (g c) c.presence) (bits_there g s cs)

count_there : (g : Component → Bool) (s : ℕ → Schema) (cs : List Component) → length cs ≡ count (parts_in g s cs)
count_there g s [] = refl
count_there g s (c ∷ cs) = omega (arith, count_there g s cs)

-- whether a root component of a record is required
pub group_at : (ts : List Kind) (r : Record) (n : ℕ) → IsGroupOf (has_required r) (record_schema ts r n)
group_at ts r zero = tt
group_at ts r (suc n) = ap₂ nat_lt (bits_there in_root (λ j. schema_at ts j n) r.root.items) (count_there in_root (λ j. schema_at ts j n) r.root.items)

-- of a SEQUENCE at a place
pub sequence_group : (ts : List Kind) (i : ℕ) (b : Bool) → required_in (slice_get ts i) ≡ Some b → (n : ℕ) → IsGroupOf b (schema_at ts i n)
sequence_group ts i b e n = go (slice_get ts i) refl e
  where
    go : (o : Option Kind) → slice_get ts i ≡ o → required_in o ≡ Some b → IsGroupOf b (schema_at ts i n)
    go None q f = absurd cc
    go (Some (RecordKind r)) q f = let h : has_required r ≡ b = cc in rw (← h, record_there ts i r q n) (group_at ts r n)
    go (Some (SimpleKind k)) q f = absurd cc
    go (Some Date) q f = absurd cc
    go (Some (ListKind j c)) q f = absurd cc
    go (Some (SetOf j c)) q f = absurd cc
    go (Some (ChoiceKind c)) q f = absurd cc
    go (Some (Containing j)) q f = absurd cc
    go (Some (OpenKind s)) q f = absurd cc

addeds_there : (g : Component → Bool) (s : ℕ → Schema) (o : Option (Vec Component)) → addeds_of (added_count o) ≡ count (parts_in g s (behind o))
addeds_there g s None = refl
addeds_there g s (Some v) = count_there g s v.items

marked_there : (o : Option (Vec Component)) → is_some o ≡ is_extensible (added_count o)
marked_there None = refl
marked_there (Some v) = refl

pub record_counted : (ts : List Kind) (r : Record) (bits : ℕ) (added : Option ℕ) → bits ≡ count_by (λ c. is_not_required c.presence) r.root.items → added ≡ added_count r.additions
    → AreCounted (parts_at in_root ts r.root.items) (is_some r.additions) (parts_at (grouped ts) ts (behind r.additions)) bits added
record_counted ts r bits added e f = record {
  bits_are = λ n. e ∙ bits_there in_root (λ j. schema_at ts j n) r.root.items;
  marked = rw f (marked_there r.additions);
  added_are = λ n. rw f (addeds_there (grouped ts) (λ j. schema_at ts j n) r.additions);
}

-- without a marker there are no additions
pub unmarked_none : (ts : List Kind) (o : Option (Vec Component)) → is_some o ≡ false → (n : ℕ) → parts_at (grouped ts) ts (behind o) n ≡ Schemas.no_parts
unmarked_none ts None e n = refl
unmarked_none ts (Some v) e n = absurd (cc)
