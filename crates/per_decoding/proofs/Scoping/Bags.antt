-- The law of a decoder's bags: a SET OF is read as the SEQUENCE OF its elements is (X.691 22).
use Rattle.std.proofs.Common.{◌≡◌, refl, sym, ap, ◌∙◌, Bool, List}
use Rattle.rasn_types.specs.Bits.{Bits}
use Rattle.rasn_types.specs.Values.{Value, as_values, bag_of, values}
use Rattle.rasn_types.proofs.Values.{values-as_values}
use Rattle.rasn_constraints.specs.Bounds.{Size}
use Rattle.rasn_schema.specs.Structures.{list_value}
use Rattle.rasn_schema.specs.Schemas.{Schema}
use Rattle.rasn_traits.specs.BagsRead.{BagsWell}
use Rattle.per_core.specs.Basic.{basic, basic_in}
use Rattle.per_core.specs.Spellings.{Settings, Took}
use Rattle.per_core.proofs.TakenInTurn.{took_map}
use Rattle.per_core.specs.declared.decode_error.DecodeErrorKind.{DecodeErrorKind}
use Rattle.per_core.specs.declared.decode_error.DecodeErrorKind.TheVariants.{AlreadyFailed}
use Rattle.per_core.specs.ReadingFaults.{IsInBits, at_once, in_element, in_member}
use Rattle.per_decoding.specs.Faults.{IsOf}
use Rattle.per_decoding.specs.Rules.{plain_rules}
use Rattle.per_decoding.proofs.Scoping.Spelled.{spelled}
use Rattle.per_decoding.specs.State.{State}

-- a list has its elements in one way
one_list : (us vs : List Value) → list_value us ≡ list_value vs → us ≡ vs
one_list us vs e =
    let f : as_values us ≡ as_values vs = cc in
    sym (values-as_values us) ∙ ap values f ∙ values-as_values vs

-- the bag of a list that is read
bag_took : (a : Settings) (e : Schema) (size : Size) (mark : Bool) (vs : List Value) {s t : Bits}
    → Took (basic a (Schema.list e size mark) (list_value vs)) s t
    → Took (basic a (Schema.set_of e size mark) (bag_of vs)) s t
unfolding basic_in
bag_took a e size mark vs b =
    took_map (λ p c y. record { of = y.of; is = ap bag_of (one_list vs y.of y.is); spelled = y.spelled }) b

-- the list of a bag that is read
list_took : (a : Settings) (e : Schema) (size : Size) (mark : Bool) (w : Value) {s t : Bits}
    → Took (basic a (Schema.set_of e size mark) w) s t → (vs : List Value)
    × Took (basic a (Schema.list e size mark) (list_value vs)) s t
unfolding basic_in
list_took a e size mark w b = (
  b.spelled.of,
  record {
    front = b.front;
    joins = b.joins;
    spelled =
        record { of = b.spelled.of; is = refl; spelled = b.spelled.spelled };
  },
)

-- a list's fault in bits
bag_fault : {a : Settings} {k : DecodeErrorKind} {e : Schema} {size : Size} {mark : Bool} {s : Bits}
    → IsInBits a k (Schema.list e size mark) s → IsInBits a k (Schema.set_of e size mark) s
bag_fault (at_once h) = at_once h
bag_fault (in_element vs t h) = in_member vs t h

-- a list's fault in a decoder's bits is one of the SET OF
of_list : (k : DecodeErrorKind) (e : Schema) (size : Size) (mark : Bool) (s : State)
    → IsOf k (Schema.list e size mark) s → IsOf k (Schema.set_of e size mark) s
of_list AlreadyFailed e size mark s h = h
of_list _ e size mark s h = bag_fault h

-- nothing is read where a schema is cut off
no_cut : (a : Settings) (v : Value) {s t : Bits} → Took (basic a Schema.cut v) s t → ⊥
unfolding basic_in
no_cut a v b = b.spelled

pub bags_well : BagsWell plain_rules
bags_well = record {
  bag_read = λ e size mark s t vs r. spelled r.live (bag_took _ e size mark vs r.took) r.same;
  none = λ e size mark s no w t r.
      let q = list_took _ e size mark w r.took in
      no (list_value q.0) t (spelled r.live q.1 r.same);
  in_list = λ e size mark s d f. record { codec = f.codec; stands = of_list d.kind e size mark s f.stands };
  cut = λ s v t r. no_cut _ v r.took;
}
