-- A bag is written as a list is, over any encoder: its normal form has those of its members.
use Rattle.std.proofs.Common.{◌≡◌, Some, refl, sym, ap, ◌∙◌, inl, inr, Bool, Ok, List, [], ◌∷◌, map}
use Rattle.rasn_types.specs.Values.{Value, bag_of}
use Rattle.rasn_types.proofs.Values.{values-as_values}
use Rattle.rasn_constraints.specs.Bounds.{Size}
use Rattle.rasn_schema.specs.Schemas.{Schema}
use Rattle.rasn_schema.specs.Normal.{normal, over_bag}
use Rattle.rasn_traits.specs.Calls.{EncoderRules}
use Rattle.rasn_traits.specs.Bags.{WritesMember}
use Rattle.rasn_traits.specs.Lists.{Amid}
use Rattle.rasn_dynamic_codec.proofs.Elements.{Awaits, Collection}
use Rattle.rasn_types.specs.AllOf.{all_of, joined}
use Rattle.rasn_schema.proofs.Bags.{bag_becomes, some_list, sort}
use Rattle.rasn_schema.specs.Bags.{set_at}

-- the bag of what the members of a bag become
all_map : (f : Value → Value) (vs : List Value) → all_of (λ v. Some (f v)) vs ≡ Some (map f vs)
all_map f [] = refl
all_map f (v ∷ vs) = ap (joined (Some (f v))) (all_map f vs)

bag_map : (f : Value → Value) (vs : List Value) → bag_of (map f (sort vs)) ≡ bag_of (map f vs)
unfolding sort
bag_map f vs =
    let q = bag_becomes (λ v. Some (f v)) vs (map f vs) (all_map f vs) in
    ap bag_of (some_list (map f (sort vs)) q.0 (sym (all_map f (sort vs)) ∙ q.1)) ∙ q.2

-- the normal form of a bag has those of its members
pub normal-bag : (e : Schema) (size : Size) (mark : Bool) (vs : List Value) → normal (Schema.set_of e size mark) (bag_of vs) ≡ bag_of (map (normal e) vs)
unfolding normal over_bag bag_of sort
normal-bag e size mark vs = ap (λ l. bag_of (map (normal e) l)) (values-as_values (sort vs)) ∙ bag_map (normal e) vs

abbrev pub bags : Collection
bags = record { schema = Schema.set_of; schemas = set_at; deeper = λ member size mark n. refl; value = bag_of; normal_form = normal-bag }

pub awaits_member : {E X B : Type 0} {rules : EncoderRules E X} {amid : Amid X B} {b : B} {y : X} {u : Unit {0}} {c : B} {z : X} → WritesMember rules amid b y (Ok u) c z → Awaits bags rules amid b y c z
awaits_member w = record {
  presented = λ f x v vs h. (w.law f x v vs h).presented;
  refused = λ f x v vs h d r. elim r [ inl q ↦ inl ((w.law f x v vs h).room d q) | inr q ↦ inr ((w.law f x v vs h).refused d q) ];
}
