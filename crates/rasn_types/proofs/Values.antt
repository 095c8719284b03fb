-- Lists as rows of values and of slots, and back.
use Rattle.std.proofs.Common.{◌≡◌, refl, ap, List, [], ◌∷◌, Option, Some, None}
use Rattle.rasn_types.specs.Values.{Value, Values, no_values, value, Slots, no_slots, there, absent, values, as_values, slots, as_slots}

pub values-as_values : (vs : List Value) → values (as_values vs) ≡ vs
values-as_values [] = refl
values-as_values (v ∷ vs) = let r : values (as_values vs) ≡ vs = values-as_values vs in cc

pub slots-as_slots : (ss : List (Option Value)) → slots (as_slots ss) ≡ ss
slots-as_slots [] = refl
slots-as_slots (None ∷ ss) = let r : slots (as_slots ss) ≡ ss = slots-as_slots ss in cc
slots-as_slots (Some v ∷ ss) = let r : slots (as_slots ss) ≡ ss = slots-as_slots ss in cc

pub as_values-values : (vs : Values) → as_values (values vs) ≡ vs
as_values-values no_values = refl
as_values-values (value v vs) = ap (value v) (as_values-values vs)

pub as_slots-slots : (ss : Slots) → as_slots (slots ss) ≡ ss
as_slots-slots no_slots = refl
as_slots-slots (absent ss) = ap absent (as_slots-slots ss)
as_slots-slots (there v ss) = ap (there v) (as_slots-slots ss)
