-- What an `Option` is as a value: what it holds, or no value of any type.
use Rattle.std.specs.Prelude.{◌≡◌, refl, ℕ, true, false, Option, Some, None}
use Rattle.rasn_types.specs.Values.{Value}
use Rattle.rasn_schema.specs.Lawful.{if_bag, is_value}
use Rattle.rasn_schema.specs.Normal.{normal, over_bag}
use Rattle.rasn_schema.specs.Schemas.{Schema}
use Rattle.rasn_schema.specs.Structures.{no_value}

-- the value of what may be absent
abbrev pub value_if : {A : Type 0} → (A → Value) → Option A → Value
value_if value None = no_value
value_if value (Some x) = value x

-- how many levels it takes
abbrev pub levels_if : {A : Type 0} → (A → ℕ) → Option A → ℕ
levels_if levels None = 0
levels_if levels (Some x) = levels x

-- what stands for an absent value is in normal form
pub normal_none : (s : Schema) → normal s no_value ≡ no_value
unfolding normal over_bag
normal_none (Schema.list e size mark) = refl
normal_none (Schema.set_of e size mark) = refl
normal_none (Schema.containing e) = normal_none e
normal_none (Schema.sequence o ps ext adds) = refl
normal_none (Schema.choice ps adds ext) = refl
normal_none (Schema.bit_string size mark false) = refl
normal_none (Schema.bit_string size mark true) = refl
normal_none _ = refl

-- and is no value of any schema
pub none_is_none : (s : Schema) → is_value s no_value ≡ false
unfolding is_value if_bag
none_is_none Schema.boolean = refl
none_is_none Schema.null = refl
none_is_none Schema.real = refl
none_is_none Schema.cut = refl
none_is_none Schema.any = refl
none_is_none (Schema.text kind) = refl
none_is_none Schema.identifier = refl
none_is_none (Schema.time kind) = refl
none_is_none Schema.date = refl
none_is_none (Schema.number bounds mark range) = refl
none_is_none (Schema.items r e ext) = refl
none_is_none (Schema.octet_string size mark) = refl
none_is_none (Schema.bit_string size mark named) = refl
none_is_none (Schema.char_string alphabet size mark) = refl
none_is_none (Schema.list e size mark) = refl
none_is_none (Schema.set_of e size mark) = refl
none_is_none (Schema.containing e) = none_is_none e
none_is_none (Schema.sequence o ps ext adds) = refl
none_is_none (Schema.choice ps adds ext) = refl
