-- The octets in front of a rest.
use Rattle.std.proofs.Common.{◌≡◌, sym, ap, ◌∙◌, subst, ℕ, ◌+◌, ◌-◌, ◌≤◌, List, ◌++◌, length, take, drop, arith}
use Rattle.std.proofs.lemmas.List.{drop_at, length-append, take_at}
use Rattle.rasn_types.specs.Values
use Rattle.rasn_types.specs.Variants.{Variant}
use Rattle.rasn_schema.specs.Schemas.{Schema}
use Rattle.rasn_dynamic.specs.Values.{value_of}
use Rattle.rasn_dynamic.specs.declared.types.Types.{Types}
use Rattle.rasn_dynamic.specs.declared.values.Value.{Value}
use Rattle.per_core.specs.Rows.{Codec, variant_of}
use Rattle.rasn_per.specs.Calls.{AreReadBy, basically, BeginWith}
use Rattle.per_messages.specs.Messages.{IsFirst, type_at}

-- a rest is no longer than the whole
pub shorter : (a : Variant) (T : ℕ → Schema) (v : Values.Value) (octets rest : List ℕ) → BeginWith a T v octets rest → length rest ≤ length octets
shorter a T v octets rest h =
    let e : length octets ≡ length h.are_read.0 + length rest = ap length h.are_read.1 ∙ length-append h.are_read.0 rest in omega arith

front_length : (octets these rest : List ℕ) → octets ≡ these ++ rest → length these ≡ length octets - length rest
front_length octets these rest h = let e : length octets ≡ length these + length rest = ap length h ∙ length-append these rest in omega arith

-- and what is in front of it is read
front_is_read : (a : Variant) (T : ℕ → Schema) (v : Values.Value) (octets rest : List ℕ) (n : ℕ) (h : BeginWith a T v octets rest)
    → length h.are_read.0 ≡ n → AreReadBy (basically a) T v (take n octets)
front_is_read a T v octets rest n h e =
    subst (AreReadBy (basically a) T v) (sym (ap (λ (os : List ℕ). take n os) h.are_read.1 ∙ take_at h.are_read.0 rest n e))
    (record { are_read = h.are_read.2; only = λ w k. (h.only w rest (h.are_read.0, h.are_read.1, k)).0 })

pub is_first : (types : Types) (codec : Codec) (place : ℕ) (v : Value) (octets rest : List ℕ)
    → BeginWith (variant_of codec) (type_at types place) (value_of v) octets rest → IsFirst types codec place octets (length octets - length rest)
is_first types codec place v octets rest h =
    let e = front_length octets h.are_read.0 rest h.are_read.1 in
    record {
      value = v;
      within = omega arith;
      is_read = front_is_read (variant_of codec) (type_at types place) (value_of v) octets rest (length octets - length rest) h e;
      only = subst (BeginWith (variant_of codec) (type_at types place) (value_of v) octets)
          (sym (ap (λ (os : List ℕ). drop (length octets - length rest) os) h.are_read.1 ∙ drop_at h.are_read.0 rest (length octets - length rest) e)) h;
    }
