-- When the octets of an OCTET STRING are lent, and not copied (ITU-T X.691, 11.9, 17).
use Rattle.std.specs.Prelude.{◌≡◌, ◌⊎◌, ◌<◌, ◌≤◌, ◌+◌, ◌-◌, ◌*◌, ◌%◌, ◌↔◌, ℕ, Bool, true, false, nat_lt, List, ◌∷◌, []}
use Rattle.std.specs.Prelude.{length, Option, Some, Result, Ok, Err, IfOk, IfErr, OnOk}
use Rattle.rasn_types.specs.Bits.{Bits}
use Rattle.rasn_types.specs.Values.{octets}
use Rattle.rasn_constraints.specs.Bounds.{Size}
use Rattle.rasn_schema.specs.Schemas
use Rattle.rasn_traits.specs.Calls.{DecoderRules, Reads}
use Rattle.per_core.specs.Basic.{Counted, octet}
use Rattle.per_core.specs.Counts.{octet_items}
use Rattle.per_core.specs.Spellings.{Took}
use Rattle.per_core.specs.declared.decode_error.DecodeError.{DecodeError}
use Rattle.per_decoding.specs.Rules.{plain_rules}
use Rattle.per_decoding.specs.State.{State, settings_of}
use Rattle.per_decoding.specs.Sources.{place_left, AreOctetsOf}
use Rattle.per_de.specs.declared.taken_octets.TakenOctets.{TakenOctets}
use Rattle.per_de.specs.declared.taken_octets.TakenOctets.TheVariants.{InFront, Copied}

-- X.691 11.9.3.3, 11.9.4.1: whether a size with these bounds has octets after a constrained count, or behind none
-- where the bounds are one number
abbrev pub is_counted_once : Option ℕ → Option ℕ → Bool
is_counted_once (Some lb) (Some ub) = nat_lt ub 65536
is_counted_once least most = false

-- X.691 17.3: whether an extension bit 1 is in front, where there is an extension marker
abbrev pub is_extended : Bool → Bits → Bool
is_extended false s = false
is_extended true [] = false
is_extended true (b ∷ s) = b

-- octets at the front of bits come with one count, or with none, however many they are
abbrev pub AreCountedOnce : Size → Bool → Bits → Type 0
AreCountedOnce size mark s = (is_counted_once size.least size.most ≡ true) × (is_extended mark s ≡ false)

-- X.691 11.9.3.5 to 11.9.3.8: n octets at the front of bits come with one count alone, or with none. From 16384 on
-- those after an unconstrained length stand in fragments, each of which a further count follows; fewer don't.
abbrev pub ComeAlone : Size → Bool → Bits → ℕ → Type 0
ComeAlone size mark s n = (n < 16384) ⊎ AreCountedOnce size mark s

-- Of the bits that are left, n octets can be lent that are in front of the last `left` bits: at least one, on octets
-- of the input. So the input's octets end where these bits do.
pub record CanBeLent (s : State) (left n : ℕ) : Type 0 where
  pub some : 0 < n
  pub lends : s.source.lends ≡ true
  pub on_octets : (s.source.place + (length s.source.bits - (s.source.behind + left))) % 8 ≡ 0

-- Of the bits that are left, n octets under a size were taken that are in front of the last `left` bits: at least
-- one, with one count alone or with none, on octets of the input. So the input's octets end where these bits do.
pub record AreLent (size : Size) (mark : Bool) (s : State) (left n : ℕ) : Type 0 where
  pub alone : ComeAlone size mark s.bits n
  pub lent : CanBeLent s left n

-- n octets of an OCTET STRING under a size are read, and `left` bits are left after them (X.691 17)
pub record AreRead (size : Size) (mark : Bool) (s : State) (n left : ℕ) : Type 0 where
  pub items : List ℕ
  pub rest : Bits
  pub many : length items ≡ n
  pub behind : left ≡ length rest
  pub took : Took (Counted (settings_of s) size mark octet_items octet items) s.bits rest

-- A call that answers how many octets an OCTET STRING has, and how many bits are left after it, or refuses to read it.
-- All bits stay left.
pub record SkipsOctets (size : Size) (mark : Bool) (s : State) (result : Result (ℕ × ℕ) DecodeError) (t : State)
    : Type 0 where
  pub ok : IfOk result (λ x. AreRead size mark s x.0 x.1)
  pub stays : OnOk result (t ≡ s)
  pub err : IfErr result (λ e. Reads plain_rules (Schemas.octet_string size mark) octets s (Err e) t)

-- how many bits of their source stand in front of those that are left
abbrev pub in_front : State → ℕ
in_front s = length s.source.bits - (s.source.behind + length s.bits)

-- n octets of the source stand in front of the bits that are left, which begin an octet
pub record StandInFront (s : State) (n : ℕ) : Type 0 where
  pub many : 8 * n ≤ in_front s
  pub on_octets : place_left s ≡ 0

-- the octets of an OCTET STRING that was taken: the last in front of the bits that are left, or a copy of them
abbrev pub AreTaken : State → TakenOctets → List ℕ → Type 0
AreTaken t (InFront n) os = AreOctetsOf t.source.bits (in_front t) n os
AreTaken t (Copied copy) os = os ≡ copy.items

-- whether they are no copy
abbrev pub IsInFront : TakenOctets → Type 0
IsInFront (InFront n) = Unit {0}
IsInFront (Copied copy) = ⊥

-- The octets of an OCTET STRING under a size were taken as those that it reads (X.691 17). They aren't copied exactly
-- where they come with one count alone, or with none, and stand on octets of the source.
pub record TakenAs (rules : DecoderRules DecodeError State) (size : Size) (mark : Bool) (s : State) (x : TakenOctets)
    (t : State) : Type 0 where
  pub items : List ℕ
  pub are : AreTaken t x items
  pub read : Reads rules (Schemas.octet_string size mark) octets s (Ok items) t
  pub in_front : IsInFront x ↔ (ComeAlone size mark s.bits (length items) × (place_left t ≡ 0))

-- a call that takes them, or refuses to read them
pub record TakesOctets (rules : DecoderRules DecodeError State) (size : Size) (mark : Bool) (s : State)
    (result : Result TakenOctets DecodeError) (t : State) : Type 0 where
  pub ok : IfOk result (λ x. TakenAs rules size mark s x t)
  pub err : IfErr result (λ e. Reads rules (Schemas.octet_string size mark) octets s (Err e) t)
