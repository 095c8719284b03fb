-- What a call owes that puts a value of a decoder's into a box.
use Rattle.std.specs.Prelude.{◌≡◌, true, Result, Ok, Err, OnErr}
use Rattle.rasn_traits.specs.Calls.{DecoderRules}

-- Ok holds the value and changes nothing, and Err says that memory ran out.
abbrev pub Held : {S T B E : Type 0} → DecoderRules E S → (B → T) → T → S → Result B E → S → Type 0
Held rules value x s (Ok b) t = (value b ≡ x) × (t ≡ s)
Held rules value x s (Err e) t = rules.memory e s

-- A call that takes memory for one value: an error leaves the decoder failed, and the variant stays.
pub record Holds {S T B E : Type 0} (rules : DecoderRules E S) (value : B → T) (x : T) (s : S) (result : Result B E)
    (t : S) : Type 0 where
  pub law : Held rules value x s result t
  pub fails : OnErr result (rules.failed t ≡ true)
  pub kept : rules.codec t ≡ rules.codec s
