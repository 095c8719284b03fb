-- What octets are read as has few items for them.
use Rattle.std.specs.Borrow.{Bor}
use Rattle.std.proofs.Common.{ℕ, Bool, List, Result, Ok, Err}
use Rattle.rasn_types.specs.Variants.{variant_of}
use Rattle.rasn_types.specs.Values.{Value}
use Rattle.rasn_types.specs.declared.types.Codec.{Codec}
use Rattle.rasn_schema.specs.Schemas.{Schema}
use Rattle.per_core.proofs.TakenItems.{fills_few, front_few}
use Rattle.per_core.specs.declared.decode_error.DecodeError.{DecodeError}
use Rattle.rasn_per.specs.Calls.{DecodedBy, DecodedFront, reading, basically, AnswersFew, AnswersFewInFront}

module _ {T : Type 0} (codec : Codec) (schema : ℕ → Schema) (value : T → Value) (octets : List ℕ) where
  pub few : (strict : Bool) (result : Result T DecodeError) → DecodedBy strict codec schema value octets result → AnswersFew schema value octets result
  few strict (Ok x) h =
      let f = fills_few (reading strict (variant_of codec)) (schema 128) (value x) octets h.ok.are_read in
      record { own = f.0; within = f.1 }
  few strict (Err e) h = record { own = tt; within = tt }

  pub few_in_front : (result : Result (T × Bor (List ℕ)) DecodeError) → DecodedFront codec schema value octets result → AnswersFewInFront schema value octets result
  few_in_front (Ok x) h =
      let f = front_few (basically (variant_of codec)) (schema 128) (value x.0) octets x.1.now h.ok.are_read in
      record { own = f.0; within = f.1 }
  few_in_front (Err e) h = record { own = tt; within = tt }
