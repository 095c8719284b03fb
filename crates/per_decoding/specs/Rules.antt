-- The rules of a decoder that takes what spells a value off the front of the bits left.
use Rattle.std.specs.Prelude.{◌≡◌, ℕ, true, false, [], length}
use Rattle.rasn_traits.specs.Amounts.{Amount}
use Rattle.rasn_traits.specs.Calls.{DecoderRules}
use Rattle.per_core.specs.declared.decode_error.DecodeError.{DecodeError}
use Rattle.per_core.specs.declared.decode_error.DecodeErrorKind.TheVariants.{AlreadyFailed, MissingTag, OutOfMemory}
use Rattle.per_decoding.specs.Additions.{Adds}
use Rattle.per_decoding.specs.State.{State, Marks, Spells, noting, noting_bit}
use Rattle.per_decoding.specs.Turns.{awaiting, in_list, is_complete, is_counted, is_uncounted, next}
use Rattle.per_decoding.specs.Faults.{Fault, IsUnmarked, Lacks, Misadds, refusal}

-- The rules of a decoder as though it counted nothing of what comes in a scope.
abbrev pub plain_rules : DecoderRules DecodeError State
plain_rules = record {
  levels = λ s. s.levels;
  spells = Spells;
  marks = Marks;
  adds = Adds;
  fault = Fault;
  unmarked = IsUnmarked;
  misadds = Misadds;
  awaits = λ due s. ⊥;
  amidst = λ s t. ⊥;
  untimely = λ e s. e ≡ refusal MissingTag s;
  lacking = Lacks;
  memory = λ e s. e ≡ refusal OutOfMemory s;
  already = λ e s. e ≡ refusal AlreadyFailed s;
  failed = λ s. s.failed;
  codec = λ s. s.codec;
}

-- So much is still to come in the open scope, which counts the components; the presence bits and the additions that are
-- still to be read are known.
pub record Awaits (due : Amount) (s : State) : Type 0 where
  pub live : s.failed ≡ false
  pub components : s.turn ≡ awaiting due.components
  pub bits : length s.presences ≡ due.bits
  pub additions : s.expected ≡ due.additions

-- A list is still open here, which is a component of what is around it: where that counts what comes, no record can
-- end, nor another scope.
pub record Amidst (s t : State) : Type 0 where
  pub live : t.failed ≡ false
  pub within : is_counted (next s.turn) ≡ true → (is_uncounted t.turn ≡ false) × (is_complete t.turn ≡ false)

-- In an open list so many values are to come before it is gone on in, and nothing else is left to be read.
pub record AwaitsValues (n : ℕ) (s : State) : Type 0 where
  pub live : s.failed ≡ false
  pub turn : s.turn ≡ in_list n
  pub presences : s.presences ≡ []
  pub expected : s.expected ≡ 0

-- The rules of a decoder: each component is noted, where its value begins or where its presence bit is 0.
abbrev pub decoder_rules : DecoderRules DecodeError State
decoder_rules = record plain_rules {
  spells = λ c s v t. Spells c (noting s) v t;
  marks = λ s b t. Marks (noting_bit b s) b t;
  fault = λ c e s. Fault c e (noting s);
  awaits = Awaits;
  amidst = Amidst;
}
