-- Open types as they are read (X.691 11.2).
use Rattle.std.specs.Prelude.{◌≡◌, ℕ, List}
use Rattle.rasn_types.specs.Bits.{Bits, unpack}
use Rattle.per_core.specs.Spellings.{Settings, Spelling}
use Rattle.per_core.specs.Lengths.{LengthOf}
use Rattle.per_core.specs.declared.lengths.Length.TheVariants.{Fragment}
use Rattle.per_read.specs.TakenPositions.{LastTaken}
use Rattle.per_read.specs.declared.open_types.Contents.{Contents}
use Rattle.per_read.specs.declared.open_types.Contents.TheVariants.{InPlace, Gathered}

-- the octets of an open type that were taken off the bits s, in front of t
abbrev pub AreContents : Bits → Bits → Contents → List ℕ → Type 0
AreContents s t (InPlace count) octets = LastTaken count (unpack octets) s t
AreContents s t (Gathered bytes) octets = bytes.items ≡ octets

-- a fact of the octets that contents are
pub record HasOctets (s t : Bits) (P : List ℕ → Type 0) (contents : Contents) : Type 0 where
  pub octets : List ℕ
  pub are : AreContents s t contents octets
  pub held : P octets

-- X.691 11.9.3.8: padding and the length of a fragment of n items
abbrev pub fragments_of : Settings → ℕ → Spelling
fragments_of a n = LengthOf a (Fragment n)
