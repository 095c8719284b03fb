-- A SEQUENCE: its presence bits and its extension bit are kept where it is opened, and its additions are after its
-- root (ITU-T X.691, 19).
use Rattle.std.specs.Prelude.{ℕ, ◌≡◌, ◌<◌, ◌⊎◌, Bool, true, false, [], ◌∷◌, ◌++◌, length, replicate, Option, Some, None}
use Rattle.std.specs.Prelude.{Result, IfOk, IfErr, OnOk, OnErr}
use Rattle.rasn_types.specs.Bits.{Bits}
use Rattle.rasn_types.specs.Variants.{variant_of, Variant}
use Rattle.per_core.specs.Canon.{any_set, bitmap}
use Rattle.per_core.specs.Writers.{Writer, just, ◌▹◌, padding}
use Rattle.per_pieces.specs.Pieces.{Appends, Pieces, bit_count, with_bit, with_bits}
use Rattle.per_core.specs.declared.encode_error.EncodeError.{EncodeError}
use Rattle.per_core.specs.declared.encode_error.EncodeErrorKind.TheVariants.{OutOfTurn}
use Rattle.per_write.specs.Faults.{IsError, IsMemory}
use Rattle.per_write.specs.WriterState.{Additions, Frame, WriterState}

-- X.691 19.1: where there is an extension marker, a zero stands for the extension bit
abbrev pub extension_room : Option ℕ → Bits
extension_room None = []
extension_room (Some n) = false ∷ []

-- n additions of which none is given yet, and the place of the extension bit
abbrev pub to_be_given : ℕ → ℕ → Additions
to_be_given place n = record { extension = place; count = n; flags = []; opens = [] }

-- the additions of a type, of which none is given yet, where it has an extension marker
abbrev pub kept_additions : ℕ → Option ℕ → Option Additions
kept_additions place None = None
kept_additions place (Some n) = Some (to_be_given place n)

-- room is made for the extension bit and the presence bits, and what was there waits outside
pub record Opens (presences : ℕ) (additions : Option ℕ) (x : WriterState) (outside : Frame)
    (y : WriterState) : Type 0 where
  pub begun : x.failed ≡ false
  pub waits : outside ≡ x.scope
  pub unfailed : y.failed ≡ false
  pub same : y.codec ≡ x.codec
  pub pieces : y.pieces ≡ with_bits x.pieces (extension_room additions ++ replicate presences false)
  pub place : y.scope.presences ≡ record {
    place = bit_count (with_bits x.pieces (extension_room additions)).list;
    left = presences;
  }
  pub keeps : y.scope.additions ≡ kept_additions (bit_count x.pieces.list) additions
  pub is_open : y.scope.is_open ≡ true

-- A call that opens a SEQUENCE, or finds no memory.
pub record OpensOrNot (presences : ℕ) (additions : Option ℕ) (x : WriterState) (result : Result Frame EncodeError)
    (y : WriterState) : Type 0 where
  pub ok : IfOk result (λ outside. Opens presences additions x outside y)
  pub err : IfErr result (λ e. IsMemory e x)
  pub fails : OnErr result (y.failed ≡ true)
  pub kept : y.codec ≡ x.codec

-- A call that keeps the place of an extension bit, where there is one, or finds no memory.
pub record KeepsOrNot (n : Option ℕ) (x : WriterState) (result : Result (Option Additions) EncodeError)
    (y : WriterState) : Type 0 where
  pub ok : IfOk result (λ k. k ≡ kept_additions (bit_count x.pieces.list) n)
  pub same : OnOk result (y ≡ record x { pieces = with_bits x.pieces (extension_room n) })
  pub err : IfErr result (λ e. IsMemory e x)
  pub fails : OnErr result (y.failed ≡ true)
  pub kept : y.codec ≡ x.codec

-- X.691 19.7 to 19.9: what is after the root where an addition is there
abbrev pub after_root : Variant → Additions → Writer
after_root a k = bitmap a k.flags ▹ padding a ▹ just k.opens

-- X.691 19.1: an addition that is there makes the extension bit 1, and the additions are after the root
abbrev pub ExtendedAfter : Variant → Additions → Bool → Pieces → Pieces → Type 0
ExtendedAfter a k false x y = y ≡ x
ExtendedAfter a k true x y = Appends (with_bit x k.extension true) (after_root a k) y

-- X.691 19.1, 19.7: a SEQUENCE is closed: where it has an extension marker and an addition is there, the additions
-- are after its root
abbrev pub ClosedAfter : Variant → Option Additions → Pieces → Pieces → Type 0
ClosedAfter a None x y = y ≡ x
ClosedAfter a (Some k) x y = ExtendedAfter a k (any_set k.flags) x y

-- each addition was given
abbrev pub AreGiven : Option Additions → Type 0
AreGiven None = Unit {0}
AreGiven (Some k) = length k.flags ≡ k.count

-- A call that writes the additions after the root, where each was given.
pub record PutsAdditions (k : Additions) (x : WriterState) (result : Result (Unit {0}) EncodeError)
    (y : WriterState) : Type 0 where
  pub given : OnOk result (length k.flags ≡ k.count)
  pub pieces : OnOk result (ExtendedAfter (variant_of x.codec) k (any_set k.flags) x.pieces y.pieces)
  pub same : OnOk result (y ≡ record x { pieces = y.pieces })
  pub err : IfErr result (λ e. IsMemory e x ⊎ (IsError OutOfTurn e x × (length k.flags ≡ k.count → ⊥)))
  pub fails : OnErr result (y.failed ≡ true)
  pub kept : y.codec ≡ x.codec

-- a SEQUENCE is closed: all its presence bits and additions were given, and what waited outside is there again
pub record Closes (outside : Frame) (x y : WriterState) : Type 0 where
  pub presences : x.scope.presences.left ≡ 0
  pub additions : AreGiven x.scope.additions
  pub pieces : ClosedAfter (variant_of x.codec) x.scope.additions x.pieces y.pieces
  pub same : y ≡ record x { pieces = y.pieces; scope = outside }

-- a presence bit or an addition wasn't given
abbrev pub IsUngiven : Frame → Type 0
IsUngiven s = (0 < s.presences.left) ⊎ (AreGiven s.additions → ⊥)

-- A call that ends a SEQUENCE.
pub record ClosesOrNot (outside : Frame) (x : WriterState) (result : Result (Unit {0}) EncodeError)
    (y : WriterState) : Type 0 where
  pub ok : OnOk result (Closes outside x y)
  pub err : IfErr result (λ e. IsMemory e x ⊎ (IsError OutOfTurn e x × IsUngiven x.scope))
  pub fails : OnErr result (y.failed ≡ true)
  pub kept : y.codec ≡ x.codec
