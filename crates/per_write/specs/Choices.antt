-- The index of a CHOICE: zeros that are kept for it where the choice is opened, and given where it is closed (ITU-T
-- X.691, 23.6).
use Rattle.std.specs.Prelude.{ℕ, ◌+◌, ◌≡◌, ◌<◌, true, false, if◌then◌else◌, nat_le, List, [], ◌++◌, replicate, None}
use Rattle.std.specs.Prelude.{Result, IfOk, IfErr, OnOk, OnErr}
use Rattle.rasn_types.specs.Bits.{to_bits, width}
use Rattle.rasn_types.specs.Variants.{variant_of, Variant, aligned, unaligned}
use Rattle.per_core.specs.Writers.{Writer, just, padding}
use Rattle.per_pieces.specs.Pieces.{Appends, Piece, Pieces, bit_count, plain, with_bits}
use Rattle.per_core.specs.declared.encode_error.EncodeError.{EncodeError}
use Rattle.per_core.specs.declared.encode_error.EncodeErrorKind.TheVariants.{OutOfTurn}
use Rattle.per_write.specs.Faults.{IsError, IsMemory}
use Rattle.per_write.specs.WriterState.{Frame, WriterState}

-- X.691 11.5.6, 11.5.7: how many bits tell n root alternatives apart, of which there are at most 65536
abbrev pub index_width : Variant → ℕ → ℕ
index_width unaligned n = width n
index_width aligned n = if nat_le n 256 then width n else 16

-- X.691 11.5.7: what is in front of them, where they are whole octets
abbrev pub index_padding : Variant → ℕ → Writer
index_padding unaligned n = just []
index_padding aligned n = if nat_le n 255 then just [] else padding aligned

-- room is made for the index of one of n alternatives, and what was there waits outside
pub record OpensIndex (n : ℕ) (x : WriterState) (outside : Frame) (y : WriterState) : Type 0 where
  pub begun : x.failed ≡ false
  pub waits : outside ≡ x.scope
  pub unfailed : y.failed ≡ false
  pub same : y.codec ≡ x.codec
  pub padded : Pieces
  pub is_padded : Appends x.pieces (index_padding (variant_of x.codec) n) padded
  pub pieces : y.pieces ≡ with_bits padded (replicate (index_width (variant_of x.codec) n) false)
  pub place : y.scope ≡ record {
    presences = record { place = bit_count padded.list; left = 0 };
    additions = None;
    is_open = true;
  }

-- A call that makes room for an index, or finds no memory.
pub record OpensIndexOrNot (n : ℕ) (x : WriterState) (result : Result Frame EncodeError)
    (y : WriterState) : Type 0 where
  pub ok : IfOk result (λ outside. OpensIndex n x outside y)
  pub err : IfErr result (λ e. IsMemory e x)
  pub fails : OnErr result (y.failed ≡ true)
  pub kept : y.codec ≡ x.codec

-- the w zeros that are at a place become the low bits of a number, highest first
abbrev pub IsFilled : ℕ → ℕ → ℕ → List Piece → List Piece → Type 0
IsFilled place w number before behind = (front rest : List Piece) →
    before ≡ front ++ (plain (replicate w false) ++ rest) → place ≡ bit_count front
    → behind ≡ front ++ (plain (to_bits w number) ++ rest)

-- A call that gives the index i of one of n alternatives, where room is kept for it: what waited outside comes back.
pub record FillsIndexOrNot (n i : ℕ) (outside : Frame) (x : WriterState) (result : Result (Unit {0}) EncodeError)
    (y : WriterState) : Type 0 where
  pub ok : OnOk result (IsFilled x.scope.presences.place
      (index_width (variant_of x.codec) n) i x.pieces.list y.pieces.list)
  pub place : OnOk result (y.pieces.placed ≡ x.pieces.placed)
  pub same : OnOk result (y ≡ record x { pieces = y.pieces; scope = outside })
  pub short : OnErr result (bit_count x.pieces.list < x.scope.presences.place + index_width (variant_of x.codec) n)
  pub err : IfErr result (λ e. IsError OutOfTurn e x)
  pub fails : OnErr result (y.failed ≡ true)
  pub kept : y.codec ≡ x.codec
