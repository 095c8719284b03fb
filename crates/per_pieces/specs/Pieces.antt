-- What is written before its place is known: bits, with marks where padding may stand (ITU-T X.691, 11.1).
use Rattle.std.specs.Prelude.{ℕ, zero, suc, ◌+◌, ◌≡◌, Bool, true, false, List, [], ◌∷◌, ◌++◌, length, map, replicate}
use Rattle.std.specs.Prelude.{Some}
use Rattle.rasn_types.specs.Bits.{Bits}
use Rattle.rasn_types.specs.Variants.{aligned}
use Rattle.per_core.specs.Writers.{Writer, pad, ◌▹◌}

-- a bit, or a mark where zero bits fill the octet that isn't full, once its place is known
pub data Piece : Type 0 where
  bit : Bool → Piece
  to_octet : Piece

-- pieces one after another, and whether the first is at position 0; else any position may be its place
pub record Pieces : Type 0 where
  pub list : List Piece
  pub placed : Bool

-- no pieces, at position 0
abbrev pub no_pieces : Pieces
no_pieces = record { list = []; placed = true }

-- no pieces, whose place isn't known
abbrev pub unplaced : Pieces
unplaced = record { list = []; placed = false }

-- bits without a mark among them
abbrev pub plain : Bits → List Piece
plain = map bit

-- pieces and some bits after them
abbrev pub with_bits : Pieces → Bits → Pieces
with_bits x bs = record { list = x.list ++ plain bs; placed = x.placed }

-- the bits alone
abbrev pub bits_of : List Piece → Bits
bits_of [] = []
bits_of (bit b ∷ ps) = b ∷ bits_of ps
bits_of (to_octet ∷ ps) = bits_of ps

-- how many bits there are
abbrev pub bit_count : List Piece → ℕ
bit_count ps = length (bits_of ps)

-- another bit at a place among the bits
abbrev pub set_bit : List Piece → ℕ → Bool → List Piece
set_bit [] i b = []
set_bit (to_octet ∷ ps) i b = to_octet ∷ set_bit ps i b
set_bit (bit c ∷ ps) zero b = bit b ∷ ps
set_bit (bit c ∷ ps) (suc i) b = bit c ∷ set_bit ps i b

-- pieces with another bit at a place among their bits
abbrev pub with_bit : Pieces → ℕ → Bool → Pieces
with_bit x i b = record { list = set_bit x.list i b; placed = x.placed }

-- X.691 11.1: the bits that pieces are from a position on, with their padding
abbrev pub placed_bits : List Piece → ℕ → Bits
placed_bits [] p = []
placed_bits (bit b ∷ ps) p = b ∷ placed_bits ps (p + 1)
placed_bits (to_octet ∷ ps) p = replicate (pad aligned p) false ++ placed_bits ps 0

-- what is written where pieces are, from a position on, with their padding
abbrev pub writer_of : List Piece → Writer
writer_of ps p = Some (placed_bits ps p)

-- the positions that the first piece may be at
abbrev pub MayBegin : Pieces → ℕ → Type 0
MayBegin x p = x.placed ≡ true → p ≡ 0

-- one thing more was written after some pieces
pub record Appends (x : Pieces) (more : Writer) (y : Pieces) : Type 0 where
  pub behind : List Piece
  pub list : y.list ≡ x.list ++ behind
  pub place : y.placed ≡ x.placed
  pub written : (p : ℕ) → MayBegin x p → writer_of y.list p ≡ (writer_of x.list ▹ more) p

-- the first of what was to be written was written after some pieces, and so much remains
pub record Remains (x : Pieces) (all : Writer) (y : Pieces) (rest : Writer) : Type 0 where
  pub behind : List Piece
  pub list : y.list ≡ x.list ++ behind
  pub place : y.placed ≡ x.placed
  pub written : (p : ℕ) → MayBegin x p → (writer_of y.list ▹ rest) p ≡ (writer_of x.list ▹ all) p
