-- Pieces kept as their bits and the places of the marks among them.
use Rattle.std.specs.Prelude.{ℕ, ◌-◌, ◌≤◌, Bool, true, false, List, [], ◌∷◌, ◌++◌, take, drop, Option, Some, None}
use Rattle.rasn_types.specs.Bits.{Bits}
use Rattle.per_pieces.specs.Pieces.{Piece, Pieces, plain, to_octet}

-- bits from the kth on, with marks in front of those at some places
abbrev pub marked : ℕ → List ℕ → Bits → List Piece
marked k [] bs = plain bs
marked k (m ∷ ms) bs = plain (take (m - k) bs) ++ to_octet ∷ marked m ms (drop (m - k) bs)

-- places from k to n, in order
abbrev pub AreInOrder : ℕ → List ℕ → ℕ → Type 0
AreInOrder k [] n = k ≤ n
AreInOrder k (m ∷ ms) n = (k ≤ m) × AreInOrder m ms n

-- the marks, of which there are none where the bits begin at position 0
abbrev pub places_of : Option (List ℕ) → List ℕ
places_of None = []
places_of (Some ms) = ms

-- whether the bits begin at position 0
abbrev pub is_placed : Option (List ℕ) → Bool
is_placed None = true
is_placed (Some ms) = false

-- the pieces that bits and marks among them are
abbrev pub pieces : Option (List ℕ) → Bits → Pieces
pieces marks bits = record { list = marked 0 (places_of marks) bits; placed = is_placed marks }
