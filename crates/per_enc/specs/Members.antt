-- The members of a SET OF that were written before their places are known (ITU-T X.691, 22).
use Rattle.std.specs.Prelude.{◌≡◌, Bool, List, [], ◌∷◌, map}
use Rattle.rasn_types.specs.Values.{before}
use Rattle.per_core.specs.Writers.{Writer, complete}
use Rattle.per_pieces.specs.Pieces.{Piece, placed_bits, writer_of}
use Rattle.per_enc.specs.declared.members.Member.{Member}

-- X.691 22: what a member is sorted by is its complete encoding
abbrev pub IsKeyed : {A : Type 0} → Member A → Type 0
IsKeyed m = m.key.items ≡ complete (placed_bits m.pieces.list 0)

-- a fact of each
abbrev pub Every : {X : Type 0} → (X → Type 0) → List X → Type 0
Every P [] = Unit {0}
Every P (x ∷ xs) = P x × Every P xs

-- each member is kept with its complete encoding
abbrev pub AreKeyed : {A : Type 0} → List (Member A) → Type 0
AreKeyed = Every IsKeyed

-- the members' pieces
abbrev pub pieces_of : {A : Type 0} → List (Member A) → List (List Piece)
pieces_of = map (λ m. m.pieces.list)

-- how the members are written
abbrev pub writers_of : List (List Piece) → List Writer
writers_of = map writer_of

-- a member comes before another
abbrev pub comes_before : {A : Type 0} → Member A → Member A → Bool
comes_before m n = before m.key.items n.key.items
