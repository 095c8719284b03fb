-- What is written: bits that depend on the position where they begin (ITU-T X.691, 11.1 and 11.2).
use Rattle.std.specs.Prelude.{ℕ, ◌+◌, ◌-◌, ◌/◌, ◌%◌, max, Bool, true, false, List, [], ◌∷◌, ◌++◌, length, replicate}
use Rattle.std.specs.Prelude.{Option, Some, None}
use Rattle.rasn_types.specs.Bits.{Bits, pack}
use Rattle.rasn_types.specs.Variants.{Variant, aligned, unaligned}

-- X.691 11.1: how many bits are between position p and the next octet, in ALIGNED alone
abbrev pub pad : Variant → ℕ → ℕ
pad aligned p = (8 - p % 8) % 8
pad unaligned p = 0

-- what is written from a position on, or none where there is no encoding; a position is a number of bits
abbrev pub Writer : Type 0
Writer = ℕ → Option Bits

-- these bits, wherever they begin
abbrev pub just : Bits → Writer
just bs p = Some bs

-- no encoding
abbrev pub refused : Writer
refused p = None

-- the position after some bits, below 8
abbrev pub after : ℕ → Bits → ℕ
after p b = (p + length b) % 8

-- the bits with what follows them, where that is there
abbrev pub join : Bits → Option Bits → Option Bits
join b None = None
join b (Some c) = Some (b ++ c)

-- the first bits with what g writes after them
abbrev pub go_on : Option Bits → Writer → Writer
go_on None g p = None
go_on (Some b) g p = join b (g (after p b))

-- one writer and then another, from the position after the first
infixr 30 ◌▹◌
abbrev pub ◌▹◌ : Writer → Writer → Writer
(f ▹ g) p = go_on (f p) g p

-- writers one after the other
abbrev pub one_by_one : List Writer → Writer
one_by_one [] = just []
one_by_one (f ∷ fs) = f ▹ one_by_one fs

-- X.691 11.1: zero bits up to the next octet, in ALIGNED alone
abbrev pub padding : Variant → Writer
padding a p = Some (replicate (pad a p) false)

-- a writer, where a test passes
abbrev pub written_if : Bool → Writer → Writer
written_if true f = f
written_if false f = refused

-- X.691 11.1: a complete encoding: zero bits fill the last octet, and no bits at all become one zero octet
abbrev pub complete : Bits → List ℕ
complete bits = pack (max 1 ((length bits + 7) / 8)) bits
