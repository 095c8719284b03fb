-- What may be read: which bits may be from a position on, of all encodings that a basic decoder takes; and what a
-- reader has taken of the bits that are left.
use Rattle.std.specs.Prelude.{ℕ, ◌≡◌, ◌⊎◌, Bool, true, false, ◌++◌, length, replicate, ◌-◌, ◌%◌}
use Rattle.rasn_types.specs.Bits.{Bits, number_of}
use Rattle.rasn_types.specs.Variants.{Variant}
use Rattle.per_core.specs.Writers.{pad, after}

-- the bits that may be from a position on
abbrev pub Spelling : Type 1
Spelling = ℕ → Bits → Type 0

-- these bits alone
abbrev pub exactly : Bits → Spelling
exactly bs p bits = bits ≡ bs

-- bits of one spelling, followed by bits of another from the position after them
pub record Then (f g : Spelling) (p : ℕ) (bits : Bits) : Type 0 where
  pub front : Bits
  pub rest : Bits
  pub is_front : f p front
  pub is_rest : g (after p front) rest
  pub joins : bits ≡ front ++ rest

-- bits of one of two spellings
abbrev pub Either : Spelling → Spelling → Spelling
Either f g p bits = f p bits ⊎ g p bits

-- a spelling, where a fact holds
abbrev pub When : Type 0 → Spelling → Spelling
When A f p bits = A × f p bits

-- no bits at all
abbrev pub never : Spelling
never p bits = ⊥

-- how a reader reads: the variant, and whether padding and spare bits must be zero (this project's choice)
pub record Settings : Type 0 where
  pub variant : Variant
  pub strict : Bool

-- zero bits, where they must be
abbrev pub ZeroIf : Bool → Bits → Type 0
ZeroIf true bits = bits ≡ replicate (length bits) false
ZeroIf false bits = Unit {0}

-- the bits up to the next octet, in ALIGNED alone; of any value where zero isn't asked for (this project's choice)
pub record AnyPadding (a : Settings) (p : ℕ) (bits : Bits) : Type 0 where
  pub fits : length bits ≡ pad a.variant p
  pub zeros : ZeroIf a.strict bits

-- X.691 11.3: w bits that mean n
pub record BitField (w n p : ℕ) (bits : Bits) : Type 0 where
  pub wide : length bits ≡ w
  pub means : number_of bits ≡ n

-- the position below 8 at which the bits that are left begin, so that they end with an octet
abbrev pub bit_offset : Bits → ℕ
bit_offset b = (8 - length b % 8) % 8

-- a front of the bits s has the spelling, and the bits t are left
pub record Took (f : Spelling) (s t : Bits) : Type 0 where
  pub front : Bits
  pub joins : s ≡ front ++ t
  pub spelled : f (bit_offset s) front

-- nothing is in some form at the front of bits
abbrev pub NoneIn : {X : Type 0} → (X → Spelling) → Bits → Type 0
NoneIn {X} form s = (x : X) (t : Bits) → Took (form x) s t → ⊥
