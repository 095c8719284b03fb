-- The contents octets of an OBJECT IDENTIFIER (ITU-T X.690, 8.19).
use Rattle.std.specs.Prelude.{◌≡◌, ℕ, zero, suc, ◌+◌, ◌*◌, ◌/◌, ◌%◌, ◌^◌, ◌<◌, ◌≤◌, Bool, true, false, if◌then◌else◌}
use Rattle.std.specs.Prelude.{not, ◌&&◌, ◌||◌, nat_lt, ◌==◌, List, [], ◌∷◌, ◌++◌, length, drop}
use Rattle.rasn_types.specs.Contents.{Arc}
use Rattle.std.specs.List.{list_all}

-- X.690 8.19.2: the groups of seven bits of a number that are as many as hold it, at most `most`, highest first, the
-- high bit of each octet set
unfoldable pub leading_octets : ℕ → ℕ → List ℕ
leading_octets zero n = []
leading_octets (suc most) n = if n == 0 then [] else leading_octets most (n / 128) ++ (128 + n % 128) ∷ []

-- X.690 8.19.2: the octets of a subidentifier: as few groups of seven bits as hold it, the high bit clear on the last
unfoldable pub subidentifier : ℕ → List ℕ
unfolding leading_octets
subidentifier n = leading_octets n (n / 128) ++ n % 128 ∷ []

-- X.690 8.19.2: the octets of subidentifiers
abbrev pub subidentifiers : List ℕ → List ℕ
subidentifiers [] = []
subidentifiers (n ∷ ns) = subidentifier n ++ subidentifiers ns

-- X.680 32.3 and X.690 8.19.4: whether numbers are the arcs of an object: at least two, the first 0, 1 or 2, and the
-- second below 40 under 0 and 1. Arcs are below 2 ^ 32 (this project's choice).
abbrev pub are_arcs : List ℕ → Bool
are_arcs [] = false
are_arcs (first ∷ []) = false
are_arcs (first ∷ second ∷ others) =
    (first == 2 || (nat_lt first 2 && nat_lt second 40)) && list_all (λ arc. nat_lt arc (2 ^ 32)) (second ∷ others)

-- X.690 8.19: the contents octets of the object with these arcs; of other numbers there are none. The first two arcs
-- are one subidentifier (8.19.4).
unfoldable pub contents : List ℕ → List ℕ
contents [] = []
contents (first ∷ []) = []
contents (first ∷ second ∷ others) =
    if are_arcs (first ∷ second ∷ others) then subidentifiers ((40 * first + second) ∷ others) else []

-- the number is the first subidentifier of these arcs
pub record IsFirstSubidentifier (arcs : List ℕ) (number : ℕ) : Type 0 where
  pub lawful : are_arcs arcs ≡ true
  pub enough : 2 ≤ length arcs
  pub written : contents arcs ≡ subidentifier number ++ subidentifiers (drop 2 arcs)

-- X.690 8.19.2: a subidentifier has begun where its number so far isn't 0, since its first octet isn't 80
abbrev pub begun_arc : ℕ → ℕ → Arc
begun_arc number limit = record { begun = nat_lt 0 number; value = number; bound = limit }

-- the octet reads the number on
pub record IsReadOn (begun limit octet number : ℕ) : Type 0 where
  pub value : number ≡ 128 * begun + octet % 128
  pub below : number < limit
  pub fewest : (nat_lt 0 begun || not (octet == 128)) ≡ true

-- the number that the next subidentifier after these arcs may not reach
abbrev pub limit_after : List ℕ → ℕ
limit_after [] = 2 ^ 32 + 80
limit_after (arc ∷ arcs) = 2 ^ 32

-- whether numbers are the arcs of an object, or none as yet
abbrev pub are_arcs_so_far : List ℕ → Bool
are_arcs_so_far [] = true
are_arcs_so_far (arc ∷ arcs) = are_arcs (arc ∷ arcs)

-- each object has contents octets of its own
abbrev pub OneContents : Type 0
OneContents = (arcs others : List ℕ) → are_arcs arcs ≡ true → are_arcs others ≡ true →
    contents arcs ≡ contents others → arcs ≡ others
