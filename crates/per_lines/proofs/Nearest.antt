-- The nearest of the names so far, and the name that is nearest.
use Rattle.std.proofs.Common.{ℕ, ◌≡◌, ◌∙◌, ◌+◌, ◌<◌, ◌≤◌, List, [], get_or, length, map, subst, arith, below_more, sym}
use Rattle.std.proofs.lemmas.List.{get_or-map, length-map}
use Rattle.per_lines.specs.Types.{word_of}
use Rattle.per_lines.specs.declared.types.NamedType.{NamedType}
use Rattle.per_lines.specs.declared.arguments.TypeName.TheVariants.{Boolean}
use Rattle.per_lines.specs.declared.types.NamedType.TheVariants.{Sample}
use Rattle.per_lines.specs.Nearest.{edits, IsNearest, IsNearestName}

-- no name so far is nearer than a number of edits, and so isn't the next one
pub none-nearer : (names : List (List ℕ)) (word : List ℕ) (n before now : ℕ) → now ≤ before
    → ((i : ℕ) → i < n → before ≤ edits (get_or names i []) word) → now ≤ edits (get_or names n []) word
    → (i : ℕ) → i < n + 1 → now ≤ edits (get_or names i []) word
none-nearer names word n before now less so_far next = below_more (λ i. now ≤ edits (get_or names i []) word) n
    (λ i h. let b = so_far i h in omega (arith, less, b)) next

-- the word of the type that is nearest is the nearest name
pub named_nearest : (types known : List NamedType) (word name : List ℕ) (best : ℕ) → known ≡ types
    → IsNearest (map word_of known) word best → name ≡ word_of (get_or known best (Sample Boolean)) → IsNearestName (map word_of types) word name
named_nearest types known word name best e n f =
    let within : best < length known = omega (arith, n.within, length-map known word_of) in
    subst (λ (ts : List NamedType). IsNearestName (map word_of ts) word name) e (record {
      best = best;
      is_nearest = n;
      found = f ∙ sym (get_or-map word_of known best (Sample Boolean) [] within);
    })
