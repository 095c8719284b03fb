-- The components of a SET in ascending order of their tags: one that is refused is one of them (ITU-T X.691, 21.1).
use Rattle.std.proofs.Common.{◌≡◌, sym, ap, ◌∙◌, ℕ, zero, suc, true, List, [], ◌∷◌, length, Option, Some, None, arith}
use Rattle.rasn_types.specs.Values.{Value}
use Rattle.rasn_types.specs.Variants.{Variant}
use Rattle.rasn_schema.specs.Orders.{canonised, canonised_slots, put_part, by_tags, how_many_less, insert_at}
use Rattle.rasn_schema.specs.Schemas.{count, Schema, Parts, no_parts, part, Presence, smallest, tags, TagTree}
use Rattle.rasn_schema.proofs.Canonised.{count_ordered, length-by_tags}
use Rattle.per_core.specs.Canon.{bodies_of, canon, if_shown, members, shown}
use Rattle.per_core.specs.Writers.{go_on}
use Rattle.per_pieces.proofs.Writing.{none_after}
use Rattle.per_core.specs.WritingFaults.{HasPart, part_here, part_after}

-- a part among others, to which one more is put
has_put : (s : Schema) (v : Value) (n : ℕ) (t : TagTree) (q : Presence) (c : Schema) (r : Option Value) (ps : Parts) (rs : List (Option Value)) → HasPart s v ps rs → HasPart s v (put_part n t q c ps) (insert_at n r rs)
has_put s v zero t q c r ps rs h = part_after h
has_put s v (suc n) t q c r (part u k d ps) (o ∷ rs) (part_here e) = part_here e
has_put s v (suc n) t q c r (part u k d ps) (o ∷ rs) (part_after h) = part_after (has_put s v n t q c r ps rs h)
has_put s v (suc n) t q c r no_parts rs h = elim h [ ]
has_put s v (suc n) t q c r (part u k d ps) [] h = elim h [ ]

-- the one that is put there
has_new : (s : Schema) (v : Value) (n : ℕ) (t : TagTree) (q : Presence) (ps : Parts) (rs : List (Option Value)) → length rs ≡ count ps → shown q (Some v) ≡ Some true → HasPart s v (put_part n t q s ps) (insert_at n (Some v) rs)
has_new s v zero t q ps rs l e = part_here e
has_new s v (suc n) t q no_parts [] l e = part_here e
has_new s v (suc n) t q (part u k d ps) (o ∷ rs) l e = part_after (has_new s v n t q ps rs (omega arith) e)
has_new s v (suc n) t q no_parts (o ∷ rs) l e = absurd (omega arith)
has_new s v (suc n) t q (part u k d ps) [] l e = absurd (omega arith)

-- a component is one of those in order
pub has_ordered : (s : Schema) (v : Value) (ps : Parts) (rs : List (Option Value)) → length rs ≡ count ps → HasPart s v ps rs → HasPart s v (canonised ps) (canonised_slots ps rs)
has_ordered s v (part t q c ps) (Some w ∷ rs) l (part_here e) =
    let k : length rs ≡ count ps = omega arith in
    has_new s v (how_many_less (smallest t) (tags ps)) t q (canonised ps) (by_tags (tags ps) rs) (length-by_tags (tags ps) rs ∙ k ∙ sym (count_ordered ps)) e
has_ordered s v (part t q c ps) (r ∷ rs) l (part_after h) =
    has_put s v (how_many_less (smallest t) (tags ps)) t q c r (canonised ps) (by_tags (tags ps) rs) (has_ordered s v ps rs (omega arith) h)
has_ordered s v no_parts rs l h = elim h [ ]
has_ordered s v (part t q c ps) [] l h = elim h [ ]

-- components of which one has no encoding
pub part_none : (a : Variant) (s : Schema) (v : Value) (ps : Parts) (rs : List (Option Value)) → HasPart s v ps rs → ((p : ℕ) → canon a s v p ≡ None) → (p : ℕ) → bodies_of (members a ps) rs p ≡ None
unfolding canon
part_none a s v (part t q c ps) (Some w ∷ rs) (part_here e) n p = rw e (ap (λ o. go_on o (bodies_of (members a ps) rs) p) (n p))
part_none a s v (part t q c ps) (r ∷ rs) (part_after h) n p = none_after (if_shown (shown q r) r (canon a c) p) (bodies_of (members a ps) rs) p (part_none a s v ps rs h n)
part_none a s v no_parts rs h n p = elim h [ ]
part_none a s v (part t q c ps) [] h n p = elim h [ ]
