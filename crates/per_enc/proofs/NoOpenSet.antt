-- Where no SET's components are gathered, an encoder presents and refuses what its writer does.
use Rattle.std.proofs.Common.{◌≡◌, refl, sym, ap, ◌∙◌, subst, ℕ, suc, ◌+◌, arith, Bool, true, false, List, [], ◌∷◌, Option}
use Rattle.rasn_types.specs.Values.{Value}
use Rattle.rasn_schema.specs.Schemas.{count, Schema, Parts, no_parts, part, Presence}
use Rattle.rasn_traits.specs.Additions.{PresentsAddition, presents_added, presents_skipped, PresentsAdditions, presents_no_more, presents_further, RefusesAdded, RefusesAddition, refuses_added, refuses_skipped, RefusesAdditions, refuses_addition, refuses_further, refuses_inside, refuses_surplus}
use Rattle.rasn_traits.specs.Scopes.{PresentsPart, presents_required, presents_there, presents_left_out, PresentsParts, presents_end, presents_next, RefusesPart, refuses_required, refuses_there, refuses_bit, RefusesParts, refuses_here, refuses_after, PresentsFields, presents_fields, RefusesFields, refuses_root, refuses_after_root}
use Rattle.per_write.specs.Components.{Encoding, noted, stepped}
use Rattle.per_core.specs.declared.encode_error.EncodeError.{EncodeError}
use Rattle.per_write.specs.Presences.{Marks as MarksIn}
use Rattle.per_write.specs.Rules.{encoder_rules}
use Rattle.per_write.specs.WriterState.{Presents as PresentsIn}
use Rattle.per_pieces.specs.Turns.{counts, Enclosing, marked, next, past, Turn}
use Rattle.per_enc.specs.Rules.{encoding_rules, IsUnmarkedWhere, Marks, MarksWhere, noting, Presents}

-- a value begins: a component comes
pub noting_counts : (x : Encoding) (t : Turn) → x.set ≡ counts t → noting x ≡ stepped t x.writer
noting_counts x t e = ap (λ (o : Enclosing). noted o x.writer) e

pub value_inside : {t : Turn} (x y : Encoding) (s : Schema) (v : Value) → x.set ≡ counts t → Presents x s v y → PresentsIn x.writer s v y.writer × (y.set ≡ counts (next t))
value_inside {t} x y s v e w = (subst (λ (z : Encoding). PresentsIn z.writer s v y.writer) (noting_counts x t e) w.written, w.set ∙ ap (λ (z : Encoding). z.set) (noting_counts x t e))

pub mark_inside : {t : Turn} (x y : Encoding) (b : Bool) → x.set ≡ counts t → Marks x b y → MarksIn x.writer b y.writer × (y.set ≡ counts (marked b t))
mark_inside x y b e m = subst (λ (o : Enclosing). MarksWhere o x.writer b y) e m

part_inside : {t : Turn} (q : Presence) (s : Schema) (x y : Encoding) (r : Option Value) → x.set ≡ counts t → PresentsPart encoding_rules q s x r y → PresentsPart encoder_rules q s x.writer r y.writer × (y.set ≡ counts (next t))
part_inside q s x y r e (presents_required {v = v} w) = let i = value_inside x y s v e w in (presents_required i.0, i.1)
part_inside q s x y r e (presents_there {m = m} {v = v} b k w) =
    let j = mark_inside x m true e k in
    let i = value_inside m y s v j.1 w in
    (presents_there b j.0 i.0, i.1)
part_inside q s x y r e (presents_left_out b k) = let j = mark_inside x y false e k in (presents_left_out b j.0, j.1)

-- one component came, and then others
past_more : (n : ℕ) (t : Turn) → past n (next t) ≡ past (1 + n) t
past_more n t = ap (λ (k : ℕ). past k t) (let e : suc n ≡ 1 + n = omega arith in e)

pub parts_inside : {t : Turn} (ps : Parts) (x y : Encoding) (rs : List (Option Value)) → x.set ≡ counts t → PresentsParts encoding_rules ps x rs y → PresentsParts encoder_rules ps x.writer rs y.writer × (y.set ≡ counts (past (count ps) t))
parts_inside no_parts x y rs e presents_end = (presents_end, e)
parts_inside {t} (part k q s ps) x y (r ∷ rs) e (presents_next {m = m} c d) =
    let i = part_inside q s x m r e c in
    let j = parts_inside ps m y rs i.1 d in
    (presents_next i.0 j.0, j.1 ∙ ap counts (past_more (count ps) t))
parts_inside (part k q s ps) x y [] e c = elim c [ ]

-- additions are given alike, whatever is open
addition_alike : (q : Presence) (s : Schema) (x y : Encoding) (r : Option Value) → PresentsAddition encoding_rules q s x r y → PresentsAddition encoder_rules q s x.writer r y.writer × (y.set ≡ x.set)
addition_alike q s x y r (presents_added b w) = (presents_added b w.given, w.set)
addition_alike q s x y r (presents_skipped b w) = (presents_skipped b w.given, w.set)

pub additions_alike : (qs : Parts) (x y : Encoding) (xs : List (Option Value)) → PresentsAdditions encoding_rules qs x xs y → PresentsAdditions encoder_rules qs x.writer xs y.writer × (y.set ≡ x.set)
additions_alike no_parts x y xs presents_no_more = (presents_no_more, refl)
additions_alike (part t q s qs) x y (r ∷ xs) (presents_further {m = m} c d) =
    let i = addition_alike q s x m r c in
    let j = additions_alike qs m y xs d in
    (presents_further i.0 j.0, j.1 ∙ i.1)
additions_alike (part t q s qs) x y [] c = elim c [ ]

part_refused : {t : Turn} (e : EncodeError) (q : Presence) (s : Schema) (x : Encoding) (r : Option Value) → x.set ≡ counts t → RefusesPart encoding_rules e q s x r → RefusesPart encoder_rules e q s x.writer r
part_refused e q s x r n (refuses_required w) = refuses_required w
part_refused e q s x r n (refuses_there {m = m} b k w) = refuses_there b (mark_inside x m true n k).0 w
part_refused e q s x r n (refuses_bit b u) = refuses_bit b (subst (λ (o : Enclosing). IsUnmarkedWhere e o x.writer) n u)

pub parts_refused : {t : Turn} (e : EncodeError) (ps : Parts) (x : Encoding) (rs : List (Option Value)) → x.set ≡ counts t → RefusesParts encoding_rules e ps x rs → RefusesParts encoder_rules e ps x.writer rs
parts_refused e (part k q s ps) x (r ∷ rs) n (refuses_here w) = refuses_here (part_refused e q s x r n w)
parts_refused e (part k q s ps) x (r ∷ rs) n (refuses_after {m = m} c w) =
    let i = part_inside q s x m r n c in
    refuses_after i.0 (parts_refused e ps m rs i.1 w)
parts_refused e no_parts x rs n c = elim c [ ]
parts_refused e (part k q s ps) x [] n c = elim c [ ]

added_refused : (e : EncodeError) (x : Encoding) (s : Schema) (v : Value) → RefusesAdded encoding_rules e x s v → RefusesAdded encoder_rules e x.writer s v
added_refused e x s v (refuses_inside b w) = refuses_inside b.opened w
added_refused e x s v (refuses_surplus u) = refuses_surplus u

addition_refused : (e : EncodeError) (q : Presence) (s : Schema) (x : Encoding) (r : Option Value) → RefusesAddition encoding_rules e q s x r → RefusesAddition encoder_rules e q s x.writer r
addition_refused e q s x r (refuses_added {v = v} b w) = refuses_added b (added_refused e x s v w)
addition_refused e q s x r (refuses_skipped b u) = refuses_skipped b u

pub additions_refused : (e : EncodeError) (qs : Parts) (x : Encoding) (xs : List (Option Value)) → RefusesAdditions encoding_rules e qs x xs → RefusesAdditions encoder_rules e qs x.writer xs
additions_refused e (part t q s qs) x (r ∷ xs) (refuses_addition w) = refuses_addition (addition_refused e q s x r w)
additions_refused e (part t q s qs) x (r ∷ xs) (refuses_further {m = m} c w) = refuses_further (addition_alike q s x m r c).0 (additions_refused e qs m xs w)
additions_refused e no_parts x xs c = elim c [ ]
additions_refused e (part t q s qs) x [] c = elim c [ ]

-- the components of a SEQUENCE
pub fields_inside : {t : Turn} (ps qs : Parts) (x y : Encoding) (rs xs : List (Option Value)) → x.set ≡ counts t → PresentsFields encoding_rules ps qs x rs xs y → PresentsFields encoder_rules ps qs x.writer rs xs y.writer × (y.set ≡ counts (past (count ps) t))
fields_inside ps qs x y rs xs e (presents_fields {m = m} a b) =
    let i = parts_inside ps x m rs e a in
    let j = additions_alike qs m y xs b in
    (presents_fields i.0 j.0, j.1 ∙ i.1)

pub fields_refused : {t : Turn} (e : EncodeError) (ps qs : Parts) (x : Encoding) (rs xs : List (Option Value)) → x.set ≡ counts t → RefusesFields encoding_rules e ps qs x rs xs → RefusesFields encoder_rules e ps qs x.writer rs xs
fields_refused e ps qs x rs xs n (refuses_root w) = refuses_root (parts_refused e ps x rs n w)
fields_refused e ps qs x rs xs n (refuses_after_root {m = m} a w) = refuses_after_root (parts_inside ps x m rs n a).0 (additions_refused e qs m xs w)
