-- The normal form of a part depends on its form alone.
use Rattle.std.proofs.Common.{◌≡◌, refl, sym, ap, ◌∙◌, Bool, true, false, ◌&&◌, if◌then◌else◌, List, [], ◌∷◌, Option, Some, None}
use Rattle.rasn_types.specs.Values.{Value, whole, truth, nothing, item, octets, bits, characters, elements, bag, fields, alternative, day, slots}
use Rattle.rasn_schema.specs.Normal.{normal, settle, is_vacant, are_idle, is_idle, root_of, additions_of}
use Rattle.rasn_schema.specs.Schemas.{Schema, Parts, no_parts, part, Presence, required, optional, group, default}
use Rattle.rasn_record.specs.Slots.{normal_slot}
use Rattle.rasn_constructed.specs.Parts.{bare, plain, grouped, form_of, some_required, normal_part}

normal_bare : (s : Schema) (v : Value) → normal (bare s) v ≡ normal s v
unfolding normal
normal_bare Schema.boolean v = refl
normal_bare Schema.null v = refl
normal_bare Schema.real v = refl
normal_bare Schema.any v = refl
normal_bare Schema.identifier v = refl
normal_bare Schema.date v = refl
normal_bare Schema.cut v = refl
normal_bare (Schema.text k) v = refl
normal_bare (Schema.time k) v = refl
normal_bare (Schema.number bounds mark range) v = refl
normal_bare (Schema.items i j ext) v = refl
normal_bare (Schema.octet_string size mark) v = refl
normal_bare (Schema.bit_string size mark false) v = refl
normal_bare (Schema.bit_string size mark true) v = refl
normal_bare (Schema.char_string alphabet size mark) v = refl
normal_bare (Schema.containing e) v = refl
normal_bare (Schema.list e size mark) v = refl
normal_bare (Schema.set_of e size mark) v = refl
normal_bare (Schema.sequence o ps ext adds) v = refl
normal_bare (Schema.choice ps adds ext) v = refl

-- schemas that are alike but for constraints have one normal form
pub alike : (s t : Schema) (v : Value) → bare s ≡ bare t → normal s v ≡ normal t v
alike s t v h = sym (normal_bare s v) ∙ ap (λ u. normal u v) h ∙ normal_bare t v

-- of a part that is no addition group
pub plain_part : (p : Presence) (s t : Schema) (r : Option Value) → form_of p s ≡ plain (bare t) → normal_part p s r ≡ normal_slot t r
unfolding settle
plain_part p s t None e = refl
plain_part group s t (Some v) e = absurd (cc)
plain_part required s t (Some v) e = let h : bare s ≡ bare t = cc in ap Some (alike s t v h)
plain_part optional s t (Some v) e = let h : bare s ≡ bare t = cc in ap Some (alike s t v h)
plain_part (default d) s t (Some v) e = let h : bare s ≡ bare t = cc in ap Some (alike s t v h)

both_false : (a b : Bool) → b ≡ false → (a && b) ≡ false
both_false true b e = e
both_false false b e = refl

not_idle : (ps : Parts) (xs : List (Option Value)) → some_required ps ≡ true → are_idle ps xs ≡ false
unfolding are_idle is_idle
not_idle no_parts xs e = absurd (cc)
not_idle (part t p s ps) [] e = refl
not_idle (part t required s ps) (x ∷ xs) e = refl
not_idle (part t optional s ps) (x ∷ xs) e = both_false (is_idle optional x) (are_idle ps xs) (not_idle ps xs e)
not_idle (part t group s ps) (x ∷ xs) e = both_false (is_idle group x) (are_idle ps xs) (not_idle ps xs e)
not_idle (part t (default d) s ps) (x ∷ xs) e = both_false (is_idle (default d) x) (are_idle ps xs) (not_idle ps xs e)

not_vacant : (s : Schema) (v : Value) → some_required (root_of s) ≡ true → is_vacant s v ≡ false
unfolding is_vacant
not_vacant s (fields r x) e = ap (λ b. b && are_idle (additions_of s) (slots x)) (not_idle (root_of s) (slots r) e)
not_vacant s (whole z) e = refl
not_vacant s (truth b) e = refl
not_vacant s nothing e = refl
not_vacant s (item d i) e = refl
not_vacant s (octets os) e = refl
not_vacant s (bits bs) e = refl
not_vacant s (characters cs) e = refl
not_vacant s (elements vs) e = refl
not_vacant s (bag vs) e = refl
not_vacant s (alternative d i v) e = refl
not_vacant s (day y m d) e = refl

-- of an addition group with a required component
pub group_part : (p : Presence) (s t : Schema) (v : Value) → form_of p s ≡ grouped t → some_required (root_of t) ≡ true
    → normal_part p s (Some v) ≡ Some (normal t v)
unfolding settle
group_part group s t v e f = let h : s ≡ t = cc in rw h (ap (λ b. if b then None else Some (normal t v)) (not_vacant t (normal t v) f))
group_part required s t v e f = absurd (cc)
group_part optional s t v e f = absurd (cc)
group_part (default d) s t v e f = absurd (cc)
