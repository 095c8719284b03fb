-- The bits of an addition group: all are zeros exactly where it holds nothing, unless a part of its root is required (ITU-T X.691, 19.9).
use Rattle.std.specs.Prelude.{not, ◌||◌}
use Rattle.std.proofs.Common.{◌≡◌, refl, sym, ap, ap₂, ◌∙◌, ℕ, Bool, true, false, ◌&&◌, cond, List, [], ◌∷◌, ◌++◌, Option, Some, None}
use Rattle.rasn_types.specs.Bits.{Bits}
use Rattle.rasn_types.specs.Values.{Value, same}
use Rattle.rasn_types.specs.Variants.{Variant}
use Rattle.rasn_schema.specs.Normal.{are_idle, is_idle}
use Rattle.rasn_schema.specs.Schemas.{Presence, required, optional, group, default, Parts, no_parts, part}
use Rattle.per_core.proofs.Presenting.{some_both}
use Rattle.per_core.specs.Canon.{any_set, bitmap, bitmap_of, bodies_of, canon, extension_bit, flagged, flags_of, if_shown, members, opens_of, record_of, shown, with_additions}
use Rattle.per_core.specs.Writers.{Writer, after, go_on, join, just, ◌▹◌}
use Rattle.per_write.specs.Additions.{has_required, is_group_there, is_required}

inside : {s t : Bits} → Some s ≡ Some t → s ≡ t
inside e = cc

-- what two writers wrote one after another
record IsSplit (f g : Writer) (p : ℕ) (bs : Bits) : Type 0 where
  front : Bits
  rest : Bits
  front_is : f p ≡ Some front
  rest_is : g (after p front) ≡ Some rest
  all : bs ≡ front ++ rest

split : (f g : Writer) (p : ℕ) (bs : Bits) → (f ▹ g) p ≡ Some bs → IsSplit f g p bs
split f g p bs e = go (f p) refl e
  where
    inner : (b : Bits) → f p ≡ Some b → (o : Option Bits) → g (after p b) ≡ o → join b o ≡ Some bs → IsSplit f g p bs
    inner b h None k e = absurd cc
    inner b h (Some c) k e = record { front = b; rest = c; front_is = h; rest_is = k; all = inside (sym e) }

    go : (o : Option Bits) → f p ≡ o → go_on o g p ≡ Some bs → IsSplit f g p bs
    go None h e = absurd cc
    go (Some b) h e = inner b h (g (after p b)) refl e

any_set-append : (xs ys : Bits) → any_set (xs ++ ys) ≡ (any_set xs || any_set ys)
any_set-append [] ys = refl
any_set-append (true ∷ xs) ys = refl
any_set-append (false ∷ xs) ys = any_set-append xs ys

or_nothing : (x : Bool) → (x || false) ≡ x
or_nothing true = refl
or_nothing false = refl

or_left : (x y : Bool) → (x || y) ≡ false → x ≡ false
or_left true y e = e
or_left false y e = refl

or_right : (x y : Bool) → (x || y) ≡ false → y ≡ false
or_right true y e = absurd cc
or_right false y e = e

and_left : (x y : Bool) → (x && y) ≡ true → x ≡ true
and_left true y e = refl
and_left false y e = e

and_right : (x y : Bool) → (x && y) ≡ true → y ≡ true
and_right true y e = e
and_right false y e = absurd cc

not_both : (x y : Bool) → (not x || not y) ≡ not (x && y)
not_both true y = refl
not_both false y = refl

and_nothing : (x : Bool) → (x && false) ≡ false
and_nothing true = refl
and_nothing false = refl

and_all : (x : Bool) → (x && true) ≡ x
and_all true = refl
and_all false = refl

-- a part that is required is never idle
required_idle : (ps : Parts) (rs : List (Option Value)) → has_required ps ≡ true → are_idle ps rs ≡ false
unfolding are_idle is_idle
required_idle no_parts rs h = absurd cc
required_idle (part t q s ps) [] h = refl
required_idle (part t required s ps) (r ∷ rs) h = refl
required_idle (part t optional s ps) (r ∷ rs) h = ap (λ (b : Bool). is_idle optional r && b) (required_idle ps rs h) ∙ and_nothing (is_idle optional r)
required_idle (part t group s ps) (r ∷ rs) h = ap (λ (b : Bool). is_idle group r && b) (required_idle ps rs h) ∙ and_nothing (is_idle group r)
required_idle (part t (default d) s ps) (r ∷ rs) h = ap (λ (b : Bool). is_idle (default d) r && b) (required_idle ps rs h) ∙ and_nothing (is_idle (default d) r)

-- X.691 19.2: a presence bit is 1 exactly where the part isn't idle
flag_set : (q : Presence) (r : Option Value) (p : ℕ) (b : Bits) → is_required q ≡ false → flagged q (shown q r) p ≡ Some b → any_set b ≡ not (is_idle q r)
unfolding shown is_idle
flag_set required r p b h e = absurd cc
flag_set optional None p b h e = ap any_set (inside (sym e))
flag_set optional (Some v) p b h e = ap any_set (inside (sym e))
flag_set group None p b h e = ap any_set (inside (sym e))
flag_set group (Some v) p b h e = ap any_set (inside (sym e))
flag_set (default d) None p b h e = absurd cc
flag_set (default d) (Some v) p b h e = ap any_set (inside (sym e)) ∙ or_nothing (not (same v d))

flags_set : (a : Variant) (ps : Parts) (rs : List (Option Value)) (p : ℕ) (bs : Bits) → has_required ps ≡ false → flags_of (members a ps) rs p ≡ Some bs → any_set bs ≡ not (are_idle ps rs)
unfolding canon are_idle
flags_set a no_parts [] p bs h e = ap any_set (inside (sym e))
flags_set a no_parts (r ∷ rs) p bs h e = absurd cc
flags_set a (part t q s ps) [] p bs h e = absurd cc
flags_set a (part t q s ps) (r ∷ rs) p bs h e =
    let d = split (flagged q (shown q r)) (flags_of (members a ps) rs) p bs e in
    ap any_set d.all ∙ any_set-append d.front d.rest
    ∙ ap₂ (λ x y. x || y) (flag_set q r p d.front (or_left (is_required q) (has_required ps) h) d.front_is) (flags_set a ps rs (after p d.front) d.rest (or_right (is_required q) (has_required ps) h) d.rest_is)
    ∙ not_both (is_idle q r) (are_idle ps rs)

-- X.691 19.4: an idle part has no bits of its own
body_none : (q : Presence) (r : Option Value) (w : Value → Writer) (p : ℕ) (b : Bits) → is_idle q r ≡ true → if_shown (shown q r) r w p ≡ Some b → b ≡ []
unfolding shown is_idle
body_none required r w p b h e = absurd cc
body_none optional None w p b h e = inside (sym e)
body_none optional (Some v) w p b h e = absurd cc
body_none group None w p b h e = inside (sym e)
body_none group (Some v) w p b h e = absurd cc
body_none (default d) None w p b h e = absurd cc
body_none (default d) (Some v) w p b h e = inside (sym (rw h at e))

bodies_none : (a : Variant) (ps : Parts) (rs : List (Option Value)) (p : ℕ) (bs : Bits) → are_idle ps rs ≡ true → bodies_of (members a ps) rs p ≡ Some bs → bs ≡ []
unfolding canon are_idle
bodies_none a no_parts [] p bs h e = inside (sym e)
bodies_none a no_parts (r ∷ rs) p bs h e = absurd cc
bodies_none a (part t q s ps) [] p bs h e = absurd cc
bodies_none a (part t q s ps) (r ∷ rs) p bs h e =
    let d = split (if_shown (shown q r) r (canon a s)) (bodies_of (members a ps) rs) p bs e in
    d.all ∙ ap₂ (λ (x y : Bits). x ++ y) (body_none q r (canon a s) p d.front (and_left (is_idle q r) (are_idle ps rs) h) d.front_is) (bodies_none a ps rs (after p d.front) d.rest (and_right (is_idle q r) (are_idle ps rs) h) d.rest_is)

-- X.691 19.8: an addition's bit is 1 exactly where it isn't idle
shown_idle : (q : Presence) (r : Option Value) (b : Bool) → shown q r ≡ Some b → b ≡ not (is_idle q r)
unfolding shown is_idle
shown_idle required None b e = absurd cc
shown_idle required (Some v) b e = cc
shown_idle optional None b e = cc
shown_idle optional (Some v) b e = cc
shown_idle group None b e = cc
shown_idle group (Some v) b e = cc
shown_idle (default d) None b e = absurd cc
shown_idle (default d) (Some v) b e = cc

bitmap_set : (a : Variant) (ps : Parts) (rs : List (Option Value)) (bs : Bits) → bitmap_of (members a ps) rs ≡ Some bs → any_set bs ≡ not (are_idle ps rs)
unfolding canon bitmap_of are_idle
bitmap_set a no_parts [] bs e = ap any_set (inside (sym e))
bitmap_set a no_parts (r ∷ rs) bs e = absurd cc
bitmap_set a (part t q s ps) [] bs e = absurd cc
bitmap_set a (part t q s ps) (r ∷ rs) bs e =
    let d = some_both (shown q r) (bitmap_of (members a ps) rs) bs e in
    ap any_set d.4 ∙ ap₂ (λ x y. x || y) (shown_idle q r d.0 d.2) (bitmap_set a ps rs d.1 d.3) ∙ not_both (is_idle q r) (are_idle ps rs)

-- the root of a group without required parts
root_set : (a : Variant) (ps : Parts) (rs : List (Option Value)) (p : ℕ) (bs : Bits) → has_required ps ≡ false → (flags_of (members a ps) rs ▹ bodies_of (members a ps) rs) p ≡ Some bs → any_set bs ≡ not (are_idle ps rs)
root_set a ps rs p bs h e =
    let d = split (flags_of (members a ps) rs) (bodies_of (members a ps) rs) p bs e in
    ap any_set d.all ∙ any_set-append d.front d.rest ∙ ap (λ x. x || any_set d.rest) (flags_set a ps rs p d.front h d.front_is) ∙ go (are_idle ps rs) refl (after p d.front) d.rest d.rest_is
  where
    go : (i : Bool) → are_idle ps rs ≡ i → (q : ℕ) (bs : Bits) → bodies_of (members a ps) rs q ≡ Some bs → (not i || any_set bs) ≡ not i
    go false i q bs e = refl
    go true i q bs e = ap any_set (bodies_none a ps rs q bs i e)

-- X.691 19.9: the bits of a group without required parts
group_set : (a : Variant) (ext : Bool) (ps adds : Parts) (r x : List (Option Value)) (p : ℕ) (bits : Bits) → has_required ps ≡ false → record_of a ext (members a ps) (members a adds) r x p ≡ Some bits →
    any_set bits ≡ not (are_idle ps r && are_idle adds x)
unfolding record_of
group_set a ext ps adds r x p bits h e = whole (bitmap_of (members a adds) x) refl e
  where
    inner : Writer
    inner = flags_of (members a ps) r ▹ bodies_of (members a ps) r

    none_there : (i : Bool) → are_idle adds x ≡ i → i ≡ true → not (are_idle ps r) ≡ not (are_idle ps r && are_idle adds x)
    none_there i e t = sym (ap (λ b. not (are_idle ps r && b)) (e ∙ t) ∙ ap not (and_all (are_idle ps r)))

    of_flags : (ext t : Bool) (bs : Bits) → t ≡ not (are_idle adds x) → (extension_bit ext t ▹ inner ▹ cond t (bitmap a bs ▹ opens_of a (members a adds) x bs) (just [])) p ≡ Some bits →
        any_set bits ≡ not (are_idle ps r && are_idle adds x)
    of_flags false true bs n k = absurd cc
    of_flags true true bs n k =
        let d = split (just (true ∷ [])) (inner ▹ (bitmap a bs ▹ opens_of a (members a adds) x bs)) p bits k in
        ap any_set d.all ∙ any_set-append d.front d.rest ∙ ap (λ c. any_set c || any_set d.rest) (inside (sym d.front_is)) ∙ there (are_idle adds x) refl n
      where
        there : (i : Bool) → are_idle adds x ≡ i → true ≡ not i → true ≡ not (are_idle ps r && are_idle adds x)
        there true e n = absurd cc
        there false e n = sym (ap (λ b. not (are_idle ps r && b)) e ∙ ap not (and_nothing (are_idle ps r)))
    of_flags ext false bs n k =
        let d = split (extension_bit ext false) (inner ▹ just []) p bits k in
        let i = split inner (just []) (after p d.front) d.rest d.rest_is in
        ap any_set d.all ∙ any_set-append d.front d.rest ∙ ap (λ b. b || any_set d.rest) (zero_bit ext (after 0 []) d.front (place ext d.front d.front_is))
        ∙ ap any_set i.all ∙ any_set-append i.front i.rest ∙ ap (λ c. any_set i.front || any_set c) (inside (sym i.rest_is)) ∙ or_nothing (any_set i.front)
        ∙ root_set a ps r (after p d.front) i.front h i.front_is ∙ idle (are_idle adds x) refl n
      where
        idle : (i : Bool) → are_idle adds x ≡ i → false ≡ not i → not (are_idle ps r) ≡ not (are_idle ps r && are_idle adds x)
        idle true e n = none_there true e refl
        idle false e n = absurd cc

        place : (ext : Bool) (b : Bits) → extension_bit ext false p ≡ Some b → extension_bit ext false 0 ≡ Some b
        place true b e = e
        place false b e = e

        zero_bit : (ext : Bool) (q : ℕ) (b : Bits) → extension_bit ext false 0 ≡ Some b → any_set b ≡ false
        zero_bit true q b e = ap any_set (inside (sym e))
        zero_bit false q b e = ap any_set (inside (sym e))

    whole : (o : Option Bits) → bitmap_of (members a adds) x ≡ o → with_additions a ext (members a adds) x inner o p ≡ Some bits → any_set bits ≡ not (are_idle ps r && are_idle adds x)
    whole None m k = absurd cc
    whole (Some bs) m k = of_flags ext (any_set bs) bs (bitmap_set a adds x bs m) k

-- X.691 19.9: whether a group is there, by its bits
pub group_there : (a : Variant) (ext : Bool) (ps adds : Parts) (r x : List (Option Value)) (p : ℕ) (bits : Bits) → record_of a ext (members a ps) (members a adds) r x p ≡ Some bits →
    is_group_there (has_required ps) bits ≡ not (are_idle ps r && are_idle adds x)
group_there a ext ps adds r x p bits e = go (has_required ps) refl
  where
    go : (b : Bool) → has_required ps ≡ b → is_group_there (has_required ps) bits ≡ not (are_idle ps r && are_idle adds x)
    go true h = ap (λ b. b || any_set bits) h ∙ sym (ap (λ b. not (b && are_idle adds x)) (required_idle ps r h))
    go false h = ap (λ b. b || any_set bits) h ∙ group_set a ext ps adds r x p bits h e
