-- Tests of choices, by those of their alternatives.
use Rattle.std.proofs.Common.{◌≡◌, refl, sym, ap, ◌∙◌, ℕ, zero, suc, ◌≤◌, Bool, true, false, not, eqb, ◌&&◌, Some, arith}
use Rattle.std.proofs.lemmas.Bool.{eq-eqb}
use Rattle.std.proofs.lemmas.Bool.Decides.{same_from_decides}
use Rattle.rasn_types.specs.Values.{Value, alternative, Side, root, added, side_code, same}
use Rattle.rasn_schema.specs.Structures.{alternative_at}
use Rattle.rasn_schema.specs.Components.{TypeLists, Chosen, chosen_value, alternatives_at, root_parts, added_parts}
use Rattle.rasn_schema.specs.Normal.{normal, normal_at}
use Rattle.rasn_schema.specs.Schemas.{Schema, Parts, no_parts, part}
use Rattle.rasn_codec.specs.AtDefault.{TellsSame}
use Rattle.rasn_constructed.specs.Parts.{bare}
use Rattle.rasn_constructed.specs.Alternatives.{HasType, bare_of, is_another}
use Rattle.rasn_constructed.proofs.Equality.{same_decides}
use Rattle.rasn_constructed.proofs.Forms.{alike}

normal_at_place : (ps : Parts) (i : ℕ) (t : Schema) (v : Value) → bare_of (alternative_at ps i) ≡ Some (bare t) → normal_at ps i v ≡ normal t v
unfolding normal
normal_at_place no_parts i t v e = absurd (cc)
normal_at_place (part u p s ps) zero t v e = let h : bare s ≡ bare t = cc in alike s t v h
normal_at_place (part u p s ps) (suc i) t v e = normal_at_place ps i t v e

same_alternative : (side : Side) (i : ℕ) (v d : Value) → same v d ≡ same (alternative side i v) (alternative side i d)
same_alternative side i v d =
    let a = same_decides (alternative side i v) (alternative side i d) in
    same_from_decides _ _ (same_decides v d) (λ e. let h : alternative side i v ≡ alternative side i d = a.0 e in cc, λ e. a.1 (ap (alternative side i) e))

-- the alternative at a place before the extension marker
root_at : (cs : TypeLists) (i depth k : ℕ) (schema : ℕ → Schema) (v d : Value) (b : Bool) → HasType (root_parts cs) i schema → k ≤ depth
    → ((n : ℕ) → k ≤ n → b ≡ same (normal (schema n) v) d) → (n : ℕ) → suc depth ≤ n
    → b ≡ same (normal (alternatives_at cs.before cs.behind n) (alternative root i v)) (alternative root i d)
unfolding normal
root_at cs i depth k schema v d b t l h zero le = absurd (omega arith)
root_at cs i depth k schema v d b t l h (suc zero) le = h zero (omega arith) ∙ same_alternative root i _ d
    ∙ ap (λ w. same (alternative root i w) (alternative root i d)) (sym (normal_at_place (root_parts cs zero) i (schema zero) v t.at_none))
root_at cs i depth k schema v d b t l h (suc (suc n)) le = h (suc n) (omega arith) ∙ same_alternative root i _ d
    ∙ ap (λ w. same (alternative root i w) (alternative root i d)) (sym (normal_at_place (root_parts cs (suc n)) i (schema (suc n)) v (t.at_some n)))

pub told_root : (cs : TypeLists) (i depth k : ℕ) (schema : ℕ → Schema) (v d : Value) (b : Bool) → HasType (root_parts cs) i schema → k ≤ depth
    → ((n : ℕ) → k ≤ n → b ≡ same (normal (schema n) v) d)
    → TellsSame (alternatives_at cs.before cs.behind) (suc depth) (alternative root i v) (alternative root i d) b
told_root cs i depth k schema v d b t l h = record { at = root_at cs i depth k schema v d b t l h }

-- the alternative at a place after the extension marker
added_at : (cs : TypeLists) (i depth k : ℕ) (schema : ℕ → Schema) (v d : Value) (b : Bool) → HasType (added_parts cs) i schema → k ≤ depth
    → ((n : ℕ) → k ≤ n → b ≡ same (normal (schema n) v) d) → (n : ℕ) → suc depth ≤ n
    → b ≡ same (normal (alternatives_at cs.before cs.behind n) (alternative added i v)) (alternative added i d)
unfolding normal
added_at cs i depth k schema v d b t l h zero le = absurd (omega arith)
added_at cs i depth k schema v d b t l h (suc zero) le = h zero (omega arith) ∙ same_alternative added i _ d
    ∙ ap (λ w. same (alternative added i w) (alternative added i d)) (sym (normal_at_place (added_parts cs zero) i (schema zero) v t.at_none))
added_at cs i depth k schema v d b t l h (suc (suc n)) le = h (suc n) (omega arith) ∙ same_alternative added i _ d
    ∙ ap (λ w. same (alternative added i w) (alternative added i d)) (sym (normal_at_place (added_parts cs (suc n)) i (schema (suc n)) v (t.at_some n)))

pub told_added : (cs : TypeLists) (i depth k : ℕ) (schema : ℕ → Schema) (v d : Value) (b : Bool) → HasType (added_parts cs) i schema → k ≤ depth
    → ((n : ℕ) → k ≤ n → b ≡ same (normal (schema n) v) d)
    → TellsSame (alternatives_at cs.before cs.behind) (suc depth) (alternative added i v) (alternative added i d) b
told_added cs i depth k schema v d b t l h = record { at = added_at cs i depth k schema v d b t l h }

-- another one
apart : (s t : Side) (i j : ℕ) (v d : Value) → not (eqb (side_code s) (side_code t) && eqb i j) ≡ true → false ≡ same (alternative s i v) (alternative t j d)
apart s t i j v d h = go (same (alternative s i v) (alternative t j d)) refl
  where
    equal : alternative s i v ≡ alternative t j d → not (eqb (side_code s) (side_code t) && eqb i j) ≡ false
    equal e =
        let f : s ≡ t = cc in
        let g : i ≡ j = cc in
        rw (f, g, eq-eqb (side_code t) (side_code t) refl, eq-eqb j j refl) refl

    go : (b : Bool) → same (alternative s i v) (alternative t j d) ≡ b → false ≡ b
    go false e = refl
    go true e = absurd (let k = equal ((same_decides (alternative s i v) (alternative t j d)).0 e) in cc)

another_at : (cs : TypeLists) (s : Side) (i : ℕ) (v : Value) (side : Side) (j : ℕ) (d : Value)
    → not (eqb (side_code s) (side_code side) && eqb i j) ≡ true → (n : ℕ) → 1 ≤ n
    → false ≡ same (normal (alternatives_at cs.before cs.behind n) (alternative s i v)) (alternative side j d)
unfolding normal
another_at cs s i v side j d h zero le = absurd (omega arith)
another_at cs root i v side j d h (suc n) le = apart root side i j _ d h
another_at cs added i v side j d h (suc n) le = apart added side i j _ d h

pub told_another : (cs : TypeLists) (depth : ℕ) (c : Chosen) (side : Side) (j : ℕ) (d : Value) → is_another side j c ≡ true
    → TellsSame (alternatives_at cs.before cs.behind) (suc depth) (chosen_value c) (alternative side j d) false
told_another cs depth c side j d h = record { at = λ n le. another_at cs c.side c.place c.value side j d h n (omega arith) }
