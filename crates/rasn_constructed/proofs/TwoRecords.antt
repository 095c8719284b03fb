-- Tests of records, by those of their root components and their additions.
use Rattle.std.proofs.Common.{◌≡◌, refl, sym, ap, ◌∙◌, ℕ, zero, suc, ◌≤◌, Bool, true, false, ◌&&◌, List, [], ◌∷◌, Option, Some, None, arith}
use Rattle.std.specs.Bool.{Decides}
use Rattle.std.proofs.lemmas.Bool.Decides.{same_from_decides}
use Rattle.rasn_types.specs.Values.{Value, as_slots, slots, same}
use Rattle.rasn_types.proofs.Values.{slots-as_slots}
use Rattle.rasn_schema.specs.Components.{TypeLists, sequence_at, root_parts, added_parts}
use Rattle.rasn_schema.specs.Normal.{normal, normals}
use Rattle.rasn_schema.specs.Structures.{record_value}
use Rattle.rasn_schema.specs.Schemas.{Parts}
use Rattle.rasn_record.specs.Lists.{deeper_of}
use Rattle.rasn_codec.specs.AtDefault.{TellsSame}
use Rattle.rasn_constructed.specs.Parts.{Form, forms_of, HaveForms, AreFilled, TellsParts, same_slot, same_slots}
use Rattle.rasn_constructed.proofs.Equality.{same_decides, both_decide}
use Rattle.rasn_constructed.proofs.RecordTests.{both_told, one_false}

slot_decides : (r d : Option Value) → Decides (same_slot r d) (r ≡ d)
slot_decides None None = (λ e. refl, λ e. refl)
slot_decides None (Some w) = (λ e. absurd (cc), λ e. absurd (cc))
slot_decides (Some v) None = (λ e. absurd (cc), λ e. absurd (cc))
slot_decides (Some v) (Some w) = let d = same_decides v w in (λ e. ap Some (d.0 e), λ e. d.1 (cc))

slots_decide : (rs ds : List (Option Value)) → Decides (same_slots rs ds) (rs ≡ ds)
slots_decide [] [] = (λ e. refl, λ e. refl)
slots_decide [] (d ∷ ds) = (λ e. absurd (cc), λ e. absurd (cc))
slots_decide (r ∷ rs) [] = (λ e. absurd (cc), λ e. absurd (cc))
slots_decide (r ∷ rs) (d ∷ ds) = both_decide (same_slot r d) (same_slots rs ds) (slot_decides r d) (slots_decide rs ds) (λ e f. cc) (λ e. (cc, cc))

slots_one : (rs ds : List (Option Value)) → as_slots rs ≡ as_slots ds → rs ≡ ds
slots_one rs ds e = sym (slots-as_slots rs) ∙ ap slots e ∙ slots-as_slots ds

records_one : (rs xs ds es : List (Option Value)) → record_value rs xs ≡ record_value ds es → (rs ≡ ds) × (xs ≡ es)
records_one rs xs ds es e =
    let h : as_slots rs ≡ as_slots ds = cc in
    let k : as_slots xs ≡ as_slots es = cc in
    (slots_one rs ds h, slots_one xs es k)

same_records : (rs xs ds es : List (Option Value)) → (same_slots rs ds && same_slots xs es) ≡ same (record_value rs xs) (record_value ds es)
same_records rs xs ds es = same_from_decides _ _
    (both_decide (same_slots rs ds) (same_slots xs es) (slots_decide rs ds) (slots_decide xs es) (λ e f. cc) (records_one rs xs ds es))
    (same_decides (record_value rs xs) (record_value ds es))

-- the normal form of a record
normal_record : (cs : TypeLists) (n : ℕ) (rs xs : List (Option Value)) → normal (sequence_at cs (suc n)) (record_value rs xs)
    ≡ record_value (normals (root_parts cs n) rs) (normals (added_parts cs n) xs)
unfolding normal
normal_record cs n rs xs = rw (slots-as_slots rs, slots-as_slots xs) refl

forms_at : {parts : ℕ → Parts} {forms : ℕ → List Form} → HaveForms parts forms → (n : ℕ) → forms_of (parts n) ≡ forms n
forms_at h zero = h.at_none
forms_at h (suc n) = h.at_some n

root_within : (k l depth : ℕ) → deeper_of k l ≤ depth → k ≤ depth
root_within k l depth h = omega arith

added_within : (k l depth : ℕ) → deeper_of k l ≤ depth → l ≤ depth
added_within k l depth h = omega arith

-- of a record whose root components are those of the default, by its additions
added_at : (cs : TypeLists) (fs gs : ℕ → List Form) (k l depth : ℕ) (rs xs ds es : List (Option Value)) (a b : Bool)
    → HaveForms (root_parts cs) fs → HaveForms (added_parts cs) gs → AreFilled fs → AreFilled gs → deeper_of k l ≤ depth
    → TellsParts fs k rs ds a → a ≡ true → TellsParts gs l xs es b → (n : ℕ) → suc depth ≤ n
    → b ≡ same (normal (sequence_at cs n) (record_value rs xs)) (record_value ds es)
added_at cs fs gs k l depth rs xs ds es a b hf hg f g d t e u zero le = absurd (omega arith)
added_at cs fs gs k l depth rs xs ds es a b hf hg f g d t e u (suc n) le =
    let k1 = root_within k l depth d in let l1 = added_within k l depth d in
    rw (normal_record cs n rs xs) (both_told a b _ _ (t.at f n (omega arith) (root_parts cs n) (forms_at hf n)) e
    (u.at g n (omega arith) (added_parts cs n) (forms_at hg n)) ∙ same_records _ _ ds es)

pub told_additions : (cs : TypeLists) (fs gs : ℕ → List Form) (k l depth : ℕ) (rs xs ds es : List (Option Value)) (a b : Bool)
    → HaveForms (root_parts cs) fs → HaveForms (added_parts cs) gs → AreFilled fs → AreFilled gs → deeper_of k l ≤ depth
    → TellsParts fs k rs ds a → a ≡ true → TellsParts gs l xs es b
    → TellsSame (sequence_at cs) (suc depth) (record_value rs xs) (record_value ds es) b
told_additions cs fs gs k l depth rs xs ds es a b hf hg f g d t e u =
    record { at = added_at cs fs gs k l depth rs xs ds es a b hf hg f g d t e u }

-- of one whose root components are others
root_at : (cs : TypeLists) (fs : ℕ → List Form) (k l depth : ℕ) (rs xs ds es : List (Option Value)) (a : Bool)
    → HaveForms (root_parts cs) fs → AreFilled fs → deeper_of k l ≤ depth → TellsParts fs k rs ds a → a ≡ false → (n : ℕ) → suc depth ≤ n
    → false ≡ same (normal (sequence_at cs n) (record_value rs xs)) (record_value ds es)
root_at cs fs k l depth rs xs ds es a hf f d t e zero le = absurd (omega arith)
root_at cs fs k l depth rs xs ds es a hf f d t e (suc n) le =
    let k1 = root_within k l depth d in
    rw (normal_record cs n rs xs) (one_false a _ _ (t.at f n (omega arith) (root_parts cs n) (forms_at hf n)) e ∙ same_records _ _ ds es)

pub told_root : (cs : TypeLists) (fs : ℕ → List Form) (k l depth : ℕ) (rs xs ds es : List (Option Value)) (a : Bool)
    → HaveForms (root_parts cs) fs → AreFilled fs → deeper_of k l ≤ depth → TellsParts fs k rs ds a → a ≡ false
    → TellsSame (sequence_at cs) (suc depth) (record_value rs xs) (record_value ds es) false
told_root cs fs k l depth rs xs ds es a hf f d t e = record { at = root_at cs fs k l depth rs xs ds es a hf f d t e }
