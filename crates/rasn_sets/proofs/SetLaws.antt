-- How the law of a SET on one page follows from that of its components, over any codec.
use Rattle.std.proofs.Common.{◌≡◌, ℕ, suc, Result, List, length, Option}
use Rattle.rasn_types.specs.Values.{Value}
use Rattle.rasn_schema.specs.Components.{TypeLists, added_parts, has_marker, root_parts}
use Rattle.rasn_schema.specs.Normal.{normals}
use Rattle.rasn_schema.specs.Structures.{record_value}
use Rattle.rasn_traits.specs.Calls.{DecoderRules, EncoderRules, Encodes, Reads}
use Rattle.rasn_traits.specs.Scopes.{AnswersFields, AtFields, KeepsCodec, WrittenFields}
use Rattle.rasn_traits.specs.Sets.{ReadsSet, WritesSet}
use Rattle.rasn_sets.specs.SetRecords.{parts_in_order, set_at, slots_in_order}
use Rattle.rasn_sets.proofs.InOrder.{are_in_order, slots_alike}

-- a call that wrote a SET by a function that keeps to its components in order, and to the variant
pub set_written_around : {E X : Type 0} {rules : EncoderRules E X} {returns : X → Result (Unit {0}) E → X → Type 0} {x y : X} {r : Result (Unit {0}) E}
    (cs : TypeLists) (rs xs : List (Option Value)) (k : ℕ) → length rs ≡ length cs.before
    → WritesSet rules (root_parts cs) (has_marker cs.behind) (added_parts cs) returns x r y
    → ((a : X) (q : Result (Unit {0}) E) (b : X) → returns a q b
    → AtFields (parts_in_order cs) (added_parts cs) k (λ ps qs. WrittenFields rules ps qs (normals ps (slots_in_order cs rs)) (normals qs xs) a q b))
    → KeepsCodec rules.codec returns → Encodes rules (set_at cs) (suc k) (record_value rs xs) x r y
set_written_around {rules = rules} cs rs xs k e w s c = record {
  law = w.law rs (slots_in_order cs rs) xs k (are_in_order cs rs e) (record { keeps = λ a q b z n le. (s a q b z).at n le });
  behaves = record { again = w.again; fails = w.fails; kept = w.kept c };
}

-- a call that read a SET by a function that keeps to its components in order, and to the variant
pub set_read_around : {E S T : Type 0} {rules : DecoderRules E S} {contents added : T → List (Option Value)} {returns : S → Result T E → S → Type 0}
    {s t : S} {r : Result T E} (cs : TypeLists)
    → ReadsSet rules (root_parts cs) (has_marker cs.behind) (added_parts cs) contents added returns s r t
    → ((a : S) (q : Result T E) (b : S) → returns a q b
    → AnswersFields rules (parts_in_order cs (rules.levels a)) (added_parts cs (rules.levels a)) (λ x. slots_in_order cs (contents x)) added a q b)
    → KeepsCodec rules.codec returns → Reads rules (set_at cs (rules.levels s)) (λ x. record_value (contents x) (added x)) s r t
set_read_around {rules = rules} {contents} cs w k c = record {
  law = w.law (λ x. slots_in_order cs (contents x)) (λ n v. slots_alike cs (contents v) n) (record { keeps = λ a q b l z. k a q b z });
  behaves = record { again = w.again; fails = w.fails; kept = w.kept c };
}
