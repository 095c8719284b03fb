-- There is one answer to a line.
use Rattle.std.proofs.Common.{true, ◌≡◌, sym, ap, ◌∙◌, subst, ℕ, ◌+◌, List, [], ◌∷◌, ◌++◌}
use Rattle.std.proofs.Math.Nat.{le-add_left, le-add_right}
use Rattle.std.proofs.lemmas.Option.{same_Some}
use Rattle.std.specs.Result.{result_ok}
use Rattle.hex.specs.Hex.{encode_lower}
use Rattle.rasn_below.specs.Types.{Schema, normal}
use Rattle.per_core.specs.Rows.{variant_of, Variant, bytes}
use Rattle.per_core.specs.Spellings.{Settings}
use Rattle.rasn_per.specs.Calls.{reading, basically}
use Rattle.per_lines.specs.declared.arguments.TypeName.{TypeName}
use Rattle.per_lines.specs.declared.arguments.Form.{Form}
use Rattle.per_lines.specs.declared.arguments.Form.TheVariants.{OneLine, Lines, Zero, As}
use Rattle.per_lines.specs.declared.arguments.Arguments.{Arguments}
use Rattle.per_lines.specs.Recoding.{schema_of, Recodes, Converts}
use Rattle.per_lines.specs.Answers.{Answers, IsAnswer}

-- octets have one canonical form
one_form : (a : Settings) (schema : ℕ → Schema) (octets c d : List ℕ) →
    Recodes a schema octets c → Recodes a schema octets d → d ≡ c
one_form a schema octets c d x y =
    let n = x.levels + y.levels in
    let same = x.is_read.only y.value y.is_read.are_read in
    let of_x = x.is_written.at n (le-add_right x.levels y.levels) in
    let of_y = y.is_written.at n (le-add_left y.levels x.levels) in
    same_Some d c (sym of_y ∙ ap (λ z. bytes a.variant (schema n) (normal (schema n) z)) same ∙ of_x)

-- octets are converted to the same octets
one_conversion : (v : Variant) (t : TypeName) (f : Form) (octets c d : List ℕ) →
    Converts v t f octets c → Converts v t f octets d → d ≡ c
one_conversion v t OneLine octets c d x y = one_form (basically v) (schema_of t) octets c d x y
one_conversion v t Lines octets c d x y = one_form (basically v) (schema_of t) octets c d x y
one_conversion v t Zero octets c d x y = one_form (reading true v) (schema_of t) octets c d x y
one_conversion v t (As other) octets c d (m, x, x2) (n, y, y2) =
    let same = one_form (basically v) (schema_of t) octets m n x y in
    one_form (basically v) (schema_of other) m c d x2 (subst (λ os. Recodes (basically v) (schema_of other) os d) same y2)

one_answer : (a : Arguments) (line text other : List ℕ) → Answers a line text → Answers a line other → other ≡ text
one_answer a line text other x y =
    let octets = same_Some y.octets x.octets (ap result_ok (sym y.hexadecimal ∙ x.hexadecimal)) in
    let of_x = subst (λ os. Converts (variant_of a.codec) a.type_name a.form os y.canonical) octets y.converted in
    let canonical = one_conversion (variant_of a.codec) a.type_name a.form x.octets x.canonical y.canonical x.converted of_x in
    y.is_text ∙ ap (λ c. encode_lower c ++ 10 ∷ []) canonical ∙ sym x.is_text

pub is_answer : (a : Arguments) (line text : List ℕ) → Answers a line text → IsAnswer a line text
is_answer a line text x = record { answers = x; only = λ other y. one_answer a line text other x y }
