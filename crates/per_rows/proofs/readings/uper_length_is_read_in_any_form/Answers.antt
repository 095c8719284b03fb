use Rattle.std.proofs.Common.{refl, lit<, ℕ, List, [], ◌∷◌, ◌++◌, ltb, ltb-true, replicate}
use Rattle.rasn_types.specs.Bits.{to_bits}
use Rattle.per_core.specs.Writers.{just, one_by_one, written_if}
use Rattle.per_core.specs.Counts.{octet_writers}
use Rattle.per_core.specs.Basic.{basic_in, octet, OneByOne, Fragment}
use Rattle.per_core.specs.Canon.{canon}
use Rattle.per_core.proofs.Counting.{row_within}
use Rattle.per_core.proofs.WriterSpellings.{Within, relax, then_within, left_within, when_within, if_within, field_within, padding_within}
use Rattle.per_rows.specs.Build.{uper}
use Rattle.per_rows.proofs.Reading.{filled, in_two_octets}
use Rattle.per_rows.proofs.readings.uper_length_is_read_in_any_form.Goals as goal

pub returns-clause-two_octets : goal.returns-clause-two_octets
unfolding basic_in canon
returns-clause-two_octets c = filled uper (relax (λ p b x. record { of = 0xaa ∷ 0xbb ∷ []; is = refl; spelled = x }) (in_two_octets uper (0xaa ∷ 0xbb ∷ []) refl (lit< tt)))
    32 (0x80 ∷ 0x02 ∷ 0xaa ∷ 0xbb ∷ []) refl (lit< tt) (lit< tt) tt

octet_row : (os : List ℕ) → Within (one_by_one (octet_writers os)) (OneByOne octet os)
octet_row os = row_within (λ o. written_if (ltb o 256) (just (to_bits 8 o))) octet (λ o. if_within (ltb o 256) (λ e. field_within 8 o (ltb-true o 256 e))) os

fragment : Within (just (to_bits 8 0xc1)) (Fragment 16384)
fragment = relax (λ p b x. record { times = 1; some = lit< tt; few = lit< tt; is = refl; spelled = x }) (field_within 8 0xc1 (lit< tt))

pub returns-clause-two_fragments : goal.returns-clause-two_fragments
unfolding basic_in canon
returns-clause-two_fragments c =
    let half = replicate 16384 0x2a in
    let last = then_within (padding_within uper) (then_within (left_within (when_within (lit< tt) (field_within 8 0 (lit< tt)))) (octet_row [])) in
    let second = relax (λ p b x. record { these = half; others = []; all = refl; spelled = x }) (then_within (padding_within uper) (then_within fragment (then_within (octet_row half) last))) in
    let both = relax (λ p b x. record { these = half; others = half; all = refl; spelled = x }) (then_within (padding_within uper) (then_within fragment (then_within (octet_row half) second))) in
    filled uper (relax (λ p b x. record { of = half ++ half; is = refl; spelled = record { allowed = refl; spelled = record { fragments = 2; spelled = x } } }) both)
    262168 (0xc1 ∷ (half ++ 0xc1 ∷ (half ++ 0x00 ∷ []))) refl (lit< tt) (lit< tt) tt
