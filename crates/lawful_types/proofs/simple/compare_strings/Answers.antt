use denote.Enum.Bare.{same_true}
use Rattle.std.proofs.Common.{◌≡◌, refl, Bool, true, false, not}
use Rattle.rasn_dynamic.specs.contracts.types.CharacterType.{the_type}
use Rattle.lawful_types.proofs.Leaves.{strings}
use Rattle.lawful_types.proofs.OkAnswers.{then}
use Rattle.lawful_types.proofs.simple.compare_strings.Goals as goal

not_differing : (b : Bool) → false ≡ not b → b ≡ true
not_differing true e = refl
not_differing false e = absurd cc

pub returns : goal.returns
returns c =
    let s' = c.args.newer.now in let s = c.args.older.now in
    let kinds : s'.of ≡ s.of = same_true the_type tt s'.of s.of (not_differing _ c.if-ne.ensures) in
    then c.compare_sizes.result c.compare_sizes.ensures (λ h. strings s' s kinds (c.have_same_alphabet.ensures c.if-not-have_same_alphabet.false) h)
