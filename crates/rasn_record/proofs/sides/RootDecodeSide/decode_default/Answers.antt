use Rattle.std.proofs.Common.{refl, rules}
use Rattle.std.proofs.lemmas.Result.{err_from_is_err_and}
use Rattle.rasn_traits.specs.Scopes.{reads_left_out}
use Rattle.rasn_traits.proofs.Optionals.{bit_refused, value_read}
use Rattle.rasn_record.proofs.sides.RootDecodeSide.decode_default.Goals as goal

pub returns-in_err-next_presence : goal.returns-in_err-next_presence
returns-in_err-next_presence g c =
    let p = err_from_is_err_and c.from_residual.result c.from_residual.ensures.1 in
    record { law = rw (p.1, p.2) (bit_refused refl c.in_err-next_presence.ensures.law); behaves = search rules }

pub returns-then-branch : goal.returns-then-branch
returns-then-branch g c =
    let k = rw c.if-branch.true at c.in_ok-next_presence.ensures.law in
    let l = g.met.D.Decoder.lawful.marked.level _ _ _ k in
    let w = c.decode_with_tag_and_constraints.ensures.law in
    record { law = value_read g.met.D.Decoder.lawful _ _ _ _ _ _ refl k (rw l at w); behaves = search rules }

pub returns-in-Ok : goal.returns-in-Ok
returns-in-Ok g c =
    let k = rw c.if-branch.false at c.in_ok-next_presence.ensures.law in
    record { law = rw c.in-Ok.ensures (reads_left_out refl k); behaves = search rules }
