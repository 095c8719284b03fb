use Rattle.std.proofs.Common.{refl, rules}
use Rattle.std.proofs.lemmas.Result.{err_from_is_err_and}
use Rattle.rasn_traits.specs.Scopes.{reads_there, reads_left_out}
use Rattle.rasn_traits.proofs.Optionals.{bit_refused, value_unread}
use Rattle.rasn_constructed.proofs.read.HoldingOptionalPhantomDataOptionDecodeHolding.decode_component.Goals as goal

pub returns-in_err-next_presence : goal.returns-in_err-next_presence
returns-in_err-next_presence g c =
    let p = err_from_is_err_and c.from_residual.result c.from_residual.ensures.1 in
    record { law = rw (p.1, p.2) (bit_refused refl c.in_err-next_presence.ensures.law); behaves = search rules }

pub returns-then-not-branch : goal.returns-then-not-branch
returns-then-not-branch g c = record { law = reads_left_out refl (rw c.if-not-branch.true at c.in_ok-next_presence.ensures.law); behaves = search rules }

pub returns-in_err-value : goal.returns-in_err-value
returns-in_err-value g c =
    let p = err_from_is_err_and c.from_residual-in_err-value.result c.from_residual-in_err-value.ensures.1 in
    let k = rw c.if-not-branch.false at c.in_ok-next_presence.ensures.law in
    let l = g.met.D.Decoder.lawful.marked.level _ _ _ k in
    record { law = rw (p.1, p.2) (value_unread g.met.D.Decoder.lawful refl k (rw l at c.in_err-value.ensures.law)); behaves = search rules }

pub returns : goal.returns
returns g c =
    let k = rw c.if-not-branch.false at c.in_ok-next_presence.ensures.law in
    let l = g.met.D.Decoder.lawful.marked.level _ _ _ k in
    record { law = reads_there refl k (rw l at c.in_ok-value.ensures.law); behaves = search rules }
