use Rattle.std.proofs.Common.{◌∙◌, ◌≤◌, ◌*◌, ap, refl, subst, length, sym, Err}
use Rattle.std.proofs.lemmas.Result.{err_from_is_err_and}
use Rattle.rasn_per.proofs.Answered.{read_front, unread_front, none_after}
use Rattle.rasn_per.proofs.ItemCounts.{few_in_front}
use Rattle.rasn_per.proofs.Decoded.{begun_basically, left_within}
use Rattle.rasn_per.proofs.complete.decode_front.Goals as goal

pub returns-in_err-value-clause-decoded : goal.returns-in_err-value-clause-decoded
returns-in_err-value-clause-decoded g c =
    let p = err_from_is_err_and c.from_residual.result c.from_residual.ensures.1 in
    unread_front c.args.options.codec (g.S.DecodeAs.schema c.args.schema.now) g.S.DecodeAs.value_of c.args.octets.now _
    (begun_basically c.args.options _ _ _ c.from_octets-decoder.ensures c.requires.levels c.requires.padding refl) _ _ (p.1 ∙ ap Err p.2) c.in_err-value.ensures.law

pub remainder-requires : goal.remainder-requires
remainder-requires g c = subst (λ n. n ≤ 8 * length c.args.octets.now) (sym (c.len.ensures ∙ ap length c.input.ensures.bits))
    (left_within c.args.options.codec (g.S.DecodeAs.schema c.args.schema.now) c.args.octets.now _ _ _
    (begun_basically c.args.options _ _ _ c.from_octets-decoder.ensures c.requires.levels c.requires.padding refl) c.in_ok-value.ensures.law)

pub returns-in-Ok-clause-decoded : goal.returns-in-Ok-clause-decoded
returns-in-Ok-clause-decoded g c =
    read_front c.args.options.codec (g.S.DecodeAs.schema c.args.schema.now) g.S.DecodeAs.value_of c.args.octets.now _
    (begun_basically c.args.options _ _ _ c.from_octets-decoder.ensures c.requires.levels c.requires.padding refl) _ _ _ _ (c.len.ensures ∙ ap length c.input.ensures.bits)
    c.in_ok-value.ensures.law c.in-Ok.ensures.ok

pub returns-clause-decoded : goal.returns-clause-decoded
returns-clause-decoded g c =
    none_after c.args.options.codec (g.S.DecodeAs.schema c.args.schema.now) g.S.DecodeAs.value_of c.args.octets.now _
    (begun_basically c.args.options _ _ _ c.from_octets-decoder.ensures c.requires.levels c.requires.padding refl) c.in-Err.why _ _ _ _ _ (c.len.ensures ∙ ap length c.input.ensures.bits)
    c.refusal.ensures c.codec.ensures c.in_ok-value.ensures.law c.in-Err.ensures.none c.in-Err.ensures.why

pub returns-in_err-value-clause-few : goal.returns-in_err-value-clause-few
returns-in_err-value-clause-few g c = few_in_front c.args.options.codec (g.S.DecodeAs.schema c.args.schema.now) g.S.DecodeAs.value_of c.args.octets.now _ (returns-in_err-value-clause-decoded g c)

pub returns-in-Ok-clause-few : goal.returns-in-Ok-clause-few
returns-in-Ok-clause-few g c = few_in_front c.args.options.codec (g.S.DecodeAs.schema c.args.schema.now) g.S.DecodeAs.value_of c.args.octets.now _ (returns-in-Ok-clause-decoded g c)

pub returns-clause-few : goal.returns-clause-few
returns-clause-few g c = few_in_front c.args.options.codec (g.S.DecodeAs.schema c.args.schema.now) g.S.DecodeAs.value_of c.args.octets.now _ (returns-clause-decoded g c)
