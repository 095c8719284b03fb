use Rattle.std.proofs.Common.{rules, tests, sym, ap, ap₂, ◌∙◌, ◌++◌, ℕ, List, length, map, Some}
use Rattle.std.specs.List.{slice_split}
use Rattle.std.proofs.lemmas.Result.{err_from_is_err_and}
use Rattle.std.proofs.lemmas.List.{map_push}
use Rattle.std.proofs.lemmas.Iterator.Splits.{YieldsList-from_slice_split}
use Rattle.std.proofs.lemmas.Iterator.Consumers.{YieldsList-turn, YieldsList-end}
use Rattle.message_lines.specs.Digits.{is_between, joined, octets_of_words}
use Rattle.message_lines.proofs.Words.{words-fault, words-more}
use Rattle.message_lines.proofs.digits.octets_of_words.Goals as goal

pub loop-word-preserved : goal.loop-word-preserved
loop-word-preserved c =
    ap octets_of_words (map_push (λ x. x.now) c.loop-word.yielded c.in-Some.word)
    ∙ words-more (map (λ x. x.now) c.loop-word.yielded) c.in-Some.word.now
    ∙ ap₂ joined c.loop-word.invariant c.in_ok-more.ensures.ok
    ∙ ap Some (sym (c.in_ok-extend_from_slice.ensures.items ∙ ap (λ (l : List ℕ). c.loop-word.octets.items ++ l) c.as_slice.ensures.value))

pub returns-in_err-more-clause-err : goal.returns-in_err-more-clause-err
returns-in_err-more-clause-err c =
    let t = YieldsList-turn (YieldsList-from_slice_split _ is_between c.args.text.now (cc) (cc) (cc) (λ x r q k. search (rules, tests)))
    c.loop-word.yielded _ c.loop-word.yielded_by _ _ c.in-Some.word c.in-Some.is c.next.ensures.steps in
    let p = err_from_is_err_and c.from_residual.result c.from_residual.ensures.1 in
    rw (p.1, p.2) (words-fault (slice_split is_between c.args.text.now) (length c.loop-word.yielded) c.in-Some.word.now t c.in_err-more.ensures.err)

pub returns-clause-ok : goal.returns-clause-ok
returns-clause-ok c =
    let t = YieldsList-end (YieldsList-from_slice_split _ is_between c.args.text.now (cc) (cc) (cc) (λ x r q k. search (rules, tests)))
    c.loop-word.yielded _ c.loop-word.yielded_by _ _ c.in-None.is c.next.ensures.steps in
    ap octets_of_words (sym t.0) ∙ c.loop-word.invariant
