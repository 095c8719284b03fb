use Rattle.std.proofs.Common.{◌≡◌, ◌+◌, sym, ap, ◌∙◌, true, false, not, take}
use Rattle.rasn_schema.specs.Structures.{tag_of}
use Rattle.rasn_schema.specs.Lawful.{same_tag}
use Rattle.lawful_types.proofs.Passing.{all_differ, fails_at, passes_more}
use Rattle.lawful_types.proofs.tags.is_new.Goals as goal

pub returns-then-is_same_tag : goal.returns-then-is_same_tag
returns-then-is_same_tag c =
    let t = tag_of c.args.tag in let x = c.alternative-item.result in
    let e : not (same_tag t (tag_of x.tag)) ≡ false = ap not (sym c.is_same_tag.ensures ∙ c.if-is_same_tag.true) in
    sym (all_differ t c.args.alternatives.now ∙ fails_at (λ a. not (same_tag t (tag_of a.tag))) c.args.alternatives.now c.loop-alternative.alternative-index x c.loop-alternative-test.true c.alternative-item.is e)

pub loop-alternative-preserved : goal.loop-alternative-preserved
loop-alternative-preserved c =
    let t = tag_of c.args.tag in let x = c.alternative-item.result in let xs = c.args.alternatives.now in let i = c.loop-alternative.alternative-index in
    let e : not (same_tag t (tag_of x.tag)) ≡ true = ap not (sym c.is_same_tag.ensures ∙ c.if-is_same_tag.false) in
    all_differ t (take (i + 1) xs) ∙ passes_more (λ a. not (same_tag t (tag_of a.tag))) xs i x c.loop-alternative-test.true c.alternative-item.is e (sym (all_differ t (take i xs)) ∙ c.loop-alternative.invariant)
