use Rattle.std.proofs.Common.{◌≡◌, ◌∙◌, ap, sym, refl, List, [], ◌∷◌, ◌++◌, Option, Some, None, option_to_list, take}
use Rattle.std.proofs.lemmas.List.{append-nil, take_all, take_more}
use Rattle.std.proofs.lemmas.List.Elements.{filter_map-append}
use Rattle.std.specs.List.{cons_option, filter_map}
use Rattle.per_ways.specs.Ways.{step_of}
use Rattle.per_ways.specs.declared.path.Step.{Step}
use Rattle.per_ways.specs.declared.trail.Frame.{Frame}
use Rattle.per_ways.proofs.trail.Trail.into_path.Goals as goal
use Rattle.per_ways.proofs.trail.Trail.into_path.Goals.{in-Some+in_ok-push_step-2, in_default}

one_step : (o : Option Step) → cons_option o [] ≡ option_to_list o
one_step None = refl
one_step (Some s) = refl

-- the steps of frames and one more
steps_on : (fs : List Frame) (f : Frame) → filter_map step_of (fs ++ f ∷ []) ≡ filter_map step_of fs ++ option_to_list (step_of f)
steps_on fs f = filter_map-append step_of fs (f ∷ []) ∙ ap (λ l. filter_map step_of fs ++ l) (one_step (step_of f))

pub loop-frame-preserved : goal.loop-frame-preserved
loop-frame-preserved c =
    let i = c.loop-frame.frame-index in let fs = c.deref-frame-items.result.now in let f = c.frame-item.result in
    c.in_ok-push_step.ensures
    ∙ ap (λ l. l ++ option_to_list (step_of f)) c.loop-frame.invariant
    ∙ sym (steps_on (take i fs) f)
    ∙ ap (λ x. filter_map step_of (take i fs ++ x ∷ [])) c.frame-item.is
    ∙ ap (filter_map step_of) (sym (take_more fs i f c.loop-frame-test.true))

pub returns : goal.returns
returns c =
    let around = c.args.self.around.items in let fs = c.deref-frame-items.result.now in
    let outer : c.loop-frame.steps.items ≡ filter_map step_of around =
    c.loop-frame.invariant
    ∙ ap (filter_map step_of) (take_all c.loop-frame.frame-index fs c.loop-frame-test.false ∙ c.deref-frame-items.ensures.value) in
    elim c.match-self.branch [
      | in-Some+in_ok-push_step-2 b ↦
          ap (λ v. v.items) b.steps-is
          ∙ b.in_ok-push_step-2.ensures
          ∙ ap (λ l. l ++ option_to_list (step_of b.in-Some.frame)) outer
          ∙ sym (steps_on around b.in-Some.frame)
          ∙ ap (λ o. filter_map step_of (around ++ option_to_list o)) (sym b.in-Some.is)
      | in_default b ↦
          ap (λ v. v.items) b.steps-is
          ∙ outer
          ∙ ap (filter_map step_of) (sym (append-nil around))
          ∙ ap (λ o. filter_map step_of (around ++ option_to_list o)) (sym b.in_default.is)
    ]
