use Rattle.std.proofs.Common.{Bool, refl, rules, inr, ap, ◌∙◌}
use Rattle.std.proofs.lemmas.Result.{err_from_is_err_and}
use Rattle.rasn_schema.specs.Choices.{one_level_in}
use Rattle.per_decoding.specs.ChoiceIndexes.{index_of}
use Rattle.per_decoding.specs.Scopes.{with_outside_record}
use Rattle.per_de.specs.Outsides.{outside_contents_of}
use Rattle.per_de.proofs.AtPlaces.{choice_opened, contents_refused, index_refused, level_inside, stands}
use Rattle.per_de.proofs.Calls.{too_deep}
use Rattle.per_de.proofs.Choosing.{at_level}
use Rattle.per_de.proofs.InTurn.{behaves_err, behaves_ok, choice_empty, deeper_noted, one_awaited, placed_opened, placed_unopened, still}
use Rattle.per_de.proofs.Decoder.begin_alternative.Goals as goal

pub returns-in_err-levels : goal.returns-in_err-levels
returns-in_err-levels c =
    let p = err_from_is_err_and c.from_residual-in_err-levels.result c.from_residual-in_err-levels.ensures.1 in
    let o = c.in_err-levels.ensures in
    let s = c.args.self.now in
    let m = c.begin_scope.new.self in
    let noted = c.in_ok-turn.ensures.noted in
    record {
      opened = λ choice k. rw (p.1, p.2) (placed_unopened choice s m c.level_inside.new.self c.level_inside.new.self _ noted (too_deep (one_level_in choice) _ _ _ refl o.0 o.1));
      counts = rw p.1 tt;
      place = rw p.1 tt;
      deeper = rw p.1 tt;
      behaves = rw (p.1, p.2) (behaves_err Bool _ s m c.level_inside.new.self _ noted (search rules));
    }

pub returns-in_err-place : goal.returns-in_err-place
returns-in_err-place c =
    let p = err_from_is_err_and c.from_residual-in_err-place.result c.from_residual-in_err-place.ensures.1 in
    let o = c.in_ok-levels.ensures in
    let n = c.in_ok-levels.levels in
    let s = c.args.self.now in
    let m = c.begin_scope.new.self in
    let noted = c.in_ok-turn.ensures.noted in
    record {
      opened = λ choice k. rw (p.1, p.2) (placed_unopened choice s m c.take_place.new.self c.take_place.new.self _ noted (at_level choice m n _ o.0
          (inr (index_refused c.args.alternatives m c.level_inside.new.self o.1 (choice n) (k n) _ c.take_place.new.self c.in_err-place.ensures))));
      counts = rw p.1 tt;
      place = rw p.1 tt;
      deeper = rw p.1 tt;
      behaves = rw (p.1, p.2) (behaves_err Bool _ s m c.take_place.new.self _ noted (search rules));
    }

pub returns-in_err-contents : goal.returns-in_err-contents
returns-in_err-contents c =
    let p = err_from_is_err_and c.from_residual-in_err-contents.result c.from_residual-in_err-contents.ensures.1 in
    let o = c.in_ok-levels.ensures in
    let n = c.in_ok-levels.levels in
    let s = c.args.self.now in
    let m = c.begin_scope.new.self in
    let noted = c.in_ok-turn.ensures.noted in
    let refused = c.in_err-contents.ensures in
    record {
      opened = λ choice k. rw (p.1, p.2) (placed_unopened choice s m c.open_alternative.new.self c.open_alternative.new.self _ noted (at_level choice m n _ o.0
          (contents_refused c.args.alternatives m c.level_inside.new.self o.1 c.in_ok-place.place n c.take_place.new.self c.enter-scope.new.self _ c.enter-scope.result
          (still s noted c.in_ok-turn.ensures.ok) o.0 (c.without_record.ensures c.take_place.new.self) c.in_ok-place.ensures c.enter-scope.ensures (choice n) (k n) _ c.open_alternative.new.self refused.0 refused.1)));
      counts = rw p.1 tt;
      place = rw p.1 tt;
      deeper = rw p.1 tt;
      behaves = rw (p.1, p.2) (behaves_err Bool _ s m c.open_alternative.new.self _ noted (search rules));
    }

pub set_turn-requires : goal.set_turn-requires
set_turn-requires c =
    let o = c.in_ok-levels.ensures in
    let u = c.enter-scope.new.self in
    let p = c.in_ok-place.place in
    let i = c.open_alternative.new.self in
    let live = still c.args.self.now c.in_ok-turn.ensures.noted c.in_ok-turn.ensures.ok in
    let within = c.enter-scope.ensures.same ∙ ap (λ z. with_outside_record c.take_place.new.self z) (c.without_record.ensures c.take_place.new.self) in
    (choice_empty (index_of p).0 u (outside_contents_of i.source c.in_ok-contents.contents) i
    (ap (λ z. z.failed) within ∙ ap (λ z. z.failed) c.in_ok-place.ensures.1 ∙ ap (λ z. z.failed) o.1 ∙ live)
    (ap (λ z. z.presences) within) (ap (λ z. z.expected) within) c.in_ok-contents.ensures).0

pub returns : goal.returns
returns c =
    let o = c.in_ok-levels.ensures in
    let i = c.open_alternative.new.self in
    let n = c.in_ok-levels.levels in
    let p = c.in_ok-place.place in
    let u = c.enter-scope.new.self in
    let s = c.args.self.now in
    let m = c.begin_scope.new.self in
    let noted = c.in_ok-turn.ensures.noted in
    let live = still s noted c.in_ok-turn.ensures.ok in
    let within = c.enter-scope.ensures.same ∙ ap (λ z. with_outside_record c.take_place.new.self z) (c.without_record.ensures c.take_place.new.self) in
    let empty = choice_empty (index_of p).0 u (outside_contents_of i.source c.in_ok-contents.contents) i
    (ap (λ z. z.failed) within ∙ ap (λ z. z.failed) c.in_ok-place.ensures.1 ∙ ap (λ z. z.failed) o.1 ∙ live)
    (ap (λ z. z.presences) within) (ap (λ z. z.expected) within) c.in_ok-contents.ensures in
    record {
      opened = λ choice k. placed_opened choice s m i c.set_turn.new.self p (record { scope = c.enter-scope.result; contents = c.in_ok-contents.contents }) c.in_ok-turn.turn noted c.in_ok-turn.ensures.turn c.set_turn.ensures
          (choice_opened c.args.alternatives m c.level_inside.new.self o.1 p n c.take_place.new.self u _ c.enter-scope.result
          live o.0 (c.without_record.ensures c.take_place.new.self) c.in_ok-place.ensures c.enter-scope.ensures (choice i.levels) (k i.levels) i c.in_ok-contents.contents c.in_ok-contents.ensures);
      counts = one_awaited i _ empty.0 empty.1 empty.2 c.set_turn.ensures;
      place = stands _ c.args.alternatives p c.in_ok-place.ensures.0;
      deeper = deeper_noted s m i c.set_turn.new.self _ noted c.set_turn.ensures (level_inside (index_of p).0 u i c.in_ok-contents.contents m.levels (search rules) c.in_ok-contents.ensures);
      behaves = behaves_ok s m i c.set_turn.new.self _ _ c.in_ok-turn.ensures.ok noted (search rules) c.set_turn.ensures;
    }
