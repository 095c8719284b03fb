use Rattle.std.proofs.Common.{◌≡◌, refl, false, suc, List, ◌∷◌, arith, rules}
use Rattle.rasn_types.specs.Values.{Value}
use Rattle.rasn_traits.specs.Lists.{ListForm}
use Rattle.per_write.specs.Lists.{IsOpenList, count_left}
use Rattle.per_write.specs.WriterState.{WriterState}
use Rattle.per_write.proofs.Elements.{begins_beside, begins_left, element_next, fragment_begun_at, none_begun}
use Rattle.per_write.proofs.lists.next_element.Goals as goal
use Rattle.per_write.proofs.lists.next_element.Goals.{then-list-eq0+in_ok-list, else-list-eq0}

pub returns-in-Some : goal.returns-in-Some
returns-in-Some g c =
    let l = c.args.list.now in
    let y = c.args.writer.now in
    let goes_on : (f : ListForm) (x : WriterState) (v : Value) (vs : List Value) → IsOpenList f x (v ∷ vs) l y → IsOpenList f x (v ∷ vs) c.if-list-eq0.list c.if-list-eq0.writer =
    λ f x v vs h. elim c.if-list-eq0.branch [
      | then-list-eq0+in_ok-list w ↦ rw (w.writer-is, w.list-is) (fragment_begun_at f x y w.begin_fragment.new.writer v vs l w.in_ok-list.field-0 w.unwrap_or.result w.in_ok-list.ensures.stated w.if-list-eq0.true w.unwrap_or.ensures w.in_ok-list.ensures.ok h)
      | else-list-eq0 w ↦ rw (w.writer-is, w.list-is) h
    ] in
    let left : c.if-list-eq0.list.fragment ≡ suc c.in-Some.left = omega (arith, c.in-Some.ensures) in
    let still_over : count_left l ≡ 0 → count_left c.if-list-eq0.list ≡ 0 = λ o. elim c.if-list-eq0.branch [
      | then-list-eq0+in_ok-list w ↦ rw (w.list-is) (none_begun y w.begin_fragment.new.writer l w.in_ok-list.field-0 w.unwrap_or.result w.unwrap_or.ensures w.in_ok-list.ensures.ok o)
      | else-list-eq0 w ↦ rw (w.list-is) o
    ] in
    let unfailed : c.if-list-eq0.writer.failed ≡ false = elim c.if-list-eq0.branch [
      | then-list-eq0+in_ok-list w ↦ rw (w.writer-is) (begins_left c.args.writer.now w.begin_fragment.new.writer w.unwrap_or.result w.in_ok-list.field-0 w.in_ok-list.ensures.ok)
      | else-list-eq0 w ↦ rw (w.writer-is) c.requires
    ] in
    record {
      next = record {
        law = λ f x v vs h. element_next f x c.if-list-eq0.writer v vs c.if-list-eq0.list c.in-Some.left left (goes_on f x v vs h);
        late = λ f x h. absurd (let none = still_over h.counted in omega (arith, left, none));
        behaves = search rules;
      };
      over = λ o. let none = still_over o in absurd (omega (arith, left, none));
      left = unfailed;
      beside = elim c.if-list-eq0.branch [
        | then-list-eq0+in_ok-list w ↦ rw (w.writer-is) (begins_beside c.args.writer.now w.begin_fragment.new.writer w.unwrap_or.result w.in_ok-list.field-0 w.in_ok-list.ensures.ok)
        | else-list-eq0 w ↦ rw (w.writer-is) refl
      ];
    }
