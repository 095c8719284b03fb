use Rattle.std.proofs.Common.{◌≡◌, refl, sym, ◌∙◌, ap, arith, inl, inr, true}
use borrow.Author.Tests.{eqb-true, eqb-false}
use Rattle.rasn_types.specs.Contents.{is_identifier}
use Rattle.rasn_types.specs.Identifiers.{are_arcs, contents, limit_after}
use Rattle.rasn_types.proofs.ContentsRead.{is_identifier-contents, one_contents}
use Rattle.rasn_types.proofs.Walking.{at_limit, begins, goes_on, ends, stops_at_limit, unfinished, finished}
use Rattle.rasn_types.proofs.ber.object_identifier_from_bytes.Goals as goal
use Rattle.rasn_types.proofs.ber.object_identifier_from_bytes.Goals.{then-octet-lt128+in_ok-push_arcs, else-octet-lt128, then-is_empty-via-then-is_empty, then-is_empty-via-else-is_empty+then-begun-gt0}

pub loop-octet-init : goal.loop-octet-init
loop-octet-init c = rw c.new-arcs.ensures.items (begins c.args.octets.now)

pub returns-in_default-clause-refused : goal.returns-in_default-clause-refused
returns-in_default-clause-refused c = λ e. stops_at_limit c.args.octets.now c.loop-octet.arcs.items c.limit_of_next.result c.loop-octet.octet-index c.loop-octet.begun _ (c.limit_of_next.ensures ∙ ap limit_after c.deref.ensures.value) c.loop-octet-test.true refl c.in_default.ensures c.loop-octet.invariant

pub loop-octet-preserved : goal.loop-octet-preserved
loop-octet-preserved c = elim c.if-octet-lt128.branch [
  | then-octet-lt128+in_ok-push_arcs w ↦ rw (w.begun-is, w.arcs-is) (ends c.args.octets.now c.loop-octet.arcs.items w.push_arcs.new.arcs.items c.loop-octet.octet-index c.loop-octet.begun _ c.in-Some.number c.loop-octet-test.true refl w.if-octet-lt128.true
      (at_limit c.loop-octet.arcs.items c.limit_of_next.result c.loop-octet.begun _ c.in-Some.number (c.limit_of_next.ensures ∙ ap limit_after c.deref.ensures.value) c.in-Some.ensures) c.loop-octet.invariant w.in_ok-push_arcs.ensures.lawful w.in_ok-push_arcs.ensures.read)
  | else-octet-lt128 w ↦ rw (w.begun-is, w.arcs-is) (goes_on c.args.octets.now c.loop-octet.arcs.items c.loop-octet.octet-index c.loop-octet.begun _ c.in-Some.number c.loop-octet-test.true refl (c.type_inv.octets c.loop-octet.octet-index).fits w.if-octet-lt128.false
      (at_limit c.loop-octet.arcs.items c.limit_of_next.result c.loop-octet.begun _ c.in-Some.number (c.limit_of_next.ensures ∙ ap limit_after c.deref.ensures.value) c.in-Some.ensures) c.loop-octet.invariant)
]

pub returns-then-is_empty-clause-refused : goal.returns-then-is_empty-clause-refused
returns-then-is_empty-clause-refused c = λ e. unfinished c.args.octets.now c.loop-octet.arcs.items c.loop-octet.octet-index c.loop-octet.begun c.loop-octet-test.false (elim c.then-is_empty.branch [
  | then-is_empty-via-then-is_empty w ↦ inl (sym c.loop-octet.arcs.ok.0 ∙ eqb-true _ 0 (sym w.if-is_empty.ensures))
  | then-is_empty-via-else-is_empty+then-begun-gt0 w ↦ inr w.if-begun-gt0.true
]) c.loop-octet.invariant

pub returns-clause-read : goal.returns-clause-read
returns-clause-read c = (finished c.args.octets.now c.loop-octet.arcs.items c.loop-octet.octet-index c.loop-octet.begun c.loop-octet-test.false (omega arith) (λ e. eqb-false _ 0 (sym c.if-is_empty.ensures) (c.loop-octet.arcs.ok.0 ∙ e)) c.loop-octet.invariant).0

pub returns-clause-lawful : goal.returns-clause-lawful
returns-clause-lawful c =
    let h : (contents c.loop-octet.arcs.items ≡ c.args.octets.now) × (are_arcs c.loop-octet.arcs.items ≡ true) = finished c.args.octets.now c.loop-octet.arcs.items c.loop-octet.octet-index c.loop-octet.begun c.loop-octet-test.false (omega arith) (λ e. eqb-false _ 0 (sym c.if-is_empty.ensures) (c.loop-octet.arcs.ok.0 ∙ e)) c.loop-octet.invariant in
    sym (ap is_identifier h.0) ∙ is_identifier-contents c.loop-octet.arcs.items ∙ h.1

pub returns-clause-one : goal.returns-clause-one
returns-clause-one c = λ arcs lawful is.
    let h : (contents c.loop-octet.arcs.items ≡ c.args.octets.now) × (are_arcs c.loop-octet.arcs.items ≡ true) = finished c.args.octets.now c.loop-octet.arcs.items c.loop-octet.octet-index c.loop-octet.begun c.loop-octet-test.false (omega arith) (λ e. eqb-false _ 0 (sym c.if-is_empty.ensures) (c.loop-octet.arcs.ok.0 ∙ e)) c.loop-octet.invariant in
    one_contents c.loop-octet.arcs.items arcs h.1 lawful (h.0 ∙ sym is)
