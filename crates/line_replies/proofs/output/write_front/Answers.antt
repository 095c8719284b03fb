use Rattle.std.proofs.Common.{◌≡◌, ℕ, ◌-◌, List, ◌++◌, length, take, drop, sym, ap, ◌∙◌, subst, append_assoc, take-append-drop}
use Rattle.std.proofs.lemmas.List.{take_rest}
use Rattle.std.proofs.KnownBytes.{Appends-trans, Appends-kept}
use Rattle.line_replies.proofs.output.write_front.Goals.{in-Ok, in-Err+else-not-matches}
use Rattle.line_replies.proofs.output.write_front.Goals as goal

moves_front : (all done rest : List ℕ) (n : ℕ) → all ≡ done ++ rest
    → all ≡ (done ++ take n rest) ++ take (length rest - n) (drop n rest)
moves_front all done rest n e =
    e ∙ ap (λ l. done ++ l) (sym (take-append-drop n rest)) ∙ sym (append_assoc done (take n rest) (drop n rest))
    ∙ ap (λ l. (done ++ take n rest) ++ l) (sym (take_rest rest n))

-- what was taken of the rest is written after the front that was; what is taken up again leaves all as it was
pub loop-preserved : goal.loop-preserved
loop-preserved g c =
    let (done, split, appended) = c.loop.invariant in
    let octets = c.args.octets.now in
    elim c.match-write.branch [
      | in-Ok w ↦
          let front = done ++ take w.in-Ok.count c.loop.rest.now in (
            front,
            subst (λ r. octets ≡ front ++ r.now) (sym w.rest-is) (moves_front octets done c.loop.rest.now w.in-Ok.count split),
            Appends-trans _ _ _ _ _ appended w.in-Ok.ensures.bytes,
          )
      | in-Err+else-not-matches w ↦
          (done, subst (λ r. octets ≡ done ++ r.now) (sym w.rest-is) split, Appends-kept _ _ _ _ appended w.in-Err.ensures.bytes)
    ]
