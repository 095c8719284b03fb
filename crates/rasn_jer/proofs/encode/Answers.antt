use Rattle.std.proofs.Common.{◌≡◌, ◌∙◌, ap, sym, true, false, inl, inr, arith, Result, Ok, Err}
use Rattle.std.specs.Prelude.{IfErr, OnErr}
use Rattle.json.specs.Json.{document}
use Rattle.rasn_jer.proofs.Writing.{over_ok}
use Rattle.rasn_jer.proofs.Choosing.{alone}
use Rattle.rasn_jer.proofs.Numbered.{numbered}
use Rattle.rasn_jer.proofs.Printed.{is_read}
use Rattle.rasn_jer.specs.Laws.Relations.{unrefused}
use Rattle.rasn_jer.specs.Frames.{is_full, JsonState}
use Rattle.rasn_jer.proofs.encode.Goals as goal

never_err : {T E P : Type 0} (Q : E → Type 0) (r : Result T E) → OnErr r P → (P → ⊥) → IfErr r Q
never_err Q (Ok t) h f = tt
never_err Q (Err e) h f = absurd (f h)

pub returns-in-Ok-clause-ok : goal.returns-in-Ok-clause-ok
returns-in-Ok-clause-ok g c = over_ok c.output.result c.output.ensures.ok (λ t e. record {
  at = λ n l.
      (let one = alone c.new-encoder.result c.encode.new.encoder _ _ c.new-encoder.ensures (c.in-Ok.ensures.law.at n l) in
      record {
        json = one.json;
        shows = one.shows;
        is_text = e ∙ one.text;
        is_read = λ d. ap document (e ∙ one.text) ∙ is_read one.json (numbered one.shows) d;
      });
})

pub returns-in-Ok-clause-err : goal.returns-in-Ok-clause-err
returns-in-Ok-clause-err g c =
    let one = alone c.new-encoder.result c.encode.new.encoder _ _ c.new-encoder.ensures (c.in-Ok.ensures.law.at (g.T.AsnType.levels c.args.value.now) (omega arith)) in
    never_err _ c.output.result c.output.ensures.err (λ h. elim h [
      | inl q ↦ absurd (let t : true ≡ false = sym q ∙ one.unfailed in cc)
      | inr q ↦ absurd (let t : true ≡ false = sym one.full ∙ q in cc)
    ])

pub returns-in-Err-clause-err : goal.returns-in-Err-clause-err
returns-in-Err-clause-err g c = record {
  at = λ n l. (elim (c.in-Err.ensures.law.at n l) [
    | inl m ↦ inl m
    | inr z ↦ elim z [
      | inl q ↦ absurd (unrefused c.in-Err.error c.new-encoder.result (ap (λ (x : JsonState). x.failed) c.new-encoder.ensures) (ap (λ (x : JsonState). is_full x.place) c.new-encoder.ensures) q)
      | inr q ↦ inr q
    ]
  ]);
}
