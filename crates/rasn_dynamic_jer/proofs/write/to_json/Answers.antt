use Rattle.std.proofs.Common.{◌≡◌, refl, sym, ap, ap₂, ◌∙◌, subst, ◌++◌}
use Rattle.std.specs.Str.{IsUtf8}
use Rattle.json.specs.Json.{document, max_depth}
use Rattle.json.specs.Print.{print}
use Rattle.json.specs.Tree.{json_tokens}
use Rattle.json.proofs.Printed.Trees.{document-print}
use Rattle.rasn_dynamic_jer.specs.Shown.{json_at}
use Rattle.rasn_dynamic_jer.proofs.write.to_json.Goals as goal

pub returns-clause-text : goal.returns-clause-text
returns-clause-text c =
    let h = c.in_ok-put_at.ensures.law in
    let b = c.put_at.ensures.before in
    let tokens = h.tokens ∙ ap (λ ts. ts ++ json_tokens h.json) c.new-writer.ensures.tokens in
    let printed : c.into_inner.result.items ≡ print (json_tokens h.json) =
    c.into_inner.ensures.items
    ∙ ap₂ (λ bs ts. bs ++ print ts) (b ∙ c.new-writer.ensures.before ∙ c.in_ok-with_capacity.ensures.items) tokens in
    record {
      json = h.json;
      shown = ap (λ ts. json_at ts max_depth c.args.place c.args.value.now) (sym c.deref.ensures.value) ∙ h.shown;
      printed = printed;
      read = ap document printed ∙ document-print h.json h.numbers h.within;
      utf8 = subst IsUtf8 (sym printed) (subst (λ ts. IsUtf8 (print ts)) tokens c.into_inner.ensures.utf8);
    }
