use Rattle.std.proofs.Common.{subst, List}
use Rattle.std.proofs.lemmas.Result.{err_from_is_err_and}
use Rattle.rasn_dynamic.specs.declared.types.Kind.{Kind}
use Rattle.json.specs.Json.{max_depth}
use Rattle.json.specs.Value.{value_view}
use Rattle.rasn_dynamic_jer.specs.FromJson.{TellsValue, told_at, unread}
use Rattle.rasn_dynamic_jer.proofs.Untold.{text_told}
use Rattle.rasn_dynamic_jer.proofs.read.from_json.Goals as goal

pub returns-in_err-json : goal.returns-in_err-json
returns-in_err-json c =
    let p = err_from_is_err_and c.from_residual.result c.from_residual.ensures.1 in
    rw (p.1, p.2) (unread c.in_err-json.ensures)

pub returns : goal.returns
returns c =
    let j = value_view c.in_ok-json.json in
    text_told c.args.types.now.kinds.items c.args.place c.args.text.now j c.read_at.result c.in_ok-json.ensures
    (subst (λ (ks : List Kind). TellsValue (told_at ks max_depth c.args.place j) c.read_at.result) c.deref.ensures.value c.read_at.ensures)
