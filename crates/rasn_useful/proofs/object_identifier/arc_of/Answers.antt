use Rattle.std.proofs.Common.{sym, ◌∙◌, ap}
use Rattle.rasn_useful.specs.Texts.{begins_well}
use Rattle.rasn_useful.proofs.Arcs.{read_as, not_read, not_well}
use Rattle.rasn_useful.proofs.object_identifier.arc_of.Goals as goal

pub returns-then-not-is_plain : goal.returns-then-not-is_plain
returns-then-not-is_plain c = λ n l d. not_well c.as_bytes.result.now (sym c.is_plain.ensures ∙ c.if-not-is_plain.true) n l (d ∙ sym c.as_bytes.ensures.value)

pub returns-in-Ok : goal.returns-in-Ok
returns-in-Ok c = read_as _ c.args.text.now _ _ (ap begins_well (sym c.as_bytes.ensures.value) ∙ sym c.is_plain.ensures ∙ c.if-not-is_plain.false) c.parse.ensures.value.0 c.in-Ok.is

pub returns-in-Err : goal.returns-in-Err
returns-in-Err c = not_read c.args.text.now _ _ c.parse.ensures.value.0 c.in-Err.is
