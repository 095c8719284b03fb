use Rattle.std.proofs.Common.{sym, ap, ◌∙◌, option_map}
use Rattle.rasn_dynamic_jer.proofs.Differing.{addition_alone}
use Rattle.per_messages.proofs.apart.is_addition_apart.Goals as goal

pub returns-in-None : goal.returns-in-None
returns-in-None c =
    addition_alone c.args.kinds.now c.args.rest.now c.args.addition.now _ _ _ (sym c.group_in.ensures ∙ ap (option_map (λ r. r.now)) c.in-None.is) c.as_str.ensures.value c.is_added.ensures
