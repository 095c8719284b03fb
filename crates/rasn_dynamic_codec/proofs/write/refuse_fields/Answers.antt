use Rattle.std.proofs.Common.{◌∙◌, sym, ap, false, map}
use Rattle.rasn_schema.specs.Structures.{record_value}
use Rattle.rasn_dynamic.specs.Types.{record_schema}
use Rattle.rasn_dynamic.specs.Values.{slot_of}
use Rattle.rasn_dynamic.proofs.Places.{nothing_written, other_refused_within}
use Rattle.rasn_dynamic_codec.specs.Writes.{fit}
use Rattle.rasn_dynamic_codec.proofs.Unfit.{unfit_added, unfit_root}
use Rattle.rasn_dynamic_codec.proofs.write.refuse_fields.Goals as goal

pub returns-then-not-root_fits : goal.returns-then-not-root_fits
returns-then-not-root_fits g c =
    let ts = c.args.kinds.now in
    let r = c.args.sequence.now in
    let vs = map slot_of c.args.root_values.now in
    let ws = map slot_of c.args.added_values.now in
    other_refused_within (record_schema ts r) _ (record_value vs ws) _ _ _ c.refuse_other.ensures
    (unfit_root ts r vs ws (ap (λ cs. fit false cs vs) (sym c.root-components.ensures) ∙ sym c.fit-root_fits.ensures ∙ c.if-not-root_fits.true) _)

pub returns-then-not-added_fits : goal.returns-then-not-added_fits
returns-then-not-added_fits g c =
    let ts = c.args.kinds.now in
    let r = c.args.sequence.now in
    let vs = map slot_of c.args.root_values.now in
    let ws = map slot_of c.args.added_values.now in
    other_refused_within (record_schema ts r) _ (record_value vs ws) _ _ _ c.refuse_other-then-not-added_fits.ensures
    (unfit_added ts r vs ws (ap (λ cs. fit false cs ws) (sym c.behind-additions.ensures) ∙ sym c.fit-added_fits.ensures ∙ c.if-not-added_fits.true) _)

pub returns : goal.returns
returns g c = nothing_written _ _ _ _ _ _ c.refuse_out_of_memory.ensures
