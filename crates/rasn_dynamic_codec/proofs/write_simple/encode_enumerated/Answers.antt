use Rattle.std.proofs.Common.{sym, ap, ◌∙◌, true, false, ◌≡◌}
use Rattle.rasn_constraints.specs.Bounds.{unbounded}
use Rattle.rasn_schema.specs.Enumerations.{addeds_of, is_extensible, items_of}
use Rattle.rasn_schema.specs.Forms.{always, is_size_marked, number_schema, octet_schema, size_of}
use Rattle.rasn_schema.specs.Normal.{normal}
use Rattle.rasn_schema.specs.Schemas
use Rattle.rasn_traits.specs.Counted.{stands_in}
use Rattle.rasn_dynamic.specs.Types.{counts_of}
use Rattle.rasn_dynamic.specs.Values.{levels_of, value_of}
use Rattle.rasn_dynamic.proofs.Places.{no_item, other_refused}
use Rattle.rasn_dynamic_codec.proofs.write_simple.encode_enumerated.Goals as goal

pub returns-in_default : goal.returns-in_default
unfolding normal
returns-in_default g c = other_refused (always (items_of (counts_of c.args.items.now))) (levels_of c.args.value.now) (value_of c.args.value.now) _ _ _ c.refuse_other.ensures (λ n. c.in_default.ensures (counts_of c.args.items.now).roots (addeds_of (counts_of c.args.items.now).addeds) (is_extensible (counts_of c.args.items.now).addeds))

pub returns-then-not-stands_in : goal.returns-then-not-stands_in
unfolding normal
returns-then-not-stands_in g c = other_refused (always (items_of (counts_of c.args.items.now))) (levels_of c.args.value.now) (value_of c.args.value.now) _ _ _ c.refuse_other-then-not-stands_in.ensures (λ n. rw c.in-Some.ensures (no_item (counts_of c.args.items.now) c.in-Some.place (ap (λ b. stands_in b c.in-Some.place) (sym c.counts-counts.ensures) ∙ sym c.stands_in.ensures ∙ c.if-not-stands_in.true)))

pub returns : goal.returns
unfolding normal
returns g c = record { law = record { at = λ n le. rw c.in-Some.ensures (rw c.counts-counts.ensures at c.encode_item.ensures.law) }; behaves = c.encode_item.ensures.behaves }
