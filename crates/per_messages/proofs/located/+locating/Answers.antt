use Rattle.std.proofs.Common.{refl, sym, ap, Some, None, ◌∙◌, option_map}
use Rattle.json.specs.Find.{as_array}
use Rattle.json.specs.Value.{items_view, members_view, value_view}
use Rattle.per_messages.specs.Paths.{here, ItemsAreTold}
use Rattle.per_messages.proofs.Paths.{array_last, element_leads, if_none, if_some, member_leads, missing_leads, no_level, no_level_last, no_type_last, none_of, none_so, object_last, on_ok, some_so, stays}
use Rattle.per_messages.proofs.located.+locating.Goals as goal

pub locate-returns-in_default-kind_within : goal.locate-returns-in_default-kind_within
locate-returns-in_default-kind_within t c =
    stays _ _ _ c.in-Some.place _ _ c.in-Some.is (no_type_last _ _ _ _ (none_of c.kind_within.result _ _ c.kind_within.ensures c.in_default-kind_within.not-Some))

pub locate-returns-in-None-default : goal.locate-returns-in-None-default
locate-returns-in-None-default t c = stays _ _ _ c.in-Some.place _ _ c.in-Some.is (no_level_last _ _ _ _ (no_level _ (none_so c.checked_sub.result _ _ c.checked_sub.ensures c.in-None-default.is-0)))

pub locate_in-returns : goal.locate_in-returns
locate_in-returns t c = λ j d.
    on_ok c.locate.result (λ w. member_leads _ _ _ j _ _ _ _ c.member_type-of.result _ (sym c.member_type-of.ensures) d c.in_ok-push_part.ensures w) c.locate.ensures

pub locate_item-returns-in_default : goal.locate_item-returns-in_default
locate_item-returns-in_default t c = λ k e.
    here (array_last _ _ k _ c.args.of e (if_none (ItemsAreTold c.args.kinds.now c.args.levels c.args.of) (as_array (value_view c.args.json.now)) (none_of c.items_of.result _ _ c.items_of.ensures c.in_default.not-Some)))

pub locate_item-returns-in-None : goal.locate_item-returns-in-None
locate_item-returns-in-None t c = λ k e.
    let are = sym c.items_of.ensures ∙ ap (option_map (λ s. items_view s.now)) c.in-Some.is in
    here (array_last _ _ k _ c.args.of e (if_some (ItemsAreTold c.args.kinds.now c.args.levels c.args.of) (as_array (value_view c.args.json.now)) _ are (c.in_ok-number.ensures.none c.in-None.is)))

pub locate_item-returns-in_ok-push_number-in-Some-2 : goal.locate_item-returns-in_ok-push_number-in-Some-2
locate_item-returns-in_ok-push_number-in-Some-2 t c = λ k e.
    let are = sym c.items_of.ensures ∙ ap (option_map (λ s. items_view s.now)) c.in-Some.is in
    on_ok c.locate.result (λ w. element_leads _ _ k _ _ _ _ _ c.args.of _ _ e are (some_so _ _ _ c.in_ok-number.ensures.found c.in-Some-2.is) c.in_ok-push_number-in-Some-2.ensures w) c.locate.ensures

pub locate_member-returns-in_default : goal.locate_member-returns-in_default
locate_member-returns-in_default t c = λ e.
    here (object_last _ _ _ _ None e (none_of c.members_read.result _ _ c.members_read.ensures c.in_default.not-Some) tt)

pub locate_member-returns-in-Some-lacking : goal.locate_member-returns-in-Some-lacking
locate_member-returns-in-Some-lacking t c = λ e.
    let lacks = sym c.lacking.ensures ∙ ap (option_map (λ k. k.now)) c.in-Some-lacking.is in
    on_ok c.push_part.result (λ w. missing_leads _ _ _ c.in-Some-lacking.component.now _ _ _ _ lacks c.as_str.ensures.value w) c.push_part.ensures

pub locate_member-returns-in-None : goal.locate_member-returns-in-None
locate_member-returns-in-None t c = λ e.
    let read = sym c.members_read.ensures ∙ ap (option_map (λ s. members_view s.now)) c.in-Some.is in
    here (object_last _ _ _ _ (Some _) e read (c.in_ok-member-2.ensures.none refl c.in-None.is, none_of c.lacking.result _ _ c.lacking.ensures c.in_default-lacking.not-Some))
