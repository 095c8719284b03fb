use Rattle.std.proofs.Common.{refl, sym, ◌∙◌}
use Rattle.rasn_schema.specs.Lawful.{is_value}
use Rattle.lawful_types.proofs.Values.{no_null, no_truth, no_whole, octets_kind}
use Rattle.lawful_types.proofs.defaults.is_default_of_simple.Goals as goal

pub returns-in-Boolean-matches : goal.returns-in-Boolean-matches
unfolding is_value
returns-in-Boolean-matches c = rw (c.in-Boolean.is, c.in-Boolean-matches.is) refl

pub returns-in_default : goal.returns-in_default
returns-in_default c = rw c.in-Boolean.is (sym (no_truth c.args.default.now c.in_default.not-Boolean))

pub returns-in-Null-matches : goal.returns-in-Null-matches
unfolding is_value
returns-in-Null-matches c = rw (c.in-Null.is, c.in-Null-matches.is) refl

pub returns-in_default-matches : goal.returns-in_default-matches
returns-in_default-matches c = rw c.in-Null.is (sym (no_null c.args.default.now c.in_default-matches.not-Null))

pub returns-in-Integer-matches : goal.returns-in-Integer-matches
unfolding is_value
returns-in-Integer-matches c = rw (c.in-Integer.is, c.in-Integer-matches.is) refl

pub returns-in_default-matches-2 : goal.returns-in_default-matches-2
returns-in_default-matches-2 c = rw c.in-Integer.is (sym (no_whole _ _ _ c.args.default.now c.in_default-matches-2.not-Integer))

pub returns-in-Characters : goal.returns-in-Characters
unfolding is_value
returns-in-Characters c = rw c.in-Characters.is c.are_characters.ensures

pub returns-in-Utf8 : goal.returns-in-Utf8
unfolding is_value
returns-in-Utf8 c = rw c.in-Utf8.is c.is_text.ensures

pub returns-in-ObjectIdentifier : goal.returns-in-ObjectIdentifier
unfolding is_value
returns-in-ObjectIdentifier c = rw c.in-ObjectIdentifier.is c.is_object.ensures

pub returns-in-UtcTime : goal.returns-in-UtcTime
unfolding is_value
returns-in-UtcTime c = rw c.in-UtcTime.is c.is_utc_time.ensures

pub returns-in-GeneralizedTime : goal.returns-in-GeneralizedTime
unfolding is_value
returns-in-GeneralizedTime c = rw c.in-GeneralizedTime.is c.is_generalized_time.ensures

pub returns-in-OctetString : goal.returns-in-OctetString
returns-in-OctetString c = c.are_octets.ensures ∙ octets_kind c.args.simple.now c.args.default.now c.in-OctetString.is

pub returns-in-BitString : goal.returns-in-BitString
unfolding is_value
returns-in-BitString c = rw c.in-BitString.is c.are_bits.ensures

pub returns-in-NamedBits : goal.returns-in-NamedBits
returns-in-NamedBits c = rw c.in-NamedBits.is c.are_named_bits.ensures
