use Rattle.per_core.specs.Versions.{unchanged}
use Rattle.lawful_types.proofs.Leaves.{bit_strings, named_bits, numbers, octet_strings}
use Rattle.lawful_types.proofs.OkAnswers.{then}
use Rattle.lawful_types.proofs.simple.compare_simple.Goals as goal

pub returns-in-Boolean-Boolean : goal.returns-in-Boolean-Boolean
returns-in-Boolean-Boolean c = rw (c.in-Boolean-Boolean.is-0, c.in-Boolean-Boolean.is-1) (unchanged tt)

pub returns-in-Null-Null : goal.returns-in-Null-Null
returns-in-Null-Null c = rw (c.in-Null-Null.is-0, c.in-Null-Null.is-1) (unchanged tt)

pub returns-in-Utf8-Utf8 : goal.returns-in-Utf8-Utf8
returns-in-Utf8-Utf8 c = rw (c.in-Utf8-Utf8.is-0, c.in-Utf8-Utf8.is-1) (unchanged tt)

pub returns-in-Text-Text : goal.returns-in-Text-Text
returns-in-Text-Text c = rw (c.in-Text-Text.is-0, c.in-Text-Text.is-1) (unchanged tt)

pub returns-in-ObjectIdentifier-ObjectIdentifier : goal.returns-in-ObjectIdentifier-ObjectIdentifier
returns-in-ObjectIdentifier-ObjectIdentifier c = rw (c.in-ObjectIdentifier-ObjectIdentifier.is-0, c.in-ObjectIdentifier-ObjectIdentifier.is-1) (unchanged tt)

pub returns-in-UtcTime-UtcTime : goal.returns-in-UtcTime-UtcTime
returns-in-UtcTime-UtcTime c = rw (c.in-UtcTime-UtcTime.is-0, c.in-UtcTime-UtcTime.is-1) (unchanged tt)

pub returns-in-GeneralizedTime-GeneralizedTime : goal.returns-in-GeneralizedTime-GeneralizedTime
returns-in-GeneralizedTime-GeneralizedTime c = rw (c.in-GeneralizedTime-GeneralizedTime.is-0, c.in-GeneralizedTime-GeneralizedTime.is-1) (unchanged tt)

pub returns-in-Open-Open : goal.returns-in-Open-Open
returns-in-Open-Open c = rw (c.in-Open-Open.is-0, c.in-Open-Open.is-1) (unchanged tt)

pub returns-in-Integer-Integer : goal.returns-in-Integer-Integer
returns-in-Integer-Integer c =
    let h = c.in-Integer-Integer in then c.compare_bounds.result c.compare_bounds.ensures (λ e. rw (h.is-0, h.is-1) (numbers h.newer h.older e))

pub returns-in-OctetString-OctetString : goal.returns-in-OctetString-OctetString
returns-in-OctetString-OctetString c =
    let h = c.in-OctetString-OctetString in then c.compare_sizes.result c.compare_sizes.ensures (λ e. rw (h.is-0, h.is-1) (octet_strings h.newer h.older e))

pub returns-in-BitString-BitString : goal.returns-in-BitString-BitString
returns-in-BitString-BitString c =
    let h = c.in-BitString-BitString in then c.compare_sizes-in-BitString-BitString.result c.compare_sizes-in-BitString-BitString.ensures (λ e. rw (h.is-0, h.is-1) (bit_strings h.newer h.older e))

pub returns-in-NamedBits-NamedBits : goal.returns-in-NamedBits-NamedBits
returns-in-NamedBits-NamedBits c =
    let h = c.in-NamedBits-NamedBits in then c.compare_sizes-in-NamedBits-NamedBits.result c.compare_sizes-in-NamedBits-NamedBits.ensures (λ e. rw (h.is-0, h.is-1) (named_bits h.newer h.older e))
