use Rattle.std.proofs.Common.{refl, sym, ap, ◌∙◌, subst, Some}
use Rattle.rasn_dynamic_jer.specs.Leaves.{octets_json}
use Rattle.rasn_dynamic_jer.proofs.leaves.put_octets.Goals as goal

pub returns-in-OctetString : goal.returns-in-OctetString
returns-in-OctetString c n = rw (c.in-OctetString.is, sym c.as_bytes.ensures) (c.put_digits.ensures n)

pub returns-in-Open : goal.returns-in-Open
returns-in-Open c n = rw (c.in-Open.is, sym c.as_bytes-in-Open.ensures) (c.put_digits-in-Open.ensures n)

pub returns-in-Utf8 : goal.returns-in-Utf8
returns-in-Utf8 c n = rw (c.in-Utf8.is, sym c.as_bytes-in-Utf8.ensures) (c.put_utf8.ensures n)

pub returns-in-Text : goal.returns-in-Text
returns-in-Text c n = rw (c.in-Text.is, sym c.as_bytes-in-Text.ensures) (c.put_latin.ensures n)

pub returns-in-ObjectIdentifier : goal.returns-in-ObjectIdentifier
returns-in-ObjectIdentifier c n = rw (c.in-ObjectIdentifier.is, sym c.as_bytes-in-ObjectIdentifier.ensures) (c.put_identifier.ensures n)
