use Rattle.std.proofs.Common.{◌≡◌, inr, ap, sym, subst, true, false}
use Rattle.std.specs.String.{string_bytes}
use Rattle.rasn_types.specs.Contents.{utf8}
use Rattle.rasn_types.proofs.Texts.{is_text-string_bytes, is_text-false}
use Rattle.per_core.specs.Basic.{Octets}
use Rattle.per_core.specs.Spellings.{Took}
use Rattle.per_read.specs.ReaderState.{settings_of}
use Rattle.per_read.proofs.Calls.{answers, refuses, passes_on}
use Rattle.per_read.proofs.Refusals.{faulty_map}
use Rattle.per_read.proofs.Texts.{octets_text, none_of_text, text_took, no_text}
use Rattle.per_read.proofs.Reader.take_utf8.Goals as goal

pub returns-in_err-octets : goal.returns-in_err-octets
returns-in_err-octets c =
    let h = c.in_err-octets.ensures in
    passes_on _ _ c.from_residual.ensures.1 h.kept (faulty_map _ (octets_text _ _ _ _) (none_of_text _ _) h.err)

pub returns-in-Ok : goal.returns-in-Ok
returns-in-Ok c =
    let a = settings_of c.args.self.now in
    let h = c.in_ok-octets.ensures in
    let e : c.in_ok-octets.octets.items ≡ string_bytes c.in-Ok.text = sym (ap (λ v. v.items) c.in-Ok.ensures.ok) in
    answers _ h.kept (text_took a utf8 (is_text-string_bytes c.in-Ok.text) (subst (λ z. Took (Octets a z) c.args.self.now.bits c.take_octets.new.self.bits) e h.ok))

pub returns : goal.returns
returns c =
    let h = c.in_ok-octets.ensures in
    refuses _ h.kept
    (inr (no_text (settings_of c.args.self.now) utf8 c.in_ok-octets.octets.items h.ok (is_text-false c.in_ok-octets.octets.items (λ u. let h : false ≡ true = c.in-Err.ensures.succeeds u in cc))))
