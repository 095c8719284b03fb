use Rattle.std.proofs.Common.{inr, rules}
use Rattle.std.proofs.lemmas.Result.{err_from_is_err_and}
use Rattle.rasn_traits.specs.AdditionsRead.{reads_added}
use Rattle.rasn_traits.proofs.Reading.{addition_lacks}
use Rattle.rasn_record.proofs.OneAddition.{addition_unread}
use Rattle.rasn_additions.proofs.additions.AddedDecodeSide.decode_required.Goals as goal

pub returns-in_err-read : goal.returns-in_err-read
returns-in_err-read g c =
    let p = err_from_is_err_and c.from_residual.result c.from_residual.ensures.1 in
    record { law = rw (p.1, p.2) (addition_unread g.D.Decoder.rules c.in_err-read.ensures.law); behaves = search rules }

pub returns-in-Some : goal.returns-in-Some
returns-in-Some g c = record { law = reads_added (rw c.in-Some.is at c.in_ok-read.ensures.law); behaves = search rules }

pub returns-in-None : goal.returns-in-None
returns-in-None g c = record {
  law = inr (addition_lacks g.met.D.Decoder.lawful (rw c.in-None.is at c.in_ok-read.ensures.law) c.required_extension_not_present.ensures.lacking);
  behaves = search rules;
}
