use Rattle.std.proofs.Common.{rules}
use Rattle.std.proofs.lemmas.Result.{err_from_is_err_and}
use Rattle.rasn_traits.specs.Scopes.{reads_end, reads_next}
use Rattle.rasn_traits.proofs.Reading.{fails_after, fails_part}
use Rattle.rasn_record.proofs.BothRead.{fields_taken_as, plainly_taken}
use Rattle.rasn_record.proofs.RestOfLists.{level_of}
use Rattle.rasn_record.proofs.few.two_to_read.Goals as goal

pub returns-in_err-first : goal.returns-in_err-first
returns-in_err-first g c =
    let p = err_from_is_err_and c.from_residual.result c.from_residual.ensures.1 in
    let a = c.in_err-first.ensures.law in
    fields_taken_as c.requires.components c.requires.additions (plainly_taken g.met.X.Decoder.lawful (record { law = rw (p.1, p.2) (fails_part g.met.X.Decoder.lawful a); fails = search rules; kept = search rules }))

pub returns-in_err-second : goal.returns-in_err-second
returns-in_err-second g c =
    let p = err_from_is_err_and c.from_residual-in_err-second.result c.from_residual-in_err-second.ensures.1 in
    let a = c.in_ok-first.ensures.law in
    let l1 = level_of g.met.X.Decoder.lawful a in
    let b = rw (c.behind-limits_2.ensures, l1) at c.in_err-second.ensures.law in
    fields_taken_as c.requires.components c.requires.additions (plainly_taken g.met.X.Decoder.lawful (record { law = rw (p.1, p.2) (fails_after g.met.X.Decoder.lawful a (fails_part g.met.X.Decoder.lawful b)); fails = search rules; kept = search rules }))

pub returns : goal.returns
returns g c =
    let a = c.in_ok-first.ensures.law in
    let l1 = level_of g.met.X.Decoder.lawful a in
    let b = rw (c.behind-limits_2.ensures, l1) at c.in_ok-second.ensures.law in
    fields_taken_as c.requires.components c.requires.additions (plainly_taken g.met.X.Decoder.lawful (record { law = reads_next a (reads_next b reads_end); fails = search rules; kept = search rules }))
