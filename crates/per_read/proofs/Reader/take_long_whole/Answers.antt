use Rattle.std.proofs.Common.{◌≡◌, ◌<◌, inr, sym, arith, length}
use Rattle.std.proofs.lemmas.Bool.Decides.{nat_tests}
use Rattle.per_read.specs.ReaderState.{settings_of}
use Rattle.per_read.proofs.Calls.{answers, refuses, passes_on}
use Rattle.per_read.proofs.OneByOne.{no_more}
use Rattle.per_read.proofs.OfFields.{of_octets}
use Rattle.per_read.proofs.Refusals.{faulty_map}
use Rattle.per_read.proofs.Unbounded.{none_there}
use Rattle.per_read.proofs.NumbersUnderBounds.{no_length_no_whole, no_octets_no_whole, octets_whole}
use Rattle.per_read.proofs.Reader.take_long_whole.Goals as goal

pub returns-in_err-octets : goal.returns-in_err-octets
returns-in_err-octets c =
    passes_on _ _ c.from_residual.ensures.1 c.in_err-octets.ensures.kept (faulty_map _ (of_octets _ _ _) (no_length_no_whole _ _) c.in_err-octets.ensures.err)

pub returns-then-is_empty : goal.returns-then-is_empty
returns-then-is_empty c =
    let l : length c.in_ok-octets.octets.items ≡ 0 = grind (arith, nat_tests) in
    let e = no_more c.in_ok-octets.octets.items l in
    let b = c.in_ok-octets.ensures.ok in
    refuses _ c.in_ok-octets.ensures.kept (inr ((_, none_there _ _ _ _ b e), no_octets_no_whole _ _ _ _ b e))

pub returns : goal.returns
returns c =
    let l : 0 < length c.in_ok-octets.octets.items = grind (arith, nat_tests) in
    answers _ c.in_ok-octets.ensures.kept (octets_whole (settings_of c.args.self.now) _ c.in_ok-octets.octets.items _ c.in_ok-octets.ensures.ok l c.number_of_octets.result (rw (sym c.deref.ensures.value) c.number_of_octets.ensures))
