use Rattle.std.proofs.Common.{◌≡◌, ◌<◌, refl, arith, length, [], Some}
use Rattle.per_read.proofs.Calls.{answers, refuses, passes_on}
use Rattle.per_read.proofs.InPlace.{index_of}
use Rattle.per_read.proofs.Naturals.{no_length_no_natural, no_octets_no_natural}
use Rattle.per_read.proofs.OneByOne.{no_more}
use Rattle.per_read.proofs.OfFields.{of_octets}
use Rattle.per_read.proofs.Unbounded.{none_there}
use Rattle.per_read.proofs.in_place.take_index.Goals as goal

pub returns-in_err-count : goal.returns-in_err-count
returns-in_err-count c =
    let h = c.in_err-count.ensures in
    passes_on _ _ c.from_residual.ensures.1 h.kept (of_octets _ _ _ h.err.0, no_length_no_natural _ _ h.err.1)

pub returns-then-count-eq0 : goal.returns-then-count-eq0
returns-then-count-eq0 c =
    let h = c.in_ok-count.ensures in
    let l : length h.ok.codes ≡ 0 = omega (arith, h.ok.count, c.if-count-eq0.true) in
    let e = no_more h.ok.codes l in
    refuses _ h.kept ((_, none_there _ _ _ _ h.ok.took e), no_octets_no_natural _ _ _ _ h.ok.took e)

pub returns : goal.returns
returns c =
    let h = c.in_ok-count.ensures in
    let l : 0 < length h.ok.codes = omega (arith, h.ok.count, c.if-count-eq0.false) in
    answers _ h.kept (index_of _ _ h.ok.codes _ _ h.ok.took l (h.ok.added.behind (Some 0) [] refl))
