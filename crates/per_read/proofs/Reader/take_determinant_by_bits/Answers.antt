use Rattle.std.proofs.Common.{◌∙◌, ◌∷◌, [], true, false, ap, inl, inr, refl, arith}
use Rattle.per_read.proofs.Calls.{answers, refuses, passes_on, begins, ended, too_short}
use Rattle.per_read.proofs.Counts.{of_bits, miscoded, ended_first, ended_short, ended_second, ended_long, ended_fragment, no_fragment, counts_short, counts_long, counts_fragment}
use Rattle.per_read.proofs.Reader.take_determinant_by_bits.Goals as goal

pub returns-in_err-take_bit : goal.returns-in_err-take_bit
returns-in_err-take_bit c =
    let h = c.in_err-take_bit.ensures.err in
    passes_on _ _ c.from_residual.ensures.1 c.in_err-take_bit.ensures.kept (of_bits [] _ refl h.0, ended_first _ (ended h.1))

pub returns-in_err-take_bits : goal.returns-in_err-take_bits
returns-in_err-take_bits c =
    let h = c.in_err-take_bits.ensures.err in
    passes_on _ _ c.from_residual-in_err-take_bits.ensures.1 (c.in_err-take_bits.ensures.kept ∙ c.in_ok-take_bit.ensures.kept)
    (of_bits (false ∷ []) _ (begins c.in_ok-take_bit.ensures.ok c.if-not-branch.true) h.0, ended_short _ _ _ (begins c.in_ok-take_bit.ensures.ok refl) c.if-not-branch.true (too_short h.1))

pub returns-then-not-branch : goal.returns-then-not-branch
returns-then-not-branch c =
    answers _ (c.in_ok-take_bits.ensures.kept ∙ c.in_ok-take_bit.ensures.kept) (counts_short _ _ _ (begins c.in_ok-take_bit.ensures.ok refl) _ _ c.if-not-branch.true c.in_ok-take_bits.ensures.ok)

pub returns-in_err-take_bit-2 : goal.returns-in_err-take_bit-2
returns-in_err-take_bit-2 c =
    let h = c.in_err-take_bit-2.ensures.err in
    passes_on _ _ c.from_residual-in_err-take_bit-2.ensures.1 (c.in_err-take_bit-2.ensures.kept ∙ c.in_ok-take_bit.ensures.kept)
    (of_bits (true ∷ []) _ (begins c.in_ok-take_bit.ensures.ok c.if-not-branch.false) h.0, ended_second _ _ _ (begins c.in_ok-take_bit.ensures.ok refl) c.if-not-branch.false (ended h.1))

pub returns-in_err-take_bits-2 : goal.returns-in_err-take_bits-2
returns-in_err-take_bits-2 c =
    let h = c.in_err-take_bits-2.ensures.err in
    passes_on _ _ c.from_residual-in_err-take_bits-2.ensures.1 (c.in_err-take_bits-2.ensures.kept ∙ c.in_ok-take_bit-2.ensures.kept ∙ c.in_ok-take_bit.ensures.kept)
    (of_bits (true ∷ false ∷ []) _ (begins c.in_ok-take_bit.ensures.ok c.if-not-branch.false ∙ ap (λ z. true ∷ z) (begins c.in_ok-take_bit-2.ensures.ok c.if-not-branch-2.true)) h.0, ended_long _ _ _ (begins c.in_ok-take_bit.ensures.ok refl) _ _ (begins c.in_ok-take_bit-2.ensures.ok refl) c.if-not-branch.false c.if-not-branch-2.true (too_short h.1))

pub returns-then-not-branch-2 : goal.returns-then-not-branch-2
returns-then-not-branch-2 c =
    answers _ (c.in_ok-take_bits-2.ensures.kept ∙ c.in_ok-take_bit-2.ensures.kept ∙ c.in_ok-take_bit.ensures.kept)
    (counts_long _ _ _ (begins c.in_ok-take_bit.ensures.ok refl) _ _ (begins c.in_ok-take_bit-2.ensures.ok refl) c.if-not-branch.false _ _ c.if-not-branch-2.true c.in_ok-take_bits-2.ensures.ok)

pub returns-in_err-times : goal.returns-in_err-times
returns-in_err-times c =
    let h = c.in_err-times.ensures.err in
    passes_on _ _ c.from_residual-in_err-times.ensures.1 (c.in_err-times.ensures.kept ∙ c.in_ok-take_bit-2.ensures.kept ∙ c.in_ok-take_bit.ensures.kept)
    (of_bits (true ∷ true ∷ []) _ (begins c.in_ok-take_bit.ensures.ok c.if-not-branch.false ∙ ap (λ z. true ∷ z) (begins c.in_ok-take_bit-2.ensures.ok c.if-not-branch-2.false)) h.0, ended_fragment _ _ _ (begins c.in_ok-take_bit.ensures.ok refl) _ _ (begins c.in_ok-take_bit-2.ensures.ok refl) c.if-not-branch.false c.if-not-branch-2.false (too_short h.1))

pub returns-in-1-to-4 : goal.returns-in-1-to-4
returns-in-1-to-4 c =
    answers _ (c.in_ok-times.ensures.kept ∙ c.in_ok-take_bit-2.ensures.kept ∙ c.in_ok-take_bit.ensures.kept)
    (counts_fragment _ _ _ (begins c.in_ok-take_bit.ensures.ok refl) _ _ (begins c.in_ok-take_bit-2.ensures.ok refl) c.if-not-branch.false _ _ c.if-not-branch-2.false (omega arith) (omega arith) c.in_ok-times.ensures.ok)

pub returns-in_default : goal.returns-in_default
returns-in_default c =
    refuses _ (c.in_ok-times.ensures.kept ∙ c.in_ok-take_bit-2.ensures.kept ∙ c.in_ok-take_bit.ensures.kept)
    (miscoded _ (begins c.in_ok-take_bit.ensures.ok c.if-not-branch.false ∙ ap (λ z. true ∷ z) (begins c.in_ok-take_bit-2.ensures.ok c.if-not-branch-2.false)) c.in_ok-times.ensures.ok (inl (omega arith)), no_fragment _ _ _ (begins c.in_ok-take_bit.ensures.ok refl) _ _ (begins c.in_ok-take_bit-2.ensures.ok refl) c.if-not-branch.false _ _ c.if-not-branch-2.false c.in_ok-times.ensures.ok (inl (omega arith)))

pub returns-in_default-2 : goal.returns-in_default-2
returns-in_default-2 c =
    refuses _ (c.in_ok-times.ensures.kept ∙ c.in_ok-take_bit-2.ensures.kept ∙ c.in_ok-take_bit.ensures.kept)
    (miscoded _ (begins c.in_ok-take_bit.ensures.ok c.if-not-branch.false ∙ ap (λ z. true ∷ z) (begins c.in_ok-take_bit-2.ensures.ok c.if-not-branch-2.false)) c.in_ok-times.ensures.ok (inr (omega arith)), no_fragment _ _ _ (begins c.in_ok-take_bit.ensures.ok refl) _ _ (begins c.in_ok-take_bit-2.ensures.ok refl) c.if-not-branch.false _ _ c.if-not-branch-2.false c.in_ok-times.ensures.ok (inr (omega arith)))
