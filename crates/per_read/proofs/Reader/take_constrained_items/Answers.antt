use Rattle.std.proofs.Common.{◌∙◌, ◌≡◌, ◌&&◌, Bool, ltb, inl, inr, subst, ap}
use Rattle.per_core.specs.Counts.{is_aligned, bits_of, counted_of}
use Rattle.per_core.specs.Spellings.{Settings, Took}
use Rattle.rasn_types.specs.Bits.{Bits}
use Rattle.per_core.specs.Lengths.{coded}
use Rattle.per_core.specs.SizeFaults.{IsOfPaddingIf}
use Rattle.per_read.specs.ReaderState.{settings_of}
use Rattle.per_core.specs.declared.decode_error.DecodeErrorKind.{DecodeErrorKind}
use Rattle.per_read.proofs.Calls.{answers_items, passes_on_items}
use Rattle.per_core.specs.Basic.{PaddingIf}
use Rattle.per_read.proofs.Refusals.{faulty_map}
use Rattle.per_read.proofs.SizeForms.{between_took, short_between, no_count_between, no_padding_between}
use Rattle.per_read.proofs.Reader.take_constrained_items.Goals as goal

-- where the same padding is
as_padding : (a : Settings) (s : Bits) (k : DecodeErrorKind) {b d : Bool} → b ≡ d → IsOfPaddingIf b a s k → IsOfPaddingIf d a s k
as_padding a s k e h = subst (λ b. IsOfPaddingIf b a s k) e h

pub returns-in_err-count : goal.returns-in_err-count
returns-in_err-count g c =
    let h = c.in_err-count.ensures in
    let i = g.C.Collector.item c.args.items.now in
    passes_on_items _ _ c.from_residual.ensures.1 h.kept (inr (inl h.err.0, no_count_between (settings_of c.args.self.now) c.args.lower c.args.upper (counted_of i) (coded i) h.err.1))

pub returns-in_err-take_padding_between : goal.returns-in_err-take_padding_between
returns-in_err-take_padding_between g c =
    let a = settings_of c.args.self.now in
    let item = g.C.Collector.item c.args.items.now in
    let n = c.in_ok-count.count in
    let h = c.in_ok-count.ensures in
    let p = c.in_err-take_padding_between.ensures in
    passes_on_items _ _ c.from_residual-in_err-take_padding_between.ensures.1 (p.kept ∙ h.kept)
    (inr (
      inr (
        n,
        (
          c.take_constrained_count.new.self.bits,
          h.ok,
          inl (as_padding a c.take_constrained_count.new.self.bits _ (ap (λ z. ltb 0 n && is_aligned (counted_of z) c.args.lower c.args.upper) c.item.ensures.item) (rw h.kept at p.err.0)),
        ),
      ),
      no_padding_between a c.args.lower c.args.upper (counted_of item) (bits_of item) n h.ok
          (ap (λ z. ltb 0 n && is_aligned (counted_of z) c.args.lower c.args.upper) c.item.ensures.item) (rw h.kept at p.err.1),
    ))

pub returns-in_err-take_bare_items : goal.returns-in_err-take_bare_items
returns-in_err-take_bare_items g c =
    let a = settings_of c.args.self.now in
    let item = g.C.Collector.item c.args.items.now in
    let n = c.in_ok-count.count in
    let h = c.in_ok-count.ensures in
    let p = c.in_ok-take_padding_between.ensures in
    passes_on_items _ _ c.from_residual-in_err-take_bare_items.ensures.1 (c.in_err-take_bare_items.ensures.kept ∙ p.kept ∙ h.kept)
    (faulty_map _
    (λ f. inr (
      n,
      (
        c.take_constrained_count.new.self.bits,
        h.ok,
        inr (
          c.take_padding_between.new.self.bits,
          subst (λ b. Took (PaddingIf b a) c.take_constrained_count.new.self.bits c.take_padding_between.new.self.bits)
              (ap (λ z. ltb 0 n && is_aligned (counted_of z) c.args.lower c.args.upper) c.item.ensures.item) (rw h.kept at p.ok),
          f,
        ),
      ),
    ))
    (short_between a c.args.lower c.args.upper (counted_of item) (bits_of item) n h.ok
    (ap (λ z. ltb 0 n && is_aligned (counted_of z) c.args.lower c.args.upper) c.item.ensures.item) (rw h.kept at p.ok)) c.in_err-take_bare_items.ensures.err)

pub returns : goal.returns
returns g c =
    let a = settings_of c.args.self.now in
    let item = g.C.Collector.item c.args.items.now in
    let n = c.in_ok-count.count in
    let h = c.in_ok-count.ensures in
    let p = c.in_ok-take_padding_between.ensures in
    let t = c.in_ok-take_bare_items.ensures in
    answers_items _ (t.kept ∙ p.kept ∙ h.kept)
    (between_took a c.args.lower c.args.upper (counted_of item) (bits_of item) n h.ok
    (ap (λ z. ltb 0 n && is_aligned (counted_of z) c.args.lower c.args.upper) c.item.ensures.item) (rw h.kept at p.ok) t.ok)
