use Rattle.std.proofs.Common.{◌≡◌, ◌∙◌, Ok, ap, sym, subst, length, arith}
use Rattle.per_write.specs.Records.{PutsAdditions}
use Rattle.per_write.specs.WriterState.{Additions, WriterState}
use Rattle.per_write.proofs.RecordsClosed.{additions_put}
use Rattle.per_write.proofs.Writer.put_additions.Goals as goal

pub returns : goal.returns
returns g c =
    let i = c.additions.inside in
    let k : Additions = record { extension = i.extension; count = i.count; flags = i.flags; opens = i.opens } in
    let w = c.self.inside in
    let x : WriterState = record { pieces = w.pieces; failed = w.failed; codec = w.codec; scope = record { presences = w.presences; additions = w.additions; is_open = w.is_open } } in
    let counted : length i.flags ≡ i.count = omega (arith, c.len.ensures) in
    rw (← c.self.view_is, ← c.additions.view_is)
    (subst (λ (s : WriterState). PutsAdditions k x (Ok tt) s) (sym c.self-2.view_is)
    (additions_put x c.put_bitmap.new.self c.put_padding.new.self c.put_reader.new.self c.set.new.self c.new.result.bits k (Ok tt) (ap (λ (s : WriterState). s.failed) c.self.view_is ∙ c.requires) counted
    (sym c.has_one.ensures ∙ c.if-not-has_one.false) c.set.ensures c.in_ok-put_bitmap.ensures.ok c.in_ok-put_padding.ensures.ok c.new.ensures.bits c.in_ok-put_reader.ensures))
