use Rattle.std.proofs.Common.{ap, ◌∙◌, length}
use Rattle.per_decoding.specs.Sources.{flags_in}
use Rattle.per_de.proofs.Steps.{unknown_skipped}
use Rattle.per_de.proofs.Decoder.skip_additions.Goals as goal

pub returns : goal.returns
returns c =
    unknown_skipped _ _ c.args.self.now _ c.answer.result (c.into_bitmap-bitmap.ensures ∙ ap (λ z. flags_in z c.args.flags) (c.bits.ensures.bits ∙ ap (λ z. z.source.bits) c.self.view_is)) c.reader-reader.ensures c.skip_unknown-taken.ensures
    (c.len-left.ensures ∙ ap length c.bits-2.ensures) c.answer.ensures
