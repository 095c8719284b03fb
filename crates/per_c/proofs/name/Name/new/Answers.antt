use Rattle.std.proofs.Common.{◌∙◌, ap, length, ◌++◌, drop, replicate}
use Rattle.std.proofs.lemmas.List.{drop-replicate}
use Rattle.per_c.proofs.name.Name.new.Goals as goal

pub returns : goal.returns
returns c =
    let text = c.args.text.now in
    ap (λ octets. octets ++ drop (length text) (replicate 32 0)) (c.copy_from_slice.ensures.after ∙ c.as_bytes.ensures.value)
    ∙ ap (λ zeros. text ++ zeros) (drop-replicate (length text) 32 0)
