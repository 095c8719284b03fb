use Rattle.std.proofs.Common.{true, [], ◌∷◌, ◌∙◌, subst, Some}
use Rattle.rasn_types.specs.Variants.{variant_of}
use Rattle.rasn_types.specs.declared.types.Codec.{Codec}
use Rattle.per_core.specs.Counts.{open_bits, small}
use Rattle.per_core.specs.Writers.{just, ◌▹◌}
use Rattle.per_pieces.specs.Pieces.{placed_bits}
use Rattle.per_write.specs.Faults.{IsMemory}
use Rattle.per_write.specs.WriterState.{Puts, StateAppends}
use Rattle.per_enc.proofs.Placing.{two_put}
use Rattle.per_enc.proofs.choices.put_added_alternative.Goals as goal

pub returns : goal.returns
returns g c =
    let x = c.args.writer.now in
    let m = c.put_extension_bit.new.self in
    let n = c.put_small.new.self in
    let y = c.put_open_pieces.new.self in
    let first = c.in_ok-put_extension_bit.ensures.ok in
    let index = small (variant_of x.codec) c.args.index in
    let contents = open_bits (variant_of x.codec) (Some (placed_bits c.args.value.list 0)) in
    let second : StateAppends m index n = subst (λ (d : Codec). StateAppends m (small (variant_of d) c.args.index) n) first.same c.in_ok-put_small.ensures.ok in
    two_put x m y (just (true ∷ [])) (index ▹ contents) c.put_open_pieces.result first
    (two_put m n y index contents c.put_open_pieces.result second
    (subst (λ (d : Codec). Puts IsMemory (open_bits (variant_of d) (Some (placed_bits c.args.value.list 0))) n c.put_open_pieces.result y) (second.same ∙ first.same) c.put_open_pieces.ensures))
