use Rattle.std.proofs.Common.{◌≡◌, sym, false, ℕ, Bool, ◌+◌, ◌-◌, ◌<◌, subst, lt-ltb, arith}
use Rattle.rasn_types.specs.Variants.{variant_of}
use Rattle.rasn_types.specs.declared.types.Codec.{Codec}
use Rattle.per_core.specs.Canon.{extension_bit}
use Rattle.per_core.specs.Counts.{constrained_whole}
use Rattle.per_core.specs.Writers.{◌▹◌}
use Rattle.per_pieces.specs.Pieces.{writer_of}
use Rattle.per_enc.specs.Choices.{PutsWhere, placed_alternative}
use Rattle.rasn_schema.specs.declared.items.Place.TheVariants.{Root}
use Rattle.per_write.specs.WriterState.{StateAppends}
use Rattle.per_enc.proofs.Placing.{two_put}
use Rattle.per_enc.proofs.choices.put_root_alternative.Goals as goal

pub returns : goal.returns
returns g c =
    let x = c.args.writer.now in
    let m = c.put_extension_bit.new.self in
    let n = c.put_constrained_whole.new.self in
    let y = c.put_pieces.new.self in
    let a = variant_of x.codec in
    let r = c.args.roots in
    let i = c.args.index in
    let v = writer_of c.args.value.now.list in
    let there : i < r = c.if-index-roots.false in
    let all : (r - 1) + 1 ≡ r = omega (arith, there) in
    let index = constrained_whole a r i in
    subst (λ (b : Bool). PutsWhere b (placed_alternative a c.args.marker r (Root i) v) x c.put_pieces.result y) (sym (lt-ltb i r there))
    (two_put x m y (extension_bit c.args.marker false) (index ▹ v) c.put_pieces.result c.in_ok-put_extension_bit.ensures.ok
    (two_put m n y index v c.put_pieces.result
    (subst (λ (z : ℕ). StateAppends m (constrained_whole a z i) n) all
    (subst (λ (d : Codec). StateAppends m (constrained_whole (variant_of d) (r - 1 + 1) i) n) c.in_ok-put_extension_bit.ensures.ok.same c.in_ok-put_constrained_whole.ensures.ok)) c.put_pieces.ensures))
