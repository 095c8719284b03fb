-- Items of an ENUMERATED, as they are written (X.691 14).
use Rattle.std.proofs.Common.{◌≡◌, sym, subst, ℕ, ◌+◌, ◌<◌, Bool, true, false, lt-ltb, ltb}
use Rattle.rasn_types.specs.Variants.{variant_of}
use Rattle.rasn_types.specs.declared.types.Codec.{Codec}
use Rattle.rasn_types.specs.Values.{Value, item, root, added}
use Rattle.rasn_schema.specs.Enumerations.{IsItemAt, is_added}
use Rattle.rasn_schema.specs.Schemas.{Schema}
use Rattle.per_core.specs.Canon.{canon, extension_bit, item_of}
use Rattle.per_core.specs.Counts.{constrained_whole, small}
use Rattle.per_core.specs.Writers.{written_if}
use Rattle.per_write.specs.WriterState.{WriterState, StateAppends, Presents}
use Rattle.per_write.proofs.Writing.{wrote_then}

-- an item before the marker is one of those there
pub root_below : (r e : ℕ) (v : Value) (i : ℕ) → IsItemAt r e v i → is_added v ≡ false → i < r
root_below r e (item root j) i h d = h.1
root_below r e (item added j) i h d = absurd cc
root_below r e _ i h d = absurd h

pub presents_root : (x m y : WriterState) (r e : ℕ) (ext mark : Bool) (v : Value) (n i : ℕ) → IsItemAt r e v i → is_added v ≡ false → n + 1 ≡ r → mark ≡ ext → StateAppends x (extension_bit mark false) m
    → StateAppends m (constrained_whole (variant_of m.codec) (n + 1) i) y → Presents x (Schema.items r e ext) v y
unfolding canon item_of
presents_root x m y r e ext mark (item root j) n i h d k f b w =
    wrote_then x m y (extension_bit ext false) (constrained_whole (variant_of x.codec) r j) (subst (λ (t : Bool). StateAppends x (extension_bit t false) m) f b)
    (subst (λ (c : Codec). StateAppends m (constrained_whole (variant_of c) r j) y) b.same
    (subst (λ (z : ℕ). StateAppends m (constrained_whole (variant_of m.codec) z j) y) k
    (subst (λ (z : ℕ). StateAppends m (constrained_whole (variant_of m.codec) (n + 1) z) y) h.0 w)))
presents_root x m y r e ext mark (item added j) n i h d k f b w = absurd cc
presents_root x m y r e ext mark _ n i h d k f b w = absurd h

pub presents_added : (x m y : WriterState) (r e : ℕ) (ext mark : Bool) (v : Value) (i : ℕ) → IsItemAt r e v i → is_added v ≡ true → mark ≡ ext → StateAppends x (extension_bit mark true) m
    → StateAppends m (small (variant_of m.codec) i) y → Presents x (Schema.items r e ext) v y
unfolding canon item_of
presents_added x m y r e ext mark (item added j) i h d f b w =
    wrote_then x m y (extension_bit ext true) (written_if (ltb j e) (small (variant_of x.codec) j)) (subst (λ (t : Bool). StateAppends x (extension_bit t true) m) f b)
    (subst (λ (c : Codec). StateAppends m (written_if (ltb j e) (small (variant_of c) j)) y) b.same
    (subst (λ (t : Bool). StateAppends m (written_if t (small (variant_of m.codec) j)) y) (sym (lt-ltb j e (subst (λ (z : ℕ). z < e) h.0 h.1)))
    (subst (λ (z : ℕ). StateAppends m (small (variant_of m.codec) z) y) h.0 w)))
presents_added x m y r e ext mark (item root j) i h d f b w = absurd cc
presents_added x m y r e ext mark _ i h d f b w = absurd h
