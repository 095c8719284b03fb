-- While a SET OF is open nothing was refused (ITU-T X.691, 22).
use Rattle.std.proofs.Common.{◌≡◌, refl, sym, ◌∙◌, false, List, Option, Some, None}
use Rattle.rasn_types.specs.Values.{Value}
use Rattle.rasn_traits.specs.Lists.{ListForm}
use Rattle.per_enc.specs.Bags.{IsOpenBag as IsOpenBagIn, OpenBag, outside}
use Rattle.per_write.specs.Components.{Encoding}
use Rattle.per_write.specs.Unplaced.{OutsideUnplaced}
use Rattle.per_write.specs.WriterState.{Frame, WriterState}
use Rattle.per_pieces.specs.Turns.{Enclosing}
use Rattle.per_enc.specs.Scopes.{IsOpenMembers}

outside_failed : (o : Option OutsideUnplaced) (y : WriterState) → (outside o y).failed ≡ y.failed
outside_failed None y = refl
outside_failed (Some w) y = refl

pub left_within : (f : ListForm) (x : WriterState) (vs : List Value) (b : OpenBag) (y : WriterState) → IsOpenBagIn f x vs b y → y.failed ≡ false
left_within f x vs b y h = sym (outside_failed b.waiting y) ∙ (h.amid f.all refl).remains.left

pub bag_left : (f : ListForm) (x : Encoding) (vs : List Value) (b : (OpenBag × Option Frame) × Enclosing) (y : Encoding) → IsOpenMembers f x vs b y → y.writer.failed ≡ false
bag_left f x vs b y h = left_within f _ vs b.0.0 y.writer h.opened
