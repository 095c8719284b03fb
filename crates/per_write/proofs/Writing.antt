-- Writers one after another, and what they write after what was written.
use Rattle.std.proofs.Common.{◌≡◌, refl, sym, ap, ◌∙◌, ℕ, false, [], ◌++◌, Some}
use Rattle.rasn_types.specs.Bits.{Bits}
use Rattle.per_core.specs.Writers.{Writer, just, join, go_on, after, ◌▹◌}
use Rattle.per_pieces.proofs.Placed.{appends_none, appends_same, appends_then, remains_after as pieces_after, remains_all as pieces_all, remains_last as pieces_last}
use Rattle.per_pieces.proofs.Writing.{then_assoc}
use Rattle.per_write.specs.Unwritten.{Remains}
use Rattle.per_write.specs.WriterState.{AppendsBits, WriterState, StateAppends}

-- what is after some bits, and then a further thing
pub behind : (x y : Bits) (f g : Writer) → AppendsBits x f y → (just y ▹ g) 0 ≡ (just x ▹ f ▹ g) 0
behind x y f g h = ap (λ o. go_on o g 0) h ∙ sym (then_assoc (just x) f g 0)

pub bits_then : (x y z : Bits) (f g : Writer) → AppendsBits x f y → AppendsBits y g z → AppendsBits x (f ▹ g) z
bits_then x y z f g h k = k ∙ behind x y f g h

pub bits_same : (x y : Bits) (f g : Writer) → ((p : ℕ) → f p ≡ g p) → AppendsBits x f y → AppendsBits x g y
bits_same x y f g e h = h ∙ ap (join x) (e (after 0 x))

pub bits_after : (x y b : Bits) → y ≡ x ++ b → AppendsBits x (just b) y
bits_after x y b e = ap Some e

-- one thing and then another
pub wrote_then : (x m y : WriterState) (f g : Writer) → StateAppends x f m → StateAppends m g y → StateAppends x (f ▹ g) y
wrote_then x m y f g h k = record {
  begun = h.begun;
  left = k.left;
  same = k.same ∙ h.same;
  beside = k.beside ∙ h.beside;
  appended = appends_then x.pieces m.pieces y.pieces f g h.appended k.appended;
}

-- the same from each position
pub wrote_same : (x y : WriterState) (f g : Writer) → ((p : ℕ) → f p ≡ g p) → StateAppends x f y → StateAppends x g y
wrote_same x y f g e h = record {
  begun = h.begun;
  left = h.left;
  same = h.same;
  beside = h.beside;
  appended = appends_same x.pieces y.pieces f g e h.appended;
}

pub remains_all : (x : WriterState) (all : Writer) → x.failed ≡ false → Remains x all x all
remains_all x all f = record { begun = f; left = f; same = refl; beside = refl; pieces = pieces_all x.pieces all }

pub remains_after : (x y z : WriterState) (all rest f next : Writer) → Remains x all y rest → ((p : ℕ) → rest p ≡ (f ▹ next) p) → StateAppends y f z → Remains x all z next
remains_after x y z all rest f next h e k = record {
  begun = h.begun;
  left = k.left;
  same = k.same ∙ h.same;
  beside = k.beside ∙ h.beside;
  pieces = pieces_after x.pieces y.pieces z.pieces all rest f next h.pieces e k.appended;
}

pub remains_last : (x y z : WriterState) (all rest f : Writer) → Remains x all y rest → ((p : ℕ) → rest p ≡ f p) → StateAppends y f z → StateAppends x all z
remains_last x y z all rest f h e k = record {
  begun = h.begun;
  left = k.left;
  same = k.same ∙ h.same;
  beside = k.beside ∙ h.beside;
  appended = pieces_last x.pieces y.pieces z.pieces all rest f h.pieces e k.appended;
}

pub wrote_none : (x : WriterState) → x.failed ≡ false → StateAppends x (just []) x
wrote_none x f = record { begun = f; left = f; same = refl; beside = refl; appended = appends_none x.pieces }
