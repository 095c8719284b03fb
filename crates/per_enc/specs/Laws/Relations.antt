-- What holds of an encoder's relations.
use Rattle.std.specs.Prelude.{◌≡◌, Bool, refl}
use Rattle.std.proofs.Common.{◌∙◌, ap, sym}
use Rattle.rasn_traits.specs.Calls.{PresentsWell}
use Rattle.per_enc.specs.Rules.{encoding_rules, MarksWhere, noting}
use Rattle.per_enc.specs.Laws.EmptyGroups.{none_in_vacant}
use Rattle.per_write.specs.Components.{Encoding, noted}
use Rattle.per_write.specs.WriterState.{WriterState}
use Rattle.per_pieces.specs.Turns.{counts, Enclosing, gathers}

-- where a value begins, no more than the pieces differ
pub noting_same : (x : Encoding) → (noting x).writer ≡ record x.writer { pieces = (noting x).writer.pieces }
noting_same x = go x.set x.writer
  where
    go : (o : Enclosing) (w : WriterState) → (noted o w).writer ≡ record w { pieces = (noted o w).writer.pieces }
    go (counts t) w = refl
    go (gathers k) w = refl

-- the variant stays where a presence bit is given
marked_codec : (o : Enclosing) (w : WriterState) (b : Bool) (y : Encoding) → MarksWhere o w b y
    → y.writer.codec ≡ w.codec
marked_codec (counts t) w b y m = ap (λ (z : WriterState). z.codec) m.0.same
marked_codec (gathers k) w b y m = ap (λ (z : Encoding). z.writer.codec) m.1

pub presents_well : PresentsWell encoding_rules
presents_well = record {
  begun = λ x s v y w. sym (ap (λ (z : WriterState). z.failed) (noting_same x)) ∙ w.written.begun;
  left = λ x s v y w. w.written.left;
  room = λ x s v y e w m. record {
    kind_is = m.kind_is;
    codec_is = m.codec_is ∙ w.written.same ∙ ap (λ (z : WriterState). z.codec) (noting_same x);
  };
  skip_room = λ x y e w m. record { kind_is = m.kind_is; codec_is = m.codec_is ∙ ap (λ z. z.codec) w.given.same };
  begin_room = λ x y e w m. record {
    kind_is = m.kind_is;
    codec_is = m.codec_is ∙ ap (λ z. z.codec) w.opened.opened.same;
  };
  add_room = λ x s v y e w m. record { kind_is = m.kind_is; codec_is = m.codec_is ∙ ap (λ z. z.codec) w.given.same };
  vacant = λ x i s v e w g h r. none_in_vacant e.kind i.writer s v
      (ap (λ z. z.failed) w.opened.opened.same ∙ w.opened.opened.awaits.begun) g h r.stands;
  mark_room = λ x b y e w m. record {
    kind_is = m.kind_is;
    codec_is = m.codec_is ∙ marked_codec x.set x.writer b y w;
  };
}
