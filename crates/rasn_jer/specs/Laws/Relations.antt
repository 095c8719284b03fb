-- What holds of an encoder's relations.
use Rattle.std.specs.Prelude.{◌≡◌, true, false}
use Rattle.std.proofs.Common.{◌∙◌, ap, sym, inl, inr}
use Rattle.rasn_traits.specs.Calls.{PresentsWell}
use Rattle.rasn_traits.specs.Sets.{SetsWritten}
use Rattle.rasn_jer.specs.Laws.EmptyGroups.{none_in_vacant}
use Rattle.rasn_jer.specs.Frames.{is_full, JsonState}
use Rattle.rasn_jer.specs.Rules.{IsRefused, jer_rules}
use Rattle.rasn_jer.specs.Shown.{in_set, shows_ordered}
use Rattle.rasn_jer.specs.declared.error.EncodeError.{EncodeError}
use Rattle.rasn_jer.specs.declared.error.EncodeError.TheVariants.{AlreadyFailed, NoJson, OutOfMemory, OutOfTurn}
use Rattle.rasn_jer.specs.declared.error.EncodeError.TheVariants.{VariantNotInChoice}

-- nothing is refused where a value is awaited
pub unrefused : (e : EncodeError) (x : JsonState) → x.failed ≡ false → is_full x.place ≡ false → IsRefused e x → ⊥
unrefused NoJson x f p h = h
unrefused OutOfMemory x f p h = h
unrefused OutOfTurn x f p h = absurd (let t : true ≡ false = sym h ∙ p in cc)
unrefused AlreadyFailed x f p h = absurd (let t : true ≡ false = sym h ∙ f in cc)
unrefused VariantNotInChoice x f p h = h

pub presents_well : PresentsWell jer_rules
presents_well = record {
  begun = λ x s v y w. w.begun;
  left = λ x s v y w. w.left;
  room = λ x s v y e w m. m;
  mark_room = λ x b y e w m. m;
  skip_room = λ x y e w m. m;
  begin_room = λ x y e w m. m;
  add_room = λ x s v y e w m. m;
  vacant = λ x i s v e w g h r. elim r [
    | inl q ↦ unrefused e i (ap (λ (z : JsonState). z.failed) w.within)
        (ap (λ (z : JsonState). is_full z.place) w.within) q
    | inr q ↦ none_in_vacant e s v g h q
  ];
}

-- X.691 21.1: a SET is shown as the SEQUENCE of its components in ascending order of their smallest tags
pub sets_written : SetsWritten jer_rules
sets_written = record {
  presented = λ ps marker qs x y rs xs w. record {
    begun = w.begun;
    left = w.left;
    json = w.json;
    shows = shows_ordered rs xs w.shows;
    taken = w.taken;
  };
  refused = λ ps marker qs x rs xs e h. elim h [ inl q ↦ inl q | inr q ↦ inr (in_set rs xs q) ];
}
