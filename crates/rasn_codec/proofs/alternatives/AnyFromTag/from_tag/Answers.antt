use Rattle.std.proofs.Common.{subst, Some}
use Rattle.rasn_schema.specs.Choices.{StandsAt, choices_of}
use Rattle.rasn_schema.specs.Components.{added_parts, chosen_value, root_parts}
use Rattle.rasn_schema.specs.Structures.{tag_of}
use Rattle.rasn_traits.specs.Choices.{IsPlaceOf}
use Rattle.rasn_codec.proofs.FirstPlace.{stands_within, taken_at}
use Rattle.rasn_codec.proofs.alternatives.AnyFromTag.from_tag.Goals as goal

pub decode_alternative-requires : goal.decode_alternative-requires
decode_alternative-requires g c =
    let s = stands_within (tag_of c.args.tag) c.VARIANTS.result c.EXTENDED_VARIANTS-added.result c.in-Some.place
    (subst (λ r. StandsAt (tag_of c.args.tag) c.VARIANTS.result c.EXTENDED_VARIANTS-added.result r) c.in-Some.is c.place_of.ensures) in
    subst (λ vs. IsPlaceOf vs g.T.Alternatives.ALTERNATIVES.behind c.in-Some.place) c.VARIANTS.ensures
    (subst (λ xs. IsPlaceOf c.VARIANTS.result xs c.in-Some.place) c.EXTENDED_VARIANTS-added.ensures s)

pub returns-in-Some : goal.returns-in-Some
returns-in-Some g c =
    let T = g.T.Alternatives in
    let s = subst (λ r. StandsAt (tag_of c.args.tag) c.VARIANTS.result c.EXTENDED_VARIANTS-added.result r) c.in-Some.is c.place_of.ensures in
    taken_at g.D.Decoder.rules (choices_of (root_parts T.alternatives.0) T.ALTERNATIVES.behind (added_parts T.alternatives.0)) T.ALTERNATIVES.before T.ALTERNATIVES.behind (tag_of c.args.tag) c.in-Some.place
    (λ x. chosen_value (T.chosen x)) c.args.decoder.now c.decode_alternative.result c.decode_alternative.new.decoder
    (subst (λ vs. StandsAt (tag_of c.args.tag) vs T.ALTERNATIVES.behind (Some c.in-Some.place)) c.VARIANTS.ensures
    (subst (λ xs. StandsAt (tag_of c.args.tag) c.VARIANTS.result xs (Some c.in-Some.place)) c.EXTENDED_VARIANTS-added.ensures s)) c.decode_alternative.ensures
