use Rattle.std.proofs.Common.{◌≡◌, subst, sym, true}
use Rattle.rasn_schema.specs.Choices.{choices_of}
use Rattle.rasn_schema.specs.declared.items.ItemCounts.{ItemCounts}
use Rattle.rasn_traits.specs.Choices.{index_in, side_of}
use Rattle.rasn_traits.specs.Counted.{OpensPlaced, stands_in, variant_counts}
use Rattle.rasn_traits.proofs.Places.{alternative_opened, is_choice_of, place_stands}
use Rattle.per_enc.proofs.EncoderEncoder.open_alternative.Goals as goal

pub enter_alternative-requires : goal.enter_alternative-requires
enter_alternative-requires g c =
    let C = g.C.Choice in
    subst (λ (n : ItemCounts). stands_in n c.args.place ≡ true) (sym c.alternative_counts.ensures) (place_stands C.VARIANTS C.EXTENDED_VARIANTS c.args.place c.requires)

pub returns : goal.returns
returns g c =
    let C = g.C.Choice in
    alternative_opened (choices_of C.alternatives C.EXTENDED_VARIANTS C.added) c.alternative_counts.result c.args.place _ _ _
    (λ n. rw c.alternative_counts.ensures (is_choice_of C.EXTENDED_VARIANTS (C.alternatives n) (C.added n) (C.described n) (C.extends n))) c.enter_alternative.ensures
