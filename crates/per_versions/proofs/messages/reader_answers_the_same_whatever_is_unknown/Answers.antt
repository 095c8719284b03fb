use Rattle.per_laws.proofs.Sound.{read_the_same}
use Rattle.per_versions.proofs.Fronts
use Rattle.per_versions.proofs.Laws
use Rattle.per_versions.proofs.messages.reader_answers_the_same_whatever_is_unknown.Goals as goal
use Rattle.rasn_per.specs.Calls.{reading}
use Rattle.rasn_types.specs.Variants.{variant_of}

pub returns : goal.returns
returns g c = λ strict codec x octets others answer k d e.
    let type = g.T.AsnType.schema g.T.AsnType.CONSTRAINTS in
    let a = reading strict (variant_of codec) in
    let v = g.T.AsnType.value x in
    Laws.answered strict codec type g.T.AsnType.value others answer _ e (Fronts.only_read a type v others ((read_the_same a (type 128) octets others k v).0 d.ok.are_read))
