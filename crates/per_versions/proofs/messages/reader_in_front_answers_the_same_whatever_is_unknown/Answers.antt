use Rattle.per_laws.proofs.Sound.{read_the_same}
use Rattle.per_versions.proofs.Fronts
use Rattle.per_versions.proofs.messages.reader_in_front_answers_the_same_whatever_is_unknown.Goals as goal
use Rattle.rasn_per.specs.Calls.{basically}
use Rattle.rasn_types.specs.Variants.{variant_of}
use Rattle.std.proofs.Common.{refl}

pub returns : goal.returns
returns g c = λ codec x octets others rest answer k d e.
    let type = g.T.AsnType.schema g.T.AsnType.CONSTRAINTS in
    let a = basically (variant_of codec) in
    let v = g.T.AsnType.value x in
    let r = (read_the_same a (type 128) octets others k v).0 d.ok.are_read in
    Fronts.front_answered codec type g.T.AsnType.value _ others rest answer _ e refl (Fronts.read_front a type v others rest r) (Fronts.only_read a type v others r)
