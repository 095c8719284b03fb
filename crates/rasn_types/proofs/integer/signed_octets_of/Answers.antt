use Rattle.std.proofs.Common.{◌≡◌, sym, subst, IfOk, FitsSigned, to_z-of_z}
use Rattle.std.proofs.lemmas.Result.{IfOk-weaker}
use Rattle.std.specs.Int.{w128}
use Rattle.rasn_types.specs.Integers.{AreFewest}
use Rattle.rasn_types.specs.Bits.{signed_octets}
use Rattle.rasn_types.proofs.Integers.{kept_octets}
use Rattle.rasn_types.proofs.Octets.{fewest-signed_octets}
use Rattle.rasn_types.proofs.integer.signed_octets_of.Goals as goal

pub overflow_sub-skipped : goal.overflow_sub-skipped
overflow_sub-skipped g c = c.octet_count-skipped.ensures.few

pub returns : goal.returns
returns g c = let fits : FitsSigned w128 c.args.value = c.ranges.value in
    let kept = kept_octets c.args.value c.octet_count-skipped.result c.to_be_bytes-octets.result fits (simp to_z-of_z at c.octet_count-skipped.ensures.value) (simp to_z-of_z at c.to_be_bytes-octets.ensures) in
    let written = subst (λ os. IfOk c.from_slice.result (λ v. v.items ≡ os)) kept c.from_slice.ensures.items in
    record {
      octets = written;
      fewest = IfOk-weaker c.from_slice.result (λ v. v.items ≡ signed_octets c.args.value) (λ v. AreFewest c.args.value v.items) (λ v e. subst (λ os. AreFewest c.args.value os) (sym e) (fewest-signed_octets c.args.value)) written;
    }
