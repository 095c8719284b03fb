use Rattle.std.proofs.Common.{[], ◌∷◌, ◌≡◌, ◌∙◌, sym, ap, length, take, arith, ◌*◌, ◌+◌, ◌++◌, ◌-◌, refl, replicate, false}
use Rattle.rasn_types.specs.Bits.{to_bits}
use Rattle.per_bits.proofs.Joins.{AreFront, appended, front_popped, front_full}
use Rattle.per_bits.proofs.bit_fields.append_field.Goals as goal
use Rattle.per_bits.proofs.bit_fields.append_field.Goals.{then-spare-gt0+in-Some, then-spare-gt0+in_default, else-spare-gt0}

pub returns-clause-bits : goal.returns-clause-bits
returns-clause-bits g c =
    let front : AreFront c.args.spare c.if-spare-gt0.used c.if-spare-gt0.bits c.if-spare-gt0.octets.items c.args.octets.now.items =
    (elim c.if-spare-gt0.branch [
      | then-spare-gt0+in-Some w ↦
          (let fits = rw w.in-Some.is at w.pop.type_inv in
          front_popped c.args.spare c.if-spare-gt0.used c.if-spare-gt0.bits w.in-Some.last c.if-spare-gt0.octets.items c.args.octets.now.items w.if-spare-gt0.true c.requires.spare (omega arith)
          (w.in-Some.ensures.items ∙ ap (λ v. v.items ++ w.in-Some.last ∷ []) (sym w.octets-is))
          w.used-is (w.bits-is ∙ w.from-bits.ensures))
      | then-spare-gt0+in_default w ↦ absurd (omega (arith, w.in_default.ensures.cases))
      | else-spare-gt0 w ↦ front_full c.args.spare c.if-spare-gt0.used c.if-spare-gt0.bits c.if-spare-gt0.octets.items c.args.octets.now.items (omega arith) w.used-is w.bits-is (ap (λ v. v.items) w.octets-is)
    ]) in
    let items = rw c.unwrap.ensures at c.extend_from_slice.ensures.items in
    let l : c.len.result ≡ length c.if-spare-gt0.octets.items = omega arith in
    record {
      few = omega arith;
      zeros = appended c.if-spare-gt0.octets.items c.truncate.new.self.items c.to_be_bytes.result c.if-spare-gt0.used c.args.width c.args.value c.if-spare-gt0.bits c.low_bits.result _ c.div_ceil-count.result c.len.result
          front.few c.requires.few front.below c.low_bits.ensures refl c.to_be_bytes.ensures (omega (arith, front.few)) (omega (arith, front.few)) l (c.truncate.ensures.items ∙ ap (λ os. take (c.len.result + c.div_ceil-count.result) os) items)
          ∙ ap (λ bs. (bs ++ to_bits c.args.width c.args.value) ++ replicate (8 * c.div_ceil-count.result - (c.if-spare-gt0.used + c.args.width)) false) front.same;
    }
