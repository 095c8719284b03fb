use Rattle.std.proofs.Common.{◌≡◌, ◌≤◌, ◌∙◌, ap, arith, false, length, subst, sym, true}
use Rattle.std.specs.Prelude.{Ok}
use Rattle.rasn_types.specs.Values.{octets}
use Rattle.rasn_schema.specs.Forms.{size_of, is_size_marked}
use Rattle.rasn_schema.specs.Schemas
use Rattle.rasn_traits.specs.Calls.{Reads}
use Rattle.per_decoding.specs.Rules.{plain_rules}
use Rattle.per_decoding.specs.State.{State, with_last}
use Rattle.per_de.specs.Lending.{ComeAlone}
use Rattle.per_decoding.specs.Sources.{bits_of, place_left}
use Rattle.per_de.proofs.Calls.{no_more_left}
use Rattle.per_de.proofs.Lending.{enough, taken_copy, taken_in_front}
use Rattle.per_decoding.proofs.Spans.{span_length}
use Rattle.per_de.proofs.Decoder.take_octets.Goals as goal
use Rattle.per_de.proofs.Decoder.take_octets.Goals.{else-ends_octet-via-then-ends_octet+else-come_alone, else-ends_octet-via-else-ends_octet}

pub returns-then-come_alone : goal.returns-then-come_alone
returns-then-come_alone c =
    let s = c.args.self.now in
    let size = size_of c.args.constraints.now in
    let mark = is_size_marked c.args.constraints.now in
    let n = c.in_ok-count.count in
    let left = c.in_ok-count.left in
    let span = c.self.inside.bits in
    let e = c.in_ok-count.ensures.stays in
    let g = c.in_ok-count.ensures.ok in
    let alone : ComeAlone size mark s.bits n = subst (λ z. ComeAlone size mark z.bits n) e (c.come_alone.ensures.0 c.if-come_alone.true) in
    let few : left ≤ span.end =
    omega (arith, enough s size mark left s c.requires n g alone, ap (λ z. length z.bits) c.self.view_is, span_length span (bits_of c.self.inside.source) c.self.invariant) in
    record {
      ok = taken_in_front s size mark left c.advance.new.self c.requires n g span c.self.inside.source (ap (λ z. z.source) c.self.view_is) (ap (λ z. z.bits) c.self.view_is) c.self.invariant few alone
          (ap place_left c.advance.ensures ∙ c.ends_octet.ensures.0 c.if-ends_octet.true) (c.advance.ensures ∙ ap (λ z. with_last z left) e);
      err = tt;
    }

pub returns : goal.returns
returns c =
    let s = c.args.self.now in
    let size = size_of c.args.constraints.now in
    let mark = is_size_marked c.args.constraints.now in
    let n = c.in_ok-count.count in
    let left = c.in_ok-count.left in
    let e = c.in_ok-count.ensures.stays in
    let g = c.in_ok-count.ensures.ok in
    record {
      ok = taken_copy s size mark left c.copy_octets.new.self c.requires n g c.in_ok-octets.octets
          (subst (λ z. Reads plain_rules (Schemas.octet_string size mark) (λ v. octets v.items) z (Ok c.in_ok-octets.octets) c.copy_octets.new.self) e c.in_ok-octets.ensures) (omega (arith, g.behind, no_more_left g.took))
          (λ alone on. elim c.else-ends_octet.branch [
            | else-ends_octet-via-then-ends_octet+else-come_alone w ↦
                let f : false ≡ true = sym w.if-come_alone.false ∙ w.come_alone.ensures.1 (subst (λ z. ComeAlone size mark z.bits n) (sym e) alone) in absurd cc
            | else-ends_octet-via-else-ends_octet w ↦
                let f : false ≡ true = sym w.if-ends_octet.false ∙ c.ends_octet.ensures.1 (ap (λ z. place_left (with_last z left)) e ∙ on) in absurd cc
          ]);
      err = tt;
    }
