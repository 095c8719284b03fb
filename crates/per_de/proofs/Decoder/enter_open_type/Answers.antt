use Rattle.std.proofs.Common.{◌≡◌, ◌∙◌, refl, ap, length}
use Rattle.std.proofs.lemmas.Result.{err_from_is_err_and}
use Rattle.rasn_types.specs.Bits.{unpack}
use Rattle.per_decoding.specs.Sources.{bits_of, span_of}
use Rattle.per_de.proofs.Steps.{contents_in_place, gathered_contents, no_open_taken, opened, whole_octets}
use Rattle.per_de.proofs.Decoder.enter_open_type.Goals as goal

pub returns-in_err-count : goal.returns-in_err-count
returns-in_err-count c =
    let p = err_from_is_err_and c.from_residual.result c.from_residual.ensures.1 in
    rw (p.1, p.2) (no_open_taken c.args.self.now c.len-left.result c.answer.new.self c.reader-reader.ensures c.take_open-taken.ensures _ c.in_err-count.ensures)

pub new-requires : goal.new-requires
new-requires c =
    let q = contents_in_place c.args.self.now c.len-left.result c.answer.new.self c.reader-reader.ensures c.take_open-taken.ensures (bits_of c.self.inside.source) c.self.inside.bits c.in_front-contents.result c.in-InPlace.count
    (ap (λ z. z.source.bits) c.self.view_is) c.self.invariant (ap (λ z. z.bits) c.self.view_is) (c.len-left.ensures ∙ ap length c.bits.ensures) c.in_front-contents.ensures (rw c.in-InPlace.is at c.in_ok-count.ensures) in
    whole_octets c.in-InPlace.count q.0 q.4

pub returns-in-InPlace : goal.returns-in-InPlace
returns-in-InPlace c =
    let t = c.answer.new.self in
    let q = contents_in_place c.args.self.now c.len-left.result t c.reader-reader.ensures c.take_open-taken.ensures (bits_of c.self.inside.source) c.self.inside.bits c.in_front-contents.result c.in-InPlace.count
    (ap (λ z. z.source.bits) c.self.view_is) c.self.invariant (ap (λ z. z.bits) c.self.view_is) (c.len-left.ensures ∙ ap length c.bits.ensures) c.in_front-contents.ensures (rw c.in-InPlace.is at c.in_ok-count.ensures) in
    let are : span_of c.in_front-contents.result t.source.bits ≡ unpack q.0 = ap (λ z. span_of c.in_front-contents.result z.source.bits) q.2 ∙ q.3 in
    opened c.args.self.now t q.0 _ _ (span_of c.in_front-contents.result t.source.bits) q.1 q.2 are c.enter_contents.ensures

pub returns-in-Gathered : goal.returns-in-Gathered
returns-in-Gathered c =
    let t = c.answer.new.self in
    let q = gathered_contents c.args.self.now c.len-left.result t c.reader-reader.ensures c.take_open-taken.ensures c.in-Gathered.octets (c.len-left.ensures ∙ ap length c.bits.ensures) (rw c.in-Gathered.is at c.in_ok-count.ensures) in
    opened c.args.self.now t c.in-Gathered.octets.items _ _ (unpack c.in-Gathered.octets.items) q.0 q.1 refl c.enter_gathered.ensures
