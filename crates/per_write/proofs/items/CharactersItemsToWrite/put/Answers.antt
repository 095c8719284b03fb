use Rattle.std.specs.Prelude.{slice_range}
use Rattle.std.proofs.Common.{◌∙◌, ap, ◌+◌, ◌-◌, ◌*◌, ◌/◌, arith, rules, ℕ}
use Rattle.std.proofs.lemmas.Result.{on_ok_weaker}
use Rattle.rasn_types.specs.Variants.{unaligned}
use Rattle.per_core.specs.Canon.{char_writers}
use Rattle.per_bits.specs.Octets.{low_bits_of}
use Rattle.per_core.specs.Writers.{just, one_by_one}
use Rattle.per_write.proofs.CharacterFields.{next_within, own_written, remains_field}
use Rattle.per_write.proofs.Steps.{length-char_writers}
use Rattle.per_write.proofs.Writing.{remains_all, wrote_same}
use Rattle.per_write.proofs.items.CharactersItemsToWrite.put.Goals as goal

pub loop-at-init : goal.loop-at-init
loop-at-init g c = record { written = remains_all c.args.writer.now _ c.requires.begun; within = c.requires.ordered }

pub field-requires-clause-within : goal.field-requires-clause-within
field-requires-clause-within g c =
    let a = c.args.self.now.alphabet in
    let cs = g.S.StaticPermittedAlphabet.characters c.args.self.now.string.now in
    let within = c.requires.within unaligned in
    let counted = length-char_writers a.variant a.characters cs in
    omega (arith, c.min.ensures)

pub loop-at-preserved : goal.loop-at-preserved
loop-at-preserved g c =
    let a = c.args.self.now.alphabet in
    let cs = g.S.StaticPermittedAlphabet.characters c.args.self.now.string.now in
    let all = one_by_one (slice_range (char_writers a.variant a.characters cs) c.args.start c.args.end) in
    let at = c.loop-at.at in
    let next = c.loop-at.at + c.min.result in
    let within = next_within at c.args.end (56 / c.max.result) c.min.result c.loop-at-test.true c.min.ensures in
    record {
      written = remains_field a cs at next c.args.end c.in-Some-field.number ((next - at) * c.from-in-loop-at.result) c.from.result all c.args.writer.now c.loop-at.writer c.put_bits.new.self within
          (ap (λ (w : ℕ). (next - at) * w) (c.from-in-loop-at.ensures ∙ c.width-width.ensures.width)) c.from.ensures c.in-Some-field.ensures.some c.loop-at.invariant.written c.in_ok-put_bits.ensures.ok;
      within = within;
    }

pub own_octets-requires-clause-within : goal.own_octets-requires-clause-within
own_octets-requires-clause-within g c =
    let a = c.args.self.now.alphabet in
    let within = c.requires.within unaligned in
    let counted = length-char_writers a.variant a.characters (g.S.StaticPermittedAlphabet.characters c.args.self.now.string.now) in
    omega arith

pub put_low_bits-requires-clause-few : goal.put_low_bits-requires-clause-few
put_low_bits-requires-clause-few g c = omega (arith, c.width-width.ensures.width, c.in-Some.ensures.few)

pub returns-in-Some : goal.returns-in-Some
returns-in-Some g c =
    let a = c.args.self.now.alphabet in
    let cs = g.S.StaticPermittedAlphabet.characters c.args.self.now.string.now in
    let octets = c.in-Some.octets.now in
    record {
      ok = on_ok_weaker _ (wrote_same c.args.writer.now c.put_low_bits.new.self (just (low_bits_of c.width-width.result octets)) (one_by_one (slice_range (char_writers a.variant a.characters cs) c.args.start c.args.end))
          (own_written a cs octets c.args.start c.args.end c.width-width.result c.width-width.ensures.width c.in-Some.ensures)) c.put_low_bits.ensures.ok;
      err = search rules;
      fails = search rules;
      kept = search rules;
    }
