use Rattle.std.proofs.Common.{◌∙◌, ap}
use Rattle.per_de.proofs.InTurn.{presence_noted, presence_there}
use Rattle.per_de.proofs.typed.DecoderDecoder.next_presence.Goals as goal

pub note-requires : goal.note-requires
note-requires c = let h = c.in_ok-bit.ensures.law in ap (λ z. z.failed) h.same ∙ h.live

pub returns-then-not-bit : goal.returns-then-not-bit
returns-then-not-bit c =
    let h = c.in_ok-bit.ensures in
    record {
      law = presence_noted c.args.self.now c.take_presence.new.self c.note.new.self c.in_ok-bit.bit c.if-not-bit.true c.note.ensures h.law;
      behaves = record { again = h.behaves.again; fails = tt; kept = ap (λ z. z.codec) c.note.ensures ∙ h.behaves.kept };
    }

pub returns-else-not-bit : goal.returns-else-not-bit
returns-else-not-bit c =
    let h = c.in_ok-bit.ensures in
    record {
      law = presence_there c.args.self.now c.take_presence.new.self c.in_ok-bit.bit c.if-not-bit.false h.law;
      behaves = record { again = h.behaves.again; fails = tt; kept = h.behaves.kept };
    }
