use Rattle.rasn_jer.proofs.Writing.{refused_behaves, refused_why}
use Rattle.rasn_jer.specs.Shown.{at_once, is_absent}
use Rattle.std.proofs.Common.{refl}
use Rattle.rasn_schema.specs.Structures.{no_value}
use Rattle.rasn_jer.specs.declared.error.EncodeError.TheVariants.{NoJson}
use Rattle.rasn_jer.proofs.encoder.EncoderEncoder.encode_absent.Goals as goal

pub returns : goal.returns
returns g c = record {
  law = λ s. refused_why c.args.self.now.failed c.args.self.now c.refuse.result NoJson s no_value refl c.refuse.ensures.answers (at_once is_absent);
  behaves = refused_behaves c.args.self.now c.refuse.new.self c.refuse.result NoJson c.refuse.ensures.answers c.refuse.ensures.fails;
}
