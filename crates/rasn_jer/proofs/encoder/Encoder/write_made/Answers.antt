use Rattle.std.proofs.Common.{refl, subst}
use Rattle.std.specs.Prelude.{IfErr}
use Rattle.rasn_jer.proofs.Writing.{no_json, refused_leaf}
use Rattle.rasn_jer.specs.Rules.{IsUnmade}
use Rattle.rasn_jer.proofs.encoder.Encoder.write_made.Goals as goal

pub returns-in-Err : goal.returns-in-Err
returns-in-Err g c = λ s v h k. refused_leaf c.args.self.now.failed c.args.self.now c.refuse.new.self c.refuse.result c.in-Err.error s v refl c.refuse.ensures.answers c.refuse.ensures.fails
    (no_json c.in-Err.error s v (subst (λ r. IfErr r (IsUnmade s v)) c.in-Err.is k))
