use Rattle.rasn_constructed.proofs.read.BoxWraps.decode_wrapped.Goals as goal

pub returns : goal.returns
returns g c = record {
  law = rw (g.met.T.Unconstrained.same_schema c.args._constraints.now (g.D.Decoder.rules.levels c.args.decoder.now)) c.read_boxed.ensures.law;
  behaves = c.read_boxed.ensures.behaves;
}
