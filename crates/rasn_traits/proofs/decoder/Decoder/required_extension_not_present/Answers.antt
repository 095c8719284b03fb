use Rattle.std.proofs.Common.{rules}
use Rattle.rasn_traits.proofs.decoder.Decoder.required_extension_not_present.Goals as goal

pub returns : goal.returns
returns g c = record {
  lacking = g.met.Self.Decoder.errors.lacking _ _ _ (rw c.codec-codec.ensures at c.required_extension_not_present.ensures);
  fails = search rules;
  kept = search rules;
}
