-- What the errors of a decoder say, stated over any decoder's relations.
use Rattle.rasn_schema.specs.Schemas.{Tag}
use Rattle.rasn_traits.specs.Calls.{DecoderRules}
use Rattle.rasn_schema.specs.Errors.{Lacking}

-- What holds of a decoder's errors: one that says, under the variant in use, that a required addition isn't there says
-- so of the decoder.
pub record ErrorsWell {E S : Type 0} (rules : DecoderRules E S) (lacks : Lacking E) : Type 0 where
  pub lacking : (t : Tag) (e : E) (s : S) → lacks t (rules.codec s) e → rules.lacking t e s
