-- What holds of an encoder's SETs.
use Rattle.std.specs.Prelude.{Bool, List, Option}
use Rattle.std.proofs.Common.{◌∙◌, ap, sym, subst}
use Rattle.rasn_types.specs.Variants.{variant_of}
use Rattle.rasn_types.specs.Values.{Value}
use Rattle.rasn_schema.specs.Orders.{canonised, canonised_slots}
use Rattle.rasn_schema.specs.Structures.{record_value}
use Rattle.rasn_schema.specs.Schemas.{by_tag, listed, Parts, Schema}
use Rattle.rasn_traits.specs.Sets.{SetsWritten}
use Rattle.per_core.proofs.SetReadings.{written}
use Rattle.per_core.specs.declared.encode_error.EncodeError.{EncodeError}
use Rattle.per_core.specs.declared.encode_error.EncodeErrorKind.{EncodeErrorKind}
use Rattle.per_core.specs.declared.encode_error.EncodeErrorKind.TheVariants.{SizeConstraintNotSatisfied}
use Rattle.per_core.specs.declared.encode_error.EncodeErrorKind.TheVariants.{ValueConstraintNotSatisfied}
use Rattle.per_core.specs.declared.encode_error.EncodeErrorKind.TheVariants.{AlphabetConstraintNotSatisfied}
use Rattle.per_core.specs.declared.encode_error.EncodeErrorKind.TheVariants.{IntegerTypeConversionFailed}
use Rattle.per_core.specs.declared.encode_error.EncodeErrorKind.TheVariants.{VariantNotInChoice, RealNotSupported}
use Rattle.per_core.specs.declared.encode_error.EncodeErrorKind.TheVariants.{TooManyAdditions, Below, AlreadyFailed}
use Rattle.per_core.specs.declared.encode_error.EncodeErrorKind.TheVariants.{OutOfMemory, OutOfTurn, WrongKind}
use Rattle.per_core.specs.WritingFaults.{in_set}
use Rattle.per_write.specs.Faults.{RefusesValue, Stands}
use Rattle.per_enc.specs.Rules.{encoding_rules, noting}
use Rattle.per_write.specs.WriterState.{Presents, WriterState, StateAppends}

-- a fault of the SEQUENCE of a SET's components in order is one of the SET
stands_in_set : (kind : EncodeErrorKind) (x : WriterState) (ps : Parts) (marker : Bool) (qs : Parts)
    (rs xs : List (Option Value))
    → Stands kind x (Schema.sequence listed (canonised ps) marker qs) (record_value (canonised_slots ps rs) xs)
    → Stands kind x (Schema.sequence by_tag ps marker qs) (record_value rs xs)
stands_in_set (SizeConstraintNotSatisfied told) x ps marker qs rs xs h = in_set rs xs h
stands_in_set (ValueConstraintNotSatisfied told) x ps marker qs rs xs h = in_set rs xs h
stands_in_set AlphabetConstraintNotSatisfied x ps marker qs rs xs h = in_set rs xs h
stands_in_set IntegerTypeConversionFailed x ps marker qs rs xs h = in_set rs xs h
stands_in_set VariantNotInChoice x ps marker qs rs xs h = h
stands_in_set RealNotSupported x ps marker qs rs xs h = in_set rs xs h
stands_in_set TooManyAdditions x ps marker qs rs xs h = h
stands_in_set Below x ps marker qs rs xs h = in_set rs xs h
stands_in_set AlreadyFailed x ps marker qs rs xs h = h
stands_in_set OutOfMemory x ps marker qs rs xs h = h
stands_in_set OutOfTurn x ps marker qs rs xs h = in_set rs xs h
stands_in_set WrongKind x ps marker qs rs xs h = in_set rs xs h

-- a SET is refused where the SEQUENCE is
pub refused_set : (ps : Parts) (marker : Bool) (qs : Parts) (x : WriterState) (rs xs : List (Option Value))
    (e : EncodeError)
    → RefusesValue e x (Schema.sequence listed (canonised ps) marker qs) (record_value (canonised_slots ps rs) xs)
    → RefusesValue e x (Schema.sequence by_tag ps marker qs) (record_value rs xs)
refused_set ps marker qs x rs xs e h = record {
  none = λ f p. ap (λ m. m p) (written (variant_of x.codec) ps marker qs rs xs) ∙ h.none f p;
  stands = stands_in_set e.kind x ps marker qs rs xs h.stands;
  codec_is = h.codec_is;
}

-- a SET is presented where the SEQUENCE is
presented_set : (ps : Parts) (marker : Bool) (qs : Parts) (x y : WriterState) (rs xs : List (Option Value))
    → Presents x (Schema.sequence listed (canonised ps) marker qs) (record_value (canonised_slots ps rs) xs) y
    → Presents x (Schema.sequence by_tag ps marker qs) (record_value rs xs) y
presented_set ps marker qs x y rs xs w = subst (λ m. StateAppends x m y)
    (sym (written (variant_of x.codec) ps marker qs rs xs)) w

-- X.691 21.1: a SET is written as the SEQUENCE of its components in ascending order of their smallest tags
pub sets_written : SetsWritten encoding_rules
sets_written = record {
  presented = λ ps marker qs x y rs xs w. record {
    written = presented_set ps marker qs (noting x).writer y.writer rs xs w.written;
    set = w.set;
  };
  refused = λ ps marker qs x rs xs e h. refused_set ps marker qs x.writer rs xs e h;
}
