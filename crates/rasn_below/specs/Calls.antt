-- What is between the calls of a type by hand: the laws of calls, of the parts of a scope, and of a reader by
-- index.
pub use Rattle.rasn_types.specs.declared.types.Codec.{Codec}
pub use Rattle.rasn_schema.specs.Normal.{AtDepths}
pub use Rattle.rasn_traits.specs.Calls.{DecoderRules, DecodesWell, EncoderRules, Reads}
pub use Rattle.rasn_traits.specs.Presences.{left_out}
pub use Rattle.rasn_traits.specs.Optionals.{ReadsComponent}
pub use Rattle.rasn_traits.specs.Scopes.{WrittenPart, WrittenParts, presents_end, presents_next, refuses_here}
pub use Rattle.rasn_traits.specs.Scopes.{WrittenFields, presents_fields, refuses_root}
pub use Rattle.rasn_traits.specs.Scopes.{AnswersParts, reads_end, reads_left_out, reads_next, reads_required}
pub use Rattle.rasn_traits.specs.Scopes.{reads_there}
pub use Rattle.rasn_traits.specs.Additions.{WritesAdditions, presents_no_more}
pub use Rattle.rasn_traits.specs.AdditionsRead.{AnswersAdditions, ReadsAddition, ReadsAdditions, TakesAdditions}
pub use Rattle.rasn_traits.specs.AdditionsRead.{reads_further, reads_no_more}
pub use Rattle.rasn_sets.specs.Components.{Gathers, gathers_end, gathers_gap, gathers_item, IsMade, ItemAnswered}
pub use Rattle.rasn_sets.specs.Components.{StandsAt, stands_after, stands_first}
