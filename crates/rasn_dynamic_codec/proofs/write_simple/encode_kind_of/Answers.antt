use Rattle.std.proofs.Common.{◌∙◌, sym}
use Rattle.rasn_schema.specs.Forms.{always, character_schema, is_size_marked, size_of}
use Rattle.rasn_schema.specs.Normal.{normal}
use Rattle.rasn_dynamic.specs.Types.{of_characters}
use Rattle.rasn_dynamic.specs.Values.{levels_of, value_of}
use Rattle.rasn_dynamic_codec.proofs.Alphabets.{not_permitted}
use Rattle.rasn_dynamic.proofs.Places.{nothing_written, other_refused}
use Rattle.rasn_dynamic_codec.proofs.write_simple.encode_kind_of.Goals as goal

pub returns-in_default : goal.returns-in_default
unfolding normal
returns-in_default g c = other_refused (always (character_schema g.K.CharacterKind.alphabet (of_characters c.args.string.now))) (levels_of c.args.value.now) (value_of c.args.value.now) _ _ _ c.refuse_other.ensures (λ n. c.in_default.ensures.no_string _ (size_of (of_characters c.args.string.now)) (is_size_marked (of_characters c.args.string.now)))

pub returns-then-not-has_characters : goal.returns-then-not-has_characters
unfolding normal
returns-then-not-has_characters g c = other_refused (always (character_schema g.K.CharacterKind.alphabet (of_characters c.args.string.now))) (levels_of c.args.value.now) (value_of c.args.value.now) _ _ _ c.refuse_other-then-not-has_characters.ensures
    (λ n. rw c.in-Some.ensures (not_permitted g.K.CharacterKind.alphabet c.args.string.now c.in-Some.characters.now (sym c.has_characters.ensures ∙ c.if-not-has_characters.true)))

pub returns : goal.returns
unfolding normal
returns g c = record { law = record { at = λ n le. rw c.in-Some.ensures (rw (c.new-held.ensures, c.in-Ok.ensures.cases) at c.encode_string_of.ensures.law) }; behaves = c.encode_string_of.ensures.behaves }

pub returns-in_default-clone : goal.returns-in_default-clone
returns-in_default-clone g c = nothing_written (always (character_schema g.K.CharacterKind.alphabet (of_characters c.args.string.now))) (levels_of c.args.value.now) (value_of c.args.value.now) _ _ _ c.refuse_out_of_memory.ensures
