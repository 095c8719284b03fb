use Rattle.rasn_types.specs.Alphabets.{char_width}
use Rattle.per_core.specs.declared.items.Item.TheVariants.{Bit, Character, Octet}
use Rattle.per_read.proofs.Calls.{no_bit_in}
use Rattle.per_read.proofs.CharacterCodes.{none_of_characters}
use Rattle.per_read.proofs.Coded.{none_of_bits}
use Rattle.per_read.proofs.EndsEarly.{any_settings, no_field, no_items, no_number, no_octets}
use Rattle.per_read.proofs.Texts.{none_of_text}
use Rattle.per_read.proofs.shortages.fewer_bits_are_no_value.Goals as goal

pub returns-clause-truth : goal.returns-clause-truth
returns-clause-truth c = λ m s h more whole few. no_bit_in (no_field any_settings m more whole few h)

pub returns-clause-number : goal.returns-clause-number
returns-clause-number c = λ a bounds mark range m s h more whole few. no_number a m more whole few bounds mark range s h

pub returns-clause-octets : goal.returns-clause-octets
returns-clause-octets c = λ a size mark m s h more whole few. no_items a m more whole few size mark Octet s h

pub returns-clause-bits : goal.returns-clause-bits
returns-clause-bits c = λ a size mark m s h more whole few. none_of_bits a size mark (no_items a m more whole few size mark Bit s h)

pub returns-clause-characters : goal.returns-clause-characters
returns-clause-characters c = λ a alphabet size mark m s h more whole few.
    none_of_characters a alphabet size mark (no_items a m more whole few size mark (Character (char_width a.variant alphabet)) s h)

pub returns-clause-text : goal.returns-clause-text
returns-clause-text c = λ a kind m s h more whole few. none_of_text a kind (no_octets a m more whole few h)
