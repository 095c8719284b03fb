-- SEQUENCE { o outer1 DEFAULT (TRUE, FALSE) } and SEQUENCE { o outer3 DEFAULT (TRUE, FALSE, both additions absent) }
use Rattle.std.specs.Prelude.{[], ◌∷◌, true, false, Some, None}
use Rattle.rasn_below.specs.Page.{TypeLists, Value, item, added, truth, record_value, automatic, default, boolean}
use Rattle.rasn_below.specs.Page.{extensible_enumerated, identifier_value, object_identifier, sequence}
use Rattle.rasn_below.specs.Page.{choice, chosen, chosen_behind, chosen_value, list_value, sequence_of, any, size◌to◌}
use Rattle.per_samples_b.specs.Outers.{outer1, outer3}
use Rattle.per_samples_b.specs.Second.{alt2}

-- TRUE and FALSE
abbrev pub true_false : Value
true_false = record_value (Some (truth true) ∷ Some (truth false) ∷ []) []

-- TRUE and FALSE, and both additions absent
abbrev pub true_false_alone : Value
true_false_alone = record_value (Some (truth true) ∷ Some (truth false) ∷ []) (None ∷ None ∷ [])

abbrev pub default_outer1 : TypeLists
default_outer1 = automatic (default true_false (sequence outer1) ∷ [])

abbrev pub default_outer3 : TypeLists
default_outer3 = automatic (default true_false_alone (sequence outer3) ∷ [])

-- SEQUENCE { color ENUMERATED { a, ..., b } DEFAULT b, outer outer1 DEFAULT (TRUE, FALSE), last BOOLEAN }
abbrev pub default_color : TypeLists
default_color = automatic (
    default (item added 0) (extensible_enumerated 1 1) ∷
    default true_false (sequence outer1) ∷
    boolean ∷ [])

-- SEQUENCE { flags SEQUENCE (SIZE (0..3)) OF BOOLEAN DEFAULT { TRUE, FALSE },
--   outers SEQUENCE OF outer1 DEFAULT { (TRUE, FALSE) } }
abbrev pub default_elements : TypeLists
default_elements = automatic (
    default (list_value (truth true ∷ truth false ∷ [])) (sequence_of (size 0 to 3) boolean) ∷
    default (list_value (true_false ∷ [])) (sequence_of any (sequence outer1)) ∷ [])

-- SEQUENCE { object OBJECT IDENTIFIER DEFAULT { 1 2 840 }, last BOOLEAN }
abbrev pub default_identifier : TypeLists
default_identifier = automatic (default (identifier_value (1 ∷ 2 ∷ 840 ∷ [])) object_identifier ∷ boolean ∷ [])

-- a : TRUE and b : FALSE
abbrev pub a_true : Value
a_true = chosen_value (chosen 0 (truth true))

abbrev pub b_false : Value
b_false = chosen_value (chosen_behind 0 (truth false))

-- SEQUENCE { first Alt2 DEFAULT a : TRUE, second Alt2 DEFAULT b : FALSE }
abbrev pub default_choice : TypeLists
default_choice = automatic (default a_true (choice alt2) ∷ default b_false (choice alt2) ∷ [])
