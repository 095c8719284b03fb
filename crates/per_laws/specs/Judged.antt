-- Whether a schema is lawful (ITU-T X.680), by computing, and what of it isn't.
use Rattle.std.specs.Prelude.{ℕ, suc, Bool, ◌&&◌, nat_lt, ◌++◌}
use Rattle.rasn_types.specs.Values.{Value, same}
use Rattle.rasn_constraints.specs.LawfulConstraints.{are_lawful_bounds, is_lawful_size}
use Rattle.rasn_schema.specs.Lawful.{leaves, are_distinct, are_required, is_group_schema, is_value, no_groups}
use Rattle.rasn_schema.specs.Lawful.{tags_below}
use Rattle.rasn_schema.specs.Structures.{presence_bits}
use Rattle.rasn_schema.specs.Normal.{normal}
use Rattle.rasn_schema.specs.Schemas.{Presence, required, optional, group, default, Order, listed, by_tag, Schema}
use Rattle.rasn_schema.specs.Schemas.{Parts, no_parts, part}
use Rattle.per_laws.specs.Sameness.{is_whole}
use Rattle.per_laws.specs.Verdicts.{Verdict, allowed, bad_bounds, bad_size, root_group, bad_group, many_bits}
use Rattle.per_laws.specs.Verdicts.{repeated_tag, bad_alternative, bad_default, no_end, in_contents, in_element}
use Rattle.per_laws.specs.Verdicts.{in_root, in_additions, at_place, both, unless, within}

-- X.680 25.9: whether a default is a value of its schema, and in normal form
unfoldable pub is_good_default : Schema → Value → Bool
unfolding is_value normal same
is_good_default s d = is_value s d && same (normal s d) d

-- X.680 27.3, 29.3: whether the tags of a SET's components, or of alternatives, differ
unfoldable pub are_told_apart : Parts → Parts → Bool
unfolding leaves
are_told_apart ps adds = are_distinct (tags_below ps ++ tags_below adds)

-- X.680 25.1, 25.9: an addition group is a SEQUENCE, a default a value in normal form
abbrev pub judge_presence : Schema → Presence → Verdict
judge_presence s required = allowed
judge_presence s optional = allowed
judge_presence s group = unless (is_group_schema s) bad_group allowed
judge_presence s (default d) = unless (is_whole s) no_end (unless (is_good_default s d) bad_default allowed)

-- X.680 27.3: a SET's tags differ, a SEQUENCE's may repeat
abbrev pub judge_tags : Order → Parts → Parts → Verdict
judge_tags listed ps adds = allowed
judge_tags by_tag ps adds = unless (are_told_apart ps adds) repeated_tag allowed

-- X.680 27.3: a SEQUENCE or SET, its components aside
abbrev pub judge_record : Order → Parts → Parts → Verdict
judge_record o ps adds =
    unless (no_groups ps) root_group (unless (nat_lt (presence_bits ps) 65536) many_bits (judge_tags o ps adds))

-- X.680 29.3: a CHOICE, its alternatives aside
abbrev pub judge_choice : Parts → Parts → Verdict
judge_choice ps adds =
    unless (are_required ps && are_required adds) bad_alternative (unless (are_told_apart ps adds) repeated_tag allowed)

abbrev mutual
  -- X.680: what of a schema isn't lawful
  pub judge : Schema → Verdict
  judge Schema.cut = no_end
  judge (Schema.number bounds mark range) = unless (are_lawful_bounds bounds.low bounds.high) bad_bounds allowed
  judge (Schema.octet_string size mark) = unless (is_lawful_size size.least size.most) bad_size allowed
  judge (Schema.bit_string size mark named) = unless (is_lawful_size size.least size.most) bad_size allowed
  judge (Schema.char_string alphabet size mark) = unless (is_lawful_size size.least size.most) bad_size allowed
  judge (Schema.containing e) = within in_contents (judge e)
  judge (Schema.list e size mark) =
      unless (is_lawful_size size.least size.most) bad_size (within in_element (judge e))
  judge (Schema.set_of e size mark) =
      unless (is_lawful_size size.least size.most) bad_size (within in_element (judge e))
  judge (Schema.sequence o ps ext adds) =
      both (judge_record o ps adds)
      (both (within in_root (judge_parts 0 ps)) (within in_additions (judge_parts 0 adds)))
  judge (Schema.choice ps adds ext) =
      both (judge_choice ps adds)
      (both (within in_root (judge_parts 0 ps)) (within in_additions (judge_parts 0 adds)))
  judge _ = allowed

  -- what isn't lawful in components, counted from a number
  pub judge_parts : ℕ → Parts → Verdict
  judge_parts i no_parts = allowed
  judge_parts i (part t p s ps) =
      both (within (at_place i) (both (judge s) (judge_presence s p))) (judge_parts (suc i) ps)

-- what isn't lawful in a type, in its tree of 128 levels
abbrev pub judgement : (ℕ → Schema) → Verdict
judgement type = judge (type 128)
