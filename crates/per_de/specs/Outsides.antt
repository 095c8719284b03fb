-- What waits outside while a scope or an open type is open, seen from the source in use.
use Rattle.std.specs.Prelude.{◌-◌, Option, Some, None, length}
use Rattle.per_decoding.specs.Additions.{OutsideAddition}
use Rattle.per_decoding.specs.Choices.{OutsideChoice}
use Rattle.per_decoding.specs.Scopes.{OutsideRecord}
use Rattle.per_decoding.specs.State
use Rattle.per_decoding.specs.Sources.{extension_in, span_of, up_to}
use Rattle.per_de.specs.declared.Addition.{Addition}
use Rattle.per_de.specs.declared.Alternative.{Alternative}
use Rattle.per_de.specs.declared.Scope.{Scope}
use Rattle.per_decoding.specs.declared.source.Source.{Source}
use Rattle.per_decoding.specs.declared.source.Span.{Span}

-- what waits outside a scope
abbrev pub outside_record_of : State.Source → Scope → OutsideRecord
outside_record_of source o = record {
  levels = o.levels;
  presences = span_of o.presences source.bits;
  extension = extension_in source.bits o.extension;
  expected = o.expected;
}

-- the source outside, of which the bits up to the end of a span are left: another one, where the contents of an open
-- type were gathered; else the one in use
abbrev pub source_of : State.Source → Span → Option Source → State.Source
source_of source span None = record source { behind = length source.bits - span.end }
source_of source span (Some outer) = up_to span outer

-- what waits outside an open type
abbrev pub outside_addition_of : State.Source → Addition → OutsideAddition
outside_addition_of source o = let outer = source_of source o.bits o.source in record {
  bits = span_of o.bits outer.bits;
  source = outer;
  presences = span_of o.presences outer.bits;
  extension = extension_in outer.bits o.extension;
  expected = o.expected;
  total = o.total;
}

-- what waits outside the open type of an alternative, where it is in one
abbrev pub outside_contents_of : State.Source → Option Addition → Option OutsideAddition
outside_contents_of source None = None
outside_contents_of source (Some o) = Some (outside_addition_of source o)

-- the source outside of it
abbrev pub source_after : State.Source → Option Addition → State.Source
source_after source None = source
source_after source (Some o) = source_of source o.bits o.source

-- what waits outside a choice
abbrev pub outside_choice_of : State.Source → Alternative → OutsideChoice
outside_choice_of source o = record {
  outer = outside_record_of (source_after source o.contents) o.scope;
  contents =
      outside_contents_of source o.contents;
}
