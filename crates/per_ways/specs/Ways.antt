-- The way from a message to the value that is read or written, and how it moves.
use Rattle.std.specs.Prelude.{ℕ, ◌-◌, ◌≡◌, Bool, true, false, List, [], ◌++◌, length, take, slice_get, Option, Some}
use Rattle.std.specs.Prelude.{None, option_map, option_to_list, is_some, unwrap_or, if◌then◌else◌, IfSome, IsSome}
use Rattle.std.specs.List.{filter_map}
use Rattle.rasn_schema.specs.Fields.{Shape}
use Rattle.rasn_schema.specs.Schemas.{Tag}
use Rattle.rasn_schema.specs.declared.items.Place.{Place}
use Rattle.rasn_schema.specs.declared.items.Place.TheVariants.{Added}
use Rattle.per_ways.specs.Extents.{contents_end, position_of}
use Rattle.per_ways.specs.Turns.{AreOf, alternative_begun, counted, element_begun, element_step, next_step, one_taken}
use Rattle.per_ways.specs.declared.extents.Extent.{Extent}
use Rattle.per_ways.specs.declared.extents.OpenAhead.{OpenAhead}
use Rattle.per_ways.specs.declared.path.Step.{Step}
use Rattle.per_ways.specs.declared.turns.Alternatives.{Alternatives}
use Rattle.per_ways.specs.declared.turns.Components.{Components}
use Rattle.per_ways.specs.declared.turns.Elements.{Elements}
use Rattle.per_ways.specs.declared.trail.Frame.{Frame}
use Rattle.per_ways.specs.declared.trail.Frame.TheVariants.{Record, List as Listed, Choice, Alternative, Contents}
use Rattle.per_ways.specs.declared.trail.RecordFrame.{RecordFrame}

-- What is around the value that is read or written, outermost first, and the innermost of it apart; where the bits end
-- that are left; and, once the way has stopped, how many bits are in front of that.
pub record Way : Type 0 where
  pub around : List Frame
  pub innermost : Option Frame
  pub extent : Extent
  pub stopped : Option ℕ

-- X.680 15: the step from what is around a value to the value, if one is read or written in it; octets that contain the
-- value have none
abbrev pub step_of : Frame → Option Step
step_of (Record r) = r.current
step_of (Listed es) = element_step es
step_of (Choice c) = c.current
step_of (Alternative s outside) = Some s
step_of (Contents outside) = None

-- the steps of a way, the first one from the message
abbrev pub steps_of : Way → List Step
steps_of w = filter_map step_of (w.around ++ option_to_list w.innermost)

-- at a message of so many bits
abbrev pub before_message : ℕ → Way
before_message bits = record { around = []; innermost = None; extent = Extent.After bits; stopped = None }

-- a way that has stopped stays as it is, and no other does
abbrev pub moved : (Way → Way) → Way → Way
moved f w = if is_some w.stopped then w else f w

-- the way stops where so many bits are left
abbrev pub stopped_at : ℕ → Way → Way
stopped_at bits = moved (λ w. record w { stopped = Some (position_of w.extent bits) })

-- what is around what follows is entered
abbrev pub entered : Frame → Way → Way
entered f = moved (λ w. record w { around = w.around ++ option_to_list w.innermost; innermost = Some f })

-- where the bits end that are left once a frame is left, by where those in it do: after an open type those outside it
abbrev pub end_outside : Option Frame → Extent → Extent
end_outside (Some (Alternative s (Some outside))) e = outside
end_outside (Some (Contents (Some outside))) e = outside
end_outside _ e = e

-- the innermost of what is around is left, and the next one outwards is the innermost
abbrev pub left : Way → Way
left = moved (λ w. record w {
  around = take (length w.around - 1) w.around;
  innermost = slice_get w.around (length w.around - 1);
  extent = end_outside w.innermost w.extent;
})

-- the innermost of what is around changes
abbrev pub within : (Frame → Frame) → Way → Way
within g = moved (λ w. record w { innermost = option_map g w.innermost })

-- what changes a record, a list or a choice leaves every other frame as it is
abbrev pub of_record : (RecordFrame → RecordFrame) → Frame → Frame
of_record g (Record r) = Record (g r)
of_record g f = f

abbrev pub of_list : (Elements → Elements) → Frame → Frame
of_list g (Listed es) = Listed (g es)
of_list g f = f

abbrev pub of_choice : (Alternatives → Alternatives) → Frame → Frame
of_choice g (Choice c) = Choice (g c)
of_choice g f = f

-- A record of which no component was taken, with its bitmap still ahead or not.
pub record IsRecordOf (root_fields further : List Shape) (in_tag_order ahead : Bool) (r : RecordFrame) : Type 0 where
  pub root : AreOf root_fields in_tag_order r.root
  pub added : IfSome r.added (AreOf further false)
  pub apart : IsSome r.added
  pub current : r.current ≡ None
  pub bitmap : r.bitmap ≡ ahead
  pub outside : r.outside ≡ None

-- the same, of a type that is data, whose additions go on after its root
abbrev pub counted_record : Bool → RecordFrame
counted_record bitmap = record { root = counted; added = None; current = None; bitmap = bitmap; outside = None }

-- a value begins: the root's next component, where no addition is read or written
abbrev pub component_begun : RecordFrame → RecordFrame
component_begun r = if is_some r.outside then r else record r { current = next_step r.root; root = one_taken r.root }

-- the root's next component is absent
abbrev pub component_absent : RecordFrame → RecordFrame
component_absent r = record r { root = one_taken r.root }

-- X.691 19.7 to 19.9: the next addition is asked for, of additions of their own or after the root's components; the
-- bitmap is behind
abbrev pub addition_from : Option Components → RecordFrame → RecordFrame
addition_from None r = record r { current = next_step r.root; root = one_taken r.root; bitmap = false }
addition_from (Some c) r = record r { current = next_step c; added = Some (one_taken c); bitmap = false }

abbrev pub addition_begun : RecordFrame → RecordFrame
addition_begun r = addition_from r.added r

-- nothing in a frame is read or written
abbrev pub paused : Frame → Frame
paused (Record r) = Record (record r { current = None })
paused (Listed es) = Listed (record es { is_inside = false })
paused (Choice c) = Choice (record c { current = None })
paused f = f

-- a value begins, of a record the next component
abbrev pub begun : Way → Way
begun = within (of_record component_begun)

-- a value begins under a tag, of a choice the alternative that goes by it
abbrev pub begun_under : Tag → Way → Way
begun_under t w = within (of_choice (alternative_begun t)) (begun w)

-- X.691 19.7: whether the bitmap of the innermost record's additions is still ahead
abbrev pub has_bitmap : Option Frame → Bool
has_bitmap (Some (Record r)) = r.bitmap
has_bitmap _ = false

-- X.691 11.2: the bits that are left are those of an open type
abbrev pub in_open_type : OpenAhead → Way → Way
in_open_type ahead = moved (λ w. record w { extent = contents_end w.extent ahead })

-- the open type of an addition is entered, where the innermost is a record
abbrev pub into_addition : OpenAhead → Option Frame → Way → Way
into_addition ahead (Some (Record r)) w = in_open_type ahead (record w {
  innermost = Some (Record (record r { outside = Some w.extent }));
})
into_addition ahead _ w = w

abbrev pub addition_entered : OpenAhead → Way → Way
addition_entered ahead = moved (λ w. into_addition ahead w.innermost w)

-- the open type of an addition is left
abbrev pub out_of_addition : Option Frame → Way → Way
out_of_addition (Some (Record r)) w = record w {
  innermost = Some (Record (record r { current = None; outside = None }));
  extent = unwrap_or r.outside w.extent;
}
out_of_addition _ w = w

abbrev pub addition_left : Way → Way
addition_left = moved (λ w. out_of_addition w.innermost w)

-- X.691 23.8: the bits that are left are those of an alternative, of an open type where it is after the extension
-- marker
abbrev pub in_alternative : Option Place → OpenAhead → Way → Way
in_alternative (Some (Added i)) ahead w = in_open_type ahead w
in_alternative _ ahead w = w

-- where the bits end outside the open type of an alternative, where it is in one
abbrev pub outside_alternative : Option Place → Extent → Option Extent
outside_alternative (Some (Added i)) e = Some e
outside_alternative _ e = None

-- an alternative is entered
abbrev pub alternative_entered : Step → Option Place → OpenAhead → Way → Way
alternative_entered s place ahead w =
    entered (Alternative s (outside_alternative place w.extent)) (in_alternative place ahead w)

-- octets that contain a value are entered
abbrev pub contents_entered : OpenAhead → Way → Way
contents_entered ahead w = entered (Contents (Some w.extent)) (in_open_type ahead w)

-- the way moves so after a call that was answered Ok, and stops after one that was refused
abbrev pub answered : Bool → ℕ → (Way → Way) → Way → Way
answered true bits f w = f w
answered false bits f w = stopped_at bits w

-- the way stays as it is
abbrev pub stays : Way → Way
stays w = w

-- whether the root's next component is there was told
abbrev pub told_of : Bool → Way → Way
told_of true w = w
told_of false w = within (of_record component_absent) w

-- a list has gone on to its next element, or has ended, or was refused
abbrev pub gone_on : Option Bool → ℕ → Way → Way
gone_on (Some true) bits w = within (of_list element_begun) w
gone_on (Some false) bits w = left w
gone_on None bits w = stopped_at bits w
