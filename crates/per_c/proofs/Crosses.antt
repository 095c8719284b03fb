-- A handle may cross threads, since a table may: also the defaults in it, which hold values of their own kind.
use Rattle.std.specs.Prelude.{Option, Some, None}
use mir.Raw.{raw}
use base.Fraction.{full_share}
use base.Shift.{Keyless}
use denote.Builtin.{usize}
use denote.Enum.Declared as E
use denote.Memory.{lone}
use denote.RattleType.{RattleType}
use denote.RawPtr.{Ptr, block_ptr, null_ptr}
use denote.Struct.Declared as S
use denote.Struct.Struct.{exits_of}
use denote.Struct.Owning.{shape, fields, to}
use denote.Param.Send.{IsSend, IsSync, AllSend, part_keyless, owning_send, struct_send, struct_sync, enum_send, enum_sync, recorded_send, recorded_sync, plain_send, plain_sync, sendable}
use Rattle.core.proofs.option.Option.TheSendSync as option
use Rattle.std_alloc.proofs.SendSync.{quiet}
use Rattle.std.specs.declared.alloc.Global.{Global}
use Rattle.std.specs.contracts.alloc.Global as global
use Rattle.std.specs.contracts.boxed.Box
use Rattle.std.specs.contracts.impls.GlobalAllocator.TheImpl.{ghosts}
use Rattle.std.specs.contracts.vec.Vec
use Rattle.std.proofs.Crossing.{frees}
use Rattle.std.proofs.alloc.Global.TheSendSync as heap
use Rattle.std.proofs.boxed.Box.TheSendSync as boxed
use Rattle.std.proofs.string.String.TheSendSync as string
use Rattle.std.proofs.sync.Arc.TheSendSync as arc
use Rattle.std.proofs.vec.Vec.TheSendSync as vec
use Rattle.rasn_constraints.specs.contracts.constraints.Bounded
use Rattle.rasn_constraints.specs.contracts.constraints.Extensible
use Rattle.rasn_constraints.proofs.constraints.Bounded.TheSendSync as bounded
use Rattle.rasn_constraints.proofs.constraints.Extensible.TheSendSync as extensible
use Rattle.rasn_schema.proofs.items.Place.TheSendSync as place
use Rattle.rasn_types.proofs.types.Tag.TheSendSync as tag
use Rattle.rasn_dynamic.specs.contracts.types.Component
use Rattle.rasn_dynamic.specs.contracts.types.DefaultTree
use Rattle.rasn_dynamic.specs.contracts.types.Kind
use Rattle.rasn_dynamic.specs.contracts.types.Name
use Rattle.rasn_dynamic.specs.contracts.types.Presence
use Rattle.rasn_dynamic.specs.contracts.types.Record
use Rattle.rasn_dynamic.specs.contracts.types.Types
use Rattle.rasn_dynamic.proofs.types.Choice.TheSendSync as choice
use Rattle.rasn_dynamic.proofs.types.DefaultTree.TheLaws.TheKnot.{send-DefaultTree, sync-DefaultTree}
use Rattle.rasn_dynamic.proofs.types.DefaultValue.TheSendSync as default
use Rattle.rasn_dynamic.proofs.types.Name.TheSendSync as name
use Rattle.rasn_dynamic.proofs.types.ObjectSet.TheSendSync as object_set
use Rattle.rasn_dynamic.proofs.types.Simple.TheSendSync as simple
use Rattle.per_c.specs.Handles.{may_own}
use Rattle.per_c.specs.contracts.handle.Handle as handle
use Rattle.per_c.specs.contracts.handle.Table as table
use Rattle.per_c.specs.declared.handle.Table.{Table}

vec_send : (h : RattleType) → IsSend h → IsSend (Vec.the_row h global.the_row ghosts)
vec_send h s = vec.the_send h global.the_row ghosts s heap.the_send frees

vec_sync : (h : RattleType) → IsSync h → IsSync (Vec.the_row h global.the_row ghosts)
vec_sync h s = vec.the_sync h global.the_row ghosts s heap.the_sync

box_send : (h : RattleType) → IsSend h → IsSend (Box.the_row h global.the_row ghosts)
box_send h s = boxed.the_send h global.the_row ghosts s heap.the_send frees

box_sync : (h : RattleType) → IsSync h → IsSync (Box.the_row h global.the_row ghosts)
box_sync h s = boxed.the_sync h global.the_row ghosts s heap.the_sync

tree_send : IsSend (DefaultTree.the_field).row
tree_send = send-DefaultTree default.the_field_send vec_send place.the_field_send box_send

tree_sync : IsSync (DefaultTree.the_field).row
tree_sync = sync-DefaultTree default.the_field_sync vec_sync place.the_field_sync box_sync

presence_send : IsSend (Presence.the_field).row
presence_send = enum_send (E.shape Presence.the_type) (tt, (tt, (tt, ((tree_send, tt), tt))))

presence_sync : IsSync (Presence.the_field).row
presence_sync = enum_sync (E.shape Presence.the_type) (tt, (tt, (tt, ((tree_sync, tt), tt))))

component_send : IsSend (Component.the_field).row
component_send = struct_send (S.shape Component.the_type)
    (string.the_field_send global.the_row ghosts heap.the_send frees, (tag.the_field_send, (presence_send, (plain_send _ _ _ _ _, tt))))

component_sync : IsSync (Component.the_field).row
component_sync = struct_sync (S.shape Component.the_type)
    (string.the_field_sync global.the_row ghosts heap.the_sync, (tag.the_field_sync, (presence_sync, (plain_sync _ _ _ _ _, tt))))

components_send : IsSend (Vec.the_row Component.the_row global.the_row ghosts)
components_send = vec_send Component.the_row (recorded_send (Component.the_field).row _ _ (Component.the_type).to_one component_send)

components_sync : IsSync (Vec.the_row Component.the_row global.the_row ghosts)
components_sync = vec_sync Component.the_row (recorded_sync (Component.the_field).row _ _ (Component.the_type).to_one component_sync)

record_send : IsSend (Record.the_field).row
record_send = struct_send (S.shape Record.the_type)
    (components_send, (option.the_field_send (Vec.the_row Component.the_row global.the_row ghosts) components_send, tt))

record_sync : IsSync (Record.the_field).row
record_sync = struct_sync (S.shape Record.the_type)
    (components_sync, (option.the_field_sync (Vec.the_row Component.the_row global.the_row ghosts) components_sync, tt))

size_send : IsSend (Extensible.the_field (Bounded.the_row usize)).row
size_send = extensible.the_field_send (Bounded.the_row usize) (bounded.the_send usize (plain_send _ _ _ _ _))

size_sync : IsSync (Extensible.the_field (Bounded.the_row usize)).row
size_sync = extensible.the_field_sync (Bounded.the_row usize) (bounded.the_sync usize (plain_sync _ _ _ _ _))

kind_send : IsSend (Kind.the_field).row
kind_send = enum_send (E.shape Kind.the_type) (
  (simple.the_field_send, tt),
  (
    tt,
    (
      (plain_send _ _ _ _ _, (size_send, tt)),
      (
        (plain_send _ _ _ _ _, (size_send, tt)),
        ((record_send, tt), ((choice.the_field_send, tt), ((plain_send _ _ _ _ _, tt), ((object_set.the_field_send, tt), tt)))),
      ),
    ),
  ),
)

kind_sync : IsSync (Kind.the_field).row
kind_sync = enum_sync (E.shape Kind.the_type) (
  (simple.the_field_sync, tt),
  (
    tt,
    (
      (plain_sync _ _ _ _ _, (size_sync, tt)),
      (
        (plain_sync _ _ _ _ _, (size_sync, tt)),
        ((record_sync, tt), ((choice.the_field_sync, tt), ((plain_sync _ _ _ _ _, tt), ((object_set.the_field_sync, tt), tt)))),
      ),
    ),
  ),
)

types_send : IsSend Types.the_row
types_send = recorded_send (Types.the_field).row _ _ (Types.the_type).to_one (struct_send (S.shape Types.the_type)
    (vec_send Kind.the_row (recorded_send (Kind.the_field).row _ _ (Kind.the_type).to_one kind_send), (vec_send Name.the_row name.the_send, tt)))

types_sync : IsSync Types.the_row
types_sync = recorded_sync (Types.the_field).row _ _ (Types.the_type).to_one (struct_sync (S.shape Types.the_type)
    (vec_sync Kind.the_row (recorded_sync (Kind.the_field).row _ _ (Kind.the_type).to_one kind_sync), (vec_sync Name.the_row name.the_sync, tt)))

table_send : IsSend table.the_row
table_send = recorded_send (table.the_field).row _ _ (table.the_type).to_one (struct_send (S.shape table.the_type)
    (arc.the_send Types.the_row global.the_row ghosts types_send heap.the_send types_sync heap.the_sync frees, tt))

owned_keyless : (a : Global) (p : Ptr) (t : Option Table) → Keyless (may_own a p t)
owned_keyless a p None = tt
owned_keyless a (block_ptr b o) (Some t) = (part_keyless table.the_row table_send full_share t b o, frees.frees a (raw (lone table.the_row.mir)) (block_ptr b o))
owned_keyless a null_ptr (Some t) = (tt, frees.frees a (raw (lone table.the_row.mir)) null_ptr)

pub handle_send : IsSend handle.the_row
handle_send =
    let O = handle.the_type in let all : AllSend (fields O) = (search sendable, (heap.the_field_send, tt)) in
    owning_send O all (λ d. owned_keyless d.alloc d.at d.table) (λ k. quiet (to O) (exits_of k (fields O)) ((struct_send (shape O) all).leaving k))
