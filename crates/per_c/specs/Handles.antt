-- What a handle owns.
use Rattle.std.specs.Prelude.{Option, Some, None}
use base.Fml.{Fml, ftrue}
use denote.RawPtr.{Ptr}
use Rattle.std.specs.contracts.impls.GlobalAllocator.TheImpl.{ghosts}
use Rattle.std.specs.declared.alloc.Global.{Global}
use Rattle.std.specs.Box.Ownership.{box_owns}
use Rattle.per_c.specs.declared.handle.Table.{Table}
use Rattle.per_c.specs.contracts.handle.Table.{the_row as table_row}

-- a table at a pointer, and the right to free its block, or nothing
abbrev pub may_own : Global → Ptr → Option Table → Fml
may_own alloc p None = ftrue
may_own alloc p (Some t) = box_owns (ghosts.dealloc_token alloc) table_row p t

-- there is one
abbrev pub IsHeld : Option Table → Type 0
IsHeld None = ⊥
IsHeld (Some t) = Unit {0}
