-- What a handle holds, and why a message has no answer.
use Rattle.std.proofs.Common.{◌≡◌, ◌⊎◌, inl, inr, refl, sym, ap, ◌∙◌, subst, ℕ, List, Bool, true, false, Option, Some, None, Result, Ok, Err}
use Rattle.std.specs.Prelude.{IfErr, IfOk}
use Rattle.std.specs.declared.alloc.Global.{Global}
use Rattle.std.specs.declared.boxed.Box.{Box}
use Rattle.rasn_dynamic.specs.declared.types.Types.{Types}
use Rattle.per_core.specs.Rows.{Codec}
use Rattle.per_messages.specs.declared.error.MessageError.{MessageError}
use Rattle.per_messages.specs.declared.error.MessageError.TheVariants as Messages
use Rattle.per_c.specs.Numbers.{message_refusal}
use Rattle.per_c.specs.Tables.{Holds, IsByHeld, IsHandle, IsNoAnswer, IsRefusal, IsTable}
use Rattle.per_c.specs.declared.handle.Table.{Table}
use Rattle.per_c.specs.declared.refusal.Refusal.{Refusal}
use Rattle.per_c.specs.declared.refusal.Refusal.TheVariants.{OutOfMemory, UnknownOptions, UnknownType, NoRoom, Decode, Encode, Json}
use Rattle.per_c.specs.declared.refusal.Refusal.TheVariants.{AlreadyLoaded, BadSchema, FromJson, NoTypes, OtherType}
use Rattle.per_c.specs.declared.tables.PerTypes.{PerTypes}
use Rattle.per_c.specs.declared.tables.Task.{Task}

some_held : (held : Option Table) (b : Box Table Global) → IsTable held (Some b) → held ≡ Some b.value
some_held (Some t) b h = ap Some (sym h)
some_held None b h = absurd h

no_held : (held : Option Table) → IsTable held None → held ≡ None
no_held None h = refl
no_held (Some t) h = absurd h

-- the table that was taken from a handle
pub from_some : (h g : PerTypes) (r : Option (Box Table Global)) (b : Box Table Global) → h ≡ g → IsTable h.handle.table r → r ≡ Some b → g.handle.table ≡ Some b.value
from_some h g r b e i f = subst (λ (p : PerTypes). p.handle.table ≡ Some b.value) e (some_held h.handle.table b (subst (IsTable h.handle.table) f i))

-- there was none
pub from_none : (h g : PerTypes) (r : Option (Box Table Global)) → h ≡ g → IsTable h.handle.table r → ((b : Box Table Global) → r ≡ Some b → ⊥) → g.handle.table ≡ None
from_none h g None e i n = subst (λ (p : PerTypes). p.handle.table ≡ None) e (no_held h.handle.table i)
from_none h g (Some b) e i n = absurd (n b refl)

loaded_as : (h : PerTypes) (o : Option Table) → Holds h o → h.is_loaded ≡ true → (t : Table) × (o ≡ Some t)
loaded_as h None k e = let no : true ≡ false = sym e ∙ k.0 in absurd (cc)
loaded_as h (Some t) k e = (t, refl)

-- the table of a handle that says that it has one
pub loaded : (h : PerTypes) → IsHandle h → h.is_loaded ≡ true → (t : Table) × (h.handle.table ≡ Some t)
loaded h k e = loaded_as h h.handle.table k e

-- refusals that are none of messages
abbrev tag : Refusal → Bool
tag UnknownOptions = false
tag NoTypes = false
tag NoRoom = false
tag _ = true

is_message : (e : MessageError) → tag (message_refusal e) ≡ true
is_message (Messages.Decode kind) = refl
is_message (Messages.Encode kind) = refl
is_message Messages.NoJson = refl
is_message Messages.OtherType = refl
is_message (Messages.FromJson e) = refl
is_message Messages.OutOfMemory = refl

is_refused : (refuses : MessageError → Type 0) (r : Refusal) → IsRefusal refuses r → tag r ≡ true
is_refused refuses r (inl q) = ap tag q
is_refused refuses r (inr (e, q, h)) = ap tag q ∙ is_message e

none_of : {b : Bool} → false ≡ b → b ≡ true → ⊥
none_of e f = let no : false ≡ true = e ∙ f in absurd (cc)

module _ (held : Option Table) (options : ℕ) (refuses : Types → Codec → MessageError → Type 0) (types : Types) (codec : Codec) where
  unanswered : (r : Refusal) → IsRefusal (refuses types codec) r → IsByHeld held options (λ ts c. IsRefusal (refuses ts c) r) → IsNoAnswer held options refuses r
  unanswered UnknownOptions k h = absurd (none_of refl (is_refused (refuses types codec) UnknownOptions k))
  unanswered NoTypes k h = absurd (none_of refl (is_refused (refuses types codec) NoTypes k))
  unanswered NoRoom k h = absurd (none_of refl (is_refused (refuses types codec) NoRoom k))
  unanswered OutOfMemory k h = h
  unanswered UnknownType k h = h
  unanswered (Decode kind) k h = h
  unanswered (Encode kind) k h = h
  unanswered (Json e) k h = h
  unanswered AlreadyLoaded k h = h
  unanswered BadSchema k h = h
  unanswered OtherType k h = h
  unanswered (FromJson e) k h = h

  -- a message that the table of a handle refuses has no answer
  pub turned_down : {A : Type 0} (r : Result A Refusal) → IfErr r (IsRefusal (refuses types codec))
      → ((e : Refusal) → IsRefusal (refuses types codec) e → IsByHeld held options (λ ts c. IsRefusal (refuses ts c) e)) → IfErr r (IsNoAnswer held options refuses)
  turned_down (Ok x) h k = h
  turned_down (Err e) h k = unanswered e h (k e h)

pub ok_as : {A E : Type 0} {F G : A → Type 0} (r : Result A E) → ((y : A) → F y → G y) → IfOk r F → IfOk r G
ok_as (Ok y) f h = f y h
ok_as (Err e) f h = h
