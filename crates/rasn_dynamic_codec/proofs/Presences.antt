-- How the law of a component or an addition follows from that of its value, over any encoder.
use Rattle.std.proofs.Common.{◌≡◌, refl, sym, ap, ◌∙◌, ◌⊎◌, inl, inr, Bool, true, false, Result, Ok, Err, Option, Some, None}
use Rattle.std.specs.Prelude.{is_some, not}
use Rattle.rasn_types.specs.Values.{Value as Content, same}
use Rattle.rasn_schema.specs.Normal.{normal, settle}
use Rattle.rasn_schema.specs.Schemas.{default, group, optional, required, Schema}
use Rattle.rasn_traits.specs.Additions.{AdditionSkipped, AdditionWritten, refuses_surplus, WrittenAddition}
use Rattle.rasn_traits.specs.Calls.{EncoderRules, PresentsWell, Written}
use Rattle.rasn_traits.specs.Optionals.{GivesPresence}
use Rattle.rasn_traits.specs.Presences.{left_out, presence_bit}
use Rattle.rasn_traits.specs.Scopes.{presents_required, presents_there, presents_left_out, refuses_bit, refuses_required, refuses_there, WrittenPart}
use Rattle.rasn_dynamic_codec.specs.OneAddition.{normal_addition}
use Rattle.rasn_dynamic_codec.proofs.OneAddition.{given_absent, given_there}
use Rattle.rasn_dynamic.specs.declared.types.DefaultTree.{DefaultTree}
use Rattle.rasn_dynamic.specs.declared.types.Presence.{Presence}
use Rattle.rasn_dynamic.specs.declared.types.Presence.TheVariants.{Default, Group, Optional, Required}
use Rattle.rasn_dynamic.specs.Types.{tree_value, presence_of}
use Rattle.rasn_dynamic.specs.Values.{there}
use Rattle.rasn_dynamic_codec.specs.Writes.{may_stand}

-- whether an addition is a group, or has a default
abbrev pub is_other : Presence → Bool → Bool
is_other Group b = b
is_other (Default d) b = true
is_other p b = false

pub no_other : (g : Bool) (p : Presence) → (p ≡ Group → ⊥) → ((d : DefaultTree) → p ≡ Default d → ⊥) → is_other p g ≡ false
no_other g Required h k = refl
no_other g Optional h k = refl
no_other true Group h k = absurd (h refl)
no_other false Group h k = refl
no_other g (Default d) h k = absurd (k d refl)

-- a component with a default that has to be there
pub stands_there : (d : DefaultTree) (o : Option Content) → may_stand true (Default d) o ≡ true → is_some o ≡ true
stands_there d None e = absurd (cc)
stands_there d (Some v) e = refl

-- what stands for a group that isn't there
pub group_left : (g : Bool) → left_out (presence_of g Group) ≡ Some None
group_left true = refl
group_left false = refl

module _ {E X : Type 0} (rules : EncoderRules E X) where
  -- a required component, which is there
  pub required_there : (s : Schema) (x y : X) (o : Option Content) (r : Result (Unit {0}) E) → may_stand true Required o ≡ true → Written rules s (normal s (there o)) x r y
      → WrittenPart rules required s (normal_addition required s o) x r y
  unfolding settle
  required_there s x y None r e w = absurd (cc)
  required_there s x y (Some v) (Ok u) e w = presents_required w
  required_there s x y (Some v) (Err d) e (inl m) = inl m
  required_there s x y (Some v) (Err d) e (inr h) = inr (refuses_required h)

  -- an optional component whose presence bit is refused
  pub unmarked_part : (s : Schema) (x y z : X) (o : Option Content) (b : Bool) (e : E) → b ≡ is_some o → GivesPresence rules b x (Err e) y → WrittenPart rules optional s (normal_addition optional s o) x (Err e) z
  unfolding settle
  unmarked_part s x y z None b e q h = inr (refuses_bit {b = false} refl h)
  unmarked_part s x y z (Some v) b e q h = inr (refuses_bit {b = true} refl h)

  -- an optional component that is absent
  pub absent_written : (s : Schema) (x y : X) (o : Option Content) (b : Bool) → b ≡ false → b ≡ is_some o → rules.marks x b y → WrittenPart rules optional s (normal_addition optional s o) x (Ok tt) y
  absent_written s x y None b e q h = presents_left_out refl (rw (← q) h)
  absent_written s x y (Some v) b e q h = absurd (let f : false ≡ true = sym e ∙ q in cc)

  -- an optional component that is there
  pub there_written : PresentsWell rules → (s : Schema) (x m y : X) (o : Option Content) (b : Bool) (r : Result (Unit {0}) E) → b ≡ true → b ≡ is_some o → rules.marks x b m → Written rules s (normal s (there o)) m r y
      → WrittenPart rules optional s (normal_addition optional s o) x r y
  unfolding settle
  there_written L s x m y None b r e q h w = absurd (let f : true ≡ false = sym e ∙ q in cc)
  there_written L s x m y (Some v) b (Ok u) e q h w = presents_there refl (rw (← q) h) w
  there_written L s x m y (Some v) b (Err d) e q h (inl k) = inl (L.mark_room x b m d h k)
  there_written L s x m y (Some v) b (Err d) e q h (inr k) = inr (refuses_there refl (rw (← q) h) k)

  -- an addition that isn't there
  pub skipped_written : (g : Bool) (p : Presence) (s : Schema) (x y : X) (o : Option Content) (r : Result (Unit {0}) E) → false ≡ is_some o → may_stand true p o ≡ true → AdditionSkipped rules x r y
      → WrittenAddition rules (presence_of g p) s (normal_addition (presence_of g p) s o) x r y
  skipped_written g p s x y (Some v) r q e h = absurd (cc)
  skipped_written g Required s x y None r q e h = absurd (cc)
  skipped_written g Optional s x y None r q e h = given_absent rules optional s None x r y refl h
  skipped_written true Group s x y None r q e h = given_absent rules group s None x r y refl h
  skipped_written false Group s x y None r q e h = given_absent rules optional s None x r y refl h
  skipped_written g (Default d) s x y None r q e h = absurd (cc)

  -- an addition that is there, and isn't a group
  pub open_written : (g : Bool) (p : Presence) (s : Schema) (x y : X) (o : Option Content) (r : Result (Unit {0}) E) → is_other p g ≡ false → true ≡ is_some o → AdditionWritten rules s (normal s (there o)) x r y
      → WrittenAddition rules (presence_of g p) s (normal_addition (presence_of g p) s o) x r y
  unfolding settle
  open_written g p s x y None r n q h = absurd (cc)
  open_written g Required s x y (Some v) r n q h = given_there rules required s (normal s v) x r y refl h
  open_written g Optional s x y (Some v) r n q h = given_there rules optional s (normal s v) x r y refl h
  open_written true Group s x y (Some v) r n q h = absurd (cc)
  open_written false Group s x y (Some v) r n q h = given_there rules optional s (normal s v) x r y refl h
  open_written g (Default d) s x y (Some v) r n q h = absurd (cc)

module _ {E X : Type 0} (rules : EncoderRules E X) (d : DefaultTree) where
  -- the bit of a component with a default
  bit_told : (s : Schema) (v : Content) (r : Bool) → r ≡ same (normal s v) (tree_value d) → presence_bit (default (tree_value d)) (Some (normal s v)) ≡ Some (not r)
  bit_told s v r e = ap (λ b. Some (not b)) (sym e)

  -- a component with a default whose presence bit is refused
  pub default_unmarked : (s : Schema) (x y z : X) (o : Option Content) (r b : Bool) (e : E) → r ≡ same (normal s (there o)) (tree_value d) → b ≡ not r → is_some o ≡ true → GivesPresence rules b x (Err e) y
      → WrittenPart rules (default (tree_value d)) s (normal_addition (default (tree_value d)) s o) x (Err e) z
  unfolding settle
  default_unmarked s x y z None r b e i j q h = absurd (cc)
  default_unmarked s x y z (Some v) r b e i j q h = inr (refuses_bit (bit_told s v r i) h)

  -- one that is its default
  pub default_left : (s : Schema) (x y : X) (o : Option Content) (r b : Bool) → r ≡ same (normal s (there o)) (tree_value d) → b ≡ not r → b ≡ false → is_some o ≡ true → rules.marks x b y
      → WrittenPart rules (default (tree_value d)) s (normal_addition (default (tree_value d)) s o) x (Ok tt) y
  unfolding settle
  default_left s x y None r b i j f q h = absurd (cc)
  default_left s x y (Some v) r b i j f q h = presents_left_out (bit_told s v r i ∙ ap Some (sym j ∙ f)) (rw (← f) h)

  -- one that isn't
  pub default_there : PresentsWell rules → (s : Schema) (x m y : X) (o : Option Content) (r b : Bool) (result : Result (Unit {0}) E) → r ≡ same (normal s (there o)) (tree_value d) → b ≡ not r → b ≡ true → is_some o ≡ true → rules.marks x b m
      → Written rules s (normal s (there o)) m result y → WrittenPart rules (default (tree_value d)) s (normal_addition (default (tree_value d)) s o) x result y
  unfolding settle
  default_there L s x m y None r b result i j f q h w = absurd (cc)
  default_there L s x m y (Some v) r b (Ok u) i j f q h w = presents_there (bit_told s v r i ∙ ap Some (sym j ∙ f)) (rw (← f) h) w
  default_there L s x m y (Some v) r b (Err e) i j f q h (inl k) = inl (L.mark_room x b m e h k)
  default_there L s x m y (Some v) r b (Err e) i j f q h (inr k) = inr (refuses_there (bit_told s v r i ∙ ap Some (sym j ∙ f)) (rw (← f) h) k)

  -- an addition that is its default
  pub default_skipped : (s : Schema) (x y : X) (o : Option Content) (r : Bool) (result : Result (Unit {0}) E) → r ≡ same (normal s (there o)) (tree_value d) → r ≡ true → is_some o ≡ true → AdditionSkipped rules x result y
      → WrittenAddition rules (default (tree_value d)) s (normal_addition (default (tree_value d)) s o) x result y
  unfolding settle
  default_skipped s x y None r result i f q h = absurd (cc)
  default_skipped s x y (Some v) r result i f q h = given_absent rules (default (tree_value d)) s (Some (normal s v)) x result y (bit_told s v r i ∙ ap (λ b. Some (not b)) f) h

  -- an addition that isn't
  pub default_open : (s : Schema) (x y : X) (o : Option Content) (r : Bool) (result : Result (Unit {0}) E) → r ≡ same (normal s (there o)) (tree_value d) → r ≡ false → is_some o ≡ true → AdditionWritten rules s (normal s (there o)) x result y
      → WrittenAddition rules (default (tree_value d)) s (normal_addition (default (tree_value d)) s o) x result y
  unfolding settle
  default_open s x y None r result i f q h = absurd (cc)
  default_open s x y (Some v) r result i f q h = given_there rules (default (tree_value d)) s (normal s v) x result y (bit_told s v r i ∙ ap (λ b. Some (not b)) f) h

-- an addition that is one too many
pub surplus_refused : {E X : Type 0} (rules : EncoderRules E X) (s : Schema) (v : Content) (x y : X) (e : E) → rules.memory e x ⊎ rules.surplus e x → AdditionWritten rules s v x (Err e) y
surplus_refused rules s v x y e (inl m) = inl m
surplus_refused rules s v x y e (inr q) = inr (refuses_surplus q)
