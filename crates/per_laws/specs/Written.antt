-- Whether a component that is written is where the reader's tree is cut off.
use Rattle.std.specs.Prelude.{ℕ, zero, suc, Bool, true, false, not, ◌&&◌, List, Option}
use Rattle.rasn_types.specs.Values.{Value, same}
use Rattle.rasn_schema.specs.Schemas.{Presence, default, Schema, Parts, no_parts, part}
use Rattle.rasn_schema.specs.Normal.{root_of, additions_of}
use Rattle.rasn_schema.specs.Depth.{in_elements, in_fields, in_alternative, in_slots}
use Rattle.per_core.specs.Versions.{element_of, alternatives_of, added_of}

-- whether canonical encodings hold a part that is there: not where it equals its default (X.691, section 19)
abbrev pub is_written : Presence → Value → Bool
is_written (default d) v = not (same v d)
is_written _ v = true

-- Of the reader's tree, the writer's tree and a value of the writer's. The two may be of two versions: the reader
-- passes over the additions that it doesn't know.
unfoldable mutual
  unfolding same

  pub writes_cut : Schema → Schema → Value → Bool
  writes_cut Schema.cut t = λ v. true
  writes_cut (Schema.containing e) t = writes_cut e (element_of t)
  writes_cut (Schema.list e size mark) t = in_elements (writes_cut e (element_of t))
  writes_cut (Schema.set_of e size mark) t = in_elements (writes_cut e (element_of t))
  writes_cut (Schema.sequence o ps ext adds) t = in_fields (slots_write_cut ps (root_of t))
      (slots_write_cut adds (additions_of t))
  writes_cut (Schema.choice ps adds ext) t = in_alternative (writes_cut_at ps (alternatives_of t))
      (writes_cut_at adds (added_of t))
  writes_cut _ t = λ v. false

  pub slots_write_cut : Parts → Parts → List (Option Value) → Bool
  slots_write_cut no_parts qs = λ ss. false
  slots_write_cut (part t p s ps) no_parts = λ ss. false
  slots_write_cut (part t p s ps) (part t' p' s' ps') = in_slots (λ v. is_written p' v && writes_cut s s' v)
      (slots_write_cut ps ps')

  pub writes_cut_at : Parts → Parts → ℕ → Value → Bool
  writes_cut_at no_parts qs = λ i v. false
  writes_cut_at (part t p s ps) no_parts = λ i v. false
  writes_cut_at (part t p s ps) (part t' p' s' ps') = elim [ zero ↦ writes_cut s s' | suc i ↦ writes_cut_at ps ps' i ]
