-- A recursive type in two versions: its unfoldings, and that one is newer than the other.
use Rattle.std.proofs.Common.{◌≡◌, refl, sym, ℕ, zero, suc, Bool, true, false}
use Rattle.rasn_types.specs.Values.{Value, truth, fields, Slots, no_slots, there, absent, slots}
use Rattle.rasn_schema.specs.Depth.{meets_cut, slots_meet_cut, in_slots, CutOf, cut_here, alike, cut_sequence, cut_part, no_cut, Unfolds}
use Rattle.rasn_schema.specs.Schemas.{TagTree, leaf, optional, default, Order, Schema, no_parts, part}
use Rattle.per_core.specs.Versions.{widen, project, NewerPresence, unchanged, newer_sequence, no_more, more_parts, also, NewerType}
use Rattle.per_laws.proofs.Transitive.{or_both}
use Rattle.per_laws.proofs.Takes.{some_is}

abbrev here : TagTree
here = leaf (record { class = 2; number = 0 })

-- T ::= SEQUENCE { next T OPTIONAL, ... } and the same with an addition BOOLEAN DEFAULT TRUE
abbrev old_type : ℕ → Schema
old_type zero = Schema.cut
old_type (suc n) = Schema.sequence Order.listed (part here optional (old_type n) no_parts) true no_parts

abbrev new_type : ℕ → Schema
new_type zero = Schema.cut
new_type (suc n) = Schema.sequence Order.listed (part here optional (new_type n) no_parts) true (part here (default (truth true)) Schema.boolean no_parts)

newer_versions : NewerType new_type old_type
newer_versions zero = unchanged tt
newer_versions (suc n) = newer_sequence (also tt (newer_versions n) no_more) more_parts

new_grows : (n : ℕ) → CutOf (new_type n) (new_type (suc n))
new_grows zero = cut_here
new_grows (suc n) = cut_sequence (cut_part (new_grows n) no_cut) (cut_part (alike tt) no_cut)

one_slot : (K : Value → Bool) (x : Slots) → ((v : Value) → K v ≡ false) → in_slots K (λ ss. false) (slots x) ≡ false
one_slot K no_slots h = refl
one_slot K (absent x) h = refl
one_slot K (there v x) h = or_both (K v) false (h v) refl

mutual
  unfolding meets_cut

  new_holds : (v : Value) → (n : ℕ) × (meets_cut (new_type n) v ≡ false)
  new_holds (fields r x) = let h = new_first r in
      (suc h.0, or_both (slots_meet_cut (part here optional (new_type h.0) no_parts) (slots r)) (slots_meet_cut (part here (default (truth true)) Schema.boolean no_parts) (slots x)) h.1 (one_slot (meets_cut Schema.boolean) x (λ v. refl)))
  new_holds _ = (1, refl)

  new_first : (r : Slots) → (n : ℕ) × (slots_meet_cut (part here optional (new_type n) no_parts) (slots r) ≡ false)
  new_first no_slots = (0, refl)
  new_first (absent r) = (0, refl)
  new_first (there v r) = let h = new_holds v in (h.0, or_both (meets_cut (new_type h.0) v) false h.1 refl)

new_unfolds : Unfolds new_type
new_unfolds = record { grows = new_grows; holds = new_holds }

-- a default that is widened: SEQUENCE {}, its newer version having the addition
abbrev empty : Schema
empty = Schema.sequence Order.listed no_parts true no_parts

abbrev fuller : Schema
fuller = Schema.sequence Order.listed no_parts true (part here (default (truth true)) Schema.boolean no_parts)

default_widened : NewerPresence fuller empty (default (fields no_slots (there (truth true) no_slots))) (default (fields no_slots no_slots))
unfolding widen project meets_cut
default_widened = record { there = λ m. refl; same = λ x e m. some_is x (fields no_slots (there (truth true) no_slots)) (sym e); valid = refl }
