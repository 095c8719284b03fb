-- One component in front of those after it, on each side of the extension marker.
use Rattle.std.proofs.Common.{◌∙◌, arith, refl, sym, ℕ, max, Result, Ok, Err, List, [], ◌∷◌, Option}
use Rattle.rasn_types.specs.Values.{Side, root, added, Value}
use Rattle.rasn_schema.specs.Fields.{Shape}
use Rattle.rasn_schema.specs.Normal.{normals}
use Rattle.rasn_schema.specs.Schemas.{Tag, TagTree, leaf, Presence, Schema, Parts, no_parts, part}
use Rattle.rasn_traits.specs.Additions.{presents_no_more}
use Rattle.rasn_traits.specs.AdditionsRead.{reads_no_more, reads_further}
use Rattle.rasn_traits.specs.Calls.{DecoderRules, DecodesWell, EncoderRules, PresentsWell}
use Rattle.rasn_traits.specs.Scopes.{presents_end, reads_end, reads_next}
use Rattle.rasn_traits.proofs.Reading.{addition_reads_well, fails_addition, fails_after, fails_further, fails_part}
use Rattle.rasn_record.specs.Lists.{first_tag}
use Rattle.rasn_record.specs.Sides.{MayBeAt, ReadsAllAt, ReadsAt, WritesAllAt, WritesAt, tree_at}
use Rattle.rasn_record.specs.Trees.{first_tree_by}
use Rattle.rasn_record.proofs.OneAddition.{addition_normal, addition_refused, addition_written}
use Rattle.rasn_record.proofs.RestOfLists.{level_of}
use Rattle.rasn_record.proofs.Slots.{next_refused, next_written}
use Rattle.rasn_record.proofs.Trees.{first_tree_by-tag, unread_by}

-- no components are written
pub ends_written : {E X : Type 0} (side : Side) (rules : EncoderRules E X) (x : X) → WritesAllAt side rules (λ n. no_parts) 0 [] x (Ok tt) x
unfolding normals
ends_written root rules x = record { law = record { at = λ n le. presents_end }; fails = tt; kept = refl }
ends_written added rules x = record { law = record { at = λ n le. presents_no_more }; fails = tt; kept = refl }

-- a component that is written, and what comes of those after it
pub first_written : {E X : Type 0} (side : Side) {rules : EncoderRules E X} → PresentsWell rules → (t : TagTree) (p : Presence) (schema : ℕ → Schema) (parts : ℕ → Parts) (k j : ℕ) (x m : X) (r : Option Value) (rs : List (Option Value)) (u : Unit {0}) → MayBeAt side p
    → WritesAt side rules p schema k r x (Ok u) m → (result : Result (Unit {0}) E) (y : X) → WritesAllAt side rules parts j rs m result y
    → WritesAllAt side rules (λ n. part t p (schema n) (parts n)) (max k j) (r ∷ rs) x result y
first_written root L t p schema parts k j x m r rs u h a result y w = record {
  law = next_written L t p schema parts k j x m r rs h a.law result y w.law;
  fails = w.fails;
  kept = w.kept ∙ a.behaves.kept;
}
first_written added {rules = rules} L t p schema parts k j x m r rs u h a result y w = record {
  law = record {
    at = λ n le. rw (addition_normal t p (schema n) (parts n) r rs)
        (addition_written rules L t p (schema n) (parts n) _ _ _ _ (a.law.at n (omega (arith, le))) result y (w.law.at n (omega (arith, le))));
  };
  fails = w.fails;
  kept = w.kept ∙ a.behaves.kept;
}

-- one that is refused
pub first_refused : {E X : Type 0} (side : Side) (rules : EncoderRules E X) (t : TagTree) (p : Presence) (schema : ℕ → Schema) (parts : ℕ → Parts) (k j : ℕ) (x y : X) (r : Option Value) (rs : List (Option Value)) (e : E) → MayBeAt side p
    → WritesAt side rules p schema k r x (Err e) y → WritesAllAt side rules (λ n. part t p (schema n) (parts n)) (max k j) (r ∷ rs) x (Err e) y
first_refused root rules t p schema parts k j x y r rs e h a = record {
  law = next_refused t p schema parts k j x y r rs e h a.law;
  fails = a.behaves.fails;
  kept = a.behaves.kept;
}
first_refused added rules t p schema parts k j x y r rs e h a = record {
  law = record {
    at = λ n le. rw (addition_normal t p (schema n) (parts n) r rs) (addition_refused rules t p (schema n) (parts n) x y _ _ e (a.law.at n (omega (arith, le))));
  };
  fails = a.behaves.fails;
  kept = a.behaves.kept;
}

-- no components are read
pub ends_read : {E S : Type 0} (side : Side) (rules : DecoderRules E S) (s : S) → ReadsAllAt side rules (λ n. no_parts) (λ (u : Unit {0}). []) s (Ok tt) s
ends_read root rules s = record { law = reads_end; fails = tt; kept = refl }
ends_read added rules s = record { law = reads_no_more; fails = tt; kept = refl }

-- a component that was read by the tag of a field is read by the field's tags
pub by_field : {E S T : Type 0} (side : Side) (rules : DecoderRules E S) (own : Tag) (fs : List Shape) (p : Presence) (c : Schema) (slot : T → Option Value) (s : S) (result : Result T E) (t : S)
    → ReadsAt side rules (leaf (first_tag own fs)) p c slot s result t → ReadsAt side rules (tree_at side own fs) p c slot s result t
by_field root rules own fs p c slot s result t a = a
by_field added rules own fs p c slot s (Ok v) t a = record { law = a.law; behaves = a.behaves }
by_field added rules own fs p c slot s (Err e) t a = record {
  law = unread_by rules (leaf (first_tag own fs)) (first_tree_by own fs) (sym (first_tree_by-tag own fs)) a.law;
  behaves = a.behaves;
}

module _ {E S T U : Type 0} {rules : DecoderRules E S} (L : DecodesWell rules) (k : TagTree) (p : Presence) (schema : ℕ → Schema) (parts : ℕ → Parts) (slot : T → Option Value) (s : S) where
  -- a component that isn't read
  pub first_unread : (side : Side) (contents : U → List (Option Value)) (e : E) (t : S) → ReadsAt side rules k p (schema (rules.levels s)) slot s (Err e) t
      → ReadsAllAt side rules (λ n. part k p (schema n) (parts n)) contents s (Err e) t
  first_unread root contents e t a = record { law = fails_part L a.law; fails = a.behaves.fails; kept = a.behaves.kept }
  first_unread added contents e t a = record { law = fails_addition L a.law; fails = a.behaves.fails; kept = a.behaves.kept }

  -- those after one that was read aren't read
  pub next_unread : {V : Type 0} (side : Side) (contents : U → List (Option Value)) (all : V → List (Option Value)) (v : T) (m : S) (e : E) (t : S) → ReadsAt side rules k p (schema (rules.levels s)) slot s (Ok v) m
      → ReadsAllAt side rules parts contents m (Err e) t → ReadsAllAt side rules (λ n. part k p (schema n) (parts n)) all s (Err e) t
  next_unread root contents all v m e t a b = record {
    law = fails_after L a.law (rw (level_of L a.law) at b.law);
    fails = b.fails;
    kept = b.kept ∙ a.behaves.kept;
  }
  next_unread added contents all v m e t a b = record {
    law = fails_further L a.law (rw ((addition_reads_well L p (schema (rules.levels s))).level s (slot v) m a.law) at b.law);
    fails = b.fails;
    kept = b.kept ∙ a.behaves.kept;
  }

  -- all are read
  pub first_read : (side : Side) (contents : U → List (Option Value)) (v : T) (m : S) (vs : U) (t : S) → ReadsAt side rules k p (schema (rules.levels s)) slot s (Ok v) m
      → ReadsAllAt side rules parts contents m (Ok vs) t → ReadsAllAt side rules (λ n. part k p (schema n) (parts n)) (λ (x : T × U). slot x.0 ∷ contents x.1) s (Ok (v, vs)) t
  first_read root contents v m vs t a b = record {
    law = reads_next a.law (rw (level_of L a.law) at b.law);
    fails = tt;
    kept = b.kept ∙ a.behaves.kept;
  }
  first_read added contents v m vs t a b = record {
    law = reads_further a.law (rw ((addition_reads_well L p (schema (rules.levels s))).level s (slot v) m a.law) at b.law);
    fails = tt;
    kept = b.kept ∙ a.behaves.kept;
  }
