-- A bag is read where the list of its members is, over any decoder.
use Rattle.std.proofs.Common.{ℕ, zero, suc, Bool, List, ◌⊎◌, inl, inr}
use Rattle.rasn_types.specs.Values.{Value, bag_of}
use Rattle.rasn_constraints.specs.Bounds.{Size}
use Rattle.rasn_schema.specs.Lists.{list_at}
use Rattle.rasn_schema.specs.Structures.{list_value}
use Rattle.rasn_schema.specs.Schemas.{Schema}
use Rattle.rasn_traits.specs.BagsRead.{BagsWell}
use Rattle.rasn_traits.specs.Calls.{DecoderRules, Refuses}
use Rattle.rasn_schema.specs.Bags.{set_at}

module _ {E S : Type 0} (rules : DecoderRules E S) (well : BagsWell rules) (member : ℕ → Schema) (size : Size) (mark : Bool) (s : S) where
  -- the bag of what is read
  pub bag_answered : (n : ℕ) (vs : List Value) (t : S) → rules.spells (list_at member size mark n) s (list_value vs) t
      → rules.spells (set_at member size mark n) s (bag_of vs) t
  bag_answered zero vs t r = absurd (well.cut s (list_value vs) t r)
  bag_answered (suc n) vs t r = well.bag_read (member n) size mark s t vs r

  -- a refused list
  bag_refuses : (n : ℕ) (d : E) → Refuses (rules.spells (list_at member size mark n)) (rules.fault (list_at member size mark n)) d s
      → Refuses (rules.spells (set_at member size mark n)) (rules.fault (set_at member size mark n)) d s
  bag_refuses zero d r = r
  bag_refuses (suc n) d r = record {
    nothing = well.none (member n) size mark s r.nothing;
    stands = well.in_list (member n) size mark s d r.stands;
  }

  pub bag_refused : (n : ℕ) (d : E)
      → rules.memory d s ⊎ Refuses (rules.spells (list_at member size mark n)) (rules.fault (list_at member size mark n)) d s
      → rules.memory d s ⊎ Refuses (rules.spells (set_at member size mark n)) (rules.fault (set_at member size mark n)) d s
  bag_refused n d (inl m) = inl m
  bag_refused n d (inr r) = inr (bag_refuses n d r)
