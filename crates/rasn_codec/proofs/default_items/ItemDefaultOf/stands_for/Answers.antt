use Rattle.rasn_schema.specs.Normal.{normal}
use Rattle.rasn_codec.proofs.SameValues.{added_and_root, both_added, both_root, root_and_added}
use Rattle.rasn_codec.proofs.default_items.ItemDefaultOf.stands_for.Goals as goal

pub returns-in-Root-Root : goal.returns-in-Root-Root
unfolding normal
returns-in-Root-Root g c = let h = c.in-Root-Root in record { at = λ n le. both_root _ _ _ _ h.ensures.0 h.ensures'.0 }

pub returns-in-Added-Added : goal.returns-in-Added-Added
unfolding normal
returns-in-Added-Added g c = let h = c.in-Added-Added in record { at = λ n le. both_added _ _ _ _ h.ensures.0 h.ensures'.0 }

pub returns-in-Root-Added : goal.returns-in-Root-Added
unfolding normal
returns-in-Root-Added g c = let h = c.in-Root-Added in record { at = λ n le. root_and_added _ _ _ _ h.ensures.0 h.ensures'.0 }

pub returns-in-Added-Root : goal.returns-in-Added-Root
unfolding normal
returns-in-Added-Root g c = let h = c.in-Added-Root in record { at = λ n le. added_and_root _ _ _ _ h.ensures.0 h.ensures'.0 }
