-- The family of trees of a DATE, which takes two levels (ITU-T X.691, 32).
use Rattle.std.proofs.Common.{zero, suc, false, Some, arith, refl}
use Rattle.rasn_types.specs.declared.types.TheConstants.Tag.{DATE}
use Rattle.rasn_schema.specs.Levels.{Levelled, no_date, still_cut, to_date}
use Rattle.rasn_schema.specs.Fields.{tagged}
use Rattle.rasn_schema.specs.Tags.{AreTagsOf, IsTagOf, IsTreeAt}
use Rattle.rasn_traits.specs.Moments.{date_at}

-- each tree is the next one to its number of levels
pub date_levelled : Levelled date_at
date_levelled zero = still_cut (omega arith)
date_levelled (suc zero) = no_date (omega arith)
date_levelled (suc (suc n)) = to_date

-- X.680 8.4: DATE's universal tag is that of each tree
pub date_tag : IsTagOf DATE date_at
date_tag zero = refl
date_tag (suc zero) = refl
date_tag (suc (suc n)) = refl

-- its tags are that one alone
pub date_stated : AreTagsOf DATE (Some (tagged DATE)) false date_at
date_stated zero = tt
date_stated (suc zero) = tt
date_stated (suc (suc n)) = (refl, refl)

-- it is the tree of each
pub date_fits : IsTreeAt (tagged DATE) date_at
date_fits zero = refl
date_fits (suc zero) = refl
date_fits (suc (suc n)) = refl
