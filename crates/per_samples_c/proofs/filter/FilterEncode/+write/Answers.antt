use Rattle.std.proofs.Common.{ap, refl, suc, sym, ◌∙◌}
use Rattle.per_samples_c.specs.Filters.{filter_levels}
use Rattle.per_samples_c.specs.declared.filter.Filter.{Filter-F}
use Rattle.per_samples_c.specs.declared.filter.Filter.TheVariants.{rolls-And, rolls-Or, rolls-Not, rolls-Present}
use Rattle.per_samples_c.proofs.Filters.{deepest_of, written}
use Rattle.per_samples_c.proofs.filter.FilterEncode.+write.Goals as goal

pub returns-in-And : goal.returns-in-And
returns-in-And g t c =
    written _ c.args.self.now (Filter-F.And c.in-And.value) _ _ _ _ (c.in-And.is ∙ sym (rolls-And c.in-And.value)) (ap (λ n. suc (suc n)) (sym (deepest_of filter_levels c.in-And.value.items))) c.write_alternative.ensures

pub returns-in-Or : goal.returns-in-Or
returns-in-Or g t c =
    written _ c.args.self.now (Filter-F.Or c.in-Or.value) _ _ _ _ (c.in-Or.is ∙ sym (rolls-Or c.in-Or.value)) (ap (λ n. suc (suc n)) (sym (deepest_of filter_levels c.in-Or.value.items))) c.write_alternative-in-Or.ensures

pub returns-in-Not : goal.returns-in-Not
returns-in-Not g t c =
    written _ c.args.self.now (Filter-F.Not c.in-Not.value) _ _ _ _ (c.in-Not.is ∙ sym (rolls-Not c.in-Not.value)) refl c.write_alternative-in-Not.ensures

pub returns-in-Present : goal.returns-in-Present
returns-in-Present g t c =
    written _ c.args.self.now (Filter-F.Present c.in-Present.value) _ _ _ _ (c.in-Present.is ∙ sym (rolls-Present c.in-Present.value)) refl c.write_alternative-in-Present.ensures
