-- The days that strings tell.
use Rattle.std.proofs.Common.{◌≡◌, refl, sym, ap, ap₂, ◌∙◌, Bool, true, false, cond, List, ℕ, ℤ, Option, Some, None, option_map}
use Rattle.std.specs.Prelude.{◌&&◌, nat_eq}
use Rattle.std.specs.Cmp.Lexicographic.{pointwise}
use Rattle.jiff.specs.Types.{Date}
use Rattle.rasn_types.specs.Contents.{is_date}
use Rattle.rasn_types.specs.Values.{Value, day}
use Rattle.rasn_strings.specs.Dates.{IsDay}
use Rattle.rasn_strings.specs.Values.{date_value}
use Rattle.rasn_dynamic.specs.declared.values.Value.TheFolds.{fold-roll-Value}
use Rattle.rasn_dynamic.specs.declared.values.Value.TheOpen as Open
use Rattle.rasn_dynamic.specs.declared.values.Value.TheVariants
use Rattle.rasn_dynamic.specs.declared.values.Value.TheVariants.{rolls-Date}
use Rattle.rasn_dynamic.specs.Values.{slot_of, slot_step}
use Rattle.rasn_jer.specs.Strings.{day_text}
use Rattle.json.specs.Json.{string}
use Rattle.rasn_dynamic_jer.specs.Days.{date_json, date_told, day_shown, month_shown, ShowsDay, year_shown}

-- what a day stands for
pub date_slot : (d : Date) → slot_of (TheVariants.Date d) ≡ Some (date_value d)
date_slot d = ap slot_of (sym (rolls-Date d)) ∙ fold-roll-Value (Option Value) slot_step (Open.Date d)

-- the text of a day is that of its numbers
day_same : (y : ℤ) (m n : ℕ) (d : Date) → IsDay y m n d → day_text y m n ≡ day_text d.year d.month d.day
day_same y m n d h = ap (λ x. day_text x m n) (sym h.year_is) ∙ ap (λ x. day_text d.year x n) (sym h.month_is) ∙ ap (λ x. day_text d.year d.month x) (sym h.day_is)

value_same : (y : ℤ) (m n : ℕ) (d : Date) → IsDay y m n d → day y m n ≡ date_value d
value_same y m n d h = ap (λ x. day x m n) (sym h.year_is) ∙ ap (λ x. day d.year x n) (sym h.month_is) ∙ ap (λ x. day d.year d.month x) (sym h.day_is)

pub day_lawful : (y : ℤ) (m n : ℕ) (d : Date) → IsDay y m n d → is_date y m n ≡ true → is_date d.year d.month d.day ≡ true
day_lawful y m n d h e =
    ap (λ x. is_date x d.month d.day) h.year_is ∙ ap (λ x. is_date y x d.day) h.month_is ∙ ap (λ x. is_date y m x) h.day_is ∙ e

pub day_there : (d : Date) → is_date d.year d.month d.day ≡ true → date_json d ≡ Some (string (day_text d.year d.month d.day))
day_there d e = ap (λ b. cond b (Some (string (day_text d.year d.month d.day))) None) e

pub told_date : (s : List ℕ) (d : Date) → ShowsDay s d
    → pointwise nat_eq (day_text d.year d.month d.day) s ≡ true → option_map Some (date_told s) ≡ Some (slot_of (TheVariants.Date d))
told_date s d w e =
    let y = year_shown s in let m = month_shown s in let n = day_shown s in
    let h = w.is_day in
    let same : pointwise nat_eq (day_text y m n) s ≡ true = ap (λ t. pointwise nat_eq t s) (day_same y m n d h) ∙ e in
    ap (λ b. option_map Some (cond b (Some (day y m n)) None)) (ap₂ (λ a b. a && b) w.lawful same)
    ∙ ap (λ v. Some (Some v)) (value_same y m n d h) ∙ ap Some (sym (date_slot d))

pub no_date : (s : List ℕ) → is_date (year_shown s) (month_shown s) (day_shown s) ≡ false → date_told s ≡ None
no_date s l =
    let y = year_shown s in let m = month_shown s in let n = day_shown s in
    ap (λ b. cond (b && pointwise nat_eq (day_text y m n) s) (Some (day y m n)) None) l

pub other_text : (s : List ℕ) (d : Date) → ShowsDay s d → pointwise nat_eq (day_text d.year d.month d.day) s ≡ false → date_told s ≡ None
other_text s d w e =
    let y = year_shown s in let m = month_shown s in let n = day_shown s in
    go (is_date y m n) (ap (λ t. pointwise nat_eq t s) (day_same y m n d w.is_day) ∙ e)
  where
    go : (b : Bool) → pointwise nat_eq (day_text (year_shown s) (month_shown s) (day_shown s)) s ≡ false
        → cond (b && pointwise nat_eq (day_text (year_shown s) (month_shown s) (day_shown s)) s) (Some (day (year_shown s) (month_shown s) (day_shown s))) None ≡ None
    go true f = ap (λ b. cond b (Some (day (year_shown s) (month_shown s) (day_shown s))) None) f
    go false f = refl
