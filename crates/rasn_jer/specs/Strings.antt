-- The characters of strings that show numbers (ITU-T X.680, 32 and 38.4).
use Rattle.std.specs.Prelude.{ℕ, suc, ◌-◌, List, [], ◌∷◌, ◌++◌, length, replicate, flat_map, decimal, ℤ, pos, negsuc}

-- an arc after a full stop
abbrev pub after_dot : ℕ → List ℕ
after_dot arc = 46 ∷ decimal arc

-- X.697: arcs in decimal digits, with a full stop between two of them
abbrev pub dotted : List ℕ → List ℕ
dotted [] = []
dotted (arc ∷ arcs) = decimal arc ++ flat_map after_dot arcs

-- a number's decimal digits, after zeros up to a width
abbrev pub zero_padded : ℕ → ℕ → List ℕ
zero_padded width n = replicate (width - length (decimal n)) 48 ++ decimal n

-- X.680 38.4: a year in four digits, after a minus sign where it is below zero
abbrev pub year_text : ℤ → List ℕ
year_text (pos n) = zero_padded 4 n
year_text (negsuc n) = 45 ∷ zero_padded 4 (suc n)

-- X.680 38.4: a day by its year, its month and its day of the month, with hyphens between them
abbrev pub day_text : ℤ → ℕ → ℕ → List ℕ
day_text year month day = year_text year ++ 45 ∷ (zero_padded 2 month ++ 45 ∷ zero_padded 2 day)
