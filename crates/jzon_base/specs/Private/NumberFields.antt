-- How the fields of a `Number` represent its decimal.
use Rattle.std.specs.Prelude.{◌≡◌, ℕ, ℤ, pos, true, false}
use Rattle.jzon_base.specs.Decimal.{Decimal, nan, parts}
use Rattle.jzon_base.specs.declared.number.Category.{Category}
use Rattle.jzon_base.specs.declared.number.Category.TheVariants.{Negative, Positive, Nan}
use Rattle.jzon_base.specs.declared.number.Number.TheInside.{Inside}

-- the decimal that a category, a mantissa and an exponent represent
abbrev pub decimal_of : Category → ℕ → ℤ → Decimal
decimal_of Negative m e = parts false m e
decimal_of Positive m e = parts true m e
decimal_of Nan m e = nan

-- NaN has no parts: its fields are 0
abbrev pub HasNoParts : Category → ℕ → ℤ → Type 0
HasNoParts Negative m e = Unit {0}
HasNoParts Positive m e = Unit {0}
HasNoParts Nan m e = (m ≡ 0) × (e ≡ pos 0)

-- the fields of a `Number`; the gaps are 0
abbrev pub fields_at : Category → ℕ → ℤ → Inside
fields_at c m e = record { category = c; narrow_gap = 0; exponent = e; wide_gap = 0; mantissa = m }

-- the fields of the `Number` that has this decimal
abbrev pub number_fields : Decimal → Inside
number_fields nan = fields_at Nan 0 (pos 0)
number_fields (parts true m e) = fields_at Positive m e
number_fields (parts false m e) = fields_at Negative m e
