-- The characters that the grammar of RFC 8259 names (sections 2, 6 and 7), by its names; zero_digit, minus_sign and
-- plus_sign are its zero, minus and plus.
use Rattle.std.specs.Prelude.{ℕ}

-- `[`
abbrev pub begin_array : ℕ
begin_array = 91

-- `]`
abbrev pub end_array : ℕ
end_array = 93

-- `{`
abbrev pub begin_object : ℕ
begin_object = 123

-- `}`
abbrev pub end_object : ℕ
end_object = 125

-- `"`
abbrev pub quotation_mark : ℕ
quotation_mark = 34

-- the backslash
abbrev pub escape : ℕ
escape = 92

-- `0`
abbrev pub zero_digit : ℕ
zero_digit = 48

-- `,`
abbrev pub value_separator : ℕ
value_separator = 44

-- `:`
abbrev pub name_separator : ℕ
name_separator = 58

-- `.`
abbrev pub decimal_point : ℕ
decimal_point = 46

-- `-`
abbrev pub minus_sign : ℕ
minus_sign = 45

-- `+`
abbrev pub plus_sign : ℕ
plus_sign = 43
