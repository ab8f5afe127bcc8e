-- The simple escapes of strings, as they are read and as they are printed (RFC 8259, section 7).
use Rattle.std.specs.Prelude.{ℕ, Bool, ◌||◌, ◌==◌, if◌then◌else◌, codes}
use Rattle.std.specs.List.{list_any}
use Rattle.jzon_base.specs.Tokens.{escape, quotation_mark}

-- the letters of the simple escapes
abbrev pub is_simple : ℕ → Bool
is_simple c = list_any (λ l. l == c) (codes "\"\\/bfnrt")

-- the character that a backslash and this letter mean
abbrev pub unescaped : ℕ → ℕ
unescaped l = if l == 98 then 8 else (if l == 102 then 12 else
    (if l == 110 then 10 else (if l == 114 then 13 else (if l == 116 then 9 else l))))

-- the letter of the simple escape that byte c is printed as, and 0 for a byte without one
abbrev pub letter_of : ℕ → ℕ
letter_of c = if c == quotation_mark || c == escape then c else (if c == 8 then 98 else (if c == 9 then 116 else
    (if c == 10 then 110 else (if c == 12 then 102 else (if c == 13 then 114 else 0)))))
