-- How texts are read (docs/RULES.md, "Readings").
use Rattle.std.specs.Prelude.{ℕ, Bool, true, false}

-- strict: only the whitespace of RFC 8259 and no repeated key; depth: how many non-empty containers may be open; exact:
-- only numbers whose value no cut or clamp of a digit or an exponent changes
pub record Reading : Type 0 where
  pub strict : Bool
  pub depth : ℕ
  pub exact : Bool

-- the reading of `parse`
abbrev pub usual : Reading
usual = record { strict = false; depth = 512; exact = false }

-- the strict reading of exact numbers
abbrev pub strict_exact : Reading
strict_exact = record { strict = true; depth = 512; exact = true }
