-- What `{}` shows of a value (docs/RULES.md, "Layouts").
use Rattle.std.specs.Prelude.{ℕ, List, [], ◌∷◌, ◌++◌, Bool, if◌then◌else◌}
use Rattle.jzon_base.specs.NumberText.{decimal_text}
use Rattle.jzon_base.specs.Tokens.{name_separator, value_separator}
use Rattle.jzon_tree.specs.Text.{compact, quoted}
use Rattle.jzon_tree.specs.Value.{Value, text, number}

-- a string without quotes, a number as its own `Display`, every other value in the compact layout
abbrev pub displayed : Value → List ℕ
displayed (text k s) = s
displayed (number n) = decimal_text n
displayed v = compact v

-- what precedes an element or entry: a comma, but nothing for the first one
abbrev pub comma_text : Bool → List ℕ
comma_text comma = if comma then value_separator ∷ [] else []

-- an entry in the compact layout
abbrev pub member_text : List ℕ × Value → List ℕ
member_text p = quoted p.0 ++ name_separator ∷ compact p.1
