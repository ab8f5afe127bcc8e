-- The styles of the generators.
use Rattle.std.specs.Prelude.{ℕ, Bool, true, false, not, IsTrue, List, [], length, Option, Some, None}
use Rattle.std.specs.Str.{bytes_eq}
use Rattle.jzon_tree.specs.Generator.{insertion}
use Rattle.jzon_tree.specs.Text.{compact_layout, pretty_layout}
use Rattle.jzon_tree.specs.Writing.{Style}

-- whether two forms of the colon are the same
abbrev pub same_form : Bool → Bool → Bool
same_form true b = b
same_form false b = not b

-- exactly one whitespace for each number of open indents, one form of the colon, and the order of insertion
abbrev pub only : (ℕ → List ℕ) → Bool → Style
only line wide = record {
  whitespace = λ dent w. bytes_eq w (line dent);
  colon = λ form. same_form form wide;
  order = λ ks positions. bytes_eq positions (insertion (length ks));
}

-- no whitespace at all
abbrev pub compact_style : Style
compact_style = only compact_layout.line false

-- a newline and `spaces` spaces for each open indent, and a space after each colon
abbrev pub pretty_style : ℕ → Style
pretty_style spaces = only (pretty_layout spaces).line true

-- The style allows no whitespace and a bare colon, or a newline and `spaces` spaces for each open indent and a space
-- after each colon.
abbrev pub LaysOut : Style → Option ℕ → Type 0
LaysOut s None = ((dent : ℕ) → IsTrue (s.whitespace dent [])) × IsTrue (s.colon false)
LaysOut s (Some spaces) =
    ((dent : ℕ) → IsTrue (s.whitespace dent ((pretty_layout spaces).line dent))) × IsTrue (s.colon true)
