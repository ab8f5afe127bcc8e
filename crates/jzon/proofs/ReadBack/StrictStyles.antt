-- The styles of the four generators allow only whitespace of a strict reading.
use Rattle.jzon_base.proofs.Common.{◌≡◌, ℕ, ◌*◌, List, [], true, refl, sym, subst, IsTrue, bytes_eq, bytes_eq-Decides}
use Rattle.jzon_tree.specs.StyleLaws.{spaces_are_whitespace}
use Rattle.jzon_tree.specs.Text.{pretty_layout}
use Rattle.jzon_tree.specs.Writing.{is_all_whitespace}
use Rattle.jzon.specs.Laws.{StrictStyles}

-- a style with one whitespace for each indent, which is strict whitespace
one_line : (line w : List ℕ) → IsTrue (is_all_whitespace true line) → bytes_eq w line ≡ true
    → IsTrue (is_all_whitespace true w)
one_line line w h e = subst (λ b. IsTrue (is_all_whitespace true b)) (sym ((bytes_eq-Decides w line).0 e)) h

pub strict_styles : StrictStyles
strict_styles = (
  λ dent w h. one_line [] w refl h.1,
  λ spaces dent w h. one_line ((pretty_layout spaces).line dent) w (spaces_are_whitespace true (dent * spaces)) h.1,
)
