-- Values without NaN that have the same compact text are equal.
use Rattle.std.proofs.Common.{◌≡◌, ◌≤◌, ℕ, ◌+◌, true, IsTrue, sym, ◌∙◌, subst, arith}
use Rattle.std.proofs.lemmas.Bool.{false≢true}
use Rattle.jzon.specs.Value.{Value, nest}
use Rattle.jzon.specs.Text.{compact}
use Rattle.jzon.specs.Same.{same}
use Rattle.jzon.specs.SameLaws.{same_equiv}
use Rattle.jzon.specs.Styles.{compact_style}
use Rattle.jzon.specs.Grammar.{Document}
use Rattle.jzon.specs.Meaning.{meaning}
use Rattle.jzon.specs.Reading.{Reading, usual}
use Rattle.jzon.specs.Laws.{IsReadAs}
use Rattle.jzon.specs.Lawful.{IsValue, HasNoNan}
use Rattle.jzon.proofs.PlainWritings.{Writes-compact}
use Rattle.jzon.proofs.ReadBack.ReadsBack.{read_back}
use Rattle.jzon.proofs.Texts.OneTree.{same_tree}

through : (v w : Value) (x y : Document) → x ≡ y → same (meaning x.node) v ≡ true → same (meaning y.node) w ≡ true
    → same v w ≡ true
through v w x y e a b =
    let c : same (meaning x.node) w ≡ true = subst (λ (d : Document). same (meaning d.node) w ≡ true) (sym e) b in
    sym (same_equiv.congr (meaning x.node) v w a) ∙ c

abbrev deep : ℕ → Reading
deep n = record usual { depth = n }

read : (n : ℕ) (v : Value) → IsValue v → HasNoNan v → nest v ≤ n
    → IsReadAs (deep n) (compact v) (λ d. IsTrue (same d v))
read n v iv nv small =
    read_back (deep n) compact_style 0 v (compact v) (λ strict. absurd (false≢true strict)) iv nv small
    (Writes-compact v iv)

pub one_value : (v w : Value) → IsValue v → IsValue w → HasNoNan v → HasNoNan w → compact v ≡ compact w
    → IsTrue (same v w)
one_value v w iv iw nv nw e =
    let n = nest v + nest w in
    let (ua, x, px, sx) = read n v iv nv (omega arith) in
    let (ub, y, py, sy) =
    subst (λ t. IsReadAs (deep n) t (λ d. IsTrue (same d w))) (sym e) (read n w iw nw (omega arith)) in
    through v w x y (same_tree (deep n) _ x y px.0 py.0) sx sy
