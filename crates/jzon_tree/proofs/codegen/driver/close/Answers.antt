use Rattle.jzon_base.proofs.Common.{[], ◌∷◌, ◌++◌, ap, refl}
use Rattle.jzon_tree.specs.Generator.{Just}
use Rattle.jzon_tree.specs.Private.Printing.{IsClosing}
use Rattle.jzon_tree.specs.Writing.{IsAllowedWhitespace}
use Rattle.jzon_tree.proofs.Printing.Emissions.{Failed-begins, Emits-at_err, Emits-after}
use Rattle.jzon_tree.proofs.codegen.driver.close.Goals as goal

pub returns-in_err-try_new_line-clause-bytes : goal.returns-in_err-try_new_line-clause-bytes
returns-in_err-try_new_line-clause-bytes g c =
    let a = g.G.Generator.meaning c.dedent.new.self in
    Emits-at_err _ _ _ _ c.from_residual.ensures.0
    (rw c.dedent.ensures at (Failed-begins (IsAllowedWhitespace a.style a.dent)
    (IsClosing a.style a.dent c.args.bracket) a _
    (λ x b. (c.args.bracket ∷ [], (x, b, refl))) c.in_err-try_new_line.ensures.bytes))

pub returns-clause-bytes : goal.returns-clause-bytes
returns-clause-bytes g c =
    let a = g.G.Generator.meaning c.dedent.new.self in
    rw c.dedent.ensures at (Emits-after (IsAllowedWhitespace a.style a.dent) (λ _ _. Just (c.args.bracket ∷ []))
    (IsClosing a.style a.dent c.args.bracket) a _ _ (λ x y b e. (x, b, ap (λ w. x ++ w) e)) c.in_ok-try_new_line.ensures.bytes
    _ c.try_write_char.ensures.bytes)
