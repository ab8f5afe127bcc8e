use Rattle.jzon_base.proofs.Common.{[], ◌∷◌, refl}
use Rattle.jzon_tree.specs.Generator.{Just}
use Rattle.jzon_tree.specs.Private.Printing.{IsBetween}
use Rattle.jzon_tree.proofs.Printing.Emissions.{Failed-begins, Emits-at_err}
use Rattle.jzon_tree.proofs.codegen.driver.begin_item.Goals as goal

pub returns-in_err-try_write_char-clause-bytes : goal.returns-in_err-try_write_char-clause-bytes
returns-in_err-try_write_char-clause-bytes g c =
    let a = g.G.Generator.meaning c.args.g.now in
    let w = (g.met.G.Generator.style_law c.args.g.now).whitespace a.dent in
    Emits-at_err (IsBetween a.style a.dent c.args.comma) _ _ _ c.from_residual.ensures.0
    (Failed-begins (Just (44 ∷ [])) (IsBetween a.style a.dent c.args.comma) _ _
    (λ x e. (w.0, rw (c.if-comma.true, e) (w.0, w.1, refl))) c.in_err-try_write_char.ensures.bytes)
