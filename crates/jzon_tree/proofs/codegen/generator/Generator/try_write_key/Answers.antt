use Rattle.jzon_base.proofs.Common.{[], ◌∷◌}
use Rattle.jzon_tree.specs.Generator.{Just, IsForm, IsPrintedKey}
use Rattle.jzon_tree.specs.Text.{quoted}
use Rattle.jzon_tree.proofs.Printing.Emissions.{Failed-begins, Emits-at_err, Emits-after, Emits-stored}
use Rattle.jzon_tree.proofs.Printing.Exits.{key_colon, key_begins}
use Rattle.jzon_tree.proofs.codegen.generator.Generator.try_write_key.Goals as goal

pub returns-in_err-try_write_string-clause-bytes : goal.returns-in_err-try_write_string-clause-bytes
returns-in_err-try_write_string-clause-bytes g c =
    let s = (g.Self.Generator.meaning c.args.self.now).style in
    let k = c.args.key.now in
    Emits-at_err _ _ _ _ c.from_residual.ensures.0
    (Failed-begins (Just (quoted k)) (IsPrintedKey s k) _ _
    (key_begins s k (g.met.Self.Generator.style_law c.args.self.now)) c.in_err-try_write_string.ensures.bytes)

pub returns-clause-bytes : goal.returns-clause-bytes
returns-clause-bytes g c =
    let a = g.Self.Generator.meaning c.args.self.now in
    let k = c.args.key.now in
    Emits-after (Just (quoted k)) (λ s d. IsForm s (58 ∷ 32 ∷ []) 58) (IsPrintedKey a.style k) a _ _ (key_colon a.style k)
    c.in_ok-try_write_string.ensures.bytes _ (Emits-stored _ _ _ _ _ c.store.ensures.answer c.write_min.ensures)
