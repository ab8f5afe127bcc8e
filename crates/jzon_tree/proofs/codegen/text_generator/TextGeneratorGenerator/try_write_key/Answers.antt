use Rattle.jzon_base.proofs.Common.{◌≡◌, ◌+◌, ◌∷◌, ◌++◌, [], Bool, true, false, ℕ, List, Option, Some, None, take}
use Rattle.jzon_base.proofs.Common.{refl, subst}
use Rattle.std.specs.Prelude.{is_some}
use Rattle.jzon_tree.specs.Generator.{Emitted, Added, Failed, IsPrintedKey, Just}
use Rattle.jzon_tree.specs.Generators.{text_meaning, same_emitted}
use Rattle.jzon_tree.specs.Styles.{LaysOut}
use Rattle.jzon_tree.specs.Text.{quoted}
use Rattle.jzon_tree.specs.Writing.{Style}
use Rattle.jzon_tree.proofs.Printing.Emissions.{Failed-begins, Emits-at_err, Emits-after}
use Rattle.jzon_tree.proofs.Printing.Exits.{key_begins}
use Rattle.jzon_tree.proofs.codegen.text_generator.TextGeneratorGenerator.try_write_key.Goals as goal
use mir.Val.{bool_byte}

-- the colon is of the form that the layout has
laid_key : (s : Style) (o : Option ℕ) (w : Bool) (n : ℕ) (k x y : List ℕ) → w ≡ is_some o → n ≡ bool_byte w
    → LaysOut s o → Just (quoted k) x → Just (take (1 + n) (58 ∷ 32 ∷ [])) y → IsPrintedKey s k (x ++ y)
laid_key s None w n k x y e m laid p q = (false, laid.1, rw (p, q, m, e) refl)
laid_key s (Some j) w n k x y e m laid p q = (true, laid.1, rw (p, q, m, e) refl)

pub returns-in_err-try_write_string-clause-bytes : goal.returns-in_err-try_write_string-clause-bytes
returns-in_err-try_write_string-clause-bytes g c =
    let s = c.args.self.now in
    let k = c.args.key.now in
    let end = text_meaning g.P.Destination.out g.P.Destination.lender g.L.Layout.style c.try_write_string.new.self in
    Emits-at_err _ _ _ _ c.from_residual.ensures.0 (Failed-begins (Just (quoted k)) (IsPrintedKey (g.L.Layout.style s.layout) k)
    _ _ (key_begins (g.L.Layout.style s.layout) k (g.met.L.Layout.style_law s.layout))
    (subst (λ (m : Emitted). Failed (Just (quoted k)) m end)
    (same_emitted (c.put.ensures.left c.if-put.false) c.put.ensures.lender)
    c.in_err-try_write_string.ensures.bytes))

pub returns-clause-bytes : goal.returns-clause-bytes
returns-clause-bytes g c =
    let k = c.args.key.now in
    let style = g.L.Layout.style c.args.self.now.layout in
    let mid = text_meaning g.P.Destination.out g.P.Destination.lender g.L.Layout.style c.try_write_string.new.self in
    Emits-after (Just (quoted k)) (λ _ _. Just (take (1 + c.from.result) (58 ∷ 32 ∷ []))) (IsPrintedKey style k) _ _ _
    (λ x y. laid_key style c.spaces.result _ _ k x y c.is_some-wide.ensures c.from.ensures c.spaces.ensures)
    (subst (λ (m : Emitted). Added (Just (quoted k)) m mid)
    (same_emitted (c.put.ensures.left c.if-put.false) c.put.ensures.lender)
    c.in_ok-try_write_string.ensures.bytes) _ c.try_write.ensures.bytes
