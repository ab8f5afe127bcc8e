use Rattle.jzon_base.proofs.Common.{◌≡◌, ◌∙◌, ◌∷◌, ◌++◌, [], List, ℕ, take, drop, refl, sym, ap, append_assoc, arith}
use Rattle.jzon_base.proofs.Common.{prefix_len, prefix_len-le-length}
use Rattle.jzon_base.specs.Private.PlainBytes.{is_plain}
use Rattle.jzon_tree.specs.Generator.{Just}
use Rattle.jzon_tree.specs.Text.{escaped, quoted}
use Rattle.jzon_tree.proofs.Printing.Emissions.{Failed-begins, Emits-at_err, Emits-after}
use Rattle.jzon_tree.proofs.Printing.PlainRuns.{escaped-run}
use Rattle.jzon_tree.proofs.codegen.generator.Generator.write_string.Goals as goal

pub returns-in_err-write_char : goal.returns-in_err-write_char
returns-in_err-write_char g c =
    let s = c.args.string.now in
    Emits-at_err _ _ _ _ c.from_residual.ensures.0
    (Failed-begins (Just (34 ∷ [])) (Just (quoted s)) _ _ (λ x e. (escaped s ++ 34 ∷ [], rw e refl))
    c.in_err-write_char.ensures)

pub write_string_complex-requires : goal.write_string_complex-requires
write_string_complex-requires g c =
    rw (c.plain_len.ensures, c.as_bytes.ensures.value) (prefix_len-le-length is_plain c.args.string.now)

-- the quote, the plain prefix, and the rest
parts : (s : List ℕ) (n : ℕ) → n ≡ prefix_len is_plain s
    → 34 ∷ (take n s ++ (escaped (drop n s) ++ 34 ∷ [])) ≡ quoted s
parts s n e = ap (λ (w : List ℕ). 34 ∷ w) (sym (append_assoc (take n s) (escaped (drop n s)) (34 ∷ []))
    ∙ ap (λ (w : List ℕ). w ++ 34 ∷ []) (sym (escaped-run s n (omega (arith, e)))))

pub returns : goal.returns
returns g c =
    let s = c.args.string.now in
    let n = c.plain_len.result in
    Emits-after (Just (34 ∷ [])) (λ t d. Just (take n s ++ (escaped (drop n s) ++ 34 ∷ []))) (Just (quoted s)) _ _ _
    (λ x y p q. rw (p, q) (parts s n (rw c.as_bytes.ensures.value at c.plain_len.ensures)))
    c.in_ok-write_char.ensures _ c.write_string_complex.ensures
