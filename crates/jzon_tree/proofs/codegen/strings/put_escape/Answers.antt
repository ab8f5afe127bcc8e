use Rattle.jzon_base.proofs.Common.{◌∷◌, [], ap, sym, ◌∙◌, nat_lt, cond-true, lt-ltb}
use Rattle.jzon_base.specs.Escapes.{letter_of}
use Rattle.jzon_tree.proofs.codegen.strings.put_escape.Goals as goal

pub returns-in-Some-clause-text : goal.returns-in-Some-clause-text
returns-in-Some-clause-text c =
    let l = c.in-Some.ensures.letter in
    let byte = c.args.byte in
    ap (λ l. 92 ∷ l ∷ []) l.1 ∙ sym (cond-true (nat_lt 0 (letter_of byte)) _ _ (lt-ltb 0 (letter_of byte) l.0))
