use Rattle.std.proofs.Common.{◌≤◌, ℕ, List, Some, chars, length, sym, ap, ◌∙◌, subst, arith}
use Rattle.std.proofs.lemmas.Iterator.{YieldsList-from_chars}
use Rattle.std.proofs.lemmas.Iterator.Consumers.{count_from_yields_List}
use Rattle.jzon_pointer.proofs.error.found.found_text.Goals as goal

pub returns-then-count-gt-LONGEST-clause-found : goal.returns-then-count-gt-LONGEST-clause-found
returns-then-count-gt-LONGEST-clause-found c = λ v is.
    let count = count_from_yields_List _ _ c.count-count.ensures.ran (YieldsList-from_chars c.args.text.now c.utf8.text cc) in
    rw is (count, omega (arith, c.if-count-gt-LONGEST.true))

pub returns-clause-found : goal.returns-clause-found
returns-clause-found c = λ v is.
    let count = count_from_yields_List _ _ c.count-count.ensures.ran (YieldsList-from_chars c.args.text.now c.utf8.text cc) in
    let few : length (chars c.args.text.now) ≤ 40 = omega (arith, count, c.if-count-gt-LONGEST.false) in
    let same = c.in_ok-from_str.ensures.ok in
    (is ∙ ap (λ (s : List ℕ). Some s) (sym same), subst (λ (s : List ℕ). length (chars s) ≤ 40) (sym same) few)
