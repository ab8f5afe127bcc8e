use Rattle.jzon_base.proofs.Common.{◌≡◌, ℕ, zero, suc, ◌<◌, Bool, true, false, cond, map, refl, ◌∙◌, arith}
use Rattle.jzon_base.proofs.Common.{range_with_len}
use Rattle.jzon_base.proofs.Strings.ByteTables.{table_at, unmarked}
use Rattle.jzon_base.specs.Escapes.{is_simple, unescaped}
use Rattle.jzon_base.specs.declared.util.escapes.TheConstants.{UNESCAPED}
use Rattle.jzon_base.proofs.util.escapes.meant_by.Goals as goal

-- what a letter of a simple escape means, and 0 for any other byte
abbrev mark : ℕ → ℕ
mark b = cond (is_simple b) (unescaped b) 0

table_is : UNESCAPED ≡ map mark (range_with_len 0 256)
table_is = refl

chosen : (p q r s t : Bool) (n : ℕ) → 0 < n → 0 < cond p 8 (cond q 12 (cond r 10 (cond s 13 (cond t 9 n))))
chosen true q r s t n h = omega arith
chosen false true r s t n h = omega arith
chosen false false true s t n h = omega arith
chosen false false false true t n h = omega arith
chosen false false false false true n h = omega arith
chosen false false false false false n h = h

positive : (b : ℕ) → is_simple b ≡ true → 0 < unescaped b
positive zero h = absurd (cc h)
positive (suc n) h = chosen _ _ _ _ _ (suc n) (omega arith)

pub returns-else-meant-eq0 : goal.returns-else-meant-eq0
returns-else-meant-eq0 c =
    let b = c.args.letter in
    let e = table_at mark 256 UNESCAPED table_is b (omega arith) in
    let reported = unmarked (is_simple b) (unescaped b) 0 (λ same. c.if-meant-eq0.false (e ∙ same)) in
    (reported.0, c.from.ensures ∙ e ∙ reported.1)
