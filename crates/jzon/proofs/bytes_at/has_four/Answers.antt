use Rattle.jzon_base.proofs.Common.{rules, ◌≡◌, ◌<◌, ◌+◌, ◌∷◌, [], List, ℕ, zero, suc, sym, ap, ◌∙◌, get_or, drop, take}
use Rattle.jzon_base.proofs.Common.{eqb, eqb-true, w32, ◌-◌, length, arith, lit<, add-zero, IsTrue, get_or-drop}
use Rattle.jzon_base.proofs.Common.{take_rest}
use Rattle.std.specs.Int.{to_le_bytes}
use Rattle.std.proofs.lemmas.Nat.{le_bytes_4}
use Rattle.jzon.proofs.bytes_at.has_four.Goals.{After-from_le_bytes-in-len4-up}
use Rattle.jzon.proofs.bytes_at.has_four.Goals as goal

four_fit : (a b c d : ℕ) → a < 256 → b < 256 → c < 256 → d < 256 → (i : ℕ) → get_or (a ∷ b ∷ c ∷ d ∷ []) i 0 < 256
four_fit a b c d p q r s zero = p
four_fit a b c d p q r s (suc zero) = q
four_fit a b c d p q r s (suc (suc zero)) = r
four_fit a b c d p q r s (suc (suc (suc zero))) = s
four_fit a b c d p q r s (suc (suc (suc (suc i)))) = lit< tt

-- the bytes from the index on
abbrev rest : After-from_le_bytes-in-len4-up → List ℕ
rest c = take (length c.as_bytes.result.now - c.args.index) (drop c.args.index c.as_bytes.result.now)

read : (c : After-from_le_bytes-in-len4-up) (k : ℕ) → get_or (rest c) k 0
    ≡ get_or c.args.source.now (c.args.index + k) 0
read c k = ap (λ s. get_or s k 0) (take_rest c.as_bytes.result.now c.args.index)
    ∙ get_or-drop c.args.index c.as_bytes.result.now k 0
    ∙ ap (λ s. get_or s (c.args.index + k) 0) c.as_bytes.ensures.value

-- the four bytes are those that they are compared with
equal : (c : After-from_le_bytes-in-len4-up) → IsTrue (eqb c.from_le_bytes.result c.from_le_bytes-in-len4-up.result)
    → get_or (rest c) 0 0 ∷ get_or (rest c) 1 0 ∷ get_or (rest c) 2 0 ∷ get_or (rest c) 3 0 ∷ [] ≡ c.args.four
equal c same =
    let small : (k : ℕ) → get_or (rest c) k 0 < 256 = λ k.
    let e = read c k in let f = c.type_inv.source (c.args.index + k) in
    omega (arith, e, f.fits) in
    let wanted = le_bytes_4 c.args.four c.from_le_bytes-in-len4-up.result (search rules) (search rules)
    c.from_le_bytes-in-len4-up.ensures in
    let here = le_bytes_4 _ c.from_le_bytes.result (omega arith)
    (four_fit (get_or (rest c) 0 0) (get_or (rest c) 1 0) (get_or (rest c) 2 0) (get_or (rest c) 3 0) (small 0)
    (small 1) (small 2) (small 3)) c.from_le_bytes.ensures in
    sym here ∙ ap (to_le_bytes w32) (eqb-true _ _ same) ∙ wanted

pub returns-in-len4-up-clause-first : goal.returns-in-len4-up-clause-first
returns-in-len4-up-clause-first c same =
    ap (λ i. get_or c.args.source.now i 0) (sym (add-zero c.args.index)) ∙ sym (read c 0)
    ∙ ap (λ l. get_or l 0 0) (equal c same)

pub returns-in-len4-up-clause-second : goal.returns-in-len4-up-clause-second
returns-in-len4-up-clause-second c same = sym (read c 1) ∙ ap (λ l. get_or l 1 0) (equal c same)

pub returns-in-len4-up-clause-third : goal.returns-in-len4-up-clause-third
returns-in-len4-up-clause-third c same = sym (read c 2) ∙ ap (λ l. get_or l 2 0) (equal c same)

pub returns-in-len4-up-clause-fourth : goal.returns-in-len4-up-clause-fourth
returns-in-len4-up-clause-fourth c same = sym (read c 3) ∙ ap (λ l. get_or l 3 0) (equal c same)
