-- Tables with a number for each byte, or for the first of them.
use Rattle.jzon_base.proofs.Common.{◌≡◌, ℕ, ◌<◌, List, Bool, true, false, cond, map, get_or, refl, ap, ◌∙◌, arith}
use Rattle.jzon_base.proofs.Common.{IsTrue, range_with_len}
use Rattle.std.proofs.lemmas.List.FromFn.{get_or-map-range_with_len}

-- an entry of the table of a function
pub table_at : (f : ℕ → ℕ) (n : ℕ) (table : List ℕ) → table ≡ map f (range_with_len 0 n) → (b : ℕ) → b < n
    → get_or table b 0 ≡ f b
table_at f n table e b h = ap (λ t. get_or t b 0) e ∙ get_or-map-range_with_len f 0 n b b 0 h (omega arith)

-- an entry equals the sentinel only where the test fails, if no other entry does
pub marked : (test : Bool) (x mark : ℕ) → cond test x mark ≡ mark → (test ≡ true → x ≡ mark → ⊥) → IsTrue test → ⊥
marked true x mark e other h = other refl e
marked false x mark e other h = cc h

-- an entry that isn't the sentinel is one where the test passes
pub unmarked : (test : Bool) (x mark : ℕ) → (cond test x mark ≡ mark → ⊥) → IsTrue test × (cond test x mark ≡ x)
unmarked true x mark h = (refl, refl)
unmarked false x mark h = absurd (h refl)
