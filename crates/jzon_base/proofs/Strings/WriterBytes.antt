-- What a writer holds after several writes.
use Rattle.jzon_base.proofs.Common.{◌≡◌, ℕ, ◌-◌, ◌+◌, List, length, take, drop, arith, Option, Appends, take-add}
use Rattle.jzon_base.proofs.Common.{take_all, length-drop}
use Rattle.std.proofs.KnownBytes.{Appends-trans}

-- a write of n of the bytes after the first i, which are written already
pub Appends-more : (a b c : Option (List ℕ)) (bs : List ℕ) (i n : ℕ) → Appends a b (take i bs)
    → Appends b c (take n (take (length bs - i) (drop i bs))) → Appends a c (take (i + n) bs)
Appends-more a b c bs i n p q =
    let rest : take (length bs - i) (drop i bs) ≡ drop i bs = take_all _ _ (omega (arith, length-drop i bs)) in
    rw take-add (Appends-trans a b c _ _ p (rw rest at q))
