-- What is read of a number without a sign is the integer that it is; of its opposite, the opposite integer.
use Rattle.std.proofs.Common.{◌≡◌, ℕ, ◌^◌, ◌<◌, pos, neg_ℤ, ◌+ℤ◌, Bool, true, false, None, Some, if◌then◌else◌, sym, ap}
use Rattle.std.proofs.lemmas.Bool.{false≢true}
use Rattle.jzon.specs.Decimal.{Decimal, nan, parts, negated, is_whole, whole_part, exact_fixed_point, exact_unsigned_fixed_point, SomeWhere}

plain : (b : Bool) (x n : ℕ) → SomeWhere (if b then Some x else None) (λ k. k < 2 ^ 64) (Some n)
    → (if b then Some (pos x) else None) ≡ Some (pos n)
plain true x n h = ap (λ (k : ℕ). Some (pos k)) (sym h.1)
plain false x n h = absurd (false≢true (sym h))

opposite : (b : Bool) (x n : ℕ) → SomeWhere (if b then Some x else None) (λ k. k < 2 ^ 64) (Some n)
    → (if b then Some (neg_ℤ (pos x)) else None) ≡ Some (neg_ℤ (pos n))
opposite true x n h = ap (λ (k : ℕ). Some (neg_ℤ (pos k))) (sym h.1)
opposite false x n h = absurd (false≢true (sym h))

none : (b : Bool) (n : ℕ) → SomeWhere (if b then None else None) (λ k. k < 2 ^ 64) (Some n) → ⊥
none true n h = false≢true (sym h)
none false n h = false≢true (sym h)

pub unsigned_whole : (d : Decimal) (n : ℕ) → SomeWhere (exact_unsigned_fixed_point d 0) (λ k. k < 2 ^ 64) (Some n)
    → exact_fixed_point d 0 ≡ Some (pos n)
unsigned_whole nan n h = absurd (false≢true (sym h))
unsigned_whole (parts true m e) n h = plain (is_whole m (e +ℤ pos 0)) (whole_part m (e +ℤ pos 0)) n h
unsigned_whole (parts false m e) n h = absurd (none (is_whole m (e +ℤ pos 0)) n h)

pub opposite_whole : (d : Decimal) (n : ℕ)
    → SomeWhere (exact_unsigned_fixed_point (negated d) 0) (λ k. k < 2 ^ 64) (Some n)
    → exact_fixed_point d 0 ≡ Some (neg_ℤ (pos n))
opposite_whole nan n h = absurd (false≢true (sym h))
opposite_whole (parts true m e) n h = absurd (none (is_whole m (e +ℤ pos 0)) n h)
opposite_whole (parts false m e) n h = opposite (is_whole m (e +ℤ pos 0)) (whole_part m (e +ℤ pos 0)) n h
