-- What is shown of a text, a character at a time.
use Rattle.std.proofs.Common.{◌≡◌, ◌<◌, ◌+◌, ◌-◌, ◌^◌, min, ℕ, suc, length, List, [], ◌∷◌, ◌++◌, ◌||◌, ◌==◌, nat_lt, nat_le}
use Rattle.std.proofs.Common.{codes, if◌then◌else◌, sym, ap, ◌∙◌, arith, append_assoc}
use Rattle.std.proofs.lemmas.Bool.Decides.{nat_tests}
use Rattle.std.proofs.lemmas.List.{append-nil}
use Rattle.jzon_pointer.specs.Shown.{piece, pieces, shown_char}

pieces_more : (front last : ℕ) (cs : List ℕ) (i n c : ℕ) → n ≡ i + length cs
    → pieces front last i (cs ++ c ∷ []) ≡ pieces front last i cs ++ piece front last n c
pieces_more front last [] i n c e =
    let same : i ≡ n = omega (arith, e) in
    append-nil (piece front last i c) ∙ ap (λ m. piece front last m c) same
pieces_more front last (d ∷ cs) i n c e =
    ap (λ ds. piece front last i d ++ ds) (pieces_more front last cs (suc i) n c (omega (arith, e)))
    ∙ sym (append_assoc (piece front last i d) (pieces front last (suc i) cs) (piece front last n c))

-- a position that is counted up to a bound above `front`
same-front : (at n front : ℕ) → at ≡ min n (2 ^ 64 - 1) → front < 1000 → nat_lt at front ≡ nat_lt n front
same-front at n front is small = grind (arith, nat_tests)

same-last : (at n last : ℕ) → at ≡ min n (2 ^ 64 - 1) → last < 2 ^ 64 → nat_le last at ≡ nat_le last n
same-last at n last is small = grind (arith, nat_tests)

same-first : (at n front : ℕ) → at ≡ min n (2 ^ 64 - 1) → front < 1000 → (at == front) ≡ (n == front)
same-first at n front is small = grind (arith, nat_tests)

same-piece : (front last at n c : ℕ) → at ≡ min n (2 ^ 64 - 1) → front < 1000 → last < 2 ^ 64
    → piece front last at c ≡ piece front last n c
same-piece front last at n c is small fits =
    ap (λ b. if b || nat_le last at then shown_char c else (if at == front then codes ".." else []))
    (same-front at n front is small)
    ∙ ap (λ b. if nat_lt n front || b then shown_char c else (if at == front then codes ".." else []))
    (same-last at n last is fits)
    ∙ ap (λ b. if nat_lt n front || nat_le last n then shown_char c else (if b then codes ".." else []))
    (same-first at n front is small)

pub pieces-next : (front last at c : ℕ) (cs : List ℕ) → at ≡ min (length cs) (2 ^ 64 - 1) → front < 1000
    → last < 2 ^ 64
    → pieces front last 0 cs ++ piece front last at c ≡ pieces front last 0 (cs ++ c ∷ [])
pieces-next front last at c cs is small fits =
    ap (λ p. pieces front last 0 cs ++ p) (same-piece front last at (length cs) c is small fits)
    ∙ sym (pieces_more front last cs 0 (length cs) c (omega arith))
