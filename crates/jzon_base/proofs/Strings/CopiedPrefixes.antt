-- A text with which a longer one begins, cut off after the bytes that were copied.
use Rattle.jzon_base.proofs.Common.{◌≡◌, ◌∙◌, ℕ, ◌≤◌, List, length, take, arith, IsUtf8-take, IsUtf8, IsCharBoundary}
use Rattle.std.proofs.Common.{length-take-le, take-take}
use Rattle.std.proofs.lemmas.Str.{IsCharBoundary-from_take}
use Rattle.std.specs.String.Boundary.{IsSplitPoint}

pub splits_front : (wide text : List ℕ) (m : ℕ) → IsUtf8 wide → IsUtf8 text → IsCharBoundary wide m → length text ≤ m
    → take (length text) wide ≡ text → IsSplitPoint (take m wide) (length text)
splits_front wide text m wide_ok text_ok cut short front =
    let long : length (take m wide) ≡ m = length-take-le m wide cut.0 in
    let same : take (length text) (take m wide) ≡ text = take-take (length text) m wide short ∙ front in
    let at : IsCharBoundary (take m wide) (length text) =
    IsCharBoundary-from_take (take m wide) (length text) (IsUtf8-take wide m wide_ok cut) (omega (arith, long, short)) (rw same text_ok) in
    (at.0, λ _ lt. at.1 lt)
