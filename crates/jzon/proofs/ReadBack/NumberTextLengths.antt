-- The length of the text of a number.
use Rattle.jzon_base.proofs.Common.{◌≡◌, ℕ, ℤ, pos, negsuc, ◌+◌, ◌-◌, ◌^◌, ◌≤◌, ◌<◌, ◌==◌, List, [], length}
use Rattle.jzon_base.proofs.Common.{Bool, true, false, refl, arith, decimal, codes, nat_le, nat_lt}
use Rattle.jzon_base.proofs.Common.{if◌then◌else◌, FitsSigned, length-append, length-replicate, w16, length-decimal-le}
use Rattle.jzon_base.proofs.Common.{leb-true}
use Rattle.std.proofs.Common.{length-take, length-drop}
use Rattle.std.proofs.lemmas.Bool.{ltb-false}
use Rattle.jzon_base.specs.NumberText.{sign_text, point_after, point_after_first, fraction_text, small_exponent_text}
use Rattle.jzon_base.specs.NumberText.{magnitude_text, number_text}

length-if : (b : Bool) (xs ys : List ℕ) (n : ℕ) → (b ≡ true → length xs ≤ n) → (b ≡ false → length ys ≤ n)
    → length (if b then xs else ys) ≤ n
length-if true xs ys n p q = p refl
length-if false xs ys n p q = q refl

length-point : (k : ℕ) (ds : List ℕ) → length (point_after k ds) ≤ length ds + 1
length-point k ds = simp (length-append, length-take, length-drop) (omega arith)

length-first : (ds : List ℕ) → length (point_after_first ds) ≤ length ds + 1
length-first ds = search (arith, length-if, length-point)

length-fraction : (ds : List ℕ) (k : ℕ) → length ds ≤ 20 → k ≤ 17 → length (fraction_text ds k) ≤ 28
length-fraction ds k few near =
    length-if (nat_lt k (length ds)) _ _ 28 (λ t. omega (arith, length-point (length ds - k) ds))
    (λ f. simp (length-append, length-replicate) (omega (arith, ltb-false k (length ds) f)))

length-small : (d k : ℕ) → k ≤ 32768 → length (small_exponent_text d k) ≤ 7
length-small d k near =
    let short = length-decimal-le 5 (k + 1 - d) (omega arith) (omega arith) (omega arith) in
    length-if (d == k + 1) [] _ 7 (λ _. omega arith) (λ _. length-if (d == k + 2) (codes "e+1") _ 7 (λ _. omega arith)
    (λ _. omega (arith, length-append (codes "e-") (decimal (k + 1 - d)), short)))

pub length-magnitude : (ds : List ℕ) (e : ℤ) → length ds ≤ 20 → FitsSigned w16 e → length (magnitude_text ds e) ≤ 28
length-magnitude ds (pos k) few fits =
    let short = length-decimal-le 5 (k + length ds - 1) (omega arith) (omega (arith, fits.sfits))
    (omega (arith, fits.sfits)) in
    length-if (k == 0) ds _ 28 (λ _. omega arith) (λ _. length-if (nat_le (length ds + k) 20) _ _ 28
    (λ t. simp (length-append, length-replicate) (omega (arith, leb-true (length ds + k) 20 t)))
    (λ _. simp length-append (omega (arith, length-first ds, short))))
length-magnitude ds (negsuc k) few fits =
    length-if (nat_le (k + 1) 17) _ _ 28 (λ t. length-fraction ds (k + 1) few (leb-true (k + 1) 17 t))
    (λ _. simp length-append
    (omega (arith, length-first ds, length-small (length ds) (k + 1) (omega (arith, fits.sfits)))))

pub length-number : (s : Bool) (m : ℕ) (e : ℤ) → m < 2 ^ 64 → FitsSigned w16 e → length (number_text s m e) ≤ 29
length-number s m e h fits =
    let few : length (decimal m) ≤ 20 = length-decimal-le 20 m (omega arith) (omega arith) h in
    let size : length (if m == 0 then codes "0" else magnitude_text (decimal m) e) ≤ 28 =
    search (arith, length-if, length-magnitude) in
    let sign : length (sign_text s) ≤ 1 = length-if s [] (codes "-") 1 (λ _. omega arith) (λ _. omega arith) in
    simp length-append (omega (arith, size, sign))
