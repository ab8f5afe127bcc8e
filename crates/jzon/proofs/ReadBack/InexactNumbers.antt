-- A number that an exact reading rejects isn't exact as it is read: a dropped digit that isn't 0 makes its mantissa too
-- large, whatever the exponent is, and an exponent that is clamped is another one.
use Rattle.jzon_base.proofs.Common.{◌≡◌, ◌≢◌, ◌⊎◌, ◌∙◌, ℕ, zero, suc, ℤ, pos, negsuc, ◌+ℤ◌, ◌-ℤ◌, ◌+◌, ◌-◌, ◌*◌, ◌^◌, ◌≤◌, ◌<◌}
use Rattle.jzon_base.proofs.Common.{List, [], ◌∷◌, ◌++◌, length, take, drop, get_or, Bool, true, false, ◌&&◌, Option, Some, None}
use Rattle.jzon_base.proofs.Common.{refl, sym, ap, subst, arith, ints, inl, inr, cases_lt, fold, if◌then◌else◌}
use Rattle.jzon_base.proofs.Common.{fold-append, take-append-drop, length-append, pow-add}
use Rattle.jzon_base.proofs.Common.{mul-le-mul_right, one-le-pow}
use Rattle.jzon_base.proofs.Common.{pow-le-pow_right, FitsSigned, w16, slice_get}
use Rattle.std.proofs.lemmas.List.Elements.{All-from_recursion}
use Rattle.jzon_base.specs.Digits.{IsDigit, add_digit, digits_number, kept_len, kept, dropped, kept_fraction, clamp, own_power}
use Rattle.jzon_base.specs.LostDigits.{HoldsOfNone, loses_last, leaves_range}
use Rattle.jzon_base.proofs.Numbers.DigitPrefixes.{kept_len_is_longest}
use Rattle.jzon_base.proofs.Numbers.LostDigits.{lost_so, out_so, prefix_le, one_more}
use Rattle.jzon.specs.Reading.{Reading}
use Rattle.jzon.specs.Grammar.{Sign, unsigned, plus, minus, Exponent, AreDigits, IsWhole}
use Rattle.jzon.specs.Spelling.{Breach, digit, inexact, breach_if, Cell, cell, onto, digits_cells, whole_cells, fraction_cells}
use Rattle.jzon.specs.Spelling.{sign_cells, exponent_cells, magnitude_cells, numeral_cells, whole_breach, fraction_breach, exponent_breach}
use Rattle.jzon.specs.Meaning.{written_exponent, signed_exponent}
use Rattle.jzon.specs.Exact.{AreEqualDecimals, DifferByZeros, IsInexact, InexactNumbers}
use Rattle.jzon.proofs.Texts.Cells.{marks_of}
use Rattle.jzon.proofs.Texts.ClassesOfCharacters.{whole_digits}
use Rattle.jzon.proofs.Numbers.NumberLimits.{AreUnmarked, up_to_next, length-onto, whole_mark, fraction_mark, whole_few}
use Rattle.jzon.proofs.Numbers.NumberLimits.{fraction_few}
use Rattle.jzon.proofs.Numbers.DigitRuns.{AreDigits-append}
use Rattle.jzon.proofs.Numbers.NumeralOffsets.{digit_bounds}
use Rattle.jzon.proofs.ReadBack.PrintedParts.{AllDigits, digits-drop, on_the_way}
use Rattle.jzon.proofs.ReadBack.ExactNumbers.{value_kept, AreClearFrom, clear_from_next, digits_kept, first_below}
use Rattle.jzon.proofs.ReadBack.TrailingZeros.{below_power, tenfold}
use Rattle.jzon.proofs.ReadBack.UnmarkedCells.{no_mark}
use Rattle.std.proofs.Math.Nat.{lt_of_mul-lt-mul_right}

-- ---- multiples of a power of ten

-- of two products with the same factor
less_times : (a b w : ℕ) → a < b → a * w + w ≤ b * w
less_times a b w h = let more = mul-le-mul_right {m = a + 1} {n = b} w (omega (arith, h)) in omega (arith, more)

-- a multiple of w from b times w on, and below the next one
at_multiple : (a b w : ℕ) → b * w ≤ a * w → a * w < b * w + w → a ≡ b
at_multiple a b w low high = omega (
  arith,
  lt_of_mul-lt-mul_right w {m = a} {n = b + 1} (omega (arith, high)),
  lt_of_mul-lt-mul_right w {m = b} {n = a + 1} (omega (arith, low, high)),
)

-- at least as large
times_power : (v n : ℕ) → v ≤ v * 10 ^ n
times_power v n = let more = mul-le-mul_right {m = 1} {n = 10 ^ n} v (one-le-pow n 10 (omega arith)) in omega (arith, more)

no_power : (v n : ℕ) → v ≢ 0 → v ≡ v * 10 ^ n → n ≡ 0
no_power v zero some same = refl
no_power v (suc n) some same = absurd (some (omega (arith, same, tenfold v n, times_power v n)))

-- by so many powers of ten one exponent is above the other
apart : (e f : ℤ) → (k : ℕ) × ((e +ℤ pos k ≡ f) ⊎ (e ≡ f +ℤ pos k))
apart e f = by (f -ℤ e) refl
  where
    by : (d : ℤ) → f -ℤ e ≡ d → (k : ℕ) × ((e +ℤ pos k ≡ f) ⊎ (e ≡ f +ℤ pos k))
    by (pos k) h = (k, inl (omega (arith, ints, h)))
    by (negsuc k) h = (suc k, inr (omega (arith, ints, h)))

-- ---- digits

all_digits : (ds : List ℕ) → AreDigits ds → AllDigits ds
all_digits [] ok = tt
all_digits (d ∷ ds) ok = (digit_bounds d ok.0, all_digits ds ok.1)

-- a number is at least that of its first digits with zeros
from_prefix : (v : ℕ) (ds : List ℕ) → v * 10 ^ length ds ≤ fold add_digit v ds
from_prefix v [] = omega arith
from_prefix v (c ∷ cs) =
    let step = mul-le-mul_right {m = v * 10} {n = add_digit v c} (10 ^ length cs) (omega arith) in
    omega (arith, step, tenfold v (length cs), from_prefix (add_digit v c) cs)

-- ---- a lost digit

-- The digits up to a lost one don't fit, and the last of them isn't 0, so no other mantissa has their value.
module _ (ds : List ℕ) (ok : AllDigits ds) (p : ℕ) (within : p < length ds)
    (lost : loses_last (take (suc p) ds) ≡ true) where
  abbrev start : ℕ
  start = digits_number (take (suc p) ds)

  abbrev others : ℕ
  others = length (drop (suc p) ds)

  too_large : 2 ^ 64 ≤ start
  too_large = (kept_len_is_longest ds).longest (suc p) (omega (arith, (lost_so ds p within lost).0)) (omega (arith, within))

  split : digits_number ds ≡ fold add_digit start (drop (suc p) ds)
  split = ap digits_number (sym (take-append-drop (suc p) ds))
      ∙ fold-append add_digit 0 (take (suc p) ds) (drop (suc p) ds)

  low : start * 10 ^ others ≤ digits_number ds
  low = omega (arith, split, from_prefix start (drop (suc p) ds))

  high : digits_number ds < start * 10 ^ others + 10 ^ others
  high = omega (arith, split, below_power start (drop (suc p) ds) (digits-drop (suc p) ds ok))

  -- with zeros after the number
  none_above : (m k : ℕ) → m < 2 ^ 64 → m ≡ digits_number ds * 10 ^ k → ⊥
  none_above m k fits same = omega (
    arith,
    fits,
    same,
    times_power (digits_number ds) k,
    low,
    times_power start others,
    too_large,
  )

  -- with so many zeros after the mantissa
  none_below : (m j : ℕ) → m < 2 ^ 64 → m * 10 ^ j ≡ digits_number ds → ⊥
  none_below m j fits same = elim (cases_lt others j) [
    | inl many ↦
        (let t : ℕ = j - others - 1 in
        let at : j ≡ suc t + others = omega (arith, many) in
        let powers : m * 10 ^ j ≡ m * (10 ^ suc t * 10 ^ others) =
        ap (λ n. m * 10 ^ n) at ∙ ap (λ w. m * w) (pow-add 10 (suc t) others) in
        let is : m * 10 ^ suc t * 10 ^ others ≡ digits_number ds = omega (arith, powers, same) in
        let top : m * 10 ^ suc t ≡ start =
        at_multiple (m * 10 ^ suc t) start (10 ^ others) (omega (arith, is, low)) (omega (arith, is, high)) in
        let digit : IsDigit (get_or ds p 0) = All-from_recursion IsDigit ds ok p 0 within in
        let some : get_or ds p 0 ≤ 48 → ⊥ = λ less. (lost_so ds p within lost).1 (omega (arith, less, digit)) in
        omega (arith, top, tenfold m t, one_more ds p within, some, digit))
    | inr few ↦
        (let more = mul-le-mul_right {m = 10 ^ j} {n = 10 ^ others} start
        (pow-le-pow_right {n = 10} (omega arith) {i = j} {j = others} few) in
        omega (
          arith,
          less_times m start (10 ^ j) (omega (arith, fits, too_large)),
          more,
          low,
          same,
          one-le-pow j 10 (omega arith),
        ))
  ]

-- no number has the value of these digits and this exponent, except with zeros less or more
abbrev Inexact : List ℕ → List ℕ → ℤ → Type 0
Inexact ws fs x = (positive : Bool) (m : ℕ) (e : ℤ) → m < 2 ^ 64 → FitsSigned w16 e
    → AreEqualDecimals m e (digits_number (ws ++ fs)) (x -ℤ pos (length fs))
    → DifferByZeros m (digits_number (kept (ws ++ fs)))

lost_inexact : (ws fs : List ℕ) (x : ℤ) (p : ℕ) → AreDigits (ws ++ fs) → p < length (ws ++ fs)
    → loses_last (take (suc p) (ws ++ fs)) ≡ true → Inexact ws fs x
lost_inexact ws fs x p ok within lost positive m e fits range exact =
    let ds : List ℕ = ws ++ fs in
    let k = apart e (x -ℤ pos (length fs)) in
    absurd (elim k.1 [
      | inl above ↦
          (let same = exact 0 k.0 (omega (arith, ints, above)) in
          none_above ds (all_digits ds ok) p within lost m k.0 fits (omega (arith, same)))
      | inr below ↦
          (let same = exact k.0 0 (omega (arith, ints, below)) in
          none_below ds (all_digits ds ok) p within lost m k.0 fits (omega (arith, same)))
    ])

-- ---- an exponent that is clamped

-- the dropped digits, all 0, as powers of ten
own_is : (len w f k : ℕ) (e x : ℤ) (j n : ℕ) → len ≡ w + f → k ≤ len
    → e +ℤ pos n ≡ ((pos (w - k) -ℤ pos (k - w)) +ℤ x) +ℤ pos j → e +ℤ pos n ≡ (x -ℤ pos f) +ℤ pos (j + (len - k))
own_is len w f k e x j n size within same = omega (arith, ints, size, within, same)

module _ (ws fs : List ℕ) (s : Sign) (xs : List ℕ) (none : HoldsOfNone loses_last (ws ++ fs)) (few : dropped ws fs < 32768)
    (fewer : kept_fraction ws fs < 32769) (i : ℕ) (within : i < length xs)
    (leaves : leaves_range ws fs (signed_exponent s) (take (suc i) xs) ≡ true) where
  abbrev mantissa : ℕ
  mantissa = digits_number (kept (ws ++ fs))

  abbrev power : ℤ
  power = own_power ws fs +ℤ signed_exponent s (digits_number xs)

  out : (mantissa ≢ 0) × (clamp (own_power ws fs +ℤ signed_exponent s (digits_number (take (suc i) xs)))
      ≡ own_power ws fs +ℤ signed_exponent s (digits_number (take (suc i) xs)) → ⊥)
  out = out_so mantissa (own_power ws fs +ℤ signed_exponent s (digits_number (take (suc i) xs))) leaves

  own_fits : FitsSigned w16 (own_power ws fs)
  own_fits = omega (arith, ints, few, fewer)

  not_power : (e : ℤ) → FitsSigned w16 e → e ≡ power → ⊥
  not_power e range at = out.1 (on_the_way s (own_power ws fs) (digits_number (take (suc i) xs)) (digits_number xs)
      own_fits (subst (λ (z : ℤ). FitsSigned w16 z) at range) (prefix_le xs (suc i) (omega (arith, within))))

  scaled : (m : ℕ) (e : ℤ) (j n : ℕ)
      → AreEqualDecimals m e (digits_number (ws ++ fs)) (signed_exponent s (digits_number xs) -ℤ pos (length fs))
      → e +ℤ pos n ≡ power +ℤ pos j → m * 10 ^ j ≡ mantissa * 10 ^ n
  scaled m e j n exact at =
      let ds : List ℕ = ws ++ fs in
      let d : ℕ = length ds - kept_len ds in
      let all : m * 10 ^ (j + d) ≡ digits_number ds * 10 ^ n =
      exact (j + d) n (own_is (length ds) (length ws) (length fs) (kept_len ds) e (signed_exponent s (digits_number xs)) j n
      (length-append ws fs) (kept_len_is_longest ds).within at) in
      let left : m * 10 ^ (j + d) ≡ m * (10 ^ j * 10 ^ d) = ap (λ w. m * w) (pow-add 10 j d) in
      let right : digits_number ds * 10 ^ n ≡ mantissa * 10 ^ d * 10 ^ n = ap (λ v. v * 10 ^ n) (value_kept ds none) in
      at_multiple (m * 10 ^ j) (mantissa * 10 ^ n) (10 ^ d) (omega (arith, all, left, right))
      (omega (arith, all, left, right, one-le-pow d 10 (omega arith)))

  exponent_inexact : Inexact ws fs (signed_exponent s (digits_number xs))
  exponent_inexact positive m e fits range exact =
      let k = apart e power in
      elim k.1 [
        | inl above ↦
            (let same = scaled m e 0 k.0 exact (omega (arith, ints, above)) in
            let is : m ≡ mantissa * 10 ^ k.0 = omega (arith, same) in (
              λ equal. not_power e range (omega (arith, ints, above, no_power mantissa k.0 out.0 (sym equal ∙ is))),
              k.0,
              inl is,
            ))
        | inr below ↦
            (let same = scaled m e k.0 0 exact (omega (arith, ints, below)) in
            let is : mantissa ≡ m * 10 ^ k.0 = omega (arith, same) in (
              λ equal. not_power e range (omega (
                arith,
                ints,
                below,
                no_power mantissa k.0 out.0
                    (is ∙ ap (λ n. n * 10 ^ k.0) equal),
              )),
              k.0,
              inr is,
            ))
      ]

-- ---- from the cells of a number

-- the first mark is that of an inexact number
abbrev FirstInexact : List Cell → Type 0
FirstInexact [] = ⊥
FirstInexact (x ∷ q) = (x.mark ≡ Some inexact) ⊎ ((x.mark ≡ None) × FirstInexact q)

first_inexact : (q : List Cell) (i : ℕ) → slice_get (marks_of q) i ≡ Some (Some inexact)
    → ((j : ℕ) (b : Breach) → j < i → slice_get (marks_of q) j ≡ Some (Some b) → ⊥) → FirstInexact q
first_inexact [] i here before = cc
first_inexact (x ∷ q) zero here before = inl (cc)
first_inexact (x ∷ q) (suc i) here before = inr (
  no_mark x.mark (λ b e. before 0 b (omega arith) (ap Some e)),
  first_inexact q i here (λ j b below. before (suc j) b (omega (arith, below))),
)

-- it isn't at a character without a mark
past : (c : ℕ) (q : List Cell) → FirstInexact (cell c None ∷ q) → FirstInexact q
past c q (inl here) = absurd (none_some here)
  where
    none_some : {b : Breach} → None ≡ Some b → ⊥
    none_some e = cc
past c q (inr rest) = rest.1

past_sign : (s : Sign) (q : List Cell) → FirstInexact (sign_cells s q) → FirstInexact q
past_sign unsigned q h = h
past_sign plus q h = past 43 q h
past_sign minus q h = past 45 q h

-- it is at one of these digits, or they have no marks
abbrev HasInexact : (List ℕ → Option Breach) → List ℕ → Type 0
HasInexact breach ds = (i : ℕ) × (i < length ds) × (breach (take (suc i) ds) ≡ Some inexact)

digits_first : (breach : List ℕ → Option Breach) (prefix ds : List ℕ) (k : List Cell)
    → FirstInexact (digits_cells breach prefix ds k)
    → HasInexact breach (onto prefix ds) ⊎ (AreClearFrom breach (onto prefix ds) (length prefix) × FirstInexact k)
digits_first breach prefix [] k h =
    inr (λ i above within. absurd (omega (arith, above, within, length-onto prefix [])), h)
digits_first breach prefix (d ∷ ds) k (inl here) = inl (
  length prefix,
  omega (arith, length-onto prefix (d ∷ ds)),
  ap breach (sym (up_to_next prefix d ds)) ∙ here,
)
digits_first breach prefix (d ∷ ds) k (inr rest) = elim (digits_first breach (d ∷ prefix) ds k rest.1) [
  | inl found ↦ inl found
  | inr after ↦ inr (clear_from_next breach prefix d ds rest.0 after.0, after.1)
]

marked_so : (t b v : Bool) → (if t then Some digit else breach_if (b && v) inexact) ≡ Some inexact
    → (b ≡ true) × (v ≡ true)
marked_so true b v e = absurd (cc)
marked_so false true true e = (refl, refl)
marked_so false true false e = absurd (cc)
marked_so false false v e = absurd (cc)

fraction_digits : (r : Reading) (ws fs : List ℕ) (k : List Cell) → FirstInexact (fraction_cells r ws fs k)
    → HasInexact (fraction_breach r ws) fs ⊎ (AreUnmarked (fraction_breach r ws) fs × FirstInexact k)
fraction_digits r ws [] k h = inr (λ i within. absurd (omega (arith, within)), h)
fraction_digits r ws (c ∷ cs) k h =
    let digits : List Cell = digits_cells (fraction_breach r ws) [] (c ∷ cs) k in
    elim (digits_first (fraction_breach r ws) [] (c ∷ cs) k (past 46 digits h)) [
      | inl found ↦ inl found
      | inr clear ↦ inr (λ i within. clear.0 i (omega arith) within, clear.1)
    ]

module _ (r : Reading) (d : ℕ) (es : List ℕ) (ok : IsWhole (d ∷ es)) (fs : List ℕ) (fs_ok : AreDigits fs) where
  abbrev ws : List ℕ
  ws = d ∷ es

  exponent_first : (x : Option Exponent) → AreClearFrom (whole_breach r) ws 1 → AreUnmarked (fraction_breach r ws) fs
      → FirstInexact (exponent_cells r ws fs x []) → Inexact ws fs (written_exponent x)
  exponent_first None whole fraction h = absurd h
  exponent_first (Some x) whole fraction h = elim (digits_first (exponent_breach r ws fs x.sign) [] x.digits []
      (past_sign x.sign _ (past x.letter _ h))) [
        | inl found ↦
            (let mark = marked_so false r.exact _ found.2 in
            exponent_inexact ws fs x.sign x.digits (digits_kept r mark.0 d es fs (first_below d es ok) whole fraction)
            (whole_few r ws fs whole) (fraction_few r ws fs fraction) found.0 found.1 mark.1)
        | inr after ↦ absurd after.1
      ]

  digits_ok : AreDigits (ws ++ fs)
  digits_ok = AreDigits-append ws fs (whole_digits ws ok) fs_ok

  fraction_first : (x : Option Exponent) → AreClearFrom (whole_breach r) ws 1
      → HasInexact (fraction_breach r ws) fs ⊎ (AreUnmarked (fraction_breach r ws) fs × FirstInexact (exponent_cells r ws fs x []))
      → Inexact ws fs (written_exponent x)
  fraction_first x whole (inl found) =
      lost_inexact ws fs (written_exponent x) (length ws + found.0) digits_ok
      (omega (arith, found.1, length-append ws fs))
      (marked_so _ r.exact _ (sym (fraction_mark r ws fs found.0 found.1) ∙ found.2)).1
  fraction_first x whole (inr rest) = exponent_first x whole rest.0 rest.1

magnitude_first : (r : Reading) (ws fs : List ℕ) (x : Option Exponent) → IsWhole ws → AreDigits fs
    → FirstInexact (whole_cells r ws None (fraction_cells r ws fs (exponent_cells r ws fs x [])))
    → Inexact ws fs (written_exponent x)
magnitude_first r [] fs x ok fs_ok h = absurd ok
magnitude_first r (d ∷ es) fs x ok fs_ok h =
    elim (digits_first (whole_breach r) (d ∷ []) es (fraction_cells r (d ∷ es) fs (exponent_cells r (d ∷ es) fs x []))
    (past d _ h)) [
      | inl found ↦
          (let mark = sym (whole_mark r (d ∷ es) fs found.0 found.1) ∙ found.2 in
          lost_inexact (d ∷ es) fs (written_exponent x) found.0 (digits_ok r d es ok fs fs_ok)
          (omega (arith, found.1, length-append (d ∷ es) fs)) (marked_so _ r.exact _ mark).1)
      | inr rest ↦ fraction_first r d es ok fs fs_ok x rest.0
          (fraction_digits r (d ∷ es) fs (exponent_cells r (d ∷ es) fs x []) rest.1)
    ]

pub inexact_numbers : InexactNumbers
inexact_numbers r n i ok here before = by_sign n.negative (first_inexact (numeral_cells r n None []) i here before)
  where
    by_sign : (b : Bool) → FirstInexact (if b then cell 45 None ∷ magnitude_cells r n None [] else magnitude_cells r n None [])
        → IsInexact n
    by_sign true h = magnitude_first r n.whole n.fraction n.exponent ok.0 ok.1 (past 45 _ h)
    by_sign false h = magnitude_first r n.whole n.fraction n.exponent ok.0 ok.1 h
