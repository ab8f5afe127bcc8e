-- What an exact reading reads of a number is all that its digits spell: no digit but 0 is dropped, and the exponent isn't
-- clamped, so the value is the same.
use Rattle.jzon_base.proofs.Common.{◌≡◌, ◌∙◌, ℕ, zero, suc, ℤ, pos, ◌+ℤ◌, ◌-ℤ◌, ◌+◌, ◌-◌, ◌*◌, ◌^◌, ◌≤◌, ◌<◌, List, []}
use Rattle.jzon_base.proofs.Common.{◌∷◌, ◌++◌, length, take, drop, get_or, Bool, true, false, Option}
use Rattle.jzon_base.proofs.Common.{Some, None, refl, sym, ap, subst, arith, ints, clamps, inl, inr, cases_lt, cases_eq, fold}
use Rattle.jzon_base.proofs.Common.{fold-append, take-append-drop, length-append, length-drop, pow-add}
use Rattle.jzon_base.proofs.Common.{get_or-drop, if◌then◌else◌}
use Rattle.jzon_base.specs.Digits.{add_digit, digits_number, kept_len, kept, dropped, kept_fraction, own_power}
use Rattle.jzon_base.specs.LostDigits.{HoldsOfNone, loses_last, is_out_of_range}
use Rattle.jzon_base.proofs.Numbers.DigitPrefixes.{kept_len_is_longest}
use Rattle.jzon_base.proofs.Numbers.LostDigits.{held_if, held_so, in_range_if, fits_if_in_range}
use Rattle.jzon.specs.Reading.{Reading}
use Rattle.jzon.specs.Grammar.{Exponent, Numeral, Node, Elements, no_elements, element, Members, no_members}
use Rattle.jzon.specs.Grammar.{member, IsNode, AreElements, AreMembers, IsNumeral, IsWhole, IsExponent, IsDigits}
use Rattle.jzon.specs.Spelling.{Breach, Cell, cell, plain, onto, digits_cells, whole_cells, fraction_cells, exponent_cells}
use Rattle.jzon.specs.Spelling.{magnitude_cells, whole_breach, fraction_breach, exponent_breach, deep_if}
use Rattle.jzon.specs.Spelling.{node_cells, elements_cells, members_cells, cells}
use Rattle.jzon.specs.Meaning.{number_of, written_exponent, bytes_of}
use Rattle.jzon.specs.Exact.{AreEqualDecimals, IsExact, AllNumerals, AllInElements, AllInMembers, ExactNumbers}
use Rattle.jzon.proofs.Numbers.NumberLimits.{AreUnmarked, up_to_next, length-onto, whole_keeps, fraction_keeps}
use Rattle.jzon.proofs.Numbers.NumberLimits.{exponent_keeps, whole_few, fraction_few}
use Rattle.jzon.proofs.Numbers.NumeralOutcomes.{first_kept}
use Rattle.jzon.proofs.ReadBack.UnmarkedCells.{HaveNoMarks, unmarked, plain_rest, sign_rest, key_first}
use Rattle.jzon.proofs.ReadBack.MeaningHeld.{node_held}
use Rattle.jzon.proofs.Texts.ClassesOfCharacters.{digit_below, whole_digits}
use Rattle.jzon.proofs.ReadBack.TrailingZeros.{ten_more}

-- ---- the value of digits of which only zeros are dropped

zeros_after : (v : ℕ) (xs : List ℕ) → ((i : ℕ) → i < length xs → get_or xs i 0 ≡ 48)
    → fold add_digit v xs ≡ v * 10 ^ length xs
zeros_after v [] h = omega arith
zeros_after v (c ∷ cs) h =
    let first : c ≡ 48 = h 0 (omega arith) in
    ap (λ d. fold add_digit (add_digit v d) cs) first
    ∙ zeros_after (v * 10 + 0) cs (λ i within. h (suc i) (omega arith)) ∙ ten_more v (length cs)

pub value_kept : (ds : List ℕ) → HoldsOfNone loses_last ds → digits_number ds ≡ digits_number (kept ds) * 10 ^ (length ds - kept_len ds)
value_kept ds none =
    let k : ℕ = kept_len ds in
    let size : length (drop k ds) ≡ length ds - k = length-drop k ds in
    ap digits_number (sym (take-append-drop k ds)) ∙ fold-append add_digit 0 (take k ds) (drop k ds)
    ∙ zeros_after (digits_number (take k ds)) (drop k ds)
    (λ i within. let inside : k + i < length ds = omega (arith, size) in
    get_or-drop k ds i 0 ∙ held_so ds (k + i) inside (none (k + i) inside) (omega arith))
    ∙ ap (λ n. digits_number (take k ds) * 10 ^ n) size

-- the exponents differ by the number of dropped digits
powers : (len w f k : ℕ) (e x : ℤ) (j n : ℕ) → len ≡ w + f → k ≤ len
    → e ≡ (pos (w - k) -ℤ pos (k - w)) +ℤ x → e +ℤ pos n ≡ (x -ℤ pos f) +ℤ pos j → j ≡ len - k + n
powers len w f k e x j n size within own same = omega (arith, ints, size, within, own, same)

some_exact : (ws fs : List ℕ) (e x : ℤ) → HoldsOfNone loses_last (ws ++ fs) → e ≡ own_power ws fs +ℤ x
    → AreEqualDecimals (digits_number (kept (ws ++ fs))) e (digits_number (ws ++ fs)) (x -ℤ pos (length fs))
some_exact ws fs e x none own j n same =
    let ds : List ℕ = ws ++ fs in
    let k : ℕ = kept_len ds in
    let at : j ≡ length ds - k + n =
    powers (length ds) (length ws) (length fs) k e x j n (length-append ws fs) (kept_len_is_longest ds).within own same in
    rw (at, pow-add 10 (length ds - k) n, value_kept ds none) (omega arith)

zero_exact : (ws fs : List ℕ) (e f : ℤ) → HoldsOfNone loses_last (ws ++ fs) → digits_number (kept (ws ++ fs)) ≡ 0
    → AreEqualDecimals (digits_number (kept (ws ++ fs))) e (digits_number (ws ++ fs)) f
zero_exact ws fs e f none is_zero j n same = rw (value_kept (ws ++ fs) none, is_zero) (omega arith)

-- ---- a number

number_exact : (n : Numeral) → HoldsOfNone loses_last (n.whole ++ n.fraction)
    → is_out_of_range (digits_number (kept (n.whole ++ n.fraction)))
    (own_power n.whole n.fraction +ℤ written_exponent n.exponent) ≡ false → IsExact n (number_of n)
number_exact n none range =
    elim (cases_eq (digits_number (kept (n.whole ++ n.fraction))) 0) [
      | inl is_zero ↦ zero_exact n.whole n.fraction _ _ none is_zero
      | inr some ↦
          some_exact n.whole n.fraction _ (written_exponent n.exponent) none (fits_if_in_range _ _ some range)
    ]

-- ---- from the cells of a number

-- no digit from position n on has a breach
abbrev pub AreClearFrom : (List ℕ → Option Breach) → List ℕ → ℕ → Type 0
AreClearFrom breach ds n = (i : ℕ) → n ≤ i → i < length ds → breach (take (suc i) ds) ≡ None

pub clear_from_next : (breach : List ℕ → Option Breach) (prefix : List ℕ) (d : ℕ) (ds : List ℕ)
    → breach (onto (d ∷ prefix) []) ≡ None → AreClearFrom breach (onto (d ∷ prefix) ds) (length (d ∷ prefix))
    → AreClearFrom breach (onto prefix (d ∷ ds)) (length prefix)
clear_from_next breach prefix d ds none rest i above within = elim (cases_lt (length prefix) i) [
  | inl after ↦ rest i (omega (arith, after)) within
  | inr here ↦
      (let same : i ≡ length prefix = omega (arith, above, here) in
      rw same (ap breach (sym (up_to_next prefix d ds)) ∙ none))
]

digits_clear : (breach : List ℕ → Option Breach) (prefix ds : List ℕ) (k : List Cell)
    → HaveNoMarks (digits_cells breach prefix ds k)
    → AreClearFrom breach (onto prefix ds) (length prefix) × HaveNoMarks k
digits_clear breach prefix [] k h = (λ i above within. absurd (omega (arith, above, within, length-onto prefix [])), h)
digits_clear breach prefix (d ∷ ds) k h =
    let rest = digits_clear breach (d ∷ prefix) ds k h.1 in (clear_from_next breach prefix d ds h.0 rest.0, rest.1)

all_clear : (breach : List ℕ → Option Breach) (ds : List ℕ) (k : List Cell)
    → HaveNoMarks (digits_cells breach [] ds k) → AreUnmarked breach ds × HaveNoMarks k
all_clear breach ds k h =
    let clear = digits_clear breach [] ds k h in (λ i within. clear.0 i (omega arith) within, clear.1)

pub first_below : (d : ℕ) (es : List ℕ) → IsWhole (d ∷ es) → d < 58
first_below d es ok = digit_below d (whole_digits (d ∷ es) ok).0

module _ (r : Reading) (exact : r.exact ≡ true) where
  fraction_clear : (ws fs : List ℕ) (k : List Cell) → HaveNoMarks (fraction_cells r ws fs k)
      → AreUnmarked (fraction_breach r ws) fs × HaveNoMarks k
  fraction_clear ws [] k h = (λ i within. absurd (omega (arith, within)), h)
  fraction_clear ws (d ∷ ds) k h = all_clear (fraction_breach r ws) (d ∷ ds) k h.1

  pub digits_kept : (d : ℕ) (es fs : List ℕ) → d < 58 → AreClearFrom (whole_breach r) (d ∷ es) 1
      → AreUnmarked (fraction_breach r (d ∷ es)) fs → HoldsOfNone loses_last (d ∷ es ++ fs)
  digits_kept d es fs below whole fraction zero within =
      held_if (d ∷ es ++ fs) 0 within (λ past. absurd (omega (arith, past, first_kept d (es ++ fs) below)))
  digits_kept d es fs below whole fraction (suc i) within =
      elim (cases_lt (suc i) (length (d ∷ es))) [
        | inl left ↦ whole_keeps r (d ∷ es) fs (suc i) exact left (whole (suc i) (omega arith) left)
        | inr right ↦
            (let n : ℕ = suc i - length (d ∷ es) in
            let at : length (d ∷ es) + n ≡ suc i = omega arith in
            let inside : n < length fs = omega (arith, within, length-append (d ∷ es) fs) in
            subst (λ (j : ℕ). loses_last (take (suc j) (d ∷ es ++ fs)) ≡ false) at
            (fraction_keeps r (d ∷ es) fs n exact inside (fraction n inside)))
      ]

  exponent_range : (ws fs : List ℕ) (x : Option Exponent) (k : List Cell) → IsExponent x → dropped ws fs < 32768
      → kept_fraction ws fs < 32769 → HaveNoMarks (exponent_cells r ws fs x k)
      → is_out_of_range (digits_number (kept (ws ++ fs))) (own_power ws fs +ℤ written_exponent x) ≡ false
  exponent_range ws fs None k ok few fewer h =
      in_range_if _ (own_power ws fs +ℤ pos 0) (omega (arith, ints, clamps, few, fewer))
  exponent_range ws fs (Some e) k ok few fewer h =
      exponent_keeps r ws fs e.sign e.digits exact (some_digits e.digits ok.1)
      (all_clear (exponent_breach r ws fs e.sign) e.digits k (sign_rest e.sign _ h.1)).0
    where
      some_digits : (ds : List ℕ) → IsDigits ds → 0 < length ds
      some_digits [] ok = absurd ok
      some_digits (d ∷ ds) ok = omega arith

  magnitude_exact : (n : Numeral) (ws : List ℕ) (m : Option Breach) (k : List Cell) → n.whole ≡ ws → IsWhole ws
      → IsExponent n.exponent
      → HaveNoMarks (whole_cells r ws m (fraction_cells r ws n.fraction (exponent_cells r ws n.fraction n.exponent k)))
      → IsExact n (number_of n)
  magnitude_exact n [] m k same ok x_ok h = absurd ok
  magnitude_exact n (d ∷ es) m k same ok x_ok h =
      let whole = digits_clear (whole_breach r) (d ∷ []) es _ h.1 in
      let fraction = fraction_clear (d ∷ es) n.fraction _ whole.1 in
      let none : HoldsOfNone loses_last (d ∷ es ++ n.fraction) =
      digits_kept d es n.fraction (first_below d es ok) whole.0 fraction.0 in
      let range : is_out_of_range (digits_number (kept (d ∷ es ++ n.fraction)))
      (own_power (d ∷ es) n.fraction +ℤ written_exponent n.exponent) ≡ false =
      exponent_range (d ∷ es) n.fraction n.exponent k x_ok (whole_few r (d ∷ es) n.fraction whole.0)
      (fraction_few r (d ∷ es) n.fraction fraction.0) fraction.1 in
      number_exact n (rw same none) (rw same range)

  signed_exact : (negative : Bool) (n : Numeral) (m : Option Breach) (k : List Cell) → IsNumeral n
      → HaveNoMarks (if negative then cell 45 m ∷ magnitude_cells r n None k else magnitude_cells r n m k)
      → IsExact n (number_of n)
  signed_exact true n m k ok h = magnitude_exact n n.whole None k refl ok.0 ok.2 h.1
  signed_exact false n m k ok h = magnitude_exact n n.whole m k refl ok.0 ok.2 h

  -- ---- in a tree

  abbrev Exact : Numeral → Type 0
  Exact n = IsExact n (number_of n)

  mutual
    node_exact : (n : Node) (depth : ℕ) (m : Option Breach) (k : List Cell) → IsNode r n
        → HaveNoMarks (node_cells r n depth m k) → AllNumerals Exact n
    node_exact Node.null depth m k ok h = tt
    node_exact (Node.boolean b) depth m k ok h = tt
    node_exact (Node.number n) depth m k ok h = signed_exact n.negative n m k ok h
    node_exact (Node.string is) depth m k ok h = tt
    node_exact (Node.empty_array b) depth m k ok h = tt
    node_exact (Node.empty_object b) depth m k ok h = tt
    node_exact (Node.array b n c es) depth m k ok h =
        let inside = plain_rest b _ h.1 in
        let one = node_held r n (suc depth) (deep_if r depth) (plain c (elements_cells r es (suc depth) k)) ok.1 inside in (
          node_exact n (suc depth) (deep_if r depth) _ ok.1 inside,
          elements_exact es (suc depth) k ok.3 (plain_rest c _ one.rest),
        )
    node_exact (Node.object key b n c ms) depth m k ok h =
        let named = key_first r [] key (deep_if r depth) _ h.1 in
        let inside = plain_rest b _ named.1 in
        let one = node_held r n (suc depth) None (plain c (members_cells r ms (bytes_of key.items ∷ []) (suc depth) k))
        ok.2 inside in (
          node_exact n (suc depth) None _ ok.2 inside,
          members_exact ms (bytes_of key.items ∷ []) (suc depth) k ok.4 (plain_rest c _ one.rest),
        )

    elements_exact : (es : Elements) (depth : ℕ) (k : List Cell) → AreElements r es
        → HaveNoMarks (elements_cells r es depth k) → AllInElements Exact es
    elements_exact no_elements depth k ok h = tt
    elements_exact (element b n c es) depth k ok h =
        let inside = plain_rest b _ h.1 in
        let one = node_held r n depth None (plain c (elements_cells r es depth k)) ok.1 inside in
        (node_exact n depth None _ ok.1 inside, elements_exact es depth k ok.3 (plain_rest c _ one.rest))

    members_exact : (ms : Members) (seen : List (List ℕ)) (depth : ℕ) (k : List Cell) → AreMembers r ms
        → HaveNoMarks (members_cells r ms seen depth k) → AllInMembers Exact ms
    members_exact no_members seen depth k ok h = tt
    members_exact (member key b n c ms) seen depth k ok h =
        let named = key_first r seen key None _ h.1 in
        let inside = plain_rest b _ named.1 in
        let one = node_held r n depth None (plain c (members_cells r ms (bytes_of key.items ∷ seen) depth k)) ok.2
        inside in (
          node_exact n depth None _ ok.2 inside,
          members_exact ms (bytes_of key.items ∷ seen) depth k ok.4 (plain_rest c _ one.rest),
        )

pub exact_numbers : ExactNumbers
exact_numbers r t d exact h =
    node_exact r exact d.node 0 None (plain d.after []) h.0.0.1 (plain_rest d.before _ (unmarked (cells r d) h.1))
