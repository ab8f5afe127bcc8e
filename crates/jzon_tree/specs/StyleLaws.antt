-- Each style of a generator allows something. (These are proofs; they are here because the generators' laws cite them.)
use Rattle.std.specs.Prelude.{◌≡◌, ℕ, zero, suc, ◌+◌, ◌*◌, ◌<◌, ◌==◌, Bool, true, false, List, [], length}
use Rattle.std.specs.Prelude.{replicate, count_by, cond, refl}
use Rattle.std.specs.Cmp.Lexicographic.{nat_list_eq_equiv}
use Rattle.std.specs.List.{range_with_len}
use Rattle.std.specs.Str.{bytes_eq}
use Rattle.std.proofs.Common.{sym, ap, ◌∙◌, subst}
use Rattle.std.proofs.lemmas.Bool.{eq-eqb, ne_eqb}
use Rattle.std.proofs.lemmas.List.FromFn.{length-range_with_len}
use Rattle.std.proofs.lemmas.List.Sums.{sum_by-cons}
use Rattle.std.proofs.Math.Nat.{ne_of_lt, add-suc, suc-add, add-zero, zero-add, lt-suc_self, lt_trans, not-suc-le-zero}
use Rattle.std.proofs.Math.Nat.{le-add_right, suc-le-suc_iff, le_of_suc-le-suc}
use Rattle.std.proofs.Math.Numerals.{suc-eq-add-one}
use Rattle.jzon_tree.specs.Generator.{insertion}
use Rattle.jzon_tree.specs.Styles.{same_form, only, compact_style, pretty_style}
use Rattle.jzon_tree.specs.Text.{pretty_layout}
use Rattle.jzon_tree.specs.Writing.{IsStyle, IsOrder, IsAllowedWhitespace, is_all_whitespace, any_style}

same_form-refl : (b : Bool) → same_form b b ≡ true
same_form-refl true = refl
same_form-refl false = refl

-- ---- the order of insertion has each position once

-- how often i occurs in a, a + 1, ..., a + n - 1
abbrev occurrences : ℕ → ℕ → ℕ → ℕ
occurrences i a n = count_by (λ j. j == i) (range_with_len a n)

occurrences-step : (i a n : ℕ) → occurrences i a (suc n) ≡ cond (a == i) 1 0 + occurrences i (suc a) n
occurrences-step i a n =
    sum_by-cons (λ j. cond (j == i) 1 0) a (range_with_len (a + 1) n)
    ∙ ap (λ b. cond (a == i) 1 0 + occurrences i b n) (sym (suc-eq-add-one a))

occurrences-past : (i a n : ℕ) → i < a → occurrences i a n ≡ 0
occurrences-past i a zero h = refl
occurrences-past i a (suc n) h =
    occurrences-step i a n ∙ ap (λ t. cond t 1 0 + occurrences i (suc a) n) (ne_eqb a i (λ e. ne_of_lt h (sym e)))
    ∙ zero-add (occurrences i (suc a) n) ∙ occurrences-past i (suc a) n (lt_trans h (lt-suc_self a))

occurrences-one : (a k n : ℕ) → k < n → occurrences (a + k) a n ≡ 1
occurrences-one a k zero h = absurd (not-suc-le-zero h)
occurrences-one a zero (suc n) h =
    occurrences-step (a + zero) a n ∙ ap (λ t. cond t 1 0 + occurrences (a + zero) (suc a) n)
    (eq-eqb a (a + zero) (sym (add-zero a)))
    ∙ ap (λ c. 1 + c) (occurrences-past (a + zero) (suc a) n (subst (λ x. x < suc a) (sym (add-zero a)) (lt-suc_self a)))
occurrences-one a (suc k) (suc n) h =
    occurrences-step (a + suc k) a n ∙ ap (λ t. cond t 1 0 + occurrences (a + suc k) (suc a) n)
    (ne_eqb a (a + suc k) (ne_of_lt (subst (λ x. a < x) (sym (add-suc a k)) (suc-le-suc_iff.1 (le-add_right a k)))))
    ∙ zero-add (occurrences (a + suc k) (suc a) n) ∙ ap (λ i. occurrences i (suc a) n) (add-suc a k ∙ sym (suc-add a k))
    ∙ occurrences-one (suc a) k n (le_of_suc-le-suc h)

-- the order of insertion has each position once
pub IsOrder-insertion : (n : ℕ) → IsOrder n (insertion n)
IsOrder-insertion n = record {
  as_many = length-range_with_len 0 n;
  once = λ i h. subst (λ x. occurrences x 0 n ≡ 1) (zero-add i) (occurrences-one 0 i n h);
}

-- ---- the styles

-- a style of one whitespace for each depth, one form of the colon and the order of insertion allows a text of each
-- value
pub IsStyle-only : (line : ℕ → List ℕ) (wide : Bool) → ((dent : ℕ) → is_all_whitespace false (line dent) ≡ true)
    → IsStyle (only line wide)
IsStyle-only line wide h = record {
  whitespace = λ dent. (line dent, (h dent, nat_list_eq_equiv.refl (line dent)));
  colon = (wide, same_form-refl wide);
  order = λ ks distinct.
      (insertion (length ks), IsOrder-insertion (length ks), nat_list_eq_equiv.refl (insertion (length ks)));
}

-- the compact style allows a text of each value
pub IsStyle-compact : IsStyle compact_style
IsStyle-compact = IsStyle-only (λ dent. []) false (λ dent. refl)

-- spaces are whitespace, also of a strict reading
pub spaces_are_whitespace : (strict : Bool) (n : ℕ) → is_all_whitespace strict (replicate n 32) ≡ true
spaces_are_whitespace strict zero = refl
spaces_are_whitespace strict (suc n) = spaces_are_whitespace strict n

-- a newline and the spaces of an indent are whitespace
pub pretty_whitespace : (spaces dent : ℕ)
    → IsAllowedWhitespace (pretty_style spaces) dent ((pretty_layout spaces).line dent)
pretty_whitespace spaces dent = (
  spaces_are_whitespace false (dent * spaces),
  nat_list_eq_equiv.refl
      ((pretty_layout spaces).line dent),
)

-- each pretty style allows a text of each value
pub IsStyle-pretty : (spaces : ℕ) → IsStyle (pretty_style spaces)
IsStyle-pretty spaces =
    IsStyle-only (pretty_layout spaces).line true (λ dent. spaces_are_whitespace false (dent * spaces))

-- the order of insertion
pub insertion_allowed : (ks : List (List ℕ)) → bytes_eq (insertion (length ks)) (insertion (length ks)) ≡ true
insertion_allowed ks = nat_list_eq_equiv.refl (insertion (length ks))

-- the loosest style allows a text of each value
pub IsStyle-any : IsStyle any_style
IsStyle-any = record {
  whitespace = λ dent. ([], (refl, refl));
  colon = (false, refl);
  order = λ ks distinct. (insertion (length ks), IsOrder-insertion (length ks), refl);
}
