-- The first position in a list where a test passes.
use Rattle.jzon_base.proofs.Common.{◌≡◌, ℕ, ◌<◌, Bool, true, false, cond, nat_lt, List, length, get_or, Option, Some}
use Rattle.jzon_base.proofs.Common.{[], None, inl, inr, sym, refl, ◌∙◌, arith, nat_tests, position, position_or_len, is_some}
use Rattle.jzon_base.proofs.Common.{cases_Bool, list_any, true≢false, get_or_default, position-Some}
use Rattle.std.proofs.lemmas.List.Folds.{Any-from_list_any, list_any-from_Any}
use Rattle.std.proofs.lemmas.List.Sums.{position_or_len_is, fails_before_first}

within : (p n i : ℕ) → p ≡ i → i < n → ◌≡◌ {A = Option ℕ} (cond (nat_lt p n) (Some p) None) (Some i)
within p n i e h = grind (arith, nat_tests)

past : (p n : ℕ) → p ≡ n → ◌≡◌ {A = Option ℕ} (cond (nat_lt p n) (Some p) None) None
past p n e = grind (arith, nat_tests)

module _ {X : Type 0} (test : X → Bool) (xs : List X) where
  pub position-first : (i : ℕ) (d : X) → i < length xs → test (get_or xs i d) ≡ true
      → ((j : ℕ) → j < i → test (get_or xs j d) ≡ false) → position test xs ≡ Some i
  position-first i d h at before = within (position_or_len test xs) (length xs) i
      (position_or_len_is test xs i d (omega arith) before (λ _. at)) h

  pub position-none : (d : X) → ((j : ℕ) → j < length xs → test (get_or xs j d) ≡ false) → position test xs ≡ None
  position-none d fails = past (position_or_len test xs) (length xs)
      (position_or_len_is test xs (length xs) d (omega arith) fails (λ l. absurd (omega arith)))

pub position-None-before : {X : Type 0} (test : X → Bool) (xs : List X) (j : ℕ) (d : X) → position test xs ≡ None
    → j < length xs → test (get_or xs j d) ≡ false
position-None-before test xs j d e l = fails_before_first test xs j d
    (grind (arith, nat_tests))

any_by : (test : List ℕ → Bool) (xs : List (List ℕ)) (o : Option ℕ) → position test xs ≡ o
    → list_any test xs ≡ is_some o
any_by test xs None e = elim (cases_Bool (list_any test xs)) [
  | inr none ↦ none
  | inl some ↦
      (let (i, x, within, here, passes) = Any-from_list_any test xs some in
      absurd (true≢false (sym passes ∙ (λ j. test (sym here j)) ∙ position-None-before test xs i x e within)))
]
any_by test xs (Some i) e =
    let (within, passes, before) = position-Some test xs i [] e in
    list_any-from_Any test xs (i, get_or xs i [], within, sym (get_or_default xs i [] (get_or xs i []) within), passes)

-- an element passes if there is a first one
pub list_any-position : (test : List ℕ → Bool) (xs : List (List ℕ)) → list_any test xs ≡ is_some (position test xs)
list_any-position test xs = any_by test xs (position test xs) refl

pub none_of_is_some : (o : Option ℕ) → is_some o ≡ false → o ≡ None
none_of_is_some None e = refl
none_of_is_some (Some i) e = absurd cc
