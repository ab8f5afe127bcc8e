-- The column after a prefix of a text, by its last newline.
use Rattle.jzon_base.proofs.Common.{◌≡◌, ℕ, zero, suc, ◌+◌, ◌-◌, ◌<◌, ◌≤◌, Bool, true, false, cond, count_by, List, [], ◌∷◌, ◌++◌, length}
use Rattle.jzon_base.proofs.Common.{take, drop, get_or, refl, sym, ap, subst, ◌∙◌, arith, take-append-drop, not, ◌==◌}
use Rattle.jzon_base.proofs.Common.{chars, IsUtf8, IsCharBoundary, get_or-append-add, chars-append, chars_past_char}
use Rattle.jzon_base.proofs.Common.{chars_from_encodes, IsUtf8-take, IsUtf8-drop, get_or-append_seam}
use Rattle.std.specs.Str.{NonePass, NoCharPasses}
use Rattle.std.specs.Str.Pattern.{HasCharAt}
use Rattle.std.specs.List.{suffix_len}
use Rattle.std.proofs.lemmas.List.{length-append}
use Rattle.std.proofs.lemmas.List.Sums.{suffix_len_is, sum_by-cons}
use Rattle.jzon.specs.Fault.{column, line}
use Rattle.jzon.proofs.Texts.ByteCounts.{is_newline}

abbrev is_in_line : ℕ → Bool
is_in_line c = not (c == 10)

none_at : (cs : List ℕ) (k : ℕ) → NonePass is_newline cs → k < length cs → is_in_line (get_or cs k 0) ≡ true
none_at [] k h lt = absurd (omega arith)
none_at (c ∷ cs) zero h lt = rw h.0 refl
none_at (c ∷ cs) (suc k) h lt = none_at cs k h.1 (omega arith)

on_one_line : (cs : List ℕ) → NonePass is_newline cs → suffix_len is_in_line cs ≡ length cs
on_one_line cs h =
    let e : suffix_len is_in_line cs ≡ length cs - 0 = suffix_len_is is_in_line cs 0 0 (omega arith)
    (λ k _ lt. none_at cs k h lt) (λ lt. absurd (omega arith)) in
    omega (arith, e)

after_newline : (xs ys : List ℕ) (k : ℕ) → length xs + 1 ≤ k
    → get_or (xs ++ (10 ∷ ys)) k 0 ≡ get_or ys (k - (length xs + 1)) 0
after_newline xs ys k le =
    let e : k ≡ length xs + suc (k - (length xs + 1)) = omega arith in
    ap (λ n. get_or (xs ++ (10 ∷ ys)) n 0) e ∙ get_or-append-add xs (10 ∷ ys) (suc (k - (length xs + 1))) 0

on_last_line : (xs ys : List ℕ) → NonePass is_newline ys → suffix_len is_in_line (xs ++ (10 ∷ ys)) ≡ length ys
on_last_line xs ys h =
    let n : length (xs ++ (10 ∷ ys)) ≡ length xs + suc (length ys) = length-append xs (10 ∷ ys) in
    let e : suffix_len is_in_line (xs ++ (10 ∷ ys)) ≡ length (xs ++ (10 ∷ ys)) - (length xs + 1) =
    suffix_len_is is_in_line (xs ++ (10 ∷ ys)) (length xs + 1) 0 (omega arith)
    (λ k le lt. subst (λ c. is_in_line c ≡ true) (sym (after_newline xs ys k le))
    (none_at ys (k - (length xs + 1)) h (omega arith)))
    (λ lt. let s : get_or (xs ++ (10 ∷ ys)) (length xs + 1 - 1) 0
    ≡ 10 = ap (λ m. get_or (xs ++ (10 ∷ ys)) m 0) (omega arith) ∙ get_or-append_seam xs 10 ys 0 in rw s refl) in
    omega (arith, e, n)

characters_of : (bs : List ℕ) → IsUtf8 bs → NoCharPasses is_newline bs → NonePass is_newline (chars bs)
characters_of bs u (cs, e, h) = subst (NonePass is_newline) (chars_from_encodes cs bs u e) h

pub column_of_one_line : (bs : List ℕ) → IsUtf8 bs → NoCharPasses is_newline bs
    → column (chars bs) ≡ length (chars bs) + 1
column_of_one_line bs u h = ap (λ n. n + 1) (on_one_line (chars bs) (characters_of bs u h))

pub column_of_last_line : (bs : List ℕ) (i j : ℕ) → IsUtf8 bs → NoCharPasses is_newline (drop j bs)
    → HasCharAt 10 bs i j → IsCharBoundary bs i
    → IsCharBoundary bs j → column (chars bs) ≡ length (chars (drop (i + 1) bs)) + 1
column_of_last_line bs i j u none at from to =
    let same : j ≡ i + 1 = at.ends in
    let split : chars bs ≡ chars (take i bs) ++ (10 ∷ chars (drop j bs)) =
    ap chars (sym (take-append-drop i bs)) ∙ chars-append (take i bs) (drop i bs) (IsUtf8-take bs i u from)
    ∙ ap (λ z. chars (take i bs) ++ z) (chars_past_char (drop i bs) (drop j bs) 10 (IsUtf8-drop bs i u from) at.split)
    in
    let line =
    on_last_line (chars (take i bs)) (chars (drop j bs)) (characters_of (drop j bs) (IsUtf8-drop bs j u to) none)
    in
    rw (split, line, same)

-- no newline is counted, so none passes
none_of_count : (b : Bool) (n : ℕ) → cond b 1 0 + n ≡ 0 → (b ≡ false) × (n ≡ 0)
none_of_count true n e = absurd (omega (arith, e))
none_of_count false n e = (refl, omega (arith, e))

none_counted : (cs : List ℕ) → count_by is_newline cs ≡ 0 → NonePass is_newline cs
none_counted [] e = tt
none_counted (c ∷ cs) e =
    let h = none_of_count (is_newline c) (count_by is_newline cs) (sym (sum_by-cons (λ y. cond (is_newline y) 1 0) c cs) ∙ e) in
    (h.0, none_counted cs h.1)

pub column_in_first_line : (cs : List ℕ) → line cs ≡ 1 → column cs ≡ length cs + 1
column_in_first_line cs e = ap (λ n. n + 1) (on_one_line cs (none_counted cs (omega (arith, e))))
