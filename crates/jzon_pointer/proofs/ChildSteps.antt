-- What a pointer names below a child, after the token of the child.
use Rattle.std.proofs.Common.{◌≡◌, ℕ, List, [], ◌∷◌, ◌++◌, Bool, true, false, ◌==◌, if◌then◌else◌}
use Rattle.std.proofs.Common.{None, Some, option_and_then, Result, Ok, Err}
use Rattle.std.proofs.Common.{refl, sym, ap, ◌∙◌, subst, append-nil}
use Rattle.std.proofs.lemmas.Bool.{eqb-true}
use Rattle.std.proofs.lemmas.Option.{none-some}
use Rattle.std.specs.Option.{ok_or}
use Rattle.std.specs.Result.{result_ok}
use Rattle.jzon.specs.PairList.{find}
use Rattle.jzon.specs.Readers.{entries}
use Rattle.jzon.specs.Value.{Value, null, boolean, text, number, array, object, list_of_pairs}
use Rattle.jzon_pointer.specs.Escaped.{escaped}
use Rattle.jzon_pointer.specs.Pointer.{and_then, child_of, found, tokens_in, tokens_of, value_at}
use Rattle.jzon_pointer.specs.declared.pointer.PointerError.{PointerError}
use Rattle.jzon_pointer.specs.declared.pointer.PointerError.TheVariants.{NoSlash}
use Rattle.jzon_pointer.proofs.ChangeLaws.{found-down}
use Rattle.jzon_pointer.proofs.PlaceSteps.{value-of-tokens}
use Rattle.jzon_pointer.proofs.EscapedSteps.{token_key-escaped}
use Rattle.jzon_pointer.proofs.TokenSteps.{Lacks, tokens-first, tokens-only}

pub key-child : (k : List ℕ) (v w : Value) → find k (entries v) ≡ Some w → child_of v (escaped k) ≡ Some w
key-child k null w h = absurd (none-some w h)
key-child k (boolean b) w h = absurd (none-some w h)
key-child k (text s t) w h = absurd (none-some w h)
key-child k (number n) w h = absurd (none-some w h)
key-child k (array vs) w h = absurd (none-some w h)
key-child k (object ps) w h = ap (option_and_then (λ j. find j (list_of_pairs ps))) (token_key-escaped k) ∙ h

-- ---- a step

ok_from : (r : Result Value PointerError) (w : Value) → result_ok r ≡ Some w → r ≡ Ok w
ok_from (Ok x) w h = let same : x ≡ w = cc in ap (λ y. Ok y) same
ok_from (Err e) w h = absurd (cc)

below_tokens : (v c w : Value) (t p : List ℕ) (ts : List (List ℕ)) → tokens_of ((47 ∷ t) ++ p) ≡ Some (t ∷ ts)
    → child_of v t ≡ Some c → found 1 c ts ≡ Ok w → value_at v ((47 ∷ t) ++ p) ≡ Ok w
below_tokens v c w t p ts tokens at h =
    value-of-tokens v ((47 ∷ t) ++ p) (t ∷ ts) tokens ∙ ok_from _ w (found-down v t ts c at ∙ ap result_ok h)

below_by : (b : Bool) (v c w : Value) (t q : List ℕ) (x : ℕ) → Lacks 47 t → child_of v t ≡ Some c
    → (b ≡ true → x ≡ 47) → and_then (found 1 c) (ok_or (if b then Some (tokens_in q) else None) NoSlash) ≡ Ok w
    → value_at v ((47 ∷ t) ++ (x ∷ q)) ≡ Ok w
below_by true v c w t q x lacks at slash h =
    subst (λ (y : ℕ). value_at v ((47 ∷ t) ++ (y ∷ q)) ≡ Ok w) (sym (slash refl))
    (below_tokens v c w t (47 ∷ q) (tokens_in q) (ap (λ ts. Some ts) (tokens-first t q lacks)) at h)
below_by false v c w t q x lacks at slash h = absurd (cc)

-- what a pointer names in a child, it names in the value after the child's token
pub below-value : (v c w : Value) (t p : List ℕ) → Lacks 47 t → child_of v t ≡ Some c → value_at c p ≡ Ok w
    → value_at v ((47 ∷ t) ++ p) ≡ Ok w
below-value v c w t [] lacks at h =
    below_tokens v c w t [] [] (ap (λ l. Some (tokens_in l)) (append-nil t) ∙ ap (λ ts. Some ts) (tokens-only t lacks)) at h
below-value v c w t (x ∷ q) lacks at h = below_by (x == 47) v c w t q x lacks at (eqb-true x 47) h
