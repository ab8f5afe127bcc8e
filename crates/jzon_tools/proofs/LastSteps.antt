-- The last token of a pointer, and those before it.
use Rattle.std.proofs.Common.{◌≡◌, ℕ, suc, ◌+◌, length, List, [], ◌∷◌, ◌++◌, Option, None, Some, option_and_then, Ok, Err, IsErr}
use Rattle.std.proofs.Common.{get_or, refl, sym, ap, ◌∙◌, subst, arith}
use Rattle.std.proofs.lemmas.Option.{none-some, same_Some}
use Rattle.std.specs.Option.{option_map_or}
use Rattle.std.specs.Result.{result_ok}
use Rattle.jzon.specs.Value.{Value}
use Rattle.jzon_pointer.specs.Pointer.{tokens_of, child_of, found, value_at, entry_at, changed, with_new, inserted_at, without, removed_at, ChangesAt, IsLast, LacksAt}
use Rattle.jzon_pointer.specs.declared.pointer.PointerError.{PointerError}
use Rattle.jzon_pointer.proofs.ChangeLaws.{changes-kept, changed-some, changed-none, changed-lacks, found-below, found-child, found-none, lacks-last, lacks-child}
use Rattle.jzon_tools.specs.Patch.{at_last, shifted_at}
use Rattle.jzon_tools.proofs.EditSteps.{no_new-no_child}
use Rattle.jzon_pointer.proofs.PlaceSteps.{value-of-tokens}
use Rattle.jzon_pointer.proofs.TokenSteps.{Lacks, tokens-parent, no_slash}

entry-value : (v : Value) (xs ys : List ℕ) → entry_at v (xs ++ 47 ∷ ys) ≡ value_at v (xs ++ 47 ∷ ys)
entry-value v [] ys = refl
entry-value v (x ∷ xs) ys = refl

pub is-last : (path parent t : List ℕ) (ts : List (List ℕ)) → path ≡ parent ++ 47 ∷ t → Lacks 47 t
    → tokens_of parent ≡ Some ts → IsLast path ts t
is-last path parent t ts cut lacks e = record {
  tokens = ap tokens_of cut ∙ tokens-parent parent t ts lacks e;
  entry = λ v. subst (λ p. entry_at v p ≡ value_at v p) (sym cut) (entry-value v parent t);
}

-- ---- what a change of the last token shifts

last-onto : (f : Value → List ℕ → ℕ) (v : Value) (u t : List ℕ) (us : List (List ℕ))
    → at_last f v (u ∷ (us ++ t ∷ [])) ≡ option_map_or (λ c. at_last f c (us ++ t ∷ [])) (child_of v u) 0
last-onto f v u t [] = refl
last-onto f v u t (x ∷ xs) = refl

last-found_by : (o : Option Value) (f : Value → List ℕ → ℕ) (t u : List ℕ) (us : List (List ℕ)) (i : ℕ) (v old : Value)
    → ((j : ℕ) (w : Value) → found j w us ≡ Ok old → at_last f w (us ++ t ∷ []) ≡ f old t)
    → child_of v u ≡ o → found i v (u ∷ us) ≡ Ok old
    → option_map_or (λ c. at_last f c (us ++ t ∷ [])) o 0 ≡ f old t
last-found_by None f t u us i v old ih at h = absurd (none-some old (ap result_ok (sym (found-none i v u us at) ∙ h)))
last-found_by (Some c) f t u us i v old ih at h = ih (suc (i + length u)) c (sym (found-below i v u us c at) ∙ h)

last-found : (f : Value → List ℕ → ℕ) (t : List ℕ) (ts : List (List ℕ)) (old : Value) (i : ℕ) (v : Value)
    → found i v ts ≡ Ok old → at_last f v (ts ++ t ∷ []) ≡ f old t
last-found f t [] old i v h = ap (λ w. f w t) (same_Some v old (ap result_ok h))
last-found f t (u ∷ us) old i v h =
    last-onto f v u t us ∙ last-found_by (child_of v u) f t u us i v old (last-found f t us old) refl h

module _ {path : List ℕ} {ts : List (List ℕ)} {t : List ℕ} (last : IsLast path ts t) where
  at-last : (v : Value) → value_at v path ≡ found 1 v (ts ++ t ∷ [])
  at-last v = value-of-tokens v path (ts ++ t ∷ []) last.tokens

  pub entry-found : (v old new w c : Value) → ChangesAt v ts old new w → child_of old t ≡ Some c
      → entry_at v path ≡ Ok c
  entry-found v old new w c h at = last.entry v ∙ at-last v ∙ found-child t ts 1 v old c (h.0 1) at

  pub shifted : (f : Value → List ℕ → ℕ) (v old new w : Value) → ChangesAt v ts old new w
      → shifted_at f v path ≡ f old t
  shifted f v old new w h =
      ap (λ o. option_map_or (at_last f v) o 0) last.tokens ∙ last-found f t ts old 0 v (h.0 0)

  -- nothing is there, and nothing was changed
  pub nothing-there : (v old new w : Value) → ChangesAt v ts old new w → child_of old t ≡ None → new ≡ old
      → IsErr (value_at w path) × (w ≡ v)
  nothing-there v old new w h none same =
      let kept = changes-kept v ts old new w h same in (
        subst (λ x. IsErr (value_at x path)) (sym kept)
            (subst IsErr (sym (at-last v)) (lacks-child t ts 1 v old (h.0 1) none)),
        kept,
      )

  pub nowhere : (v w : Value) → LacksAt v ts w → IsErr (value_at w path)
  nowhere v w h =
      subst (λ x. IsErr (value_at x path)) (sym h.1)
      (subst IsErr (sym (at-last v)) (lacks-last t ts 1 v (h.0 1)))

  pub entry-missing : (v w : Value) (e : PointerError) → value_at w path ≡ Err e → w ≡ v → entry_at v path ≡ Err e
  entry-missing v w e h kept = last.entry v ∙ ap (λ x. value_at x path) (sym kept) ∙ h

  pub removed : (v old new w : Value) → ChangesAt v ts old new w → without old t ≡ Some new
      → removed_at v path ≡ Some w
  removed v old new w h is =
      ap (option_and_then (changed without v)) last.tokens ∙ changed-some without v ts t old new w h is

  pub inserted : (x v old new w : Value) → ChangesAt v ts old new w → with_new x old t ≡ Some new
      → inserted_at x v path ≡ Some w
  inserted x v old new w h is =
      ap (option_and_then (changed (with_new x) v)) last.tokens ∙ changed-some (with_new x) v ts t old new w h is

  -- there is no place for it, and nothing was changed
  pub not_inserted : (x v old new w : Value) → ChangesAt v ts old new w → with_new x old t ≡ None → new ≡ old
      → IsErr (value_at w path) × (w ≡ v) × (inserted_at x v path ≡ None)
  not_inserted x v old new w h none same =
      let there = nothing-there v old new w h (no_new-no_child x old t none) same in (
        there.0,
        there.1,
        ap (option_and_then (changed (with_new x) v)) last.tokens
            ∙ changed-none (with_new x) v ts t old (h.0 0) none,
      )

  pub inserted-nowhere : (x v w : Value) → LacksAt v ts w → inserted_at x v path ≡ None
  inserted-nowhere x v w h =
      ap (option_and_then (changed (with_new x) v)) last.tokens ∙ changed-lacks (with_new x) t ts 0 v (h.0 0)

refused-insert : (x v : Value) (path : List ℕ) → tokens_of path ≡ None → inserted_at x v path ≡ None
refused-insert x v path none = ap (option_and_then (changed (with_new x) v)) none

-- a pointer without a slash
pub no_slash-insert : (x v : Value) (path : List ℕ) → Lacks 47 path → inserted_at x v path ≡ None
no_slash-insert x v [] lacks = refl
no_slash-insert x v (c ∷ cs) lacks =
    refused-insert x v (c ∷ cs) (no_slash (c ∷ cs) (omega arith) (λ rest e. lacks 0 (omega arith) (ap (λ l. get_or l 0 0) e)))

pub lacks-slash : (path : List ℕ) → Lacks 47 path → (rest : List ℕ) → path ≡ 47 ∷ rest → ⊥
lacks-slash [] lacks rest e = absurd (cc)
lacks-slash (c ∷ cs) lacks rest e = lacks 0 (omega arith) (ap (λ l. get_or l 0 0) e)
