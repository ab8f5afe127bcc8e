-- What one line more adds.
use Rattle.std.proofs.Common.{◌≡◌, ℕ, List, [], ◌∷◌, ◌++◌, map, Option, None, refl, sym, ap, subst, ◌∙◌, append_assoc}
use Rattle.std.proofs.Common.{append-nil}
use Rattle.std.specs.Iterator.{AlwaysYields, Yields}
use Rattle.jzon_examples.specs.Filter.{IsPrinted, ArePrinted}

pub ArePrinted-push : (ls : List (List ℕ)) (l bytes more : List ℕ) → ArePrinted ls bytes → IsPrinted l more
    → ArePrinted (ls ++ l ∷ []) (bytes ++ more)
ArePrinted-push [] l bytes more h p = (more, [], p, refl, ap (λ b. b ++ more) h ∙ sym (append-nil more))
ArePrinted-push (k ∷ ls) l bytes more (first, rest, q, h, e) p =
    (first, rest ++ more, q, ArePrinted-push ls l rest more h p, ap (λ b. b ++ more) e ∙ append_assoc first rest more)

-- the items of a run that came to its end are all items of the iterator
module _ {S A B : Type 0} (steps : S → Option A → S → Type 0) (v : A → B) where
  pub yielded-all : (s t u : S) (xs : List A) (ys : List B) → AlwaysYields steps v s ys → Yields steps s xs t
      → steps t None u → map v xs ≡ ys
  yielded-all s t u [] [] run e k = refl
  yielded-all s t u [] (y ∷ ys) run e k = absurd (run.0 u (subst (λ i. steps i None u) (sym e) k))
  yielded-all s t u (x ∷ xs) [] run (j, h, more) k = absurd (run x j h)
  yielded-all s t u (x ∷ xs) (y ∷ ys) run (j, h, more) k =
      let next = run.1 x j h in
      ap (λ z. z ∷ map v xs) next.0 ∙ ap (λ zs. y ∷ zs) (yielded-all j t u xs ys next.1 more k)
