-- Relations that hold at each position of two lists, one element after the other.
use Rattle.jzon_base.proofs.Common.{◌≡◌, ℕ, suc, ◌+◌, ◌<◌, List, [], ◌∷◌, ◌++◌, length, take, map, ap, subst, sym, ◌∙◌}
use Rattle.jzon_base.proofs.Common.{arith, append-nil, append_assoc, slice_index_or, take-suc, map-append, AllZip}

pub AllZip-push : {X Y : Type 0} (R : X → Y → Type 0) (xs : List X) (ys : List Y) (x : X) (y : Y) → AllZip R xs ys
    → R x y → AllZip R (xs ++ x ∷ []) (ys ++ y ∷ [])
AllZip-push R [] [] x y each here = (here, tt)
AllZip-push R (w ∷ xs) (z ∷ ys) x y each here = (each.0, AllZip-push R xs ys x y each.1 here)
AllZip-push R _ _ x y each here = absurd each

-- the same for a list to which a function is applied
pub AllZip-push_map : {X Y Z : Type 0} (R : X → Y → Type 0) (f : Z → Y) (xs : List X) (zs ws : List Z) (x : X) (z : Z)
    → AllZip R xs (map f zs) → R x (f z) → ws ≡ zs ++ z ∷ [] → AllZip R (xs ++ x ∷ []) (map f ws)
AllZip-push_map {Y = Y} R f xs zs ws x z each here e =
    let grown : map f zs ++ f z ∷ [] ≡ map f ws = sym (map-append f zs (z ∷ [])) ∙ ap (map f) (sym e) in
    subst (λ (ys : List Y). AllZip R (xs ++ x ∷ []) ys) grown (AllZip-push R xs (map f zs) x (f z) each here)

-- the first i elements of a list, and the next one
pub AllZip-take_next : {X Y : Type 0} (R : X → Y → Type 0) (xs : List X) (i : ℕ) (ys : List Y) (x : X) (y : Y)
    → i < length xs → slice_index_or xs i x ≡ x → AllZip R (take i xs) ys → R x y
    → AllZip R (take (i + 1) xs) (ys ++ y ∷ [])
AllZip-take_next R xs i ys x y within at each here =
    let next : suc i ≡ i + 1 = omega arith in
    subst (λ zs. AllZip R zs (ys ++ y ∷ [])) (ap (λ z. take i xs ++ z ∷ []) (sym at) ∙ sym (take-suc xs i x within)
    ∙ ap (λ n. take n xs) next) (AllZip-push R (take i xs) ys x y each here)

-- a list with nothing left after it is whole
pub nothing_left : {A : Type 0} (whole xs rest : List A) → xs ++ rest ≡ whole → length rest ≡ 0 → xs ≡ whole
nothing_left whole xs [] e none = sym (append-nil xs) ∙ e
nothing_left whole xs (y ∷ ys) e none = absurd (omega (arith, none))

-- one more element of a list that is iterated over
pub one_more : {A : Type 0} (whole xs left rest : List A) (x : A) → xs ++ left ≡ whole → left ≡ x ∷ rest
    → (xs ++ x ∷ []) ++ rest ≡ whole
one_more whole xs left rest x e first = append_assoc xs (x ∷ []) rest ∙ ap (λ ys. xs ++ ys) (sym first) ∙ e
