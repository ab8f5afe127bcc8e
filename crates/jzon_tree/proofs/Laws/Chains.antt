-- The list that a chain of iterator calls over a value's members or elements goes over, for callers: where std's lemmas
-- on `all`, `any`, `position`, `find`, `map` and the like take a `YieldsList`, these give it.
use Rattle.jzon_base.proofs.Common.{◌≡◌, ℕ, List, map, length, Option, ap, ◌∙◌, subst, length-map, Bor, iter_rest}
use Rattle.std.proofs.lemmas.Iterator.{YieldsList}
use Rattle.std.proofs.lemmas.Iterator.Consumers.{YieldsList-from_shown}
use Rattle.std.specs.Iterator.{YieldsFirstBy, YieldsFirstRef}
use Rattle.std.specs.Slice.Iter.{iter_steps}
use Rattle.std.specs.declared.slice.Iter.{Iter}
use Rattle.jzon_tree.specs.Value.{Value}
use Rattle.jzon_tree.specs.View.{view, viewed}
use Rattle.jzon_tree.specs.declared.value.JsonValue.{JsonValue}

-- the member or the element behind what `next` returns
abbrev pub seen_entry : Bor (List ℕ) × Bor JsonValue → List ℕ × Value
seen_entry p = (p.0.now, view p.1.now)

abbrev pub seen_element : Bor JsonValue → Value
seen_element x = view x.now

-- how `entries()`, `Object::iter` and `keys()` step; `members()` and `values()` step as a slice's `iter`
abbrev pub entry_steps : List (List ℕ × JsonValue) → Option (Bor (List ℕ) × Bor JsonValue) → List (List ℕ × JsonValue)
    → Type 0
entry_steps = YieldsFirstBy (λ x. (x.0.now, x.1.now)) (λ s. s)

abbrev pub key_steps : List (List ℕ) → Option (Bor (List ℕ)) → List (List ℕ) → Type 0
key_steps = YieldsFirstRef (λ s. s)

pub YieldsList-from_entries : {s : List (List ℕ × JsonValue)} (ps : List (List ℕ × Value)) → viewed s ≡ ps
    → YieldsList entry_steps seen_entry s ps
YieldsList-from_entries {s} ps e =
    subst (λ qs. YieldsList entry_steps seen_entry s qs) e
    (YieldsList-from_shown entry_steps seen_entry viewed (λ a b h. ap (λ l. length (viewed l)) h.0)
    (λ a x b h. ap viewed h) s)

pub YieldsList-from_elements : {s : Iter JsonValue} (vs : List Value) → map view (iter_rest s) ≡ vs
    → YieldsList iter_steps seen_element s vs
YieldsList-from_elements {s} vs e =
    subst (λ ws. YieldsList iter_steps seen_element s ws) e
    (YieldsList-from_shown iter_steps seen_element (λ a. map view (iter_rest a))
    (λ a b h. length-map (iter_rest a) view ∙ h.0) (λ a x b h. ap (λ l. map view l) h) s)

pub YieldsList-from_keys : {s : List (List ℕ)} (ks : List (List ℕ)) → s ≡ ks → YieldsList key_steps (λ x. x.now) s ks
YieldsList-from_keys {s} ks e =
    subst (λ ls. YieldsList key_steps (λ x. x.now) s ls) e
    (YieldsList-from_shown key_steps (λ x. x.now) (λ a. a) (λ a b h. ap length h.0) (λ a x b h. h) s)
