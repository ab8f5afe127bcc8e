-- What the operations that `diff` makes do, wherever the value that they change stands.
use Rattle.std.specs.Prelude.{◌≡◌, ◌≢◌, ℕ, List, [], ◌∷◌, ◌++◌, true, Option, Some, option_and_then, AllPairs, length, map, take, drop}
use Rattle.jzon.specs.PairList.{find, keys_of}
use Rattle.jzon.specs.Same.{same, same_items}
use Rattle.jzon.specs.SameLaws.{same_at}
use Rattle.jzon.specs.Value.{Value, array, object, pairs_of, values_of}
use Rattle.jzon.specs.View.{view}
use Rattle.jzon_tools.specs.Patch.{applied, applied_each, added_at, operated}
use Rattle.jzon_tools.specs.declared.patch.changes.Changes.{Changes}
use Rattle.jzon_pointer.specs.Pointer.{child_of, tokens_of, updated, updated_at, removed_at}

-- the patch turns the old value into one that is equal to the new one
abbrev pub TurnsInto : Value → Value → Value → Type 0
TurnsInto old new p = (w : Value) × (applied p old ≡ Some w) × (same w new ≡ true)

-- what the tokens lead to
abbrev pub value_below : Value → List (List ℕ) → Option Value
value_below v [] = Some v
value_below v (t ∷ ts) = option_and_then (λ c. value_below c ts) (child_of v t)

-- the operations turn what the tokens lead to from u into w, in whatever value they lead there
abbrev pub TurnsAt : List (List ℕ) → List Value → Value → Value → Type 0
TurnsAt ts ops u w = (d : Value) → value_below d ts ≡ Some u
    → (e : Value) × (applied_each (values_of ops) d ≡ Some e) × (updated (λ _. Some w) d ts ≡ Some e)

-- After the operations before there are more, which turn the value at the path from u into one that is equal to v. None
-- do this if the values are equal.
abbrev pub AddsChanges : List ℕ → Value → Value → List Value → List Value → Type 0
AddsChanges path u v before after = (ops : List Value) × (after ≡ before ++ ops)
    × ((ts : List (List ℕ)) → tokens_of path ≡ Some ts → (w : Value) × (same w v ≡ true) × TurnsAt ts ops u w)
    × (same u v ≡ true → ops ≡ [])

-- Entries with distinct keys are turned into others: at this key there is a value equal to that of the new ones, or
-- none if these have none, and at each other key the same as before.
abbrev pub ChangesMember : List (List ℕ) → List Value → List ℕ → List (List ℕ × Value) → List (List ℕ × Value) → Type 0
ChangesMember ts ops k new qs = (rs : List (List ℕ × Value)) × AllPairs (λ i j. i ≢ j) (keys_of rs)
    × (same_at (find k rs) (find k new) ≡ true) × ((j : List ℕ) → j ≢ k → find j rs ≡ find j qs)
    × TurnsAt ts ops (object (pairs_of qs)) (object (pairs_of rs))

-- After the operations before there are more, which change the entry of a key. None do this if its values are equal.
abbrev pub AddsMember : List ℕ → List ℕ → List (List ℕ × Value) → List (List ℕ × Value) → List Value → List Value
    → Type 0
AddsMember path k old new before after = (ops : List Value) × (after ≡ before ++ ops)
    × ((ts : List (List ℕ)) → tokens_of path ≡ Some ts → (qs : List (List ℕ × Value))
    → AllPairs (λ i j. i ≢ j) (keys_of qs) → find k qs ≡ find k old → ChangesMember ts ops k new qs)
    × (same_at (find k old) (find k new) ≡ true → ops ≡ [])

-- the values of one list equal those of the other, in their order
abbrev pub AllSame : List Value → List Value → Type 0
AllSame us vs = same_items (values_of us) (values_of vs) ≡ true

-- elements that equal so many of the new ones, and then those of the old ones from an index on
abbrev pub IsPartly : List Value → List Value → ℕ × ℕ → List Value → Type 0
IsPartly us vs at ws = (ds : List Value) × (length ds ≡ at.0) × AllSame ds (take at.0 vs) × (ws ≡ ds ++ drop at.1 us)

-- After the operations before there are more, which bring the elements from one such state to another. None do this if
-- the old and the new ones are equal.
abbrev pub AddsElements : List ℕ → List Value → List Value → ℕ × ℕ → ℕ × ℕ → List Value → List Value → Type 0
AddsElements path us vs from to before after = (ops : List Value) × (after ≡ before ++ ops)
    × ((ts : List (List ℕ)) → tokens_of path ≡ Some ts → (ws : List Value) → IsPartly us vs from ws
    → (xs : List Value) × IsPartly us vs to xs × TurnsAt ts ops (array (values_of ws)) (array (values_of xs)))
    × (AllSame us vs → ops ≡ [])

-- the path, and a token after it
abbrev pub IsBelow : List ℕ → List ℕ → List ℕ → Type 0
IsBelow path t p = (p ≡ path ++ 47 ∷ t)
    × ((ts : List (List ℕ)) → tokens_of path ≡ Some ts → tokens_of p ≡ Some (ts ++ t ∷ []))

-- the operations of the patch so far
abbrev pub operations_of : Changes → List Value
operations_of c = map view c.operations.items

-- the operation replaces what is at the path
abbrev pub Replaces : List ℕ → Value → Value → Type 0
Replaces path w op = (v : Value) → operated op v ≡ updated_at (λ _. Some w) v path

-- it adds a value there
abbrev pub Adds : List ℕ → Value → Value → Type 0
Adds path w op = (v : Value) → operated op v ≡ added_at w v path

-- it removes what is there
abbrev pub Removes : List ℕ → Value → Type 0
Removes path op = (v : Value) → operated op v ≡ removed_at v path
