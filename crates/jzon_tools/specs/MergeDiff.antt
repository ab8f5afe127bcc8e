-- The merge patch that turns a value into another.
use Rattle.std.specs.Prelude.{◌≡◌, ◌≢◌, ◌⊎◌, ℕ, List, true, false, if◌then◌else◌, Option, None, Some, IfSome, AllPairs, is_some}
use Rattle.jzon.specs.Lawful.{IsValue}
use Rattle.jzon.specs.PairList.{find, put, keys_of}
use Rattle.jzon.specs.Readers.{is_null, or_null}
use Rattle.jzon.specs.Same.{same}
use Rattle.jzon.specs.SameLaws.{same_at}
use Rattle.jzon.specs.Value.{Value}
use Rattle.jzon_tools.specs.Merge.{merged}

-- the patch turns the old value into one that is equal to the new one
abbrev pub MergesInto : Value → Value → Value → Type 0
MergesInto old new p = same (merged true old p) new ≡ true

-- no merge patch that a program can hold does
abbrev pub NoneMergesInto : Value → Value → Type 0
NoneMergesInto old new = (p : Value) → IsValue p → same (merged true old p) new ≡ false

-- what a member of a patch, if any, makes of the old member
abbrev pub member_after : Option Value → Option Value → Option Value
member_after old None = old
member_after old (Some w) = if is_null w then None else Some (merged true (or_null old) w)

-- Entries of a patch after those before: one more makes of the old member of the key one that equals the new value, or
-- both are equal, and there is no more.
abbrev pub AddsChange : List ℕ → Option Value → Value → List (List ℕ × Value) → List (List ℕ × Value) → Type 0
AddsChange key old new before after = ((after ≡ before) × (same_at old (Some new) ≡ true))
    ⊎ ((w : Value) × (after ≡ put key w before) × (same_at (member_after old (Some w)) (Some new) ≡ true))

-- no member of a patch does so, nor is there none
abbrev pub NoneChanges : Option Value → Value → Type 0
NoneChanges old new = (w : Option Value) → IfSome w IsValue → same_at (member_after old w) (Some new) ≡ false

-- the entries of a patch that remove the old members that the new ones haven't, and name no other
abbrev pub Removes : List (List ℕ × Value) → List (List ℕ × Value) → List (List ℕ × Value) → Type 0
Removes old new rs = AllPairs (λ i j. i ≢ j) (keys_of rs)
    × ((k : List ℕ) → find k new ≡ None → member_after (find k old) (find k rs) ≡ None)
    × ((k : List ℕ) → is_some (find k new) ≡ true → find k rs ≡ None)
