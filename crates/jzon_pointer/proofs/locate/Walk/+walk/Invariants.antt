use Rattle.std.proofs.Common.{◌≡◌, ◌-◌, ◌*◌, ◌≤◌, ◌∷◌, ℕ, List, drop, length}
use Rattle.jzon_pointer.proofs.LocateFinds.{Inside, texts}
use Rattle.jzon_pointer.proofs.locate.Walk.+walk.Given as goal

abbrev pub invariant-find_member-entries : goal.invariant-find_member-entries
invariant-find_member-entries l = record {
  within : (l.fn.spot.value ≤ l.name) × (l.name ≤ length l.bytes);
  inside : (us : List (List ℕ)) (t : List ℕ) → drop l.fn.level (texts l.fn.self.tokens.items) ≡ t ∷ us
      → Inside l.fn.self.text.now l.fn.self.unique l.fn.self.depth l.fn.level us t l.fn.spot l.name l.found;
}

abbrev pub decreases-find_member-entries : goal.decreases-find_member-entries
decreases-find_member-entries l = length l.bytes - l.name

abbrev pub decreases-find : goal.decreases-find
decreases-find l = 3 * (length l.self.now.tokens.items - l.level)

abbrev pub decreases-find_element : goal.decreases-find_element
decreases-find_element l = 3 * (length l.self.now.tokens.items - l.level) - 1

abbrev pub decreases-find_member : goal.decreases-find_member
decreases-find_member l = 3 * (length l.self.now.tokens.items - l.level) - 1

abbrev pub decreases-pass_entry : goal.decreases-pass_entry
decreases-pass_entry l = 3 * (length l.self.now.tokens.items - l.level) - 2
