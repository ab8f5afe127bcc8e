use Rattle.std.proofs.Common.{◌≡◌, ◌*◌, ◌+◌, List, ℕ, take, false}
use Rattle.std.specs.List.{list_any}
use Rattle.jzon.specs.Entries.{entries_of}
use Rattle.jzon.specs.Generator.{Adds, Just}
use Rattle.jzon.specs.Measure.{size, largest, largest_under}
use Rattle.jzon.proofs.FormattedPieces.{ItemsLeft}
use Rattle.jzon_tools.proofs.CanonicalPieces.{item_text, entry_text, item_nan, entry_nan}
use Rattle.jzon_tools.proofs.canonical.+write.Given as goal

-- what has been written and what is left make up the container, and no NaN has been met
abbrev pub invariant-write_array-loop-index : goal.invariant-write_array-loop-index
invariant-write_array-loop-index g l =
    ((x : List ℕ) × Adds (Just x) (g.G.Generator.meaning l.fn.text).out (g.G.Generator.meaning l.text).out
    × ItemsLeft item_text 91 93 l.items l.index x)
    × (list_any item_nan (take l.index l.items) ≡ false)

abbrev pub invariant-write_object-loop-index : goal.invariant-write_object-loop-index
invariant-write_object-loop-index g l =
    ((x : List ℕ) × Adds (Just x) (g.G.Generator.meaning l.fn.text).out (g.G.Generator.meaning l.text).out
    × ItemsLeft entry_text 123 125 l.entry-items l.index x)
    × (list_any entry_nan (take l.index l.entry-items) ≡ false)

abbrev pub decreases-write_value : goal.decreases-write_value
decreases-write_value g l = 3 * size l.value.now

abbrev pub decreases-write_array : goal.decreases-write_array
decreases-write_array g l = 3 * largest l.items.now + 2

abbrev pub decreases-write_object : goal.decreases-write_object
decreases-write_object g l = 3 * largest_under (entries_of l.object.now) + 2
