use Rattle.jzon_base.proofs.Common.{List, ℕ, HasWritten, IsPlainFormatter}
use Rattle.jzon_tree.specs.Entries.{entries_of}
use Rattle.jzon_tree.proofs.Printing.FormattedPieces.{ItemsLeft, item_text, entry_text}
use Rattle.jzon_tree.proofs.codegen.display.+show.Given as goal

-- what has been shown and what is left make up the container
abbrev pub invariant-show_array-loop-index : goal.invariant-show_array-loop-index
invariant-show_array-loop-index g l =
    IsPlainFormatter l.fn.f
    → (x : List ℕ) × HasWritten g.W.Write.write_str_gives l.fn.f x l.f × ItemsLeft item_text 91 93 l.fn.items l.index x

abbrev pub invariant-show_object-loop-index : goal.invariant-show_object-loop-index
invariant-show_object-loop-index g l =
    IsPlainFormatter l.fn.f
    → (x : List ℕ) × HasWritten g.W.Write.write_str_gives l.fn.f x l.f
    × ItemsLeft entry_text 123 125 (entries_of l.fn.object) l.index x
