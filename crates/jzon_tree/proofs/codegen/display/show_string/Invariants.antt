use Rattle.jzon_base.proofs.Common.{List, ℕ, length, HasWritten, IsPlainFormatter}
use Rattle.jzon_tree.proofs.Printing.FormattedPieces.{TextLeft}
use Rattle.jzon_tree.proofs.codegen.display.show_string.Given as goal

-- what has been shown and what is left make up the string
abbrev pub invariant-loop-byte : goal.invariant-loop-byte
invariant-loop-byte g l =
    IsPlainFormatter l.fn.f → (x : List ℕ) × HasWritten g.W.Write.write_str_gives l.fn.f x l.f
    × TextLeft l.fn.text l.rest x

abbrev pub decreases-loop-byte : goal.decreases-loop-byte
decreases-loop-byte g l = length l.rest
