use Rattle.jzon_base.proofs.Common.{◌≡◌, ◌+◌, drop, IsCharBoundary}
use Rattle.jzon_tree.specs.Value.{Value}
use Rattle.jzon.specs.Reading.{Reading}
use Rattle.jzon.specs.Private.Machine.{Frames, past_letter, from}
use Rattle.jzon.proofs.primitive.read_letters.Given as goal

abbrev pub invariant-loop-letter : goal.invariant-loop-letter
invariant-loop-letter l =
    (l.index ≡ l.start + l.letter-index)
    × IsCharBoundary l.source l.index
    × ((r : Reading) (fs : Frames) (v : Value) → from r l.source (past_letter fs v l.letters) l.start
    ≡ from r l.source (past_letter fs v (drop l.letter-index l.letters)) l.index)
