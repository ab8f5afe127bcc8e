use Rattle.std.proofs.Common.{◌≡◌, ◌<◌, ◌||◌, ◌==◌, ℕ, List, [], nat_lt, nat_le, if◌then◌else◌, codes, arith}
use Rattle.std.proofs.Output.{has_written_of_eq, writes_in_calls_nil}
use Rattle.std.proofs.lemmas.Bool.Decides.{nat_tests}
use Rattle.jzon_pointer.specs.Shown.{shown_char}
use Rattle.jzon_pointer.proofs.shown.show_piece.Goals as goal

nothing : (front last at : ℕ) (s : List ℕ) → front < at → at < last
    → [] ≡ (if nat_lt at front || nat_le last at then s else (if at == front then codes ".." else []))
nothing front last at s after before = grind (arith, nat_tests)

pub returns : goal.returns
returns g c = λ plain ok.
    has_written_of_eq g.W.Write.write_str_gives _ _ _ _
    (nothing c.args.front c.args.last c.args.at (shown_char c.args.ch)
    (omega (arith, c.if-at-front.false, c.if-at-front-2.false)) (omega (arith, c.if-last-at.false)))
    (record { wrote = writes_in_calls_nil _ _; plain = plain })
