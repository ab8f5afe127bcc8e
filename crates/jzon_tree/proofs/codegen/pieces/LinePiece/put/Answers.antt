use Rattle.jzon_base.proofs.Common.{◌+◌, ◌++◌, ◌∙◌, ap, arith, sym, take, length-take-le, take-take, take-append-drop}
use Rattle.jzon_base.proofs.Common.{List, ℕ}
use Rattle.jzon_tree.proofs.Printing.SpaceRuns.{line_cut}
use Rattle.jzon_tree.proofs.codegen.pieces.LinePiece.put.Goals.{then-not-seeded, else-not-seeded}
use Rattle.jzon_tree.proofs.codegen.pieces.LinePiece.put.Goals as goal

pub returns-clause-text : goal.returns-clause-text
returns-clause-text c =
    let room : List ℕ = c.args.room.now in
    let start : ℕ = c.args.start in
    let end : ℕ = start + (c.args.self.0 + 1) in
    let before : List ℕ = take start room in
    let cut = line_cut before start 7 c.args.self.0 (sym (length-take-le start room (omega (arith, c.requires.room))))
    (omega (arith, c.requires.short)) in
    elim c.if-not-seeded.branch [
      | then-not-seeded w ↦
          ap (take end) w.room-is
          ∙ sym (take-take end (start + 8) w.put_newline_and_spaces.new.room (omega (arith, c.requires.short)))
          ∙ ap (take end) w.put_newline_and_spaces.ensures.text ∙ cut
      | else-not-seeded w ↦
          ap (take end) (w.room-is ∙ sym (take-append-drop start room)
          ∙ ap (λ (l : List ℕ). before ++ l) (c.requires.seed w.if-not-seeded.false)) ∙ cut
    ]
