use Rattle.jzon_tree.specs.Private.Buffered.{known_len}
use Rattle.jzon_tree.proofs.value.JsonValue.write_layout.Given as goal

abbrev pub ghosts-write_in : goal.ghosts-write_in
ghosts-write_in g a = record { start = known_len (g.W.Write.contents a.writer.now) }
