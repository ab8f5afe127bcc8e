use Rattle.std.specs.Prelude.{string_bytes}
use Rattle.jzon_tree.specs.View.{view}
use Rattle.jzon.specs.Reading.{usual}
use Rattle.jzon.proofs.ReadBack.MeaningHeld.{dumped_reads}
use Rattle.jzon_parse_tests.proofs.texts.printed_again.Goals as goal

pub returns : goal.returns
returns c =
    dumped_reads usual (view c.in_ok-value.value) (string_bytes c.in_ok-printed.printed) c.redump.ensures
    c.in_ok-value.ensures.readable
    c.in_ok-printed.ensures.text
