use Rattle.jzon_base.proofs.Common.{◌∙◌, refl, sym, ap}
use Rattle.jzon.specs.Private.Cursor.{left}
use Rattle.jzon.specs.Private.OpenContainers.{before_item}
use Rattle.jzon.proofs.Containers.OpenItems.{before_first}
use Rattle.jzon.proofs.Texts.Cursors.{reads_from}
use Rattle.jzon.proofs.parser.read_container.Goals as goal

pub returns : goal.returns
returns c =
    let t = c.args.cursor.now in
    reads_from _ _ t (before_item c.in_ok-stacks.stacks) c.read_to_end.result refl
    (ap (left t) (sym (before_first c.args.cursor.now.reading.strict c.args.kind))
    ∙ ap (λ s. left t (before_item s)) (sym c.in_ok-stacks.ensures.ok))
    c.read_to_end.ensures
