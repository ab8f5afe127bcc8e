use Rattle.jzon_base.proofs.Common.{◌≡◌, ◌≢◌, ◌∙◌, ◌<◌, None, length, sym, arith}
use Rattle.jzon.specs.Private.Brackets.{closer, after_opener}
use Rattle.jzon.specs.Private.Cursor.{next_byte}
use Rattle.jzon.specs.Private.Machine.{Frames, before, value_mark}
use Rattle.jzon.proofs.Containers.ContainerTokens.{opener_bounds, opens, empty_closes, left_open, item_too_deep}
use Rattle.jzon.proofs.Texts.Cursors.{Reached, reached, goes_after, reported_on}
use Rattle.jzon.proofs.cursor.Cursor.open_container.Goals.{After-bump}
use Rattle.jzon.proofs.cursor.Cursor.open_container.Goals as goal

pub bump-requires : goal.bump-requires
bump-requires c =
    let bounds = opener_bounds c.args.kind in
    record { some = omega (arith, bounds.0, c.requires.opening); ascii = omega (arith, bounds.1, c.requires.opening) }

-- the opening bracket was read
at_first : (c : After-bump) (fs : Frames) → value_mark c.args.self.now.reading fs ≡ None
    → Reached c.args.self.now (before fs) c.bump.new.self (after_opener c.args.kind fs)
at_first c fs mark = reached
    (opens c.args.kind c.args.self.now c.bump.new.self fs c.bump.ensures c.requires.opening mark)

pub returns-then-first-closer-clause-outcome : goal.returns-then-first-closer-clause-outcome
returns-then-first-closer-clause-outcome c fs mark depth =
    goes_after _ (at_first (goal.at.returns-then-first-closer-clause-outcome c).After-bump fs mark)
    (empty_closes c.args.kind c.bump.new.self c.bump-then-first-closer.new.self fs c.bump-then-first-closer.ensures
    (sym c.peek-first.ensures ∙ c.if-first-closer.true ∙ c.closer.ensures))

pub returns-then-self-clause-outcome : goal.returns-then-self-clause-outcome
returns-then-self-clause-outcome c fs mark depth =
    reported_on c.fault.result
    (at_first (goal.at.returns-then-self-clause-outcome c).After-bump fs mark)
    (left_open c.args.kind c.bump.new.self fs c.fault.result (omega arith) c.fault.ensures)

pub returns-then-depth-from-clause-outcome : goal.returns-then-depth-from-clause-outcome
returns-then-depth-from-clause-outcome c fs mark depth =
    let b = c.args.kind in
    let m = c.bump.new.self in
    let lt : m.index < length m.source.now = omega (arith, m.boundary.0) in
    let other : next_byte m ≢ closer b = λ f. c.if-first-closer.false
    (c.peek-first.ensures ∙ f ∙ sym c.closer.ensures) in
    reported_on c.too_deep.result
    (at_first (goal.at.returns-then-depth-from-clause-outcome c).After-bump fs mark)
    (rw c.too_deep.ensures (item_too_deep b m fs lt other
    (omega (arith, depth, c.if-depth-from.true, c.from.ensures, c.depth.ensures.depth))))

pub returns-clause-outcome : goal.returns-clause-outcome
returns-clause-outcome c fs mark depth =
    opens c.args.kind c.args.self.now c.bump.new.self fs c.bump.ensures c.requires.opening mark
