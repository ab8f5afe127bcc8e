use Rattle.jzon_base.proofs.Common.{◌≡◌, ◌≢◌, ◌∙◌, ◌<◌, refl, ap, sym, arith, cond, true, length, Bool}
use Rattle.jzon_base.specs.Tokens.{end_array}
use Rattle.jzon_tree.specs.View.{view}
use Rattle.jzon.specs.Private.Brackets.{empty_container, after_opener}
use Rattle.jzon.specs.Private.Cursor.{left, next_byte}
use Rattle.jzon.specs.Private.Machine.{before, after_value, is_fresh}
use Rattle.jzon.specs.Private.OpenContainers.{OpenContainers, frames_here}
use Rattle.jzon.specs.Private.Targets.{MayBegin}
use Rattle.jzon.specs.declared.cursor.Cursor.{Cursor}
use Rattle.jzon.proofs.Containers.OpenItems.{kind_here, awaits_here, depth_here, no_mark, added_keeps, added_even}
use Rattle.jzon.proofs.Containers.OpenItems.{added_before, ended_here, goes_to_item}
use Rattle.jzon.proofs.Texts.Cursors.{Reached, reached, reached_start, goes_after, fails_on}
use Rattle.jzon.proofs.parser.Parser.read_value.Goals.{After-end_item}
use Rattle.jzon.proofs.parser.Parser.read_value.Goals as goal

-- ---- a container

pub returns-in_err-open_container-clause-outcome : goal.returns-in_err-open_container-clause-outcome
returns-in_err-open_container-clause-outcome c =
    let t = c.args.self.now.cursor in
    let s = c.args.self.now.stacks in
    fails_on _ c.from_residual.result _ c.from_residual.ensures.1 reached_start
    (c.in_err-open_container.ensures.outcome (frames_here s) (no_mark t s c.requires.room)
    (omega (arith, depth_here s, c.depth-depth.ensures)))

pub returns-then-not-branch-clause-outcome : goal.returns-then-not-branch-clause-outcome
returns-then-not-branch-clause-outcome c =
    let t = c.args.self.now.cursor in
    let s = c.args.self.now.stacks in
    let n = c.open_container.new.self in
    let read = c.in_ok-open_container.ensures.outcome (frames_here s) (no_mark t s c.requires.room)
    (omega (arith, depth_here s, c.depth-depth.ensures)) in (
      read.0,
      read.1 ∙ ap (λ b. left n (cond b (after_value (frames_here s) (empty_container c.in-Some.opened))
          (after_opener c.in-Some.opened (frames_here s)))) c.if-not-branch.true,
    )

-- the container is empty, and was read
came : (c : After-end_item) → Reached c.args.self.now.cursor (before (frames_here c.args.self.now.stacks))
    c.open_container.new.self (after_value (frames_here c.args.self.now.stacks) (view c.in_ok-push_empty.ensures.ok.0))
came c =
    let t = c.args.self.now.cursor in
    let s = c.args.self.now.stacks in
    let n = c.open_container.new.self in
    let read = c.in_ok-open_container.ensures.outcome (frames_here s) (no_mark t s c.requires.room)
    (omega (arith, depth_here s, c.depth-depth.ensures)) in
    reached (
      read.0,
      read.1 ∙ ap (λ b. left n (cond b (after_value (frames_here s) (empty_container c.in-Some.opened))
          (after_opener c.in-Some.opened (frames_here s)))) c.if-not-branch.false
          ∙ ap (λ w. left n (after_value (frames_here s) w)) (sym c.in_ok-push_empty.ensures.ok.1),
    )

pub returns-in_err-end_item-clause-outcome : goal.returns-in_err-end_item-clause-outcome
returns-in_err-end_item-clause-outcome c =
    let s = c.args.self.now.stacks in
    let at = (goal.at.returns-in_err-end_item-clause-outcome c).After-end_item in
    fails_on _ c.from_residual-in_err-end_item.result _ c.from_residual-in_err-end_item.ensures.1 (came at)
    (c.in_err-end_item.ensures _ (frames_here s) (view c.in_ok-push_empty.ensures.ok.0)
    (kind_here s c.args.container c.requires.kind) refl)

pub returns-then-branch-clause-outcome : goal.returns-then-branch-clause-outcome
returns-then-branch-clause-outcome c =
    let s = c.args.self.now.stacks in
    let ok = c.in_ok-push_empty.ensures.ok in
    let at = (goal.at.returns-then-branch-clause-outcome c).After-end_item in
    ended_here c.args.self.now.cursor _ (before (frames_here s)) s _ ok.0 _
    (awaits_here s c.args.container c.requires.kind c.requires.awaits) ok.2 c.if-branch.true
    (goes_after _ (came at) (c.in_ok-end_item.ensures _ (frames_here s) (view ok.0)
    (kind_here s c.args.container c.requires.kind) refl))

pub returns-then-branch-clause-kept : goal.returns-then-branch-clause-kept
returns-then-branch-clause-kept c =
    let ok = c.in_ok-push_empty.ensures.ok in added_keeps _ _ ok.0 ok.2

pub returns-then-branch-clause-after : goal.returns-then-branch-clause-after
returns-then-branch-clause-after c =
    let s = c.args.self.now.stacks in
    let ok = c.in_ok-push_empty.ensures.ok in
    added_even s _ ok.0 (awaits_here s c.args.container c.requires.kind c.requires.awaits) ok.2

pub returns-in-Some-clause-after : goal.returns-in-Some-clause-after
returns-in-Some-clause-after c =
    let s = c.args.self.now.stacks in
    let ok = c.in_ok-push_empty.ensures.ok in
    let at = (goal.at.returns-in-Some-clause-after c).After-end_item in
    let ends = goes_after _ (came at) (c.in_ok-end_item.ensures _ (frames_here s) (view ok.0)
    (kind_here s c.args.container c.requires.kind) refl) in
    added_before _ s _ ok.0 (awaits_here s c.args.container c.requires.kind c.requires.awaits) ok.2
    (omega (arith, c.requires.room, ap (λ r. r.depth) ends.0.reading))

pub returns-in-Some-clause-outcome : goal.returns-in-Some-clause-outcome
returns-in-Some-clause-outcome c =
    let s = c.args.self.now.stacks in
    let ok = c.in_ok-push_empty.ensures.ok in
    let at = (goal.at.returns-in-Some-clause-outcome c).After-end_item in
    goes_to_item c.args.self.now.cursor _ (before (frames_here s)) s _ ok.0 _
    (awaits_here s c.args.container c.requires.kind c.requires.awaits) ok.2 c.if-branch.false
    (goes_after _ (came at) (c.in_ok-end_item.ensures _ (frames_here s) (view ok.0)
    (kind_here s c.args.container c.requires.kind) refl))

-- ---- a primitive

begins : (t : Cursor) (s : OpenContainers) (exact : Bool) → t.reading.exact ≡ exact → length s.around < t.reading.depth
    → (is_fresh (frames_here s) ≡ true → next_byte t ≢ end_array)
    → MayBegin t.reading (frames_here s) t.source.now t.index exact
begins t s exact same room some = record { exactness = same; shallow = no_mark t s room; no_space = t.past_whitespace; no_end = some }

pub returns-in_err-end-clause-outcome : goal.returns-in_err-end-clause-outcome
returns-in_err-end-clause-outcome c =
    let t = c.args.self.now.cursor in
    let s = c.args.self.now.stacks in
    fails_on _ c.from_residual-in_err-end.result _ c.from_residual-in_err-end.ensures.1 reached_start
    (c.in_err-end.ensures.outcome.1 t.reading (frames_here s) (begins t s c.exact_numbers-exact.result (sym c.exact_numbers-exact.ensures) c.requires.room c.requires.some))

pub returns-in_err-end_item-2-clause-outcome : goal.returns-in_err-end_item-2-clause-outcome
returns-in_err-end_item-2-clause-outcome c =
    let t = c.args.self.now.cursor in
    let s = c.args.self.now.stacks in
    let read = c.in_ok-end.ensures.outcome in
    fails_on _ c.from_residual-in_err-end_item-2.result _ c.from_residual-in_err-end_item-2.ensures.1
    reached_start
    (c.in_err-end_item-2.ensures (before (frames_here s)) (frames_here s) (view read.0)
    (kind_here s c.args.container c.requires.kind) (read.2 t.reading (frames_here s) (begins t s c.exact_numbers-exact.result (sym c.exact_numbers-exact.ensures) c.requires.room c.requires.some)))

pub returns-then-branch-2-clause-outcome : goal.returns-then-branch-2-clause-outcome
returns-then-branch-2-clause-outcome c =
    let t = c.args.self.now.cursor in
    let s = c.args.self.now.stacks in
    let read = c.in_ok-end.ensures.outcome in
    ended_here t _ (before (frames_here s)) s _ read.0 _
    (awaits_here s c.args.container c.requires.kind c.requires.awaits) read.1 c.if-branch-2.true
    (c.in_ok-end_item-2.ensures (before (frames_here s)) (frames_here s) (view read.0)
    (kind_here s c.args.container c.requires.kind) (read.2 t.reading (frames_here s) (begins t s c.exact_numbers-exact.result (sym c.exact_numbers-exact.ensures) c.requires.room c.requires.some)))

pub returns-clause-kept : goal.returns-clause-kept
returns-clause-kept c =
    let read = c.in_ok-end.ensures.outcome in
    added_keeps _ _ read.0 read.1

pub returns-clause-after : goal.returns-clause-after
returns-clause-after c =
    let t = c.args.self.now.cursor in
    let s = c.args.self.now.stacks in
    let read = c.in_ok-end.ensures.outcome in
    let ends = c.in_ok-end_item-2.ensures (before (frames_here s)) (frames_here s) (view read.0)
    (kind_here s c.args.container c.requires.kind) (read.2 t.reading (frames_here s) (begins t s c.exact_numbers-exact.result (sym c.exact_numbers-exact.ensures) c.requires.room c.requires.some)) in
    added_before _ s _ read.0 (awaits_here s c.args.container c.requires.kind c.requires.awaits) read.1
    (omega (arith, c.requires.room, ap (λ r. r.depth) ends.0.reading))

pub returns-clause-outcome : goal.returns-clause-outcome
returns-clause-outcome c =
    let t = c.args.self.now.cursor in
    let s = c.args.self.now.stacks in
    let read = c.in_ok-end.ensures.outcome in
    goes_to_item t _ (before (frames_here s)) s _ read.0 _
    (awaits_here s c.args.container c.requires.kind c.requires.awaits) read.1 c.if-branch-2.false
    (c.in_ok-end_item-2.ensures (before (frames_here s)) (frames_here s) (view read.0)
    (kind_here s c.args.container c.requires.kind) (read.2 t.reading (frames_here s) (begins t s c.exact_numbers-exact.result (sym c.exact_numbers-exact.ensures) c.requires.room c.requires.some)))
