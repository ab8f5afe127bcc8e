use Rattle.jzon_base.proofs.Common.{◌∙◌, refl, ap, arith, length}
use Rattle.jzon_tree.specs.View.{view}
use Rattle.jzon.specs.Private.Cursor.{left}
use Rattle.jzon.specs.Private.Machine.{after_value}
use Rattle.jzon.specs.Private.OpenContainers.{frames_around, frames_here, whole, IsClosed}
use Rattle.jzon.proofs.Containers.OpenItems.{added_before, added_even, ended_here, goes_to_item, outer_of, closed_in}
use Rattle.jzon.proofs.Containers.OpenItems.{outer_kind, goes_to}
use Rattle.jzon.proofs.Texts.Cursors.{Reached, reached, goes_after, fails_on}
use Rattle.jzon.proofs.parser.Parser.end_containers.Goals.{After-end_item}
use Rattle.jzon.proofs.parser.Parser.end_containers.Goals as goal

closed : (c : After-end_item) → IsClosed c.loop-self.self.stacks c.close.new.self
closed c = c.in_ok-close.ensures

came : (c : After-end_item) → Reached c.args.self.now.cursor
    (after_value (frames_around c.args.self.now.stacks) (whole c.args.self.now.stacks.innermost))
    c.loop-self.self.cursor (after_value (frames_here (outer_of (closed c))) (view (closed c).value))
came c = record {
  text = c.loop-self.invariant.came.text;
  reading = c.loop-self.invariant.came.reading;
  within = c.loop-self.invariant.came.within;
  same = c.loop-self.invariant.came.same ∙ ap (left c.loop-self.self.cursor) (closed_in (closed c));
}

pub returns-in_err-end_item-clause-outcome : goal.returns-in_err-end_item-clause-outcome
returns-in_err-end_item-clause-outcome c s o h =
    let at = (goal.at.returns-in_err-end_item-clause-outcome c).After-end_item in
    fails_on _ c.from_residual-in_err-end_item.result _ c.from_residual-in_err-end_item.ensures.1
    (reached (goes_to o h (came at)))
    (c.in_err-end_item.ensures _ (frames_here (outer_of (closed at))) (view (closed at).value)
    (outer_kind (closed at) _ c.innermost_kind-container.ensures) refl)

-- the bracket or the comma after the container was read
pub returns-then-not-branch-clause-after : goal.returns-then-not-branch-clause-after
returns-then-not-branch-clause-after c =
    let at = (goal.at.returns-then-not-branch-clause-after c).After-end_item in
    let ends = c.in_ok-end_item.ensures _ (frames_here (outer_of (closed at))) (view (closed at).value)
    (outer_kind (closed at) _ c.innermost_kind-container.ensures) refl in
    added_before _ (outer_of (closed at)) _ (closed at).value (closed at).added.awaits (closed at).added.closed
    (omega (
      arith,
      c.loop-self.invariant.room,
      ap length (closed at).added.around,
      ap (λ r. r.depth) ends.0.reading,
    ))

pub returns-then-not-branch-clause-outcome : goal.returns-then-not-branch-clause-outcome
returns-then-not-branch-clause-outcome c s o h =
    let at = (goal.at.returns-then-not-branch-clause-outcome c).After-end_item in
    goes_to_item s _ o (outer_of (closed at)) _ (closed at).value _ (closed at).added.awaits (closed at).added.closed
    c.if-not-branch.true
    (goes_after _ (reached (goes_to o h (came at)))
    (c.in_ok-end_item.ensures _ (frames_here (outer_of (closed at))) (view (closed at).value)
    (outer_kind (closed at) _ c.innermost_kind-container.ensures) refl))

pub loop-self-smaller : goal.loop-self-smaller
loop-self-smaller c =
    let at = (goal.at.loop-self-smaller c).After-end_item in
    let ends = c.in_ok-end_item.ensures _ (frames_here (outer_of (closed at))) (view (closed at).value)
    (outer_kind (closed at) _ c.innermost_kind-container.ensures) refl in
    omega (arith, ends.0.index, ap length ends.0.text, c.end_item.new.self.boundary.0)

pub loop-self-preserved : goal.loop-self-preserved
loop-self-preserved c =
    let at = (goal.at.loop-self-preserved c).After-end_item in
    let ends = c.in_ok-end_item.ensures _ (frames_here (outer_of (closed at))) (view (closed at).value)
    (outer_kind (closed at) _ c.innermost_kind-container.ensures) refl in
    record {
      strict = ap (λ z. z.strict) (closed at).added.closed ∙ c.loop-self.invariant.strict;
      even = added_even (outer_of (closed at)) _ (closed at).value (closed at).added.awaits (closed at).added.closed;
      room = omega (
        arith,
        c.loop-self.invariant.room,
        ap length (closed at).added.around,
        ap (λ z. length z.around) (closed at).added.closed,
        ap (λ r. r.depth) ends.0.reading,
      );
      came = reached (ended_here c.args.self.now.cursor _ _ (outer_of (closed at)) _ (closed at).value _
          (closed at).added.awaits (closed at).added.closed c.if-not-branch.false (goes_after _ (came at) ends));
    }
