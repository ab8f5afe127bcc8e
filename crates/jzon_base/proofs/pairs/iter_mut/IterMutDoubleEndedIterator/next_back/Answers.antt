use Rattle.jzon_base.proofs.Common.{◌≡◌, ◌∙◌, ◌+◌, ap, length, rules, length_push, zip}
use Rattle.std.specs.Slice.Iter as slice
use Rattle.jzon_base.specs.IterMut.{iter_mut_rest}
use Rattle.jzon_base.proofs.Entries.Zips.{length-last, zip-last}
use Rattle.jzon_base.proofs.pairs.iter_mut.IterMutDoubleEndedIterator.next_back.Goals as goal

pub returns-clause-steps : goal.returns-clause-steps
returns-clause-steps g c =
    zip-last c.args.self.now.keys c.next_back.new.self (slice.iter_mut_rest c.args.self.now.values)
    (slice.iter_mut_rest c.next_back-2.new.self) c.in_ok-next_back.field-0.now c.in_ok-next_back-2.field-0.now
    c.in_ok-next_back.ensures.steps c.in_ok-next_back-2.ensures.steps c.args.self.now.as_many

pub returns-clause-goes : goal.returns-clause-goes
returns-clause-goes g c =
    let keys = c.next_back.new.self in
    let values = slice.iter_mut_rest c.next_back-2.new.self in
    let even : length values ≡ length keys = length-last c.args.self.now.keys keys
    (slice.iter_mut_rest c.args.self.now.values) values c.in_ok-next_back.field-0.now c.in_ok-next_back-2.field-0.now
    c.in_ok-next_back.ensures.steps c.in_ok-next_back-2.ensures.steps c.args.self.now.as_many in
    let shorter : length (iter_mut_rest c.args.self.now) ≡ length (zip keys values) + 1 = ap length
    (returns-clause-steps g c) ∙ length_push (zip keys values) (c.in_ok-next_back.field-0.now, c.in_ok-next_back-2.field-0.now) in
    search (rules, shorter, even)
