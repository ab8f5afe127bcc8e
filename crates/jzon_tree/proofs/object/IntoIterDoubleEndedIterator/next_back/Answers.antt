use Rattle.jzon_base.proofs.Common.{◌≡◌, ◌∙◌, ◌+◌, ap, length, rules, length_push, zip, into_iter_items}
use Rattle.jzon_base.proofs.Entries.Zips.{length-last, zip-last}
use Rattle.jzon_tree.specs.IntoIter.{entries_left}
use Rattle.jzon_tree.proofs.object.IntoIterDoubleEndedIterator.next_back.Goals as goal

pub returns-clause-steps : goal.returns-clause-steps
returns-clause-steps c =
    zip-last (into_iter_items c.args.self.now.keys) (into_iter_items c.next_back.new.self)
    (into_iter_items c.args.self.now.values) (into_iter_items c.next_back-2.new.self) c.in_ok-next_back.field-0 c.in_ok-next_back-2.field-0
    c.in_ok-next_back.ensures.steps c.in_ok-next_back-2.ensures.steps c.args.self.now.as_many

pub returns-clause-goes : goal.returns-clause-goes
returns-clause-goes c =
    let keys = into_iter_items c.next_back.new.self in
    let values = into_iter_items c.next_back-2.new.self in
    let even : length values ≡ length keys = length-last (into_iter_items c.args.self.now.keys) keys
    (into_iter_items c.args.self.now.values) values c.in_ok-next_back.field-0 c.in_ok-next_back-2.field-0
    c.in_ok-next_back.ensures.steps c.in_ok-next_back-2.ensures.steps c.args.self.now.as_many in
    let shorter : length (entries_left c.args.self.now) ≡ length (zip keys values) + 1 = ap length
    (returns-clause-steps c) ∙ length_push (zip keys values) (c.in_ok-next_back.field-0, c.in_ok-next_back-2.field-0) in
    search (rules, shorter, even)
