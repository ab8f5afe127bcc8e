use Rattle.std.proofs.Common.{option_map, sym, ◌∙◌}
use Rattle.jzon.specs.Entries.{entries_of}
use Rattle.jzon.specs.Readers.{or_null}
use Rattle.jzon.specs.View.{view, viewed}
use Rattle.jzon_tools.proofs.MergeDiffSteps.{change-put, merges-whole, put-viewed}
use Rattle.jzon_tools.proofs.merge.changes.leaf.Goals as goal

pub returns-clause-ok : goal.returns-clause-ok
returns-clause-ok c =
    let o = option_map (λ v. view v.now) c.args.old in
    let v = view c.args.new.now in
    λ _. change-put c.args.key.now o v v (viewed (entries_of c.args.patch.now)) (viewed (entries_of c.insert.new.self))
    (sym c.is_null.ensures ∙ c.if-is_null.false) (merges-whole (or_null o) v c.requires)
    (put-viewed c.args.key.now c.in_ok-clone.field-0 v (entries_of c.args.patch.now) (entries_of c.insert.new.self)
    c.in_ok-insert.ensures.ok c.in_ok-clone.ensures.copy)
