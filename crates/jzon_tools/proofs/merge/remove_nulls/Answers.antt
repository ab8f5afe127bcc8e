use Rattle.std.proofs.Common.{rules}
use Rattle.std.proofs.lemmas.Map.Made.{filter_same_pairs}
use Rattle.jzon.specs.Entries.{entries_of}
use Rattle.jzon.specs.View.{viewed}
use Rattle.jzon_tools.proofs.Removals.{keeps, removed-first}
use Rattle.jzon_tools.proofs.merge.remove_nulls.Goals as goal

pub returns : goal.returns
returns c =
    let es = entries_of c.args.object.now in
    let ms = entries_of c.args.members.now in
    removed-first c.args.drops_nulls es (entries_of c.retain.new.self) ms c.if-not-drops_nulls.false
    c.len.ensures.distinct c.len-2.ensures.distinct
    (filter_same_pairs _ (λ e. keeps (viewed ms) e.0) _ (λ k v b w f' t. search rules) _ _ c.retain.ensures)
