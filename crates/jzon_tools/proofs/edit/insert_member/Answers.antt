use Rattle.std.proofs.Common.{◌≡◌, Some, option_map, string_bytes, sym, ap, ◌∙◌}
use Rattle.jzon.specs.Entries.{entries_of}
use Rattle.jzon.specs.PairList.{put}
use Rattle.jzon.specs.Value.{object as seen, pairs_of}
use Rattle.jzon.specs.View.{viewed}
use Rattle.jzon_pointer.specs.Pointer.{token_key}
use Rattle.jzon_tools.proofs.EditSteps.{member-new}
use Rattle.jzon_tools.proofs.edit.insert_member.Goals as goal

pub returns-then-is_plain-clause-ok : goal.returns-then-is_plain-clause-ok
returns-then-is_plain-clause-ok c =
    let token = c.args.token.now in
    member-new c.args.object.now token c.args.new (Some token) (c.is_plain.ensures c.if-is_plain.true)
    ∙ ap (λ es. Some (seen (pairs_of (viewed es)))) (sym c.in_ok-insert.ensures.ok)

pub returns-in_ok-insert-in-Some-clause-ok : goal.returns-in_ok-insert-in-Some-clause-ok
returns-in_ok-insert-in-Some-clause-ok c =
    let token = c.args.token.now in
    let key = string_bytes c.in-Some.key in
    let named : token_key token ≡ Some key = sym c.in_ok-key.ensures ∙ ap (option_map string_bytes) c.in-Some.is in
    let put_there : entries_of c.insert-in-Some.new.self ≡ put key c.args.new (entries_of c.args.object.now) =
    c.in_ok-insert-in-Some.ensures.ok ∙ ap (λ k. put k c.args.new (entries_of c.args.object.now)) c.as_str.ensures.value in
    member-new c.args.object.now token c.args.new (Some key) named
    ∙ ap (λ es. Some (seen (pairs_of (viewed es)))) (sym put_there)
