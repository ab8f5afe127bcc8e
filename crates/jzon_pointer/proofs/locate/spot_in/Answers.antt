use Rattle.std.proofs.Common.{◌≡◌, ◌∙◌, List, ℕ, Bool, drop, subst}
use Rattle.jzon_pointer.specs.Private.Walk.{Finds, after_whitespace}
use Rattle.jzon_pointer.proofs.LocateFinds.{texts}
use Rattle.jzon_pointer.proofs.LocateWhole.{spot_found}
use Rattle.jzon_pointer.proofs.locate.spot_in.Goals as goal

pub returns-clause-named : goal.returns-clause-named
returns-clause-named c =
    let text = c.args.text.now in
    let start = c.whitespace_end-start.result in
    let ts = texts c.in-Some.tokens.items in
    let passed = c.in_ok-find.field-0 in
    let rest = subst (λ (bs : List ℕ). drop c.whitespace_end-start.result bs ≡ after_whitespace bs) c.as_bytes.ensures.value
    c.whitespace_end-start.ensures.rest in
    let by_keys = subst (λ (u : Bool). Finds c.args.text.now u c.from.result (texts c.in-Some.tokens.items) 0
    (record { name = c.whitespace_end-start.result; value = c.whitespace_end-start.result }) c.in_ok-find.field-0)
    c.strict.ensures c.in_ok-find.ensures.found in
    let finds = subst (λ (m : ℕ). Finds c.args.text.now c.args.reading.now.strict m (texts c.in-Some.tokens.items) 0
    (record { name = c.whitespace_end-start.result; value = c.whitespace_end-start.result }) c.in_ok-find.field-0)
    (c.from.ensures ∙ c.depth.ensures.depth) by_keys in
    spot_found c.args.reading.now text c.args.pointer.now ts start passed c.utf8.text (rw c.in-Some.is at c.in_ok-tokens.ensures.tokens)
    rest finds
