use Rattle.jzon_base.proofs.Common.{Bool, ◌≡◌, ◌∙◌, ℕ, ◌-◌, List, length, take, drop, sym, ap}
use Rattle.jzon_base.proofs.Common.{take_rest, position, is_some, bytes_eq}
use Rattle.jzon.specs.Private.OpenContainers.{OpenContainers}
use Rattle.jzon.proofs.Containers.StackParts.{has_key}
use Rattle.jzon.proofs.stacks.Stacks.push_new_key.Goals as goal

-- whether the name is among these keys
abbrev among : List ℕ → List (List ℕ) → Bool
among name ks = is_some (position (λ k. bytes_eq k name) ks)

-- the keys from n on
own : (ds ks : List (List ℕ)) (n : ℕ) → ds ≡ ks → take (length ds - n) (drop n ds) ≡ drop n ks
own ds ks n same = take_rest ds n ∙ ap (drop n) same

pub returns-then-is_known-clause-rejected : goal.returns-then-is_known-clause-rejected
returns-then-is_known-clause-rejected c =
    let name = c.args.name.now in
    let s = c.self.inside in
    sym c.if-is_known.true ∙ c.in_ok-is_known.ensures.known
    ∙ ap (among name) (own c.deref.result.now s.keys.items s.innermost.first_key c.deref.ensures.value)
    ∙ ap (λ (o : OpenContainers). among name o.innermost.keys) c.self.view_is
    ∙ has_key c.args.self.now name c.requires.even

pub returns-clause-rejected : goal.returns-clause-rejected
returns-clause-rejected c =
    let name = c.args.name.now in
    let s = c.self.inside in
    sym c.if-is_known.false ∙ c.in_ok-is_known.ensures.known
    ∙ ap (among name) (own c.deref.result.now s.keys.items s.innermost.first_key c.deref.ensures.value)
    ∙ ap (λ (o : OpenContainers). among name o.innermost.keys) c.self.view_is
    ∙ has_key c.args.self.now name c.requires.even
