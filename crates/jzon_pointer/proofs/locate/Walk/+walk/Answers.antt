use Rattle.std.proofs.Common.{rules, arith, refl, sym, subst, ◌≡◌, ◌∙◌, ◌+◌, List, ℕ, Bool, drop, None, Some, inl, inr, slice_index}
use Rattle.std.proofs.lemmas.Result.{IfOk-weaker}
use Rattle.jzon_pointer.specs.Private.Walk.{ReadsElement, ReadsEntry, ReadsKey, after_whitespace, skim}
use Rattle.jzon_pointer.specs.Private.Walk.{Outside}
use Rattle.jzon_pointer.proofs.LocateFinds.{element_closed, element_kept, finds_all, finds_element, finds_last, finds_no_element}
use Rattle.jzon_pointer.proofs.LocateFinds.{finds_none, finds_unique, finds_whole, inside_first, inside_next, passes_into}
use Rattle.jzon_pointer.proofs.LocateFinds.{passes_over, texts, tokens_end, tokens_some, tokens_split}
use Rattle.jzon_pointer.proofs.locate.Walk.+walk.Goals as goal
use Rattle.jzon_pointer.proofs.locate.Walk.+walk.Goals.{find-then-level-self+in_default, find-else-level-self}

pub find-returns-then-level-len-clause-found : goal.find-returns-then-level-len-clause-found
find-returns-then-level-len-clause-found t c =
    let s = c.args.self.now in
    finds_whole s.text.now s.unique s.depth c.args.level (drop c.args.level (texts s.tokens.items)) c.args.spot
    (record { found = Some c.args.spot; end = c.end_after.result })
    (tokens_end s.tokens.items c.args.level (omega (arith, c.len.ensures, c.if-level-len.true))) refl c.end_after.ensures

pub find-returns-clause-found : goal.find-returns-clause-found
find-returns-clause-found t c =
    let s = c.args.self.now in
    let some = tokens_some s.tokens.items c.args.level (omega (arith, c.len.ensures, c.if-level-len.false)) in
    finds_none s.text.now s.unique s.depth c.args.level (drop c.args.level (texts s.tokens.items)) some.1 some.0 c.args.spot
    (record { found = None; end = c.end_after-2.result }) some.2
    (elim c.if-level-self.branch [
      | find-then-level-self+in_default w ↦ inl (λ e. grind arith, λ e. grind arith)
      | find-else-level-self w ↦ inr (omega (arith, w.if-level-self.false))
    ]) refl c.end_after-2.ensures

pub find_element-returns-in_default-clause-found :
    goal.find_element-returns-in_default-clause-found
find_element-returns-in_default-clause-found t c =
    let s = c.args.self.now in
    let reads = subst (λ (bs : List ℕ). ReadsElement bs (c.args.spot.value + 1) c.index.result.now.now None)
    c.as_bytes.ensures.value c.in_default.ensures.element in
    finds_no_element s.text.now s.unique s.depth c.args.level (drop c.args.level (texts s.tokens.items))
    (drop (c.args.level + 1) (texts s.tokens.items)) c.index.result.now.now c.args.spot
    (record { found = None; end = c.end_after.result })
    (tokens_split s.tokens.items c.args.level c.index.result.now c.requires.level c.index.ensures) c.requires.bracket reads
    refl c.end_after.ensures

pub find_element-returns-in_default-end-clause-found :
    goal.find_element-returns-in_default-end-clause-found
find_element-returns-in_default-end-clause-found t c =
    let s = c.args.self.now in
    let reads = subst (λ (bs : List ℕ). ReadsElement bs (c.args.spot.value + 1) c.index.result.now.now (Some c.in-Some.at))
    c.as_bytes.ensures.value c.in-Some.ensures.element in
    finds_element s.text.now s.unique s.depth c.args.level (drop c.args.level (texts s.tokens.items))
    (drop (c.args.level + 1) (texts s.tokens.items)) c.index.result.now.now c.args.spot c.in-Some.at
    c.in_ok-element.element c.in_ok-element.element
    (tokens_split s.tokens.items c.args.level c.index.result.now c.requires.level c.index.ensures) c.requires.bracket reads
    c.in_ok-element.ensures.found refl (element_kept s.text.now s.unique c.in_ok-element.element c.in_default-end.is)

pub find_element-returns-clause-found : goal.find_element-returns-clause-found
find_element-returns-clause-found t c =
    let s = c.args.self.now in
    let reads = subst (λ (bs : List ℕ). ReadsElement bs (c.args.spot.value + 1) c.index.result.now.now (Some c.in-Some.at))
    c.as_bytes.ensures.value c.in-Some.ensures.element in
    finds_element s.text.now s.unique s.depth c.args.level (drop c.args.level (texts s.tokens.items))
    (drop (c.args.level + 1) (texts s.tokens.items)) c.index.result.now.now c.args.spot c.in-Some.at
    c.in_ok-element.element (record { found = c.in_ok-element.element.found; end = c.end_after-2.result })
    (tokens_split s.tokens.items c.args.level c.index.result.now c.requires.level c.index.ensures) c.requires.bracket reads
    c.in_ok-element.ensures.found refl
    (element_closed s.text.now s.unique c.in_ok-element.element c.in-Some-end.end c.end_after-2.result c.in-Some-end.is
    c.end_after-2.ensures)

pub find_member-entries-init : goal.find_member-entries-init
find_member-entries-init t c =
    let s = c.args.self.now in
    let rest = subst (λ (bs : List ℕ). drop c.whitespace_end-name.result bs ≡ after_whitespace (drop (c.args.spot.value + 1) bs))
    c.as_bytes-bytes.ensures.value c.whitespace_end-name.ensures.rest in record {
      within = search rules;
      inside = λ us u more. inside_first s.text.now s.unique s.depth c.args.level us u c.args.spot c.whitespace_end-name.result
          c.requires.bracket rest;
    }

pub find_member-returns-in_default-end-clause-found :
    goal.find_member-returns-in_default-end-clause-found
find_member-returns-in_default-end-clause-found t c =
    let s = c.args.self.now in
    let some = tokens_some s.tokens.items c.args.level c.requires.level in
    let reads = subst (λ (bs : List ℕ). ReadsEntry bs c.entries.name (Some c.in-Some.entry)) c.as_bytes-bytes.ensures.value
    c.in-Some.ensures.entry in
    let quote = subst (λ (bs : List ℕ). slice_index bs c.entries.name ≡ 34) c.as_bytes-bytes.ensures.value
    c.in-Some.ensures.quote in
    finds_unique s.text.now s.unique s.depth c.args.level (drop c.args.level (texts s.tokens.items)) some.1 some.0 c.args.spot
    c.entries.name c.entries.found c.in-Some.entry c.in_ok-passed.passed some.2
    (c.entries.invariant.inside some.1 some.0 some.2) reads quote c.in_ok-passed.ensures.passed c.in_default-end.is

pub find_member-returns-then-byte_at-ne44-clause-found :
    goal.find_member-returns-then-byte_at-ne44-clause-found
find_member-returns-then-byte_at-ne44-clause-found t c =
    let s = c.args.self.now in
    let some = tokens_some s.tokens.items c.args.level c.requires.level in
    let reads = subst (λ (bs : List ℕ). ReadsEntry bs c.entries.name (Some c.in-Some.entry)) c.as_bytes-bytes.ensures.value
    c.in-Some.ensures.entry in
    let quote = subst (λ (bs : List ℕ). slice_index bs c.entries.name ≡ 34) c.as_bytes-bytes.ensures.value
    c.in-Some.ensures.quote in
    let byte = subst (λ (bs : List ℕ). c.byte_at.result ≡ slice_index bs c.in-Some-end.end) c.as_bytes-bytes.ensures.value
    c.byte_at.ensures.byte in
    finds_last s.text.now s.unique s.depth c.args.level (drop c.args.level (texts s.tokens.items)) some.1 some.0 c.args.spot
    c.entries.name c.in-Some-end.end c.entries.found c.in-Some.entry c.in_ok-passed.passed
    (record { found = c.in_ok-passed.passed.found; end = c.end_after.result }) some.2
    (c.entries.invariant.inside some.1 some.0 some.2) reads quote c.in_ok-passed.ensures.passed c.in-Some-end.is
    (λ e. c.if-byte_at-ne44.true (byte ∙ e)) refl c.end_after.ensures

pub find_member-entries-preserved : goal.find_member-entries-preserved
find_member-entries-preserved t c =
    let s = c.args.self.now in
    let reads = subst (λ (bs : List ℕ). ReadsEntry bs c.entries.name (Some c.in-Some.entry)) c.as_bytes-bytes.ensures.value
    c.in-Some.ensures.entry in
    let quote = subst (λ (bs : List ℕ). slice_index bs c.entries.name ≡ 34) c.as_bytes-bytes.ensures.value
    c.in-Some.ensures.quote in
    let byte = subst (λ (bs : List ℕ). c.byte_at.result ≡ slice_index bs c.in-Some-end.end) c.as_bytes-bytes.ensures.value
    c.byte_at.ensures.byte in
    let rest = subst (λ (bs : List ℕ). drop c.whitespace_end-name-in-Some.result bs
    ≡ after_whitespace (drop (c.in-Some-end.end + 1) bs)) c.as_bytes-bytes.ensures.value
    c.whitespace_end-name-in-Some.ensures.rest in record {
      within = search rules;
      inside = λ us u more. inside_next s.text.now s.unique s.depth c.args.level (drop c.args.level (texts s.tokens.items)) us u
          c.args.spot c.entries.name c.whitespace_end-name-in-Some.result c.in-Some-end.end c.entries.found c.in-Some.entry
          c.in_ok-passed.passed more (c.entries.invariant.inside us u more) reads quote c.in_ok-passed.ensures.passed
          c.in-Some-end.is (sym byte ∙ c.if-byte_at-ne44.false) rest;
    }

pub find_member-returns-clause-found : goal.find_member-returns-clause-found
find_member-returns-clause-found t c =
    let s = c.args.self.now in
    let some = tokens_some s.tokens.items c.args.level c.requires.level in
    let reads = subst (λ (bs : List ℕ). ReadsEntry bs c.entries.name None) c.as_bytes-bytes.ensures.value
    c.in_default.ensures.entry in
    finds_all s.text.now s.unique s.depth c.args.level (drop c.args.level (texts s.tokens.items)) some.1 some.0 c.args.spot
    c.entries.name c.entries.found (record { found = c.entries.found; end = c.end_after-2.result }) some.2
    (c.entries.invariant.inside some.1 some.0 some.2) reads refl c.end_after-2.ensures

pub pass_entry-returns-then-branch-clause-passed :
    goal.pass_entry-returns-then-branch-clause-passed
pass_entry-returns-then-branch-clause-passed t c =
    let s = c.args.self.now in
    let reads = subst (λ (b : Bool). ReadsKey s.text.now c.args.name c.args.entry.key_end c.index.result.now.now b)
    c.if-branch.true c.in_ok-is_key.ensures.names in
    IfOk-weaker c.find.result _ _ (λ w finds. passes_into s.text.now s.unique s.depth c.args.level
    (drop c.args.level (texts s.tokens.items)) (drop (c.args.level + 1) (texts s.tokens.items)) c.index.result.now.now c.args.name
    c.args.entry c.args.found w
    (tokens_split s.tokens.items c.args.level c.index.result.now c.requires.level c.index.ensures) reads finds)
    c.find.ensures.found

pub pass_entry-returns-clause-passed : goal.pass_entry-returns-clause-passed
pass_entry-returns-clause-passed t c =
    let s = c.args.self.now in
    let reads = subst (λ (b : Bool). ReadsKey s.text.now c.args.name c.args.entry.key_end c.index.result.now.now b)
    c.if-branch.false c.in_ok-is_key.ensures.names in
    let skims = subst (λ (bs : List ℕ). drop c.item_end.result bs ≡ skim (Outside 0) (drop c.args.entry.value bs))
    c.as_bytes.ensures.value c.item_end.ensures.rest in
    passes_over s.text.now s.unique s.depth c.args.level (drop c.args.level (texts s.tokens.items))
    (drop (c.args.level + 1) (texts s.tokens.items)) c.index.result.now.now c.args.name c.item_end.result c.args.entry
    c.args.found (record { found = c.args.found; end = Some c.item_end.result })
    (tokens_split s.tokens.items c.args.level c.index.result.now c.requires.level c.index.ensures) reads refl refl skims
