-- What a pointer names in a text means what it names in the value that the text means (specs/Locate, `IsMeant`).
use Rattle.jzon_base.proofs.Common.{◌≡◌, ◌∙◌, ℕ, zero, suc, List, [], ◌∷◌, ◌+◌, Bool, true, false, length}
use Rattle.jzon_base.proofs.Common.{refl, sym, ap, subst, Option, Some, None, slice_get, if◌then◌else◌, bytes_eq, fold}
use Rattle.jzon_base.proofs.Common.{bytes_eq-Decides, nat_list_eq_equiv}
use Rattle.jzon_base.proofs.Entries.PairLaws.{find-put_same, find-put_other}
use Rattle.std.specs.Prelude.{option_map, option_and_then}
use Rattle.std.specs.Option.{option_map_or, ok_or}
use Rattle.std.specs.Result.{result_ok}
use Rattle.jzon.specs.Grammar.{Node, Elements, no_elements, element, Members, no_members, member, Document}
use Rattle.jzon.specs.Meaning.{meaning, elements_meaning, members_meaning, bytes_of}
use Rattle.jzon.specs.PairList.{find, put, put_each}
use Rattle.jzon.specs.Value.{Value, no_values, no_pairs, list_of_values, list_of_pairs, pairs_of}
use Rattle.jzon.proofs.ValueLaws.{list_of_pairs-pairs_of}
use Rattle.jzon_pointer.specs.Pointer.{and_then, child_of, found, index_named, missing, names, token_key, tokens_of}
use Rattle.jzon_pointer.specs.declared.pointer.PointerError.TheVariants.{NoSlash}
use Rattle.jzon_pointer.specs.Locate.{IsMeant, Named, child_named, element_named, keyed, last_named, named_in, unnamed}

-- what the tree of a value means
abbrev meant : Option Named → Option Value
meant o = option_map (λ p. meaning p.node) o

-- ---- elements

element_meant : (n : Node) (c : List ℕ) (es : Elements) (k : List ℕ) (i : ℕ)
    → meant (element_named n c es k i) ≡ slice_get (meaning n ∷ list_of_values (elements_meaning es)) i
element_meant n c es k zero = refl
element_meant n c no_elements k (suc i) = refl
element_meant n c (element b m e es) k (suc i) = element_meant m e es k i

element_meant_by : (o : Option ℕ) (n : Node) (c : List ℕ) (es : Elements) (k : List ℕ)
    → meant (option_and_then (element_named n c es k) o)
    ≡ option_and_then (λ i. slice_get (meaning n ∷ list_of_values (elements_meaning es)) i) o
element_meant_by None n c es k = refl
element_meant_by (Some i) n c es k = element_meant n c es k i

no_element : (o : Option ℕ) → meant None ≡ option_and_then (λ i. slice_get (list_of_values no_values) i) o
no_element None = refl
no_element (Some i) = refl

-- ---- entries

-- the last value under a name, or one before
abbrev last_value : List ℕ → List (List ℕ × Value) → Option Value → Option Value
last_value q [] o = o
last_value q (p ∷ ps) o = last_value q ps (if bytes_eq p.0 q then Some p.1 else o)

find_put_by : (b : Bool) (q k : List ℕ) (v : Value) (qs : List (List ℕ × Value)) → bytes_eq k q ≡ b
    → find q (put k v qs) ≡ (if b then Some v else find q qs)
find_put_by true q k v qs e =
    let same : k ≡ q = (bytes_eq-Decides k q).0 e in
    subst (λ (j : List ℕ). find j (put k v qs) ≡ Some v) same (find-put_same k v qs)
find_put_by false q k v qs e =
    find-put_other q k v qs (λ same.
    let t : bytes_eq k q ≡ true = subst (λ (j : List ℕ). bytes_eq k j ≡ true) (sym same) (nat_list_eq_equiv.refl k) in cc)

find_put : (q k : List ℕ) (v : Value) (qs : List (List ℕ × Value))
    → find q (put k v qs) ≡ (if bytes_eq k q then Some v else find q qs)
find_put q k v qs = find_put_by (bytes_eq k q) q k v qs refl

find_fold : (q : List ℕ) (ps qs : List (List ℕ × Value))
    → find q (fold (λ xs p. put p.0 p.1 xs) qs ps) ≡ last_value q ps (find q qs)
find_fold q [] qs = refl
find_fold q (p ∷ ps) qs = find_fold q ps (put p.0 p.1 qs) ∙ ap (last_value q ps) (find_put q p.0 p.1 qs)

meant_if : (b : Bool) (p : Named) (o : Option Named)
    → meant (if b then Some p else o) ≡ (if b then Some (meaning p.node) else meant o)
meant_if true p o = refl
meant_if false p o = refl

last_meant : (t q : List ℕ) (ms : Members) (k : List ℕ) (o : Option Named) → token_key t ≡ Some q
    → meant (last_named t ms k o) ≡ last_value q (members_meaning ms) (meant o)
last_meant t q no_members k o e = refl
last_meant t q (member key b n c ms) k o e =
    let x = bytes_of key.items in
    let named : names t x ≡ bytes_eq x q = ap (λ w. option_map_or (bytes_eq x) w false) e in
    last_meant t q ms k (if names t x then Some (keyed key b n c ms k) else o) e
    ∙ ap (last_value q (members_meaning ms))
    (meant_if (names t x) (keyed key b n c ms k) o ∙ ap (λ w. if w then Some (meaning n) else meant o) named)

last_none : (t : List ℕ) (ms : Members) (k : List ℕ) (o : Option Named) → token_key t ≡ None → last_named t ms k o ≡ o
last_none t no_members k o e = refl
last_none t (member key b n c ms) k o e =
    let x = bytes_of key.items in
    let other : names t x ≡ false = ap (λ w. option_map_or (bytes_eq x) w false) e in
    ap (λ w. last_named t ms k (if w then Some (keyed key b n c ms k) else o)) other ∙ last_none t ms k o e

entry_meant_by : (y : Option (List ℕ)) (t : List ℕ) (ms : Members) (k : List ℕ) → token_key t ≡ y
    → meant (last_named t ms k None)
    ≡ option_and_then (λ q. find q (list_of_pairs (pairs_of (put_each (members_meaning ms))))) y
entry_meant_by None t ms k e = ap meant (last_none t ms k None e)
entry_meant_by (Some q) t ms k e =
    last_meant t q ms k None e ∙ sym (find_fold q (members_meaning ms) [])
    ∙ ap (find q) (sym (list_of_pairs-pairs_of (put_each (members_meaning ms))))

entry_meant : (t : List ℕ) (ms : Members) (k : List ℕ)
    → meant (last_named t ms k None)
    ≡ option_and_then (λ q. find q (list_of_pairs (pairs_of (put_each (members_meaning ms))))) (token_key t)
entry_meant t ms k = entry_meant_by (token_key t) t ms k refl

no_entry : (o : Option (List ℕ)) → meant None ≡ option_and_then (λ q. find q (list_of_pairs no_pairs)) o
no_entry None = refl
no_entry (Some q) = refl

-- ---- what tokens lead to

child_meant : (t : List ℕ) (n : Node) (k : List ℕ) → meant (child_named t n k) ≡ child_of (meaning n) t
child_meant t Node.null k = refl
child_meant t (Node.boolean b) k = refl
child_meant t (Node.number n) k = refl
child_meant t (Node.string is) k = refl
child_meant t (Node.empty_array b) k = no_element (index_named t)
child_meant t (Node.empty_object b) k = no_entry (token_key t)
child_meant t (Node.array b n c es) k = element_meant_by (index_named t) n c es k
child_meant t (Node.object key b n c ms) k = entry_meant t (member key b n c ms) k

-- what tokens lead to in a tree means what they lead to in its meaning
abbrev AreMeant : List (List ℕ) → Type 0
AreMeant ts = (i : ℕ) (p : Named) → meant (named_in ts p) ≡ result_ok (found i (meaning p.node) ts)

child_step : (ts : List (List ℕ)) (o : Option Named) (v : Option Value) (t : List ℕ) (i : ℕ) (p : Named) → AreMeant ts
    → meant o ≡ v
    → meant (option_and_then (named_in ts) o)
    ≡ result_ok (and_then (λ c. found (suc (i + length t)) c ts) (ok_or v (missing i (meaning p.node) t)))
child_step ts None None t i p h e = refl
child_step ts None (Some v) t i p h e = absurd (cc)
child_step ts (Some q) None t i p h e = absurd (cc)
child_step ts (Some q) (Some v) t i p h e =
    let same : meaning q.node ≡ v = cc in
    h (suc (i + length t)) q ∙ ap (λ w. result_ok (found (suc (i + length t)) w ts)) same

tokens_meant : (ts : List (List ℕ)) → AreMeant ts
tokens_meant [] = λ i p. refl
tokens_meant (t ∷ ts) = λ i p.
    child_step ts (child_named t p.node p.after) (child_of (meaning p.node) t) t i p (tokens_meant ts)
    (child_meant t p.node p.after)

pointer_meant : (o : Option (List (List ℕ))) (d : Document)
    → meant (option_and_then (λ ts. named_in ts (unnamed d.node d.after)) o)
    ≡ result_ok (and_then (found 1 (meaning d.node)) (ok_or o NoSlash))
pointer_meant None d = refl
pointer_meant (Some ts) d = tokens_meant ts 1 (unnamed d.node d.after)

pub is_meant : (pointer : List ℕ) → IsMeant pointer
is_meant pointer = λ d. pointer_meant (tokens_of pointer) d
