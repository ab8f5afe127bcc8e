-- What a buffered writer holds, call by call.
use Rattle.std.proofs.Common.{◌≡◌, ℕ, ◌+◌, ◌-◌, ◌≤◌, List, [], ◌∷◌, ◌++◌, length, take, drop, Option, None, Some, refl}
use Rattle.std.proofs.Common.{sym, Bool, true, false, nat_le, if◌then◌else◌, Result, Ok, Err, OnOk, OnErr}
use Rattle.std.proofs.Common.{ap, ◌∙◌, append_assoc, append-nil, take-append-drop, arith, get_or}
use Rattle.std.proofs.lemmas.Bool.{leb-true, le-leb}
use Rattle.std.proofs.lemmas.List.{length-append, length-drop, take_all}
use Rattle.std.proofs.Math.Seq.{drop-drop, take-append_seam, take-append-add, take-length}
use Rattle.std.specs.Io.KnownBytes.{Appends, Keeps}
use Rattle.std.specs.Result.{IsErr}
use Rattle.jzon_tree.specs.Generator.{Adds, Begins, Sends}
use Rattle.jzon_tree.specs.Private.Buffered.{listed, held_since, known_len}

-- bytes that go from the buffer to the writer: what is held stays the same
moved : (name : ℕ) (rest rest' x y : List ℕ) (p q : Bool) → (p ≡ true → q ≡ true) → y ++ rest' ≡ x ++ rest
    → Keeps (if p then Some (listed (record { writer = name; bytes = x ++ rest })) else None)
    (if q then Some (listed (record { writer = name; bytes = y ++ rest' })) else None)
moved name rest rest' x y false q h e = tt
moved name rest rest' x y true q h e = rw (h refl) (ap (λ (l : List ℕ). name ∷ l) e)

written_out : (start name n : ℕ) (rest : List ℕ) (a b : Option (List ℕ)) → Appends a b (take n rest)
    → Keeps (held_since start name rest a) (held_since start name (drop n rest) b)
written_out start name n rest None b p = tt
written_out start name n rest (Some x) None p = absurd p
written_out start name n rest (Some x) (Some y) p =
    let long : length y ≡ length x + length (take n rest) = ap (λ (l : List ℕ). length l) p
    ∙ length-append x (take n rest) in
    let all : y ++ drop n rest ≡ x ++ rest = ap (λ (l : List ℕ). l ++ drop n rest) p
    ∙ append_assoc x (take n rest) (drop n rest) ∙ ap (λ (l : List ℕ). x ++ l) (take-append-drop n rest) in
    moved name rest (drop n rest) x y (nat_le start (length x)) (nat_le start (length y))
    (λ first. le-leb start (length y) (omega (arith, long, leb-true start (length x) first))) all

-- the writer got n bytes of those that are left
pub held_moved : (start name taken n : ℕ) (items seen : List ℕ) (a b : Option (List ℕ)) → seen ≡ items
    → Appends a b (take n (take (length seen - taken) (drop taken seen)))
    → Keeps (held_since start name (drop taken items) a) (held_since start name (drop (taken + n) items) b)
held_moved start name taken n items seen a b same p =
    let rest : take (length items - taken) (drop taken items) ≡ drop taken items = take_all _ _ (omega (
      arith,
      length-drop taken items,
    )) in
    let left : drop n (drop taken items) ≡ drop (taken + n) items = drop-drop n taken items in
    rw left at (written_out start name n (drop taken items) a b (rw (same, rest) at p))

-- the writer got n bytes that were never held, with nothing left before them
pub held_passed : (start name n : ℕ) (rest rest' bs : List ℕ) (a b : Option (List ℕ)) → rest ≡ [] → rest' ≡ []
    → Appends a b (take n bs) → Appends (held_since start name rest a) (held_since start name rest' b) (take n bs)
held_passed start name n rest rest' bs None b h h' p = tt
held_passed start name n rest rest' bs (Some x) None h h' p = absurd p
held_passed start name n rest rest' bs (Some x) (Some y) h h' p =
    passed start name (take n bs) rest rest' x y (nat_le start (length x)) (nat_le start (length y)) h h'
    (λ first. le-leb start (length y) (omega (
      arith,
      ap (λ (l : List ℕ). length l) p ∙ length-append x (take n bs),
      leb-true start (length x) first,
    ))) p
  where
    passed : (start name : ℕ) (cs rest rest' x y : List ℕ) (p q : Bool) → rest ≡ [] → rest' ≡ []
        → (p ≡ true → q ≡ true) → y ≡ x ++ cs
        → Appends (if p then Some (listed (record { writer = name; bytes = x ++ rest })) else None)
        (if q then Some (listed (record { writer = name; bytes = y ++ rest' })) else None) cs
    passed start name cs rest rest' x y false q h h' f e = tt
    passed start name cs rest rest' x y true q h h' f e =
        rw (f refl) (rw (h, h', append-nil x, append-nil y) (ap (λ (l : List ℕ). name ∷ l) e))

-- ---- all calls together: which of the added bytes the writer got, where the buffer was empty at first

-- the writer had x, and has y now
grew : (name name' : ℕ) (x y empty rest bs : List ℕ) → empty ≡ [] → length x ≤ length y
    → name' ∷ (y ++ rest) ≡ name ∷ ((x ++ empty) ++ bs)
    → (name ≡ name') × (k : ℕ) × (k + length rest ≡ length bs) × (y ≡ x ++ take k bs)
grew name name' x y empty rest bs h m p =
    let first : name' ≡ name = ap (λ (l : List ℕ). get_or l 0 0) p in
    let all : y ++ rest ≡ x ++ bs = ap (λ (l : List ℕ). drop 1 l) p ∙ ap (λ (l : List ℕ). (x ++ l) ++ bs) h
    ∙ ap (λ (l : List ℕ). l ++ bs) (append-nil x) in
    let k = length y - length x in
    let counts : length y + length rest ≡ length x + length bs = sym (length-append y rest)
    ∙ ap (λ (l : List ℕ). length l) all ∙ length-append x bs in
    let prefix : y ≡ x ++ take k bs = sym (take-append_seam y rest) ∙ ap (λ (l : List ℕ). take (length y) l) all
    ∙ ap (λ (n : ℕ). take n (x ++ bs)) (omega (arith, m)) ∙ take-append-add x bs k in
    (sym first, k, omega (arith, m, counts), prefix)

-- the writer had `start` bytes at first
since : (P : List ℕ → Type 0) (start name name' : ℕ) (x y empty rest : List ℕ) (p q : Bool) → (start ≡ length x → p ≡ true)
    → (q ≡ true → start ≤ length y) → start ≡ length x → empty ≡ []
    → Adds P (if p then Some (listed (record { writer = name; bytes = x ++ empty })) else None)
    (if q then Some (listed (record { writer = name'; bytes = y ++ rest })) else None)
    → (bs : List ℕ) × P bs × (name ≡ name') × (k : ℕ) × (k + length rest ≡ length bs) × (y ≡ x ++ take k bs)
since P start name name' x y empty rest false q f l s h a = let wrong : false ≡ true = f s in absurd (cc)
since P start name name' x y empty rest true false f l s h a = absurd a
since P start name name' x y empty rest true true f l s h (bs, e, allowed) =
    let (first, k, counts, prefix) = grew name name' x y empty rest bs h (omega (arith, s, l refl)) e in
    (bs, allowed, first, k, counts, prefix)

grown : (P : List ℕ → Type 0) (start name name' : ℕ) (x y empty rest : List ℕ) → start ≡ length x → empty ≡ []
    → Adds P (held_since start name empty (Some x)) (held_since start name' rest (Some y))
    → (bs : List ℕ) × P bs × (name ≡ name') × (k : ℕ) × (k + length rest ≡ length bs) × (y ≡ x ++ take k bs)
grown P start name name' x y empty rest s h a =
    since P start name name' x y empty rest (nat_le start (length x)) (nat_le start (length y))
    (λ e. le-leb start (length x) (omega (arith, e))) (leb-true start (length y)) s h a

-- a writer whose bytes are known keeps them known
stays_known_if : (P : List ℕ → Type 0) (start name : ℕ) (x empty : List ℕ) (p : Bool) → (start ≡ length x → p ≡ true)
    → start ≡ length x
    → Adds P (if p then Some (listed (record { writer = name; bytes = x ++ empty })) else None) None → ⊥
stays_known_if P start name x empty false f s a = let wrong : false ≡ true = f s in absurd (cc)
stays_known_if P start name x empty true f s a = a

stays_known : (P : List ℕ → Type 0) (start name name' : ℕ) (x empty rest : List ℕ) → start ≡ length x
    → Adds P (held_since start name empty (Some x)) (held_since start name' rest None) → ⊥
stays_known P start name name' x empty rest s a =
    stays_known_if P start name x empty (nat_le start (length x))
    (λ e. le-leb start (length x) (omega (arith, e))) s a

module _ (P : List ℕ → Type 0) (start name name' : ℕ) (empty rest : List ℕ) (h : empty ≡ []) where
  adds_all : (a b f : Option (List ℕ)) → start ≡ known_len a → (name ≡ name' → f ≡ b) → rest ≡ []
      → Adds P (held_since start name empty a) (held_since start name' rest b) → Adds P a f
  adds_all None b f s same l p = tt
  adds_all (Some x) None f s same l p = absurd (stays_known P start name name' x empty rest s p)
  adds_all (Some x) (Some y) f s same l p =
      let (bs, allowed, first, k, counts, prefix) = grown P start name name' x y empty rest s h p in
      let all : k ≡ length bs = omega (arith, counts, ap (λ (l : List ℕ). length l) l) in
      rw (same first) (bs, prefix ∙ ap (λ (n : ℕ). x ++ take n bs) all ∙ ap (λ (l : List ℕ). x ++ l) (take-length bs), allowed)

  adds_prefix : (a b f : Option (List ℕ)) → start ≡ known_len a → (name ≡ name' → f ≡ b)
      → Adds (Begins P) (held_since start name empty a) (held_since start name' rest b) → Adds (Begins P) a f
  adds_prefix None b f s same p = tt
  adds_prefix (Some x) None f s same p = absurd (stays_known (Begins P) start name name' x empty rest s p)
  adds_prefix (Some x) (Some y) f s same p =
      let (bs, (more, allowed), first, k, counts, prefix) = grown (Begins P) start name name' x y empty rest s h p in
      let whole : take k bs ++ (drop k bs ++ more) ≡ bs ++ more = sym (append_assoc (take k bs) (drop k bs) more)
      ∙ ap (λ (l : List ℕ). l ++ more) (take-append-drop k bs) in
      rw (same first) (take k bs, prefix, (drop k bs ++ more, rw whole allowed))

  -- by the result of all calls
  pub sent_through : {E : Type 0} (r : Result (Unit {0}) E) (a b f : Option (List ℕ))
      → start ≡ known_len a → (name ≡ name' → f ≡ b) → OnOk r (rest ≡ [])
      → Sends P (held_since start name empty a) (held_since start name' rest b) r → Sends P a f r
  sent_through (Ok u) a b f s same l p = adds_all a b f s same l p
  sent_through (Err x) a b f s same l p = adds_prefix a b f s same p

-- ---- a text, and then the buffer is written out
adds_kept : (P : List ℕ → Type 0) (a b c : Option (List ℕ)) → Adds P a b → Keeps b c → Adds P a c
adds_kept P None b c p k = tt
adds_kept P (Some x) None c p k = absurd p
adds_kept P (Some x) (Some y) None p k = absurd k
adds_kept P (Some x) (Some y) (Some z) (bs, e, allowed) k = (bs, k ∙ e, allowed)

begun : (P : List ℕ → Type 0) (a b : Option (List ℕ)) → Adds P a b → Adds (Begins P) a b
begun P None b p = tt
begun P (Some x) None p = absurd p
begun P (Some x) (Some y) (bs, e, allowed) = (bs, e, ([], rw (append-nil bs) allowed))

pub finished : {E F : Type 0} (P : List ℕ → Type 0) (answer : Result (Unit {0}) E) (r : Result (Unit {0}) F)
    (a b c : Option (List ℕ)) → Sends P a b answer → Keeps b c → OnErr answer (IsErr r) → Sends P a c r
finished P (Ok u) (Ok v) a b c p k h = adds_kept P a b c p k
finished P (Ok u) (Err e) a b c p k h = begun P a c (adds_kept P a b c p k)
finished P (Err x) (Err e) a b c p k h = adds_kept (Begins P) a b c p k
finished P (Err x) (Ok v) a b c p k h = absurd (cc h)

pub kept_then : (a b c : Option (List ℕ)) (bs : List ℕ) → Keeps a b → Appends b c bs → Appends a c bs
kept_then None b c bs k p = tt
kept_then (Some x) None c bs k p = absurd k
kept_then (Some x) (Some y) None bs k p = absurd p
kept_then (Some x) (Some y) (Some z) bs k p = p ∙ ap (λ (l : List ℕ). l ++ bs) k
