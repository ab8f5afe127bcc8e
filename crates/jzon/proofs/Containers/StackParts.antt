-- The parts of the two stacks: what a change of the innermost container leaves of those around it.
use Rattle.jzon_base.proofs.Common.{◌≡◌, ℕ, ◌≤◌, true, false, List, [], ◌∷◌, ◌++◌}
use Rattle.jzon_base.proofs.Common.{length, take, drop, vec_len, Option, None, Some, option_map, IfSome, Vec, Global}
use Rattle.jzon_base.proofs.Common.{length-append, refl, sym, ap, ◌∙◌, subst, arith, take-take, take_all}
use Rattle.jzon_base.proofs.Common.{drop_all, length-take, length-drop, false≢true, take-append-le, drop-append-le}
use Rattle.jzon_base.proofs.Common.{position, zip, is_some, bytes_eq}
use Rattle.std.specs.Prelude.{reverse, MatchOption}
use Rattle.std.proofs.lemmas.List.{reverse-append}
use Rattle.std.proofs.lemmas.Option.{IfSome_then}
use Rattle.jzon_base.specs.PairList.{find, put_each}
use Rattle.jzon_base.specs.Private.KnownKeys.{Knows}
use Rattle.jzon_base.specs.declared.keys.known.KnownKeys.{KnownKeys}
use Rattle.jzon_base.proofs.KeyIndex.KnownKeys.{known-put_each}
use Rattle.jzon_base.proofs.KeyIndex.Positions.{list_any-position}
use Rattle.jzon_tree.specs.declared.value.JsonValue.{JsonValue}
use Rattle.jzon_tree.specs.View.{view}
use Rattle.jzon_tree.proofs.Values.Views.{find-viewed}
use Rattle.jzon.specs.Private.OpenContainers.{Container, OpenContainers, AwaitsValue, new_container, entries_so_far}
use Rattle.jzon.specs.Private.OpenContainers.{value_added, innermost_ended, IsAdded}
use Rattle.jzon.specs.Private.Stacks.{container_of, containers_in, containers_of, AreNested, AllAwaitValue, AllKnown}
use Rattle.jzon.specs.Private.Stacks.{IsLaidOut}
use Rattle.jzon.specs.declared.container_kind.ContainerKind.{ContainerKind}
use Rattle.jzon.specs.declared.container_kind.ContainerKind.TheVariants.{Array, Object}
use Rattle.jzon.specs.declared.stacks.Frame.{Frame}
use Rattle.jzon.specs.declared.stacks.Stacks.TheInside.{Inside}

pub if_none : (P : KnownKeys → Type 0) (a : Option KnownKeys) → is_some a ≡ false → IfSome a P
if_none P None e = tt
if_none P (Some l) e = absurd (false≢true (sym e))

-- ---- the innermost container changes

-- ys has the first n of xs, and may have others after them
pub record Keeps {X : Type 0} (n : ℕ) (xs ys : List X) : Type 0 where
  pub within : n ≤ length ys
  pub first : take n ys ≡ take n xs

pub keeps_pushed : {X : Type 0} (n : ℕ) (xs ys : List X) (x : X) → n ≤ length xs → ys ≡ xs ++ x ∷ [] → Keeps n xs ys
keeps_pushed n xs ys x le e = record {
  within = omega (arith, le, ap length e, length-append xs (x ∷ []));
  first = ap (take n) e ∙ take-append-le n xs (x ∷ []) le;
}

pub keeps_cut : {X : Type 0} (n : ℕ) (xs ys : List X) → n ≤ length xs → ys ≡ take n xs → Keeps n xs ys
keeps_cut n xs ys le e = record {
  within = omega (arith, le, ap length e, length-take n xs);
  first = ap (take n) e ∙ take-take n n xs (omega arith);
}

pub keeps_same : {X : Type 0} (n : ℕ) (xs ys : List X) → n ≤ length xs → ys ≡ xs → Keeps n xs ys
keeps_same n xs ys le e = record { within = omega (arith, le, ap length e); first = ap (take n) e }

pub keeps_none : {X : Type 0} (n : ℕ) (xs ys : List X) → n ≡ 0 → Keeps n xs ys
keeps_none n xs ys none = record { within = omega (arith, none); first = rw none refl }

-- how s changes: the keys and values of the innermost container, and what a strict reading knows of these keys
pub record IsChange (s : Inside) (ks : Vec (List ℕ) Global) (vs : Vec JsonValue Global) (known : Option KnownKeys) :
    Type 0 where
  pub keys : Keeps s.innermost.first_key s.keys.items ks.items
  pub values : Keeps s.innermost.first_value s.values.items vs.items
  pub strict : is_some known ≡ is_some s.known
  pub knows : IfSome known (Knows (drop s.innermost.first_key ks.items))

abbrev pub changed : Inside → Vec (List ℕ) Global → Vec JsonValue Global → Option KnownKeys → Inside
changed s ks vs known = record s { keys = ks; values = vs; known = known }

around-changed : (s : Inside) (ks : Vec (List ℕ) Global) (vs : Vec JsonValue Global) (known : Option KnownKeys)
    → Keeps s.innermost.first_key s.keys.items ks.items → Keeps s.innermost.first_value s.values.items vs.items
    → (containers_of (changed s ks vs known)).around ≡ (containers_of s).around
around-changed s ks vs known k v = λ i. containers_in (reverse s.around.items) (k.first i) (v.first i)

-- the containers around are known as before
still_known : (P Q : KnownKeys → Type 0) (cs ds : List Container) (ls : List KnownKeys) (a b : Option KnownKeys)
    → ds ≡ cs → is_some b ≡ is_some a → IfSome a (λ l. P l × AllKnown cs ls) → IfSome b Q
    → IfSome b (λ l. Q l × AllKnown ds ls)
still_known P Q cs ds ls a None e strict h q = tt
still_known P Q cs ds ls None (Some l) e strict h q = absurd (false≢true (sym strict))
still_known P Q cs ds ls (Some k) (Some l) e strict h q = (q, subst (λ es. AllKnown es ls) (sym e) h.1)

pub IsLaidOut-changed : (s : Inside) (ks : Vec (List ℕ) Global) (vs : Vec JsonValue Global) (known : Option KnownKeys)
    → IsLaidOut s → IsChange s ks vs known → IsLaidOut (changed s ks vs known)
IsLaidOut-changed s ks vs known h c = record {
  keys_within = omega (arith, c.keys.within, ks.ok.0);
  values_within = omega (arith, c.values.within, vs.ok.0);
  nested = h.nested;
  await = subst AllAwaitValue (sym (around-changed s ks vs known c.keys c.values)) h.await;
  known =
      still_known (Knows (containers_of s).innermost.keys) _ (containers_of s).around _ (reverse s.known_around.items) s.known known
      (around-changed s ks vs known c.keys c.values) c.strict h.known c.knows;
}

-- ---- only its values change

values_within : (s : Inside) → IsLaidOut s → s.innermost.first_value ≤ length s.values.items
values_within s h = omega (arith, h.values_within, s.values.ok.0)

keys_within : (s : Inside) → IsLaidOut s → s.innermost.first_key ≤ length s.keys.items
keys_within s h = omega (arith, h.keys_within, s.keys.ok.0)

IsLaidOut-kept : (s : Inside) (ks : Vec (List ℕ) Global) (vs : Vec JsonValue Global) → IsLaidOut s
    → ks.items ≡ s.keys.items → Keeps s.innermost.first_value s.values.items vs.items
    → IsLaidOut (record s { keys = ks; values = vs })
IsLaidOut-kept s ks vs h same v = IsLaidOut-changed s ks vs s.known h (record {
  keys = keeps_same s.innermost.first_key s.keys.items ks.items (keys_within s h) same;
  values = v;
  strict = refl;
  knows = rw same (IfSome_then s.known h.known (λ l k. k.0));
})

pub IsLaidOut-values : (s : Inside) (vs : Vec JsonValue Global) → IsLaidOut s
    → Keeps s.innermost.first_value s.values.items vs.items → IsLaidOut (record s { values = vs })
IsLaidOut-values s vs h v = IsLaidOut-kept s s.keys vs h refl v

pub IsLaidOut-same : (s : Inside) (vs : Vec JsonValue Global) → IsLaidOut s → vs.items ≡ s.values.items
    → IsLaidOut (record s { values = vs })
IsLaidOut-same s vs h e = IsLaidOut-values s vs h (keeps_same _ s.values.items vs.items (values_within s h) e)

pub IsLaidOut-cut : (s : Inside) (vs : Vec JsonValue Global) → IsLaidOut s
    → vs.items ≡ take s.innermost.first_value s.values.items → IsLaidOut (record s { values = vs })
IsLaidOut-cut s vs h cut = IsLaidOut-values s vs h (keeps_cut _ s.values.items vs.items (values_within s h) cut)

pub IsLaidOut-pushed : (s : Inside) (vs : Vec JsonValue Global) (v : JsonValue) → IsLaidOut s
    → vs.items ≡ s.values.items ++ v ∷ [] → IsLaidOut (record s { values = vs })
IsLaidOut-pushed s vs v h e = IsLaidOut-values s vs h (keeps_pushed _ s.values.items vs.items v (values_within s h) e)

pub view-pushed : (s : Inside) (vs : Vec JsonValue Global) (v : JsonValue) → IsLaidOut s
    → vs.items ≡ s.values.items ++ v ∷ []
    → containers_of (record s { values = vs }) ≡ value_added (containers_of s) v
view-pushed s vs v h e =
    let n = s.innermost.first_value in
    rw (e, drop-append-le n s.values.items (v ∷ []) (values_within s h))
    (rw (take-append-le n s.values.items (v ∷ []) (values_within s h)))

-- if the values aren't kept, but their number is

awaits_with : (b : ContainerKind) (c d : Container) → c.keys ≡ d.keys → length c.values ≡ length d.values
    → AwaitsValue b c → AwaitsValue b d
awaits_with Array c d k v h = sym k ∙ h
awaits_with Object c d k v h = omega (arith, ap length k, v, h)

await_with : (fs : List Frame) (ks : List (List ℕ)) (vs ws : List JsonValue) → length vs ≡ length ws
    → AllAwaitValue (containers_in fs ks vs) → AllAwaitValue (containers_in fs ks ws)
await_with [] ks vs ws e h = tt
await_with (f ∷ fs) ks vs ws e h = (
  awaits_with f.kind (container_of f ks vs) (container_of f ks ws) refl
      (omega (arith, e, length-drop f.first_value vs, length-drop f.first_value ws)) h.0,
  await_with fs (take f.first_key ks) (take f.first_value vs) (take f.first_value ws)
      (omega (arith, e, length-take f.first_value vs, length-take f.first_value ws)) h.1,
)

known_with : (fs : List Frame) (ks : List (List ℕ)) (vs ws : List JsonValue) (ls : List KnownKeys)
    → AllKnown (containers_in fs ks vs) ls → AllKnown (containers_in fs ks ws) ls
known_with [] ks vs ws ls h = tt
known_with (f ∷ fs) ks vs ws [] h = h
known_with (f ∷ fs) ks vs ws (l ∷ ls) h =
    (h.0, known_with fs (take f.first_key ks) (take f.first_value vs) (take f.first_value ws) ls h.1)

pub IsLaidOut-as_many : (s : Inside) (vs : Vec JsonValue Global) → IsLaidOut s → vec_len vs ≡ vec_len s.values
    → IsLaidOut (record s { values = vs })
IsLaidOut-as_many s vs h e =
    let n = s.innermost.first_value in
    let fs = reverse s.around.items in
    let ks = take s.innermost.first_key s.keys.items in
    let same : length (take n s.values.items) ≡ length (take n vs.items) =
    omega (arith, e, s.values.ok.0, vs.ok.0, length-take n s.values.items, length-take n vs.items) in
    record {
      keys_within = h.keys_within;
      values_within = omega (arith, e, h.values_within);
      nested = h.nested;
      await = await_with fs ks (take n s.values.items) (take n vs.items) same h.await;
      known =
          IfSome_then s.known h.known (λ l k.
          (k.0, known_with fs ks (take n s.values.items) (take n vs.items) (reverse s.known_around.items) k.1));
    }

-- ---- a container is opened in the innermost one

reverse_snoc : {X : Type 0} (xs ys : List X) (x : X) → ys ≡ xs ++ x ∷ [] → reverse ys ≡ x ∷ reverse xs
reverse_snoc xs ys x e = ap reverse e ∙ reverse-append xs (x ∷ [])

-- t is s with a container opened in the innermost one
pub record IsOpened (s t : Inside) : Type 0 where
  pub keys : t.keys ≡ s.keys
  pub values : t.values ≡ s.values
  pub around : t.around.items ≡ s.around.items ++ s.innermost ∷ []
  pub first_key : t.innermost.first_key ≡ vec_len s.keys
  pub first_value : t.innermost.first_value ≡ vec_len s.values
  pub strict : is_some t.known ≡ is_some s.known
  pub known : IfSome t.known (Knows [])
  pub known_around : IfSome s.known (λ l. t.known_around.items ≡ s.known_around.items ++ l ∷ [])

opened_keys : (s t : Inside) → IsOpened s t → take t.innermost.first_key t.keys.items ≡ s.keys.items
opened_keys s t o = rw (o.keys) (take_all _ s.keys.items (omega (arith, o.first_key, s.keys.ok.0)))

opened_values : (s t : Inside) → IsOpened s t → take t.innermost.first_value t.values.items ≡ s.values.items
opened_values s t o = rw (o.values) (take_all _ s.values.items (omega (arith, o.first_value, s.values.ok.0)))

around-opened : (s t : Inside) → IsOpened s t
    → (containers_of t).around ≡ (containers_of s).innermost ∷ (containers_of s).around
around-opened s t o = λ i. containers_in (reverse_snoc s.around.items t.around.items s.innermost o.around i)
    (opened_keys s t o i) (opened_values s t o i)

opened_known : (cs ds : List Container) (c : Container) (ks : List (List ℕ)) (ls ms : List KnownKeys)
    (a b : Option KnownKeys) → ds ≡ c ∷ cs → is_some b ≡ is_some a → IfSome a (λ l. ms ≡ ls ++ l ∷ [])
    → IfSome a (λ l. Knows c.keys l × AllKnown cs (reverse ls)) → IfSome b (Knows ks)
    → IfSome b (λ l. Knows ks l × AllKnown ds (reverse ms))
opened_known cs ds c ks ls ms a None e strict around h none = tt
opened_known cs ds c ks ls ms None (Some l) e strict around h none = absurd (false≢true (sym strict))
opened_known cs ds c ks ls ms (Some k) (Some l) e strict around h none =
    (none, rw (e, reverse_snoc ls ms k around) h)

no_keys : (s t : Inside) → IsOpened s t → drop t.innermost.first_key t.keys.items ≡ []
no_keys s t o = rw (o.keys) (drop_all _ s.keys.items (omega (arith, o.first_key, s.keys.ok.0)))

pub IsLaidOut-opened : (s t : Inside) → IsLaidOut s → IsOpened s t
    → AwaitsValue s.innermost.kind (containers_of s).innermost → IsLaidOut t
IsLaidOut-opened s t h o awaits = record {
  keys_within = omega (arith, o.first_key, ap (λ ks. vec_len ks) o.keys);
  values_within = omega (arith, o.first_value, ap (λ vs. vec_len vs) o.values);
  nested =
      rw (reverse_snoc s.around.items t.around.items s.innermost o.around)
      (omega (arith, o.first_key, h.keys_within), omega (arith, o.first_value, h.values_within), h.nested);
  await = subst AllAwaitValue (sym (around-opened s t o)) (awaits, h.await);
  known =
      opened_known (containers_of s).around _ (containers_of s).innermost _ s.known_around.items t.known_around.items
      s.known t.known (around-opened s t o) o.strict o.known_around h.known
      (rw (no_keys s t o) (o.known));
}

-- ---- back to the container around one that ended

-- s without its last frame, f, which is that of the innermost container now
abbrev pub popped : Inside → Vec Frame Global → Frame → Option KnownKeys → Vec KnownKeys Global → Inside
popped s fs f known ls = record s { around = fs; innermost = f; known = known; known_around = ls }

-- what is known of the containers around is taken from the list; of a usual reading nothing is known
pub record PopsKnown (a b : Option KnownKeys) (ls ms : List KnownKeys) : Type 0 where
  pub usual : is_some a ≡ false → b ≡ a
  pub strict : is_some a ≡ true → MatchOption b (ls ≡ []) (λ l. ls ≡ ms ++ l ∷ [])

popped_known : (P : KnownKeys → Type 0) (c : Container) (cs : List Container) (ls ms : List KnownKeys)
    (a b : Option KnownKeys) → PopsKnown a b ls ms → IfSome a (λ l. P l × AllKnown (c ∷ cs) (reverse ls))
    → (is_some b ≡ is_some a) × IfSome b (λ l. Knows c.keys l × AllKnown cs (reverse ms))
popped_known P c cs ls ms None b p h = rw (p.usual refl) (refl, tt)
popped_known P c cs ls ms (Some k) None p h =
    absurd (subst (λ l. AllKnown (c ∷ cs) (reverse l)) (p.strict refl) h.1)
popped_known P c cs ls ms (Some k) (Some l) p h =
    (refl, subst (AllKnown (c ∷ cs)) (reverse_snoc ms ls l (p.strict refl)) h.1)

-- nothing is in the innermost container of s, and f is the last frame
pub record IsEnded (s : Inside) (fs : Vec Frame Global) (f : Frame) (known : Option KnownKeys)
    (ls : Vec KnownKeys Global) : Type 0 where
  pub laid : IsLaidOut s
  pub keys : drop s.innermost.first_key s.keys.items ≡ []
  pub values : drop s.innermost.first_value s.values.items ≡ []
  pub around : s.around.items ≡ fs.items ++ f ∷ []
  pub pops : PopsKnown s.known known s.known_around.items ls.items

all_taken : {X : Type 0} (n : ℕ) (xs : List X) → drop n xs ≡ [] → take n xs ≡ xs
all_taken n xs none = take_all n xs (omega (arith, ap length none, length-drop n xs))

pub length-containers_in : (fs : List Frame) (ks : List (List ℕ)) (vs : List JsonValue)
    → length (containers_in fs ks vs) ≡ length fs
length-containers_in [] ks vs = refl
length-containers_in (f ∷ fs) ks vs =
    omega (arith, length-containers_in fs (take f.first_key ks) (take f.first_value vs))

module _ (s : Inside) (fs : Vec Frame Global) (f : Frame) (known : Option KnownKeys) (ls : Vec KnownKeys Global)
    (e : IsEnded s fs f known ls) where
  around-popped : (containers_of s).around ≡ (containers_of (popped s fs f known ls)).innermost
      ∷ (containers_of (popped s fs f known ls)).around
  around-popped = λ i. containers_in (reverse_snoc fs.items s.around.items f e.around i)
      (all_taken s.innermost.first_key s.keys.items e.keys i)
      (all_taken s.innermost.first_value s.values.items e.values i)

  known-popped : (is_some known ≡ is_some s.known) × IfSome known (λ l.
      Knows (containers_of (popped s fs f known ls)).innermost.keys l
      × AllKnown (containers_of (popped s fs f known ls)).around (reverse ls.items))
  known-popped = popped_known (Knows (containers_of s).innermost.keys) (containers_of (popped s fs f known ls)).innermost
      (containers_of (popped s fs f known ls)).around s.known_around.items ls.items s.known known e.pops
      (rw around-popped at e.laid.known)

  nested-popped : AreNested (f ∷ reverse fs.items) s.innermost.first_key s.innermost.first_value
  nested-popped = rw (reverse_snoc fs.items s.around.items f e.around) at e.laid.nested

  pub IsLaidOut-popped : IsLaidOut (popped s fs f known ls)
  IsLaidOut-popped = record {
    keys_within = omega (arith, nested-popped.0, e.laid.keys_within);
    values_within = omega (arith, nested-popped.1, e.laid.values_within);
    nested = nested-popped.2;
    await = (subst AllAwaitValue around-popped e.laid.await).1;
    known = known-popped.1;
  }

  -- a clause sees the value added to the container around the one that ended
  pub IsAdded-popped : (vs : Vec JsonValue Global) (v : JsonValue) → vs.items ≡ s.values.items ++ v ∷ []
      → IsAdded (containers_of s) v (containers_of (record (popped s fs f known ls) { values = vs }))
  IsAdded-popped vs v pushed =
      let t = popped s fs f known ls in
      record {
        outer = (containers_of t).innermost;
        rest = (containers_of t).around;
        around = around-popped;
        awaits = (subst AllAwaitValue around-popped e.laid.await).0;
        closed = view-pushed t vs v IsLaidOut-popped pushed ∙ rw known-popped.0 refl;
      }

-- an array ends: it has no keys
pub view-array_ended : (s : Inside) (vs : Vec JsonValue Global) (o : OpenContainers) → IsLaidOut s
    → containers_of s ≡ o → o.innermost.keys ≡ [] → vs.items ≡ take s.innermost.first_value s.values.items
    → containers_of (record s { values = vs }) ≡ innermost_ended o
view-array_ended s vs o h seen none cut =
    let n = s.innermost.first_value in
    let no_keys : drop s.innermost.first_key s.keys.items ≡ [] =
    ap (λ (p : OpenContainers). p.innermost.keys) seen ∙ none in
    let no_values = drop_all n (take n s.values.items) (omega (arith, length-take n s.values.items)) in
    rw (cut, no_values, take-take n n s.values.items (omega arith), no_keys) (ap innermost_ended seen)

pub IsLaidOut-values_cut : (s : Inside) (ks : Vec (List ℕ) Global) (vs : Vec JsonValue Global) → IsLaidOut s
    → ks.items ≡ s.keys.items → vs.items ≡ take s.innermost.first_value s.values.items
    → IsLaidOut (record s { keys = ks; values = vs })
IsLaidOut-values_cut s ks vs h same cut =
    IsLaidOut-kept s ks vs h same (keeps_cut s.innermost.first_value s.values.items vs.items (values_within s h) cut)

-- ---- the outermost container has all that is on the stacks

all_here : (fs : List Frame) (ks : List (List ℕ)) (vs : List JsonValue) (k v : ℕ) → containers_in fs ks vs ≡ []
    → AreNested fs k v → (k ≡ 0) × (v ≡ 0)
all_here [] ks vs k v none h = h
all_here (f ∷ fs) ks vs k v none h = absurd (cc)

module _ (s : Inside) (o : OpenContainers) (h : IsLaidOut s) (seen : containers_of s ≡ o) (none : o.around ≡ []) where
  from_start : (s.innermost.first_key ≡ 0) × (s.innermost.first_value ≡ 0)
  from_start = all_here (reverse s.around.items) (take s.innermost.first_key s.keys.items)
      (take s.innermost.first_value s.values.items) s.innermost.first_key s.innermost.first_value
      (ap (λ (p : OpenContainers). p.around) seen ∙ none) h.nested

  pub keys_here : s.keys.items ≡ o.innermost.keys
  keys_here = ap (λ n. drop n s.keys.items) (sym from_start.0) ∙ ap (λ (p : OpenContainers). p.innermost.keys) seen

  pub values_here : s.values.items ≡ o.innermost.values
  values_here =
      ap (λ n. drop n s.values.items) (sym from_start.1) ∙ ap (λ (p : OpenContainers). p.innermost.values) seen

  -- all of them may be taken
  pub IsLaidOut-values_taken : (vs : Vec JsonValue Global) → IsLaidOut (record s { values = vs })
  IsLaidOut-values_taken vs =
      IsLaidOut-values s vs h (keeps_none s.innermost.first_value s.values.items vs.items from_start.1)

  pub IsLaidOut-keys_left : (ks : Vec (List ℕ) Global) (vs : Vec JsonValue Global) → ks.items ≡ s.keys.items
      → vs.items ≡ [] → IsLaidOut (record s { keys = ks; values = vs })
  IsLaidOut-keys_left ks vs same cut =
      IsLaidOut-values_cut s ks vs h same (cut ∙ ap (λ n. take n s.values.items) (sym from_start.1))

  pub IsLaidOut-taken : (ks : Vec (List ℕ) Global) (vs : Vec JsonValue Global) (known : Option KnownKeys)
      → is_some known ≡ is_some s.known → IfSome known (Knows ks.items) → IsLaidOut (changed s ks vs known)
  IsLaidOut-taken ks vs known strict knows = IsLaidOut-changed s ks vs known h (record {
    keys = keeps_none s.innermost.first_key s.keys.items ks.items from_start.0;
    values = keeps_none s.innermost.first_value s.values.items vs.items from_start.1;
    strict = strict;
    knows = rw (from_start.0) knows;
  })

-- ---- the containers around are back, and the value of the one that ended is added

-- j is s back in the container around
pub record IsBack (s j : Inside) : Type 0 where
  pub fs : Vec Frame Global
  pub f : Frame
  pub l : Option KnownKeys
  pub ls : Vec KnownKeys Global
  pub ended : IsEnded s fs f l ls
  pub is : j ≡ popped s fs f l ls

pub IsBack-from : (o : OpenContainers) (s j : Inside) (fs : Vec Frame Global) (f : Frame) (l : Option KnownKeys)
    (ls : Vec KnownKeys Global) → IsLaidOut s → containers_of s ≡ o → o.innermost ≡ new_container o.innermost.kind
    → s.around.items ≡ fs.items ++ f ∷ [] → PopsKnown s.known l s.known_around.items ls.items
    → j ≡ popped s fs f l ls → IsBack s j
IsBack-from o s j fs f l ls laid seen ended around pops is = record {
  fs = fs;
  f = f;
  l = l;
  ls = ls;
  ended = record {
    laid = laid;
    keys = ap (λ (p : OpenContainers). p.innermost.keys) seen ∙ ap (λ (c : Container). c.keys) ended;
    values = ap (λ (p : OpenContainers). p.innermost.values) seen ∙ ap (λ (c : Container). c.values) ended;
    around = around;
    pops = pops;
  };
  is = is;
}

pub IsLaidOut-back : (s j : Inside) (vs : Vec JsonValue Global) → IsBack s j → vs.items ≡ j.values.items
    → IsLaidOut (record j { values = vs })
IsLaidOut-back s j vs b e =
    rw (b.is) (IsLaidOut-same _ vs (IsLaidOut-popped s b.fs b.f b.l b.ls b.ended) (rw (b.is) at e))

pub IsLaidOut-back_pushed : (s j : Inside) (vs : Vec JsonValue Global) (v : JsonValue) → IsBack s j
    → vs.items ≡ j.values.items ++ v ∷ [] → IsLaidOut (record j { values = vs })
IsLaidOut-back_pushed s j vs v b e =
    rw (b.is) (IsLaidOut-pushed _ vs v (IsLaidOut-popped s b.fs b.f b.l b.ls b.ended) (rw (b.is) at e))

pub IsAdded-back : (o : OpenContainers) (s j : Inside) (vs : Vec JsonValue Global) (v : JsonValue)
    → containers_of s ≡ o → IsBack s j → vs.items ≡ j.values.items ++ v ∷ []
    → IsAdded o v (containers_of (record j { values = vs }))
IsAdded-back o s j vs v seen b e =
    rw (← seen, b.is) (IsAdded-popped s b.fs b.f b.l b.ls b.ended vs v (rw (b.is) at e))

-- ---- a key is found among the entries so far if it is among the keys

is_some-map : (o : Option JsonValue) → is_some (option_map view o) ≡ is_some o
is_some-map None = refl
is_some-map (Some v) = refl

pub has_key : (o : OpenContainers) (name : List ℕ) → length o.innermost.keys ≡ length o.innermost.values
    → is_some (position (λ k. bytes_eq k name) o.innermost.keys) ≡ is_some (find name (entries_so_far o.innermost))
has_key o name even =
    let ks = o.innermost.keys in
    let vs = o.innermost.values in
    sym (list_any-position (λ k. bytes_eq k name) ks)
    ∙ known-put_each name ks ks vs (put_each (zip ks vs)) refl (sym even) refl
    ∙ sym (is_some-map (find name (put_each (zip ks vs))))
    ∙ ap is_some (find-viewed name (put_each (zip ks vs)))
