-- What a desk does is acts of its connection: bytes are handed out, and events are looked at.
use Rattle.std.proofs.Common.{◌≡◌, ℕ, ◌+◌, List, [], ◌∷◌, ◌++◌, append-nil, flat_map, Option, None, Some, ◌⊎◌, inl, inr, refl, sym, ap, subst, ◌∙◌, arith}
use Rattle.std.proofs.lemmas.Grind.{flat_map-append}
use Rattle.rpc_msg.specs.declared.ids.CallId.{CallId}
use Rattle.rpc_machine.specs.declared.command.Command.{Command}
use Rattle.vat_host.specs.declared.event.Event.{Event}
use Rattle.vat_hosts.specs.Calls.{of_calls}
use Rattle.vat_hosts.specs.Served.{times_served, times_told}
use Rattle.vat_hosts.proofs.Served.{serves-append, times-append}
use Rattle.vat_connection.specs.Connecting.{Connected}
use Rattle.vat_connections.specs.OneConnection.{Act, ActsAll, commanded_by, told_by}
use Rattle.vat_connections.specs.OneConnection.Act.{Gives, Asks}
use Rattle.vat_connections.specs.Served.{Did, IsLetGo, IsMade}
use Rattle.lovendak_c_desk.specs.declared.desk.Desk.{Desk}
use Rattle.lovendak_c_desk.specs.Desks.{LooksBehind, SaysBehind}

pub acts_on : (c : Connected) (xs : List Act) (d : Connected) (ys : List Act) (e : Connected) → ActsAll c xs d → ActsAll d ys e → ActsAll c (xs ++ ys) e
acts_on c [] d ys e same more = subst (λ (k : Connected). ActsAll k ys e) same more
acts_on c (x ∷ xs) d ys e (mid, first, rest) more = (mid, first, acts_on mid xs d ys e rest more)

pub did_left : (P : Act → Type 0) (xs ys : List Act) → Did P xs → Did P (xs ++ ys)
did_left P [] ys d = absurd d
did_left P (x ∷ xs) ys (inl p) = inl p
did_left P (x ∷ xs) ys (inr d) = inr (did_left P xs ys d)

pub did_right : (P : Act → Type 0) (xs ys : List Act) → Did P ys → Did P (xs ++ ys)
did_right P [] ys d = d
did_right P (x ∷ xs) ys d = inr (did_right P xs ys d)

pub did_in : (P : Act → Type 0) (xs ys : List Act) → Did P (xs ++ ys) → Did P xs ⊎ Did P ys
did_in P [] ys d = inr d
did_in P (x ∷ xs) ys (inl p) = inl (inl p)
did_in P (x ∷ xs) ys (inr d) = go (did_in P xs ys d)
  where
    go : Did P xs ⊎ Did P ys → Did P (x ∷ xs) ⊎ Did P ys
    go (inl d) = inl (inr d)
    go (inr d) = inr d

-- ---- the event that is looked at

-- what it tells of calls
abbrev pub of_held : Option Event → List Event
of_held None = []
of_held (Some v) = of_calls v

-- The connection told it.
abbrev pub IsAsked : Event → Act → Type 0
IsAsked v y = y ≡ Asks (Some v)

-- Such acts of its connection lead from the one desk to the other: these commands are done by them, only such calls are let go, and all
-- such calls are made.
pub record Goes (L M : CallId → Type 0) (cs : List Command) (d e : Desk) : Type 0 where
  pub acts : List Act
  pub lead : ActsAll d.connection acts e.connection
  pub commands : flat_map commanded_by acts ≡ cs
  pub tasks : (k : ℕ) → times_served k (flat_map told_by acts) + times_served k (of_held d.event) ≡ times_served k (of_held e.event)
  pub ended : (k : ℕ) → times_told k (flat_map told_by acts) + times_told k (of_held d.event) ≡ times_told k (of_held e.event)
  pub held : (v : Event) → e.event ≡ Some v → (d.event ≡ Some v) ⊎ Did (IsAsked v) acts
  pub let_go : (id : CallId) → Did (IsLetGo id) acts → L id
  pub made : (id : CallId) → M id → Did (IsMade id) acts

-- These acts tell nothing.
pub plainly : (L M : CallId → Type 0) (d e : Desk) (ys : List Act) (cs : List Command) → ActsAll d.connection ys e.connection → flat_map commanded_by ys ≡ cs → flat_map told_by ys ≡ [] → e.event ≡ d.event
    → ((id : CallId) → Did (IsLetGo id) ys → L id) → ((id : CallId) → M id → Did (IsMade id) ys) → Goes L M cs d e
plainly L M d e ys cs lead commands none same let_go made = record {
  acts = ys;
  lead = lead;
  commands = commands;
  tasks = λ k. let a = ap (times_served k) none in let b = ap (λ (o : Option Event). times_served k (of_held o)) same in omega arith;
  ended = λ k. let a = ap (times_told k) none in let b = ap (λ (o : Option Event). times_told k (of_held o)) same in omega arith;
  held = λ v is. inl (sym same ∙ is);
  let_go = let_go;
  made = made;
}

-- no call
abbrev pub None_of : CallId → Type 0
None_of id = ⊥

-- It does no command.
abbrev pub Silently : Desk → Desk → Type 0
Silently d e = Goes None_of None_of [] d e

-- Nothing happens.
pub stays : (L M : CallId → Type 0) (d e : Desk) → e.connection ≡ d.connection → e.event ≡ d.event → ((id : CallId) → M id → ⊥) → Goes L M [] d e
stays L M d e connection event none_made = plainly L M d e [] [] connection refl refl event (λ id gone. absurd gone) (λ id m. absurd (none_made id m))

pub then : (d m e : Desk) → Silently d m → Silently m e → Silently d e
then d m e first more = record {
  acts = first.acts ++ more.acts;
  lead = acts_on d.connection first.acts m.connection more.acts e.connection first.lead more.lead;
  commands = flat_map-append commanded_by first.acts more.acts ∙ ap (λ (cs : List Command). cs ++ flat_map commanded_by more.acts) first.commands ∙ more.commands;
  tasks = λ k.
      let a = ap (times_served k) (flat_map-append told_by first.acts more.acts) in
      let b = serves-append k (flat_map told_by first.acts) (flat_map told_by more.acts) in
      let f = first.tasks k in
      let g = more.tasks k in
      omega arith;
  ended = λ k.
      let a = ap (times_told k) (flat_map-append told_by first.acts more.acts) in
      let b = times-append k (flat_map told_by first.acts) (flat_map told_by more.acts) in
      let f = first.ended k in
      let g = more.ended k in
      omega arith;
  held = λ v is. held v (more.held v is);
  let_go = λ id gone. let_go id (did_in (IsLetGo id) first.acts more.acts gone);
  made = λ id m. absurd m;
}
  where
    before : (v : Event) → (d.event ≡ Some v) ⊎ Did (IsAsked v) first.acts → (d.event ≡ Some v) ⊎ Did (IsAsked v) (first.acts ++ more.acts)
    before v (inl is) = inl is
    before v (inr asked) = inr (did_left (IsAsked v) first.acts more.acts asked)

    held : (v : Event) → (m.event ≡ Some v) ⊎ Did (IsAsked v) more.acts → (d.event ≡ Some v) ⊎ Did (IsAsked v) (first.acts ++ more.acts)
    held v (inl is) = before v (first.held v is)
    held v (inr asked) = inr (did_right (IsAsked v) first.acts more.acts asked)

    let_go : (id : CallId) → Did (IsLetGo id) first.acts ⊎ Did (IsLetGo id) more.acts → ⊥
    let_go id (inl gone) = first.let_go id gone
    let_go id (inr gone) = more.let_go id gone

-- ---- what it does by itself

neither : ⊥ ⊎ ⊥ → ⊥
neither (inl i) = i
neither (inr i) = i

-- The bytes wait that are to be sent.
pub says : (waiting : List ℕ) (d m : Desk) → SaysBehind waiting d m → Silently d m
says [] d m (gives, same) = plainly None_of None_of d m (Gives m.waiting ∷ []) [] (m.connection, gives, refl) refl refl same (λ id gone. neither gone) (λ id made. absurd made)
says (b ∷ bytes) d m is = stays None_of None_of d m (ap (λ (x : Desk). x.connection) is) (ap (λ (x : Desk). x.event) is) (λ id made. made)

told_of : (o : Option Event) → flat_map told_by (Asks o ∷ []) ≡ of_held o
told_of None = refl
told_of (Some v) = append-nil (of_calls v)

-- The next event is looked at.
pub looks : (o : Option Event) (d m : Desk) → d.event ≡ o → LooksBehind o d m → Silently d m
looks None d m none (tells, same) = record {
  acts = Asks m.event ∷ [];
  lead = (m.connection, tells, refl);
  commands = refl;
  tasks = λ k. let a = ap (times_served k) (told_of m.event) in let b = ap (λ (o : Option Event). times_served k (of_held o)) none in omega arith;
  ended = λ k. let a = ap (times_told k) (told_of m.event) in let b = ap (λ (o : Option Event). times_told k (of_held o)) none in omega arith;
  held = λ v is. inr (inl (ap Asks is));
  let_go = λ id gone. neither gone;
  made = λ id made. absurd made;
}
looks (Some v) d m e is = stays None_of None_of d m (ap (λ (x : Desk). x.connection) is) (ap (λ (x : Desk). x.event) is) (λ id made. made)
