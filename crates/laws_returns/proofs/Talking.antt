-- In each talk what was asked was told, or it is left.
use Rattle.std.proofs.Common.{◌≡◌, ℕ, ◌+◌, ◌≤◌, List, [], ◌∷◌, ◌++◌, Option, None, Some, IsSome, Result, Ok, refl, sym, ap, subst, ◌∙◌, arith}
use Rattle.std.specs.Prelude.{IfOk}
use Rattle.std.specs.Ordering.{nat_cmp}
use Rattle.std.specs.FinMap as map
use Rattle.rpc_msg.specs.declared.message.Message.{Message}
use Rattle.rpc_machine.specs.declared.command.Command.{Command}
use Rattle.rpc_machine.specs.declared.command.Granted.{Granted}
use Rattle.rpc_machine.specs.declared.command.Refusal.{Refusal}
use Rattle.rpc_machine.specs.declared.command.Effects.{Effects}
use Rattle.rpc_machine.specs.State.{State}
use Rattle.rpc_machine.specs.Down.{fallen}
use Rattle.rpc_machine.specs.Steps.{Obeys}
use Rattle.rpc_machine.proofs.StaysDown.{command_down, receive_down}
use Rattle.rpc_codec.specs.Envelopes.{What}
use Rattle.peer_adapter.specs.Peering.{Coming, Tables, comes, goes}
use Rattle.laws_steps.specs.NodesThere.{Stays, Commanded as ByCommand, Received, Fell as ByFall, IsReached}
use Rattle.laws_steps.proofs.Reached.{go_on}
use Rattle.laws_returns.specs.Counts.{asks, asks_in, returns, returns_in}
use Rattle.laws_returns.specs.Steps.{is_open, open_in, IsReturned, StepsReturn, OpenOnesWait}
use Rattle.laws_returns.specs.Adapted.{AdapterReturns, IsHeardOrTold}
use Rattle.laws_returns.specs.Talks.{Talk, Event, HearsAll, Talks, New, Sets, Commanded, Hears, Says, Fell, asked, told, left, EachGetsOneReturn}
use Rattle.laws_returns.proofs.Returning.{returns-append}

-- ---- Messages that a vat hears one after the other

-- A vat that is down stays as it is.
down_stays : (s : State) (ms said : List Message) (t : State) → IsSome s.down → HearsAll s ms said t → t ≡ s
down_stays s [] said t d h = h.1
down_stays s (m ∷ ms) said t d h =
    let u = (receive_down s m h.0 h.1 d h.3).new_is in
    down_stays h.1 ms h.2 t (subst (λ (w : State). IsSome w.down) (sym u) d) h.4 ∙ u

was_up : (s : State) (ms said : List Message) (t : State) → HearsAll s ms said t → t.down ≡ None → s.down ≡ None
was_up s ms said t h up = by s.down refl
  where
    by : (o : Option ℕ) → s.down ≡ o → s.down ≡ None
    by None e = e
    by (Some n) e = sym (ap (λ (w : State). w.down) (down_stays s ms said t (subst IsSome (sym e) refl) h)) ∙ up

module _ (steps : StepsReturn) where
  hears_all : (s : State) (ms said : List Message) (t : State) → IsReached s → HearsAll s ms said t
      → IsReached t × ((q : ℕ) → IsReturned t (asks_in q ms + open_in q s) (returns_in q said + open_in q t))
  hears_all s [] said t r h = rw (h.0, h.1) (r, λ q. (omega arith, λ up. omega arith))
  hears_all s (m ∷ ms) said t r h =
      let reached = go_on s h.1 r (Received m h.0 h.3 Stays) in
      let next = hears_all h.1 ms h.2 t reached h.4 in
      (next.0, λ q. both q (steps.messages s m h.0 h.1 r h.3 q) (next.1 q))
    where
      both : (q : ℕ) → IsReturned h.1 (asks q m + open_in q s) (returns_in q h.0.sends + open_in q h.1) → IsReturned t (asks_in q ms + open_in q h.1) (returns_in q h.2 + open_in q t)
          → IsReturned t (asks_in q (m ∷ ms) + open_in q s) (returns_in q said + open_in q t)
      both q a b =
          let e = ap (returns_in q) h.5 ∙ returns-append q h.0.sends h.2 in
          let u = a.0 in
          let v = b.0 in
          (omega (arith, e, u, v), λ up. let c = a.1 (was_up h.1 ms h.2 t h.4 up) in let d = b.1 up in omega (arith, e, c, d))

-- ---- Talks

record Kept (s : Talk) (log : List Event) : Type 0 where
  reached : IsReached s.core
  most : (q : ℕ) → told q log + left q s ≤ asked q log
  each : s.core.down ≡ None → (q : ℕ) → asked q log ≡ told q log + left q s

when_ok : {X E : Type 0} (P : X → Type 0) (r : Result X E) (x : X) → r ≡ Ok x → IfOk r P → P x
when_ok P r x e h = subst (λ r. IfOk r P) e h

module _ (steps : StepsReturn) (adapter : AdapterReturns) where
  commanded : (s : Talk) (log : List Event) (c : Command) (a : Result Granted Refusal) (x : Effects) (t : State) → Obeys s.core c a x t → Kept s log → Kept (record s { core = t; unsaid = s.unsaid ++ x.sends }) log
  commanded s log c a x t o k = record {
    reached = go_on s.core t k.reached (ByCommand c a x o Stays);
    most = λ q. let i = k.most q in let n = (steps.commands s.core c a x t k.reached o q).0 in let e = returns-append q s.unsaid x.sends in omega (arith, i, n, e);
    each = λ up q. let i = k.each (before s.core.down refl up) q in let n = (steps.commands s.core c a x t k.reached o q).1 up in let e = returns-append q s.unsaid x.sends in omega (arith, i, n, e);
  }
    where
      before : (d : Option ℕ) → s.core.down ≡ d → t.down ≡ None → s.core.down ≡ None
      before None e up = e
      before (Some n) e up = sym (ap (λ (w : State). w.down) (command_down s.core c a x t (subst IsSome (sym e) refl) o).new_is) ∙ up

  heard : (s : Talk) (log : List Event) (tables : Tables) (w : What) (c : Coming) (said : List Message) (t : State) → comes tables s.adapter w ≡ Ok c → HearsAll s.core c.heard said t → Kept s log
      → Kept (record { core = t; adapter = c.state; unsaid = s.unsaid ++ said }) (Event.Came w c.besides ∷ log)
  heard s log tables w c said t is h k = record {
    reached = all.0;
    most = λ q. let i = k.most q in let n = (all.1 q).0 in let e = returns-append q s.unsaid said in let a = once q in omega (arith, i, n, e, a);
    each = λ up q. let i = k.each (was_up s.core c.heard said t h up) q in let n = (all.1 q).1 up in let e = returns-append q s.unsaid said in let a = once q in omega (arith, i, n, e, a);
  }
    where
      all : IsReached t × ((q : ℕ) → IsReturned t (asks_in q c.heard + open_in q s.core) (returns_in q said + open_in q t))
      all = hears_all steps s.core c.heard said t k.reached h

      once : (q : ℕ) → IsHeardOrTold q w c
      once q = when_ok (IsHeardOrTold q w) (comes tables s.adapter w) c is (adapter.came tables s.adapter w q)

  went : (s : Talk) (log : List Event) (m : Message) (ms said : List Message) (t : State) → s.unsaid ≡ m ∷ ms → HearsAll s.core (goes s.adapter m).heard said t → Kept s log
      → Kept (record { core = t; adapter = (goes s.adapter m).state; unsaid = ms ++ said }) (Event.Went (goes s.adapter m).told ∷ log)
  went s log m ms said t is h k = record {
    reached = all.0;
    most = λ q. let i = k.most q in let n = (all.1 q).0 in let e = returns-append q ms said in let a = adapter.went s.adapter m q in let b = a.0 in let c = a.1 in let f = first q in omega (arith, i, n, e, b, c, f);
    each =
        λ up q.
        let i = k.each (was_up s.core (goes s.adapter m).heard said t h up) q in
        let n = (all.1 q).1 up in
        let e = returns-append q ms said in
        let a = adapter.went s.adapter m q in
        let b = a.0 in
        let c = a.1 in
        let f = first q in
        omega (arith, i, n, e, b, c, f);
  }
    where
      all : IsReached t × ((q : ℕ) → IsReturned t (asks_in q (goes s.adapter m).heard + open_in q s.core) (returns_in q said + open_in q t))
      all = hears_all steps s.core (goes s.adapter m).heard said t k.reached h

      first : (q : ℕ) → returns_in q s.unsaid ≡ returns q m + returns_in q ms
      first q = ap (returns_in q) is

  fell : (s : Talk) (log : List Event) (n : ℕ) → Kept s log → Kept (record s { core = fallen s.core n }) log
  fell s log n k = record {
    reached = go_on s.core (fallen s.core n) k.reached (ByFall n Stays);
    most = λ q. let i = k.most q in let e = ap is_open (map.get-empty nat_cmp q) in omega (arith, i, e);
    each = λ up q. absurd (let bad : Some n ≡ None = up in cc);
  }

  in_talks : (s : Talk) (log : List Event) → Talks s log → Kept s log
  in_talks _ _ (New v l b) = record {
    reached = (v, l, b, Stays);
    most = λ q. let e = ap is_open (map.get-empty nat_cmp q) in omega (arith, e);
    each = λ up q. let e = ap is_open (map.get-empty nat_cmp q) in omega (arith, e);
  }
  in_talks _ log (Sets {s = s} f run) = let k = in_talks s log run in record { reached = k.reached; most = k.most; each = k.each }
  in_talks _ log (Commanded {s = s} c a x t run o) = commanded s log c a x t o (in_talks s log run)
  in_talks _ _ (Hears {s = s} {log = log} tables w c said t run is h) = heard s log tables w c said t is h (in_talks s log run)
  in_talks _ _ (Says {s = s} {log = log} m ms said t run is h) = went s log m ms said t is h (in_talks s log run)
  in_talks _ log (Fell {s = s} n run) = fell s log n (in_talks s log run)

  pub each_gets_one : OpenOnesWait → EachGetsOneReturn
  each_gets_one wait = record {
    at_most = λ s log run q. let i = (in_talks s log run).most q in omega (arith, i);
    each = λ s log run up q. (in_talks s log run).each up q;
    waits = λ s log run q e. wait s.core (in_talks s log run).reached q e;
  }
