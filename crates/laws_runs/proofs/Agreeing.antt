-- The counts of two vats agree whatever either does.
use Rattle.std.proofs.Common.{◌≡◌, ℕ, ◌+◌, nat_eq, inl, List, [], ◌∷◌, ◌++◌, Option, None, sym, ap, subst, ◌∙◌, arith}
use Rattle.std.specs.FinMap as map
use Rattle.std.specs.Ordering.{nat_cmp}
use Rattle.rpc_msg.specs.Vats.{other_vat}
use Rattle.rpc_msg.specs.declared.ids.Vat.{Vat}
use Rattle.rpc_msg.specs.declared.ids.Vat.TheVariants.{A, B}
use Rattle.rpc_msg.specs.declared.ids.ObjectId.{ObjectId}
use Rattle.rpc_msg.specs.declared.message.Message.{Message}
use Rattle.rpc_msg.specs.declared.message.Message.TheVariants as message
use Rattle.rpc_msg.specs.Messages.{given, descriptors_of_plain}
use Rattle.finite_maps.specs.Tally.{Map}
use Rattle.finite_maps.proofs.Tallies.{tally-empty}
use Rattle.rpc_machine.specs.declared.command.Command.{Command}
use Rattle.rpc_machine.specs.declared.command.Granted.{Granted}
use Rattle.rpc_machine.specs.declared.command.Effects.{Effects}
use Rattle.rpc_machine.specs.declared.command.Level.{Level}
use Rattle.rpc_machine.specs.declared.command.Level.TheVariants.{One}
use Rattle.rpc_machine.specs.declared.entries.Question.{Question}
use Rattle.rpc_machine.specs.declared.entries.Import.{Import}
use Rattle.rpc_machine.specs.declared.entries.Export.{Export}
use Rattle.rpc_machine.specs.State.{State, start}
use Rattle.rpc_machine.specs.Progress.{Progress, begin, with_state}
use Rattle.rpc_machine.specs.Limits.{import_count, export_count}
use Rattle.rpc_machine.specs.Lists.{how_many}
use Rattle.rpc_machine.specs.Descriptors.{giving}
use Rattle.rpc_machine.specs.Laws.{given_out, SendsRaiseCounts}
use Rattle.rpc_machine.specs.Refusals.{refused}
use Rattle.rpc_machine.specs.Faults.{fault_of, is_foreign}
use Rattle.rpc_machine.specs.UnderWay.{plain_takes, taking_off, under_way}
use Rattle.rpc_machine.specs.Steps.{Does, Handles}
use Rattle.rpc_machine.specs.World.{World, core}
use Rattle.laws_acts.specs.Acts.{Consumes, IsActs, StepsAreActs}
use Rattle.laws_acts.specs.Sent.{Noted, messages, all_sent, sent_at_once}
use Rattle.laws_runs.specs.Views.{Moves, Gets, Did}
use Rattle.laws_runs.specs.Between.{StillHolds, IsKept, HoldsIn}
use Rattle.laws_runs.proofs.Kept.{messages-append}
use Rattle.laws_runs.proofs.Acted as acted
use Rattle.laws_runs.proofs.Heard.{consumes}
use Rattle.laws_runs.proofs.Standing as standing
use Rattle.laws_runs.specs.Imports.{count, letting, got, kept, Brought, IsCovered, Paid}
use Rattle.laws_runs.specs.Entries.{ImportCounts, ExportCounts, IsAbove, AreCounted, IsCounted, AllLetGo, Counts}
use Rattle.laws_runs.specs.Agreed.{AreEqual, Agree}
use Rattle.laws_runs.proofs.Paid.{letting-append}
use Rattle.laws_runs.proofs.Paid as pays
use Rattle.laws_runs.proofs.Got.{took_one, balanced}
use Rattle.laws_runs.proofs.AboveZero as above
use Rattle.laws_runs.proofs.Flags.{Reads, reads, takes_first, takes_all}
use Rattle.rpc_machine.proofs.ExportCounts.{giving-append}

pub given_behind : (e : ℕ) (to sent : List Noted) → giving e (messages (to ++ sent)) ≡ giving e (messages to) + giving e (messages sent)
given_behind e to sent = ap (giving e) (messages-append to sent) ∙ giving-append e (messages to) (messages sent)

-- ---- One vat

-- From the state mid on: what its tables and counts do, with what it sends. It had so many of each import.
record Went (mid : State) (had : ℕ → ℕ) (sent : List Noted) (new : State) : Type 0 where
  moves : Moves mid sent new
  covered : IsCovered new
  counted : AreCounted new
  lets_go : AllLetGo sent
  lets : (e : ℕ) → count e new + letting e sent ≡ had e

-- Of a step that began at s, by acts that the laws of sessions see from mid on, and those of counts from paid on.
went : (s mid paid new : State) (last : Progress) (sent : List Noted) → Did (with_state (begin s) mid) sent last → Paid (with_state (begin s) paid) sent last → Counts sent last → new ≡ last.state → last.released ≡ map.empty → Went mid (λ e. count e paid) sent new
went s mid paid new last sent d p c e r = record {
  moves = subst (λ (u : State). Moves mid sent u) (sym e) d.moves;
  covered = subst IsCovered (sym e) p.covered;
  counted = subst AreCounted (sym e) c.counted.state;
  lets_go = c.lets_go;
  lets = balanced s last new paid sent p e r;
}

pub begins : (s : State) → AreCounted s → IsCounted (begin s)
begins s h = record { state = h; released = λ e. subst IsAbove (sym (map.get-empty nat_cmp e)) tt }

-- ---- Two vats

-- What the vat s sends goes with its exports and its imports.
sends_out : (s new t : State) (to_s to_t sent : List Noted) → ((e : ℕ) → given_out e new ≡ given_out e s + giving e (messages sent)) → AreEqual s to_s t to_t → AreEqual new to_s t (to_t ++ sent)
sends_out s new t to_s to_t sent g h e =
    let a = g e in
    let b = h e in
    let c = given_behind e to_t sent in
    omega (arith, a, b, c)

lets_go : (s new t : State) (to_s to_t sent : List Noted) → ((e : ℕ) → count e new + letting e sent ≡ count e s) → AreEqual t to_t s to_s → AreEqual t (to_t ++ sent) new to_s
lets_go s new t to_s to_t sent g h e =
    let a = g e in
    let b = h e in
    let c = letting-append e to_t sent in
    omega (arith, a, b, c)

-- With a message n that was the oldest on its way to s.
takes_out : (s new t : State) (n : Noted) (to_s to_t sent : List Noted) → Reads s (n ∷ to_s) → ((e : ℕ) → given_out e new + plain_takes s e n.message ≡ given_out e s + giving e (messages sent)) → AreEqual s (n ∷ to_s) t to_t → AreEqual new to_s t (to_t ++ sent)
takes_out s new t n to_s to_t sent r g h e =
    let a = g e in
    let b = h e in
    let c = given_behind e to_t sent in
    let k = takes_first s e n.message n.lets to_s r in
    omega (arith, a, b, c, k)

takes_in : (s paid new t : State) (n : Noted) (to_s to_t sent : List Noted) → ((e : ℕ) → count e new + letting e sent ≡ count e paid) → ((e : ℕ) → count e paid ≡ count e s + how_many (nat_eq e) (given (descriptors_of_plain n.message))) → AreEqual t to_t s (n ∷ to_s) → AreEqual t (to_t ++ sent) new to_s
takes_in s paid new t n to_s to_t sent g f h e =
    let a = g e in
    let b = h e in
    let c = letting-append e to_t sent in
    let d = f e in
    omega (arith, a, b, c, d)

pub turned : (s t : State) (to_s to_t : List Noted) → Agree s to_s t to_t → Agree t to_t s to_s
turned s t to_s to_t k = record {
  stand = standing.turned s t to_s to_t k.stand;
  covered_s = k.covered_t;
  covered_t = k.covered_s;
  counted_s = k.counted_t;
  counted_t = k.counted_s;
  lets_s = k.lets_t;
  lets_t = k.lets_s;
  of_s = k.of_t;
  of_t = k.of_s;
}

-- The vat s does something by itself.
moved : (s t new : State) (to_s to_t sent : List Noted) → Agree s to_s t to_t → Went s (λ e. count e s) sent new → ((e : ℕ) → given_out e new ≡ given_out e s + giving e (messages sent)) → Agree new to_s t (to_t ++ sent)
moved s t new to_s to_t sent k m g = record {
  stand = standing.moved s t new to_s to_t sent k.stand m.moves;
  covered_s = m.covered;
  covered_t = k.covered_t;
  counted_s = m.counted;
  counted_t = k.counted_t;
  lets_s = k.lets_s;
  lets_t = above.all_let to_t sent k.lets_t m.lets_go;
  of_s = sends_out s new t to_s to_t sent g k.of_s;
  of_t = lets_go s new t to_s to_t sent m.lets k.of_t;
}

-- It does so once it took a message.
received : (s t mid paid new : State) (n : Noted) (to_s to_t sent : List Noted) → Agree s (n ∷ to_s) t to_t → Gets s n.message mid → ((e : ℕ) → count e paid ≡ count e s + how_many (nat_eq e) (given (descriptors_of_plain n.message))) → Went mid (λ e. count e paid) sent new → ((e : ℕ) → given_out e new + plain_takes s e n.message ≡ given_out e s + giving e (messages sent)) → Agree new to_s t (to_t ++ sent)
received s t mid paid new n to_s to_t sent k y f m g = record {
  stand = standing.received s t mid new n to_s to_t sent k.stand y m.moves;
  covered_s = m.covered;
  covered_t = k.covered_t;
  counted_s = m.counted;
  counted_t = k.counted_t;
  lets_s = k.lets_s.1;
  lets_t = above.all_let to_t sent k.lets_t m.lets_go;
  of_s = takes_out s new t n to_s to_t sent (reads s t (n ∷ to_s) to_t k.stand.of_s k.stand.of_t) g k.of_s;
  of_t = takes_in s paid new t n to_s to_t sent m.lets f k.of_t;
}

covered : (v : Vat) (b : Option ObjectId) → IsCovered (start v One b)
covered v b = record {
  cover = λ e. let g = tally-empty (got e) in let h = tally-empty (kept e) in omega (arith, g, h);
  brought = λ q. subst (λ (o : Option Question). Brought o) (sym (map.get-empty nat_cmp q)) tt;
}

counted : (v : Vat) (b : Option ObjectId) → AreCounted (start v One b)
counted v b = record { imports = λ e. subst ImportCounts (sym (map.get-empty nat_cmp e)) tt; exports = λ e. subst ExportCounts (sym (map.get-empty nat_cmp e)) tt }

pub equal : (v u : Vat) (a b : Option ObjectId) → AreEqual (start v One a) [] (start u One b) []
equal v u a b e =
    let g : export_count (let m : Map Export = map.empty in map.get m e) ≡ 0 = ap export_count (map.get-empty nat_cmp e) in
    let h : import_count (let m : Map Import = map.empty in map.get m e) ≡ 0 = ap import_count (map.get-empty nat_cmp e) in
    omega (arith, g, h)

pub starts : (a b : Option ObjectId) → Agree (start A One a) [] (start B One b) []
starts a b = record {
  stand = standing.starts a b;
  covered_s = covered A a;
  covered_t = covered B b;
  counted_s = counted A a;
  counted_t = counted B b;
  lets_s = tt;
  lets_t = tt;
  of_s = equal A B a b;
  of_t = equal B A b a;
}

-- ---- Steps

-- Whatever acts the step is: with the notes of what they send.
module _ (rise : SendsRaiseCounts) where
  pub commanded : (s t new : State) (to_s to_t : List Noted) (c : Command) (g : Granted) (x : Effects) → Agree s to_s t to_t → Does s c g x new → (a : IsActs (begin s) x new) → (x.sends ≡ messages (all_sent a.1)) × Agree new to_s t (to_t ++ all_sent a.1)
  commanded s t new to_s to_t c g x k h a =
      let d = acted.acts a.0 (begin s) k.stand.ready_s a.1 in
      let p = pays.acts a.0 (begin s) k.stand.ready_s k.covered_s (λ e. inl (map.get-empty nat_cmp e)) a.1 in
      let z = above.acts a.0 (begin s) a.1 (begins s k.counted_s) in
      let said : x.sends ≡ messages (all_sent a.1) = ap (λ (y : Effects). y.sends) a.2 ∙ d.said in
      (said, moved s t new to_s to_t (all_sent a.1) k (went s s s new a.0 (all_sent a.1) d p z a.3 a.4) (λ e. rise.commands e s c g x new h ∙ ap (λ (ms : List Message). given_out e s + giving e ms) said))

  pub handled : (s t new : State) (n : Noted) (to_s to_t : List Noted) (x : Effects) → Agree s (n ∷ to_s) t to_t → fault_of s (message.Plain n.message) ≡ None → Handles s (message.Plain n.message) x new → (first : Progress) (f : Consumes n.message (begin s) first) (r : IsActs first x new)
      → (x.sends ≡ messages (sent_at_once (begin s) first n.message f ++ all_sent r.1)) × Agree new to_s t (to_t ++ (sent_at_once (begin s) first n.message f ++ all_sent r.1))
  handled s t new n to_s to_t x k free h first f r =
      let y = consumes n.message (begin s) first k.stand.ready_s k.stand.useful_s.0 f in
      let b = took_one n.message (begin s) first k.stand.ready_s k.covered_s (λ e. map.get-empty nat_cmp e) k.stand.useful_s.0 f in
      let c = above.consumes (begin s) first n.message f (begins s k.counted_s) in
      let now = sent_at_once (begin s) first n.message f in
      let sent = now ++ all_sent r.1 in
      let d = acted.then (with_state (begin s) y.mid) first r.0 now (all_sent r.1) y.did (acted.acts r.0 first y.did.moves.ready r.1) in
      let p = pays.then (with_state (begin s) b.mid) first r.0 now (all_sent r.1) b.paid (pays.acts r.0 first y.did.moves.ready b.paid.covered b.paid.apart r.1) in
      let z = above.acts r.0 first r.1 c.counted in
      let said : x.sends ≡ messages sent = ap (λ (u : Effects). u.sends) r.2 ∙ d.said in (
        said,
        received s t y.mid b.mid new n to_s to_t sent k y.gets b.counts
            (went s y.mid b.mid new r.0 sent d p (record { counted = z.counted; lets_go = above.all_let now (all_sent r.1) c.lets_go z.lets_go }) r.3 r.4)
            (λ e. rise.messages e s n.message x new (ap (λ (l : Level). is_foreign l n.message) k.stand.ready_s.level) free h ∙ ap (λ (ms : List Message). given_out e s + giving e ms) said),
      )

module _ (law : StepsAreActs) (rise : SendsRaiseCounts) where
  commands : (s t new : State) (to_s to_t : List Noted) (c : Command) (g : Granted) (x : Effects) → Agree s to_s t to_t → refused s c ≡ None → Does s c g x new → StillHolds Agree new to_s t to_t x
  commands s t new to_s to_t c g x k f h =
      let a = law.commands s c g x new h in
      let r = commanded rise s t new to_s to_t c g x k h a in
      (all_sent a.1, r.0, r.1)

  receives : (s t new : State) (n : Noted) (to_s to_t : List Noted) (x : Effects) → Agree s (n ∷ to_s) t to_t → fault_of s (message.Plain n.message) ≡ None → Handles s (message.Plain n.message) x new → StillHolds Agree new to_s t to_t x
  receives s t new n to_s to_t x k f h =
      let a = law.messages s n.message x new k.stand.ready_s.level f h in
      let r = handled rise s t new n to_s to_t x k f h a.0 a.1 a.2 in
      (sent_at_once (begin s) a.0 n.message a.1 ++ all_sent (let y = a.2 in y.1), r.0, r.1)

  pub are_kept : IsKept Agree
  are_kept = record { turned = turned; starts = starts; commands = commands; receives = receives }

-- ---- Worlds

agreed : (s t : State) (to_s to_t : List Noted) (in_s in_t : List Message) (e : ℕ) → Agree s to_s t to_t → in_s ≡ messages to_s → in_t ≡ messages to_t → given_out e s ≡ count e t + (giving e in_t + taking_off s e in_s)
agreed s t to_s to_t in_s in_t e k f g =
    let a = k.of_s e in
    let b = ap (giving e) g in
    let c = ap (taking_off s e) f ∙ takes_all s e to_s (reads s t to_s to_t k.stand.of_s k.stand.of_t) in
    omega (arith, a, b, c)

pub under_way_too : (w : World) (v : Vat) (e : ℕ) → HoldsIn Agree w → export_count (map.get (core w v).exports e) ≡ import_count (map.get (core w (other_vat v)).imports e) + under_way w v e
under_way_too w A e k = agreed w.a.core w.b.core k.to_a k.to_b w.a.inbox w.b.inbox e k.holds k.is_a k.is_b
under_way_too w B e k = agreed w.b.core w.a.core k.to_b k.to_a w.b.inbox w.a.inbox e (turned w.a.core w.b.core k.to_a k.to_b k.holds) k.is_b k.is_a
