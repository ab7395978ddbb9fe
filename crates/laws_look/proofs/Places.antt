-- Two vats of a run, which may fall, with a point on their links: as two that never do. One that fell stays as it was before the step
-- in which it did, and its Abort is the last that comes from it.
use Rattle.std.proofs.Common.{◌≡◌, ◌≤◌, inl, inr, ℕ, true, false, List, [], ◌∷◌, ◌++◌, append-nil, append_assoc, Option, None, Some, option_to_list, IsSome, refl, sym, ap, subst, ◌∙◌, arith}
use Rattle.std.proofs.lemmas.List.{append_cancel_left}
use Rattle.rpc_msg.specs.declared.exception.Exception.{Exception}
use Rattle.rpc_msg.specs.declared.message.PlainMessage.TheVariants as plain
use Rattle.rpc_msg.specs.declared.message.Message.{Message}
use Rattle.rpc_msg.specs.declared.message.Message.TheVariants as message
use Rattle.rpc_machine.specs.declared.command.Command.{Command}
use Rattle.rpc_machine.specs.declared.command.Granted.{Granted}
use Rattle.rpc_machine.specs.declared.command.Effects.{Effects}
use Rattle.rpc_machine.specs.declared.command.Level.{Level}
use Rattle.rpc_machine.specs.declared.command.Level.TheVariants.{Zero, One}
use Rattle.rpc_machine.specs.Numbers.{peer_abort}
use Rattle.rpc_machine.specs.State.{State}
use Rattle.rpc_machine.specs.Laws.{given_out, SendsRaiseCounts}
use Rattle.rpc_machine.specs.Limits.{IsWithin}
use Rattle.rpc_machine.specs.Faults.{fault_of, is_foreign, unless_foreign}
use Rattle.rpc_machine.specs.Refusals.{refused}
use Rattle.rpc_machine.specs.Steps.{Does, Handles}
use Rattle.rpc_codec.specs.declared.envelope.Envelope.TheVariants as envelope
use Rattle.look_books.specs.declared.books.Moment.{Moment}
use Rattle.look_books.specs.Ends.{Kept}
use Rattle.look_books.specs.After.{Ends, after, results_in}
use Rattle.look_books.specs.Checks.{behind_abort, verdict}
use Rattle.laws_acts.specs.Sent.{Noted, messages}
use Rattle.laws_nodes.specs.Embargoes.{Loopbacks}
use Rattle.laws_runs.specs.Scenes.{IsLast}
use Rattle.laws_runs.proofs.Kept.{messages-append}
use Rattle.laws_runs.proofs.Outcomes.{IsFall}
use Rattle.laws_look.specs.Accused.{does_of}
use Rattle.laws_look.proofs.Counts.{cap}
use Rattle.laws_look.proofs.Passing.{passes}
use Rattle.laws_look.proofs.Judged as judged
use Rattle.laws_look.proofs.OneVat as alone
use Rattle.laws_look.proofs.Between as between
use Rattle.laws_look.proofs.Between.{End, Both}

-- A vat of the run: its core, what is on its way to it, how much of that passed the point, and what the books keep of it.
pub record Place : Type 0 where
  pub core : State
  pub inbox : List Message
  pub passed : List Message
  pub kept : Kept

-- What a vat said last: nothing yet; nothing when it fell; an Abort, which is to pass; an Abort, which passed.
pub data Word : Type 0 where
  Up : Word
  Silent : Word
  Coming : Exception → Word
  Gone : Exception → Word

abbrev abort : Exception → Message
abort x = message.Plain (plain.Abort x)

abbrev coming : Word → List Message
coming Up = []
coming Silent = []
coming (Coming x) = abort x ∷ []
coming (Gone x) = []

abbrev gone : Word → List Message
gone Up = []
gone Silent = []
gone (Coming x) = []
gone (Gone x) = abort x ∷ []

-- One that is up is as it never fell.
abbrev Core : Word → State → State → Type 0
Core Up c s = (c.down ≡ None) × (c ≡ s)
Core Silent c s = IsSome c.down
Core (Coming x) c s = IsSome c.down
Core (Gone x) c s = IsSome c.down

-- Behind its Abort nothing comes.
abbrev Last : Word → Kept → List Noted → Type 0
Last Up k far = k.down ≡ None
Last Silent k far = k.down ≡ None
Last (Coming x) k far = k.down ≡ None
Last (Gone x) k far = far ≡ []

-- One that fell receives nothing more.
abbrev Near : Word → Word → List Message → List Noted → Type 0
Near Up other p near = p ≡ messages near ++ gone other
Near Silent other p near = Unit {0}
Near (Coming x) other p near = Unit {0}
Near (Gone x) other p near = Unit {0}

-- Of one of them: what the other said of late is on its way to it.
record Half (own other : Word) (p : Place) (e : End) (far : List Noted) : Type 0 where
  core : Core own p.core e.core
  last : Last own p.kept far
  rest : List Message
  inbox : p.inbox ≡ p.passed ++ rest
  behind : rest ≡ messages e.far ++ coming other
  near : Near own other p.passed e.near

abbrev with_kept : End → Kept → End
with_kept e k = record e { kept = k }

pub record Shown (p q : Place) : Type 0 where
  s : End
  t : End
  own : Word
  other : Word
  both : Both (with_kept s p.kept) (with_kept t q.kept)
  here : Half own other p s t.far
  there : Half other own q t s.far

pub turned : (p q : Place) → Shown p q → Shown q p
turned p q k = record { s = k.t; t = k.s; own = k.other; other = k.own; both = between.turned (with_kept k.s p.kept) (with_kept k.t q.kept) k.both; here = k.there; there = k.here }

-- ---- Small

not_down : (o : Option ℕ) → o ≡ None → IsSome o → ⊥
not_down None e h = absurd (let bad : false ≡ true = h in cc)
not_down (Some n) e h = absurd (let bad : Some n ≡ None = e in cc)

abort_faults : (l : Level) (x : Exception) → unless_foreign (is_foreign l (plain.Abort x)) (Some peer_abort) ≡ None → ⊥
abort_faults One x e = cc
abort_faults Zero x e = cc

no_abort : (s : State) (x : Exception) → fault_of s (abort x) ≡ None → ⊥
no_abort s x f = abort_faults s.level x f

few : (s : State) → IsWithin s → (e : ℕ) → given_out e s ≤ cap
few s w e = let a = w.export_counts e in omega (arith, a)

-- ---- A vat that is up does something

module _ (rise : SendsRaiseCounts) (loops : Loopbacks) where
  module _ (p q : Place) (new : State) (x : Effects) (down : new.down ≡ None) (within : IsWithin new) where
    -- by itself
    commands : (s t : End) (own other : Word) → Both (with_kept s p.kept) (with_kept t q.kept) → Half own other p s t.far → Half other own q t s.far → p.core.down ≡ None → (c : Command) (g : Granted) → refused p.core c ≡ None → Does p.core c g x new
        → Shown (record p { core = new }) (record q { inbox = q.inbox ++ x.sends })
    commands s t Up other k h g up c a f d =
        let d1 : Does s.core c a x new = subst (λ (u : State). Does u c a x new) h.core.1 d in
        let w = alone.commanded rise loops s.core c a x new k.here.alone (subst (λ (u : State). refused u c ≡ None) h.core.1 f) d1 in
        let same : g.rest ≡ messages t.far = g.behind ∙ append-nil (messages t.far) in record {
          s = record s { core = new };
          t = record t { far = t.far ++ w.sent };
          own = Up;
          other = other;
          both = between.commanded (with_kept s p.kept) (with_kept t q.kept) x new k w (few new within);
          here = record { core = (down, refl); last = h.last; rest = h.rest; inbox = h.inbox; behind = h.behind; near = h.near };
          there = record {
            core = g.core;
            last = g.last;
            rest = g.rest ++ x.sends;
            inbox = ap (λ (l : List Message). l ++ x.sends) g.inbox ∙ append_assoc q.passed g.rest x.sends;
            behind = ap (λ (l : List Message). l ++ x.sends) same ∙ ap (λ (l : List Message). messages t.far ++ l) w.said ∙ sym (messages-append t.far w.sent) ∙ sym (append-nil (messages (t.far ++ w.sent)));
            near = g.near;
          };
        }
    commands s t Silent other k h g up c a f d = absurd (not_down p.core.down up h.core)
    commands s t (Coming z) other k h g up c a f d = absurd (not_down p.core.down up h.core)
    commands s t (Gone z) other k h g up c a f d = absurd (not_down p.core.down up h.core)

    pub commanded : Shown p q → p.core.down ≡ None → (c : Command) (g : Granted) → refused p.core c ≡ None → Does p.core c g x new → Shown (record p { core = new }) (record q { inbox = q.inbox ++ x.sends })
    commanded k up c g f d = commands k.s k.t k.own k.other k.both k.here k.there up c g f d

    -- as it receives its oldest message
    takes : (s t : End) (near : List Noted) (other : Word) → Both (record s { near = near; kept = p.kept }) (with_kept t q.kept) → Half Up other p (record s { near = near }) t.far → Half other Up q t s.far
        → (m : Message) (ms after : List Message) → p.inbox ≡ m ∷ ms → p.passed ≡ m ∷ after → fault_of p.core m ≡ None → Handles p.core m x new
        → Shown (record p { core = new; inbox = ms; passed = after }) (record q { inbox = q.inbox ++ x.sends })
    takes s t [] Up k h g m ms after i j f d = absurd (let bad : m ∷ after ≡ [] = sym j ∙ h.near in cc)
    takes s t [] Silent k h g m ms after i j f d = absurd (let bad : m ∷ after ≡ [] = sym j ∙ h.near in cc)
    takes s t [] (Coming z) k h g m ms after i j f d = absurd (let bad : m ∷ after ≡ [] = sym j ∙ h.near in cc)
    takes s t [] (Gone z) k h g m ms after i j f d =
        let e : m ∷ after ≡ abort z ∷ [] = sym j ∙ h.near in
        let is : m ≡ abort z = cc in
        absurd (no_abort p.core z (subst (λ (y : Message). fault_of p.core y ≡ None) is f))
    takes s t (n ∷ rest) other k h g m ms after i j f d =
        let e : m ∷ after ≡ message.Plain n.message ∷ (messages rest ++ gone other) = sym j ∙ h.near in
        let is : m ≡ message.Plain n.message = cc in
        let left : after ≡ messages rest ++ gone other = cc in
        let f1 : fault_of s.core (message.Plain n.message) ≡ None = subst (λ (y : Message). fault_of s.core y ≡ None) is (subst (λ (u : State). fault_of u m ≡ None) h.core.1 f) in
        let d1 : Handles s.core (message.Plain n.message) x new = subst (λ (y : Message). Handles s.core y x new) is (subst (λ (u : State). Handles u m x new) h.core.1 d) in
        let w = alone.received rise loops s.core n.message x new k.here.alone k.here.useful_near.0 f1 d1 in
        let same : g.rest ≡ messages t.far = g.behind ∙ append-nil (messages t.far) in
        let inbox : m ∷ ms ≡ m ∷ (after ++ h.rest) = sym i ∙ h.inbox ∙ ap (λ (l : List Message). l ++ h.rest) j in record {
          s = record s { core = new; near = rest };
          t = record t { far = t.far ++ w.sent };
          own = Up;
          other = other;
          both = between.received (with_kept s p.kept) (with_kept t q.kept) n rest x new k w (few new within);
          here = record { core = (down, refl); last = h.last; rest = h.rest; inbox = cc; behind = h.behind; near = left };
          there = record {
            core = g.core;
            last = g.last;
            rest = g.rest ++ x.sends;
            inbox = ap (λ (l : List Message). l ++ x.sends) g.inbox ∙ append_assoc q.passed g.rest x.sends;
            behind = ap (λ (l : List Message). l ++ x.sends) same ∙ ap (λ (l : List Message). messages t.far ++ l) w.said ∙ sym (messages-append t.far w.sent) ∙ sym (append-nil (messages (t.far ++ w.sent)));
            near = g.near;
          };
        }

    receives : (s t : End) (own other : Word) → Both (with_kept s p.kept) (with_kept t q.kept) → Half own other p s t.far → Half other own q t s.far → p.core.down ≡ None
        → (m : Message) (ms after : List Message) → p.inbox ≡ m ∷ ms → p.passed ≡ m ∷ after → fault_of p.core m ≡ None → Handles p.core m x new
        → Shown (record p { core = new; inbox = ms; passed = after }) (record q { inbox = q.inbox ++ x.sends })
    receives s t Up other k h g up m ms after i j f d = takes s t s.near other k h g m ms after i j f d
    receives s t Silent other k h g up m ms after i j f d = absurd (not_down p.core.down up h.core)
    receives s t (Coming z) other k h g up m ms after i j f d = absurd (not_down p.core.down up h.core)
    receives s t (Gone z) other k h g up m ms after i j f d = absurd (not_down p.core.down up h.core)

    pub received : Shown p q → p.core.down ≡ None → (m : Message) (ms after : List Message) → p.inbox ≡ m ∷ ms → p.passed ≡ m ∷ after → fault_of p.core m ≡ None → Handles p.core m x new
        → Shown (record p { core = new; inbox = ms; passed = after }) (record q { inbox = q.inbox ++ x.sends })
    received k up m ms after i j f d = receives k.s k.t k.own k.other k.both k.here k.there up m ms after i j f d

-- What passed first is the oldest on its way.
oldest_of : (i : List Message) (m n : Message) (ms after rest : List Message) → i ≡ m ∷ ms → i ≡ (n ∷ after) ++ rest → n ≡ m
oldest_of i m n ms after rest e f = let g : m ∷ ms ≡ n ∷ (after ++ rest) = sym e ∙ f in cc

pub oldest : (p q : Place) → Shown p q → (m n : Message) (ms after : List Message) → p.inbox ≡ m ∷ ms → p.passed ≡ n ∷ after → n ≡ m
oldest p q k m n ms after e f = oldest_of p.inbox m n ms after k.here.rest e (k.here.inbox ∙ ap (λ (l : List Message). l ++ k.here.rest) f)

-- ---- It falls

-- The word that it leaves.
record Leaves (sends : List Message) : Type 0 where
  word : Word
  is : coming word ≡ sends
  none_gone : gone word ≡ []
  core : (c s : State) → IsSome c.down → Core word c s
  last : (k : Kept) (far : List Noted) → k.down ≡ None → Last word k far
  near : (other : Word) (p : List Message) (near : List Noted) → Near word other p near

leaves : (sends : List Message) → IsLast true sends → Leaves sends
leaves sends (inl e) = record { word = Silent; is = sym e; none_gone = refl; core = λ c s h. h; last = λ k far h. h; near = λ other p near. tt }
leaves sends (inr e) = record { word = Coming e.0; is = sym e.1; none_gone = refl; core = λ c s h. h; last = λ k far h. h; near = λ other p near. tt }

-- What the other sees of it: what came before, and that word.
other_near : (own : Word) (w : Word) (p : List Message) (near : List Noted) → gone w ≡ [] → Near own Up p near → Near own w p near
other_near Up w p near e h = h ∙ ap (λ (l : List Message). messages near ++ l) (sym e)
other_near Silent w p near e h = tt
other_near (Coming z) w p near e h = tt
other_near (Gone z) w p near e h = tt

module _ (p q : Place) (new : State) (x : Effects) (inbox passed : List Message) where
  falls : (s t : End) (own other : Word) → Both (with_kept s p.kept) (with_kept t q.kept) → Half own other p s t.far → Half other own q t s.far → p.core.down ≡ None → IsFall x new → (rest : List Message) → ((r : List Message) → p.inbox ≡ p.passed ++ r → inbox ≡ passed ++ r)
      → Shown (record p { core = new; inbox = inbox; passed = passed }) (record q { inbox = q.inbox ++ x.sends })
  falls s t Up other k h g up f rest keeps =
      let w = leaves x.sends f.last in
      let same : g.rest ≡ messages t.far = g.behind ∙ append-nil (messages t.far) in record {
        s = s;
        t = t;
        own = w.word;
        other = other;
        both = k;
        here = record { core = w.core new s.core f.down; last = w.last p.kept t.far h.last; rest = h.rest; inbox = keeps h.rest h.inbox; behind = h.behind; near = w.near other passed s.near };
        there = record {
          core = g.core;
          last = g.last;
          rest = g.rest ++ x.sends;
          inbox = ap (λ (l : List Message). l ++ x.sends) g.inbox ∙ append_assoc q.passed g.rest x.sends;
          behind = ap (λ (l : List Message). l ++ x.sends) same ∙ ap (λ (l : List Message). messages t.far ++ l) (sym w.is);
          near = other_near other w.word q.passed t.near w.none_gone g.near;
        };
      }
  falls s t Silent other k h g up f rest keeps = absurd (not_down p.core.down up h.core)
  falls s t (Coming z) other k h g up f rest keeps = absurd (not_down p.core.down up h.core)
  falls s t (Gone z) other k h g up f rest keeps = absurd (not_down p.core.down up h.core)

  pub fell : Shown p q → p.core.down ≡ None → IsFall x new → ((r : List Message) → p.inbox ≡ p.passed ++ r → inbox ≡ passed ++ r) → Shown (record p { core = new; inbox = inbox; passed = passed }) (record q { inbox = q.inbox ++ x.sends })
  fell k up f keeps = falls k.s k.t k.own k.other k.both k.here k.there up f [] keeps

-- ---- A message passes

abbrev pub New : Moment → Message → Kept → Kept → Ends
New t m own heard = after t (does_of m) (results_in (envelope.Message m)) own heard

-- It is accused of nothing, and the books go on.
pub record Goes (p q : Place) (t : Moment) (m : Message) : Type 0 where
  pub none : (verdict p.kept q.kept (does_of m)).breaches ≡ []
  pub shown : Shown (record p { kept = (New t m p.kept q.kept).0 }) (record q { passed = q.passed ++ m ∷ []; kept = (New t m p.kept q.kept).1 })

last_up : (w : Word) (k : Kept) (far : List Noted) → gone w ≡ [] → k.down ≡ None → Last w k far
last_up Up k far e f = f
last_up Silent k far e f = f
last_up (Coming z) k far e f = f
last_up (Gone z) k far e f = absurd (let bad : abort z ∷ [] ≡ [] = e in cc)

not_gone : (w : Word) (k : Kept) (n : Noted) (far : List Noted) → Last w k (n ∷ far) → (gone w ≡ []) × (k.down ≡ None)
not_gone Up k n far h = (refl, h)
not_gone Silent k n far h = (refl, h)
not_gone (Coming z) k n far h = (refl, h)
not_gone (Gone z) k n far h = absurd (let bad : n ∷ far ≡ [] = h in cc)

still_last : (w : Word) (k l : Kept) (far : List Noted) → l.down ≡ k.down → Last w k far → Last w l far
still_last Up k l far e h = e ∙ h
still_last Silent k l far e h = e ∙ h
still_last (Coming z) k l far e h = e ∙ h
still_last (Gone z) k l far e h = h

near_more : (own other : Word) (p : List Message) (near : List Noted) (n : Noted) → gone other ≡ [] → Near own other p near → Near own other (p ++ message.Plain n.message ∷ []) (near ++ n ∷ [])
near_more Up other p near n e h =
    let same : p ≡ messages near = h ∙ ap (λ (l : List Message). messages near ++ l) e ∙ append-nil (messages near) in
    ap (λ (l : List Message). l ++ message.Plain n.message ∷ []) same ∙ sym (messages-append near (n ∷ [])) ∙ sym (append-nil (messages (near ++ n ∷ []))) ∙ ap (λ (l : List Message). messages (near ++ n ∷ []) ++ l) (sym e)
near_more Silent other p near n e h = tt
near_more (Coming z) other p near n e h = tt
near_more (Gone z) other p near n e h = tt

near_last : (own : Word) (x : Exception) (p : List Message) (near : List Noted) → Near own (Coming x) p near → Near own (Gone x) (p ++ abort x ∷ []) near
near_last Up x p near h = ap (λ (l : List Message). l ++ abort x ∷ []) (h ∙ append-nil (messages near))
near_last Silent x p near h = tt
near_last (Coming z) x p near h = tt
near_last (Gone z) x p near h = tt

module _ (p q : Place) (t0 : Moment) where
  -- an Abort
  last_passes : (s t : End) (own other : Word) → Both (with_kept s p.kept) (record t { far = []; kept = q.kept }) → Half own other p s [] → Half other own q (record t { far = [] }) s.far
      → (m : Message) (rest : List Message) → q.inbox ≡ q.passed ++ m ∷ rest → m ∷ rest ≡ coming own → Goes p q t0 m
  last_passes s t Up other k h g m rest i e = absurd (let bad : m ∷ rest ≡ [] = e in cc)
  last_passes s t Silent other k h g m rest i e = absurd (let bad : m ∷ rest ≡ [] = e in cc)
  last_passes s t (Gone z) other k h g m rest i e = absurd (let bad : m ∷ rest ≡ [] = e in cc)
  last_passes s t (Coming z) other k h g m rest i e =
      let is : abort z ≡ m = cc in
      let none : rest ≡ [] = cc in
      subst (Goes p q t0) is (record {
        none = ap (λ (o : Option ℕ). option_to_list (behind_abort o) ++ []) h.last;
        shown = record {
          s = s;
          t = record t { far = [] };
          own = Gone z;
          other = other;
          both = between.aborted (with_kept s p.kept) (record t { far = []; kept = q.kept }) (New t0 (abort z) p.kept q.kept).0.down (New t0 (abort z) p.kept q.kept).0.said k;
          here = record { core = h.core; last = refl; rest = h.rest; inbox = h.inbox; behind = h.behind; near = tt };
          there = record {
            core = g.core;
            last = g.last;
            rest = rest;
            inbox = subst (λ (y : Message). q.inbox ≡ (q.passed ++ y ∷ []) ++ rest) (sym is) (i ∙ sym (append_assoc q.passed (m ∷ []) rest));
            behind = none;
            near = near_last other z q.passed t.near g.near;
          };
        };
      })

  one_passes : (s t : End) (n : Noted) (far : List Noted) (own other : Word) → Both (with_kept s p.kept) (record t { far = n ∷ far; kept = q.kept }) → Half own other p s (n ∷ far) → Half other own q (record t { far = n ∷ far }) s.far
      → (m : Message) (rest : List Message) → q.inbox ≡ q.passed ++ m ∷ rest → m ∷ rest ≡ message.Plain n.message ∷ (messages far ++ coming own) → Goes p q t0 m
  one_passes s t n far own other k h g m rest i e =
      let is : message.Plain n.message ≡ m = cc in
      let left : rest ≡ messages far ++ coming own = cc in
      let up = not_gone own p.kept n far h.last in
      let a = with_kept s p.kept in
      let b = with_kept t q.kept in
      let new = New t0 (message.Plain n.message) p.kept q.kept in
      let fine = between.fine a b n far k in
      let w = passes t0 n.lets p.kept q.kept n.message fine in
      subst (Goes p q t0) is (record {
        none = judged.fine n.lets p.kept q.kept n.message up.1 fine (between.named a b n far k);
        shown = record {
          s = s;
          t = record t { near = t.near ++ n ∷ []; far = far };
          own = own;
          other = other;
          both = between.passed a b n far k new w;
          here = record { core = h.core; last = last_up own new.0 far up.0 (w.counted.up.0 ∙ up.1); rest = h.rest; inbox = h.inbox; behind = h.behind; near = h.near };
          there = record {
            core = g.core;
            last = still_last other q.kept new.1 s.far w.counted.up.1 g.last;
            rest = rest;
            inbox = subst (λ (y : Message). q.inbox ≡ (q.passed ++ y ∷ []) ++ rest) (sym is) (i ∙ sym (append_assoc q.passed (m ∷ []) rest));
            behind = left;
            near = near_more other own q.passed t.near n up.0 g.near;
          };
        };
      })

  by_far : (s t : End) (far : List Noted) (own other : Word) → Both (with_kept s p.kept) (record t { far = far; kept = q.kept }) → Half own other p s far → Half other own q (record t { far = far }) s.far
      → (m : Message) (rest : List Message) → q.inbox ≡ q.passed ++ m ∷ rest → Goes p q t0 m
  by_far s t [] own other k h g m rest i = last_passes s t own other k h g m rest i (append_cancel_left q.passed (m ∷ rest) g.rest (sym i ∙ g.inbox) ∙ g.behind)
  by_far s t (n ∷ far) own other k h g m rest i = one_passes s t n far own other k h g m rest i (append_cancel_left q.passed (m ∷ rest) g.rest (sym i ∙ g.inbox) ∙ g.behind)

  pub goes : Shown p q → (m : Message) (rest : List Message) → q.inbox ≡ q.passed ++ m ∷ rest → Goes p q t0 m
  goes k m rest i = by_far k.s k.t k.t.far k.own k.other k.both k.here k.there m rest i

-- ---- Two new vats

pub starts : (p q : Place) (s t : End) → Both (with_kept s p.kept) (with_kept t q.kept) → p.core ≡ s.core → q.core ≡ t.core → p.core.down ≡ None → q.core.down ≡ None → p.kept.down ≡ None → q.kept.down ≡ None
    → s.near ≡ [] → s.far ≡ [] → t.near ≡ [] → t.far ≡ [] → p.inbox ≡ [] → p.passed ≡ [] → q.inbox ≡ [] → q.passed ≡ [] → Shown p q
starts p q s t k a b c d e f g h i j l m n o = record {
  s = s;
  t = t;
  own = Up;
  other = Up;
  both = k;
  here = record { core = (c, a); last = e; rest = []; inbox = l ∙ ap (λ (z : List Message). z ++ []) (sym m); behind = ap (λ (z : List Noted). messages z ++ []) (sym h); near = m ∙ ap (λ (z : List Noted). messages z ++ []) (sym g) };
  there = record { core = (d, b); last = f; rest = []; inbox = n ∙ ap (λ (z : List Message). z ++ []) (sym o); behind = ap (λ (z : List Noted). messages z ++ []) (sym j); near = o ∙ ap (λ (z : List Noted). messages z ++ []) (sym i) };
}
