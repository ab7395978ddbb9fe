-- Every step of a vat, and every run.
use Rattle.std.proofs.Common.{◌≡◌, ◌⊎◌, inl, inr, ℕ, true, List, ◌∷◌, Option, None, Some, Result, Ok, Err, sym, ap, subst, ◌∙◌}
use Rattle.std.specs.Ordering.{nat_cmp}
use Rattle.std.specs.FinMap as map
use Rattle.rpc_msg.specs.declared.ids.Vat.{Vat}
use Rattle.rpc_msg.specs.declared.ids.ObjectId.{ObjectId}
use Rattle.rpc_msg.specs.declared.message.Message.{Message}
use Rattle.rpc_machine.specs.rpc_journal.specs.declared.report.Delivery.{Delivery}
use Rattle.rpc_machine.specs.declared.node.Node.{Node}
use Rattle.rpc_machine.specs.declared.node.Node.TheVariants as node
use Rattle.rpc_machine.specs.declared.command.Command.{Command}
use Rattle.rpc_machine.specs.declared.command.Granted.{Granted}
use Rattle.rpc_machine.specs.declared.command.Refusal.{Refusal}
use Rattle.rpc_machine.specs.declared.command.Effects.{Effects}
use Rattle.rpc_machine.specs.declared.command.Level.{Level}
use Rattle.rpc_machine.specs.State.{State, start}
use Rattle.rpc_machine.specs.Numbers.{want_of_room}
use Rattle.rpc_machine.specs.Down.{IsUnchanged, Falls, ShutsFrom, fallen}
use Rattle.rpc_machine.specs.Steps.{Obeys, Refuses, LacksMemory, GoesDown, Shuts, IsDone, Receives, WasDown, FaultsBy, LacksRoom, IsHandled}
use Rattle.laws_steps.specs.NodesThere.{ComesTo, Stays, IsReached}
use Rattle.laws_steps.specs.NodesThere as comes
use Rattle.laws_nodes.proofs.Sourced.{has_one}
use Rattle.laws_authority.specs.Reach.{IsIn, Reaches, MayReach, Now}
use Rattle.laws_authority.specs.Grants.{Gives, Opens}
use Rattle.laws_authority.specs.Runs.{Event, DidCommand, GotMessage, logged, RunsTo, New, Commanded, Received, Fell, WasGiven}
use Rattle.laws_authority.specs.Authority.{IsOfPeer, GivesNoMore, TakesNothing, AuthorityIsGiven, AuthorityIsKept}
use Rattle.laws_authority.proofs.Covers.{ExportIn, AnswerIn, PromiseIn, OutcomeIn, EmbargoIn, TablesIn, may_in}
use Rattle.laws_authority.proofs.Stepping.{WaitingHaveOutcomes, commands, messages}
use Rattle.laws_authority.proofs.Waiting.{have_outcomes}
use Rattle.laws_authority.proofs.Once.{no_deliveries}

-- ---- Nothing is reached of a vat that is new, or down

nothing : (v : Vat) (l : Level) (b : Option ObjectId) (down : Option ℕ) (n : Node) → MayReach (record (start v l b) { down = down }) n → ⊥
nothing v l b down n r = may_in (λ o. ⊥) (λ k. ⊥) (record (start v l b) { down = down }) tables n r
  where
    tables : TablesIn true (λ o. ⊥) (λ k. ⊥) (record (start v l b) { down = down })
    tables = (
      λ e. subst (ExportIn true (λ o. ⊥) (λ k. ⊥)) (sym (map.get-empty nat_cmp e)) tt,
      λ e. subst (AnswerIn true (λ o. ⊥) (λ k. ⊥)) (sym (map.get-empty nat_cmp e)) tt,
      λ e. subst (PromiseIn true (λ o. ⊥) (λ k. ⊥) e) (sym (map.get-empty nat_cmp e)) tt,
      λ e. subst (OutcomeIn true (λ o. ⊥) (λ k. ⊥) e) (sym (map.get-empty nat_cmp e)) tt,
      λ e. subst (EmbargoIn true (λ o. ⊥) (λ k. ⊥)) (sym (map.get-empty nat_cmp e)) tt,
    )

none_fallen : (s : State) (n : ℕ) (k : Node) → MayReach (fallen s n) k → ⊥
none_fallen s n k r = nothing s.vat s.level s.bootstrap (Some n) k r

-- ---- Every step

module _ (s : State) (c : Command) where
  same : (x : Effects) (t : State) → IsUnchanged s x t → GivesNoMore s c x t
  same x t h = rw (h.effects_are, h.new_is) (record { objects = λ o r. inl r; deliveries = λ y i p. absurd i; tasks = λ y i. absurd i })

  fell : (n : ℕ) (x : Effects) (t : State) → Falls s n x t → GivesNoMore s c x t
  fell n x t h = rw (h.effects_are, h.new_is) (record { objects = λ o r. absurd (none_fallen s n (node.Object o) r); deliveries = λ y i p. absurd i; tasks = λ y i. absurd i })

  shut : (n : ℕ) (d : Option ℕ) (x : Effects) (t : State) → ShutsFrom s n d x t → GivesNoMore s c x t
  shut n None x t h = fell n x t h
  shut n (Some k) x t h = same x t h

  pub of_command : (a : Result Granted Refusal) (x : Effects) (t : State) → Obeys s c a x t → GivesNoMore s c x t
  of_command a x t (Refuses r f g u) = same x t u
  of_command a x t (LacksMemory f g k u) = same x t u
  of_command a x t (GoesDown f g k u) = fell want_of_room x t u
  of_command a x t (Shuts n f g h) = shut n s.down x t h
  of_command a x t (IsDone given f g h w) = commands s c given x t h

  -- What was refused changes nothing.
  stays : (r : Refusal) (x : Effects) (t : State) → Obeys s c (Err r) x t → t ≡ s
  stays r x t (Refuses k f g u) = u.new_is
  stays r x t (LacksMemory f g k u) = u.new_is
  stays r x t (GoesDown f g k u) = absurd (let e : Err r ≡ Ok _ = k in cc)
  stays r x t (Shuts n f g h) = absurd (let e : Err r ≡ Ok _ = g in cc)
  stays r x t (IsDone given f g h w) = absurd (let e : Err r ≡ Ok given = g in cc)

module _ (s : State) (m : Message) where
  as_before : (x : Effects) (t : State) → IsUnchanged s x t → TakesNothing s m x t
  as_before x t h = rw (h.effects_are, h.new_is) (record { objects = λ o r. inl r; deliveries = λ y i p. absurd i; tasks = λ y i. absurd i; others = λ y i. absurd i })

  went_down : (n : ℕ) (x : Effects) (t : State) → ((y : Delivery) → IsIn y x.deliveries → ⊥) → t ≡ fallen s n → TakesNothing s m x t
  went_down n x t f h = rw h (record { objects = λ o r. absurd (none_fallen s n (node.Object o) r); deliveries = λ y i p. absurd (f y i); tasks = λ y i. absurd (f y i); others = λ y i. absurd (f y i) })

  pub of_message : (x : Effects) (t : State) → WaitingHaveOutcomes s → Receives s m x t → TakesNothing s m x t
  of_message x t w (WasDown d u) = as_before x t u
  of_message x t w (FaultsBy n d f g h) = went_down n x t (λ y i. subst (λ (ys : List Delivery). IsIn y ys) (ap (λ (z : Effects). z.deliveries) g ∙ no_deliveries m n) i) h
  of_message x t w (LacksRoom d f u) = went_down want_of_room x t (λ y i. subst (λ (z : Effects). IsIn y z.deliveries) u.effects_are i) u.new_is
  of_message x t w (IsHandled d f h k) = messages s m x t w f h

-- ---- Every run

pub reached : (s : State) (log : List Event) → RunsTo s log → (last : State) → ComesTo last s → IsReached last
reached _ _ (New v l b) last more = (v, l, b, more)
reached _ _ (Commanded {s = s} {log = log} c a x run o) last more = reached s log run last (comes.Commanded c a x o more)
reached _ _ (Received {s = s} {log = log} m x run o) last more = reached s log run last (comes.Received m x o more)
reached _ _ (Fell {s = s} {log = log} n run) last more = reached s log run last (comes.Fell n more)

pub whole : (s : State) → IsReached s → WaitingHaveOutcomes s
whole s i = have_outcomes s (has_one s i)

whole_in : (s : State) (log : List Event) → RunsTo s log → WaitingHaveOutcomes s
whole_in s log run = whole s (reached s log run s Stays)

given_after : (s : State) (log : List Event) (c : Command) (a : Result Granted Refusal) (x : Effects) (t : State) → Obeys s c a x t → ((o : ObjectId) → MayReach s (node.Object o) → WasGiven log o) → (o : ObjectId) → MayReach t (node.Object o) → WasGiven (logged s c a x log) o
given_after s log c (Err r) x t h f o i = f o (subst (λ (u : State). MayReach u (node.Object o)) (stays s c r x t h) i)
given_after s log c (Ok g) x t h f o i = by ((of_command s c (Ok g) x t h).objects o i)
  where
    by : MayReach s (node.Object o) ⊎ Gives s c (node.Object o) → WasGiven (DidCommand s c x ∷ log) o
    by (inl r) = inr (f o r)
    by (inr r) = inl r

opened_after : (s : State) (log : List Event) (m : Message) (x : Effects) → ((o : ObjectId) → MayReach s (node.Object o) → WasGiven log o) → (o : ObjectId) → MayReach s (node.Object o) ⊎ Opens s m o → WasGiven (GotMessage s m x ∷ log) o
opened_after s log m x f o (inl r) = inr (f o r)
opened_after s log m x f o (inr r) = inl r

was_given : (s : State) (log : List Event) → RunsTo s log → (o : ObjectId) → MayReach s (node.Object o) → WasGiven log o
was_given _ _ (New v l b) o r = absurd (nothing v l b None (node.Object o) r)
was_given t _ (Commanded {s = s} {log = log} c a x run h) o r = given_after s log c a x t h (was_given s log run) o r
was_given t _ (Received {s = s} {log = log} m x run h) o r = opened_after s log m x (was_given s log run) o ((of_message s m x t (whole_in s log run) h).objects o r)
was_given _ _ (Fell {s = s} {log = log} n run) o r = absurd (none_fallen s n (node.Object o) r)

by_commands : (s : State) (log : List Event) → RunsTo s log → (c : Command) (a : Result Granted Refusal) (x : Effects) (t : State) → Obeys s c a x t → (y : Delivery) → IsIn y x.deliveries → IsOfPeer t y → WasGiven (DidCommand s c x ∷ log) y.object
by_commands s log run c a x t h y i p = by ((of_command s c a x t h).deliveries y i p)
  where
    by : Reaches s (node.Object y.object) ⊎ Gives s c (node.Object y.object) → WasGiven (DidCommand s c x ∷ log) y.object
    by (inl r) = inr (was_given s log run y.object (Now _ r))
    by (inr r) = inl r

by_messages : (s : State) (log : List Event) → RunsTo s log → (m : Message) (x : Effects) (t : State) → Receives s m x t → (y : Delivery) → IsIn y x.deliveries → IsOfPeer t y → WasGiven log y.object
by_messages s log run m x t h y i p = was_given s log run y.object (Now _ ((of_message s m x t (whole_in s log run) h).deliveries y i p))

pub given : AuthorityIsGiven
given = record { reached = was_given; commands = by_commands; messages = by_messages }

pub kept : AuthorityIsKept
kept = record { commands = λ s c a x t h. of_command s c a x t h; messages = λ s m x t i h. of_message s m x t (whole s i) h }
