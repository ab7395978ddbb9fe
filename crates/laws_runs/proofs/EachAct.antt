-- Most acts leave questions, answers, imports and exports as they are, open no outcome for the peer and send nothing of
-- ids: they are one case. A law says what each of the other acts does.
use Rattle.std.proofs.Common.{◌≡◌, ℕ, Bool, true, false, cond, nat_eq, List, [], ◌∷◌, ◌++◌, Option, None, Some, refl, sym, ap, subst, ◌∙◌}
use Rattle.std.specs.FinMap as map
use Rattle.rpc_msg.specs.declared.parts.Target.{Target}
use Rattle.rpc_msg.specs.declared.exception.Exception.{Exception}
use Rattle.rpc_msg.specs.declared.message.Disembargo.{Disembargo}
use Rattle.rpc_msg.specs.declared.message.DisembargoContext.TheVariants.{SenderLoopback}
use Rattle.rpc_msg.specs.declared.message.PlainMessage.TheVariants as plain
use Rattle.rpc_msg.specs.declared.message.Message.TheVariants as message
use Rattle.finite_maps.specs.Tally.{Map}
use Rattle.finite_maps.proofs.Tested.{equal, get_put}
use Rattle.rpc_machine.specs.declared.node.Node.{Node}
use Rattle.rpc_machine.specs.declared.calls.Request.{Request}
use Rattle.rpc_machine.specs.declared.calls.Value.{Value}
use Rattle.rpc_machine.specs.declared.calls.Caller.TheVariants as caller
use Rattle.rpc_machine.specs.declared.calls.KeptOutcome.{KeptOutcome}
use Rattle.rpc_machine.specs.declared.calls.OwnCall.TheVariants as own
use Rattle.rpc_machine.specs.declared.command.Granted.{Granted}
use Rattle.rpc_machine.specs.declared.entries.Role.{Role}
use Rattle.rpc_machine.specs.declared.entries.Role.TheVariants as role
use Rattle.rpc_machine.specs.declared.entries.Question.{Question}
use Rattle.rpc_machine.specs.declared.entries.Reference.{Reference}
use Rattle.rpc_machine.specs.State.{State}
use Rattle.rpc_machine.specs.Nodes.{settle}
use Rattle.rpc_machine.specs.Progress.{Progress, with_state, caps_of}
use Rattle.rpc_machine.specs.Commands.{AsksBootstrap, counted}
use Rattle.rpc_machine.specs.Routing.{Asks}
use Rattle.rpc_machine.specs.Collecting.{Goes}
use Rattle.rpc_machine.specs.Settling.{known, Fits, Tells, ResolvesBy}
use Rattle.rpc_machine.specs.Sweeping.{IsNotSent, finished_by, releases}
use Rattle.rpc_machine.specs.Advancing.{Embargoes}
use Rattle.laws_steps.specs.Callers.{IsOpenFor, peer}
use Rattle.laws_acts.specs.Acts.{Act, Makes, Drops, AsksRoot, CallsOut, Keeps, Joins, Promises, Unsettles, Answers, Finishes, Heads, Turns, Delivers, Waits, Holds, Relays, Fails, Fixes, Settles, Reports, Resolves, NextArisen, Gone, Ends, Releases}
use Rattle.laws_acts.specs.Sent.{Noted, note, asks_sent, root_sent, turn_sent, resolve_sent, end_sent, told_sent, releases_sent, sent_by}
use Rattle.laws_runs.proofs.Same.{SameCounts, same_counts, refs_same}

pub record OfActs (P : Progress → Progress → List Noted → Type 0) : Type 0 where
  pub quiet : (d new : Progress) → SameCounts d.state new.state → new.released ≡ d.released → new.effects.sends ≡ d.effects.sends → P d new []
  -- from a state that has the same tables
  pub asks : (d e new : Progress) (k : ℕ) (role : Role) (t : Target) (r : Request) → SameCounts d.state e.state → e.released ≡ d.released → e.effects.sends ≡ d.effects.sends → (h : Asks e k role t r new) → P d new (asks_sent e new k role t r h)
  pub asks_root : (d new : Progress) (g : Granted) (h : AsksBootstrap d g new) → P d new (root_sent d new g h)
  pub turns : (d new : Progress) (x : Disembargo) → SameCounts d.state new.state → new.released ≡ d.released → new.effects.sends ≡ d.effects.sends ++ message.Plain (plain.Disembargo x) ∷ [] → P d new (note (plain.Disembargo x) [] ∷ [])
  pub settles : (d new told : Progress) (o : ℕ) (x : KeptOutcome) (v fit : Value) (mid : State) → map.get d.state.outcomes o ≡ Some x → x.value ≡ None → Fits d.state o x.caller x.waiting v fit mid → (t : Tells (with_state d (known mid o x.caller x.waiting fit)) x.caller fit told) → new ≡ with_state told (known told.state o x.caller [] fit) → P d new (told_sent (with_state d (known mid o x.caller x.waiting fit)) told x.caller fit t)
  pub resolves : (d new : Progress) (e : ℕ) (x : Option Exception) (n : Node) (h : ResolvesBy d e x n new) → P d new (resolve_sent d new e x n h)
  pub goes : (d new : Progress) → Goes d new → P d new []
  pub ends : (d new : Progress) (q : ℕ) (x : Question) → map.get d.state.questions q ≡ Some x → IsNotSent x.finish → new ≡ finished_by d q x x.finish → P d new (end_sent d q x x.finish)
  pub releases : (d new : Progress) → new ≡ releases d → P d new (releases_sent (map.entries d.released))

same_parts : (s t : State) → t.questions ≡ s.questions → t.answers ≡ s.answers → t.level ≡ s.level → t.outcomes ≡ s.outcomes → t.imports ≡ s.imports → t.exports ≡ s.exports → SameCounts s t
same_parts s t a b c d e f = record { ids = record { tables = record { questions = a; answers = b; level = c; opens = λ o q h. subst (λ (m : Map KeptOutcome). IsOpenFor q (map.get m o)) d h }; imports = e }; exports = f }

-- An outcome is put in place, of which the peer is not told, or as it was told before.
put_outcome : (s t : State) (o : ℕ) (x : KeptOutcome) → t.questions ≡ s.questions → t.answers ≡ s.answers → t.level ≡ s.level → t.outcomes ≡ map.insert s.outcomes o x → t.imports ≡ s.imports → t.exports ≡ s.exports → ((q : ℕ) → IsOpenFor q (Some x) → IsOpenFor q (map.get s.outcomes o)) → SameCounts s t
put_outcome s t o x a b c d e f h = record { ids = record { tables = record { questions = a; answers = b; level = c; opens = λ k q i. by k q (nat_eq k o) refl (subst (λ (y : Option KeptOutcome). IsOpenFor q y) (ap (λ (m : Map KeptOutcome). map.get m k) d ∙ get_put s.outcomes o x k) i) }; imports = e }; exports = f }
  where
    by : (k q : ℕ) (b : Bool) → nat_eq k o ≡ b → IsOpenFor q (cond b (Some x) (map.get s.outcomes k)) → IsOpenFor q (map.get s.outcomes k)
    by k q false f i = i
    by k q true f i = subst (λ (j : ℕ). IsOpenFor q (map.get s.outcomes j)) (sym (equal k o f)) (h q i)

module _ {P : Progress → Progress → List Noted → Type 0} (law : OfActs P) where
  quietly : (d new x : Progress) → new ≡ x → SameCounts d.state x.state → x.released ≡ d.released → x.effects.sends ≡ d.effects.sends → P d new []
  quietly d new x h a b c = subst (λ (p : Progress). P d p []) (sym h) (law.quiet d x a b c)

  turns_by : (d new : Progress) (r : ℕ) (x : Reference) (t : Option Target) (n : Node) (g : Granted) (h : Embargoes d r x t n g new) → P d new (turn_sent d new r x t n g h)
  turns_by d new r x None n g h = absurd h
  turns_by d new r x (Some t) n g h =
      let k = h.1 in
      let m : Disembargo = record { target = t; context = SenderLoopback (record { 0 = k.0 }) } in
      subst (λ (p : Progress). P d p (note (plain.Disembargo m) [] ∷ [])) (sym k.2) (law.turns d _ m (same_parts d.state _ refl refl refl refl refl refl) refl refl)

  pub by_act : (d new : Progress) (a : Act d new) → P d new (sent_by a)
  by_act d new (Makes n h) = quietly d new _ h (refs_same d.state (n ∷ [])) refl refl
  by_act d new (Drops r x there h) = quietly d new _ h (same_parts d.state _ refl refl refl refl refl refl) refl refl
  by_act d new (AsksRoot g h) = law.asks_root d new g h
  by_act d new (CallsOut r x c q t there h) = law.asks d (with_state d (record (counted d.state r x) { calls = map.insert (counted d.state r x).calls c (own.Direct (record { 0 = h.0 })) })) new h.0 (role.Direct (record { 0 = c })) t q (same_parts d.state _ refl refl refl refl refl refl) refl refl h.1
  by_act d new (Keeps r x c o there free h) = quietly d new _ h (put_outcome d.state _ o (record { caller = caller.Application (record { 0 = c }); value = None; waiting = [] }) refl refl refl refl refl refl (λ q k. absurd (let bad : caller.Application (record { 0 = c }) ≡ peer q = k.1 in cc))) refl refl
  by_act d new (Joins w e b there h) = quietly d new _ h (same_parts d.state _ refl refl refl refl refl refl) refl refl
  by_act d new (Promises p free h) = quietly d new _ h (same_parts d.state _ refl refl refl refl refl refl) refl refl
  by_act d new (Unsettles p h) = quietly d new _ h (same_parts d.state _ refl refl refl refl refl refl) refl refl
  by_act d new (Answers t h) = quietly d new _ h (same_parts d.state _ refl refl refl refl refl refl) refl refl
  by_act d new (Finishes c h) = quietly d new _ h (same_parts d.state _ refl refl refl refl refl refl) refl refl
  by_act d new (Heads r x n there free h) = quietly d new _ h (same_parts d.state _ refl refl refl refl refl refl) refl refl
  by_act d new (Turns r x t n g there free h) = turns_by d new r x t n g h
  by_act d new (Delivers c o h) = quietly d new _ h (let g = refs_same d.state c.request.caps in record { ids = record { tables = record { questions = g.ids.tables.questions; answers = g.ids.tables.answers; level = g.ids.tables.level; opens = g.ids.tables.opens }; imports = g.ids.imports }; exports = g.exports }) refl refl
  by_act d new (Waits p calls c there h) = quietly d new _ h (same_parts d.state _ refl refl refl refl refl refl) refl refl
  by_act d new (Holds o x w there h) = quietly d new _ h (put_outcome d.state _ o (record x { waiting = x.waiting ++ w ∷ [] }) refl refl refl refl refl refl (λ q k. subst (λ (y : Option KeptOutcome). IsOpenFor q y) (sym there) k)) refl refl
  by_act d new (Relays q o t r h) = law.asks d d new q (role.Relay o) t r (same_counts d.state) refl refl h
  by_act d new (Fails o v h) = quietly d new _ h (same_counts d.state) refl refl
  by_act d new (Fixes p calls to there h) = quietly d new _ h (same_parts d.state _ refl refl refl refl refl refl) refl refl
  by_act d new (Settles o x v fit mid told there unknown f t e) = law.settles d new told o x v fit mid there unknown f t e
  by_act d new (Reports c v from there h) = quietly d new _ h (refs_same d.state (caps_of v)) refl refl
  by_act d new (Resolves e told n h) = law.resolves d new e told (settle d.state n) h
  by_act d new (NextArisen o v rest e h) = quietly d new _ h (same_counts d.state) refl refl
  by_act d new (Gone h) = law.goes d new h
  by_act d new (Ends q x there due h) = law.ends d new q x there due h
  by_act d new (Releases h) = law.releases d new h
