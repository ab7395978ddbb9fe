-- A Bootstrap that finds the table of answers full is not taken: the table would grow past its limit.
use Rattle.std.proofs.Common.{◌≡◌, ℕ, ◌+◌, ◌≤◌, Bool, false, cond, List, [], ◌∷◌, Option, None, Some, is_some, refl, sym, ap, subst, ◌∙◌, arith}
use Rattle.std.specs.Cmp.{nat_cmp_total}
use Rattle.std.specs.FinMap as map
use Rattle.finite_maps.specs.Tally.{Map}
use Rattle.rpc_msg.specs.declared.ids.QuestionId.{QuestionId}
use Rattle.rpc_msg.specs.declared.exception.Exception.{Exception}
use Rattle.rpc_msg.specs.declared.message.PlainMessage.TheVariants as plain
use Rattle.rpc_msg.specs.declared.message.Message.TheVariants as message
use Rattle.rpc_msg.specs.Messages.{given}
use Rattle.rpc_machine.specs.declared.node.Node.{Node}
use Rattle.rpc_machine.specs.declared.node.Node.TheVariants as node
use Rattle.rpc_machine.specs.declared.command.Effects.{Effects}
use Rattle.rpc_machine.specs.declared.command.Level.{Level}
use Rattle.rpc_machine.specs.declared.command.Level.TheVariants.{Zero, One}
use Rattle.rpc_machine.specs.declared.calls.Caller.TheVariants as caller
use Rattle.rpc_machine.specs.declared.calls.KeptOutcome.{KeptOutcome}
use Rattle.rpc_machine.specs.declared.calls.Value.{Value}
use Rattle.rpc_machine.specs.declared.entries.AnswerEntry.{AnswerEntry}
use Rattle.rpc_machine.specs.State.{State}
use Rattle.rpc_machine.specs.Nodes.{settle}
use Rattle.rpc_machine.specs.Limits.{table_limit}
use Rattle.rpc_machine.specs.Down.{Falls}
use Rattle.rpc_machine.specs.Progress.{Progress, begin, with_state, export_ids}
use Rattle.rpc_machine.specs.Collecting.{Goes, PromiseGoes, OutcomeGoes, ImportGoes, Collects, Tight, Loose}
use Rattle.rpc_machine.specs.Flags.{give_back, flag_for}
use Rattle.rpc_machine.specs.Settling.{known, Returns, TellsPeer, ResolvesTo, ResolvesBy, ResolvesEach, SettlesOpen, SettlesFrom, SettlesOutcome}
use Rattle.rpc_machine.specs.Faults.{fault_of, is_foreign}
use Rattle.rpc_machine.specs.Messages.{opened, TakesBootstrap, TakesUnless}
use Rattle.rpc_machine.specs.Steps.{Handles, Receives, WasDown, FaultsBy, LacksRoom, IsHandled}
use Rattle.rpc_machine_examples.proofs.Keeping.{described, fits, gives, says}
use Rattle.rpc_machine_examples.proofs.EndOfStep.{ends_quietly}
use Rattle.rpc_machine_examples.proofs.TurningBack.{get_put_same}

-- The answers stay, and no outcome arises.
abbrev Keeps : Progress → Progress → Type 0
Keeps d new = (new.state.answers ≡ d.state.answers) × (new.arisen ≡ d.arisen)

then : (d mid new : Progress) → Keeps d mid → Keeps mid new → Keeps d new
then d mid new h k = (k.0 ∙ h.0, k.1 ∙ h.1)

goes : (d new : Progress) → Goes d new → Keeps d new
goes d new (PromiseGoes p h f) = rw f (refl, refl)
goes d new (OutcomeGoes o h f) = rw f (refl, refl)
goes d new (ImportGoes i h f) = rw f (refl, refl)

collects : (new d : Progress) → Collects new d → Keeps d new
collects new d (Tight h) = (refl, refl)
collects new d (Loose {mid = mid} g rest) = then d mid new (goes d mid g) (collects new mid rest)

resolves_to : (d : Progress) (e : ℕ) (n : Node) (new : Progress) → ResolvesTo d e n new → Keeps d new
resolves_to d e n new h =
    let same = (described d.state (settle d.state n) h.0 h.1 h.2).1 in
    (ap (λ (p : Progress). p.state.answers) h.3 ∙ same, ap (λ (p : Progress). p.arisen) h.3)

resolved_to : (d : Progress) (e : ℕ) (told : Option Exception) (n : Node) (new : Progress) → ResolvesBy d e told n new → Keeps d new
resolved_to d e told (node.Object k) new h = resolves_to d e _ new h
resolved_to d e told (node.Promise p) new h = resolves_to d e _ new h
resolved_to d e told (node.Field k path) new h = resolves_to d e _ new h
resolved_to d e told (node.Import i) new h = resolves_to d e _ new h
resolved_to d e told (node.Pipe k path) new h = resolves_to d e _ new h
resolved_to d e told (node.Broken reason) new h = rw h (refl, refl)

resolves_each : (d : Progress) (told : Option Exception) (es : List (ℕ × Node)) (new : Progress) → ResolvesEach d told es new → Keeps d new
resolves_each d told [] new h = rw h (refl, refl)
resolves_each d told (x ∷ xs) new h = then d h.0 new (resolved_to d x.0 told (settle d.state x.1) h.0 h.1) (resolves_each h.0 told xs new h.2)

-- ---- The answer that a Bootstrap opens

abbrev open_answer : ℕ → AnswerEntry
open_answer o = record { outcome = o; taken = []; returned = None; finished = false }

abbrev open_outcome : QuestionId → KeptOutcome
open_outcome q = record { caller = caller.Peer q; value = None; waiting = [] }

-- The answer stands, with something else in it, and no outcome arises.
abbrev Stands : Progress → QuestionId → Progress → Type 0
Stands d q new = (x : AnswerEntry) × (new.state.answers ≡ map.insert d.state.answers q.0 x) × (new.arisen ≡ d.arisen)

returns : (d : Progress) (q : QuestionId) (o : ℕ) (v : Value) (new : Progress) → Returns d q (open_answer o) v new → Stands d q new
returns d q o v new h =
    let g = h.4 in
    let t = g.0.state in
    let x : AnswerEntry = record (open_answer o) { returned = Some (export_ids (given h.1)) } in
    let k = collects g.0 (with_state d h.2) g.1 in
    let same : t.answers ≡ d.state.answers = k.0 ∙ (says d.state false v h.0 h.1 h.2 h.3).1 in
    let left : (give_back t []).answers ≡ t.answers = (gives t (flag_for t []) []).1 in
    (x, ap (λ (p : Progress). p.state.answers) g.2 ∙ ap (λ (m : Map AnswerEntry). map.insert m q.0 x) (left ∙ same), ap (λ (p : Progress). p.arisen) g.2 ∙ k.1)

settles : (d : Progress) (q : QuestionId) (o : ℕ) (v : Value) (new : Progress) → map.get d.state.outcomes o ≡ Some (open_outcome q) → map.get d.state.answers q.0 ≡ Some (open_answer o) → SettlesOutcome d o v new → Stands d q new
settles d q o v new there here h =
    let g : SettlesOpen d o v (open_outcome q) None new = subst (λ (e : Option KeptOutcome). SettlesFrom d o v e new) there h in
    let mid : State = g.1 in
    let k = g.3 in
    let r = k.2 in
    let told : Progress = with_state d (known mid o (caller.Peer q) [] g.0) in
    let f : mid.answers ≡ d.state.answers = (fits d.state o (caller.Peer q) [] v g.0 mid g.2).1 in
    let t : Returns told q (open_answer o) g.0 k.0 = subst (λ (e : Option AnswerEntry). TellsPeer told q g.0 e k.0) (ap (λ (m : Map AnswerEntry). map.get m q.0) f ∙ here) k.1 in
    let a = returns told q o g.0 k.0 t in
    let b : Keeps k.0 r.0 = (ap (λ (p : Progress). p.state.answers) r.1, ap (λ (p : Progress). p.arisen) r.1) in
    let c = resolves_each r.0 None _ new r.2 in
    (a.0, c.0 ∙ b.0 ∙ a.1 ∙ ap (λ (m : Map AnswerEntry). map.insert m q.0 a.0) f, c.1 ∙ b.1 ∙ a.2)

-- ---- The table grows

has : (m : Map AnswerEntry) (k : ℕ) (o : Option AnswerEntry) → map.get m k ≡ o → map.contains_key m k ≡ is_some o
has m k o h = ap (λ (x : Option AnswerEntry). is_some x) h

grown : (m : Map AnswerEntry) (k : ℕ) (x y : AnswerEntry) → map.get m k ≡ None → map.len (map.insert (map.insert m k x) k y) ≡ map.len m + 1
grown m k x y h =
    map.len-insert nat_cmp_total (map.insert m k x) k y
    ∙ ap (λ b. cond b (map.len (map.insert m k x)) (map.len (map.insert m k x) + 1)) (has (map.insert m k x) k (Some x) (get_put_same m k x))
    ∙ map.len-insert nat_cmp_total m k x
    ∙ ap (λ b. cond b (map.len m) (map.len m + 1)) (has m k None h)

understood : (l : Level) (q : QuestionId) → is_foreign l (plain.Bootstrap q) ≡ false
understood Zero q = refl
understood One q = refl

pub no_fault : (s : State) (q : QuestionId) → map.get s.answers q.0 ≡ None → fault_of s (message.Plain (plain.Bootstrap q)) ≡ None
no_fault s q free = rw (understood s.level q, has s.answers q.0 None free) refl

-- What takes it has one answer more.
one_more : (s : State) (q : QuestionId) (x : Effects) (new : State) → map.get s.answers q.0 ≡ None → Handles s (message.Plain (plain.Bootstrap q)) x new → map.len new.answers ≡ map.len s.answers + 1
one_more s q x new free h =
    let t : TakesBootstrap (begin s) q.0 h.taken = subst (λ (b : Bool). TakesUnless b (begin s) (plain.Bootstrap q) h.taken) (understood s.level q) h.takes in
    let o = t.0 in
    let d : Progress = with_state (begin s) (opened s q.0 o []) in
    let a = settles d q o _ h.taken (get_put_same s.outcomes o (open_outcome q)) (get_put_same s.answers q.0 (open_answer o)) t.2 in
    let e = ends_quietly h.taken x new h.ends a.2 in
    ap (λ (m : Map AnswerEntry). map.len m) (e.0.3 ∙ a.1) ∙ grown s.answers q.0 (open_answer o) a.0 free

pub full_falls : (s : State) (q : QuestionId) (x : Effects) (new : State) → s.down ≡ None → map.len s.answers ≡ table_limit → map.get s.answers q.0 ≡ None → Receives s (message.Plain (plain.Bootstrap q)) x new → Falls s 33 x new
full_falls s q x new up full free (WasDown d h) = cc
full_falls s q x new up full free (FaultsBy n u f a b) = let e : Some n ≡ None = sym f ∙ no_fault s q free in cc
full_falls s q x new up full free (LacksRoom u f h) = h
full_falls s q x new up full free (IsHandled u f h fits) =
    let more : map.len new.answers ≡ 4097 = one_more s q x new free h ∙ ap (λ n. n + 1) full in
    let most : map.len new.answers ≤ 4096 = fits.answers in
    absurd (omega arith)
