-- A vat names no import that it doesn't hold, and lets go of no more than it holds: its messages, in their order, lead from
-- the count of an import before a step to that behind it.
use Rattle.std.proofs.Common.{◌≡◌, ◌<◌, ◌≤◌, ℕ, zero, suc, ◌+◌, nat_eq, Bool, true, false, List, [], ◌∷◌, ◌++◌, Option, None, Some, IsSome, refl, sym, ap, subst, ◌∙◌, append_assoc, arith}
use Rattle.std.specs.FinMap as map
use Rattle.std.specs.Ordering.{nat_cmp}
use Rattle.finite_maps.specs.Tally.{Map, worth}
use Rattle.finite_maps.proofs.Tested.{equal}
use Rattle.rpc_msg.specs.declared.ids.QuestionId.{QuestionId}
use Rattle.rpc_msg.specs.declared.parts.Descriptor.{Descriptor}
use Rattle.rpc_msg.specs.declared.parts.Descriptor.TheVariants as descriptor
use Rattle.rpc_msg.specs.declared.parts.Target.{Target}
use Rattle.rpc_msg.specs.declared.parts.Target.TheVariants.{ImportedCap, PromisedAnswer}
use Rattle.rpc_msg.specs.declared.exception.Exception.{Exception}
use Rattle.rpc_msg.specs.Messages.{descriptors_of_body, descriptors_of_resolved, descriptors_of_plain}
use Rattle.rpc_machine.specs.declared.node.Node.{Node}
use Rattle.rpc_machine.specs.declared.calls.Request.{Request}
use Rattle.rpc_machine.specs.declared.calls.Value.{Value}
use Rattle.rpc_machine.specs.declared.calls.Caller.{Caller}
use Rattle.rpc_machine.specs.declared.calls.Caller.TheVariants as caller
use Rattle.rpc_machine.specs.declared.calls.OwnCall.TheVariants as own
use Rattle.rpc_machine.specs.declared.command.Granted.{Granted}
use Rattle.rpc_machine.specs.declared.entries.Role.{Role}
use Rattle.rpc_machine.specs.declared.entries.Role.TheVariants as role
use Rattle.rpc_machine.specs.declared.entries.Finishing.{Finishing}
use Rattle.rpc_machine.specs.declared.entries.Finishing.TheVariants as finishing
use Rattle.rpc_machine.specs.declared.entries.Question.{Question}
use Rattle.rpc_machine.specs.declared.entries.AnswerEntry.{AnswerEntry}
use Rattle.rpc_machine.specs.declared.entries.Reference.{Reference}
use Rattle.rpc_machine.specs.declared.entries.Import.{Import}
use Rattle.rpc_machine.specs.declared.entries.Export.{Export}
use Rattle.rpc_machine.specs.State.{State}
use Rattle.rpc_machine.specs.Nodes.{settle}
use Rattle.rpc_machine.specs.Limits.{import_count}
use Rattle.rpc_machine.specs.Progress.{Progress, with_state, caps_of}
use Rattle.rpc_machine.specs.Commands.{counted}
use Rattle.rpc_machine.specs.Routing.{Asks}
use Rattle.rpc_machine.specs.Settling.{known, TellsPeer, Tells, ResolvesBy}
use Rattle.rpc_machine.specs.Advancing.{Embargoes}
use Rattle.laws_steps.specs.NodesThere.{Stands}
use Rattle.laws_acts.specs.Acts.{Act, Makes, Drops, AsksRoot, CallsOut, Keeps, Joins, Promises, Unsettles, Answers, Finishes, Heads, Turns, Delivers, Waits, Holds, Relays, Fails, Fixes, Settles, Reports, Resolves, NextArisen, Gone, Ends, Releases, Acts, NoMore, Then}
use Rattle.laws_acts.specs.Sent.{Noted, resolved_to, asks_sent, turn_sent, resolve_sent, end_sent, peer_sent, told_sent, releases_sent, sent_by, all_sent}
use Rattle.laws_runs.specs.Exports as export
use Rattle.laws_runs.specs.Exports.{Back, Leaves}
use Rattle.laws_runs.specs.Views.{only, IsReady}
use Rattle.laws_runs.proofs.Acted.{act as kept_ready}
use Rattle.laws_runs.proofs.Same.{fits}
use Rattle.laws_runs.specs.Imports.{count, lets_of, letting, pending, IsCovered, AreApart}
use Rattle.laws_runs.specs.Entries.{ImportCounts, ExportCounts, AreCounted, IsCounted}
use Rattle.laws_runs.proofs.Paid.{letting-append}
use Rattle.laws_runs.proofs.Paid as pays
use Rattle.laws_runs.proofs.AboveZero as above
use Rattle.laws_messages.specs.Mentions.{AllStand, wire, TargetStands, Names, AllName, AreNamed}
use Rattle.laws_messages.specs.Views.{named_in, target_in, targets_in, take_of, backs_for}
use Rattle.laws_messages.proofs.Described.{describes_all, named_back, resolved_named}

-- ---- Lists

pub leaves_then : (n m k : ℕ) (xs ys : List Back) → Leaves n xs m → Leaves m ys k → Leaves n (xs ++ ys) k
leaves_then n m k [] ys h g = subst (λ (j : ℕ). Leaves j ys k) (sym h) g
leaves_then n m k (export.Mention ∷ xs) ys h g = (h.0, leaves_then n m k xs ys h.1 g)
leaves_then n m k (export.Take c ∷ xs) ys h g = (h.0, h.1, h.2, leaves_then h.0 m k xs ys h.3 g)

pub backs-append : (e : ℕ) (xs ys : List Noted) → backs_for e (xs ++ ys) ≡ backs_for e xs ++ backs_for e ys
backs-append e [] ys = refl
backs-append e (x ∷ xs) ys =
    let a = targets_in e x.message in
    let b = named_in e (descriptors_of_plain x.message) in
    let c = take_of (lets_of e x.message x.lets) in
    let f = backs_for e xs in
    let g = backs_for e ys in
    ap (λ (l : List Back). a ++ (b ++ (c ++ l))) (backs-append e xs ys)
    ∙ sym (append_assoc a (b ++ (c ++ f)) g ∙ ap (λ (l : List Back). a ++ l) (append_assoc b (c ++ f) g ∙ ap (λ (l : List Back). b ++ l) (append_assoc c f g)))

-- Only mentions, where so many are held.
abbrev pub AreHeld : ℕ → List Back → Type 0
AreHeld n [] = Unit {0}
AreHeld n (export.Mention ∷ ms) = (0 < n) × AreHeld n ms
AreHeld n (export.Take k ∷ ms) = ⊥

held_then : (n : ℕ) (xs ys : List Back) → AreHeld n xs → AreHeld n ys → AreHeld n (xs ++ ys)
held_then n [] ys h g = g
held_then n (export.Mention ∷ xs) ys h g = (h.0, held_then n xs ys h.1 g)
held_then n (export.Take k ∷ xs) ys h g = absurd h

leaves_behind : (n m : ℕ) (xs ys : List Back) → AreHeld n xs → Leaves n ys m → Leaves n (xs ++ ys) m
leaves_behind n m [] ys h g = g
leaves_behind n m (export.Mention ∷ xs) ys h g = (h.0, leaves_behind n m xs ys h.1 g)
leaves_behind n m (export.Take k ∷ xs) ys h g = absurd h

-- Messages that name the import only while some of it is left.
abbrev pub Sound : ℕ → ℕ → List Noted → Type 0
Sound e n [] = Unit {0}
Sound e n (x ∷ xs) = AreHeld n (targets_in e x.message) × AreHeld n (named_in e (descriptors_of_plain x.message)) × ((k : ℕ) → n ≡ lets_of e x.message x.lets + k → Sound e k xs)

taken : (l n k m : ℕ) (ms : List Back) → n ≡ l + k → Leaves k ms m → Leaves n (take_of l ++ ms) m
taken zero n k m ms e h = let same : n ≡ k = omega (arith, e) in subst (λ (j : ℕ). Leaves j ms m) (sym same) h
taken (suc l) n k m ms e h = (k, omega arith, e, h)

pub leaves : (e : ℕ) (xs : List Noted) (n m : ℕ) → n ≡ letting e xs + m → Sound e n xs → Leaves n (backs_for e xs) m
leaves e [] n m h s = omega (arith, h)
leaves e (x ∷ xs) n m h s =
    let k = letting e xs + m in
    let l = lets_of e x.message x.lets in
    let f : n ≡ l + k = omega (arith, h) in
    let a = targets_in e x.message in
    let b = named_in e (descriptors_of_plain x.message) in
    leaves_behind n m a (b ++ (take_of l ++ backs_for e xs)) s.0
    (leaves_behind n m b (take_of l ++ backs_for e xs) s.1 (taken l n k m (backs_for e xs) f (leaves e xs k m refl (s.2 k f))))

-- ---- What stands is held

some : (o : Option Import) → IsSome o → ImportCounts o → 0 < import_count o
some None h c = absurd (let bad : false ≡ true = h in cc)
some (Some x) h c = c

module _ (s : State) (counts : AreCounted s) (e v : ℕ) (enough : count e s ≤ v) where
  one : (i : ℕ) (b : Bool) → nat_eq e i ≡ b → IsSome (map.get s.imports i) → AreHeld v (only b export.Mention)
  one i false q h = tt
  one i true q h =
      let c = some (map.get s.imports i) h (counts.imports i) in
      let same : count e s ≡ count i s = ap (λ (j : ℕ). count j s) (equal e i q) in
      (omega (arith, c, same, enough), tt)

  pub target_held : (t : Target) → Stands s (wire t) → AreHeld v (target_in e t)
  target_held (ImportedCap i) h = one i.0 (nat_eq e i.0) refl h
  target_held (PromisedAnswer q path) h = tt

  named_held : (ds : List Descriptor) → AreNamed s ds → AreHeld v (named_in e ds)
  named_held [] h = tt
  named_held (descriptor.None ∷ ds) h = named_held ds h.1
  named_held (descriptor.SenderHosted i ∷ ds) h = named_held ds h.1
  named_held (descriptor.SenderPromise i ∷ ds) h = named_held ds h.1
  named_held (descriptor.ReceiverHosted i ∷ ds) h = held_then v (only (nat_eq e i.0) export.Mention) (named_in e ds) (one i.0 (nat_eq e i.0) refl h.0) (named_held ds h.1)
  named_held (descriptor.ReceiverAnswer q path ∷ ds) h = named_held ds h.1

-- ---- Acts

abbrev pub view : ℕ → Progress → ℕ
view e d = count e d.state + pending e d

pub none_waits : (e : ℕ) (d : Progress) → d.released ≡ map.empty → pending e d ≡ 0
none_waits e d h = ap (λ (m : Map ℕ). worth (λ n. n) (map.get m e)) h ∙ ap (worth (λ n. n)) (map.get-empty nat_cmp e)

module _ (e : ℕ) where
  asks : (d from new : Progress) (k : ℕ) (role : Role) (t : Target) (r : Request) → AreCounted from.state → count e from.state ≤ view e d → Stands from.state (wire t) → AllStand from.state r.caps → (h : Asks from k role t r new) → Sound e (view e d) (asks_sent from new k role t r h)
  asks d from new k role t r c enough there all h =
      let g = h.1 in
      (target_held from.state c e (view e d) enough t there, named_held from.state c e (view e d) enough g.0 (describes_all from.state r.caps g.0 g.1 all g.2), λ k q. tt)

  turns : (d new : Progress) (r : ℕ) (x : Reference) (t : Option Target) (n : Node) (g : Granted) → AreCounted d.state → TargetStands d.state t → (h : Embargoes d r x t n g new) → Sound e (view e d) (turn_sent d new r x t n g h)
  turns d new r x None n g c k h = tt
  turns d new r x (Some t) n g c k h = (target_held d.state c e (view e d) (omega arith) t k, tt, λ k q. tt)

  tells_peer : (d from new : Progress) (q : QuestionId) (v : Value) (o : Option AnswerEntry) → AreCounted from.state → count e from.state ≤ view e d → AllStand from.state (caps_of v) → (h : TellsPeer from q v o new) → Sound e (view e d) (peer_sent from new q v o h)
  tells_peer d from new q v None c enough k h = tt
  tells_peer d from new q v (Some a) c enough k h = (tt, named_held from.state c e (view e d) enough (descriptors_of_body h.0) (named_back from.state a.finished v h.0 h.1 h.2 k h.3), λ k q. tt)

  tells : (d from new : Progress) (who : Caller) (v : Value) → AreCounted from.state → count e from.state ≤ view e d → AllStand from.state (caps_of v) → (h : Tells from who v new) → Sound e (view e d) (told_sent from new who v h)
  tells d from new (caller.Application c) v k enough all h = tt
  tells d from new (caller.Peer q) v k enough all h = tells_peer d from new q v (map.get from.state.answers q.0) k enough all h

  resolves : (d new : Progress) (i : ℕ) (x : Option Exception) (n : Node) → AreCounted d.state → Stands d.state (settle d.state n) → (h : ResolvesBy d i x n new) → Sound e (view e d) (resolve_sent d new i x n h)
  resolves d new i x n c k h = (tt, named_held d.state c e (view e d) (omega arith) (descriptors_of_resolved (resolved_to d new i x n h)) (resolved_named d new i x n k h), λ k q. tt)

  ends : (d : Progress) (k : ℕ) (x : Question) (f : Finishing) → Sound e (view e d) (end_sent d k x f)
  ends d k x finishing.Owed = (tt, tt, λ k q. tt)
  ends d k x finishing.Sent = tt
  ends d k x finishing.Waived = tt

  releases : (n : ℕ) (xs : List (ℕ × ℕ)) → Sound e n (releases_sent xs)
  releases n [] = tt
  releases n (x ∷ xs) = (tt, tt, λ k q. releases k xs)

  sound : (d new : Progress) (a : Act d new) → Names a → AreCounted d.state → Sound e (view e d) (sent_by a)
  sound d new (Makes n h) k c = tt
  sound d new (Drops r x there h) k c = tt
  sound d new (AsksRoot g h) k c = (tt, tt, λ k q. tt)
  sound d new (CallsOut r x i q t there h) k c = asks d (with_state d (record (counted d.state r x) { calls = map.insert (counted d.state r x).calls i (own.Direct (record { 0 = h.0 })) })) new h.0 (role.Direct (record { 0 = i })) t q (record { imports = c.imports; exports = c.exports }) (omega arith) k.0 k.1 h.1
  sound d new (Keeps r x i o there free h) k c = tt
  sound d new (Joins w i b there h) k c = tt
  sound d new (Promises p free h) k c = tt
  sound d new (Unsettles p h) k c = tt
  sound d new (Answers t h) k c = tt
  sound d new (Finishes i h) k c = tt
  sound d new (Heads r x n there free h) k c = tt
  sound d new (Turns r x t n g there free h) k c = turns d new r x t n g c k h
  sound d new (Delivers w o h) k c = tt
  sound d new (Waits p calls w there h) k c = tt
  sound d new (Holds o x w there h) k c = tt
  sound d new (Relays q o t r h) k c = asks d d new q (role.Relay o) t r c (omega arith) k.0 k.1 h
  sound d new (Fails o v h) k c = tt
  sound d new (Fixes p calls to there h) k c = tt
  sound d new (Settles o x v fit mid told there unknown f t h) k c =
      let same = fits d.state o x.caller x.waiting v fit mid f in
      let counts : AreCounted (known mid o x.caller x.waiting fit) = record { imports = λ i. subst (λ (m : Map Import). ImportCounts (map.get m i)) (sym same.ids.imports) (c.imports i); exports = λ i. subst (λ (m : Map Export). ExportCounts (map.get m i)) (sym same.exports) (c.exports i) } in
      let same_count : count e mid ≡ count e d.state = ap (λ (m : Map Import). import_count (map.get m e)) same.ids.imports in
      tells d (with_state d (known mid o x.caller x.waiting fit)) told x.caller fit counts (omega (arith, same_count)) k t
  sound d new (Reports i v from there h) k c = tt
  sound d new (Resolves i told n h) k c = resolves d new i told (settle d.state n) c k h
  sound d new (NextArisen o v rest f h) k c = tt
  sound d new (Gone h) k c = tt
  sound d new (Ends q x there due h) k c = ends d q x x.finish
  sound d new (Releases h) k c = releases (view e d) (map.entries d.released)

  pub acts : (last d : Progress) (list : Acts last d) → AllName list → IsReady d.state → IsCovered d.state → AreApart d → IsCounted d → Leaves (view e d) (backs_for e (all_sent list)) (view e last)
  acts last d NoMore n r i a c = refl
  acts last d (Then {mid = mid} first rest) n r i a c =
      let k = kept_ready d mid r first in
      let p = pays.acts mid d r i a (Then first NoMore) in
      let z = above.acts mid d (Then first NoMore) c in
      let f = p.balance e in
      let g = letting-append e (sent_by first) [] in
      let here = leaves e (sent_by first) (view e d) (view e mid) (omega (arith, f, g)) (sound d mid first n.0 c.state) in
      subst (λ (bs : List Back). Leaves (view e d) bs (view e last)) (sym (backs-append e (sent_by first) (all_sent rest)))
      (leaves_then (view e d) (view e mid) (view e last) (backs_for e (sent_by first)) (backs_for e (all_sent rest)) here (acts last mid rest n.1 k.moves.ready p.covered p.apart z.counted))
