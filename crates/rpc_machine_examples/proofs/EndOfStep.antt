-- The end of a step: only Finishes and Releases are sent, and only questions, imports, settled promises and known outcomes
-- change.
use Rattle.std.proofs.Common.{◌≡◌, ℕ, Bool, true, false, List, [], ◌∷◌, ◌++◌, refl, sym, ap, subst, ◌∙◌, append_assoc, append-nil}
use Rattle.std.specs.FinMap as map
use Rattle.rpc_msg.specs.declared.message.PlainMessage.TheVariants as plain
use Rattle.rpc_msg.specs.declared.message.Message.{Message}
use Rattle.rpc_msg.specs.declared.message.Message.TheVariants as message
use Rattle.rpc_machine.specs.declared.entries.Question.{Question}
use Rattle.rpc_machine.specs.declared.entries.Finishing.{Finishing}
use Rattle.rpc_machine.specs.declared.entries.Finishing.TheVariants as finishing
use Rattle.rpc_machine.specs.declared.command.Effects.{Effects}
use Rattle.rpc_machine.specs.State.{State}
use Rattle.rpc_machine.specs.Lists.{how_many}
use Rattle.rpc_machine.specs.Progress.{Progress, send, export_id}
use Rattle.rpc_machine.specs.Flags.{give_if, flag_for}
use Rattle.rpc_machine.specs.Collecting.{Goes, PromiseGoes, OutcomeGoes, ImportGoes, Collects, Tight, Loose}
use Rattle.rpc_machine.specs.Settling.{Drains, NoneLeft, OneMore}
use Rattle.rpc_machine.specs.Sweeping.{got_of, finished_by, FinishesEach, release_each, Sweeps}
use Rattle.rpc_machine.specs.Steps.{Ends}
use Rattle.rpc_machine_examples.specs.HeldEmbargoes.{disembargos}
use Rattle.rpc_machine_examples.specs.TakenQuestions.{asks}

-- A message with which things are let go.
abbrev pub IsLetGo : Message → Type 0
IsLetGo (message.Plain (plain.Finish f)) = Unit {0}
IsLetGo (message.Plain (plain.Release r)) = Unit {0}
IsLetGo m = ⊥

abbrev pub AllLetGo : List Message → Type 0
AllLetGo [] = Unit {0}
AllLetGo (m ∷ ms) = IsLetGo m × AllLetGo ms

let_go-append : (xs ys : List Message) → AllLetGo xs → AllLetGo ys → AllLetGo (xs ++ ys)
let_go-append [] ys h k = k
let_go-append (x ∷ xs) ys h k = (h.0, let_go-append xs ys h.1 k)

-- They ask nothing, and lift nothing.
pub asks_none : (q : ℕ) (ms : List Message) → AllLetGo ms → how_many (asks q) ms ≡ 0
asks_none q [] h = refl
asks_none q (message.Plain (plain.Finish f) ∷ ms) h = asks_none q ms h.1
asks_none q (message.Plain (plain.Release r) ∷ ms) h = asks_none q ms h.1
asks_none q (message.Plain (plain.Abort x) ∷ ms) h = absurd h.0
asks_none q (message.Plain (plain.Bootstrap k) ∷ ms) h = absurd h.0
asks_none q (message.Plain (plain.Call c) ∷ ms) h = absurd h.0
asks_none q (message.Plain (plain.Return r) ∷ ms) h = absurd h.0
asks_none q (message.Plain (plain.Resolve r) ∷ ms) h = absurd h.0
asks_none q (message.Plain (plain.Disembargo x) ∷ ms) h = absurd h.0
asks_none q (message.Plain (plain.Other n) ∷ ms) h = absurd h.0
asks_none q (message.Unimplemented m ∷ ms) h = absurd h.0

pub no_disembargos : (ms : List Message) → AllLetGo ms → disembargos ms ≡ []
no_disembargos [] h = refl
no_disembargos (message.Plain (plain.Finish f) ∷ ms) h = no_disembargos ms h.1
no_disembargos (message.Plain (plain.Release r) ∷ ms) h = no_disembargos ms h.1
no_disembargos (message.Plain (plain.Abort x) ∷ ms) h = absurd h.0
no_disembargos (message.Plain (plain.Bootstrap k) ∷ ms) h = absurd h.0
no_disembargos (message.Plain (plain.Call c) ∷ ms) h = absurd h.0
no_disembargos (message.Plain (plain.Return r) ∷ ms) h = absurd h.0
no_disembargos (message.Plain (plain.Resolve r) ∷ ms) h = absurd h.0
no_disembargos (message.Plain (plain.Disembargo x) ∷ ms) h = absurd h.0
no_disembargos (message.Plain (plain.Other n) ∷ ms) h = absurd h.0
no_disembargos (message.Unimplemented m ∷ ms) h = absurd h.0

-- What the end of a step leaves as it is.
abbrev pub Rest : State → State → Type 0
Rest s t = (t.embargoes ≡ s.embargoes) × (t.refs ≡ s.refs) × (t.exports ≡ s.exports) × (t.answers ≡ s.answers)

abbrev pub Swept : Progress → Progress → Type 0
Swept d new =
    Rest d.state new.state
    × (new.effects.deliveries ≡ d.effects.deliveries)
    × (new.effects.answers ≡ d.effects.answers)
    × ((rest : List Message) × AllLetGo rest × (new.effects.sends ≡ d.effects.sends ++ rest))

same : (d : Progress) → Swept d d
same d = ((refl, refl, refl, refl), refl, refl, ([], tt, sym (append-nil d.effects.sends)))

then : (d mid new : Progress) → Swept d mid → Swept mid new → Swept d new
then d mid new h k =
    let a = h.0 in
    let b = k.0 in
    let f = h.3 in
    let g = k.3 in (
      (b.0 ∙ a.0, b.1 ∙ a.1, b.2 ∙ a.2, b.3 ∙ a.3),
      k.1 ∙ h.1,
      k.2 ∙ h.2,
      (f.0 ++ g.0, let_go-append f.0 g.0 f.1 g.1, g.2 ∙ ap (λ xs. xs ++ g.0) f.2 ∙ append_assoc d.effects.sends f.0 g.0),
    )

goes : (d new : Progress) → Goes d new → Swept d new
goes d new (PromiseGoes p h f) = rw f (same d)
goes d new (OutcomeGoes o h f) = rw f (same d)
goes d new (ImportGoes i h f) = rw f (same d)

pub collected : (new d : Progress) → Collects new d → Swept d new
collected new d (Tight h) = same new
collected new d (Loose {mid = mid} g rest) = then d mid new (goes d mid g) (collected new mid rest)

pub gives : (s : State) (b : Bool) (ids : List ℕ) → Rest s (give_if s b ids)
gives s true ids = (refl, refl, refl, refl)
gives s false ids = (refl, refl, refl, refl)

finished : (d : Progress) (q : ℕ) (x : Question) (f : Finishing) → Swept d (finished_by d q x f)
finished d q x finishing.Owed = (gives d.state (flag_for d.state (got_of x.returned)) (got_of x.returned), refl, refl, (_ ∷ [], (tt, tt), refl))
finished d q x finishing.Sent = same d
finished d q x finishing.Waived = same d

pub finishes_each : (d : Progress) (xs : List (ℕ × Question)) (new : Progress) → FinishesEach d xs new → Swept d new
finishes_each d [] new h = rw h (same d)
finishes_each d (x ∷ xs) new h =
    let next = finished_by h.0 x.0 x.1 x.1.finish in
    then d h.0 new (collected h.0 d h.1) (then h.0 next new (finished h.0 x.0 x.1 x.1.finish) (finishes_each next xs new h.2))

releases_each : (d : Progress) (xs : List (ℕ × ℕ)) → Swept d (release_each d xs)
releases_each d [] = same d
releases_each d (x ∷ xs) =
    let next = send d (plain.Release (record { export = export_id x.0; count = x.1 })) in
    then d next (release_each next xs) ((refl, refl, refl, refl), refl, refl, (_ ∷ [], (tt, tt), refl)) (releases_each next xs)

pub sweeps : (d new : Progress) → Sweeps d new → Swept d new
sweeps d new h =
    let g = h.2 in
    let k = g.2 in
    then d g.0 new (finishes_each d _ g.0 g.1) (then g.0 k.0 new (collected k.0 g.0 k.1) (rw k.2 (releases_each k.0 (map.entries k.0.released))))

-- Where no outcome arose, nothing is settled at the end.
pub none_arose : (new d : Progress) → Drains new d → d.arisen ≡ [] → new ≡ d
none_arose new d (NoneLeft h) f = refl
none_arose new d (OneMore {mid = mid} o v rest e h more) f = let g : (o, v) ∷ rest ≡ [] = sym e ∙ f in cc

-- So such a step ends.
pub ends_quietly : (acted : Progress) (x : Effects) (new : State) → Ends acted x new → acted.arisen ≡ [] → Rest acted.state new × (x.deliveries ≡ acted.effects.deliveries) × (x.answers ≡ acted.effects.answers) × ((rest : List Message) × AllLetGo rest × (x.sends ≡ acted.effects.sends ++ rest))
ends_quietly acted x new h f =
    let e : h.drained ≡ acted = none_arose h.drained acted h.drains f in
    let s : Swept acted h.swept = subst (λ (d : Progress). Swept d h.swept) e (sweeps h.drained h.swept h.sweeps) in
    rw (h.new_is, h.effects_are) s
