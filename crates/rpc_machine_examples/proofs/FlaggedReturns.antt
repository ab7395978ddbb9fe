-- The flag of a Return gives back what no other place names, or what was received more often; and what it gives back
-- is not released again.
use Rattle.std.proofs.Common.{◌≡◌, ℕ, suc, Bool, true, false, List, [], ◌∷◌, Option, None, Some, refl, sym, ap, subst, ◌∙◌, arith}
use Rattle.std.specs.FinMap as map
use Rattle.finite_maps.specs.Tally.{Map}
use Rattle.rpc_msg.specs.Payloads.{null_payload}
use Rattle.rpc_msg.specs.declared.ids.QuestionId.{QuestionId}
use Rattle.rpc_msg.specs.declared.parts.Descriptor.{Descriptor}
use Rattle.rpc_msg.specs.declared.message.ReturnBody.{ReturnBody}
use Rattle.rpc_msg.specs.declared.message.ReturnBody.TheVariants as body
use Rattle.rpc_msg.specs.declared.message.PlainMessage.TheVariants as plain
use Rattle.rpc_msg.specs.declared.message.Message.{Message}
use Rattle.rpc_msg.specs.Messages.{given}
use Rattle.rpc_machine.specs.declared.command.Granted.{Granted}
use Rattle.rpc_machine.specs.declared.command.Effects.{Effects}
use Rattle.rpc_machine.specs.declared.calls.Caller.{Caller}
use Rattle.rpc_machine.specs.declared.calls.Caller.TheVariants as caller
use Rattle.rpc_machine.specs.declared.calls.Value.{Value}
use Rattle.rpc_machine.specs.declared.calls.Value.TheVariants as value
use Rattle.rpc_machine.specs.declared.calls.KeptOutcome.{KeptOutcome}
use Rattle.rpc_machine.specs.declared.entries.AnswerEntry.{AnswerEntry}
use Rattle.rpc_machine.specs.declared.entries.Import.{Import}
use Rattle.rpc_machine.specs.declared.entries.Reference.{Reference}
use Rattle.rpc_machine.specs.State.{State}
use Rattle.rpc_machine.specs.Nodes.{is_import, is_field}
use Rattle.rpc_machine.specs.Places.{names}
use Rattle.rpc_machine.specs.Progress.{Progress, begin, with_state, send}
use Rattle.rpc_machine.specs.Descriptors.{DescribesAll}
use Rattle.rpc_machine.specs.Collecting.{IsTight, IsLooseImport, AnswerIsOther, Collects}
use Rattle.rpc_machine.specs.Flags.{flag_for, give_one, give_if}
use Rattle.rpc_machine.specs.Settling.{known, returned, Returns, TellsPeer, Tells, exports_where, ResolvesEach, SendsResolves, SettlesFrom}
use Rattle.rpc_machine.specs.Sweeping.{IsToFinish}
use Rattle.rpc_machine.specs.Commands.{answered, AnswersTask}
use Rattle.rpc_machine_examples.specs.ExactFlags.{received_often, to_the_import, open_answer, of_the_peer, given_once, null_return, AnswersWith}
use Rattle.rpc_machine_examples.proofs.GivenMaps.{m, look, found, AtEach, at_each, entries_empty, progress, NothingOver, tight_of, names_of, gone}
use Rattle.rpc_machine_examples.proofs.EndOfStep.{gives}
use Rattle.rpc_machine_examples.proofs.OnlyEnd.{stays_tight, only_end}
use Rattle.rpc_machine_examples.proofs.FlaggedFinishes.{not_loose}

abbrev results : Value
results = value.Results null_payload []

abbrev one : QuestionId
one = record { 0 = 1 }

abbrev peer : Caller
peer = caller.Peer one

abbrev saying : List Message → Effects
saying ms = record { sends = ms; deliveries = []; answers = []; down = None }

-- A payload without capabilities takes no descriptors.
none_described : (s : State) (ds : List Descriptor) (new : State) → DescribesAll s [] ds new → (ds ≡ []) × (new ≡ s)
none_described s [] new h = (refl, h)
none_described s (d ∷ ds) new h = absurd h

pub asks_nothing : (s : State) → s.questions ≡ m [] → NothingOver s
asks_nothing s e q = subst (λ x. ¬ (IsToFinish s q (map.get x q))) (sym e) (at_each (λ j x. ¬ (IsToFinish s j x)) [] (λ k h. h) tt q)

pub kept_by : (s : State) (ans : List (ℕ × AnswerEntry)) (a : AnswerEntry) → s.answers ≡ m ans → look 1 ans ≡ Some a → a.outcome ≡ 1 → AnswerIsOther 1 (map.get s.answers 1) → ⊥
kept_by s ans a e f g h = subst (AnswerIsOther 1) (ap (λ x. map.get x 1) e ∙ found ans 1 ∙ f) h g

-- The task is gone.
abbrev begun : List (ℕ × Reference) → ℕ → Progress
begun rs n = answered (begin (given_once rs n)) 0

-- Its outcome is known.
abbrev known_now : List (ℕ × Reference) → ℕ → State
known_now rs n = known (begun rs n).state 1 peer [] results

abbrev returning : Progress → List Descriptor → ReturnBody → Bool → Progress
returning d ds said flag =
    send (with_state d (returned (give_if d.state flag (0 ∷ [])) 1 open_answer (given ds))) (plain.Return (record { answer = one; release_param_caps = flag; body = said }))

-- The Return was sent.
abbrev told : List (ℕ × Reference) → ℕ → Bool → Progress
told rs n b = returning (with_state (begun rs n) (known_now rs n)) [] (body.Results null_payload []) b

abbrev last : List (ℕ × Reference) → ℕ → Bool → State
last rs n b = known (told rs n b).state 1 peer [] results

-- The only Return of that answer.
returned_so : (d : Progress) (b : Bool) (new : Progress) → flag_for d.state (0 ∷ []) ≡ b → IsTight d.state → Returns d one open_answer results new → new ≡ returning d [] (body.Results null_payload []) b
returned_so d b new flag tight r =
    let says = r.3 in
    let none = none_described d.state r.1 r.2 says.1 in
    let c = r.4 in
    let then : Progress = c.0 in
    let ds : List Descriptor = r.1 in
    let quiet : then ≡ d = stays_tight then d tight (subst (λ (z : State). Collects then (with_state d z)) none.1 c.1) in
    let said : r.0 ≡ body.Results null_payload [] = says.0 ∙ ap (λ xs. body.Results null_payload xs) none.0 in
    c.2
    ∙ ap (λ (z : Progress). returning z ds r.0 (flag_for z.state (0 ∷ []))) quiet
    ∙ ap (λ (xs : List Descriptor). returning d xs r.0 (flag_for d.state (0 ∷ []))) none.0
    ∙ ap (λ (z : ReturnBody). returning d [] z (flag_for d.state (0 ∷ []))) said
    ∙ ap (λ (z : Bool). returning d [] (body.Results null_payload []) z) flag

-- The outcome is known from then on.
abbrev knowing : Progress → Value → Progress
knowing d v = with_state d (known d.state 1 peer [] v)

-- The only first act of the command.
acted_so : (rs : List (ℕ × Reference)) (n : ℕ) (b : Bool) (g : Granted) (acted : Progress) → flag_for (known_now rs n) (0 ∷ []) ≡ b → IsTight (known_now rs n) → AnswersTask (begin (given_once rs n)) 0 results (map.get (given_once rs n).tasks 0) g acted → acted ≡ progress (last rs n b) (saying (null_return b ∷ []))
acted_so rs n b g acted flag tight h =
    let s = given_once rs n in
    let d = begun rs n in
    let d1 : Progress = with_state d (known_now rs n) in
    let a : AnswersTask (begin s) 0 results (Some 1) g acted = subst (λ (o : Option ℕ). AnswersTask (begin s) 0 results o g acted) (found ((0, 1) ∷ []) 0) h in
    let k : SettlesFrom d 1 results (Some (of_the_peer None)) acted = subst (λ (o : Option KeptOutcome). SettlesFrom d 1 results o acted) (found ((1, of_the_peer None) ∷ []) 1) a.1 in
    let u = k.2 in
    let w = u.2 in
    let fit : k.0 ≡ results = u.1 ∙ ap (λ xs. value.Results null_payload xs) w.0 in
    let t = k.3 in
    let p : Tells (with_state d (known k.1 1 peer [] results)) peer results t.0 = subst (λ (v : Value). Tells (with_state d (known k.1 1 peer [] v)) peer v t.0) fit t.1 in
    let q : Tells d1 peer results t.0 = subst (λ (z : State). Tells (with_state d (known z 1 peer [] results)) peer results t.0) w.1 p in
    let r : Returns d1 one open_answer results t.0 = subst (λ (o : Option AnswerEntry). TellsPeer d1 one results o t.0) (found ((1, open_answer) ∷ []) 1) q in
    let sent : t.0 ≡ told rs n b = returned_so d1 b t.0 flag tight r in
    let rest = t.2 in
    let all : Progress = progress (last rs n b) (saying (null_return b ∷ [])) in
    let routed : rest.0 ≡ all = rest.1 ∙ ap (knowing t.0) fit ∙ ap (λ (z : Progress). knowing z results) sent in
    let i : SendsResolves all None (is_field 1) acted = subst (λ (z : Progress). SendsResolves z None (is_field 1) acted) routed rest.2 in
    let keeps = gives (known_now rs n) b (0 ∷ []) in
    let e : map.entries all.state.exports ≡ [] = ap (λ j. map.entries j) keeps.2 ∙ entries_empty in
    subst (λ es. ResolvesEach all None (exports_where (is_field 1) es) acted) e i

-- So the whole step is.
step_so : (rs : List (ℕ × Reference)) (n : ℕ) (b : Bool) (left : Option Import) → flag_for (known_now rs n) (0 ∷ []) ≡ b → IsTight (known_now rs n) → IsTight (last rs n b) → NothingOver (last rs n b) → map.get (last rs n b).imports 0 ≡ left → AnswersWith rs n b left
step_so rs n b left flag tight tight_last over is_left g x new h =
    let f = acted_so rs n b g h.acted flag tight h.acts in
    let k = only_end (last rs n b) (saying (null_return b ∷ [])) h.acted x new f tight_last over h.ends in
    (ap (λ (y : Effects). y.sends) k.0, ap (λ (t : State). map.get t.imports 0) k.1 ∙ is_left)

-- ---- The three states

abbrev closed_answer : AnswerEntry
closed_answer = record { outcome = 1; taken = record { 0 = 0 } ∷ []; returned = Some []; finished = false }

abbrev outcomes_known : List (ℕ × KeptOutcome)
outcomes_known = (1, of_the_peer (Some results)) ∷ (1, of_the_peer None) ∷ []

abbrev outcomes_last : List (ℕ × KeptOutcome)
outcomes_last = (1, of_the_peer (Some results)) ∷ outcomes_known

abbrev answers_last : List (ℕ × AnswerEntry)
answers_last = (1, closed_answer) ∷ (1, open_answer) ∷ []

abbrev refs_named : List (ℕ × Reference)
refs_named = (0, to_the_import) ∷ []

module _ (rs : List (ℕ × Reference)) (n : ℕ) where
  abbrev imports_known : List (ℕ × Import)
  imports_known = (0, received_often n) ∷ []

  pub tight_known : (k : ℕ) → names (known_now rs n) (is_import 0) ≡ suc k → IsTight (known_now rs n)
  tight_known k named =
      tight_of (known_now rs n) [] outcomes_known imports_known refl refl refl tt
      ((λ h. kept_by (known_now rs n) ((1, open_answer) ∷ []) open_answer refl refl refl h.1), ((λ h. h), tt))
      ((λ h. let e : suc k ≡ 0 = sym named ∙ h in absurd (omega arith)), tt)

  tight_last : (b : Bool) (ims : List (ℕ × Import)) → (last rs n b).promises ≡ m [] → (last rs n b).outcomes ≡ m outcomes_last → (last rs n b).imports ≡ m ims → (last rs n b).answers ≡ m answers_last → AtEach (λ j x. ¬ (IsLooseImport (last rs n b) j x)) ims → IsTight (last rs n b)
  tight_last b ims ps os is ans named =
      tight_of (last rs n b) [] outcomes_last ims ps os is tt
      ((λ h. kept_by (last rs n b) answers_last closed_answer ans refl refl h.1), ((λ h. kept_by (last rs n b) answers_last closed_answer ans refl refl h.1), ((λ h. h), tt)))
      named

-- ---- Nothing else names it

alone_known : names (known_now [] 1) (is_import 0) ≡ 1
alone_known = names_of (known_now [] 1) [] [] [] outcomes_known [] ((0, received_often 1) ∷ []) [] ((1, open_answer) ∷ []) refl refl refl refl refl refl refl refl (is_import 0)

alone_flag : flag_for (known_now [] 1) (0 ∷ []) ≡ true
alone_flag = rw (found ((0, received_often 1) ∷ []) 0, alone_known) refl

alone_left : (last [] 1 true).imports ≡ m []
alone_left = ap (give_one (m ((0, received_often 1) ∷ [])) 0) (found ((0, received_often 1) ∷ []) 0) ∙ gone 0 (received_often 1)

pub alone : AnswersWith [] 1 true None
alone =
    step_so [] 1 true None alone_flag (tight_known [] 1 0 alone_known)
    (tight_last [] 1 true [] refl refl alone_left refl tt)
    (asks_nothing (last [] 1 true) refl)
    (ap (λ (j : Map Import). map.get j 0) alone_left ∙ found [] 0)

-- ---- A reference names it

named_known : (n : ℕ) → names (known_now refs_named n) (is_import 0) ≡ 2
named_known n = names_of (known_now refs_named n) refs_named [] [] outcomes_known [] ((0, received_often n) ∷ []) [] ((1, open_answer) ∷ []) refl refl refl refl refl refl refl refl (is_import 0)

named_flag : flag_for (known_now refs_named 1) (0 ∷ []) ≡ false
named_flag = rw (found ((0, received_often 1) ∷ []) 0, named_known 1) refl

named_last : names (last refs_named 1 false) (is_import 0) ≡ 1
named_last = names_of (last refs_named 1 false) refs_named [] [] outcomes_last [] ((0, received_often 1) ∷ []) [] answers_last refl refl refl refl refl refl refl refl (is_import 0)

pub named : AnswersWith refs_named 1 false (Some (received_often 1))
named =
    step_so refs_named 1 false (Some (received_often 1)) named_flag (tight_known refs_named 1 1 (named_known 1))
    (tight_last refs_named 1 false ((0, received_often 1) ∷ []) refl refl refl refl (not_loose (last refs_named 1 false) 0 named_last, tt))
    (asks_nothing (last refs_named 1 false) refl)
    (found ((0, received_often 1) ∷ []) 0)

-- ---- It was received once more

more_flag : flag_for (known_now refs_named 2) (0 ∷ []) ≡ true
more_flag = rw (found ((0, received_often 2) ∷ []) 0) refl

abbrev imports_more : List (ℕ × Import)
imports_more = (0, received_often 1) ∷ (0, received_often 2) ∷ []

more_left : (last refs_named 2 true).imports ≡ m imports_more
more_left = ap (give_one (m ((0, received_often 2) ∷ [])) 0) (found ((0, received_often 2) ∷ []) 0)

more_last : names (last refs_named 2 true) (is_import 0) ≡ 1
more_last = names_of (last refs_named 2 true) refs_named [] [] outcomes_last [] imports_more [] answers_last refl refl refl refl refl more_left refl refl (is_import 0)

pub named_and_more : AnswersWith refs_named 2 true (Some (received_often 1))
named_and_more =
    step_so refs_named 2 true (Some (received_often 1)) more_flag (tight_known refs_named 2 1 (named_known 2))
    (tight_last refs_named 2 true imports_more refl refl more_left refl (not_loose (last refs_named 2 true) 0 more_last, (not_loose (last refs_named 2 true) 0 more_last, tt)))
    (asks_nothing (last refs_named 2 true) refl)
    (ap (λ (j : Map Import). map.get j 0) more_left ∙ found imports_more 0)
