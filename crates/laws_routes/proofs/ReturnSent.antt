-- A Return is sent.
use mathlib.Core.Path.{fun_ext}
use Rattle.std.specs.FinMap as map
use Rattle.std.proofs.Common.{◌≡◌, ℕ, ◌-◌, Bool, nat_le, true, false, cond, List, [], ◌∷◌, Option, None, Some, IsSome, refl, sym, ap, subst, ◌∙◌, ◌++◌, nat_eq}
use Rattle.finite_maps.specs.Tally.{Map}
use Rattle.finite_maps.proofs.Tested.{at_cut, at_put}
use Rattle.rpc_msg.specs.declared.ids.QuestionId.{QuestionId}
use Rattle.rpc_msg.specs.declared.parts.Descriptor.{Descriptor}
use Rattle.rpc_msg.specs.declared.message.ReturnBody.{ReturnBody}
use Rattle.rpc_msg.specs.declared.message.PlainMessage.TheVariants as plain
use Rattle.rpc_msg.specs.declared.message.Message.TheVariants as message
use Rattle.rpc_msg.specs.Messages.{descriptors_of, given}
use Rattle.rpc_msg.specs.Vats.{other_vat}
use Rattle.rpc_machine.specs.declared.calls.Value.{Value}
use Rattle.rpc_machine.specs.declared.calls.Value.TheVariants as value
use Rattle.rpc_machine.specs.declared.entries.AnswerEntry.{AnswerEntry}
use Rattle.rpc_machine.specs.declared.entries.Import.{Import}
use Rattle.rpc_machine.specs.State.{State}
use Rattle.rpc_machine.specs.Progress.{Progress, with_state, export_ids, numbers}
use Rattle.rpc_machine.specs.Collecting.{Goes, PromiseGoes, OutcomeGoes, ImportGoes, Collects, Tight, Loose}
use Rattle.rpc_machine.specs.Flags.{flag_for, give_one, give_each, give_if}
use Rattle.rpc_machine.specs.Settling.{SaysBack, Returns, returned, returned_map}
use Rattle.laws_order.specs.Machine as routing
use Rattle.laws_order.specs.Moves.{Done}
use Rattle.laws_routes.specs.Points.{Point, routes}
use Rattle.laws_routes.specs.Views.{IsImportOf, IsSession, past, reader, session_of, sessions_at, shapes}
use Rattle.laws_routes.specs.Ties.{Around, Ghosts, Tied}
use Rattle.laws_routes.specs.Premises.{EachOpen, TargetsAreMet}
use Rattle.laws_routes.specs.Laws.{IsFollowed}
use Rattle.laws_routes.proofs.ExportsGrown.{Exports, described_all, grown_tied, none_new}
use Rattle.laws_routes.proofs.SilentMessages.{silent_goes}
use Rattle.laws_routes.proofs.WhatGoes.{gone, none_there}
use Rattle.laws_routes.specs.Sayings.{AllSaid, Has, KnownAt, SaidIfThere, SaidOfAnswer, bare, descriptor_point, has_behind, has_of, is_waiting, not_sent}
use Rattle.laws_routes.proofs.KnownKept.{gave_each}
use Rattle.laws_routes.proofs.SayingsCarried.{each_return, said_of_fewer}
use Rattle.laws_routes.specs.Named.{LinksMet}
use Rattle.laws_routes.specs.SayingLaws.{MaySayAs, MaySayBack, will_read}
use Rattle.laws_routes.specs.MessageLaws.{SaysSo}
use Rattle.laws_routes.specs.KnownLaws.{has_past}
use Rattle.laws_routes.proofs.AlikeSessions.{past_off}
use Rattle.laws_routes.proofs.ReturnsSaySo.{exception_says, results_say}
use Rattle.rpc_msg.specs.declared.message.Message.{Message}
use Rattle.rpc_machine.specs.declared.entries.Export.{Export}
use Rattle.rpc_machine.specs.declared.entries.Question.{Question}
use Rattle.rpc_machine.specs.declared.entries.Finishing.{Finishing}
use Rattle.rpc_machine.specs.declared.entries.Finishing.TheVariants as finishing
use Rattle.rpc_machine.specs.Sweeping.{IsNotSent}
use Rattle.rpc_machine.specs.Nodes.{value_of}

-- ---- What it leaves of exports, and of what no place names

pub says_exports : (s : State) (b : Bool) (v : Value) (said : ReturnBody) (ds : List Descriptor) (new : State) → SaysBack s b v said ds new → Exports s new
says_exports s true v said ds new h = rw h.2 (none_new s)
says_exports s false (value.Exception exception) said ds new h = rw h.2 (none_new s)
says_exports s false (value.Results payload caps) said ds new h = described_all s caps ds new h.1

pub collected : (w : Around) (g : Ghosts) (m : routing.State routes) (new d : Progress) → Collects new d → Tied w d g m → Tied w new g m
collected w g m new d (Tight h) t = t
collected w g m new d (Loose {mid = k} h more) t = collected w g m new k more (gone w d g m k t h)

goes_answers : (d new : Progress) → Goes d new → new.state.answers ≡ d.state.answers
goes_answers d new (PromiseGoes p h e) = ap (λ (z : Progress). z.state.answers) e
goes_answers d new (OutcomeGoes o h e) = ap (λ (z : Progress). z.state.answers) e
goes_answers d new (ImportGoes i h e) = ap (λ (z : Progress). z.state.answers) e

pub collected_answers : (new d : Progress) → Collects new d → new.state.answers ≡ d.state.answers
collected_answers new d (Tight h) = refl
collected_answers new d (Loose {mid = k} h more) = collected_answers new k more ∙ goes_answers d k h

-- ---- Fewer imports

abbrev pub Fewer : Map Import → Map Import → Type 0
Fewer m n = (e : ℕ) → IsSome (map.get n e) → IsSome (map.get m e)

give_one_fewer : (m : Map Import) (e : ℕ) → Fewer m (give_one m e (map.get m e))
give_one_fewer m e = by (map.get m e) refl
  where
    lost : (x : Import) (b : Bool) → map.get m e ≡ Some x → Fewer m (cond b (map.remove m e) (map.insert m e (record x { count = x.count - 1 })))
    lost x true f = at_cut (λ j o. IsSome o → IsSome (map.get m j)) m e (λ i. none_there Import i) (λ j n i. i)
    lost x false f = at_put (λ j o. IsSome o → IsSome (map.get m j)) m e (record x { count = x.count - 1 }) (λ i. subst (λ (o : Option Import). IsSome o) (sym f) refl) (λ j n i. i)

    by : (o : Option Import) → map.get m e ≡ o → Fewer m (give_one m e o)
    by None f = λ j i. i
    by (Some x) f = lost x (nat_le x.count 1) f

give_each_fewer : (m : Map Import) (es : List ℕ) → Fewer m (give_each m es)
give_each_fewer m [] = λ j i. i
give_each_fewer m (e ∷ es) = λ j i. give_one_fewer m e j (give_each_fewer (give_one m e (map.get m e)) es j i)

module _ (w : Around) (d : Progress) (g : Ghosts) (m : routing.State routes) (t : Tied w d g m) where
  pub fewer_tied : (I : Map Import) → Fewer (d.state).imports I → KnownAt w.vat (record (d.state) { imports = I }) g.own m.net → Tied w (with_state d (record (d.state) { imports = I })) g m
  fewer_tied I fewer known =
      let side = t.own in
      let view = t.view in
      let back = t.back in
      record {
        own = record { stops = side.stops; refs = side.refs; embargoes = side.embargoes; no_other_embargoes = side.no_other_embargoes; lists = side.lists; ids = side.ids };
        theirs = t.theirs;
        view = record { imports = λ e. left e (map.get (d.state).imports e) (map.get I e) (fewer e) (view.imports e); sessions = view.sessions; link = view.link };
        back = record { imports = back.imports; sessions = back.sessions; link = back.link };
        told = t.told;
        unborn = t.unborn;
        unborn_back = t.unborn_back;
        known = known;
        known_there = t.known_there;
        goes = t.goes;
        comes = said_of_fewer (bare m.net) (other_vat w.vat) (w.other).exports g.theirs w.vat (d.state).exports g.own (has_of [] (d.state).imports (d.state).questions) (has_of [] I (d.state).questions) (sessions_at g.own.outcome (d.state).answers) w.back
            (λ e i. fewer e i) (each_return _ w.back (λ q i. i)) t.comes;
      }
    where
      left : (e : ℕ) (o n : Option Import) → (IsSome n → IsSome o) → IsImportOf (other_vat w.vat) g.theirs (g.own.import e) (map.get (w.other).exports e) o → IsImportOf (other_vat w.vat) g.theirs (g.own.import e) (map.get (w.other).exports e) n
      left e o None f h = tt
      left e None (Some x) f h = none_there Import (f refl)
      left e (Some y) (Some x) f h = h

  pub given_tied : (b : Bool) (es : List ℕ) → Tied w (with_state d (give_if d.state b es)) g m
  given_tied true es = fewer_tied (give_each (d.state).imports es) (give_each_fewer (d.state).imports es) (λ l. gave_each w.vat g.own (bare m.net) es d.state (t.known l))
  given_tied false es = t

  -- Answers that stand for the same outcomes.
  pub answers_tied : (A : Map AnswerEntry) → sessions_at g.own.outcome A ≡ sessions_at g.own.outcome (d.state).answers → Tied w (with_state d (record (d.state) { answers = A })) g m
  answers_tied A e =
      let side = t.own in
      let view = t.view in
      let back = t.back in
      record {
        own = record { stops = side.stops; refs = side.refs; embargoes = side.embargoes; no_other_embargoes = side.no_other_embargoes; lists = side.lists; ids = side.ids };
        theirs = t.theirs;
        view = record { imports = view.imports; sessions = view.sessions; link = view.link };
        back = record {
          imports = back.imports;
          sessions = subst (λ (z : ℕ → ℕ). (q : ℕ) → IsSession (g.theirs.session q) (past g.theirs z w.back q) (map.get (w.other).questions q)) (sym e) back.sessions;
          link = ap (λ z. shapes (other_vat w.vat) w.vat g.theirs (reader w.other d.state g.own) z w.back) e ∙ back.link;
        };
        told = t.told;
        unborn = t.unborn;
        unborn_back = t.unborn_back;
        known = t.known;
        known_there = t.known_there;
        goes = t.goes;
        comes = subst (λ (z : ℕ → ℕ). AllSaid (bare m.net) (other_vat w.vat) (w.other).exports g.theirs w.vat (d.state).exports g.own (has_of [] (d.state).imports (d.state).questions) z w.back) (sym e) t.comes;
      }

pub given_answers : (s : State) (b : Bool) (es : List ℕ) → (give_if s b es).answers ≡ s.answers
given_answers s true es = refl
given_answers s false es = refl

-- An answer that changes, and keeps its outcome, stands for what it stood for.
pub sessions_same : (outcome : ℕ → ℕ) (m : Map AnswerEntry) (q : ℕ) (a b : AnswerEntry) → map.get m q ≡ Some a → b.outcome ≡ a.outcome → sessions_at outcome (map.insert m q b) ≡ sessions_at outcome m
sessions_same outcome m q a b e same =
    fun_ext (at_put (λ j o. session_of outcome o ≡ session_of outcome (map.get m j)) m q b (ap outcome same ∙ ap (session_of outcome) (sym e)) (λ j n. refl))

goes_links : (d new : Progress) → Goes d new → (new.state.exports ≡ d.state.exports) × (new.effects.sends ≡ d.effects.sends)
goes_links d new (PromiseGoes p h e) = rw e (refl, refl)
goes_links d new (OutcomeGoes o h e) = rw e (refl, refl)
goes_links d new (ImportGoes i h e) = rw e (refl, refl)

pub collected_links : (new d : Progress) → Collects new d → (new.state.exports ≡ d.state.exports) × (new.effects.sends ≡ d.effects.sends)
collected_links new d (Tight h) = (refl, refl)
collected_links new d (Loose {mid = k} h more) = let a = collected_links new k more in let b = goes_links d k h in (a.0 ∙ b.0, a.1 ∙ b.1)

given_exports : (s : State) (b : Bool) (es : List ℕ) → (give_if s b es).exports ≡ s.exports
given_exports s true es = refl
given_exports s false es = refl

-- ---- What it says

pub past_questions : (has : Has) (ms : List Message) → (has_past has ms).question ≡ has.question
past_questions has [] = refl
past_questions has (message.Plain m ∷ ms) = past_questions (has_behind has (descriptors_of (message.Plain m))) ms
past_questions has (message.Unimplemented m ∷ ms) = past_questions has ms

module _ (w : Around) (d : Progress) (g : Ghosts) (m : routing.State routes) (t : Tied w d g m) (q : QuestionId) (a : AnswerEntry) (v : Value) (e : map.get d.state.answers q.0 ≡ Some a) (value_is : value_of (map.get d.state.outcomes a.outcome) ≡ Some v)
    (met : TargetsAreMet d.state w.back) (links : LinksMet d.state w.other (w.out ++ d.effects.sends) w.back) (off : EachOpen (λ k. nat_eq k q.0 ≡ false) w.back) (said : ReturnBody) (ds : List Descriptor) (mid : State) where
  of_outcome : (b : Bool) (z : Value) → value_of (map.get d.state.outcomes a.outcome) ≡ Some z → (k : SaysBack d.state b z said ds mid) → MaySayAs w d.state b z said ds mid k
      → SaidOfAnswer (bare m.net) w.vat (g.own.outcome a.outcome) (will_read w mid (w.out ++ d.effects.sends) g) said
  of_outcome true z is k may = subst (SaidOfAnswer (bare m.net) w.vat (g.own.outcome a.outcome) (will_read w mid (w.out ++ d.effects.sends) g)) (sym k.0) tt
  of_outcome false (value.Exception exception) is k may =
      subst (SaidOfAnswer (bare m.net) w.vat (g.own.outcome a.outcome) (will_read w mid (w.out ++ d.effects.sends) g)) (sym k.0) (exception_says w d g m a.outcome exception (will_read w mid (w.out ++ d.effects.sends) g) t is may)
  of_outcome false (value.Results payload caps) is k may =
      subst (SaidOfAnswer (bare m.net) w.vat (g.own.outcome a.outcome) (will_read w mid (w.out ++ d.effects.sends) g)) (sym k.0) (results_say w d g m a.outcome payload caps ds mid t met links is k.1 may)

  -- A question that is not finished is of that session.
  same_session : (x : Question) → map.get (w.other).questions q.0 ≡ Some x → not_sent x.finish ≡ true → g.theirs.session q.0 ≡ g.own.outcome a.outcome
  same_session x f i =
      let back = t.back in
      let is : IsSession (g.theirs.session q.0) (past g.theirs (sessions_at g.own.outcome (d.state).answers) w.back q.0) (Some x) = subst (IsSession (g.theirs.session q.0) (past g.theirs (sessions_at g.own.outcome (d.state).answers) w.back q.0)) f (back.sessions q.0) in
      sym (is (asked x.finish i)) ∙ (past_off g.theirs q.0 (sessions_at g.own.outcome (d.state).answers) w.back off ∙ ap (session_of g.own.outcome) e)
    where
      asked : (f : Finishing) → not_sent f ≡ true → IsNotSent f
      asked finishing.Owed i = tt
      asked finishing.Sent i = cc
      asked finishing.Waived i = tt

  if_waiting : (P : ℕ → Type 0) → P (g.own.outcome a.outcome) → SaidIfThere (is_waiting (map.get (w.other).questions q.0)) (P (g.theirs.session q.0))
  if_waiting P k = by (map.get (w.other).questions q.0) refl
    where
      so : (x : Question) (b : Bool) → map.get (w.other).questions q.0 ≡ Some x → not_sent x.finish ≡ b → SaidIfThere b (P (g.theirs.session q.0))
      so x true f i = subst P (sym (same_session x f i)) k
      so x false f i = tt

      by : (o : Option Question) → map.get (w.other).questions q.0 ≡ o → SaidIfThere (is_waiting o) (P (g.theirs.session q.0))
      by None f = tt
      by (Some x) f = so x (not_sent x.finish) f refl

  -- As it is read behind all that was sent.
  pub return_says : (b : Bool) (k : SaysBack d.state b v said ds mid) → MaySayAs w d.state b v said ds mid k → (E : Map Export) (sends : List Message) → E ≡ mid.exports → sends ≡ d.effects.sends
      → SaidIfThere ((has_past (has_of [] (w.other).imports (w.other).questions) (w.out ++ sends)).question q.0)
      (SaidOfAnswer (bare m.net) w.vat (g.theirs.session q.0) (descriptor_point w.vat E g.own (other_vat w.vat) (w.other).exports g.theirs (past g.own (sessions_at g.theirs.outcome (w.other).answers) (w.out ++ sends))) said)
  return_says b k may E sends i j =
      let now = sessions_at g.theirs.outcome (w.other).answers in
      let reads : Map Export → List Message → Descriptor → Point = λ E sends. descriptor_point w.vat E g.own (other_vat w.vat) (w.other).exports g.theirs (past g.own now (w.out ++ sends)) in
      subst (λ (z : ℕ → Bool). SaidIfThere (z q.0) (SaidOfAnswer (bare m.net) w.vat (g.theirs.session q.0) (reads E sends) said)) (sym (past_questions (has_of [] (w.other).imports (w.other).questions) (w.out ++ sends)))
      (subst (λ (F : Map Export). SaidIfThere (is_waiting (map.get (w.other).questions q.0)) (SaidOfAnswer (bare m.net) w.vat (g.theirs.session q.0) (reads F sends) said)) (sym i)
      (subst (λ (ms : List Message). SaidIfThere (is_waiting (map.get (w.other).questions q.0)) (SaidOfAnswer (bare m.net) w.vat (g.theirs.session q.0) (reads mid.exports ms) said)) (sym j)
      (if_waiting (λ z. SaidOfAnswer (bare m.net) w.vat z (will_read w mid (w.out ++ d.effects.sends) g) said) (of_outcome b v value_is k may))))

-- ---- The whole

pub return_sent : (w : Around) (d : Progress) (q : QuestionId) (a : AnswerEntry) (v : Value) (new : Progress) → map.get d.state.answers q.0 ≡ Some a → a.finished ≡ false → value_of (map.get d.state.outcomes a.outcome) ≡ Some v
    → (h : Returns d q a v new) → MaySayBack w d q a v new h → IsFollowed w d new
return_sent w d q a v new e unfinished value h may = λ g m us t i. (g, m, Done, tied g m t, (refl, refl, refl, refl))
  where
    ds : List Descriptor
    ds = h.1

    mid : State
    mid = h.2

    then : Progress
    then = h.4.0

    ids : List ℕ
    ids = numbers a.taken

    flag : Bool
    flag = flag_for then.state ids

    left : State
    left = give_if then.state flag ids

    exports : Exports d.state mid
    exports = says_exports d.state a.finished v h.0 ds mid h.3

    there : map.get left.answers q.0 ≡ Some a
    there = ap (λ z. map.get z q.0) (given_answers then.state flag ids ∙ (collected_answers then (with_state d mid) h.4.1 ∙ ap (λ (z : State). z.answers) exports.1)) ∙ e

    so : (g : Ghosts) (m : routing.State routes) → Tied w d g m → SaysSo w (with_state then (returned left q.0 a (given ds))) g m (message.Plain (plain.Return (record { answer = q; release_param_caps = flag; body = h.0 })))
    so g m t =
        let same = collected_links then (with_state d mid) h.4.1 in
        return_says w d g m t q a v e value may.met may.links may.not_open h.0 ds mid a.finished h.3 may.says left.exports then.effects.sends (given_exports then.state flag ids ∙ same.0) same.1

    tied : (g : Ghosts) (m : routing.State routes) → Tied w d g m → Tied w new g m
    tied g m t =
        let at_mid = grown_tied w d g m mid t may.met may.links exports in
        let at_then = collected w g m then (with_state d mid) h.4.1 at_mid.0 in
        let at_left : Tied w (with_state then left) g m = given_tied w then g m at_then flag ids in
        let b : AnswerEntry = record a { returned = Some (export_ids (given ds)) } in
        let at_open = answers_tied w (with_state then left) g m at_left (map.insert left.answers q.0 b) (sessions_same g.own.outcome left.answers q.0 a b there refl) in
        let at_end = subst (λ (z : Bool). Tied w (with_state then (record left { answers = returned_map left.answers q.0 a z (given ds) })) g m) (sym unfinished) at_open in
        subst (λ (z : Progress). Tied w z g m) (sym h.4.2)
        (silent_goes w (with_state then (returned left q.0 a (given ds))) g m (message.Plain (plain.Return (record { answer = q; release_param_caps = flag; body = h.0 }))) at_end tt (so g m t))
