-- While a canceled Return is on its way its answer is closed, so its question was given up.
use Rattle.std.specs.FinMap as map
use Rattle.std.proofs.Common.{◌≡◌, ℕ, Bool, true, false, List, [], ◌∷◌, ◌++◌, Option, None, Some, refl, sym, subst, ◌∙◌}
use Rattle.finite_maps.specs.Tally.{Map}
use Rattle.finite_maps.proofs.Tested.{itself}
use Rattle.rpc_msg.specs.declared.ids.ExportId.{ExportId}
use Rattle.rpc_msg.specs.declared.ids.Vat.TheVariants.{A, B}
use Rattle.rpc_msg.specs.declared.message.Message.{Message}
use Rattle.rpc_msg.specs.declared.message.Message.TheVariants as message
use Rattle.rpc_msg.specs.declared.message.PlainMessage.{PlainMessage}
use Rattle.rpc_msg.specs.declared.message.PlainMessage.TheVariants as plain
use Rattle.rpc_msg.specs.declared.message.ReturnBody.{ReturnBody}
use Rattle.rpc_msg.specs.declared.message.ReturnBody.TheVariants as body
use Rattle.rpc_machine.specs.declared.command.Command.{Command}
use Rattle.rpc_machine.specs.declared.command.Effects.{Effects}
use Rattle.rpc_machine.specs.declared.command.Granted.{Granted}
use Rattle.rpc_machine.specs.declared.entries.AnswerEntry.{AnswerEntry}
use Rattle.rpc_machine.specs.declared.entries.Finishing.{Finishing}
use Rattle.rpc_machine.specs.declared.entries.Finishing.TheVariants as finishing
use Rattle.rpc_machine.specs.declared.entries.Question.{Question}
use Rattle.rpc_machine.specs.declared.entries.Returned.{Returned}
use Rattle.rpc_machine.specs.State.{State}
use Rattle.rpc_machine.specs.Faults.{fault_of}
use Rattle.rpc_machine.specs.Progress.{numbers}
use Rattle.rpc_machine.specs.Refusals.{refused}
use Rattle.rpc_machine.specs.Steps.{Does, Handles}
use Rattle.rpc_machine.specs.Sweeping.{IsNotSent}
use Rattle.rpc_machine.specs.World.{World}
use Rattle.laws_acts.specs.Sent.{Ids, Noted, messages}
use Rattle.laws_runs.specs.Between.{HoldsIn, IsKept, StillHolds}
use Rattle.laws_runs.specs.Questions as session
use Rattle.laws_runs.specs.Questions.{Answerer, Asker, Closing, EarlyBehind, EarlyCrossed, EarlyHeld, EarlyReturning, EarlySent, EarlyWaits, Held, Idle, Out, Ret, Returned as IsReturned, Returning, Row, Sent, SentBehind}
use Rattle.laws_runs.specs.Views.{answered_by, answerer_of, asked_by, asker_of, only, out_of, outs, ret_of, rets}
use Rattle.laws_runs.specs.Worlds.{Stand}
use Rattle.laws_runs.proofs.Kept.{messages-append}
use Rattle.laws_routes.specs.SayingLaws.{IsNotCanceled}
use Rattle.laws_scenes.specs.Meeting.{IfThere, OfOldest}
use Rattle.laws_scenes.specs.Canceled.{CancelsOnlyGivenUp}
use Rattle.laws_scenes.proofs.CanceledSent.{AreClosed, IfCanceled, IsClosed, does, handles, if_canceled, joined}

-- ---- What the rows say

abbrev IsGivenUp : Asker Ids Ids → Type 0
IsGivenUp session.NotAsked = ⊥
IsGivenUp (session.Asked x) = ⊥
IsGivenUp (session.Back y) = ⊥
IsGivenUp (session.Early x) = Unit {0}
IsGivenUp session.Odd = ⊥

abbrev IsShut : Answerer Ids Ids → Type 0
IsShut session.NotOpen = Unit {0}
IsShut (session.Working x) = ⊥
IsShut (session.Unwanted x) = ⊥
IsShut (session.Answered y) = ⊥
IsShut session.Strange = ⊥

abbrev HasMore : {X : Type 0} → List X → Type 0
HasMore [] = ⊥
HasMore (x ∷ xs) = Unit {0}

-- A Return is on its way of an answer that is closed: then the question was given up, and nothing more of it is on the way.
given_up : (v : Asker Ids Ids) (os : List (Out Ids Ids)) (u : Answerer Ids Ids) (bs : List (Ret Ids Ids)) → Row v os u bs → IsShut u → HasMore bs → IsGivenUp v × (os ≡ [])
given_up v os u bs Idle i h = absurd h
given_up v os u bs (Closing y l j) i h = absurd h
given_up v os u bs (Sent x) i h = absurd h
given_up v os u bs (SentBehind y l x j) i h = absurd h
given_up v os u bs (Held x) i h = absurd h
given_up v os u bs (Returning x y l j) i h = absurd i
given_up v os u bs (IsReturned y) i h = absurd h
given_up v os u bs (EarlySent x) i h = absurd h
given_up v os u bs (EarlyBehind y l x j) i h = absurd h
given_up v os u bs (EarlyHeld x) i h = absurd h
given_up v os u bs (EarlyCrossed x y l j) i h = absurd i
given_up v os u bs (EarlyWaits x) i h = absurd h
given_up v os u bs (EarlyReturning x y l j) i h = (tt, refl)

-- And while that is so, the answer stays closed.
stays_shut : (v : Asker Ids Ids) (os : List (Out Ids Ids)) (u : Answerer Ids Ids) (bs : List (Ret Ids Ids)) → Row v os u bs → IsGivenUp v → os ≡ [] → HasMore bs → IsShut u
stays_shut v os u bs Idle i e h = absurd h
stays_shut v os u bs (Closing y l j) i e h = absurd h
stays_shut v os u bs (Sent x) i e h = absurd h
stays_shut v os u bs (SentBehind y l x j) i e h = absurd h
stays_shut v os u bs (Held x) i e h = absurd h
stays_shut v os u bs (Returning x y l j) i e h = absurd i
stays_shut v os u bs (IsReturned y) i e h = absurd h
stays_shut v os u bs (EarlySent x) i e h = absurd h
stays_shut v os u bs (EarlyBehind y l x j) i e h = absurd h
stays_shut v os u bs (EarlyHeld x) i e h = absurd h
stays_shut v os u bs (EarlyCrossed x y l j) i e h = cc
stays_shut v os u bs (EarlyWaits x) i e h = absurd h
stays_shut v os u bs (EarlyReturning x y l j) i e h = tt

is_shut : (o : Option AnswerEntry) → o ≡ None → IsShut (answerer_of o)
is_shut o e = subst (λ (p : Option AnswerEntry). IsShut (answerer_of p)) (sym e) tt

is_none : (o : Option AnswerEntry) → IsShut (answerer_of o) → o ≡ None
is_none None i = refl
is_none (Some a) i = absurd (by (numbers a.taken) a.returned a.finished i)
  where
    by : (got : Ids) (r : Option (List ExportId)) (b : Bool) → IsShut (answered_by got r b) → ⊥
    by got None false i = i
    by got None true i = i
    by got (Some gave) false i = i
    by got (Some gave) true i = i

was_sent : (gave : Ids) (f : Finishing) (r : Option Returned) → IsGivenUp (asked_by gave f r) → IsNotSent f → ⊥
was_sent gave finishing.Owed None i n = i
was_sent gave finishing.Owed (Some said) i n = i
was_sent gave finishing.Sent None i n = n
was_sent gave finishing.Sent (Some said) i n = n
was_sent gave finishing.Waived r i n = i

-- ---- Links

behind : (xs ys zs : List (Ret Ids Ids)) → (HasMore ys → HasMore zs) → HasMore (xs ++ ys) → HasMore (xs ++ zs)
behind [] ys zs f h = f h
behind (x ∷ xs) ys zs f h = tt

more : (q : ℕ) (xs ys : List Noted) → HasMore (rets q xs) → HasMore (rets q (xs ++ ys))
more q [] ys h = absurd h
more q (n ∷ xs) ys h = behind (ret_of q n.message n.lets) (rets q xs) (rets q (xs ++ ys)) (more q xs ys) h

one_more : (xs ys : List (Ret Ids Ids)) → HasMore ys → HasMore (xs ++ ys)
one_more [] ys h = h
one_more (x ∷ xs) ys h = tt

has_one : {X : Type 0} (b : Bool) (x : X) → b ≡ true → HasMore (only b x)
has_one true x e = tt
has_one false x e = cc

first : (xs ys : List (Ret Ids Ids)) → HasMore xs → HasMore (xs ++ ys)
first [] ys i = absurd i
first (x ∷ xs) ys i = tt

rest_is : (xs ys : List (Out Ids Ids)) → xs ++ ys ≡ [] → ys ≡ []
rest_is [] ys e = e
rest_is (x ∷ xs) ys e = cc

-- Canceled Returns on their way, of answers that are closed, find them closed still.
module _ (answers later : Map AnswerEntry) (all : List Noted) (f : (q : ℕ) → map.get answers q ≡ None → HasMore (rets q all) → map.get later q ≡ None) where
  still_one : (m : PlainMessage) (lets : Ids) → ((q : ℕ) → HasMore (ret_of q m lets) → HasMore (rets q all)) → IsClosed answers m → IsClosed later m
  still_one (plain.Abort exception) lets g h = tt
  still_one (plain.Bootstrap q) lets g h = tt
  still_one (plain.Call c) lets g h = tt
  still_one (plain.Return r) lets g h = if_canceled _ _ r.body (λ e. f r.answer.0 e (g r.answer.0 (has_one _ _ (itself r.answer.0)))) h
  still_one (plain.Finish x) lets g h = tt
  still_one (plain.Resolve r) lets g h = tt
  still_one (plain.Release r) lets g h = tt
  still_one (plain.Disembargo d) lets g h = tt
  still_one (plain.Other n) lets g h = tt

  still : (ns : List Noted) → ((q : ℕ) → HasMore (rets q ns) → HasMore (rets q all)) → AreClosed answers (messages ns) → AreClosed later (messages ns)
  still [] g h = tt
  still (n ∷ ns) g h = (
    still_one n.message n.lets (λ q i. g q (first (ret_of q n.message n.lets) (rets q ns) i)) h.0,
    still ns (λ q i. g q (one_more (ret_of q n.message n.lets) (rets q ns) i)) h.1,
  )

-- ---- Two vats

pub record Given (s : State) (to_s : List Noted) (t : State) (to_t : List Noted) : Type 0 where
  pub stand : Stand s to_s t to_t
  pub of_s : AreClosed t.answers (messages to_s)
  pub of_t : AreClosed s.answers (messages to_t)

-- The vat s takes a step.
stepped : (s t new : State) (to_s left to_t sent : List Noted) (x : Effects) → Stand s to_s t to_t → Stand new left t (to_t ++ sent) → ((q : ℕ) → outs q to_s ≡ [] → outs q left ≡ []) → AreClosed s.answers (messages to_t) → x.sends ≡ messages sent → AreClosed new.answers x.sends
    → AreClosed new.answers (messages (to_t ++ sent))
stepped s t new to_s left to_t sent x before after less old e now =
    subst (λ (ms : List Message). AreClosed new.answers ms) (sym (messages-append to_t sent))
    (joined new.answers (messages to_t) (messages sent) (still s.answers new.answers to_t closed to_t (λ q i. i) old) (subst (λ (ms : List Message). AreClosed new.answers ms) e now))
  where
    closed : (q : ℕ) → map.get s.answers q ≡ None → HasMore (rets q to_t) → map.get new.answers q ≡ None
    closed q i h =
        let a = given_up _ _ _ _ (before.of_t q) (is_shut (map.get s.answers q) i) h in
        is_none (map.get new.answers q) (stays_shut _ _ _ _ (after.of_t q) a.0 (less q a.1) (more q to_t sent h))

pub given_kept : IsKept Stand → IsKept Given
given_kept k = record {
  turned = λ s t to_s to_t h. record { stand = k.turned s t to_s to_t h.stand; of_s = h.of_t; of_t = h.of_s };
  starts = λ a b. record { stand = k.starts a b; of_s = tt; of_t = tt };
  commands = commands;
  receives = receives;
}
  where
    commands : (s t new : State) (to_s to_t : List Noted) (c : Command) (g : Granted) (x : Effects) → Given s to_s t to_t → refused s c ≡ None → Does s c g x new → StillHolds Given new to_s t to_t x
    commands s t new to_s to_t c g x h f d =
        let z = k.commands s t new to_s to_t c g x h.stand f d in
        (z.0, z.1, record { stand = z.2; of_s = h.of_s; of_t = stepped s t new to_s to_s to_t z.0 x h.stand z.2 (λ q e. e) h.of_t z.1 (does s c g x new d) })

    receives : (s t new : State) (n : Noted) (to_s to_t : List Noted) (x : Effects) → Given s (n ∷ to_s) t to_t → fault_of s (message.Plain n.message) ≡ None → Handles s (message.Plain n.message) x new → StillHolds Given new to_s t to_t x
    receives s t new n to_s to_t x h f d =
        let z = k.receives s t new n to_s to_t x h.stand f d in
        (z.0, z.1, record { stand = z.2; of_s = h.of_s.1; of_t = stepped s t new (n ∷ to_s) to_s to_t z.0 x h.stand z.2 (λ q e. rest_is (out_of q n.message n.lets) (outs q to_s) e) h.of_t z.1 (handles s (message.Plain n.message) x new f d) })

-- ---- The oldest message

module _ (s t : State) (n : Noted) (to_s to_t : List Noted) (k : Given s (n ∷ to_s) t to_t) where
  whole : (x : PlainMessage) → n.message ≡ x → CancelsOnlyGivenUp s x
  whole (plain.Abort exception) e = tt
  whole (plain.Bootstrap q) e = tt
  whole (plain.Call c) e = tt
  whole (plain.Return r) e = by (map.get s.questions r.answer.0) refl
    where
      q : ℕ
      q = r.answer.0

      shut : IfCanceled (map.get t.answers q ≡ None) r.body
      shut = subst (λ (m : PlainMessage). IsClosed t.answers m) e (let a = k.of_s in a.0)

      comes : HasMore (rets q (n ∷ to_s))
      comes = subst (λ (m : PlainMessage). HasMore (ret_of q m n.lets ++ rets q to_s)) (sym e) (first (ret_of q (plain.Return r) n.lets) (rets q to_s) (has_one _ _ (itself q)))

      by : (o : Option Question) → map.get s.questions q ≡ o → IfThere (λ (x : Question). IsNotSent x.finish → IsNotCanceled r.body) o
      by None e = tt
      by (Some x) e = λ i. not (λ c. let row = subst (λ (o : Option Question). Row (asker_of o) (outs q to_t) (answerer_of (map.get t.answers q)) (rets q (n ∷ to_s))) e (k.stand.of_s q) in
          was_sent (numbers x.given) x.finish x.returned (given_up _ _ _ _ row (is_shut (map.get t.answers q) c) comes).0 i) r.body shut
        where
          not : {P : Type 0} → (P → ⊥) → (b : ReturnBody) → IfCanceled P b → IsNotCanceled b
          not f (body.Results payload ds) h = tt
          not f (body.Exception exception) h = tt
          not f body.Canceled h = f h
  whole (plain.Finish x) e = tt
  whole (plain.Resolve r) e = tt
  whole (plain.Release r) e = tt
  whole (plain.Disembargo d) e = tt
  whole (plain.Other n) e = tt

oldest : (s t : State) (to_s to_t : List Noted) (x : PlainMessage) (rest : List Message) → Given s to_s t to_t → message.Plain x ∷ rest ≡ messages to_s → CancelsOnlyGivenUp s x
oldest s t [] to_t x rest k e = absurd (let bad : message.Plain x ∷ rest ≡ [] = e in cc)
oldest s t (n ∷ ns) to_t x rest k e =
    let first : message.Plain x ≡ message.Plain n.message = cc in
    let same : n.message ≡ x = cc in
    whole s t n ns to_t k x same

pub in_world : IsKept Given → (w : World) → HoldsIn Given w → OfOldest (λ s other out rest x. CancelsOnlyGivenUp s x) w
in_world g w h A x rest e = oldest w.a.core w.b.core h.to_a h.to_b x rest h.holds (sym e ∙ h.is_a)
in_world g w h B x rest e = oldest w.b.core w.a.core h.to_b h.to_a x rest (g.turned w.a.core w.b.core h.to_a h.to_b h.holds) (sym e ∙ h.is_b)
