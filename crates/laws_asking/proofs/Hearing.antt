-- An adapter keeps as refused no question that is finished. So a question that is asked in turn finds its id free.
use Rattle.std.proofs.Common.{◌≡◌, ℕ, ◌≤◌, arith, true, false, [], ◌∷◌, ◌++◌, Some, None, Result, Ok, Err, nat_eq, refl, sym, ap, subst, ◌∙◌}
use Rattle.std.specs.Prelude.{Option, Bool, ◌||◌, cond, nat_le, List, IfOk, is_some}
use Rattle.std.specs.Ordering.{nat_cmp}
use Rattle.std.specs.FinMap as finite
use Rattle.finite_maps.proofs.Tested.{at_put, at_cut, itself, equal}
use Rattle.rpc_msg.specs.declared.ids.QuestionId.{QuestionId}
use Rattle.rpc_msg.specs.declared.ids.ExportId.{ExportId}
use Rattle.rpc_msg.specs.declared.message.Finish.{Finish}
use Rattle.rpc_msg.specs.declared.message.PlainMessage.{PlainMessage}
use Rattle.rpc_msg.specs.declared.message.PlainMessage.TheVariants as plain
use Rattle.rpc_msg.specs.declared.message.Message.{Message}
use Rattle.rpc_msg.specs.declared.message.Message.TheVariants as message
use Rattle.rpc_codec.specs.Envelopes.{What, profile, tail_call, sent_elsewhere, taken_from_other, strange}
use Rattle.peer_overload.specs.declared.errors.OverloadFault.{OverloadFault}
use Rattle.peer_overload.specs.declared.errors.OverloadFault.TheVariants.{QuestionInUse, TooManyRefused}
use Rattle.peer_overload.specs.declared.refusals.Refusal.{Refusal}
use Rattle.peer_overload.specs.declared.refusals.Refusal.TheVariants as refusal
use Rattle.peer_overload.specs.Overloading.{Overloading, Outcome, admitted, refused, refused_tail, nothing, is_refused}
use Rattle.peer_overload.specs.Overloading as overload
use Rattle.peer_kinds.specs.Kinds as kinds
use Rattle.peer_finishes.specs.declared.questions.Awaited.{Awaited}
use Rattle.peer_finishes.specs.declared.questions.Awaited.TheVariants as awaited
use Rattle.peer_finishes.specs.Finishing as finishes
use Rattle.peer_adapter.specs.declared.errors.PeerFault.{PeerFault}
use Rattle.peer_adapter.specs.declared.errors.PeerFault.TheVariants as fault
use Rattle.peer_adapter.specs.Peering.{Coming, Peering, Tables, admits, admits_by, comes, finished_by, goes, goes_by, hears, kinds_by}
use Rattle.laws_asking.specs.Turns.{Asks, Ends, Turns, TurnsPlain, TurnsAll}
use Rattle.laws_asking.specs.Heard.{HeardBy, NoneYet, Hears, Goes, Sets, NoneIsAFault}
use Rattle.laws_asking.proofs.Among.{in_two}
use Rattle.laws_asking.proofs.Bounded.{InTwo, everywhere}
use Rattle.laws_asking.proofs.Stepping.{turned}

-- ---- What an envelope comes to, by what it is for refusals

abbrev IsProfile : What → Type 0
IsProfile (profile m) = Unit {0}
IsProfile (tail_call c) = ⊥
IsProfile (sent_elsewhere x) = ⊥
IsProfile (taken_from_other x) = ⊥
IsProfile (strange n original) = ⊥

-- It is as it says there; a fault is one of a question that is to be refused.
abbrev Follows : Result overload.Coming OverloadFault → Result Coming PeerFault → Type 0
Follows (Ok o) (Ok c) = c.state.overload ≡ o.state
Follows (Ok o) (Err f) = ⊥
Follows (Err g) (Ok c) = ⊥
Follows (Err g) (Err f) = f ≡ fault.Overload g

abbrev Stays : Overloading → Result Coming PeerFault → Type 0
Stays o (Ok c) = c.state.overload ≡ o
Stays o (Err f) = ⊥

module _ (t : Tables) (s : Peering) where
  named : (v : What) → IsProfile v → Stays s.overload (kinds_by t s (kinds.heard v))
  named (profile m) is = refl
  named (tail_call c) is = absurd is
  named (sent_elsewhere x) is = absurd is
  named (taken_from_other x) is = absurd is
  named (strange n original) is = absurd is

  abbrev IsHeard : kinds.Outcome → Type 0
  IsHeard (kinds.heard v) = IsProfile v
  IsHeard (kinds.set_aside given) = Unit {0}

  by_kinds : (o : kinds.Outcome) → IsHeard o → Stays s.overload (kinds_by t s o)
  by_kinds (kinds.heard v) is = named v is
  by_kinds (kinds.set_aside given) is = refl

  aside : (b : Bool) (given : Option ExportId) (v : What) → IsProfile v → IsHeard (cond b (kinds.set_aside given) (kinds.heard v))
  aside true given v is = tt
  aside false given v is = is

  is_heard : (m : Message) → IsHeard (kinds.comes t.standing (profile m))
  is_heard (message.Plain (plain.Resolve r)) = aside (kinds.is_hosted (t.standing r.promise)) (kinds.given_to r.to) (kinds.in_first_kinds t.standing (profile (message.Plain (plain.Resolve r)))) tt
  is_heard (message.Plain (plain.Abort x)) = tt
  is_heard (message.Plain (plain.Bootstrap p)) = tt
  is_heard (message.Plain (plain.Call c)) = tt
  is_heard (message.Plain (plain.Return r)) = tt
  is_heard (message.Plain (plain.Finish f)) = tt
  is_heard (message.Plain (plain.Release r)) = tt
  is_heard (message.Plain (plain.Disembargo d)) = tt
  is_heard (message.Plain (plain.Other n)) = tt
  is_heard (message.Unimplemented m) = tt

  abbrev IsAdmitted : Outcome → Type 0
  IsAdmitted (admitted v) = IsProfile v
  IsAdmitted (refused q) = Unit {0}
  IsAdmitted (refused_tail q) = Unit {0}
  IsAdmitted nothing = Unit {0}

  admits_profile : (v : What) → IsProfile v → Stays s.overload (admits t s (admitted v))
  admits_profile (profile m) is = by_kinds (kinds.comes t.standing (profile m)) (is_heard m)
  admits_profile (tail_call c) is = absurd is
  admits_profile (sent_elsewhere x) is = absurd is
  admits_profile (taken_from_other x) is = absurd is
  admits_profile (strange n original) is = absurd is

  by_outcome : (o : Outcome) → IsAdmitted o → Stays s.overload (admits t s o)
  by_outcome (admitted v) is = admits_profile v is
  by_outcome (refused q) is = refl
  by_outcome (refused_tail q) is = refl
  by_outcome nothing is = refl

follows_ok : (o : overload.Coming) (r : Result Coming PeerFault) → Stays o.state r → Follows (Ok o) r
follows_ok o (Ok c) h = h
follows_ok o (Err f) h = absurd h

by_result : (t : Tables) (s : Peering) (r : Result overload.Coming OverloadFault) → IfOk r (λ (c : overload.Coming). IsAdmitted t s c.outcome) → Follows r (admits_by t s r)
by_result t s (Ok c) is = follows_ok c (admits t (record s { overload = c.state }) c.outcome) (by_outcome t (record s { overload = c.state }) c.outcome is)
by_result t s (Err g) is = refl

finished_follows : (o : Option Finish) (r : Result overload.Coming OverloadFault) (c : Result Coming PeerFault) → Follows r c → Follows r (finished_by o c)
finished_follows o (Ok a) (Ok c) h = h
finished_follows o (Ok a) (Err f) h = h
finished_follows o (Err g) (Ok c) h = h
finished_follows o (Err g) (Err f) h = h

-- ---- Refusals

module _ (t : Tables) (p : Peering) (s : Overloading) where
  asked_profile : (v : What) (q : QuestionId) (r : Refusal) (in_use over full : Bool) → IsProfile v
      → IfOk (cond in_use (Err QuestionInUse) (cond over (cond full (Err TooManyRefused) (Ok (record { state = overload.with_refusal s q r; outcome = overload.told q r }))) (Ok (overload.admits s v)))) (λ (c : overload.Coming). IsAdmitted t p c.outcome)
  asked_profile v q r true over full is = tt
  asked_profile v q r false true true is = tt
  asked_profile v q refusal.Plain false true false is = tt
  asked_profile v q refusal.Tail false true false is = tt
  asked_profile v q refusal.TakenTail false true false is = tt
  asked_profile v q r false false full is = is

  finish_profile : (f : Finish) (b : Bool) → IsAdmitted t p (overload.finishes s f b).outcome
  finish_profile f true = tt
  finish_profile f false = tt

  is_admitted : (full : Bool) (m : Message) → IfOk (overload.comes s full (profile m)) (λ (c : overload.Coming). IsAdmitted t p c.outcome)
  is_admitted full (message.Plain (plain.Bootstrap q)) = asked_profile (profile (message.Plain (plain.Bootstrap q))) q refusal.Plain (is_refused s q) full (nat_le 65536 (finite.len s)) tt
  is_admitted full (message.Plain (plain.Call c)) =
      asked_profile (profile (message.Plain (plain.Call (overload.cleared_call s c)))) c.question refusal.Plain (is_refused s c.question) (full || overload.goes_to_refused s c.target) (nat_le 65536 (finite.len s)) tt
  is_admitted full (message.Plain (plain.Finish f)) = finish_profile f (is_refused s f.question)
  is_admitted full (message.Plain (plain.Return r)) = tt
  is_admitted full (message.Plain (plain.Resolve r)) = tt
  is_admitted full (message.Plain (plain.Abort x)) = tt
  is_admitted full (message.Plain (plain.Release r)) = tt
  is_admitted full (message.Plain (plain.Disembargo d)) = tt
  is_admitted full (message.Plain (plain.Other n)) = tt
  is_admitted full (message.Unimplemented m) = tt

follows : (t : Tables) (s : Peering) (m : Message) → Follows (overload.comes s.overload t.is_full (profile m)) (comes t s (profile m))
follows t s m =
    let then : Peering = record s { finishes = (finishes.comes s.finishes (profile m)).state } in
    finished_follows (finishes.comes s.finishes (profile m)).told (overload.comes s.overload t.is_full (profile m)) (hears t then (profile m))
    (by_result t then (overload.comes s.overload t.is_full (profile m)) (is_admitted t then s.overload t.is_full m))

-- Each refused question is unfinished.
abbrev Agrees : Overloading → (ℕ → Bool) → Type 0
Agrees s b = (q : ℕ) → is_some (finite.get s q) ≡ true → b q ≡ true

-- So they are then; or there is no place for one more.
abbrev AgreesThen : Overloading → (ℕ → Bool) → Result overload.Coming OverloadFault → Type 0
AgreesThen s c (Ok o) = Agrees o.state c
AgreesThen s c (Err f) = nat_le 65536 (finite.len s) ≡ true

module _ (s : Overloading) (b c : ℕ → Bool) (agrees : Agrees s b) where
  -- nothing of it changes
  same : ((q : ℕ) → c q ≡ b q) → Agrees s c
  same e q h = e q ∙ agrees q h

  asks_more : (k : ℕ) (x : Refusal) → ((q : ℕ) → Asks (nat_eq q k) (b q) (c q)) → Agrees (finite.insert s k x) c
  asks_more k x turn = at_put (λ j z. is_some z ≡ true → c j ≡ true) s k x (λ h. here (nat_eq k k) (itself k) (turn k)) (λ j e h. others j (nat_eq j k) e (turn j) (agrees j h))
    where
      here : (d : Bool) → d ≡ true → Asks d (b k) (c k) → c k ≡ true
      here true e h = h.1
      here false e h = absurd (let bad : false ≡ true = e in cc)

      others : (j : ℕ) (d : Bool) → d ≡ false → Asks d (b j) (c j) → b j ≡ true → c j ≡ true
      others j true e h k = absurd (let bad : true ≡ false = e in cc)
      others j false e h k = h ∙ k

  asks_still : (k : ℕ) → ((q : ℕ) → Asks (nat_eq q k) (b q) (c q)) → Agrees s c
  asks_still k turn q h = by (nat_eq q k) (turn q)
    where
      by : (d : Bool) → Asks d (b q) (c q) → c q ≡ true
      by true a = a.1
      by false a = a ∙ agrees q h

  -- The id of a question that is asked is free.
  is_free : (k : ℕ) → ((q : ℕ) → Asks (nat_eq q k) (b q) (c q)) → is_some (finite.get s k) ≡ true → ⊥
  is_free k turn h = by (nat_eq k k) (itself k) (turn k)
    where
      by : (d : Bool) → d ≡ true → Asks d (b k) (c k) → ⊥
      by true e a = let bad : true ≡ false = sym (agrees k h) ∙ a.0 in cc
      by false e a = let bad : false ≡ true = e in cc

  asks : (v : What) (q : QuestionId) (in_use over full : Bool) → is_some (finite.get s q.0) ≡ in_use → nat_le 65536 (finite.len s) ≡ full → ((j : ℕ) → Asks (nat_eq j q.0) (b j) (c j))
      → AgreesThen s c (cond in_use (Err QuestionInUse) (cond over (cond full (Err TooManyRefused) (Ok (record { state = overload.with_refusal s q refusal.Plain; outcome = overload.told q refusal.Plain }))) (Ok (overload.admits s v))))
  asks v q true over full e f turn = absurd (is_free q.0 turn e)
  asks v q false true true e f turn = f
  asks v q false true false e f turn = asks_more q.0 refusal.Plain turn
  asks v q false false full e f turn = asks_still q.0 turn

  ends : (f : Finish) (d : Bool) → is_some (finite.get s f.question.0) ≡ d → ((q : ℕ) → Ends (nat_eq q f.question.0) (b q) (c q)) → Agrees (overload.finishes s f d).state c
  ends f true e turn =
      at_cut (λ j z. is_some z ≡ true → c j ≡ true) s f.question.0 (λ h. absurd (let bad : false ≡ true = h in cc))
      (λ j g h. others j (nat_eq j f.question.0) g (turn j) (agrees j h))
    where
      others : (j : ℕ) (d : Bool) → d ≡ false → Ends d (b j) (c j) → b j ≡ true → c j ≡ true
      others j true e h k = absurd (let bad : true ≡ false = e in cc)
      others j false e h k = h ∙ k
  ends f false e turn = λ q h. by q h (nat_eq q f.question.0) refl (turn q)
    where
      by : (q : ℕ) → is_some (finite.get s q) ≡ true → (d : Bool) → nat_eq q f.question.0 ≡ d → Ends d (b q) (c q) → c q ≡ true
      by q h true g a = absurd (let bad : false ≡ true = sym e ∙ ap (λ (j : ℕ). is_some (finite.get s j)) (sym (equal q f.question.0 g)) ∙ h in cc)
      by q h false g a = a ∙ agrees q h

  plain_next : (full : Bool) (m : PlainMessage) → ((q : ℕ) → TurnsPlain q (b q) m (c q)) → AgreesThen s c (overload.comes s full (profile (message.Plain m)))
  plain_next full (plain.Bootstrap q) turn = asks (profile (message.Plain (plain.Bootstrap q))) q (is_refused s q) full (nat_le 65536 (finite.len s)) refl refl turn
  plain_next full (plain.Call x) turn = asks (profile (message.Plain (plain.Call (overload.cleared_call s x)))) x.question (is_refused s x.question) (full || overload.goes_to_refused s x.target) (nat_le 65536 (finite.len s)) refl refl turn
  plain_next full (plain.Finish f) turn = ends f (is_refused s f.question) refl turn
  plain_next full (plain.Return r) turn = same turn
  plain_next full (plain.Resolve r) turn = same turn
  plain_next full (plain.Abort x) turn = same turn
  plain_next full (plain.Release r) turn = same turn
  plain_next full (plain.Disembargo d) turn = same turn
  plain_next full (plain.Other n) turn = same turn

  next : (full : Bool) (m : Message) → ((q : ℕ) → Turns q (b q) m (c q)) → AgreesThen s c (overload.comes s full (profile m))
  next full (message.Plain m) turn = plain_next full m turn
  next full (message.Unimplemented m) turn = same turn

-- ---- Conversations

-- the messages up to one, and that one
split : (q : ℕ) (b c : Bool) (xs ys : List Message) → TurnsAll q b (xs ++ ys) c → (mid : Bool) × TurnsAll q b xs mid × TurnsAll q mid ys c
split q b c [] ys h = (b, refl, h)
split q b c (m ∷ xs) ys h = let k = split q h.0 c xs ys h.2 in (k.0, (h.0, h.1, k.1), k.2)

abbrev AllTurn : List Message → (ℕ → Bool) → Type 0
AllTurn ms b = (q : ℕ) → TurnsAll q false ms (b q)

next_of : (s : Overloading) (r : Result overload.Coming OverloadFault) (x : Result Coming PeerFault) (c : Coming) (b : ℕ → Bool) → x ≡ Ok c → Follows r x → AgreesThen s b r → Agrees c.state.overload b
next_of s (Ok o) (Ok d) c b e f h = let same : d ≡ c = cc in subst (λ (k : Coming). Agrees k.state.overload b) same (subst (λ (k : Overloading). Agrees k b) (sym f) h)
next_of s (Ok o) (Err g) c b e f h = absurd f
next_of s (Err g) (Ok d) c b e f h = absurd f
next_of s (Err g) (Err d) c b e f h = absurd (let bad : ◌≡◌ {A = Result Coming PeerFault} (Err d) (Ok c) = e in cc)

went_same : (p : Peering) (m : Message) → (goes p m).state.overload ≡ p.overload
went_same p (message.Plain (plain.Finish f)) = by (finite.get p.finishes.awaited f.question.0)
  where
    by : (o : Option Awaited) → (goes_by p (finishes.finishes p.finishes f o)).state.overload ≡ p.overload
    by None = refl
    by (Some awaited.Asked) = refl
    by (Some (awaited.Finished flag)) = refl
went_same p (message.Plain (plain.Abort x)) = refl
went_same p (message.Plain (plain.Bootstrap q)) = refl
went_same p (message.Plain (plain.Call c)) = refl
went_same p (message.Plain (plain.Return r)) = refl
went_same p (message.Plain (plain.Resolve r)) = refl
went_same p (message.Plain (plain.Release r)) = refl
went_same p (message.Plain (plain.Disembargo d)) = refl
went_same p (message.Plain (plain.Other n)) = refl
went_same p (message.Unimplemented m) = refl

agrees_when_heard : (p : Peering) (ms : List Message) → HeardBy p ms → (b : ℕ → Bool) → AllTurn ms b → Agrees p.overload b
agrees_when_heard _ _ NoneYet b turn = λ q h. absurd (let e = sym (ap is_some (finite.get-empty nat_cmp q)) ∙ h in let bad : false ≡ true = e in cc)
agrees_when_heard _ _ (Hears {p = p} {ms = ms} t m c before is) b turn =
    let mid : ℕ → Bool = λ q. (split q false (b q) ms (m ∷ []) (turn q)).0 in
    next_of p.overload (overload.comes p.overload t.is_full (profile m)) (comes t p (profile m)) c b is (follows t p m)
    (next p.overload mid b (agrees_when_heard p ms before mid (λ q. (split q false (b q) ms (m ∷ []) (turn q)).1)) t.is_full m
    (λ q. let k = (split q false (b q) ms (m ∷ []) (turn q)).2 in subst (λ (a : Bool). Turns q (mid q) m a) (sym k.2) k.1))
agrees_when_heard _ ms (Goes {p = p} m before) b turn = subst (λ (k : Overloading). Agrees k b) (sym (went_same p m)) (agrees_when_heard p ms before b turn)
agrees_when_heard _ ms (Sets {p = p} f before) b turn = agrees_when_heard p ms before b turn

is_full : (s : Overloading) (r : Result overload.Coming OverloadFault) (x : Result Coming PeerFault) (f : PeerFault) (b : ℕ → Bool) → x ≡ Err f → Follows r x → AgreesThen s b r → nat_le 65536 (finite.len s) ≡ true
is_full s (Ok o) (Ok d) f b e g h = absurd (let bad : ◌≡◌ {A = Result Coming PeerFault} (Ok d) (Err f) = e in cc)
is_full s (Ok o) (Err d) f b e g h = absurd g
is_full s (Err k) (Ok d) f b e g h = absurd g
is_full s (Err k) (Err d) f b e g h = h

-- Two tables hold fewer.
has_place : (n : ℕ) → n ≤ 8192 → nat_le 65536 n ≡ true → ⊥
has_place n h e = grind (arith)

pub none_is_a_fault : NoneIsAFault
none_is_a_fault s said before after m p t f says is heard err =
    let all = λ (q : ℕ). turned s said says q in
    let parts = λ (q : ℕ). split q false (all q).0 before (m ∷ after) (subst (λ (ms : List Message). TurnsAll q false ms (all q).0) is (all q).1) in
    let mid : ℕ → Bool = λ q. (parts q).0 in
    let next_one : ℕ → Bool = λ q. (parts q).2.0 in
    let agrees : Agrees p.overload mid = agrees_when_heard p before heard mid (λ q. (parts q).1) in
    let full = is_full p.overload (overload.comes p.overload t.is_full (profile m)) (comes t p (profile m)) f next_one err (follows t p m) (next p.overload mid next_one agrees t.is_full m (λ q. (parts q).2.1)) in
    let two : InTwo mid = everywhere s said says before (m ∷ after) is mid (λ q. (parts q).1) in
    let few = in_two p.overload two.first two.second (λ q h. two.there q (agrees q h)) in
    let small = two.small in
    has_place (finite.len p.overload) (omega (arith, few, small)) full
