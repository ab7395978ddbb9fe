-- What entries ask, and what the numbers of own calls in a table were asked for: what is put in place, and that it stays
-- so with more entries.
use Rattle.std.proofs.Common.{◌≡◌, ◌⊎◌, inl, inr, ℕ, false, ◌&&◌, nat_eq, Option, None, Some, List, [], ◌∷◌, ◌++◌, map, refl, ◌∙◌}
use Rattle.std.specs.FinMap as map
use Rattle.finite_maps.specs.Tally.{Map}
use Rattle.finite_maps.proofs.Tested.{at_put, at_cut}
use Rattle.rpc_msg.specs.declared.ids.Vat.{Vat}
use Rattle.rpc_msg.specs.declared.ids.RefId.{RefId}
use Rattle.rpc_msg.specs.declared.message.Message.{Message}
use Rattle.rpc_journal.specs.declared.report.Delivery.{Delivery}
use Rattle.rpc_journal.specs.declared.report.Ended.{Ended}
use Rattle.rpc_journal.specs.declared.report.Outcome.{Outcome}
use Rattle.rpc_journal.specs.declared.entry.Origin.{Origin}
use Rattle.rpc_journal.specs.declared.entry.Origin.TheVariants as origin
use Rattle.rpc_journal.specs.declared.entry.JournalEntry.{JournalEntry}
use Rattle.rpc_journal.specs.declared.entry.JournalEntry.TheVariants as entry
use Rattle.rpc_journal.specs.History.{same_vat, or_rest, if_so}
use Rattle.rpc_journal.specs.Sources.{Asking, OfBootstrap, OfCall, asking, asking_one}
use Rattle.rpc_machine.specs.declared.node.Node.{Node}
use Rattle.rpc_machine.specs.declared.calls.Caller.{Caller}
use Rattle.rpc_machine.specs.declared.calls.Caller.TheVariants as caller
use Rattle.rpc_machine.specs.declared.calls.KeptOutcome.{KeptOutcome}
use Rattle.rpc_machine.specs.declared.calls.Value.{Value}
use Rattle.rpc_machine.specs.declared.command.CallCommand.{CallCommand}
use Rattle.rpc_machine.specs.declared.command.Command.{Command}
use Rattle.rpc_machine.specs.declared.command.Command.TheVariants as command
use Rattle.rpc_machine.specs.declared.command.Granted.{Granted}
use Rattle.rpc_machine.specs.declared.command.Granted.TheVariants as granted
use Rattle.rpc_machine.specs.declared.command.Effects.{Effects}
use Rattle.rpc_machine.specs.declared.entries.Role.{Role}
use Rattle.rpc_machine.specs.declared.entries.Role.TheVariants as role
use Rattle.rpc_machine.specs.declared.entries.Question.{Question}
use Rattle.rpc_machine.specs.declared.entries.Returned.{Returned}
use Rattle.rpc_machine.specs.declared.entries.Finishing.TheVariants as finishing
use Rattle.rpc_machine.specs.Progress.{new_refs, outcome_of, caps_of}
use Rattle.rpc_machine.specs.Sweeping.{closed_map}
use Rattle.rpc_machine.specs.Journal.{went_down, effect_entries, born, born_promise, asked_entries, made_entries, advanced_entries, granted_entries}
use Rattle.rpc_machine.specs.Claims.{EndsRoot}
use Rattle.laws_acts.specs.Moments.{Clearing}
use Rattle.laws_runs.proofs.Reading.{still_first}
use Rattle.laws_meanings.specs.Bootstraps.{IsCall, WasAsked, CallerCalled, OutcomeCalled, RoleAsked, QuestionAsked, SaysRoot}
use Rattle.laws_meanings.proofs.Entries.{nothing_before}
use Rattle.laws_meanings.proofs.Made.{new_refs_length}

-- ---- What asks for nothing

module _ (v : Vat) (c : ℕ) where
  none_after : (h es : List JournalEntry) → asking h v c ≡ None → asking es v c ≡ None → asking (h ++ es) v c ≡ None
  none_after h es e f = nothing_before (asking_one v c) h es e ∙ f

  no_sends : (u : Vat) (ms : List Message) → asking (map (entry.Sent u) ms) v c ≡ None
  no_sends u [] = refl
  no_sends u (m ∷ ms) = no_sends u ms

  no_deliveries : (u : Vat) (ds : List Delivery) → asking (map (entry.Delivered u) ds) v c ≡ None
  no_deliveries u [] = refl
  no_deliveries u (d ∷ ds) = no_deliveries u ds

  no_ends : (u : Vat) (xs : List Ended) → asking (map (entry.Ended u) xs) v c ≡ None
  no_ends u [] = refl
  no_ends u (x ∷ xs) = no_ends u xs

  none_down : (u : Vat) (o : Option ℕ) → asking (went_down u o) v c ≡ None
  none_down u None = refl
  none_down u (Some n) = refl

  pub no_effects : (u : Vat) (x : Effects) → asking (effect_entries u x) v c ≡ None
  no_effects u x =
      let ms = map (entry.Sent u) x.sends in
      let ds = map (entry.Delivered u) x.deliveries in
      let es = map (entry.Ended u) x.answers in
      none_after (ms ++ ds ++ es) (went_down u x.down) (none_after (ms ++ ds) es (none_after ms ds (no_sends u x.sends) (no_deliveries u x.deliveries)) (no_ends u x.answers)) (none_down u x.down)

  -- Another vat's commands.
  module _ (u : Vat) (f : same_vat v u ≡ false) where
    born_none : (o : Origin) (g : Granted) → asking (born u o g) v c ≡ None
    born_none o (granted.Reference r) = refl
    born_none o g = refl

    promise_none : (g : Granted) → asking (born_promise u g) v c ≡ None
    promise_none (granted.Promise p r) = refl
    promise_none g = refl

    not_mine : (a : Asking) (n : ℕ) → or_rest (if_so (same_vat v u && nat_eq c n) a) None ≡ None
    not_mine a n = rw f refl

    asked_none : (g : Granted) → asking (asked_entries u g) v c ≡ None
    asked_none (granted.Call k) = not_mine OfBootstrap k.0
    asked_none g = refl

    call_none : (h : List JournalEntry) (k : CallCommand) (g : Granted) → asking (made_entries h u k g) v c ≡ None
    call_none h k (granted.Call id) = not_mine _ id.0
    call_none h k g = refl

    advanced_none : (r : RefId) (g : Granted) → asking (advanced_entries u r g) v c ≡ None
    advanced_none r (granted.Advanced a) = refl
    advanced_none r g = refl

    pub other_none : (h : List JournalEntry) (d : Command) (g : Granted) → asking (granted_entries h u d g) v c ≡ None
    other_none h (command.Host o) g = born_none (origin.Object o) g
    other_none h (command.CloneRef r) g = born_none (origin.Clone r) g
    other_none h (command.DropRef r) g = refl
    other_none h command.Bootstrap g = asked_none g
    other_none h (command.Call k) g = call_none h k g
    other_none h (command.Field k path) g = born_none (origin.Field k path) g
    other_none h command.Promise g = promise_none g
    other_none h (command.Resolve p r) g = refl
    other_none h (command.Reject p why) g = refl
    other_none h (command.Answer t payload refs) g = refl
    other_none h (command.Fail t why) g = refl
    other_none h (command.Finish k) g = refl
    other_none h (command.Advance r) g = advanced_none r g
    other_none h (command.Shut n) g = refl

-- ---- What is put in place

module _ (v : Vat) (h : List JournalEntry) where
  abbrev pub OutcomesCalled : Map KeptOutcome → Type 0
  OutcomesCalled m = (k : ℕ) → OutcomeCalled v h (map.get m k)

  abbrev pub QuestionsAsked : Map Question → Type 0
  QuestionsAsked m = (q : ℕ) → QuestionAsked v h (map.get m q)

  abbrev pub ClearingCalled : Option Clearing → Type 0
  ClearingCalled None = Unit {0}
  ClearingCalled (Some x) = CallerCalled v h x.caller

  pub puts_outcome : (m : Map KeptOutcome) (k : ℕ) (x : KeptOutcome) → CallerCalled v h x.caller → OutcomesCalled m → OutcomesCalled (map.insert m k x)
  puts_outcome m k x f a = at_put (λ j o. OutcomeCalled v h o) m k x f (λ j e. a j)

  pub cuts_outcome : (m : Map KeptOutcome) (k : ℕ) → OutcomesCalled m → OutcomesCalled (map.remove m k)
  cuts_outcome m k a = at_cut (λ j o. OutcomeCalled v h o) m k tt (λ j e. a j)

  pub puts_question : (m : Map Question) (k : ℕ) (x : Question) → RoleAsked v h x.role → QuestionsAsked m → QuestionsAsked (map.insert m k x)
  puts_question m k x f a = at_put (λ j o. QuestionAsked v h o) m k x f (λ j e. a j)

  pub cuts_question : (m : Map Question) (k : ℕ) → QuestionsAsked m → QuestionsAsked (map.remove m k)
  cuts_question m k a = at_cut (λ j o. QuestionAsked v h o) m k tt (λ j e. a j)

  pub closes_question : (m : Map Question) (k : ℕ) (x : Question) (r : Option Returned) → RoleAsked v h x.role → QuestionsAsked m → QuestionsAsked (closed_map m k x r)
  closes_question m k x None f a = puts_question m k (record x { finish = finishing.Sent }) f a
  closes_question m k x (Some said) f a = cuts_question m k a

  pub called_asked : (c : ℕ) → IsCall v h c → WasAsked v h c
  called_asked c f = (OfCall f.0, f.1)

  -- ---- Who is told what, and what ends how: it was asked, and is of a call, or as is asked of a Bootstrap

  module _ (S : Value → Type 0) (E : Outcome → List RefId → Type 0) where
    abbrev pub ToldSo : Caller → Value → Type 0
    ToldSo (caller.Application c) x = WasAsked v h c.0 × (IsCall v h c.0 ⊎ S x)
    ToldSo (caller.Peer q) x = Unit {0}

    abbrev pub AllToldSo : List (Caller × Value) → Type 0
    AllToldSo [] = Unit {0}
    AllToldSo (x ∷ xs) = ToldSo x.0 x.1 × AllToldSo xs

    abbrev pub EndSo : Ended → Type 0
    EndSo x = WasAsked v h x.call.0 × (IsCall v h x.call.0 ⊎ E x.outcome x.refs)

    abbrev pub AllEndSo : List Ended → Type 0
    AllEndSo [] = Unit {0}
    AllEndSo (x ∷ xs) = EndSo x × AllEndSo xs

    pub ends-append : (xs ys : List Ended) → AllEndSo xs → AllEndSo ys → AllEndSo (xs ++ ys)
    ends-append [] ys a b = b
    ends-append (x ∷ xs) ys a b = (a.0, ends-append xs ys a.1 b)

    pub told_call : (c : Caller) (x : Value) → CallerCalled v h c → ToldSo c x
    told_call (caller.Application c) x f = (called_asked c.0 f, inl f)
    told_call (caller.Peer q) x f = tt

-- What says so ends so.
no_refs : (k : ℕ) (ns : List Node) → ns ≡ [] → new_refs k ns ≡ []
no_refs k ns e = rw e refl

pub says_ends : (r : Option ℕ) (x : Value) (k : ℕ) → SaysRoot r x → EndsRoot r (outcome_of x) (new_refs k (caps_of x))
says_ends (Some o) x k f = (f.0, new_refs_length k (caps_of x) ∙ f.1)
says_ends None x k f = (f.0, no_refs k (caps_of x) f.1)

-- ---- More entries

module _ (v : Vat) (h es : List JournalEntry) where
  pub still_call : (c : ℕ) → IsCall v h c → IsCall v (h ++ es) c
  still_call c f = (f.0, still_first (asking_one v c) h es _ f.1)

  pub still_asked : (c : ℕ) → WasAsked v h c → WasAsked v (h ++ es) c
  still_asked c f = (f.0, still_first (asking_one v c) h es f.0 f.1)

  still_caller : (c : Caller) → CallerCalled v h c → CallerCalled v (h ++ es) c
  still_caller (caller.Application c) f = still_call c.0 f
  still_caller (caller.Peer q) f = tt

  still_outcome : (o : Option KeptOutcome) → OutcomeCalled v h o → OutcomeCalled v (h ++ es) o
  still_outcome None f = tt
  still_outcome (Some x) f = still_caller x.caller f

  still_role : (r : Role) → RoleAsked v h r → RoleAsked v (h ++ es) r
  still_role (role.Direct c) f = still_asked c.0 f
  still_role (role.Relay o) f = tt

  still_question : (o : Option Question) → QuestionAsked v h o → QuestionAsked v (h ++ es) o
  still_question None f = tt
  still_question (Some x) f = still_role x.role f

  pub still_outcomes : (m : Map KeptOutcome) → OutcomesCalled v h m → OutcomesCalled v (h ++ es) m
  still_outcomes m f k = still_outcome (map.get m k) (f k)

  pub still_questions : (m : Map Question) → QuestionsAsked v h m → QuestionsAsked v (h ++ es) m
  still_questions m f q = still_question (map.get m q) (f q)

  module _ (S : Value → Type 0) (E : Outcome → List RefId → Type 0) where
    still_end : (x : Ended) → EndSo v h S E x → EndSo v (h ++ es) S E x
    still_end x (a, inl f) = (still_asked x.call.0 a, inl (still_call x.call.0 f))
    still_end x (a, inr f) = (still_asked x.call.0 a, inr f)

    pub still_ends : (xs : List Ended) → AllEndSo v h S E xs → AllEndSo v (h ++ es) S E xs
    still_ends [] f = tt
    still_ends (x ∷ xs) f = (still_end x f.0, still_ends xs f.1)
