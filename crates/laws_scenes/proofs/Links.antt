-- What links hold, read as the sessions of questions do.
use Rattle.std.proofs.Common.{◌≡◌, ◌⊎◌, inl, inr, sym, ℕ, Bool, nat_eq, true, false, List, [], ◌∷◌, ◌++◌, refl, ◌∙◌}
use Rattle.finite_maps.proofs.Tested.{sides}
use Rattle.rpc_msg.specs.declared.message.Message.{Message}
use Rattle.rpc_msg.specs.declared.message.Message.TheVariants as message
use Rattle.rpc_msg.specs.declared.message.PlainMessage.{PlainMessage}
use Rattle.rpc_msg.specs.declared.message.PlainMessage.TheVariants as plain
use Rattle.rpc_msg.specs.declared.parts.Descriptor.{Descriptor}
use Rattle.rpc_msg.specs.declared.parts.Descriptor.TheVariants as descriptor
use Rattle.rpc_msg.specs.declared.parts.Target.{Target}
use Rattle.rpc_msg.specs.declared.parts.Target.TheVariants.{ImportedCap, PromisedAnswer}
use Rattle.rpc_msg.specs.Messages.{descriptors_of_plain}
use Rattle.laws_acts.specs.Sent.{Ids, Noted, messages}
use Rattle.laws_runs.specs.Questions.{Answerer, Answered, Fin, NotOpen, Open, Out, Ret, Strange, Unwanted, Working, hear_one}
use Rattle.laws_runs.specs.Names as mark
use Rattle.laws_runs.specs.Names.{Mark, Met, Names, Says}
use Rattle.laws_runs.specs.Views.{only, out_of, outs, ret_of, rets}
use Rattle.laws_messages.specs.Named.{each_marks, marks, says, target_marks, targets_marks}
use Rattle.laws_routes.specs.Named.{EachReturn, ReturnOf}
use Rattle.laws_routes.specs.Premises.{EachOpen, OpenOf}
use Rattle.laws_routes.specs.QuietLaws.{AimsElsewherePlain, EachOff, IsAsked, IsOffAnswer, NoneAims, NoneNames, Unless, opens}

-- ---- What asks

abbrev pub NoneOpens : List (Out Ids Ids) → Type 0
NoneOpens [] = Unit {0}
NoneOpens (Open x ∷ ms) = ⊥
NoneOpens (Fin l ∷ ms) = NoneOpens ms

-- ---- What names an answer that is finished

abbrev NoneNamed : List (Mark Ids Ids) → Type 0
NoneNamed [] = Unit {0}
NoneNamed (Says m ∷ ms) = NoneNamed ms
NoneNamed (Names ∷ ms) = ⊥

-- Nothing may name it.
abbrev pub IsShut : Answerer Ids Ids → Type 0
IsShut NotOpen = ⊥
IsShut (Working x) = ⊥
IsShut (Unwanted x) = Unit {0}
IsShut (Answered y) = ⊥
IsShut Strange = Unit {0}

stays_shut : (u : Answerer Ids Ids) (m : Out Ids Ids) → IsShut u → IsShut (hear_one u m)
stays_shut NotOpen m i = absurd i
stays_shut (Working x) m i = absurd i
stays_shut (Unwanted x) m i = tt
stays_shut (Answered y) m i = absurd i
stays_shut Strange m i = tt

not_here : (u : Answerer Ids Ids) → IsShut u → mark.IsHere u → ⊥
not_here NotOpen i h = h
not_here (Working x) i h = i
not_here (Unwanted x) i h = h
not_here (Answered y) i h = i
not_here Strange i h = h

-- ---- A link

module _ (q : ℕ) where
  none_opens : (k : ℕ) (x : Ids) (rest : List (Out Ids Ids)) (b : Bool) → nat_eq q k ≡ b → NoneOpens (only b (Open x) ++ rest) → (nat_eq k q ≡ false) × NoneOpens rest
  none_opens k x rest true e h = absurd h
  none_opens k x rest false e h = (sides k q ∙ e, h)

  finishes : (l : _) (rest : List (Out Ids Ids)) (b : Bool) → NoneOpens (only b (Fin l) ++ rest) → NoneOpens rest
  finishes l rest true h = h
  finishes l rest false h = h

  opens_other : (m : PlainMessage) (l : Ids) (rest : List (Out Ids Ids)) → NoneOpens (out_of q m l ++ rest) → OpenOf (λ k. nat_eq k q ≡ false) (message.Plain m) × NoneOpens rest
  opens_other (plain.Abort exception) l rest h = (tt, h)
  opens_other (plain.Bootstrap k) l rest h = none_opens k.0 [] rest (nat_eq q k.0) refl h
  opens_other (plain.Call c) l rest h = none_opens c.question.0 _ rest (nat_eq q c.question.0) refl h
  opens_other (plain.Return r) l rest h = (tt, h)
  opens_other (plain.Finish f) l rest h = (tt, finishes _ rest (nat_eq q f.question.0) h)
  opens_other (plain.Resolve r) l rest h = (tt, h)
  opens_other (plain.Release r) l rest h = (tt, h)
  opens_other (plain.Disembargo d) l rest h = (tt, h)
  opens_other (plain.Other n) l rest h = (tt, h)

  pub no_open : (ns : List Noted) → NoneOpens (outs q ns) → EachOpen (λ k. nat_eq k q ≡ false) (messages ns)
  no_open [] h = tt
  no_open (n ∷ ns) h = let a = opens_other n.message n.lets (outs q ns) h in (a.0, no_open ns a.1)

  -- ---- What returns

  none_returns : (k : ℕ) (r : Ret Ids Ids) (rest : List (Ret Ids Ids)) (b : Bool) → nat_eq q k ≡ b → only b r ++ rest ≡ [] → (nat_eq k q ≡ false) × (rest ≡ [])
  none_returns k r rest true e h = cc
  none_returns k r rest false e h = (sides k q ∙ e, h)

  returns_other : (m : PlainMessage) (l : Ids) (rest : List (Ret Ids Ids)) → ret_of q m l ++ rest ≡ [] → ReturnOf (λ k. nat_eq k q ≡ false) m × (rest ≡ [])
  returns_other (plain.Abort exception) l rest h = (tt, h)
  returns_other (plain.Bootstrap k) l rest h = (tt, h)
  returns_other (plain.Call c) l rest h = (tt, h)
  returns_other (plain.Return r) l rest h = none_returns r.answer.0 _ rest (nat_eq q r.answer.0) refl h
  returns_other (plain.Finish f) l rest h = (tt, h)
  returns_other (plain.Resolve r) l rest h = (tt, h)
  returns_other (plain.Release r) l rest h = (tt, h)
  returns_other (plain.Disembargo d) l rest h = (tt, h)
  returns_other (plain.Other n) l rest h = (tt, h)

  pub no_return : (ns : List Noted) → rets q ns ≡ [] → EachReturn (λ k. nat_eq k q ≡ false) (messages ns)
  no_return [] h = tt
  no_return (n ∷ ns) h = let a = returns_other n.message n.lets (rets q ns) h in (a.0, no_return ns a.1)

  -- What is left to be met behind these marks.
  abbrev MetBehind : List (Mark Ids Ids) → Type 0
  MetBehind ms = (u : Answerer Ids Ids) × IsShut u × Met u ms

  none_named : (u : Answerer Ids Ids) (ms rest : List (Mark Ids Ids)) → IsShut u → Met u (ms ++ rest) → NoneNamed ms × MetBehind rest
  none_named u [] rest i h = (tt, (u, i, h))
  none_named u (Says m ∷ ms) rest i h = none_named (hear_one u m) ms rest (stays_shut u m i) h
  none_named u (Names ∷ ms) rest i h = absurd (not_here u i h.0)

  only_other : (k : ℕ) (b : Bool) → nat_eq q k ≡ b → NoneNamed (only b Names) → nat_eq k q ≡ false
  only_other k true e h = absurd h
  only_other k false e h = sides k q ∙ e

  target_off : (t : Target) → NoneNamed (target_marks q t) → IsOffAnswer q t
  target_off (ImportedCap e) h = tt
  target_off (PromisedAnswer k path) h = only_other k.0 (nat_eq q k.0) refl h

  targets_off : (m : PlainMessage) → NoneNamed (targets_marks q m) → AimsElsewherePlain q m
  targets_off (plain.Abort exception) h = tt
  targets_off (plain.Bootstrap k) h = tt
  targets_off (plain.Call c) h = target_off c.target h
  targets_off (plain.Return r) h = tt
  targets_off (plain.Finish f) h = tt
  targets_off (plain.Resolve r) h = tt
  targets_off (plain.Release r) h = tt
  targets_off (plain.Disembargo d) h = target_off d.target h
  targets_off (plain.Other n) h = tt

  each_off : (ds : List Descriptor) → NoneNamed (each_marks q ds) → EachOff q ds
  each_off [] h = tt
  each_off (descriptor.None ∷ ds) h = (tt, each_off ds h)
  each_off (descriptor.SenderHosted e ∷ ds) h = (tt, each_off ds h)
  each_off (descriptor.SenderPromise e ∷ ds) h = (tt, each_off ds h)
  each_off (descriptor.ReceiverHosted e ∷ ds) h = (tt, each_off ds h)
  each_off (descriptor.ReceiverAnswer k path ∷ ds) h = by (each_off ds) (nat_eq q k.0) refl h
    where
      by : (NoneNamed (each_marks q ds) → EachOff q ds) → (b : Bool) → nat_eq q k.0 ≡ b → NoneNamed (only b Names ++ each_marks q ds) → (nat_eq k.0 q ≡ false) × EachOff q ds
      by rest true e h = absurd h
      by rest false e h = (sides k.0 q ∙ e, rest h)

  unless : {P : Type 0} (b : Bool) → P → Unless b P
  unless true p = tt
  unless false p = p

  pub shut : (u : Answerer Ids Ids) (ns : List Noted) → IsShut u → Met u (marks q ns) → NoneAims q (messages ns) × NoneNames q (messages ns)
  shut u [] i h = (tt, tt)
  shut u (n ∷ ns) i h =
      let m = n.message in
      let ds = descriptors_of_plain m in
      let one = none_named u (targets_marks q m) (each_marks q ds ++ (says (out_of q m n.lets) ++ marks q ns)) i h in
      let two = none_named one.1.0 (each_marks q ds) (says (out_of q m n.lets) ++ marks q ns) one.1.1 one.1.2 in
      let three = none_named two.1.0 (says (out_of q m n.lets)) (marks q ns) two.1.1 two.1.2 in
      let rest = shut three.1.0 ns three.1.1 three.1.2 in
      ((targets_off m one.0, unless (opens q (message.Plain m)) rest.0), (each_off ds two.0, unless (opens q (message.Plain m)) rest.1))

each : (m : PlainMessage) → ReturnOf (λ q. Unit {0}) m
each (plain.Abort exception) = tt
each (plain.Bootstrap q) = tt
each (plain.Call c) = tt
each (plain.Return r) = tt
each (plain.Finish x) = tt
each (plain.Resolve r) = tt
each (plain.Release r) = tt
each (plain.Disembargo x) = tt
each (plain.Other n) = tt

pub all_returns : (ms : List Message) → EachReturn (λ q. Unit {0}) ms
all_returns [] = tt
all_returns (message.Plain m ∷ ms) = (each m, all_returns ms)
all_returns (message.Unimplemented m ∷ ms) = all_returns ms

-- ---- What is asked again

abbrev pub HasOpen : List (Out Ids Ids) → Type 0
HasOpen [] = ⊥
HasOpen (Open x ∷ ms) = Unit {0}
HasOpen (Fin l ∷ ms) = HasOpen ms

module _ (q : ℕ) where
  opens_or_later : (x : Ids) (k : ℕ) (rest : List (Out Ids Ids)) (b : Bool) → nat_eq q k ≡ b → HasOpen (only b (Open x) ++ rest) → (nat_eq k q ≡ true) ⊎ HasOpen rest
  opens_or_later x k rest true e h = inl (sides k q ∙ e)
  opens_or_later x k rest false e h = inr h

  finish_or_later : (l : _) (rest : List (Out Ids Ids)) (b : Bool) → HasOpen (only b (Fin l) ++ rest) → HasOpen rest
  finish_or_later l rest true h = h
  finish_or_later l rest false h = h

  asked_or_later : (m : PlainMessage) (l : Ids) (rest : List (Out Ids Ids)) → HasOpen (out_of q m l ++ rest) → (opens q (message.Plain m) ≡ true) ⊎ HasOpen rest
  asked_or_later (plain.Abort exception) l rest h = inr h
  asked_or_later (plain.Bootstrap k) l rest h = opens_or_later [] k.0 rest (nat_eq q k.0) refl h
  asked_or_later (plain.Call c) l rest h = opens_or_later _ c.question.0 rest (nat_eq q c.question.0) refl h
  asked_or_later (plain.Return r) l rest h = inr h
  asked_or_later (plain.Finish f) l rest h = inr (finish_or_later _ rest (nat_eq q f.question.0) h)
  asked_or_later (plain.Resolve r) l rest h = inr h
  asked_or_later (plain.Release r) l rest h = inr h
  asked_or_later (plain.Disembargo d) l rest h = inr h
  asked_or_later (plain.Other n) l rest h = inr h

  pub is_asked : (ns : List Noted) → HasOpen (outs q ns) → IsAsked q (messages ns)
  is_asked [] h = absurd h
  is_asked (n ∷ ns) h = by (is_asked ns) (asked_or_later n.message n.lets (outs q ns) h)
    where
      by : (HasOpen (outs q ns) → IsAsked q (messages ns)) → (opens q (message.Plain n.message) ≡ true) ⊎ HasOpen (outs q ns) → IsAsked q (messages (n ∷ ns))
      by rest (inl e) = inl e
      by rest (inr k) = inr (rest k)

-- ---- What names an answer behind its Finish

abbrev pub IsOut : Answerer Ids Ids → Type 0
IsOut NotOpen = Unit {0}
IsOut (Working x) = ⊥
IsOut (Unwanted x) = Unit {0}
IsOut (Answered y) = ⊥
IsOut Strange = Unit {0}

pub out_behind : (u : Answerer Ids Ids) (l : _) → IsOut (hear_one u (Fin l))
out_behind NotOpen l = tt
out_behind (Working x) l = tt
out_behind (Unwanted x) l = tt
out_behind (Answered y) l = tt
out_behind Strange l = tt

out_not_here : (u : Answerer Ids Ids) → IsOut u → mark.IsHere u → ⊥
out_not_here NotOpen i h = h
out_not_here (Working x) i h = i
out_not_here (Unwanted x) i h = h
out_not_here (Answered y) i h = i
out_not_here Strange i h = h

-- These marks are names alone.
abbrev NamesAlone : List (Mark Ids Ids) → Type 0
NamesAlone [] = Unit {0}
NamesAlone (Says m ∷ ms) = ⊥
NamesAlone (Names ∷ ms) = NamesAlone ms

none_out : (u : Answerer Ids Ids) (ms rest : List (Mark Ids Ids)) → NamesAlone ms → IsOut u → Met u (ms ++ rest) → NoneNamed ms × Met u rest
none_out u [] rest a i h = (tt, h)
none_out u (Says m ∷ ms) rest a i h = absurd a
none_out u (Names ∷ ms) rest a i h = absurd (out_not_here u i h.0)

only_names : (b : Bool) → NamesAlone (only b Names)
only_names true = tt
only_names false = tt

more_names : (b : Bool) (ms : List (Mark Ids Ids)) → NamesAlone ms → NamesAlone (only b Names ++ ms)
more_names true ms h = h
more_names false ms h = h

module _ (q : ℕ) where
  target_names : (t : Target) → NamesAlone (target_marks q t)
  target_names (ImportedCap e) = tt
  target_names (PromisedAnswer k path) = only_names (nat_eq q k.0)

  targets_names : (m : PlainMessage) → NamesAlone (targets_marks q m)
  targets_names (plain.Abort exception) = tt
  targets_names (plain.Bootstrap k) = tt
  targets_names (plain.Call c) = target_names c.target
  targets_names (plain.Return r) = tt
  targets_names (plain.Finish f) = tt
  targets_names (plain.Resolve r) = tt
  targets_names (plain.Release r) = tt
  targets_names (plain.Disembargo d) = target_names d.target
  targets_names (plain.Other n) = tt

  each_names : (ds : List Descriptor) → NamesAlone (each_marks q ds)
  each_names [] = tt
  each_names (descriptor.None ∷ ds) = each_names ds
  each_names (descriptor.SenderHosted e ∷ ds) = each_names ds
  each_names (descriptor.SenderPromise e ∷ ds) = each_names ds
  each_names (descriptor.ReceiverHosted e ∷ ds) = each_names ds
  each_names (descriptor.ReceiverAnswer k path ∷ ds) = more_names (nat_eq q k.0) (each_marks q ds) (each_names ds)

  abbrev OutBehind : List (Mark Ids Ids) → Type 0
  OutBehind ms = (u : Answerer Ids Ids) × IsOut u × Met u ms

  opened_not : (x : Ids) (u : Answerer Ids Ids) (k : ℕ) (rest : List (Mark Ids Ids)) (b : Bool) → nat_eq q k ≡ b → nat_eq k q ≡ false → IsOut u → Met u (says (only b (Open x)) ++ rest) → OutBehind rest
  opened_not x u k rest true e f i h = absurd (let bad : true ≡ false = sym e ∙ (sides q k ∙ f) in cc)
  opened_not x u k rest false e f i h = (u, i, h)

  finished_out : (l : _) (u : Answerer Ids Ids) (rest : List (Mark Ids Ids)) (b : Bool) → IsOut u → Met u (says (only b (Fin l)) ++ rest) → OutBehind rest
  finished_out l u rest true i h = (hear_one u (Fin l), out_behind u l, h)
  finished_out l u rest false i h = (u, i, h)

  out_after : (m : PlainMessage) (l : Ids) (u : Answerer Ids Ids) (rest : List (Mark Ids Ids)) → opens q (message.Plain m) ≡ false → IsOut u → Met u (says (out_of q m l) ++ rest) → OutBehind rest
  out_after (plain.Abort exception) l u rest e i h = (u, i, h)
  out_after (plain.Bootstrap k) l u rest e i h = opened_not [] u k.0 rest (nat_eq q k.0) refl e i h
  out_after (plain.Call c) l u rest e i h = opened_not _ u c.question.0 rest (nat_eq q c.question.0) refl e i h
  out_after (plain.Return r) l u rest e i h = (u, i, h)
  out_after (plain.Finish f) l u rest e i h = finished_out _ u rest (nat_eq q f.question.0) i h
  out_after (plain.Resolve r) l u rest e i h = (u, i, h)
  out_after (plain.Release r) l u rest e i h = (u, i, h)
  out_after (plain.Disembargo d) l u rest e i h = (u, i, h)
  out_after (plain.Other n) l u rest e i h = (u, i, h)

  pub left_alone : (u : Answerer Ids Ids) (ns : List Noted) → IsOut u → Met u (marks q ns) → NoneAims q (messages ns) × NoneNames q (messages ns)
  left_alone u [] i h = (tt, tt)
  left_alone u (n ∷ ns) i h =
      let m = n.message in
      let ds = descriptors_of_plain m in
      let one = none_out u (targets_marks q m) (each_marks q ds ++ (says (out_of q m n.lets) ++ marks q ns)) (targets_names m) i h in
      let two = none_out u (each_marks q ds) (says (out_of q m n.lets) ++ marks q ns) (each_names ds) i one.1 in
      let rest = behind (λ w j k. left_alone w ns j k) (opens q (message.Plain m)) refl two.1 in
      ((targets_off q m one.0, rest.0), (each_off q ds two.0, rest.1))
    where
      behind : ((w : Answerer Ids Ids) → IsOut w → Met w (marks q ns) → NoneAims q (messages ns) × NoneNames q (messages ns)) → (b : Bool) → opens q (message.Plain n.message) ≡ b → Met u (says (out_of q n.message n.lets) ++ marks q ns)
          → Unless b (NoneAims q (messages ns)) × Unless b (NoneNames q (messages ns))
      behind f true e k = (tt, tt)
      behind f false e k = let o = out_after n.message n.lets u (marks q ns) e i k in f o.0 o.1 o.2
