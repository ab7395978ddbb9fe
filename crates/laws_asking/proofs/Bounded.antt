-- At each place among what a vat said, what is unfinished has an entry before a step or after it: so it is no more than two tables hold.
use Rattle.std.proofs.Common.{◌≡◌, ◌⊎◌, inl, inr, ℕ, ◌+◌, ◌≤◌, Bool, true, false, List, [], ◌∷◌, ◌++◌, Option, None, Some, IsSome, Result, refl, sym, ap, subst, ◌∙◌, arith}
use Rattle.std.specs.Ordering.{nat_cmp}
use Rattle.std.specs.FinMap as map
use Rattle.finite_maps.specs.Tally.{Map}
use Rattle.rpc_msg.specs.declared.exception.Exception.{Exception}
use Rattle.rpc_msg.specs.declared.message.PlainMessage.TheVariants as plain
use Rattle.rpc_msg.specs.declared.message.Message.{Message}
use Rattle.rpc_msg.specs.declared.message.Message.TheVariants as message
use Rattle.rpc_machine.specs.declared.command.Command.{Command}
use Rattle.rpc_machine.specs.declared.command.Granted.{Granted}
use Rattle.rpc_machine.specs.declared.command.Refusal.{Refusal}
use Rattle.rpc_machine.specs.declared.command.Effects.{Effects}
use Rattle.rpc_machine.specs.declared.entries.Question.{Question}
use Rattle.rpc_machine.specs.State.{State}
use Rattle.rpc_machine.specs.Numbers.{want_of_room}
use Rattle.rpc_machine.specs.Down.{IsUnchanged, Falls, ShutsFrom, fallen, falling_by}
use Rattle.rpc_machine.specs.Steps.{Obeys, Refuses, LacksMemory, GoesDown, Shuts, IsDone, Receives, WasDown, FaultsBy, LacksRoom, IsHandled}
use Rattle.rpc_machine.proofs.StaysDown.{command_down, receive_down}
use Rattle.laws_asking.specs.Turns.{BringsNoneBack, TurnsAll, unfinished}
use Rattle.laws_asking.specs.Heard.{Says, New, Commanded, Received, Fell}
use Rattle.laws_asking.proofs.Along.{Along, Either, all_alike, at_place, is_there}
use Rattle.laws_asking.proofs.Placed.{command_placed, message_placed}
use Rattle.laws_asking.proofs.Stepping.{Turned, turned}

-- ---- Steps

abbrev IsPlaced : State → List Message → State → Type 0
IsPlaced s sends t = (q : ℕ) → Along (Either s.questions t.questions q) q (unfinished q s) sends

-- It says nothing, or an Abort alone.
data IsShort : List Message → Type 0 where
  Silent : {ms : List Message} → ms ≡ [] → IsShort ms
  AbortAlone : {ms : List Message} (x : Exception) → ms ≡ message.Plain (plain.Abort x) ∷ [] → IsShort ms

short_placed : (s : State) (sends : List Message) (t : State) → IsShort sends → IsPlaced s sends t
short_placed s sends t (Silent e) = rw e (λ q h. inl (is_there (map.get s.questions q) h))
short_placed s sends t (AbortAlone x e) = rw e (λ q. ((λ h. inl (is_there (map.get s.questions q) h)), λ c k h. inl (is_there (map.get s.questions q) (sym k ∙ h))))

same_placed : (s : State) (x : Effects) (t : State) → IsUnchanged s x t → IsPlaced s x.sends t
same_placed s x t h = short_placed s x.sends t (Silent (ap (λ (y : Effects). y.sends) h.effects_are))

falls_placed : (s : State) (n : ℕ) (x : Effects) (t : State) → Falls s n x t → IsPlaced s x.sends t
falls_placed s n x t h = short_placed s x.sends t (AbortAlone _ (ap (λ (y : Effects). y.sends) h.effects_are))

shut_placed : (s : State) (n : ℕ) (d : Option ℕ) (x : Effects) (t : State) → ShutsFrom s n d x t → IsPlaced s x.sends t
shut_placed s n None x t h = falls_placed s n x t h
shut_placed s n (Some k) x t h = same_placed s x t h

short_fall : (m : Message) (n : ℕ) → IsShort (falling_by m n).sends
short_fall (message.Plain (plain.Abort exception)) n = Silent refl
short_fall (message.Plain (plain.Bootstrap p)) n = AbortAlone _ refl
short_fall (message.Plain (plain.Call c)) n = AbortAlone _ refl
short_fall (message.Plain (plain.Return r)) n = AbortAlone _ refl
short_fall (message.Plain (plain.Finish f)) n = AbortAlone _ refl
short_fall (message.Plain (plain.Resolve r)) n = AbortAlone _ refl
short_fall (message.Plain (plain.Release r)) n = AbortAlone _ refl
short_fall (message.Plain (plain.Disembargo d)) n = AbortAlone _ refl
short_fall (message.Plain (plain.Other k)) n = AbortAlone _ refl
short_fall (message.Unimplemented p) n = AbortAlone _ refl

commands : (s : State) (c : Command) (a : Result Granted Refusal) (x : Effects) (t : State) → Obeys s c a x t → IsPlaced s x.sends t
commands s c a x t (Refuses k f g u) = same_placed s x t u
commands s c a x t (LacksMemory f g k u) = same_placed s x t u
commands s c a x t (GoesDown f g k u) = falls_placed s want_of_room x t u
commands s c a x t (Shuts n f g h) = shut_placed s n s.down x t h
commands s c a x t (IsDone given f g h w) = command_placed s c given x t h

messages : (s : State) (m : Message) (x : Effects) (t : State) → BringsNoneBack m → Receives s m x t → IsPlaced s x.sends t
messages s m x t none (WasDown d u) = same_placed s x t u
messages s m x t none (FaultsBy n d f g h) = short_placed s x.sends t (subst (λ (y : Effects). IsShort y.sends) (sym g) (short_fall m n))
messages s m x t none (LacksRoom d f u) = falls_placed s want_of_room x t u
messages s m x t none (IsHandled d f h w) = message_placed s m x t none f h

-- ---- The table of questions

abbrev IsSmall : State → Type 0
IsSmall s = map.len s.questions ≤ 4096

empty_small : (s : State) → s.questions ≡ map.empty → IsSmall s
empty_small s e = let h = ap map.len e ∙ map.len-empty nat_cmp Question in omega (arith, h)

fallen_small : (s : State) (n : ℕ) (t : State) → t ≡ fallen s n → IsSmall t
fallen_small s n t e = empty_small t (ap (λ (w : State). w.questions) e)

same_small : (s : State) (t : State) → t ≡ s → IsSmall s → IsSmall t
same_small s t e h = subst IsSmall (sym e) h

shut_small : (s : State) (n : ℕ) (d : Option ℕ) (x : Effects) (t : State) → ShutsFrom s n d x t → IsSmall s → IsSmall t
shut_small s n None x t h i = fallen_small s n t h.new_is
shut_small s n (Some k) x t h i = same_small s t h.new_is i

command_small : (s : State) (c : Command) (a : Result Granted Refusal) (x : Effects) (t : State) → Obeys s c a x t → IsSmall s → IsSmall t
command_small s c a x t (Refuses k f g u) i = same_small s t u.new_is i
command_small s c a x t (LacksMemory f g k u) i = same_small s t u.new_is i
command_small s c a x t (GoesDown f g k u) i = fallen_small s want_of_room t u.new_is
command_small s c a x t (Shuts n f g h) i = shut_small s n s.down x t h i
command_small s c a x t (IsDone given f g h w) i = w.questions

message_small : (s : State) (m : Message) (x : Effects) (t : State) → Receives s m x t → IsSmall s → IsSmall t
message_small s m x t (WasDown d u) i = same_small s t u.new_is i
message_small s m x t (FaultsBy n d f g h) i = fallen_small s n t h
message_small s m x t (LacksRoom d f u) i = fallen_small s want_of_room t u.new_is
message_small s m x t (IsHandled d f h w) i = w.questions

small : (s : State) (said : List Message) → Says s said → IsSmall s
small s _ (New v l b) = empty_small s refl
small t _ (Commanded {s = s} {said = said} c a x run o) = command_small s c a x t o (small s said run)
small t _ (Received {s = s} {said = said} m x run none o) = message_small s m x t o (small s said run)
small t _ (Fell {s = s} n run) = fallen_small s n t refl

-- ---- Places

abbrev AllTurn : List Message → (ℕ → Bool) → Type 0
AllTurn ms b = (q : ℕ) → TurnsAll q false ms (b q)

-- All that is unfinished has an entry in one of two tables.
pub record InTwo (b : ℕ → Bool) : Type 0 where
  pub first : Map Question
  pub second : Map Question
  pub small : map.len first + map.len second ≤ 8192
  pub there : (q : ℕ) → b q ≡ true → Either first second q

none_in : (b : ℕ → Bool) → ((q : ℕ) → b q ≡ false) → InTwo b
none_in b none = record {
  first = map.empty;
  second = map.empty;
  small = let e = map.len-empty nat_cmp Question in omega (arith, e);
  there = λ q e. absurd (let bad : false ≡ true = sym (none q) ∙ e in cc);
}

alike_in : (b c : ℕ → Bool) → ((q : ℕ) → c q ≡ b q) → InTwo b → InTwo c
alike_in b c same h = record { first = h.first; second = h.second; small = h.small; there = λ q e. h.there q (sym (same q) ∙ e) }

-- the messages up to a place among two lists
cut : (xs ys before after : List Message) → xs ++ ys ≡ before ++ after → ((rest : List Message) × (xs ≡ before ++ rest)) ⊎ ((more : List Message) × (before ≡ xs ++ more) × (ys ≡ more ++ after))
cut [] ys before after e = inr (before, refl, e)
cut (x ∷ xs) ys [] after e = inl (x ∷ xs, refl)
cut (x ∷ xs) ys (y ∷ before) after e = let same : x ≡ y = cc in let rest : xs ++ ys ≡ before ++ after = cc in longer same (cut xs ys before after rest)
  where
    longer : x ≡ y → ((rest : List Message) × (xs ≡ before ++ rest)) ⊎ ((more : List Message) × (before ≡ xs ++ more) × (ys ≡ more ++ after))
        → ((rest : List Message) × (x ∷ xs ≡ (y ∷ before) ++ rest)) ⊎ ((more : List Message) × (y ∷ before ≡ (x ∷ xs) ++ more) × (ys ≡ more ++ after))
    longer same (inl (rest, f)) = inl (rest, ap (λ zs. x ∷ zs) f ∙ ap (λ z. z ∷ before ++ rest) same)
    longer same (inr (more, f, g)) = inr (more, ap (λ zs. y ∷ zs) f ∙ ap (λ z. z ∷ xs ++ more) (sym same), g)

split : (q : ℕ) (b c : Bool) (xs ys : List Message) → TurnsAll q b (xs ++ ys) c → (mid : Bool) × TurnsAll q b xs mid × TurnsAll q mid ys c
split q b c [] ys h = (b, refl, h)
split q b c (m ∷ xs) ys h = let k = split q h.0 c xs ys h.2 in (k.0, (h.0, h.1, k.1), k.2)

no_more : (xs : List Message) → xs ≡ xs ++ []
no_more [] = refl
no_more (x ∷ xs) = ap (λ zs. x ∷ zs) (no_more xs)

first_empty : (xs ys : List Message) → [] ≡ xs ++ ys → xs ≡ []
first_empty [] ys e = refl
first_empty (x ∷ xs) ys e = absurd cc

at_new : (before after : List Message) → [] ≡ before ++ after → (b : ℕ → Bool) → AllTurn before b → InTwo b
at_new before after e b turn = none_in b (λ q. subst (λ (ms : List Message). TurnsAll q false ms (b q)) (first_empty before after e) (turn q))

-- Where it holds at each place among what was said before a step.
abbrev Everywhere : List Message → Type 0
Everywhere said = (before after : List Message) → said ≡ before ++ after → (b : ℕ → Bool) → AllTurn before b → InTwo b

module _ (s : State) (x : Effects) (t : State) (said : List Message) (earlier : Everywhere said) (turn : Turned s said) (s_small : IsSmall s) (t_small : IsSmall t) (placed : IsPlaced s x.sends t) where
  -- At a place among the messages of the step.
  in_step : s.down ≡ None → (more after : List Message) → x.sends ≡ more ++ after → (b : ℕ → Bool) → AllTurn (said ++ more) b → InTwo b
  in_step up more after e b now = record {
    first = s.questions;
    second = t.questions;
    small = omega (arith, s_small, t_small);
    there = λ q h.
        let parts = split q false (b q) said more (now q) in
        let own : unfinished q s ≡ parts.0 = sym ((turn q).2 up) ∙ all_alike q false (turn q).0 parts.0 said (turn q).1 parts.1 in
        at_place (Either s.questions t.questions q) q (unfinished q s) (b q) more after (subst (λ (ms : List Message). Along (Either s.questions t.questions q) q (unfinished q s) ms) e (placed q))
        (subst (λ (c : Bool). TurnsAll q c more (b q)) (sym own) parts.2) h;
  }

  -- A vat that is down says nothing.
  in_silence : x.sends ≡ [] → (more after : List Message) → x.sends ≡ more ++ after → (b : ℕ → Bool) → AllTurn (said ++ more) b → InTwo b
  in_silence silent more after e b now =
      let none = first_empty more after (sym silent ∙ e) in
      let parts = λ (q : ℕ). split q false (b q) said more (now q) in
      alike_in (λ q. (parts q).0) b (λ q. subst (λ (ms : List Message). TurnsAll q (parts q).0 ms (b q)) none (parts q).2) (earlier said [] (no_more said) (λ q. (parts q).0) (λ q. (parts q).1))

  after_step : (d : Option ℕ) → s.down ≡ d → (IsSome s.down → IsUnchanged s x t) → Everywhere (said ++ x.sends)
  after_step d is down before after e b now = by (cut said x.sends before after e)
    where
      in_this : (d : Option ℕ) → s.down ≡ d → (more : List Message) → x.sends ≡ more ++ after → AllTurn (said ++ more) b → InTwo b
      in_this None up more f turns = in_step up more after f b turns
      in_this (Some n) up more f turns = in_silence (ap (λ (y : Effects). y.sends) (down (subst IsSome (sym up) refl)).effects_are) more after f b turns

      by : ((rest : List Message) × (said ≡ before ++ rest)) ⊎ ((more : List Message) × (before ≡ said ++ more) × (x.sends ≡ more ++ after)) → InTwo b
      by (inl (rest, f)) = earlier before rest f b now
      by (inr (more, f, g)) = in_this d is more g (λ q. subst (λ (ms : List Message). TurnsAll q false ms (b q)) f (now q))

pub everywhere : (s : State) (said : List Message) → Says s said → Everywhere said
everywhere _ _ (New v l b) = at_new
everywhere t _ (Commanded {s = s} {said = said} c a x run o) =
    after_step s x t said (everywhere s said run) (turned s said run) (small s said run) (command_small s c a x t o (small s said run)) (commands s c a x t o) s.down refl (λ d. command_down s c a x t d o)
everywhere t _ (Received {s = s} {said = said} m x run none o) =
    after_step s x t said (everywhere s said run) (turned s said run) (small s said run) (message_small s m x t o (small s said run)) (messages s m x t none o) s.down refl (λ d. receive_down s m x t d o)
everywhere _ said (Fell {s = s} n run) = everywhere s said run
