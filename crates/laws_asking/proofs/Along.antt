-- What is unfinished at some place among the messages of a step has an entry before the step or after it.
use Rattle.std.proofs.Common.{◌≡◌, ◌⊎◌, inl, inr, ℕ, Bool, true, false, cond, nat_eq, List, [], ◌∷◌, ◌++◌, Option, None, Some, IsSome, refl, sym, ap, subst, ◌∙◌}
use Rattle.std.specs.FinMap as map
use Rattle.finite_maps.specs.Tally.{Map}
use Rattle.finite_maps.proofs.Tested.{at_put, at_cut, get_cut, equal}
use Rattle.rpc_msg.specs.declared.message.PlainMessage.{PlainMessage}
use Rattle.rpc_msg.specs.declared.message.PlainMessage.TheVariants as plain
use Rattle.rpc_msg.specs.declared.message.Message.{Message}
use Rattle.rpc_msg.specs.declared.message.Message.TheVariants as message
use Rattle.rpc_machine.specs.declared.entries.Finishing.TheVariants as finishing
use Rattle.rpc_machine.specs.declared.entries.Returned.{Returned}
use Rattle.rpc_machine.specs.declared.entries.Question.{Question}
use Rattle.rpc_machine.specs.Sweeping.{closed_map}
use Rattle.laws_asking.specs.Turns.{Asks, Ends, Turns, TurnsPlain, TurnsAll, is_unfinished}

-- ---- One id

asks_alike : (e b c d : Bool) → Asks e b c → Asks e b d → c ≡ d
asks_alike true b c d h k = h.1 ∙ sym k.1
asks_alike false b c d h k = h ∙ sym k

ends_alike : (e b c d : Bool) → Ends e b c → Ends e b d → c ≡ d
ends_alike true b c d h k = h.1 ∙ sym k.1
ends_alike false b c d h k = h ∙ sym k

plain_alike : (q : ℕ) (b c d : Bool) (m : PlainMessage) → TurnsPlain q b m c → TurnsPlain q b m d → c ≡ d
plain_alike q b c d (plain.Bootstrap p) h k = asks_alike (nat_eq q p.0) b c d h k
plain_alike q b c d (plain.Call x) h k = asks_alike (nat_eq q x.question.0) b c d h k
plain_alike q b c d (plain.Finish f) h k = ends_alike (nat_eq q f.question.0) b c d h k
plain_alike q b c d (plain.Abort x) h k = h ∙ sym k
plain_alike q b c d (plain.Return r) h k = h ∙ sym k
plain_alike q b c d (plain.Resolve r) h k = h ∙ sym k
plain_alike q b c d (plain.Release r) h k = h ∙ sym k
plain_alike q b c d (plain.Disembargo x) h k = h ∙ sym k
plain_alike q b c d (plain.Other n) h k = h ∙ sym k

one_alike : (q : ℕ) (b c d : Bool) (m : Message) → Turns q b m c → Turns q b m d → c ≡ d
one_alike q b c d (message.Plain m) h k = plain_alike q b c d m h k
one_alike q b c d (message.Unimplemented m) h k = h ∙ sym k

-- What it comes to is fixed.
pub all_alike : (q : ℕ) (b c d : Bool) (ms : List Message) → TurnsAll q b ms c → TurnsAll q b ms d → c ≡ d
all_alike q b c d [] h k = h ∙ sym k
all_alike q b c d (m ∷ ms) h k = all_alike q h.0 c d ms h.2 (subst (λ (a : Bool). TurnsAll q a ms d) (sym (one_alike q b h.0 k.0 m h.1 k.1)) k.2)

-- Wherever it is unfinished, W holds.
abbrev pub Along : Type 0 → ℕ → Bool → List Message → Type 0
Along W q b [] = b ≡ true → W
Along W q b (m ∷ ms) = (b ≡ true → W) × ((c : Bool) → Turns q b m c → Along W q c ms)

pub weaker : (V W : Type 0) → (V → W) → (q : ℕ) (b : Bool) (ms : List Message) → Along V q b ms → Along W q b ms
weaker V W f q b [] h = λ e. f (h e)
weaker V W f q b (m ∷ ms) h = ((λ e. f (h.0 e)), λ c k. weaker V W f q c ms (h.1 c k))

pub along-append : (W : Type 0) (q : ℕ) (b : Bool) (xs ys : List Message) → Along W q b xs → ((c : Bool) → TurnsAll q b xs c → Along W q c ys) → Along W q b (xs ++ ys)
along-append W q b [] ys h k = k b refl
along-append W q b (m ∷ xs) ys h k = (h.0, λ c t. along-append W q c xs ys (h.1 c t) (λ d i. k d (c, t, i)))

pub at_start : (W : Type 0) (q : ℕ) (b : Bool) (ms : List Message) → Along W q b ms → b ≡ true → W
at_start W q b [] h = h
at_start W q b (m ∷ ms) h = h.0

-- Where the messages up to there come to.
pub at_place : (W : Type 0) (q : ℕ) (b c : Bool) (xs ys : List Message) → Along W q b (xs ++ ys) → TurnsAll q b xs c → c ≡ true → W
at_place W q b c [] ys h t e = at_start W q b ys h (sym t ∙ e)
at_place W q b c (m ∷ xs) ys h t e = at_place W q t.0 c xs ys (h.1 t.0 t.1) t.2 e

-- ---- Entries

pub is_there : (o : Option Question) → is_unfinished o ≡ true → IsSome o
is_there None e = absurd (let bad : false ≡ true = e in cc)
is_there (Some x) e = refl

-- A new question was not returned.
abbrev pub IsNew : Option Question → Type 0
IsNew None = Unit {0}
IsNew (Some x) = x.returned ≡ None

-- Before the step, or now.
abbrev pub Either : Map Question → Map Question → ℕ → Type 0
Either s m q = IsSome (map.get s q) ⊎ IsSome (map.get m q)

abbrev pub AllNew : Map Question → Map Question → Type 0
AllNew s m = (q : ℕ) → map.get s q ≡ None → IsNew (map.get m q)

abbrev pub AllAlong : Map Question → (ℕ → Bool) → List Message → Map Question → Type 0
AllAlong s b sends m = (q : ℕ) → Along (Either s m q) q (b q) sends

-- What was there is there still.
abbrev pub Stay : Map Question → Map Question → Map Question → Type 0
Stay s m n = (q : ℕ) → Either s m q → Either s n q

module _ (s m : Map Question) (k : ℕ) where
  pub put_stays : (x : Question) → Stay s m (map.insert m k x)
  put_stays x q (inl h) = inl h
  put_stays x q (inr h) = inr (at_put (λ j o. IsSome (map.get m j) → IsSome o) m k x (λ i. refl) (λ j e i. i) q h)

  pub put_new : (x : Question) → (map.get s k ≡ None → x.returned ≡ None) → AllNew s m → AllNew s (map.insert m k x)
  put_new x none h = at_put (λ j o. map.get s j ≡ None → IsNew o) m k x none (λ j e. h j)

  pub closed_new : (x : Question) (r : Option Returned) → x.returned ≡ r → AllNew s m → AllNew s (closed_map m k x r)
  closed_new x None e h = put_new (record x { finish = finishing.Sent }) (λ i. e) h
  closed_new x (Some said) e h = at_cut (λ j o. map.get s j ≡ None → IsNew o) m k (λ i. tt) (λ j f. h j)

  -- One that goes was there before.
  pub cut_stays : IsSome (map.get s k) → Stay s m (map.remove m k)
  cut_stays there q (inl h) = inl h
  cut_stays there q (inr h) = by (nat_eq q k) refl
    where
      by : (b : Bool) → nat_eq q k ≡ b → Either s (map.remove m k) q
      by true e = inl (subst (λ j. IsSome (map.get s j)) (sym (equal q k e)) there)
      by false e = inr (subst IsSome (sym (get_cut m k q ∙ ap (λ b. cond b None (map.get m q)) e)) h)

  pub closed_stays : (x : Question) (r : Option Returned) → x.returned ≡ r → map.get m k ≡ Some x → AllNew s m → Stay s m (closed_map m k x r)
  closed_stays x None e there h = put_stays (record x { finish = finishing.Sent })
  closed_stays x (Some said) e there h = cut_stays (by (map.get s k) refl)
    where
      by : (o : Option Question) → map.get s k ≡ o → IsSome (map.get s k)
      by (Some y) f = subst IsSome (sym f) refl
      by None f = absurd (let g : x.returned ≡ None = subst IsNew there (h k f) in let bad : Some said ≡ None = sym e ∙ g in cc)

-- ---- Messages

module _ (s : Map Question) (b : ℕ → Bool) (sends : List Message) (m n : Map Question) (turns : (q : ℕ) → TurnsAll q (b q) sends (is_unfinished (map.get m q))) (stay : Stay s m n) where
  -- None is sent.
  pub along_same : AllAlong s b sends m → AllAlong s b sends n
  along_same h q = weaker (Either s m q) (Either s n q) (stay q) q (b q) sends (h q)

  now_there : (q : ℕ) (c : Bool) → TurnsAll q (b q) sends c → c ≡ true → Either s n q
  now_there q c t e = stay q (inr (is_there (map.get m q) (sym (all_alike q (b q) c (is_unfinished (map.get m q)) sends t (turns q)) ∙ e)))

  -- One is sent.
  pub along_one : (said : Message) → ((q : ℕ) → Turns q (is_unfinished (map.get m q)) said (is_unfinished (map.get n q))) → AllAlong s b sends m → AllAlong s b (sends ++ said ∷ []) n
  along_one said turn h q = along-append (Either s n q) q (b q) sends (said ∷ []) (along_same h q) (λ c t. (now_there q c t, λ d i e. inr (is_there (map.get n q) (sym (same c t d i) ∙ e))))
    where
      same : (c : Bool) → TurnsAll q (b q) sends c → (d : Bool) → Turns q c said d → d ≡ is_unfinished (map.get n q)
      same c t d i = one_alike q (is_unfinished (map.get m q)) d (is_unfinished (map.get n q)) said (subst (λ (a : Bool). Turns q a said d) (all_alike q (b q) c (is_unfinished (map.get m q)) sends t (turns q)) i) (turn q)

  -- Some are sent that are about no question.
  pub along_others : (more : List Message) → ((W : Type 0) (q : ℕ) (c : Bool) → (c ≡ true → W) → Along W q c more) → AllAlong s b sends m → AllAlong s b (sends ++ more) n
  along_others more others h q = along-append (Either s n q) q (b q) sends more (along_same h q) (λ c t. others (Either s n q) q c (now_there q c t))
