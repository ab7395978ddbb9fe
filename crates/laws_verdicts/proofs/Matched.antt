-- What the messages on their way hand on and release by the journal is what the vats' tables say of them.
use Rattle.std.proofs.Common.{◌≡◌, ℕ, Bool, nat_eq, List, [], ◌∷◌, ◌++◌, append-nil, Option, None, Some, refl, sym, ap, subst, ◌∙◌, arith}
use Rattle.std.specs.Prelude.{map as list_map}
use Rattle.std.specs.FinMap as map
use Rattle.rpc_msg.specs.declared.ids.Vat.{Vat}
use Rattle.rpc_msg.specs.declared.message.Message.{Message}
use Rattle.rpc_msg.specs.declared.message.Message.TheVariants as message
use Rattle.rpc_msg.specs.Messages.{given, descriptors_of}
use Rattle.rpc_msg.specs.Vats.{other_vat}
use Rattle.rpc_journal.specs.declared.entry.JournalEntry.{JournalEntry}
use Rattle.rpc_journal.specs.History.{in_front}
use Rattle.rpc_machine.specs.State.{State}
use Rattle.rpc_machine.specs.Lists.{how_many}
use Rattle.rpc_machine.specs.Descriptors.{giving}
use Rattle.laws_acts.specs.Sent.{Noted, messages}
use Rattle.laws_runs.specs.Views.{asker_of, answerer_of, outs, rets, Moves, Gets}
use Rattle.laws_runs.specs.Imports.{lets_of, letting}
use Rattle.laws_runs.specs.Worlds.{AreRows}
use Rattle.laws_runs.specs.Agreed.{Agree}
use Rattle.laws_runs.proofs.Agreeing as agreeing
use Rattle.laws_runs.proofs.Standing.{gets_back, gets_out}
use Rattle.rpc_check.specs.Counts.{count_of, one_each, Sending, gives, releases, of_each}
use Rattle.rpc_check.specs.Breaches.{sent, sent_one, sending, sendings_after, sending_one}
use Rattle.rpc_check.proofs.Counting.{count_of-append}
use Rattle.laws_verdicts.proofs.Saying.{Says, behind, sent-append}
use Rattle.laws_verdicts.proofs.Links.{IsLink, link_on, link_taken, message_of, messages_behind, back}
use Rattle.laws_verdicts.proofs.LastSaid.{count_each, last_question, last_answer, AskedSaid, AnsweredSaid, WorksOn, HasBack, AllLetSo, works_by, back_by, asked_moved, answered_moved, asked_got, answered_got, moves_let}

-- ---- One way

-- Each of these, as the journal has it, is one of those, and releases what its sender let go.
abbrev pub AreMatched : List Sending → List Noted → Type 0
AreMatched [] [] = Unit {0}
AreMatched [] (n ∷ ns) = ⊥
AreMatched (x ∷ xs) [] = ⊥
AreMatched (x ∷ xs) (n ∷ ns) = (x.message ≡ message.Plain n.message) × ((e : ℕ) → count_of e (releases x) ≡ lets_of e n.message n.lets) × AreMatched xs ns

pub matched-append : (xs ys : List Sending) (ms ns : List Noted) → AreMatched xs ms → AreMatched ys ns → AreMatched (xs ++ ys) (ms ++ ns)
matched-append [] ys [] ns h k = k
matched-append [] ys (m ∷ ms) ns h k = absurd h
matched-append (x ∷ xs) ys [] ns h k = absurd h
matched-append (x ∷ xs) ys (m ∷ ms) ns h k = (h.0, h.1, matched-append xs ys ms ns h.2 k)

matched_sent : (before : List Message) (ns : List Noted) → AllLetSo before ns → AreMatched (list_map (behind before) (messages ns)) ns
matched_sent before [] h = tt
matched_sent before (n ∷ ns) h = (refl, h.0, matched_sent before ns h.1)

pub gives_so : (e : ℕ) (xs : List Sending) (ns : List Noted) → AreMatched xs ns → count_of e (of_each gives xs) ≡ giving e (messages ns)
gives_so e [] [] h = refl
gives_so e [] (n ∷ ns) h = absurd h
gives_so e (x ∷ xs) [] h = absurd h
gives_so e (x ∷ xs) (n ∷ ns) h =
    let a = count_of-append e (gives x) (of_each gives xs) in
    let b = gives_so e xs ns h.2 in
    let c : count_of e (gives x) ≡ how_many (nat_eq e) (given (descriptors_of (message.Plain n.message))) = ap (λ (m : Message). count_of e (one_each (given (descriptors_of m)))) h.0 ∙ count_each e (given (descriptors_of (message.Plain n.message))) in
    omega (arith, a, b, c)

pub releases_so : (e : ℕ) (xs : List Sending) (ns : List Noted) → AreMatched xs ns → count_of e (of_each releases xs) ≡ letting e ns
releases_so e [] [] h = refl
releases_so e [] (n ∷ ns) h = absurd h
releases_so e (x ∷ xs) [] h = absurd h
releases_so e (x ∷ xs) (n ∷ ns) h =
    let a = count_of-append e (releases x) (of_each releases xs) in
    let b = releases_so e xs ns h.2 in
    let c = h.1 e in
    omega (arith, a, b, c)

-- ---- What a vat sent, by its sendings

front_of : (b : List JournalEntry) (v : Vat) (e : JournalEntry) (ss : List Sending) → list_map message_of (in_front (sending_one v b e) ss) ≡ in_front (sent_one v e) (list_map message_of ss)
front_of b v e ss = by (sent_one v e)
  where
    by : (o : Option Message) → list_map message_of (in_front (sending (sent b (other_vat v)) o) ss) ≡ in_front o (list_map message_of ss)
    by None = refl
    by (Some m) = refl

sent_of : (b es : List JournalEntry) (v : Vat) → list_map message_of (sendings_after b es v) ≡ sent es v
sent_of b [] v = refl
sent_of b (e ∷ es) v = front_of b v e (sendings_after (b ++ e ∷ []) es v) ∙ ap (in_front (sent_one v e)) (sent_of (b ++ e ∷ []) es v)

-- ---- Two vats

-- The vat u is s, the other t, and their journal is h.
pub record Whole (h : List JournalEntry) (u : Vat) (s : State) (to_s : List Noted) (t : State) (to_t : List Noted) : Type 0 where
  pub agree : Agree s to_s t to_t
  pub asked_s : AskedSaid s (sent h u)
  pub asked_t : AskedSaid t (sent h (other_vat u))
  pub answered_s : AnsweredSaid s (sent h u)
  pub answered_t : AnsweredSaid t (sent h (other_vat u))
  pub way_s : List Sending
  pub link_s : IsLink h (other_vat u) way_s
  pub match_s : AreMatched way_s to_s
  pub way_t : List Sending
  pub link_t : IsLink h u way_t
  pub match_t : AreMatched way_t to_t

pub turned : (h : List JournalEntry) (u : Vat) (s t : State) (to_s to_t : List Noted) → Whole h u s to_s t to_t → Whole h (other_vat u) t to_t s to_s
turned h u s t to_s to_t k = record {
  agree = agreeing.turned s t to_s to_t k.agree;
  asked_s = k.asked_t;
  asked_t = subst (λ (v : Vat). AskedSaid s (sent h v)) (sym (back u)) k.asked_s;
  answered_s = k.answered_t;
  answered_t = subst (λ (v : Vat). AnsweredSaid s (sent h v)) (sym (back u)) k.answered_s;
  way_s = k.way_t;
  link_s = subst (λ (v : Vat). IsLink h v k.way_t) (sym (back u)) k.link_t;
  match_s = k.match_t;
  way_t = k.way_s;
  link_t = k.link_s;
  match_t = k.match_s;
}

-- What s works on, and what came back to it, where sessions stand so.
works : (s t : State) (to_s to_t : List Noted) (ms : List Message) → AreRows t to_t s to_s → AskedSaid t ms → (q : ℕ) → WorksOn (answerer_of (map.get s.answers q)) (last_question ms q)
works s t to_s to_t ms r a q = works_by (asker_of (map.get t.questions q)) (outs q to_s) (answerer_of (map.get s.answers q)) (rets q to_t) (last_question ms q) (r q) (a q)

comes_back : (s t : State) (to_s to_t : List Noted) (ms : List Message) → AreRows s to_s t to_t → AnsweredSaid t ms → (q : ℕ) → HasBack (asker_of (map.get s.questions q)) (last_answer ms q)
comes_back s t to_s to_t ms r a q = back_by (asker_of (map.get s.questions q)) (outs q to_t) (answerer_of (map.get t.answers q)) (rets q to_s) (last_answer ms q) (r q) (a q)

-- ---- The journal after a step of u that sent these

module _ (h es : List JournalEntry) (u : Vat) (n : ℕ) (d e : Bool) (sends : List Noted) (ms : List Message) (are : ms ≡ messages sends)
    (mine : Says h es u (list_map (behind (sent h (other_vat u))) ms) n d) (theirs : Says h es (other_vat u) [] 0 e) where
  sent_more : sent (h ++ es) u ≡ sent h u ++ messages sends
  sent_more = sent-append h es u ∙ ap (λ (l : List Message). sent h u ++ l) (sym (sent_of h es u) ∙ ap (list_map message_of) mine.sendings ∙ messages_behind (sent h (other_vat u)) ms ∙ are)

  sent_same : sent (h ++ es) (other_vat u) ≡ sent h (other_vat u)
  sent_same = sent-append h es (other_vat u) ∙ ap (λ (l : List Message). sent h (other_vat u) ++ l) (sym (sent_of h es (other_vat u)) ∙ ap (list_map message_of) theirs.sendings) ∙ append-nil (sent h (other_vat u))

  -- From mid on it moves, with the other's last words as mid works on them.
  went_on : (mid new t : State) (to_s to_t : List Noted) → Moves mid sends new → AskedSaid mid (sent h u) → AnsweredSaid mid (sent h u) → AskedSaid t (sent h (other_vat u)) → AnsweredSaid t (sent h (other_vat u))
      → AreRows mid to_s t to_t → AreRows t to_t mid to_s → (way_t : List Sending) → IsLink h u way_t → AreMatched way_t to_t
      → (way_s : List Sending) → IsLink (h ++ es) (other_vat u) way_s → AreMatched way_s to_s → Agree new to_s t (to_t ++ sends) → Whole (h ++ es) u new to_s t (to_t ++ sends)
  went_on mid new t to_s to_t moves asked answered asked_t answered_t of_s of_t way_t link_t match_t way_s link_s match_s agree =
      let before = sent h (other_vat u) in
      let lets = moves_let mid new sends before (works mid t to_s to_t before of_t asked_t) (comes_back mid t to_s to_t before of_s answered_t) moves in record {
        agree = agree;
        asked_s = subst (λ (l : List Message). AskedSaid new l) (sym sent_more) (asked_moved mid new sends (sent h u) asked moves);
        asked_t = subst (λ (l : List Message). AskedSaid t l) (sym sent_same) asked_t;
        answered_s = subst (λ (l : List Message). AnsweredSaid new l) (sym sent_more) (answered_moved mid new sends (sent h u) answered moves);
        answered_t = subst (λ (l : List Message). AnsweredSaid t l) (sym sent_same) answered_t;
        way_s = way_s;
        link_s = link_s;
        match_s = match_s;
        way_t = way_t ++ list_map (behind before) ms;
        link_t = link_on h es u (list_map (behind before) ms) [] n 0 d e mine theirs way_t refl link_t;
        match_t = subst (λ (l : List Message). AreMatched (way_t ++ list_map (behind before) l) (to_t ++ sends)) (sym are) (matched-append way_t (list_map (behind before) (messages sends)) to_t sends match_t (matched_sent before sends lets));
      }

  back_says : (k : ℕ) → Says h es u (list_map (behind (sent h (other_vat u))) ms) k d → Says h es (other_vat (other_vat u)) (list_map (behind (sent h (other_vat u))) ms) k d
  back_says k x = subst (λ (v : Vat). Says h es v (list_map (behind (sent h (other_vat u))) ms) k d) (sym (back u)) x

  -- By itself.
  pub moved : (s new t : State) (to_s to_t : List Noted) → n ≡ 0 → Whole h u s to_s t to_t → Moves s sends new → Agree new to_s t (to_t ++ sends) → Whole (h ++ es) u new to_s t (to_t ++ sends)
  moved s new t to_s to_t z k moves agree =
      let link : IsLink (h ++ es) (other_vat u) (k.way_s ++ []) = link_on h es (other_vat u) [] (list_map (behind (sent h (other_vat u))) ms) 0 n e d theirs (back_says n mine) k.way_s z k.link_s in
      went_on s new t to_s to_t moves k.asked_s k.answered_s k.asked_t k.answered_t k.agree.stand.of_s k.agree.stand.of_t k.way_t k.link_t k.match_t
      k.way_s (subst (λ (l : List Sending). IsLink (h ++ es) (other_vat u) l) (append-nil k.way_s) link) k.match_s agree

  -- Once it took a message.
  pub received : (s mid new t : State) (x : Noted) (to_s to_t : List Noted) → n ≡ 1 → Whole h u s (x ∷ to_s) t to_t → Gets s x.message mid → Moves mid sends new → Agree new to_s t (to_t ++ sends) → Whole (h ++ es) u new to_s t (to_t ++ sends)
  received s mid new t x to_s to_t z k gets moves agree =
      let rest = first k.way_s k.link_s k.match_s in
      went_on mid new t to_s to_t moves (asked_got s mid x.message (sent h u) k.asked_s gets) (answered_got s mid x.message (sent h u) k.answered_s gets) k.asked_t k.answered_t
      (gets_back s mid t x to_s to_t k.agree.stand.of_s gets) (gets_out s mid t x to_s to_t k.agree.stand.of_t gets) k.way_t k.link_t k.match_t rest.0 rest.1 rest.2 agree
    where
      first : (way : List Sending) → IsLink h (other_vat u) way → AreMatched way (x ∷ to_s) → (rest : List Sending) × IsLink (h ++ es) (other_vat u) rest × AreMatched rest to_s
      first [] l m = absurd m
      first (y ∷ way) l m = (
        way,
        subst (λ (l : List Sending). IsLink (h ++ es) (other_vat u) l) (append-nil way) (link_taken h es (other_vat u) [] (list_map (behind (sent h (other_vat u))) ms) 0 n e d theirs (back_says n mine) y way z l),
        m.2,
      )
