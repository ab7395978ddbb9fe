-- What holds of a log and its side goes on to hold.
use Rattle.std.proofs.Common.{◌≡◌, ℕ, suc, Option, None, List, [], ◌∷◌, ◌++◌, length, refl, sym, ap, subst, ◌∙◌, append_assoc, append-nil, arith, length-append}
use Rattle.std.proofs.lemmas.List.{map-append}
use Rattle.laws_merge.specs.Machine.{Input, Command, Shut, Receive}
use Rattle.laws_merge.specs.Logs as logs
use Rattle.laws_merge.specs.Logs.{messages, input_of, got, counted, received, made_by, Numbered, Lawful, AckWithin, Acked, IsBeginningOf}
use Rattle.laws_merge.proofs.Growing.{log_grows, acked_grows, frames_grow}
use Rattle.link_rings.specs.declared.frame.Frame.{Frame}
use Rattle.link_rings.specs.declared.entry.Entry.{Entry}
use Rattle.link_rings.specs.Logs.{frame_of, framed, cause_by, party, entry_of, log_of}
use Rattle.link_rings.specs.Waiting.{frames_from}
use Rattle.link_rings.specs.Entries.{Place, Logs}
use Rattle.link_rings.specs.Kept.{Runs, Passes}

input_back : {C M : Type 0} (s a : ℕ) (i : Input C M) → i ≡ input_of (cause_by s a i)
input_back s a (Command c) = refl
input_back s a Shut = refl
input_back s a (Receive m) = refl

messages_back : {M : Type 0} (k r : ℕ) (ms : List M) → ms ≡ messages (framed (frames_from k r ms))
messages_back k r [] = refl
messages_back k r (m ∷ ms) = ap (λ z. m ∷ z) (messages_back (suc k) r ms)

numbers : {M : Type 0} (k r : ℕ) (ms : List M) → Numbered k r (framed (frames_from k r ms))
numbers k r [] = tt
numbers k r (m ∷ ms) = (refl, refl, numbers (suc k) r ms)

pub counts : {M : Type 0} (k r : ℕ) (ms : List M) → length ms ≡ length (framed (frames_from k r ms))
counts k r [] = refl
counts k r (m ∷ ms) = ap suc (counts (suc k) r ms)

got_one_more : {C M : Type 0} (c : logs.Cause C M) (fs : List (logs.Frame M)) → counted (length fs) c ≡ length (fs ++ got c)
got_one_more (logs.Commanded c) fs = ap length (sym (append-nil fs))
got_one_more logs.WasShut fs = ap length (sym (append-nil fs))
got_one_more (logs.Received f) fs = let s = length-append fs (f ∷ []) in omega arith

module _ {S C M N : Type 0} (down : S → Option ℕ) (input : N → Input C M) (sends : N → List M) (step : S → N → S → Type 0) where
  log_more : (log log' : List (Entry N)) (e : Entry N) → log' ≡ log ++ e ∷ [] → log_of input sends step log' ≡ log_of input sends step log ++ entry_of input sends step e ∷ []
  log_more log log' e l = ap (log_of input sends step) l ∙ map-append (entry_of input sends step) log (e ∷ [])

  pub made_more : (log log' : List (Entry N)) (e : Entry N) → log' ≡ log ++ e ∷ [] → made_by (log_of input sends step log') ≡ made_by (log_of input sends step log) ++ framed (frames_from e.first e.heard (sends e.note))
  made_more log log' e l = ap (λ z. made_by z) (log_more log log' e l) ∙ (frames_grow (party input sends step) (log_of input sends step log) (entry_of input sends step e)).1

  received_more : (log log' : List (Entry N)) (e : Entry N) → log' ≡ log ++ e ∷ [] → received (log_of input sends step log') ≡ received (log_of input sends step log) ++ got (cause_by e.seq e.ack (input e.note))
  received_more log log' e l = ap (λ z. received z) (log_more log log' e l) ∙ (frames_grow (party input sends step) (log_of input sends step log) (entry_of input sends step e)).0

  pub runs_grow : (start : S) (old new : Place S M N) (e : Entry N) → Runs input sends step start old → Logs down input sends step old new e → AckWithin old.waiting.made (cause_by e.seq e.ack (input e.note)) → Runs input sends step start new
  runs_grow start old new e k l a =
      let P = party input sends step in
      let xs = log_of input sends step old.log in
      let x = entry_of input sends step e in
      let cause = cause_by e.seq e.ack (input e.note) in
      let fs : List (logs.Frame M) = framed (frames_from e.first e.heard (sends e.note)) in
      let is = log_more old.log new.log e l.log in
      record {
        lawful =
            subst (λ z. Lawful P start 0 0 z new.state) (sym is)
            (log_grows P xs x start old.state new.state k.lawful (input_back e.seq e.ack (input e.note), messages_back e.first e.heard (sends e.note), l.is_step)
            (subst (λ q. Numbered q (counted (length (received xs)) cause) fs) (l.first ∙ k.made_is)
            (subst (λ q. Numbered e.first q fs) (l.heard ∙ ap (λ h. counted h cause) k.heard_is) (numbers e.first e.heard (sends e.note)))));
        acked = subst (λ z. Acked 0 z) (sym is) (acked_grows P xs x k.acked (subst (λ q. AckWithin q cause) k.made_is a));
        made_is =
            let m = l.made in let n = k.made_is in let q = ap length (made_more old.log new.log e l.log) in
            let s = length-append (made_by xs) fs in let t = counts e.first e.heard (sends e.note) in omega arith;
        heard_is =
            l.now_heard ∙ (l.heard ∙ (ap (λ h. counted h cause) k.heard_is ∙ (got_one_more cause (received xs) ∙ ap length (sym (received_more old.log new.log e l.log)))));
      }

  -- rest: a frame that was popped and is refused
  pub passes_grow : (d d' : Option ℕ) (old new : Place S M N) (e : Entry N) (pushed popped popped' : List (Frame M)) (rest : List (logs.Frame M))
      → Passes input sends step d old pushed popped → d ≡ None → Logs down input sends step old new e
      → framed popped' ≡ (framed popped ++ got (cause_by e.seq e.ack (input e.note))) ++ rest → (d' ≡ None → rest ≡ [])
      → Passes input sends step d' new pushed popped'
  passes_grow d d' old new e pushed popped popped' rest k up l p none =
      let xs = log_of input sends step old.log in
      let cause = cause_by e.seq e.ack (input e.note) in
      let fs : List (logs.Frame M) = framed (frames_from e.first e.heard (sends e.note)) in
      let r : received (log_of input sends step new.log) ≡ framed popped ++ got cause = received_more old.log new.log e l.log ∙ ap (λ z. z ++ got cause) (k.all_inward up) in
      record {
        outward =
            ap (λ z. framed pushed ++ z) (ap framed l.frames ∙ map-append frame_of old.waiting.frames (frames_from e.first e.heard (sends e.note)))
            ∙ (sym (append_assoc (framed pushed) (framed old.waiting.frames) fs)
            ∙ (ap (λ z. z ++ fs) k.outward ∙ sym (made_more old.log new.log e l.log)));
        inward = (rest, ap (λ z. z ++ rest) r ∙ sym p);
        all_inward = λ h. r ∙ (sym (append-nil (framed popped ++ got cause)) ∙ (ap (λ z. (framed popped ++ got cause) ++ z) (sym (none h)) ∙ sym p));
      }
