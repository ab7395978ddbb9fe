-- What holds of a seat and of an end goes on to hold.
use Rattle.std.proofs.Common.{◌≡◌, ℕ, ◌≤◌, ◌⊎◌, Option, None, Some, Result, Ok, Err, List, [], ◌∷◌, ◌++◌, refl, sym, ap, subst, ◌∙◌, append_assoc, append-nil, inl, inr}
use Rattle.std.proofs.lemmas.List.{map-append}
use Rattle.laws_merge.specs.Machine.{Input, Command, Shut, Receive}
use Rattle.laws_merge.specs.Logs.{got, received, made_by, AckWithin}
use Rattle.link_rings.specs.declared.frame.Frame.{Frame}
use Rattle.link_rings.specs.declared.entry.Entry.{Entry}
use Rattle.link_rings.specs.Logs.{frame_of, framed, cause_by, log_of}
use Rattle.link_rings.specs.Waiting.{frames_from}
use Rattle.link_rings.specs.Parties.{IsOf}
use Rattle.link_rings.specs.Entries.{Place, Logs, LogsFrame, LogsShut, IsRefusal, Commands, TakesOrFalls}
use Rattle.link_rings.specs.Kept.{Runs, Passes}
use Rattle.link_rings.specs.Seats.{Sits}
use Rattle.link_rings.proofs.Growing.{made_more, runs_grow, passes_grow}

got_none : {C M : Type 0} (c : C) (i : Input C M) (s a : ℕ) → IsOf c i → got (cause_by s a i) ≡ []
got_none c (Command d) s a is = refl
got_none c Shut s a is = refl
got_none c (Receive m) s a is = absurd is

within_none : {C M : Type 0} (c : C) (i : Input C M) (s a k : ℕ) → IsOf c i → AckWithin k (cause_by s a i)
within_none c (Command d) s a k is = tt
within_none c Shut s a k is = tt
within_none c (Receive m) s a k is = absurd is

got_shut : {C M : Type 0} (i : Input C M) (s a : ℕ) → i ≡ Shut → got (cause_by s a i) ≡ []
got_shut i s a e = subst (λ i. got (cause_by s a i) ≡ []) (sym e) refl

within_shut : {C M : Type 0} (i : Input C M) (s a k : ℕ) → i ≡ Shut → AckWithin k (cause_by s a i)
within_shut i s a k e = subst (λ i. AckWithin k (cause_by s a i)) (sym e) tt

got_frame : {C M : Type 0} (i : Input C M) (f : Frame M) (s a : ℕ) → i ≡ Receive f.message → s ≡ f.seq → a ≡ f.ack → got (cause_by s a i) ≡ frame_of f ∷ []
got_frame i f s a e es ea =
    subst (λ i. got (cause_by s a i) ≡ frame_of f ∷ []) (sym e)
    (ap (λ q. record { seq = q; ack = a; message = f.message } ∷ []) es ∙ ap (λ q. record { seq = f.seq; ack = q; message = f.message } ∷ []) ea)

within_frame : {C M : Type 0} (i : Input C M) (m : M) (s a k : ℕ) → i ≡ Receive m → a ≤ k → AckWithin k (cause_by s a i)
within_frame i m s a k e l = subst (λ i. AckWithin k (cause_by s a i)) (sym e) l

module _ {S C M N : Type 0} (down : S → Option ℕ) (input : N → Input C M) (sends : N → List M) (step : S → N → S → Type 0) where
  pub runs_command : {A : Type 0} (answers : C → N → A → Type 0) (start : S) (old new : Place S M N) (c : C) (a : A) → Runs input sends step start old → Commands down input sends step answers old c a new → Runs input sends step start new
  runs_command answers start old new c a k h =
      let e = h.entry in runs_grow down input sends step start old new e k h.logs.logs (within_none c (input e.note) e.seq e.ack old.waiting.made h.logs.is_of)

  runs_frame : (start : S) (old new : Place S M N) (f : Frame M) (e : Entry N) → Runs input sends step start old → LogsFrame down input sends step old new f e → Runs input sends step start new
  runs_frame start old new f e k h =
      runs_grow down input sends step start old new e k h.logs
      (within_frame (input e.note) f.message e.seq e.ack old.waiting.made h.is_of (subst (λ q. q ≤ old.waiting.made) (sym h.ack) h.ack_within))

  runs_falls : (start : S) (old new : Place S M N) (f : Frame M) (n : ℕ) (e : Entry N) → Runs input sends step start old → LogsFrame down input sends step old new f e ⊎ (LogsShut down input sends step old new n e × IsRefusal old.waiting f n) → Runs input sends step start new
  runs_falls start old new f n e k (inl h) = runs_frame start old new f e k h
  runs_falls start old new f n e k (inr h) = runs_grow down input sends step start old new e k (h.0).logs (within_shut (input e.note) e.seq e.ack old.waiting.made (h.0).is_of)

  pub runs_take : {E : Type 0} (tells : N → E → Type 0) (start : S) (old new : Place S M N) (f : Frame M) (r : Result E ℕ) → Runs input sends step start old → TakesOrFalls down input sends step tells old f r new → Runs input sends step start new
  runs_take tells start old new f (Ok fx) k h = runs_frame start old new f h.entry k h.logs
  runs_take tells start old new f (Err n) k h = runs_falls start old new f n h.entry k h.logs

  passes_quiet : (d d' : Option ℕ) (old new : Place S M N) (e : Entry N) (pushed popped : List (Frame M))
      → Passes input sends step d old pushed popped → d ≡ None → Logs down input sends step old new e → got (cause_by e.seq e.ack (input e.note)) ≡ []
      → Passes input sends step d' new pushed popped
  passes_quiet d d' old new e pushed popped k up l none =
      passes_grow down input sends step d d' old new e pushed popped popped [] k up l
      (sym (append-nil (framed popped ++ got (cause_by e.seq e.ack (input e.note))) ∙ (ap (λ z. framed popped ++ z) none ∙ append-nil (framed popped)))) (λ _. refl)

  pub passes_command : {A : Type 0} (answers : C → N → A → Type 0) (d d' : Option ℕ) (old new : Place S M N) (pushed popped : List (Frame M)) (c : C) (a : A)
      → Passes input sends step d old pushed popped → d ≡ None → Commands down input sends step answers old c a new → Passes input sends step d' new pushed popped
  passes_command answers d d' old new pushed popped c a k up h =
      let e = h.entry in passes_quiet d d' old new e pushed popped k up h.logs.logs (got_none c (input e.note) e.seq e.ack h.logs.is_of)

  passes_frame : (d d' : Option ℕ) (old new : Place S M N) (pushed popped popped' : List (Frame M)) (f : Frame M) (e : Entry N)
      → Passes input sends step d old pushed popped → d ≡ None → LogsFrame down input sends step old new f e → popped' ≡ popped ++ f ∷ []
      → Passes input sends step d' new pushed popped'
  passes_frame d d' old new pushed popped popped' f e k up h p =
      passes_grow down input sends step d d' old new e pushed popped popped' [] k up h.logs
      (ap framed p ∙ (map-append frame_of popped (f ∷ [])
      ∙ (ap (λ z. framed popped ++ z) (sym (got_frame (input e.note) f e.seq e.ack h.is_of h.seq h.ack))
      ∙ sym (append-nil (framed popped ++ got (cause_by e.seq e.ack (input e.note)))))))
      (λ _. refl)

  -- the frame was popped, and is refused
  passes_refused : (d : Option ℕ) (n : ℕ) (old new : Place S M N) (pushed popped popped' : List (Frame M)) (f : Frame M) (e : Entry N)
      → Passes input sends step d old pushed popped → d ≡ None → LogsShut down input sends step old new n e → popped' ≡ popped ++ f ∷ []
      → Passes input sends step (Some n) new pushed popped'
  passes_refused d n old new pushed popped popped' f e k up h p =
      passes_grow down input sends step d (Some n) old new e pushed popped popped' (frame_of f ∷ []) k up h.logs
      (ap framed p ∙ (map-append frame_of popped (f ∷ [])
      ∙ ap (λ z. z ++ frame_of f ∷ []) (sym (ap (λ z. framed popped ++ z) (got_shut (input e.note) e.seq e.ack h.is_of) ∙ append-nil (framed popped)))))
      (λ h. absurd (cc))

  passes_falls : (d : Option ℕ) (n : ℕ) (old new : Place S M N) (pushed popped popped' : List (Frame M)) (f : Frame M) (e : Entry N)
      → Passes input sends step d old pushed popped → d ≡ None → LogsFrame down input sends step old new f e ⊎ (LogsShut down input sends step old new n e × IsRefusal old.waiting f n) → popped' ≡ popped ++ f ∷ []
      → Passes input sends step (Some n) new pushed popped'
  passes_falls d n old new pushed popped popped' f e k up (inl h) p = passes_frame d (Some n) old new pushed popped popped' f e k up h p
  passes_falls d n old new pushed popped popped' f e k up (inr h) p = passes_refused d n old new pushed popped popped' f e k up (h.0) p

  pub passes_take : {E : Type 0} (tells : N → E → Type 0) (d : Option ℕ) (old new : Place S M N) (pushed popped popped' : List (Frame M)) (f : Frame M) (r : Result E ℕ)
      → Passes input sends step d old pushed popped → d ≡ None → TakesOrFalls down input sends step tells old f r new → popped' ≡ popped ++ f ∷ []
      → Passes input sends step (down new.state) new pushed popped'
  passes_take tells d old new pushed popped popped' f (Ok fx) k up h p = passes_frame d (down new.state) old new pushed popped popped' f h.entry k up h.logs p
  passes_take tells d old new pushed popped popped' f (Err n) k up h p =
      subst (λ d'. Passes input sends step d' new pushed popped') (sym h.down_by) (passes_falls d n old new pushed popped popped' f h.entry k up h.logs p)

  -- the first of the frames that wait is pushed
  pub passes_push : (d : Option ℕ) (old new : Place S M N) (pushed pushed' popped : List (Frame M)) (f : Frame M)
      → Passes input sends step d old pushed popped → new.log ≡ old.log → old.waiting.frames ≡ f ∷ new.waiting.frames → pushed' ≡ pushed ++ f ∷ []
      → Passes input sends step d new pushed' popped
  passes_push d old new pushed pushed' popped f k l w p = record {
    outward =
        ap (λ z. framed z ++ framed new.waiting.frames) p
        ∙ (ap (λ z. z ++ framed new.waiting.frames) (map-append frame_of pushed (f ∷ []))
        ∙ (append_assoc (framed pushed) (frame_of f ∷ []) (framed new.waiting.frames)
        ∙ (ap (λ z. framed pushed ++ framed z) (sym w) ∙ (k.outward ∙ ap (λ z. made_by (log_of input sends step z)) (sym l)))));
    inward = (k.inward.0, ap (λ z. received (log_of input sends step z) ++ k.inward.0) l ∙ k.inward.1);
    all_inward = λ h. ap (λ z. received (log_of input sends step z)) l ∙ k.all_inward h;
  }

  -- all that a seat made
  pub sits_grow : (start : S) (old new : Place S M N) (e : Entry N) → Runs input sends step start new → framed old.waiting.frames ≡ made_by (log_of input sends step old.log) → Logs down input sends step old new e → Sits input sends step start new
  sits_grow start old new e k m l = record {
    runs = k;
    all_made =
        ap framed l.frames ∙ (map-append frame_of old.waiting.frames (frames_from e.first e.heard (sends e.note))
        ∙ (ap (λ z. z ++ framed (frames_from e.first e.heard (sends e.note))) m ∙ sym (made_more down input sends step old.log new.log e l.log)));
  }

  pub sits_command : {A : Type 0} (answers : C → N → A → Type 0) (start : S) (old new : Place S M N) (c : C) (a : A) → Sits input sends step start old → Commands down input sends step answers old c a new → Sits input sends step start new
  sits_command answers start old new c a k h = sits_grow start old new h.entry (runs_command answers start old new c a k.runs h) k.all_made h.logs.logs

  sits_falls : (start : S) (old new : Place S M N) (f : Frame M) (n : ℕ) (e : Entry N) → Sits input sends step start old → LogsFrame down input sends step old new f e ⊎ (LogsShut down input sends step old new n e × IsRefusal old.waiting f n) → Sits input sends step start new
  sits_falls start old new f n e k (inl h) = sits_grow start old new e (runs_frame start old new f e k.runs h) k.all_made h.logs
  sits_falls start old new f n e k (inr h) = sits_grow start old new e (runs_falls start old new f n e k.runs (inr h)) k.all_made (h.0).logs

  pub sits_take : {E : Type 0} (tells : N → E → Type 0) (start : S) (old new : Place S M N) (f : Frame M) (r : Result E ℕ) → Sits input sends step start old → TakesOrFalls down input sends step tells old f r new → Sits input sends step start new
  sits_take tells start old new f (Ok fx) k h = sits_grow start old new h.entry (runs_frame start old new f h.entry k.runs h.logs) k.all_made h.logs.logs
  sits_take tells start old new f (Err n) k h = sits_falls start old new f n h.entry k h.logs
