-- What a step of a side makes of its log.
use Rattle.std.proofs.Common.{◌≡◌, ℕ, suc, ◌+◌, ◌≤◌, Bool, Option, None, Some, Result, Ok, Err, List, [], ◌∷◌, ◌++◌, refl, sym, subst, arith, inl, inr}
use Rattle.std.specs.Prelude.{IfOk, IfErr, OnOk}
use Rattle.laws_merge.specs.Machine.{Input, Command, Shut, Receive}
use Rattle.laws_merge.specs.Logs.{counted}
use Rattle.link_rings.specs.declared.frame.Frame.{Frame}
use Rattle.link_rings.specs.declared.entry.Entry.{Entry}
use Rattle.link_rings.specs.Logs.{cause_by}
use Rattle.link_rings.specs.Waiting.{Held}
use Rattle.link_rings.specs.Parties.{IsOf, Obeys, Receives, Shuts}
use Rattle.link_rings.specs.Entries.{Place, LogsFrame, LogsShut, Commands, Falls, TakesOrFalls, IsRefusal}

-- a command, or a shut, receives no frame
counts_none : {C M : Type 0} (c : C) (i : Input C M) (h s a : ℕ) → IsOf c i → h ≡ counted h (cause_by s a i)
counts_none c (Command d) h s a is = refl
counts_none c Shut h s a is = refl
counts_none c (Receive m) h s a is = absurd is

counts_shut : {C M : Type 0} (i : Input C M) (h s a : ℕ) → i ≡ Shut → h ≡ counted h (cause_by s a i)
counts_shut i h s a e = subst (λ i. h ≡ counted h (cause_by s a i)) (sym e) refl

counts_one : {C M : Type 0} (i : Input C M) (m : M) (h s a : ℕ) → i ≡ Receive m → h + 1 ≡ counted h (cause_by s a i)
counts_one i m h s a e = subst (λ i. h + 1 ≡ counted h (cause_by s a i)) (sym e) (let d : h + 1 ≡ suc h = omega arith in d)

module _ {S C M N : Type 0} (down : S → Option ℕ) (input : N → Input C M) (sends : N → List M) (step : S → N → S → Type 0) where
  pub commands : {A : Type 0} (answers : C → N → A → Type 0) (old new : Place S M N) (command : C) (room : Bool) (answer : A) (note : N)
      → Obeys down input sends step old.state old.waiting command room note new.state new.waiting → answers command note answer
      → new.log ≡ old.log ++ record { note = note; seq = 0; ack = 0; first = old.waiting.made; heard = old.waiting.heard } ∷ []
      → Commands down input sends step answers old command answer new
  commands answers old new command room answer note o a l = record {
    entry = record { note = note; seq = 0; ack = 0; first = old.waiting.made; heard = old.waiting.heard };
    logs = record {
      logs = record {
        is_step = o.steps.is_step;
        log = l;
        first = refl;
        heard = counts_none command (input note) old.waiting.heard 0 0 o.is_of;
        frames = o.steps.frames;
        made = o.steps.made;
        now_heard = o.steps.heard;
      };
      is_of = o.is_of;
      shut = o.shut;
    };
    answered = a;
  }

  pub shuts : (old new : Place S M N) (number : ℕ) (note : N)
      → Shuts down input sends step old.state old.waiting number note new.state new.waiting
      → new.log ≡ old.log ++ record { note = note; seq = 0; ack = 0; first = old.waiting.made; heard = old.waiting.heard } ∷ []
      → (e : Entry N) × LogsShut down input sends step old new number e
  shuts old new number note o l = (
    record { note = note; seq = 0; ack = 0; first = old.waiting.made; heard = old.waiting.heard },
    record {
      logs = record {
        is_step = o.steps.is_step;
        log = l;
        first = refl;
        heard = counts_shut (input note) old.waiting.heard 0 0 o.is_of;
        frames = o.steps.frames;
        made = o.steps.made;
        now_heard = o.steps.heard;
      };
      is_of = o.is_of;
      down_by = o.down_by;
    },
  )

  logs_frame : (old new : Place S M N) (f : Frame M) (room : Bool) (note : N)
      → Receives down input sends step old.state (record old.waiting { heard = old.waiting.heard + 1 }) f.message room note new.state new.waiting
      → f.seq ≡ old.waiting.heard → f.ack ≤ old.waiting.made
      → new.log ≡ old.log ++ record { note = note; seq = f.seq; ack = f.ack; first = old.waiting.made; heard = old.waiting.heard + 1 } ∷ []
      → LogsFrame down input sends step old new f (record { note = note; seq = f.seq; ack = f.ack; first = old.waiting.made; heard = old.waiting.heard + 1 })
  logs_frame old new f room note o s a l = record {
    logs = record {
      is_step = o.steps.is_step;
      log = l;
      first = refl;
      heard = counts_one (input note) f.message old.waiting.heard f.seq f.ack o.is_of;
      frames = o.steps.frames;
      made = o.steps.made;
      now_heard = o.steps.heard;
    };
    is_of = o.is_of;
    seq = refl;
    ack = refl;
    seq_is = s;
    ack_within = a;
  }

  pub takes : {E : Type 0} (tells : N → E → Type 0) (old new : Place S M N) (f : Frame M) (room : Bool) (note : N) (told : Result E ℕ) (mid : Held M)
      → mid ≡ record old.waiting { heard = old.waiting.heard + 1 }
      → Receives down input sends step old.state mid f.message room note new.state new.waiting
      → OnOk told (down new.state ≡ None) → IfOk told (tells note) → IfErr told (λ n. down new.state ≡ Some n)
      → f.seq ≡ old.waiting.heard → f.ack ≤ old.waiting.made
      → new.log ≡ old.log ++ record { note = note; seq = f.seq; ack = f.ack; first = old.waiting.made; heard = mid.heard } ∷ []
      → TakesOrFalls down input sends step tells old f told new
  takes tells old new f room note (Ok fx) mid m o up t fell s a l = record {
    entry = record { note = note; seq = f.seq; ack = f.ack; first = old.waiting.made; heard = old.waiting.heard + 1 };
    logs = logs_frame old new f room note (subst (λ w. Receives down input sends step old.state w f.message room note new.state new.waiting) m o) s a
        (subst (λ (w : Held M). new.log ≡ old.log ++ record { note = note; seq = f.seq; ack = f.ack; first = old.waiting.made; heard = w.heard } ∷ []) m l);
    up = up;
    told = t;
  }
  takes tells old new f room note (Err n) mid m o up t fell s a l = record {
    entry = record { note = note; seq = f.seq; ack = f.ack; first = old.waiting.made; heard = old.waiting.heard + 1 };
    logs = inl (logs_frame old new f room note (subst (λ w. Receives down input sends step old.state w f.message room note new.state new.waiting) m o) s a
        (subst (λ (w : Held M). new.log ≡ old.log ++ record { note = note; seq = f.seq; ack = f.ack; first = old.waiting.made; heard = w.heard } ∷ []) m l));
    down_by = fell;
  }

  pub falls : (old new : Place S M N) (f : Frame M) (n : ℕ) → ((e : Entry N) × LogsShut down input sends step old new n e) → IsRefusal old.waiting f n → Falls down input sends step old f n new
  falls old new f n l r = record { entry = l.0; logs = inr (l.1, r); down_by = (l.1).down_by }
