-- A side with its log and its ends of two rings.
use Rattle.std.specs.Prelude.{◌≡◌, ℕ, ◌+◌, ◌≤◌, ◌⊎◌, Option, None, Some, List, [], ◌∷◌, ◌++◌, length}
use Rattle.laws_merge.specs.Machine.{Input}
use Rattle.rtrb.specs.Ring.{sent, received, known_items, known_free, IsPair, SameProducer, SameConsumer}
use Rattle.rtrb.specs.declared.producer.Producer.{Producer}
use Rattle.rtrb.specs.declared.consumer.Consumer.{Consumer}
use Rattle.rtrb.specs.declared.AnyItems.{AnyItems}
use Rattle.std.specs.declared.alloc.Global.{Global}
use Rattle.link_rings.specs.declared.frame.Frame.{Frame}
use Rattle.link_rings.specs.declared.entry.Entry.{Entry}
use Rattle.link_rings.specs.declared.turn.Turn.{Turn}
use Rattle.link_rings.specs.declared.turn.Turn.TheVariants.{Idle, Handled, Down}
use Rattle.link_rings.specs.Waiting.{Held}
use Rattle.link_rings.specs.Entries.{Place, Takes, Falls}
use Rattle.link_rings.specs.Kept.{Runs, Passes}

-- The side as it was handed in, the side as it is, its log, the frames that wait, and its ends of the two rings.
pub record Ended (P M N : Type 0) : Type 0 where
  pub start : P
  pub side : P
  pub log : List (Entry N)
  pub waiting : Held M
  pub producer : Producer (Frame M) Global AnyItems
  pub consumer : Consumer (Frame M) Global AnyItems

abbrev pub place : {P S M N : Type 0} → (P → S) → Ended P M N → Place S M N
place state s = record { state = state s.side; log = s.log; waiting = s.waiting }

module _ {P M N : Type 0} where
  -- What each of the two pushes is for the other to pop.
  abbrev pub AreLinked : Ended P M N → Ended P M N → Type 0
  AreLinked x y = IsPair x.producer y.consumer × IsPair y.producer x.consumer

  -- The same end of the same two rings, with the side that was handed in.
  abbrev pub IsSameEnd : Ended P M N → Ended P M N → Type 0
  IsSameEnd x y = SameProducer x.producer y.producer × SameConsumer x.consumer y.consumer × (y.start ≡ x.start)

  -- A new end of this side.
  pub record IsNew (side : P) (e : Ended P M N) : Type 0 where
    pub start : e.start ≡ side
    pub side_is : e.side ≡ side
    pub log : e.log ≡ []
    pub waiting : e.waiting ≡ record { frames = []; made = 0; heard = 0; room = 1 }
    pub pushed : sent e.producer ≡ []
    pub popped : received e.consumer ≡ []

  -- Its side, its log, the frames that wait and what was pushed stay.
  pub record Stays (old new : Ended P M N) : Type 0 where
    pub side : new.side ≡ old.side
    pub log : new.log ≡ old.log
    pub waiting : new.waiting ≡ old.waiting
    pub pushed : sent new.producer ≡ sent old.producer

  -- As many frames left as fewer wait, each in its order, and as many as the producer knew free slots for, or all.
  pub record Flushes (old : Ended P M N) (count : ℕ) (new : Ended P M N) : Type 0 where
    pub side : new.side ≡ old.side
    pub log : new.log ≡ old.log
    pub popped : received new.consumer ≡ received old.consumer
    pub counted : count + length new.waiting.frames ≡ length old.waiting.frames
    pub in_order : sent new.producer ++ new.waiting.frames ≡ sent old.producer ++ old.waiting.frames
    pub enough : (known_free old.producer ≤ count) ⊎ (new.waiting.frames ≡ [])

module _ {P S C M N : Type 0} (state : P → S) (down : S → Option ℕ) (input : N → Input C M) (sends : N → List M) (step : S → N → S → Type 0) where
  -- One frame was popped, and that happened with it.
  pub record Pops (Happens : Frame M → Type 0) (old new : Ended P M N) : Type 0 where
    pub frame : Frame M
    pub popped : received new.consumer ≡ received old.consumer ++ frame ∷ []
    pub pushed : sent new.producer ≡ sent old.producer
    pub happens : Happens frame

  -- A turn of an end that is up: it pops none, and knew of none; or it takes one; or it pops one and is then down.
  -- One that is down stays as it is, and pops none.
  abbrev pub Turns : {E : Type 0} → (N → E → Type 0) → Option ℕ → Ended P M N → Turn E → Ended P M N → Type 0
  Turns tells None old Idle new = Stays old new × (received new.consumer ≡ received old.consumer) × (known_items old.consumer ≡ [])
  Turns tells None old (Handled effects) new = Pops (λ f. Takes down input sends step tells (place state old) f effects (place state new)) old new
  Turns tells None old (Down n) new = Pops (λ f. Falls down input sends step (place state old) f n (place state new)) old new
  Turns tells (Some m) old Idle new = ⊥
  Turns tells (Some m) old (Handled effects) new = ⊥
  Turns tells (Some m) old (Down n) new = (n ≡ m) × (new ≡ old)

  -- What holds of every end.
  pub record Holds (e : Ended P M N) : Type 0 where
    pub runs : Runs input sends step (state e.start) (place state e)
    pub passes : Passes input sends step (down (state e.side)) (place state e) (sent e.producer) (received e.consumer)
