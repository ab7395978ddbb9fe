-- What holds of a log and its side.
use Rattle.std.specs.Prelude.{◌≡◌, ℕ, Option, None, List, ◌++◌, length}
use Rattle.laws_merge.specs.Machine.{Input}
use Rattle.laws_merge.specs.Logs.{received, made_by, Lawful, Acked, IsBeginningOf}
use Rattle.link_rings.specs.declared.frame.Frame.{Frame}
use Rattle.link_rings.specs.Logs.{party, log_of, framed}
use Rattle.link_rings.specs.Entries.{Place}

module _ {S C M N : Type 0} (input : N → Input C M) (sends : N → List M) (step : S → N → S → Type 0) where
  -- The log is lawful from the state in which the side was handed in to the state as it is, its acks were looked at, and
  -- the counts are its.
  pub record Runs (start : S) (p : Place S M N) : Type 0 where
    pub lawful : Lawful (party input sends step) start 0 0 (log_of input sends step p.log) p.state
    pub acked : Acked 0 (log_of input sends step p.log)
    pub made_is : p.waiting.made ≡ length (made_by (log_of input sends step p.log))
    pub heard_is : p.waiting.heard ≡ length (received (log_of input sends step p.log))

  -- The frames that were pushed, and then those that wait, are those that the log made. Those that the log received are
  -- a beginning of those popped, and all of them while the side is up.
  pub record Passes (down : Option ℕ) (p : Place S M N) (pushed popped : List (Frame M)) : Type 0 where
    pub outward : framed pushed ++ framed p.waiting.frames ≡ made_by (log_of input sends step p.log)
    pub inward : IsBeginningOf (received (log_of input sends step p.log)) (framed popped)
    pub all_inward : down ≡ None → received (log_of input sends step p.log) ≡ framed popped
