-- More bytes come, or the stream ends.
use Rattle.std.proofs.Common.{◌≡◌, ℕ, Bool, true, false, List, Option, Some, None, is_some, refl, sym, subst}
use Rattle.capn_fronts.specs.Parts.{nothing}
use Rattle.vat_connection.specs.declared.load.Limits.{Limits}
use Rattle.vat_connection.specs.Speaking.{Speaking}
use Rattle.vat_connection.specs.Hearing.{ComesBehind, Follows, FollowsBy, Inflow, IsOver, Rests, ends_with}
use Rattle.vat_connection.specs.Connecting.{Connected, EndsStream, Finishes, down}

pub none_of : (d : Option ℕ) → is_some d ≡ false → d ≡ None
none_of None is = refl
none_of (Some n) is = absurd (let e : ◌≡◌ {A = Bool} true false = is in cc)

-- A vat that is down drops what comes.
pub down_drops : (l : Limits) (s : Speaking) (i : Inflow) (bytes : List ℕ) → is_some s.host.core.down ≡ true → Follows l s i bytes s i
down_drops l s i bytes is = by s.host.core.down is
  where
    by : (d : Option ℕ) → is_some d ≡ true → FollowsBy d i.over l s i bytes s i
    by None is = absurd (let e : ◌≡◌ {A = Bool} false true = is in cc)
    by (Some n) is = (refl, refl)

-- So does one whose stream is over.
pub over_drops : (l : Limits) (s : Speaking) (i : Inflow) (bytes : List ℕ) → is_some i.over ≡ true → Follows l s i bytes s i
over_drops l s i bytes is = by s.host.core.down i.over is
  where
    by : (d o : Option ℕ) → is_some o ≡ true → FollowsBy d o l s i bytes s i
    by d None is = absurd (let e : ◌≡◌ {A = Bool} false true = is in cc)
    by None (Some n) is = (refl, refl)
    by (Some m) (Some n) is = (refl, refl)

-- Else what comes is heard.
pub up_hears : (l : Limits) (s new : Speaking) (i later : Inflow) (bytes : List ℕ) → s.host.core.down ≡ None → i.over ≡ None → ComesBehind l s i bytes new later → Follows l s i bytes new later
up_hears l s new i later bytes up still comes =
    subst (λ (d : Option ℕ). FollowsBy d i.over l s i bytes new later) (sym up) (subst (λ (o : Option ℕ). FollowsBy None o l s i bytes new later) (sym still) comes)

-- The end of a stream says nothing to a vat that is down, or whose stream is over.
pub down_ends : (c : Connected) → is_some (down c) ≡ true → Finishes c c
down_ends c is = by (down c) is
  where
    by : (d : Option ℕ) → is_some d ≡ true → EndsStream d c.inflow.over c c
    by None is = absurd (let e : ◌≡◌ {A = Bool} false true = is in cc)
    by (Some n) is = refl

pub over_ends : (c : Connected) → is_some c.inflow.over ≡ true → Finishes c c
over_ends c is = by (down c) c.inflow.over is
  where
    by : (d o : Option ℕ) → is_some o ≡ true → EndsStream d o c c
    by d None is = absurd (let e : ◌≡◌ {A = Bool} false true = is in cc)
    by None (Some n) is = refl
    by (Some m) (Some n) is = refl

-- Else it is over, and a vat of which no frame waits goes down.
pub up_ends : (old new : Connected) (mid : Inflow) (n : ℕ) → down old ≡ None → old.inflow.over ≡ None → n ≡ ends_with old.inflow.waiting → mid ≡ record (old.inflow) { waiting = nothing; over = Some n }
    → Rests old.speaker mid.unheard mid.waiting mid.over new.speaker new.inflow → new ≡ record old { speaker = new.speaker; inflow = new.inflow } → Finishes old new
up_ends old new mid n up still is_number is rests rest =
    subst (λ (d : Option ℕ). EndsStream d old.inflow.over old new) (sym up)
    (subst (λ (o : Option ℕ). EndsStream None o old new) (sym still) (
      subst (λ (k : ℕ). IsOver old.speaker old.inflow.unheard nothing k new.speaker new.inflow) is_number
          (subst (λ (i : Inflow). Rests old.speaker i.unheard i.waiting i.over new.speaker new.inflow) is rests),
      rest,
    ))
