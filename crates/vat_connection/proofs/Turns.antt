-- A vat hears frames in turn.
use Rattle.std.proofs.Common.{◌≡◌, ℕ, Bool, true, false, List, [], ◌∷◌, ◌++◌, length, ◌==◌, Option, Some, None, inl, inr, IsSome, is_some, refl, sym, ap, subst, ◌∙◌}
use Rattle.std.proofs.Math.Dec.{eqb-suc-zero}
use Rattle.capn_fronts.specs.Parts.{IsWhole, Part}
use Rattle.vat_connection.specs.declared.load.Limits.{Limits}
use Rattle.vat_connection.specs.Speaking.{Speaking, Falls, HearsUp, Says, want_of_room}
use Rattle.vat_connection.specs.Hearing.{HearsInTurn, Inflow, IsOver, IsReady, Leaves, Rests, left_by, may_hear, nothing_in}
use Rattle.vat_connection.specs.Hearing.HearsInTurn.{All, Saying, Oldest, Above, Down, Lacking}
use Rattle.vat_connection.proofs.Falling.{falls_down}
use Rattle.vat_connection.proofs.Saying.{says_all}

both_down : {A : Type 0} (d : Option ℕ) (n : ℕ) → d ≡ None → d ≡ Some n → A
both_down d n up down = absurd (let e : ◌≡◌ {A = Option ℕ} None (Some n) = sym up ∙ down in cc)

some_down : {A : Type 0} (d : Option ℕ) → d ≡ None → IsSome d → A
some_down None up is = absurd (let e : ◌≡◌ {A = Bool} false true = is in cc)
some_down (Some n) up is = absurd (let e : ◌≡◌ {A = Option ℕ} None (Some n) = sym up in cc)

left_down : (d : Option ℕ) (frames : List Part) → IsSome d → left_by d frames ≡ []
left_down None frames is = absurd (let e : ◌≡◌ {A = Bool} false true = is in cc)
left_down (Some n) frames is = refl

left_up : (d : Option ℕ) (frames : List Part) → d ≡ None → left_by d frames ≡ frames
left_up None frames is = refl
left_up (Some n) frames is = absurd (let e : ◌≡◌ {A = Option ℕ} None (Some n) = sym is in cc)

-- A vat that is ready hears the oldest.
pub heard : (l : Limits) (s said mid new : Speaking) (left : List Part) (frame : Part) (frames : List Part) → IsReady l s true said → IsWhole frame → HearsUp said frame mid
    → HearsInTurn l new left mid frames → HearsInTurn l new left s (frame ∷ frames)
heard l s said mid new left frame frames (up, (says, still, may)) whole hears more =
    Saying frame frames up says (Oldest frame frames still (says_all said s says) may whole hears more)

-- One that is not hears none.
pub not_heard : (l : Limits) (s said : Speaking) (frame : Part) (frames : List Part) → IsReady l s false said
    → HearsInTurn l said (left_by said.host.core.down (frame ∷ frames)) s (frame ∷ frames)
not_heard l s said frame frames (inl (down, same)) =
    Down frame frames down same (left_down said.host.core.down (frame ∷ frames) (subst (λ (x : Speaking). IsSome x.host.core.down) (sym same) down))
not_heard l s said frame frames (inr (up, (says, inl down))) =
    Saying frame frames up says (Down frame frames down refl (left_down said.host.core.down (frame ∷ frames) down))
not_heard l s said frame frames (inr (up, (says, inr (still, above)))) =
    Saying frame frames up says (Above frame frames still (says_all said s says) above refl (left_up said.host.core.down (frame ∷ frames) still))

-- Frames that come behind those that were left are heard in turn with them.
pub joined : (l : Limits) (mid new : Speaking) (left : List Part) (s : Speaking) (first more last : List Part) → HearsInTurn l mid left s first → mid.host.core.down ≡ None
    → HearsInTurn l new last mid (left ++ more) → HearsInTurn l new last s (first ++ more)
joined l mid new left s [] more last (All same none) up then =
    subst (λ (x : Speaking). HearsInTurn l new last x more) same (subst (λ (fs : List Part). HearsInTurn l new last mid (fs ++ more)) none then)
joined l mid new left s (f ∷ fs) more last (Saying {said = said} frame frames is_up says turn) up then =
    Saying frame (frames ++ more) is_up says (joined l mid new left said (frame ∷ frames) more last turn up then)
joined l mid new left s (f ∷ fs) more last (Oldest {mid = next} frame frames is_up silent may whole hears turn) up then =
    Oldest frame (frames ++ more) is_up silent may whole hears (joined l mid new left next frames more last turn up then)
joined l mid new left s (f ∷ fs) more last (Above frame frames is_up silent above same is) up then =
    subst (λ (x : Speaking). HearsInTurn l new last x (frame ∷ (frames ++ more))) same (subst (λ (fs : List Part). HearsInTurn l new last mid (fs ++ more)) is then)
joined l mid new left s (f ∷ fs) more last (Down frame frames down same none) up then =
    some_down mid.host.core.down up (subst (λ (x : Speaking). IsSome x.host.core.down) (sym same) down)
joined l mid new left s (f ∷ fs) more last (Lacking frame frames is_up falls none) up then =
    both_down mid.host.core.down want_of_room up (falls_down s mid want_of_room is_up falls)

-- ---- for the functions that do it

pub left_none : (d : Option ℕ) → left_by d [] ≡ []
left_none None = refl
left_none (Some n) = refl

pub none_left : (frames : List Part) → (length frames == 0) ≡ true → frames ≡ []
none_left [] is = refl
none_left (f ∷ fs) is = absurd (let e : ◌≡◌ {A = Bool} false true = sym (eqb-suc-zero (length fs)) ∙ is in cc)

-- No frame waits, or none is left.
pub all_heard : (l : Limits) (s : Speaking) (frames : List Part) → (length frames == 0) ≡ true → HearsInTurn l s (left_by s.host.core.down frames) s frames
all_heard l s frames is =
    subst (λ (fs : List Part). HearsInTurn l s (left_by s.host.core.down fs) s fs) (sym (none_left frames is)) (All refl (left_none s.host.core.down))

-- Frames wait, and none is heard.
pub none_heard : (l : Limits) (s said : Speaking) (frames : List Part) → (length frames == 0) ≡ false → IsReady l s false said
    → HearsInTurn l said (left_by said.host.core.down frames) s frames
none_heard l s said [] some ready = absurd (let e : ◌≡◌ {A = Bool} true false = some in cc)
none_heard l s said (f ∷ fs) some ready = not_heard l s said f fs ready

-- The oldest of those that wait is heard.
pub oldest_heard : (l : Limits) (s said mid new : Speaking) (left : List Part) (frame : Part) (before after : Inflow) → IsReady l s true said
    → before ≡ record after { unheard = frame ∷ after.unheard } → IsWhole frame → HearsUp said frame mid → HearsInTurn l new left mid after.unheard → HearsInTurn l new left s before.unheard
oldest_heard l s said mid new left frame before after ready is whole hears more =
    subst (λ (i : Inflow). HearsInTurn l new left s i.unheard) (sym is) (heard l s said mid new left frame after.unheard ready whole hears more)

pub popped : (first before after : Inflow) (frame : Part) → before ≡ record first { unheard = before.unheard } → before ≡ record after { unheard = frame ∷ after.unheard } → after ≡ record first { unheard = after.unheard }
popped first before after frame is taken =
    let there : record after { unheard = frame ∷ after.unheard } ≡ record first { unheard = before.unheard } = sym taken ∙ is in
    ap (λ (i : Inflow). record i { unheard = after.unheard }) there

pub leaves_down : (d : Option ℕ) (mid new : Speaking) (left : List Part) (waiting : Part) (over : Option ℕ) (later : Inflow) → is_some d ≡ true → new ≡ mid → later ≡ nothing_in
    → Leaves d mid left waiting over new later
leaves_down None mid new left waiting over later is same none = absurd (let e : ◌≡◌ {A = Bool} false true = is in cc)
leaves_down (Some n) mid new left waiting over later is same none = (same, none)

pub leaves_up : (d : Option ℕ) (mid new : Speaking) (frames : List Part) (first heard later : Inflow) → is_some d ≡ false → heard ≡ record first { unheard = frames }
    → Rests mid heard.unheard heard.waiting heard.over new later → Leaves d mid (left_by d frames) first.waiting first.over new later
leaves_up (Some n) mid new frames first heard later is same rests = absurd (let e : ◌≡◌ {A = Bool} true false = is in cc)
leaves_up None mid new frames first heard later is same rests = subst (λ (i : Inflow). Rests mid i.unheard i.waiting i.over new later) same rests

up_by : (d : Option ℕ) → is_some d ≡ false → d ≡ None
up_by None is = refl
up_by (Some n) is = absurd (let e : ◌≡◌ {A = Bool} true false = is in cc)

pub ready_down : (l : Limits) (s : Speaking) → is_some s.host.core.down ≡ true → IsReady l s false s
ready_down l s is = inl (is, refl)

pub ready_fell : (l : Limits) (s said : Speaking) → is_some s.host.core.down ≡ false → Says s said → is_some said.host.core.down ≡ true → IsReady l s false said
ready_fell l s said up says is = inr (up_by s.host.core.down up, (says, inl is))

pub ready : (l : Limits) (s said : Speaking) (may : Bool) → is_some s.host.core.down ≡ false → Says s said → is_some said.host.core.down ≡ false → may ≡ may_hear l said → IsReady l s may said
ready l s said true up says still is = (up_by s.host.core.down up, (says, up_by said.host.core.down still, sym is))
ready l s said false up says still is = inr (up_by s.host.core.down up, (says, inr (up_by said.host.core.down still, sym is)))

-- Frames wait: nothing more comes of it.
pub rests_kept : (s : Speaking) (i : Inflow) → (length i.unheard == 0) ≡ false → Rests s i.unheard i.waiting i.over s i
rests_kept s i some = by i.unheard i.over some refl refl
  where
    by : (frames : List Part) (o : Option ℕ) → (length frames == 0) ≡ false → i.unheard ≡ frames → i.over ≡ o → Rests s i.unheard i.waiting i.over s i
    by [] o some is over = absurd (let e : ◌≡◌ {A = Bool} true false = some in cc)
    by (f ∷ fs) None some is over = subst (λ (o : Option ℕ). Rests s i.unheard i.waiting o s i) (sym over) (refl, ap (λ (o : Option ℕ). record i { over = o }) over)
    by (f ∷ fs) (Some n) some is over =
        subst (λ (o : Option ℕ). Rests s i.unheard i.waiting o s i) (sym over)
        (subst (λ (us : List Part). IsOver s us i.waiting n s i) (sym is) (refl, ap (λ (us : List Part). record i { unheard = us }) is ∙ ap (λ (o : Option ℕ). record { unheard = f ∷ fs; waiting = i.waiting; over = o }) over))

-- The stream goes on: nothing more comes of it.
pub rests_on : (s : Speaking) (i : Inflow) → i.over ≡ None → Rests s i.unheard i.waiting i.over s i
rests_on s i on = subst (λ (o : Option ℕ). Rests s i.unheard i.waiting o s i) (sym on) (refl, ap (λ (o : Option ℕ). record i { over = o }) on)

-- It is over, and no frame waits: the vat goes down.
pub rests_over : (s new : Speaking) (i later : Inflow) (n : ℕ) → (length i.unheard == 0) ≡ true → i.over ≡ Some n → Falls s n new → later ≡ nothing_in → Rests s i.unheard i.waiting i.over new later
rests_over s new i later n none over falls nothing =
    subst (λ (o : Option ℕ). Rests s i.unheard i.waiting o new later) (sym over)
    (subst (λ (us : List Part). IsOver s us i.waiting n new later) (sym (none_left i.unheard none)) (falls, nothing))
