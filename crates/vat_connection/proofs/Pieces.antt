-- Two pieces are heard as one.
use Rattle.std.proofs.Common.{◌≡◌, ℕ, List, [], ◌∷◌, ◌++◌, Option, Some, None, inl, inr, refl, sym, ap, subst, ◌∙◌, append_assoc}
use Rattle.std.specs.List.{concat}
use Rattle.capn_trees.specs.Numbers.{number_of}
use Rattle.capn_fronts.specs.Laws.{AreKept, PiecesStand}
use Rattle.capn_fronts.specs.Parts.{Part, nothing}
use Rattle.vat_connection.specs.declared.load.Limits.{Limits}
use Rattle.vat_connection.specs.Speaking.{Speaking, Falls, want_of_room}
use Rattle.vat_connection.specs.Hearing.{Comes, Ends, Follows, FollowsBy, HearsInTurn, Inflow, IsBegun, IsOver, IsSplit, nothing_in}
use Rattle.vat_connection.specs.Connecting.{Connected, Receives, down}
use Rattle.vat_connection.proofs.Falling.{falls_down}
use Rattle.vat_connection.proofs.Turns.{joined}

-- ---- frames and a rest

all_joined : (first more : List (List ℕ)) (kept others : List Part) → AreKept first kept → AreKept more others → AreKept (first ++ more) (kept ++ others)
all_joined [] more [] others one two = two
all_joined [] more (p ∷ ps) others one two = absurd one
all_joined (frame ∷ frames) more [] others one two = absurd one
all_joined (frame ∷ frames) more (p ∷ ps) others one two = (one.0, all_joined frames more ps others one.1 two)

concat_joined : (first more : List (List ℕ)) (rest : List ℕ) → concat (first ++ more) ++ rest ≡ concat first ++ (concat more ++ rest)
concat_joined [] more rest = refl
concat_joined (frame ∷ frames) more rest =
    append_assoc frame (concat (frames ++ more)) rest ∙ ap (λ (t : List ℕ). frame ++ t) (concat_joined frames more rest) ∙ sym (append_assoc frame (concat frames) (concat more ++ rest))

-- more bytes stand behind the rest
longer : (held piece more rest : List ℕ) (frames : List (List ℕ)) (kept : List Part) → IsSplit (held ++ piece) frames kept rest → IsSplit (held ++ (piece ++ more)) frames kept (rest ++ more)
longer held piece more rest frames kept split = record {
  joined = sym (append_assoc held piece more) ∙ ap (λ (t : List ℕ). t ++ more) split.joined ∙ append_assoc (concat frames) rest more;
  are_kept = split.are_kept;
}

both_split : (held piece more rest last : List ℕ) (first frames : List (List ℕ)) (kept others : List Part) → IsSplit (held ++ piece) first kept rest → IsSplit (rest ++ more) frames others last
    → IsSplit (held ++ (piece ++ more)) (first ++ frames) (kept ++ others) last
both_split held piece more rest last first frames kept others one two = record {
  joined = let long = longer held piece more rest first kept one in long.joined ∙ ap (λ (t : List ℕ). concat first ++ t) two.joined ∙ sym (concat_joined first frames last);
  are_kept = all_joined first frames kept others one.are_kept two.are_kept;
}

-- ---- what follows

-- A vat that is down drops what comes.
drops : (l : Limits) (s new : Speaking) (i later : Inflow) (n : ℕ) (bytes : List ℕ) → s.host.core.down ≡ Some n → Follows l s i bytes new later → (new ≡ s) × (later ≡ i)
drops l s new i later n bytes down follows = subst (λ (d : Option ℕ). FollowsBy d i.over l s i bytes new later) down follows

-- One whose stream is over drops it too.
closed_by : (d : Option ℕ) (l : Limits) (s new : Speaking) (i later : Inflow) (n : ℕ) (bytes : List ℕ) → FollowsBy d (Some n) l s i bytes new later → (new ≡ s) × (later ≡ i)
closed_by None l s new i later n bytes follows = follows
closed_by (Some m) l s new i later n bytes follows = follows

closed : (l : Limits) (s new : Speaking) (i later : Inflow) (n : ℕ) (bytes : List ℕ) → i.over ≡ Some n → Follows l s i bytes new later → (new ≡ s) × (later ≡ i)
closed l s new i later n bytes over follows = closed_by s.host.core.down l s new i later n bytes (subst (λ (o : Option ℕ). FollowsBy s.host.core.down o l s i bytes new later) over follows)

module _ (l : Limits) (mid new after : Speaking) (more : List ℕ) (i later : Inflow) (up : mid.host.core.down ≡ None) where
  -- The vat goes down behind the first piece.
  fell : (n : ℕ) → Falls mid n after → i ≡ nothing_in → Follows l after i more new later → Falls mid n new × (later ≡ nothing_in)
  fell n falls none follows =
      let same = drops l after new i later n more (falls_down mid after n up falls) follows in
      (subst (λ (x : Speaking). Falls mid n x) (sym same.0) falls, same.1 ∙ none)

  is_over : (n : ℕ) (left : List Part) → IsOver mid left nothing n after i → Follows l after i more new later → IsOver mid left nothing n new later
  is_over n [] over follows = fell n over.0 over.1 follows
  is_over n (frame ∷ frames) over follows =
      let same = closed l after new i later n more (ap (λ (x : Inflow). x.over) over.1) follows in (same.0 ∙ over.0, same.1 ∙ over.1)

-- The first piece has come: it is the beginning of both.
module _ (law : PiecesStand) (l : Limits) (s mid new after : Speaking) (unheard kept left : List Part) (first : List (List ℕ)) (held piece more rest : List ℕ) (i later : Inflow)
    (split : IsSplit (held ++ piece) first kept rest) (turn : HearsInTurn l mid left s (unheard ++ kept)) where
  stops : Ends mid.host.core.down mid left (rest ++ more) new later → Comes l s unheard (held ++ (piece ++ more)) new later
  stops ends = (first, kept, rest ++ more, longer held piece more rest first kept split, (mid, left, turn, ends))

  goes_on : (waiting : Part) → IsBegun rest waiting → mid.host.core.down ≡ None → after ≡ mid → i ≡ record { unheard = left; waiting = waiting; over = None } → Follows l after i more new later
      → Comes l s unheard (held ++ (piece ++ more)) new later
  goes_on waiting begun up same is follows =
      let next : Inflow = record { unheard = left; waiting = waiting; over = None } in
      let here = subst (λ (x : Speaking). Follows l x i more new later) same follows in
      let there = subst (λ (x : Inflow). Follows l mid x more new later) is here in
      let behind = subst (λ (d : Option ℕ). FollowsBy d None l mid next more new later) up there in
      let (frames, others, last, parted, (end, kept_end, then, ends)) = behind.1 rest begun in (
        first ++ frames,
        kept ++ others,
        last,
        both_split held piece more rest last first frames kept others split parted,
        (
          end,
          kept_end,
          subst (λ (us : List Part). HearsInTurn l end kept_end s us) (append_assoc unheard kept others) (joined l mid end left s (unheard ++ kept) others kept_end turn up then),
          ends,
        ),
      )

  by_end : (d : Option ℕ) → mid.host.core.down ≡ d → Ends d mid left rest after i → Follows l after i more new later → Comes l s unheard (held ++ (piece ++ more)) new later
  by_end (Some n) is ends follows =
      let same = drops l after new i later n more (ap (λ (x : Speaking). x.host.core.down) ends.0 ∙ is) follows in
      stops (subst (λ (d : Option ℕ). Ends d mid left (rest ++ more) new later) (sym is) (same.0 ∙ ends.0, same.1 ∙ ends.1))
  by_end None is (inl (inl (waiting, begun, rests))) follows = goes_on waiting begun is rests.0 rests.1 follows
  by_end None is (inl (inr (f, none, over))) follows =
      stops (subst (λ (d : Option ℕ). Ends d mid left (rest ++ more) new later) (sym is)
      (inl (inr (f, law.stays rest more f none, is_over l mid new after more i later is (number_of f) left over follows))))
  by_end None is (inr (falls, none)) follows =
      stops (subst (λ (d : Option ℕ). Ends d mid left (rest ++ more) new later) (sym is) (inr (fell l mid new after more i later is want_of_room falls none follows)))

both : PiecesStand → (d o : Option ℕ) (l : Limits) (s after new : Speaking) (i mid later : Inflow) (piece more : List ℕ) → s.host.core.down ≡ d → i.over ≡ o → FollowsBy d o l s i piece after mid
    → Follows l after mid more new later → FollowsBy d o l s i (piece ++ more) new later
both law (Some n) o l s after new i mid later piece more down over one two =
    let here = subst (λ (x : Speaking). Follows l x mid more new later) one.0 two in
    drops l s new i later n more down (subst (λ (x : Inflow). Follows l s x more new later) one.1 here)
both law None (Some n) l s after new i mid later piece more down over one two =
    let here = subst (λ (x : Speaking). Follows l x mid more new later) one.0 two in
    closed l s new i later n more over (subst (λ (x : Inflow). Follows l s x more new later) one.1 here)
both law None None l s after new i mid later piece more down over one two = (
  one.0,
  λ came begun.
      let (first, kept, rest, split, (end, left, turn, ends)) = one.1 came begun in
      by_end law l s end new after i.unheard kept left first came piece more rest mid later split turn end.host.core.down refl ends two,
)

pub pieces_are_one : PiecesStand → (piece more : List ℕ) (old mid new : Connected) → Receives old piece mid → Receives mid more new → Receives old (piece ++ more) new
pieces_are_one law piece more old mid new one two =
    let same : mid.limits ≡ old.limits = ap (λ (c : Connected). c.limits) one.1 in (
      both law (down old) old.inflow.over old.limits old.speaker mid.speaker new.speaker old.inflow mid.inflow new.inflow piece more refl refl one.0
          (subst (λ (l : Limits). Follows l mid.speaker mid.inflow more new.speaker new.inflow) same two.0),
      two.1 ∙ ap (λ (m : Connected). record m { speaker = new.speaker; inflow = new.inflow }) one.1,
    )
