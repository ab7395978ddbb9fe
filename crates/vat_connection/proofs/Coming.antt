-- Bytes come: what is parted of them is heard in turn.
use Rattle.std.proofs.Common.{◌≡◌, ℕ, List, [], ◌∷◌, ◌++◌, Option, Some, None, inl, inr, refl, sym, ap, subst}
use Rattle.capn_fronts.specs.Parts.{IsHeld, IsShort, Part, front_of}
use Rattle.vat_connection.specs.declared.load.Limits.{Limits}
use Rattle.vat_connection.specs.Speaking.{Speaking, Falls, want_of_room}
use Rattle.vat_connection.specs.Hearing.{Comes, ComesBehind, Ends, HearsInTurn, Inflow, IsParted, Leaves, PartedUp, Proceeds, Rests, nothing_in}
use Rattle.vat_connection.specs.Hearing.HearsInTurn.{All, Lacking}
use Rattle.vat_connection.proofs.Falling.{falls_down}
use Rattle.vat_connection.proofs.Pushing.{some_begun}

-- Memory is wanting for the bytes, and the vat goes down.
lacks_by : (l : Limits) (s new : Speaking) (unheard : List Part) (bytes : List ℕ) (later : Inflow) → s.host.core.down ≡ None → Falls s want_of_room new → later ≡ nothing_in → Comes l s unheard bytes new later
lacks_by l s new [] bytes later up falls none =
    ([], [], bytes, record { joined = refl; are_kept = tt }, (s, [], All refl refl, subst (λ (d : Option ℕ). Ends d s [] bytes new later) (sym up) (inr (falls, none))))
lacks_by l s new (frame ∷ frames) bytes later up falls none = (
  [],
  [],
  bytes,
  record { joined = refl; are_kept = tt },
  (new, [], Lacking frame (frames ++ []) up falls refl, subst (λ (d : Option ℕ). Ends d new [] bytes new later) (sym (falls_down s new want_of_room up falls)) (refl, none)),
)

pub lacks : (l : Limits) (s new : Speaking) (i : Inflow) (bytes : List ℕ) → IsHeld i.waiting → IsShort (front_of i.waiting) → s.host.core.down ≡ None → Falls s want_of_room new
    → ComesBehind l s i bytes new nothing_in
lacks l s new i bytes held short up falls = (some_begun i.waiting held short, λ came begun. lacks_by l s new i.unheard (came ++ bytes) nothing_in up falls refl)

-- What was parted is heard, and the rest is kept.
ends_by : (old parted later : Inflow) (kept left : List Part) (rest : List ℕ) (d : Option ℕ) (mid new : Speaking) → PartedUp old kept rest parted
    → Leaves d mid left parted.waiting parted.over new later → Ends d mid left rest new later
ends_by old parted later kept left rest (Some n) mid new by leaves = leaves
ends_by old parted later kept left rest None mid new (inl (waiting, begun, is)) leaves =
    inl (inl (waiting, begun, subst (λ (i : Inflow). Rests mid left i.waiting i.over new later) is leaves))
ends_by old parted later kept left rest None mid new (inr (f, none, is)) leaves =
    inl (inr (f, none, subst (λ (i : Inflow). Rests mid left i.waiting i.over new later) is leaves))

unheard_by : (old parted : Inflow) (kept : List Part) (rest : List ℕ) → PartedUp old kept rest parted → parted.unheard ≡ old.unheard ++ kept
unheard_by old parted kept rest (inl (waiting, begun, is)) = ap (λ (i : Inflow). i.unheard) is
unheard_by old parted kept rest (inr (f, none, is)) = ap (λ (i : Inflow). i.unheard) is

pub comes : (l : Limits) (s new : Speaking) (old parted later : Inflow) (bytes : List ℕ) → IsHeld old.waiting → IsShort (front_of old.waiting) → IsParted old bytes parted → Proceeds l s parted new later
    → ComesBehind l s old bytes new later
comes l s new old parted later bytes held short is (mid, left, turn, leaves) = (
  some_begun old.waiting held short,
  λ came begun.
      let (frames, kept, rest, split, by) = is came begun in (
        frames,
        kept,
        rest,
        split,
        (
          mid,
          left,
          subst (λ (us : List Part). HearsInTurn l mid left s us) (unheard_by old parted kept rest by) turn,
          ends_by old parted later kept left rest mid.host.core.down mid new by leaves,
        ),
      ),
)
