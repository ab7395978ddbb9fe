-- How many Resolves are sent, from what they let the importer know.
use Rattle.std.proofs.Common.{◌≡◌, ◌⊎◌, inl, inr, List, [], ◌∷◌, refl, sym, subst, ◌∙◌, arith}
use Rattle.laws_runs.specs.Exports as export
use Rattle.laws_runs.specs.Exports.{Kind, Stage, Exporter, Out, Seen, Learns, LearnsAll, Fits}
use Rattle.laws_messages.specs.Steps.{StillFits, told_in, if_told, ToldOnce}
use Rattle.laws_messages.proofs.Learning.{nothing_over}

none_over : (ms : List Out) (b : Seen) → LearnsAll export.Over ms b → (b ≡ export.Over) × (told_in ms ≡ 0)
none_over [] b h = (sym h, refl)
none_over (m ∷ ms) b h = nothing_over m h.0 h.1

-- What is known of a kind stays so; or it is a promise's, and one Resolve comes.
abbrev Ends : Kind → List Out → Seen → Type 0
Ends k ms b = ((b ≡ export.Known k) × (told_in ms ≡ 0)) ⊎ ((k ≡ export.Promised) × (b ≡ export.Over) × (told_in ms ≡ 1))

one_ends : (k : Kind) (m : Out) (c : Seen) (ms : List Out) (b : Seen) → Learns (export.Known k) m c → LearnsAll c ms b → ((j : Kind) → c ≡ export.Known j → Ends j ms b) → Ends k (m ∷ ms) b
one_ends k m c ms b (export.Again j) h r = r j refl
one_ends k m c ms b export.Last h r = let z = none_over ms b h in let a = z.1 in inr (refl, z.0, omega (arith, a))

ends : (k : Kind) (ms : List Out) (b : Seen) → LearnsAll (export.Known k) ms b → Ends k ms b
ends k [] b h = inl (sym h, refl)
ends k (m ∷ ms) b h = one_ends k m h.0 ms b h.1 h.2 (λ j e. ends j ms b (subst (λ (c : Seen). LearnsAll c ms b) e h.2))

-- ---- By how far the export is then

open_fits : (y : Exporter) → Fits (export.Known export.Promised) y → 0 ≡ if_told y
open_fits y (export.Open n) = refl
open_fits y (export.Owing n) = refl

over_fits : (y : Exporter) → Fits export.Over y → 1 ≡ if_told y
over_fits y (export.Done n) = refl

pub told_once : (x : Exporter) (ms : List Out) (y : Exporter) → StillFits x ms y → ToldOnce x ms y
told_once export.Gone ms y h = tt
told_once (export.Has n export.IsObject) ms y h = let k = h (export.Known export.Hosted) (export.Object n) in by k.0 (ends export.Hosted ms k.0 k.1)
  where
    by : (b : Seen) → Ends export.Hosted ms b → told_in ms ≡ 0
    by b (inl e) = e.1
    by b (inr e) = let bad : export.Hosted ≡ export.Promised = e.0 in cc
told_once (export.Has n export.IsOpen) ms y h = let k = h (export.Known export.Promised) (export.Open n) in by k.0 k.2 (ends export.Promised ms k.0 k.1)
  where
    by : (b : Seen) → Fits b y → Ends export.Promised ms b → told_in ms ≡ if_told y
    by b f (inl e) = e.1 ∙ open_fits y (subst (λ (a : Seen). Fits a y) e.0 f)
    by b f (inr e) = e.2 ∙ over_fits y (subst (λ (a : Seen). Fits a y) e.1 f)
told_once (export.Has n export.Owes) ms y h = tt
told_once (export.Has n export.HasTold) ms y h = let k = h export.Over (export.Done n) in (none_over ms k.0 k.1).1
