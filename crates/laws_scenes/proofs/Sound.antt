-- All that is promised of runs, from what references stand for.
use Rattle.std.proofs.Common.{◌≡◌, false, List, [], ◌∷◌, Option, refl, sym}
use Rattle.rpc_msg.specs.declared.ids.ObjectId.{ObjectId}
use Rattle.rpc_msg.specs.declared.ids.Stamp.{Stamp}
use Rattle.rpc_journal.specs.History.{delivered, made}
use Rattle.rpc_machine.specs.Claims.{IsInFull, history}
use Rattle.laws_runs.specs.Scenes.{Scene, IsScene}
use Rattle.laws_messages.specs.Sound.{Rest, SoundByTheRest}
use Rattle.laws_scenes.specs.InFull.{ScenesArriveInFull}
use Rattle.laws_scenes.specs.Ordered.{ScenesAreOrdered}
use Rattle.laws_scenes.specs.Refused.{DisembargosTurn}
use Rattle.laws_scenes.specs.WhatIsLeft.{IsMeant, SoundByMeanings}

module _ (a b : Option ObjectId) (x : Scene) (i : IsScene a b x) (arrive : ScenesArriveInFull) (k : IsMeant (history a b x.journal) x) (go_a : x.over_a ≡ false) (go_b : x.over_b ≡ false) where
  full : IsInFull (history a b x.journal) x.world
  full r v o stands up idle = by (delivered x.journal r) (λ s ss e. arrive a b x i r s ss e idle) (λ e. k.none_lost go_a go_b r v o stands idle e)
    where
      by : (ds : List Stamp) → ((s : Stamp) (ss : List Stamp) → ds ≡ s ∷ ss → ds ≡ made x.journal r) → (ds ≡ [] → made x.journal r ≡ []) → ds ≡ made x.journal r
      by [] f g = sym (g refl)
      by (s ∷ ss) f g = f s ss refl

pub sound : SoundByTheRest → ScenesAreOrdered → ScenesArriveInFull → DisembargosTurn → SoundByMeanings
sound by_rest ordered arrive turn all = by_rest (λ a b x i. rest a b x i)
  where
    rest : (a b : Option ObjectId) (x : Scene) → IsScene a b x → Rest (history a b x.journal) x
    rest a b x i =
        let k = all a b x i in
        let o = ordered a b x i in
        record { in_order = o.in_order; in_full = λ f g. full a b x i arrive k f g; in_time = k.in_time; ends = k.ends; premises = turn a b x i }
