-- In each scene what vats hold, and what stands on the wires between them, means what the history says; so all holds that is promised
-- of what references stand for.
use Rattle.std.specs.Prelude.{Option}
use Rattle.rpc_msg.specs.declared.ids.Vat.{Vat}
use Rattle.rpc_msg.specs.declared.ids.ObjectId.{ObjectId}
use Rattle.rpc_machine.specs.Claims.{Upto, history}
use Rattle.laws_runs.specs.Scenes as scenes
use Rattle.laws_runs.specs.Scenes.{Scene, IsScene}
use Rattle.laws_scenes.specs.WhatIsLeft.{IsMeant}
use Rattle.laws_meanings.specs.NodeMeanings.{IfLedToObject, IfLedToBroken}
use Rattle.laws_meanings.specs.NodeLabels.{Labels}
use Rattle.laws_meanings.specs.NoneLost.{BeginningsMean}
use Rattle.laws_wires.specs.Wires.{WorldMeans}

-- By some labels all that is in the scene means what it should.
abbrev pub Means : Option ObjectId → Option ObjectId → Scene → Type 0
Means root_a root_b x = (l : Vat → Labels) × WorldMeans (history root_a root_b x.journal) x.world l

-- A step that does what it was told leads on; one after which its vat takes no more steps changes no vat.
abbrev pub GoesOn : (x new : Scene) → scenes.Steps x new → Type 0
GoesOn x new (scenes.Commanded v c given told s o up r d w e) = Unit {0}
GoesOn x new (scenes.Received v m ms told s o up i f d w e) = Unit {0}
GoesOn x new (scenes.GivesUp v c o r f e) = ⊥
GoesOn x new (scenes.Stops v o e) = ⊥

abbrev pub StepsKeepMeanings : Option ObjectId → Option ObjectId → Type 0
StepsKeepMeanings root_a root_b = (x new : Scene) (t : scenes.Steps x new) → GoesOn x new t → IsScene root_a root_b x → Means root_a root_b x → Means root_a root_b new

-- Each step keeps that, and so it is in each scene.
abbrev pub MeaningsAreKept : Type 0
MeaningsAreKept = (root_a root_b : Option ObjectId) → StepsKeepMeanings root_a root_b

abbrev pub ScenesMean : Type 0
ScenesMean = (root_a root_b : Option ObjectId) (x : Scene) → IsScene root_a root_b x → Means root_a root_b x

-- So each entry of a scene is as what leads to an object, or to broken, says; and nodes mean behind the first act of each step
-- what the history says.
abbrev pub ScenesAreLed : Type 0
ScenesAreLed = (root_a root_b : Option ObjectId) (x : Scene) → IsScene root_a root_b x → Upto IfLedToObject (history root_a root_b x.journal) × Upto IfLedToBroken (history root_a root_b x.journal)

abbrev pub BeginningsFollow : Type 0
BeginningsFollow = (root_a root_b : Option ObjectId) → BeginningsMean root_a root_b

-- So all that is promised of what references stand for holds.
abbrev pub ScenesAreMeant : Type 0
ScenesAreMeant = (root_a root_b : Option ObjectId) (x : Scene) → IsScene root_a root_b x → IsMeant (history root_a root_b x.journal) x
