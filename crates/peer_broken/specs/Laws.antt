-- A message without a broken name is handed on, and each count is given back once.
use Rattle.std.specs.Prelude.{◌≡◌, ℕ, ◌+◌, ◌==◌, Bool, List, []}
use Rattle.std.specs.List.{count_by}
use Rattle.finite_maps.specs.Tally.{tally}
use Rattle.rpc_msg.specs.declared.ids.ExportId.{ExportId}
use Rattle.rpc_msg.specs.declared.ids.QuestionId.{QuestionId}
use Rattle.rpc_codec.specs.Envelopes.{What}
use Rattle.rpc_codec.specs.Carried.{gives}
use Rattle.peer_broken.specs.Naming.{Coming, Going, Naming, comes, finishes, names_of, nothing_owed, returns}

pub record StandsAside : Type 0 where
  -- what names none is handed on as it came
  pub handed_on : (broken : ExportId → Bool) (finished : QuestionId → Bool) (s : Naming) (w : What) → names_of broken w ≡ []
      → comes broken finished s w ≡ record { state = s; came = w; given_back = [] }
  -- what is handed on names none
  pub names_none : (broken : ExportId → Bool) (finished : QuestionId → Bool) (s : Naming) (w : What)
      → names_of broken (comes broken finished s w).came ≡ []
  -- where nothing is owed nothing is given back
  pub returned : (a : QuestionId) (flag : Bool) → returns nothing_owed a flag ≡ record { state = nothing_owed; by_flag = []; by_release = [] }
  pub finished : (q : QuestionId) (flag : Bool) → finishes nothing_owed q flag ≡ record { state = nothing_owed; by_flag = []; by_release = [] }

-- how often an export is in a list
abbrev pub times : ExportId → List ExportId → ℕ
times e es = count_by (λ x. x.0 == e.0) es

-- what is owed of an export
abbrev pub owed : ExportId → Naming → ℕ
owed e s = tally (times e) s.by_answer + tally (times e) s.by_question

-- Of an export: what came and was owed is what the vat hears, is owed then, and is given back.
abbrev pub CameOnce : ExportId → Naming → What → Coming → Type 0
CameOnce e s w c = gives e w + owed e s ≡ gives e c.came + (owed e c.state + times e c.given_back)

-- Of an export: what was owed is what is owed then, and is given back, by the flag or by a Release.
abbrev pub WentOnce : ExportId → Naming → Going → Type 0
WentOnce e s g = owed e s ≡ owed e g.state + (times e g.by_flag + times e g.by_release)

pub record CountsOnce : Type 0 where
  pub came : (broken : ExportId → Bool) (finished : QuestionId → Bool) (s : Naming) (w : What) (e : ExportId)
      → CameOnce e s w (comes broken finished s w)
  pub returned : (s : Naming) (a : QuestionId) (flag : Bool) (e : ExportId) → WentOnce e s (returns s a flag)
  pub finished : (s : Naming) (q : QuestionId) (flag : Bool) (e : ExportId) → WentOnce e s (finishes s q flag)
