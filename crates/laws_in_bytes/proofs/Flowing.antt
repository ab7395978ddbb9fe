-- Bytes come to a connection, and it goes on.
use Rattle.std.proofs.Common.{◌≡◌, inl, inr, ℕ, List, [], ◌∷◌, ◌++◌, append_assoc, Option, None, Some, IsSome, refl, sym, ap, subst, ◌∙◌}
use Rattle.std.specs.List.{concat}
use Rattle.rpc_msg.specs.declared.ids.ObjectId.{ObjectId}
use Rattle.rpc_msg.specs.declared.ids.Vat.{Vat}
use Rattle.rpc_machine.specs.Laws.{OfEachStep}
use Rattle.capn_trees.specs.Numbers.{number_of}
use Rattle.capn_fronts.specs.Laws.{AreKept}
use Rattle.capn_fronts.specs.Parts.{Part, nothing}
use Rattle.capn_fronts.proofs.Held.{nothing_held, nothing_short}
use Rattle.laws_ends.specs.Names.{KeepsNames}
use Rattle.laws_peers.specs.Alike.{FittingNamesAreAlike}
use Rattle.laws_scenes.specs.Refused.{RunsRefuseNothing}
use Rattle.laws_understood.specs.Understood.{EveryRunIsUnderstood}
use Rattle.laws_wired.specs.Wires.{WiredRunsAreRuns}
use Rattle.vat_connection.specs.declared.load.Limits.{Limits}
use Rattle.vat_connection.specs.Speaking.{Speaking, Falls, want_of_room}
use Rattle.vat_connection.specs.Hearing.{Ends, EndsUp, FollowsBy, Inflow, IsBegun, IsOver, Leaves, Proceeds, Rests, nothing_in}
use Rattle.vat_connection.specs.Connecting.{Connected, EndsStream, WorksOn}
use Rattle.laws_in_bytes.proofs.Aside.{StandAside}
use Rattle.laws_in_bytes.proofs.Streams.{concat_append}
use Rattle.laws_in_bytes.proofs.Viewing.{Reached, View, world_of}
use Rattle.laws_in_bytes.proofs.Tied.{Happens2, Tied, falls, nothing2, retie, some_down, then2}
use Rattle.laws_in_bytes.proofs.Said.{says}
use Rattle.laws_in_bytes.proofs.Heard.{in_turn, left_of}

-- Bytes that came to a vat and were not heard: those of whole frames, and of the beginning of the next one.
pub record Unheard : Type 0 where
  pub frames : List (List ℕ)
  pub rest : List ℕ

abbrev pub no_bytes : Unheard
no_bytes = record { frames = []; rest = [] }

-- What a vat keeps of them. Of a stream that is over the beginning of a frame was dropped.
pub record Waits (inflow : Inflow) (gone : Unheard) : Type 0 where
  pub kept : AreKept gone.frames inflow.unheard
  pub begun : inflow.over ≡ None → IsBegun gone.rest inflow.waiting

not_over : (n : ℕ) (rest : List ℕ) (waiting : Part) → Some n ≡ None → IsBegun rest waiting
not_over n rest waiting e = absurd cc

begun_none : IsBegun [] nothing
begun_none = record { stands = ([], refl, refl); held = nothing_held; short = nothing_short }

pub none_waits : Waits nothing_in no_bytes
none_waits = record { kept = tt; begun = λ up. begun_none }

-- The bytes that come to a vat, as it is to hear them.
abbrev pub coming : Unheard → List ℕ → List ℕ
coming gone r = concat gone.frames ++ (gone.rest ++ r)

abbrev of : List (List ℕ) → List ℕ → Unheard
of frames rest = record { frames = frames; rest = rest }

kept_append : (xs : List (List ℕ)) (ps : List Part) (ys : List (List ℕ)) (qs : List Part) → AreKept xs ps → AreKept ys qs → AreKept (xs ++ ys) (ps ++ qs)
kept_append [] [] ys qs a b = b
kept_append [] (p ∷ ps) ys qs a b = absurd a
kept_append (x ∷ xs) [] ys qs a b = absurd a
kept_append (x ∷ xs) (p ∷ ps) ys qs a b = (a.0, kept_append xs ps ys qs a.1 b)

module _ (letters : Vat → Vat) (root_a root_b : Option ObjectId) (v : Vat) (peer : Speaking) (r to_them : List ℕ) where
  -- What comes of a vat to which these bytes came.
  pub record Flows (mid new : Speaking) (bytes : List ℕ) (later : Inflow) : Type 0 where
    pub gone : Unheard
    pub waits : Waits later gone
    pub goes : (u : View) → Reached letters root_a root_b (world_of v u) → Tied mid peer bytes to_them u → Happens2 v u mid.host new.host (Tied new peer (coming gone r) to_them)

  stays : (mid new : Speaking) (bytes : List ℕ) (later : Inflow) (gone : Unheard) → Waits later gone → new ≡ mid → bytes ≡ coming gone r → Flows mid new bytes later
  stays mid new bytes later gone waits is e = record {
    gone = gone;
    waits = waits;
    goes = λ u reached t. nothing2 v u mid.host new.host (Tied new peer (coming gone r) to_them) (ap (λ (x : Speaking). x.host.events) is)
        (subst (λ (x : Speaking). Tied x peer (coming gone r) to_them u) (sym is) (subst (λ (x : List ℕ). Tied mid peer x to_them u) e t));
  }

  nothing_waits : (later : Inflow) → later ≡ nothing_in → Waits later no_bytes
  nothing_waits later e = subst (λ (i : Inflow). Waits i no_bytes) (sym e) none_waits

  -- The vat is down, and drops all.
  drops : (mid new : Speaking) (bytes : List ℕ) (later : Inflow) → IsSome mid.host.core.down → new ≡ mid → later ≡ nothing_in → Flows mid new bytes later
  drops mid new bytes later d is e = record {
    gone = no_bytes;
    waits = nothing_waits later e;
    goes = λ u reached t. nothing2 v u mid.host new.host (Tied new peer (coming no_bytes r) to_them) (ap (λ (x : Speaking). x.host.events) is)
        (subst (λ (x : Speaking). Tied x peer (coming no_bytes r) to_them u) (sym is) (retie mid peer bytes to_them (coming no_bytes r) u d t));
  }

  -- It goes down.
  down_with : (mid new : Speaking) (n : ℕ) (bytes : List ℕ) (later : Inflow) → Falls mid n new → later ≡ nothing_in → Flows mid new bytes later
  down_with mid new n bytes later fell e = record {
    gone = no_bytes;
    waits = nothing_waits later e;
    goes = λ u reached t. falls v mid peer new n bytes to_them (coming no_bytes r) u t fell;
  }

  over : (mid new : Speaking) (left : List Part) (frames : List (List ℕ)) (waiting : Part) (rest : List ℕ) (n : ℕ) (later : Inflow) → AreKept frames left → IsOver mid left waiting n new later
      → Flows mid new (coming (of frames rest) r) later
  over mid new [] frames waiting rest n later kept (fell, e) = down_with mid new n (coming (of frames rest) r) later fell e
  over mid new (part ∷ parts) frames waiting rest n later kept (is, e) =
      stays mid new (coming (of frames rest) r) later (of frames rest)
      (record {
        kept = subst (λ (ps : List Part). AreKept frames ps) (sym (ap (λ (i : Inflow). i.unheard) e)) kept;
        begun = λ up. not_over n rest later.waiting (sym (ap (λ (i : Inflow). i.over) e) ∙ up);
      })
      is refl

  rests : (mid new : Speaking) (left : List Part) (frames : List (List ℕ)) (waiting : Part) (rest : List ℕ) (o : Option ℕ) (later : Inflow) → AreKept frames left → (o ≡ None → IsBegun rest waiting)
      → Rests mid left waiting o new later → Flows mid new (coming (of frames rest) r) later
  rests mid new left frames waiting rest None later kept begun (is, e) =
      stays mid new (coming (of frames rest) r) later (of frames rest)
      (record {
        kept = subst (λ (ps : List Part). AreKept frames ps) (sym (ap (λ (i : Inflow). i.unheard) e)) kept;
        begun = λ up. subst (λ (p : Part). IsBegun rest p) (sym (ap (λ (i : Inflow). i.waiting) e)) (begun refl);
      })
      is refl
  rests mid new left frames waiting rest (Some n) later kept begun ended = over mid new left frames waiting rest n later kept ended

  leaves : (d : Option ℕ) (mid new : Speaking) (left : List Part) (frames : List (List ℕ)) (waiting : Part) (rest : List ℕ) (o : Option ℕ) (later : Inflow) → mid.host.core.down ≡ d → AreKept frames left
      → (o ≡ None → IsBegun rest waiting) → Leaves d mid left waiting o new later → Flows mid new (coming (of frames rest) r) later
  leaves (Some n) mid new left frames waiting rest o later d kept begun (is, e) = drops mid new (coming (of frames rest) r) later (some_down mid.host.core.down n d) is e
  leaves None mid new left frames waiting rest o later d kept begun rested = rests mid new left frames waiting rest o later kept begun rested

  ends_up : (mid new : Speaking) (left : List Part) (frames : List (List ℕ)) (rest : List ℕ) (later : Inflow) → AreKept frames left → EndsUp mid left rest new later → Flows mid new (coming (of frames rest) r) later
  ends_up mid new left frames rest later kept (inl (waiting, begun, rested)) = rests mid new left frames waiting rest None later kept (λ up. begun) rested
  ends_up mid new left frames rest later kept (inr (f, none, ended)) = over mid new left frames nothing rest (number_of f) later kept ended

  ends : (d : Option ℕ) (mid new : Speaking) (left : List Part) (frames : List (List ℕ)) (rest : List ℕ) (later : Inflow) → mid.host.core.down ≡ d → AreKept frames left → Ends d mid left rest new later
      → Flows mid new (coming (of frames rest) r) later
  ends (Some n) mid new left frames rest later d kept (is, e) = drops mid new (coming (of frames rest) r) later (some_down mid.host.core.down n d) is e
  ends None mid new left frames rest later d kept (inl ended) = ends_up mid new left frames rest later kept ended
  ends None mid new left frames rest later d kept (inr (fell, e)) = down_with mid new want_of_room (coming (of frames rest) r) later fell e

  -- ---- the stream ends

  pub ends_stream : (d o : Option ℕ) (old new : Connected) (gone : Unheard) → Waits old.inflow gone → EndsStream d o old new → Flows old.speaker new.speaker (coming gone r) new.inflow
  ends_stream (Some n) o old new gone waits is =
      stays old.speaker new.speaker (coming gone r) new.inflow gone (subst (λ (c : Connected). Waits c.inflow gone) (sym is) waits) (ap (λ (c : Connected). c.speaker) is) refl
  ends_stream None (Some n) old new gone waits is =
      stays old.speaker new.speaker (coming gone r) new.inflow gone (subst (λ (c : Connected). Waits c.inflow gone) (sym is) waits) (ap (λ (c : Connected). c.speaker) is) refl
  ends_stream None None old new gone waits (ended, is) = over old.speaker new.speaker old.inflow.unheard gone.frames nothing gone.rest _ new.inflow waits.kept ended

  module _ (aside : StandAside) (alike : FittingNamesAreAlike) (runs : WiredRunsAreRuns) (refuse : RunsRefuseNothing) (understood : EveryRunIsUnderstood) (names : OfEachStep KeepsNames) where
    -- ---- bytes come

    split_as : (unheard frames : List (List ℕ)) (waiting bytes rest : List ℕ) → waiting ++ bytes ≡ concat frames ++ rest → concat unheard ++ (waiting ++ (bytes ++ r)) ≡ concat (unheard ++ frames) ++ (rest ++ r)
    split_as unheard frames waiting bytes rest e =
        ap (λ (x : List ℕ). concat unheard ++ x) (sym (append_assoc waiting bytes r) ∙ ap (λ (x : List ℕ). x ++ r) e ∙ append_assoc (concat frames) rest r)
        ∙ sym (append_assoc (concat unheard) (concat frames) (rest ++ r))
        ∙ ap (λ (x : List ℕ). x ++ (rest ++ r)) (sym (concat_append unheard frames))

    pub follows : (d o : Option ℕ) (l : Limits) (old new : Speaking) (inflow later : Inflow) (bytes : List ℕ) (gone : Unheard) → old.host.core.down ≡ d → inflow.over ≡ o → Waits inflow gone
        → FollowsBy d o l old inflow bytes new later → Flows old new (coming gone (bytes ++ r)) later
    follows (Some n) o l old new inflow later bytes gone d over_is waits (is, e) = record {
      gone = gone;
      waits = subst (λ (i : Inflow). Waits i gone) (sym e) waits;
      goes = λ u reached t. nothing2 v u old.host new.host (Tied new peer (coming gone r) to_them) (ap (λ (x : Speaking). x.host.events) is)
          (subst (λ (x : Speaking). Tied x peer (coming gone r) to_them u) (sym is) (retie old peer (coming gone (bytes ++ r)) to_them (coming gone r) u (some_down old.host.core.down n d) t));
    }
    follows None (Some n) l old new inflow later bytes gone d over_is waits (is, e) =
        stays old new (coming gone (bytes ++ r)) later (of gone.frames (gone.rest ++ bytes))
        (record {
          kept = subst (λ (i : Inflow). AreKept gone.frames i.unheard) (sym e) waits.kept;
          begun = λ up. not_over n (gone.rest ++ bytes) later.waiting (sym over_is ∙ sym (ap (λ (i : Inflow). i.over) e) ∙ up);
        })
        is (ap (λ (x : List ℕ). concat gone.frames ++ x) (sym (append_assoc gone.rest bytes r)))
    follows None None l old new inflow later bytes gone d over_is waits (some, behind) =
        let begun = waits.begun over_is in
        let came = behind gone.rest begun in
        let split = came.3 in
        let turn = came.4.2 in
        let mid = came.4.0 in
        let kept = kept_append gone.frames inflow.unheard came.0 came.1 waits.kept split.are_kept in
        let fs = left_of turn (gone.frames ++ came.0) kept in
        let k = ends mid.host.core.down mid new came.4.1 fs.0 came.2 later refl fs.1 came.4.3 in
        let e = split_as gone.frames came.0 gone.rest bytes came.2 split.joined in
        record {
          gone = k.gone;
          waits = k.waits;
          goes = λ u reached t. then2 letters root_a root_b v u old.host mid.host new.host (Tied mid peer (coming (of fs.0 came.2) r) to_them) (Tied new peer (coming k.gone r) to_them) reached
              (in_turn aside alike runs refuse understood names letters root_a root_b v l peer mid came.4.1 (came.2 ++ r) to_them old (inflow.unheard ++ came.1) u turn (gone.frames ++ came.0) kept reached
              (subst (λ (x : List ℕ). Tied old peer x to_them u) e t))
              k.goes;
        }

    -- ---- it goes on

    proceeds : (l : Limits) (old new : Speaking) (inflow later : Inflow) (gone : Unheard) → Waits inflow gone → Proceeds l old inflow new later
        → Flows old new (coming gone r) later
    proceeds l old new inflow later gone waits (mid, left, turn, left_so) =
        let fs = left_of turn gone.frames waits.kept in
        let k = leaves mid.host.core.down mid new left fs.0 inflow.waiting gone.rest inflow.over later refl fs.1 waits.begun left_so in
        record {
          gone = k.gone;
          waits = k.waits;
          goes = λ u reached t. then2 letters root_a root_b v u old.host mid.host new.host (Tied mid peer (coming (of fs.0 gone.rest) r) to_them) (Tied new peer (coming k.gone r) to_them) reached
              (in_turn aside alike runs refuse understood names letters root_a root_b v l peer mid left (gone.rest ++ r) to_them old inflow.unheard u turn gone.frames waits.kept reached t)
              k.goes;
        }

    pub works : (old new : Connected) (gone : Unheard) → Waits old.inflow gone → WorksOn old new → Flows old.speaker new.speaker (coming gone r) new.inflow
    works old new gone waits (speaker, inflow, proceeded, (said, said_so, is)) =
        let k = proceeds old.limits old.speaker speaker old.inflow inflow gone waits proceeded in
        record {
          gone = k.gone;
          waits = subst (λ (c : Connected). Waits c.inflow k.gone) (sym is) k.waits;
          goes = λ u reached t. subst (λ (c : Connected). Happens2 v u old.speaker.host c.speaker.host (Tied c.speaker peer (coming k.gone r) to_them)) (sym is)
              (then2 letters root_a root_b v u old.speaker.host speaker.host said.host (Tied speaker peer (coming k.gone r) to_them) (Tied said peer (coming k.gone r) to_them) reached
              (k.goes u reached t)
              (λ w reached_w s. says aside runs refuse understood letters root_a root_b v said peer (coming k.gone r) to_them w speaker said_so reached_w s));
        }
