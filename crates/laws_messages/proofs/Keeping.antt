-- By itself a vat leaves its imports their kind and what their Resolve said; with the counts, each does what its session
-- allows.
use Rattle.std.proofs.Common.{◌≡◌, ◌<◌, inl, ℕ, zero, suc, ◌+◌, ◌-◌, nat_le, nat_eq, Bool, true, false, cond, List, [], ◌∷◌, Option, None, Some, refl, sym, ap, subst, ◌∙◌, arith}
use Rattle.std.specs.FinMap as map
use Rattle.std.specs.Ordering.{nat_cmp}
use Rattle.finite_maps.specs.Tally.{Map}
use Rattle.finite_maps.proofs.Tested.{equal, get_put, get_cut}
use Rattle.rpc_msg.specs.declared.ids.QuestionId.{QuestionId}
use Rattle.rpc_msg.specs.declared.parts.Target.{Target}
use Rattle.rpc_machine.specs.Routing.{Asks}
use Rattle.rpc_machine.specs.declared.entries.Role.{Role}
use Rattle.rpc_machine.specs.declared.calls.Request.{Request}
use Rattle.rpc_machine.specs.declared.calls.Value.{Value}
use Rattle.rpc_machine.specs.declared.calls.Caller.{Caller}
use Rattle.rpc_machine.specs.declared.calls.Caller.TheVariants as caller
use Rattle.rpc_machine.specs.declared.calls.KeptOutcome.{KeptOutcome}
use Rattle.rpc_machine.specs.declared.entries.AnswerEntry.{AnswerEntry}
use Rattle.rpc_machine.specs.declared.entries.Question.{Question}
use Rattle.rpc_machine.specs.declared.entries.Finishing.{Finishing}
use Rattle.rpc_machine.specs.declared.entries.Finishing.TheVariants as finishing
use Rattle.rpc_machine.specs.declared.entries.Import.{Import}
use Rattle.rpc_machine.specs.State.{State}
use Rattle.rpc_machine.specs.Limits.{import_count}
use Rattle.rpc_machine.specs.Progress.{Progress, with_state, numbers}
use Rattle.rpc_machine.specs.Collecting.{Goes, PromiseGoes, OutcomeGoes, ImportGoes, Collects, Tight, Loose}
use Rattle.rpc_machine.specs.Flags.{flag_for, give_one, give_each, give_if, give_back}
use Rattle.rpc_machine.specs.Settling.{known, Fits, TellsPeer, Tells}
use Rattle.rpc_machine.specs.Sweeping.{got_of, finished_by}
use Rattle.laws_acts.specs.Acts.{Acts, NoMore, Then}
use Rattle.laws_acts.specs.Sent.{all_sent}
use Rattle.laws_runs.specs.Exports as export
use Rattle.laws_runs.specs.Exports.{Back, Importer, Kind, Said, Leaves}
use Rattle.laws_runs.specs.Views.{IsReady}
use Rattle.laws_runs.proofs.EachAct.{OfActs, by_act}
use Rattle.laws_runs.proofs.Same.{describes_all, says, fits, tells_call, resolves}
use Rattle.laws_runs.specs.Imports.{count, IsCovered}
use Rattle.laws_runs.specs.Entries.{ImportCounts, IsCounted}
use Rattle.laws_runs.proofs.Paid.{release_state}
use Rattle.laws_runs.proofs.AboveZero as above
use Rattle.laws_messages.specs.Mentions.{AllName}
use Rattle.laws_messages.specs.Imports.{KeepsImport, AnswersAll}
use Rattle.laws_messages.specs.Views.{kind_of, said_of, importer_of, backs_for}
use Rattle.laws_messages.proofs.Answering.{view, none_waits}
use Rattle.laws_messages.proofs.Answering as answering

-- ---- What is kept

keeps_same : (o : Option Import) → KeepsImport o o
keeps_same None = tt
keeps_same (Some x) = (refl, refl)

keeps_then : (x y z : Option Import) → KeepsImport x y → KeepsImport y z → KeepsImport x z
keeps_then x y None h k = tt
keeps_then x None (Some z) h k = absurd k
keeps_then None (Some y) (Some z) h k = absurd h
keeps_then (Some x) (Some y) (Some z) h k = (k.0 ∙ h.0, k.1 ∙ h.1)

goes_at : (b : Bool) (o : Option Import) → KeepsImport o (cond b None o)
goes_at true o = tt
goes_at false o = keeps_same o

asked : (from new : Progress) (k : ℕ) (role : Role) (t : Target) (r : Request) → Asks from k role t r new → new.state.imports ≡ from.state.imports
asked from new k role t r h =
    let g = h.1 in
    let ids = describes_all from.state r.caps g.0 g.1 g.2 in
    ap (λ (p : Progress). p.state.imports) g.3 ∙ ids.imports

module _ (e : ℕ) where
  abbrev Kept : State → State → Type 0
  Kept s t = KeepsImport (map.get s.imports e) (map.get t.imports e)

  same : (s t : State) → t.imports ≡ s.imports → Kept s t
  same s t h = subst (λ (m : Map Import). KeepsImport (map.get s.imports e) (map.get m e)) (sym h) (keeps_same (map.get s.imports e))

  cut : (m : Map Import) (k : ℕ) → KeepsImport (map.get m e) (map.get (map.remove m k) e)
  cut m k = subst (λ (o : Option Import). KeepsImport (map.get m e) o) (sym (get_cut m k e)) (goes_at (nat_eq e k) (map.get m e))

  -- With another count.
  put : (m : Map Import) (k : ℕ) (x : Import) (n : ℕ) → map.get m k ≡ Some x → KeepsImport (map.get m e) (map.get (map.insert m k (record x { count = n })) e)
  put m k x n there = subst (λ (o : Option Import). KeepsImport (map.get m e) o) (sym (get_put m k (record x { count = n }) e)) (by (nat_eq e k) refl)
    where
      by : (b : Bool) → nat_eq e k ≡ b → KeepsImport (map.get m e) (cond b (Some (record x { count = n })) (map.get m e))
      by false f = keeps_same (map.get m e)
      by true f = subst (λ (o : Option Import). KeepsImport o (Some (record x { count = n }))) (sym (ap (map.get m) (equal e k f) ∙ there)) (refl, refl)

  give : (m : Map Import) (k : ℕ) → KeepsImport (map.get m e) (map.get (give_one m k (map.get m k)) e)
  give m k = by (map.get m k) refl
    where
      at : (x : Import) → map.get m k ≡ Some x → (b : Bool) → KeepsImport (map.get m e) (map.get (cond b (map.remove m k) (map.insert m k (record x { count = x.count - 1 }))) e)
      at x f true = cut m k
      at x f false = put m k x (x.count - 1) f

      by : (o : Option Import) → map.get m k ≡ o → KeepsImport (map.get m e) (map.get (give_one m k o) e)
      by None f = keeps_same (map.get m e)
      by (Some x) f = at x f (nat_le x.count 1)

  each : (m : Map Import) (ids : List ℕ) → KeepsImport (map.get m e) (map.get (give_each m ids) e)
  each m [] = keeps_same (map.get m e)
  each m (k ∷ ids) = let n = give_one m k (map.get m k) in keeps_then (map.get m e) (map.get n e) (map.get (give_each n ids) e) (give m k) (each n ids)

  gives : (s : State) (ids : List ℕ) → Kept s (give_back s ids)
  gives s ids = by (flag_for s ids)
    where
      by : (b : Bool) → Kept s (give_if s b ids)
      by false = keeps_same (map.get s.imports e)
      by true = each s.imports ids

  goes : (d new : Progress) → Goes d new → Kept d.state new.state
  goes d new (PromiseGoes p l h) = same d.state new.state (ap (λ (q : Progress). q.state.imports) h)
  goes d new (OutcomeGoes o l h) = same d.state new.state (ap (λ (q : Progress). q.state.imports) h)
  goes d new (ImportGoes k l h) = subst (λ (q : Progress). Kept d.state q.state) (sym h) (cut d.state.imports k)

  collects : (new d : Progress) → Collects new d → Kept d.state new.state
  collects new d (Tight h) = keeps_same (map.get d.state.imports e)
  collects new d (Loose {mid = mid} g rest) = keeps_then (map.get d.state.imports e) (map.get mid.state.imports e) (map.get new.state.imports e) (goes d mid g) (collects new mid rest)

  tells_peer : (d new : Progress) (q : QuestionId) (v : Value) (o : Option AnswerEntry) → TellsPeer d q v o new → Kept d.state new.state
  tells_peer d new q v None h = absurd h
  tells_peer d new q v (Some a) h =
      let g = h.4 in
      let said = says d.state a.finished v h.0 h.1 h.2 h.3 in
      let left = collects g.0 (with_state d h.2) g.1 in
      let one = keeps_then (map.get d.state.imports e) (map.get h.2.imports e) (map.get g.0.state.imports e) (same d.state h.2 said.imports) left in
      let two = keeps_then (map.get d.state.imports e) (map.get g.0.state.imports e) (map.get (give_back g.0.state (numbers a.taken)).imports e) one (gives g.0.state (numbers a.taken)) in
      subst (λ (p : Progress). Kept d.state p.state) (sym g.2) two

  tells : (d new : Progress) (who : Caller) (v : Value) → Tells d who v new → Kept d.state new.state
  tells d new (caller.Application c) v h = let k = tells_call d c.0 v (map.get d.state.calls c.0) new h in same d.state new.state k.0.ids.imports
  tells d new (caller.Peer q) v h = tells_peer d new q v (map.get d.state.answers q.0) h

  ends : (d : Progress) (k : ℕ) (x : Question) (f : Finishing) → Kept d.state (finished_by d k x f).state
  ends d k x finishing.Owed = gives d.state (got_of x.returned)
  ends d k x finishing.Sent = keeps_same (map.get d.state.imports e)
  ends d k x finishing.Waived = keeps_same (map.get d.state.imports e)

  settles : (d new told : Progress) (o : ℕ) (x : KeptOutcome) (v fit : Value) (mid : State) → Fits d.state o x.caller x.waiting v fit mid → Tells (with_state d (known mid o x.caller x.waiting fit)) x.caller fit told → new ≡ with_state told (known told.state o x.caller [] fit) → Kept d.state new.state
  settles d new told o x v fit mid f t h =
      let same_ids = fits d.state o x.caller x.waiting v fit mid f in
      let k = tells (with_state d (known mid o x.caller x.waiting fit)) told x.caller fit t in
      subst (λ (p : Progress). Kept d.state p.state) (sym h) (keeps_then (map.get d.state.imports e) (map.get mid.imports e) (map.get told.state.imports e) (same d.state mid same_ids.ids.imports) k)

  law : OfActs (λ d new sent. Kept d.state new.state)
  law = record {
    quiet = λ d new h r s. same d.state new.state h.ids.imports;
    asks = λ d from new k role t r h f s a. same d.state new.state (asked from new k role t r a ∙ h.ids.imports);
    asks_root = λ d new g h. same d.state new.state (ap (λ (p : Progress). p.state.imports) h.3);
    turns = λ d new x h r s. same d.state new.state h.ids.imports;
    settles = λ d new told o x v fit mid there unknown f t h. settles d new told o x v fit mid f t h;
    resolves = λ d new i x n h. let k = resolves d i x n new h in same d.state new.state k.imports;
    goes = λ d new h. goes d new h;
    ends = λ d new q x there due h. subst (λ (p : Progress). Kept d.state p.state) (sym h) (ends d q x x.finish);
    releases = λ d new h. same d.state new.state (ap (λ (p : Progress). p.state.imports) h ∙ ap (λ (s : State). s.imports) (release_state d (map.entries d.released)));
  }

pub acts : (last d : Progress) (list : Acts last d) (e : ℕ) → KeepsImport (map.get d.state.imports e) (map.get last.state.imports e)
acts last d NoMore e = keeps_same (map.get d.state.imports e)
acts last d (Then {mid = mid} one rest) e = keeps_then (map.get d.state.imports e) (map.get mid.state.imports e) (map.get last.state.imports e) (by_act (law e) d mid one) (acts last mid rest e)

-- ---- What the session allows

abbrev importer : ℕ → Kind → Said → Importer
importer zero k s = export.Absent
importer (suc n) k s = export.Holds (suc n) k s

holds : (n : ℕ) (k : Kind) (s : Said) → 0 < n → importer n k s ≡ export.Holds n k s
holds zero k s h = absurd (omega (arith, h))
holds (suc n) k s h = refl

mentions : (n : ℕ) (k : Kind) (s : Said) → 0 < n → export.Answers (importer n k s) export.Mention (importer n k s)
mentions zero k s h = absurd (omega (arith, h))
mentions (suc n) k s h = export.Mentions (suc n) k s

lets : (n c m : ℕ) (k : Kind) (s : Said) → 0 < c → n ≡ c + m → export.Answers (importer n k s) (export.Take c) (importer m k s)
lets n c zero k s h e =
    let f : n ≡ c = omega (arith, e) in
    let a : importer n k s ≡ export.Holds c k s = ap (λ (j : ℕ). importer j k s) f ∙ holds c k s h in
    subst (λ (x : Importer). export.Answers x (export.Take c) export.Absent) (sym a) (export.LetsAll c k s h)
lets n c (suc m) k s h e =
    let a : importer n k s ≡ export.Holds (c + suc m) k s = ap (λ (j : ℕ). importer j k s) e ∙ holds (c + suc m) k s (omega (arith, h)) in
    subst (λ (x : Importer). export.Answers x (export.Take c) (export.Holds (suc m) k s)) (sym a) (export.LetsSome c (suc m) k s h (omega arith))

all_answer : (n m : ℕ) (k : Kind) (s : Said) (ms : List Back) → Leaves n ms m → AnswersAll (importer n k s) ms (importer m k s)
all_answer n m k s [] h = ap (λ (j : ℕ). importer j k s) h
all_answer n m k s (export.Mention ∷ ms) h = (importer n k s, mentions n k s h.0, all_answer n m k s ms h.1)
all_answer n m k s (export.Take c ∷ ms) h = (importer h.0 k s, lets n c h.0 k s h.1 h.2, all_answer h.0 m k s ms h.3)

from_entry : (o p : Option Import) (ms : List Back) → ImportCounts o → ImportCounts p → KeepsImport o p → Leaves (import_count o) ms (import_count p) → AnswersAll (importer_of o) ms (importer_of p)
from_entry None None ms a b h l = all_answer 0 0 export.Hosted export.Nothing ms l
from_entry None (Some y) ms a b h l = absurd h
from_entry (Some x) None ms a b h l =
    let k = kind_of x.kind in
    let s = said_of x.resolution in
    subst (λ (i : Importer). AnswersAll i ms export.Absent) (holds x.count k s a) (all_answer x.count 0 k s ms l)
from_entry (Some x) (Some y) ms a b h l =
    let k = kind_of x.kind in
    let s = said_of x.resolution in
    let after : importer y.count k s ≡ importer_of (Some y) = holds y.count k s b ∙ ap (λ i. export.Holds y.count (kind_of i) s) (sym h.0) ∙ ap (λ r. export.Holds y.count (kind_of y.kind) (said_of r)) (sym h.1) in
    subst (λ (i : Importer). AnswersAll i ms (importer_of (Some y))) (holds x.count k s a) (subst (λ (i : Importer). AnswersAll (importer x.count k s) ms i) after (all_answer x.count y.count k s ms l))

pub answers : (last d : Progress) (list : Acts last d) → AllName list → IsReady d.state → IsCovered d.state → IsCounted d → d.released ≡ map.empty → last.released ≡ map.empty → (e : ℕ) → AnswersAll (importer_of (map.get d.state.imports e)) (backs_for e (all_sent list)) (importer_of (map.get last.state.imports e))
answers last d list n r i c f g e =
    let a = none_waits e d f in
    let b = none_waits e last g in
    let apart = λ (q : ℕ). inl (ap (λ (m : Map ℕ). map.get m q) f ∙ map.get-empty nat_cmp q) in
    let l = answering.acts e last d list n r i apart c in
    let from : view e d ≡ count e d.state = omega (arith, a) in
    let to : view e last ≡ count e last.state = omega (arith, b) in
    let z = above.acts last d list c in
    from_entry (map.get d.state.imports e) (map.get last.state.imports e) (backs_for e (all_sent list)) (c.state.imports e) (z.counted.state.imports e) (acts last d list e)
    (subst (λ (j : ℕ). Leaves j (backs_for e (all_sent list)) (count e last.state)) from (subst (λ (j : ℕ). Leaves (view e d) (backs_for e (all_sent list)) j) to l))
