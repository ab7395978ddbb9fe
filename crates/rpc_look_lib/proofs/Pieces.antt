-- A piece, of which parts came.
use Rattle.std.proofs.Common.{◌≡◌, ℕ, ◌+◌, ◌-◌, ◌≤◌, Bool, true, false, List, [], ◌∷◌, ◌++◌, length, take, drop, length-drop, arith, Option, Some, None, is_some, IfSome, Result, Ok, Err, refl, sym, ap, subst, ◌∙◌, append_assoc, append-nil}
use Rattle.std.specs.List.{AllByRecursion, concat}
use Rattle.std.proofs.lemmas.List.{take_all, drop_all, drop-drop}
use Rattle.capn_trees.specs.declared.faults.PayloadFault.{PayloadFault}
use Rattle.capn_stream.specs.declared.error.StreamError.TheVariants as error
use Rattle.capn_stream.specs.declared.front.Front.{Front}
use Rattle.capn_stream.specs.declared.front.Front.TheVariants.{Complete, Need, Fault}
use Rattle.capn_stream.specs.Fronts.{front_of, IsFrame}
use Rattle.look_pieces.specs.declared.piece.Side.{Side}
use Rattle.rpc_look_lib.specs.Talking.{Stand, with_breach, is_done, Comes, AllCome}
use Rattle.rpc_look_lib.specs.Streams.{Waits, IsBegun, Gives}
use Rattle.rpc_look_lib.specs.Capturing.{FrameComes, OneComes, PartBy, PartComes, EndsBy, PieceGives, StreamComes}
use Rattle.rpc_look_lib.proofs.Frames.{no_truth}

-- ---- lists

pub all_more : {X : Type 0} (P : X → Type 0) (xs : List X) (x : X) → AllByRecursion P xs → P x → AllByRecursion P (xs ++ x ∷ [])
all_more P [] x all p = (p, tt)
all_more P (y ∷ xs) x all p = (all.0, all_more P xs x all.1 p)

pub concat_more : (xs : List (List ℕ)) (x : List ℕ) → concat (xs ++ x ∷ []) ≡ concat xs ++ x
concat_more [] x = append-nil x
concat_more (y ∷ xs) x = ap (λ (t : List ℕ). y ++ t) (concat_more xs x) ∙ sym (append_assoc y (concat xs) x)

-- ---- frames that come

pub come_more : (at : Option ℕ) (s : Side) (time : Option ℕ) (old mid new : Stand) (frames : List (List ℕ)) (frame : List ℕ) → AllCome at s time old frames mid → is_done at mid ≡ false
    → Comes mid s time frame new → AllCome at s time old (frames ++ frame ∷ []) new
come_more at s time old mid new [] frame e going c = (subst (λ (x : Stand). is_done at x ≡ false) e going, new, subst (λ (x : Stand). Comes x s time frame new) e c, refl)
come_more at s time old mid new (f ∷ frames) frame a going c = (a.0, a.1, a.2, come_more at s time a.1 mid new frames frame a.3 going c)

-- Frames of a piece came, and behind them some bytes wait and the others are left.
pub record Partly (at : Option ℕ) (s : Side) (time : Option ℕ) (bytes held : List ℕ) (old : Stand) (left waits : List ℕ) (now : Stand) : Type 0 where
  pub frames : List (List ℕ)
  pub whole : AllByRecursion IsFrame frames
  pub joined : held ++ bytes ≡ concat frames ++ (waits ++ left)
  pub come : AllCome at s time old frames now

pub partly_none : (at : Option ℕ) (s : Side) (time : Option ℕ) (bytes held : List ℕ) (old : Stand) → Partly at s time bytes held old bytes held old
partly_none at s time bytes held old = record { frames = []; whole = tt; joined = refl; come = refl }

module _ (at : Option ℕ) (s : Side) (time : Option ℕ) (bytes held : List ℕ) (old : Stand) (left waits : List ℕ) (now : Stand) (p : Partly at s time bytes held old left waits now) where
  partly_frame : (frame more : List ℕ) (new : Stand) → is_done at now ≡ false → waits ++ left ≡ frame ++ more → IsFrame frame → Comes now s time frame new
      → Partly at s time bytes held old more [] new
  partly_frame frame more new going same is c = record {
    frames = p.frames ++ frame ∷ [];
    whole = all_more IsFrame p.frames frame p.whole is;
    joined = p.joined ∙ ap (λ (t : List ℕ). concat p.frames ++ t) same ∙ sym (append_assoc (concat p.frames) frame more) ∙ ap (λ (t : List ℕ). t ++ more) (sym (concat_more p.frames frame));
    come = come_more at s time old now new p.frames frame p.come going c;
  }

  partly_waits : (next more : List ℕ) (new : Stand) → waits ++ left ≡ next ++ more → new ≡ now → Partly at s time bytes held old more next new
  partly_waits next more new same e = record {
    frames = p.frames;
    whole = p.whole;
    joined = p.joined ∙ ap (λ (t : List ℕ). concat p.frames ++ t) same;
    come = subst (λ (x : Stand). AllCome at s time old p.frames x) (sym e) p.come;
  }

  -- one part more
  pub partly_more : (count : ℕ) (frame : Option (List ℕ)) (next more : List ℕ) (new : Stand) → is_done at now ≡ false → drop count left ≡ more → OneComes s time waits left now count frame next new
      → Partly at s time bytes held old more next new
  partly_more count None next more new going rest o = partly_waits next more new (o.0 ∙ ap (λ (t : List ℕ). next ++ t) rest) o.1
  partly_more count (Some frame) next more new going rest o =
      subst (λ (w : List ℕ). Partly at s time bytes held old more w new) (sym o.0.0) (partly_frame frame more new going (o.0.1 ∙ ap (λ (t : List ℕ). frame ++ t) rest) o.1.0 o.1.1)

  -- the last message came that is asked for
  pub piece_done : (w : Waits) → is_done at now ≡ true → PieceGives at s time bytes held old w now
  piece_done w e = record {
    frames = p.frames;
    rest = waits ++ left;
    split = record { whole = p.whole; joined = p.joined };
    stand = now;
    come = p.come;
    ends = subst (λ (b : Bool). EndsBy b (front_of (waits ++ left)) (waits ++ left) now w now) (sym e) refl;
  }

  -- no frame comes next
  pub piece_fault : (f : PayloadFault) (w : Waits) (new : Stand) → is_done at now ≡ false → front_of (waits ++ left) ≡ Fault f → w ≡ None → new ≡ with_breach now → PieceGives at s time bytes held old w new
  piece_fault f w new going front none e = record {
    frames = p.frames;
    rest = waits ++ left;
    split = record { whole = p.whole; joined = p.joined };
    stand = now;
    come = p.come;
    ends = subst (λ (b : Bool). EndsBy b (front_of (waits ++ left)) (waits ++ left) now w new) (sym going) (subst (λ (g : Front). EndsBy false g (waits ++ left) now w new) (sym front) (e, none));
  }

ends_by : (done : Bool) (f : Front) (rest : List ℕ) (now : Stand) (w : Waits) → IsBegun f → w ≡ Some rest → EndsBy done f rest now w now
ends_by true f rest now w begun e = refl
ends_by false (Complete n) rest now w begun e = absurd begun
ends_by false (Need n) rest now w begun e = (refl, e)
ends_by false (Fault f) rest now w begun e = absurd begun

-- all of the piece came
pub piece_whole : (at : Option ℕ) (s : Side) (time : Option ℕ) (bytes held : List ℕ) (old : Stand) (left waits : List ℕ) (now : Stand) (w : Waits) → Partly at s time bytes held old left waits now
    → left ≡ [] → IsBegun (front_of waits) → w ≡ Some waits → PieceGives at s time bytes held old w now
piece_whole at s time bytes held old left waits now w p none begun e = record {
  frames = p.frames;
  rest = waits;
  split = record { whole = p.whole; joined = p.joined ∙ ap (λ (t : List ℕ). concat p.frames ++ t) (ap (λ (t : List ℕ). waits ++ t) none ∙ append-nil waits) };
  stand = now;
  come = p.come;
  ends = ends_by (is_done at now) (front_of waits) waits now w begun e;
}

-- ---- an end, of whose piece so many bytes were taken

abbrev pub Midway : Option ℕ → Side → Option ℕ → List ℕ → Waits → Stand → ℕ → Waits → Stand → Type 0
Midway at s time bytes start old from w now =
    (held waits : List ℕ) × (start ≡ Some held) × (w ≡ Some waits) × IsBegun (front_of waits) × Partly at s time bytes held old (drop from bytes) waits now

pub midway_start : (at : Option ℕ) (s : Side) (time : Option ℕ) (bytes : List ℕ) (start : Waits) (old : Stand) → is_some start ≡ true → IfSome start (λ waits. IsBegun (front_of waits))
    → Midway at s time bytes start old 0 start old
midway_start at s time bytes None old e begun = absurd (no_truth e)
midway_start at s time bytes (Some held) old e begun = (held, held, refl, refl, begun, partly_none at s time bytes held old)

-- nothing of the end is read
pub stream_passed : (at : Option ℕ) (s : Side) (time : Option ℕ) (bytes : List ℕ) (start : Waits) (old : Stand) → is_some start ≡ false → StreamComes at s time bytes start old start old
stream_passed at s time bytes None old e = (refl, refl)
stream_passed at s time bytes (Some held) old e = absurd (no_truth (sym e))

module _ (at : Option ℕ) (s : Side) (time : Option ℕ) (bytes : List ℕ) (start : Waits) (old : Stand) (from : ℕ) (w : Waits) (now : Stand) (m : Midway at s time bytes start old from w now) where
  pub midway_read : is_some w ≡ true
  midway_read = ap is_some m.3

  pub midway_more : (count : ℕ) (more : Waits) (new : Stand) → is_done at now ≡ false → PartComes s time (drop from bytes) w now (Some count) more new → Midway at s time bytes start old (from + count) more new
  midway_more count more new going p =
      let q : PartBy s time m.1 (drop from bytes) now (Some count) more new = subst (λ (x : Waits). PartComes s time (drop from bytes) x now (Some count) more new) m.3 p in
      (m.0, q.1, m.2, q.2, q.3, partly_more at s time bytes m.0 old (drop from bytes) m.1 now m.5 count q.0 q.1 (drop (from + count) bytes) new going (drop-drop count from bytes) q.4)

  pub midway_done : is_done at now ≡ true → StreamComes at s time bytes start old w now
  midway_done done = subst (λ (x : Waits). StreamComes at s time bytes x old w now) (sym m.2) (piece_done at s time bytes m.0 old (drop from bytes) m.1 now m.5 w done)

  pub midway_fault : (more : Waits) (new : Stand) → is_done at now ≡ false → PartComes s time (drop from bytes) w now None more new → StreamComes at s time bytes start old more new
  midway_fault more new going p =
      let q : PartBy s time m.1 (drop from bytes) now None more new = subst (λ (x : Waits). PartComes s time (drop from bytes) x now None more new) m.3 p in
      subst (λ (x : Waits). StreamComes at s time bytes x old more new) (sym m.2) (piece_fault at s time bytes m.0 old (drop from bytes) m.1 now m.5 q.0 more new going q.1 q.2 q.3)

  pub midway_whole : drop from bytes ≡ [] → StreamComes at s time bytes start old w now
  midway_whole none = subst (λ (x : Waits). StreamComes at s time bytes x old w now) (sym m.2) (piece_whole at s time bytes m.0 old (drop from bytes) m.1 now w m.5 none m.4 m.3)

-- ---- a part of a piece

pub all_behind : (at : ℕ) (piece : List ℕ) → take (length piece - at) (drop at piece) ≡ drop at piece
all_behind at piece = let size = length-drop at piece in take_all (length piece - at) (drop at piece) (omega arith)

pub none_behind : (at : ℕ) (piece : List ℕ) → length piece ≤ at → drop at piece ≡ []
none_behind at piece le = drop_all at piece le

pub part_given : (s : Side) (time : Option ℕ) (part : List ℕ) (old : Waits) (count : ℕ) (frame : Option (List ℕ)) (w : Waits) (x y : Stand) → Gives old part (Ok (record { count = count; frame = frame })) w
    → FrameComes s time x frame y → PartComes s time part old x (Some count) w y
part_given s time part None count frame w x y g f = absurd g
part_given s time part (Some held) count frame w x y g f = (frame, g.0, g.1, g.2, (g.3, f))

pub part_failed : (s : Side) (time : Option ℕ) (part : List ℕ) (old : Waits) (f : PayloadFault) (w : Waits) (x y : Stand) → Gives old part (Err (error.Fault f)) w → y ≡ with_breach x
    → PartComes s time part old x None w y
part_failed s time part None f w x y g e = absurd g
part_failed s time part (Some held) f w x y g e = (f, g.1, g.0, e)
