-- Two logs, in an order in which no byte comes before it was given, are what two joined connections do.
use Rattle.std.proofs.Common.{◌≡◌, ℕ, Bool, true, false, cond, List, [], ◌∷◌, ◌++◌, append-nil, append_assoc, Option, refl, sym, ap, subst, ◌∙◌}
use Rattle.rpc_msg.specs.Vats.{other_vat}
use Rattle.rpc_msg.specs.declared.ids.ObjectId.{ObjectId}
use Rattle.rpc_msg.specs.declared.ids.Vat.{Vat}
use Rattle.rpc_msg.specs.declared.ids.Vat.TheVariants.{A, B}
use Rattle.rpc_journal.specs.History.{same_vat}
use Rattle.vat_connection.specs.Connecting.{Connected}
use Rattle.vat_connections.specs.OneConnection.{Act, ActsAll}
use Rattle.vat_connections.specs.OneConnection.Act.{Commands, Receives, Ends, Shuts, Gives, Asks, SetsLimits, SetsFinishes}
use Rattle.laws_in_bytes.specs.Joined.{Doing, Joined, JoinedRun, Moves, end, new_joined, put_end, put_stream, stream}
use Rattle.vat_joined.specs.Promised.{JoinedKeepPromises}
use Rattle.vat_joined.specs.Logs.{LogsKeepPromises, NoneComesBefore, acts_at, came, came_by, given, given_by}
use Rattle.vat_joined.proofs.Lists.{behind_same}

abbrev doing : Vat → Act → Doing
doing v x = record { vat = v; act = x }

-- From here on: what comes to a vat is a beginning of what is on its way and of what the other gives.
abbrev Comes : Joined → List Doing → Type 0
Comes j xs = (v : Vat) (before behind : List Doing) → xs ≡ before ++ behind → (rest : List ℕ) × (stream j v ++ given (other_vat v) before ≡ came v before ++ rest)

-- ---- one act

given_more : (w v : Vat) (x : Act) (xs : List Doing) → given w (doing v x ∷ xs) ≡ cond (same_vat w v) (given_by x) [] ++ given w xs
given_more A A x xs = refl
given_more A B x xs = refl
given_more B A x xs = refl
given_more B B x xs = refl

came_more : (w v : Vat) (x : Act) (xs : List Doing) → came w (doing v x ∷ xs) ≡ cond (same_vat w v) (came_by x) [] ++ came w xs
came_more A A x xs = refl
came_more A B x xs = refl
came_more B A x xs = refl
came_more B B x xs = refl

-- The vat that acts is left so, and the other as it was. What was on its way to each, with what is given, is what comes with what is on
-- its way then.
record Moved (j : Joined) (v : Vat) (x : Act) (c : Connected) (new : Joined) : Type 0 where
  pub moves : Moves j v x c new
  pub here : end new v ≡ c
  pub there : end new (other_vat v) ≡ end j (other_vat v)
  pub flows : (w : Vat) → stream j w ++ cond (same_vat (other_vat w) v) (given_by x) [] ≡ cond (same_vat w v) (came_by x) [] ++ stream new w

none_if : (b : Bool) (l : List ℕ) → l ≡ [] → cond b l [] ≡ []
none_if true l e = e
none_if false l e = refl

stream_stays : (w v : Vat) (j : Joined) (c : Connected) → stream j w ≡ stream (put_end j v c) w
stream_stays A A j c = refl
stream_stays A B j c = refl
stream_stays B A j c = refl
stream_stays B B j c = refl

end_here : (v : Vat) (j : Joined) (c : Connected) → end (put_end j v c) v ≡ c
end_here A j c = refl
end_here B j c = refl

end_there : (v : Vat) (j : Joined) (c : Connected) → end (put_end j v c) (other_vat v) ≡ end j (other_vat v)
end_there A j c = refl
end_there B j c = refl

still : (j : Joined) (v : Vat) (x : Act) (c : Connected) → given_by x ≡ [] → came_by x ≡ [] → Moves j v x c (put_end j v c) → Moved j v x c (put_end j v c)
still j v x c none_given none_came moves = record {
  moves = moves;
  here = end_here v j c;
  there = end_there v j c;
  flows = λ w.
      ap (λ (l : List ℕ). stream j w ++ l) (none_if (same_vat (other_vat w) v) (given_by x) none_given) ∙ append-nil (stream j w) ∙ stream_stays w v j c
      ∙ ap (λ (l : List ℕ). l ++ stream (put_end j v c) w) (sym (none_if (same_vat w v) (came_by x) none_came));
}

gives : (j : Joined) (v : Vat) (bytes : List ℕ) (c : Connected) → Moved j v (Gives bytes) c (put_stream (put_end j v c) (other_vat v) (stream j (other_vat v) ++ bytes))
gives j A bytes c = record { moves = refl; here = refl; there = refl; flows = flows }
  where
    flows : (w : Vat) → stream j w ++ cond (same_vat (other_vat w) A) bytes [] ≡ cond (same_vat w A) [] [] ++ stream (put_stream (put_end j A c) B (stream j B ++ bytes)) w
    flows A = append-nil j.to_a
    flows B = refl
gives j B bytes c = record { moves = refl; here = refl; there = refl; flows = flows }
  where
    flows : (w : Vat) → stream j w ++ cond (same_vat (other_vat w) B) bytes [] ≡ cond (same_vat w B) [] [] ++ stream (put_stream (put_end j B c) A (stream j A ++ bytes)) w
    flows A = refl
    flows B = append-nil j.to_b

takes : (j : Joined) (v : Vat) (bytes rest : List ℕ) (c : Connected) → stream j v ≡ bytes ++ rest → Moved j v (Receives bytes) c (put_stream (put_end j v c) v rest)
takes j A bytes rest c e = record { moves = (rest, e, refl); here = refl; there = refl; flows = flows }
  where
    flows : (w : Vat) → stream j w ++ cond (same_vat (other_vat w) A) [] [] ≡ cond (same_vat w A) bytes [] ++ stream (put_stream (put_end j A c) A rest) w
    flows A = append-nil j.to_a ∙ e
    flows B = append-nil j.to_b
takes j B bytes rest c e = record { moves = (rest, e, refl); here = refl; there = refl; flows = flows }
  where
    flows : (w : Vat) → stream j w ++ cond (same_vat (other_vat w) B) [] [] ≡ cond (same_vat w B) bytes [] ++ stream (put_stream (put_end j B c) B rest) w
    flows A = append-nil j.to_a
    flows B = append-nil j.to_b ∙ e

-- What is on its way begins with what comes next.
first : (j : Joined) (v : Vat) (bytes rest : List ℕ) → stream j v ++ given (other_vat v) (doing v (Receives bytes) ∷ []) ≡ came v (doing v (Receives bytes) ∷ []) ++ rest → stream j v ≡ bytes ++ rest
first j A bytes rest e = sym (append-nil j.to_a) ∙ e ∙ ap (λ (l : List ℕ). l ++ rest) (append-nil bytes)
first j B bytes rest e = sym (append-nil j.to_b) ∙ e ∙ ap (λ (l : List ℕ). l ++ rest) (append-nil bytes)

moved : (j : Joined) (v : Vat) (x : Act) (c : Connected) (xs : List Doing) → Comes j (doing v x ∷ xs) → (new : Joined) × Moved j v x c new
moved j v (Receives bytes) c xs comes =
    let k = comes v (doing v (Receives bytes) ∷ []) xs refl in
    (put_stream (put_end j v c) v k.0, takes j v bytes k.0 c (first j v bytes k.0 k.1))
moved j v (Gives bytes) c xs comes = (put_stream (put_end j v c) (other_vat v) (stream j (other_vat v) ++ bytes), gives j v bytes c)
moved j v (Commands command answer) c xs comes = (put_end j v c, still j v (Commands command answer) c refl refl refl)
moved j v Ends c xs comes = (put_end j v c, still j v Ends c refl refl refl)
moved j v (Shuts n) c xs comes = (put_end j v c, still j v (Shuts n) c refl refl refl)
moved j v (Asks event) c xs comes = (put_end j v c, still j v (Asks event) c refl refl refl)
moved j v (SetsLimits limits) c xs comes = (put_end j v c, still j v (SetsLimits limits) c refl refl refl)
moved j v (SetsFinishes finishes) c xs comes = (put_end j v c, still j v (SetsFinishes finishes) c refl refl refl)

-- So it is from there on.
on : (j : Joined) (v : Vat) (x : Act) (c : Connected) (xs : List Doing) (new : Joined) → Moved j v x c new → Comes j (doing v x ∷ xs) → Comes new xs
on j v x c xs new m comes w before behind e =
    let k = comes w (doing v x ∷ before) behind (ap (λ (l : List Doing). doing v x ∷ l) e) in
    let g = cond (same_vat (other_vat w) v) (given_by x) [] in
    let h = cond (same_vat w v) (came_by x) [] in
    let there : stream j w ++ (g ++ given (other_vat w) before) ≡ (h ++ came w before) ++ k.0 =
    ap (λ (l : List ℕ). stream j w ++ l) (sym (given_more (other_vat w) v x before)) ∙ k.1 ∙ ap (λ (l : List ℕ). l ++ k.0) (came_more w v x before) in (
      k.0,
      behind_same h (stream new w ++ given (other_vat w) before) (came w before ++ k.0)
          (sym (append_assoc h (stream new w) (given (other_vat w) before)) ∙ ap (λ (l : List ℕ). l ++ given (other_vat w) before) (sym (m.flows w))
          ∙ append_assoc (stream j w) g (given (other_vat w) before) ∙ there ∙ append_assoc h (came w before) k.0),
    )

-- ---- all of them

abbrev Leads : Joined → List Doing → Connected → Connected → Type 0
Leads j xs a b = (to_a to_b : List ℕ) × JoinedRun j xs (record { a = a; b = b; to_a = to_a; to_b = to_b })

abbrev LeadAll : List Doing → Type 0
LeadAll xs = (j : Joined) (a b : Connected) → ActsAll j.a (acts_at A xs) a → ActsAll j.b (acts_at B xs) b → Comes j xs → Leads j xs a b

step : (v : Vat) (x : Act) (xs : List Doing) → LeadAll xs → LeadAll (doing v x ∷ xs)
step A x xs more j a b ran_a ran_b comes =
    let m = moved j A x ran_a.0 xs comes in
    let new = m.0 in
    let k = more new a b (subst (λ (c : Connected). ActsAll c (acts_at A xs) a) (sym m.1.here) ran_a.2) (subst (λ (c : Connected). ActsAll c (acts_at B xs) b) (sym m.1.there) ran_b)
    (on j A x ran_a.0 xs new m.1 comes) in
    (k.0, k.1, (new, record { left = ran_a.0; acts = ran_a.1; moves = m.1.moves }, k.2))
step B x xs more j a b ran_a ran_b comes =
    let m = moved j B x ran_b.0 xs comes in
    let new = m.0 in
    let k = more new a b (subst (λ (c : Connected). ActsAll c (acts_at A xs) a) (sym m.1.there) ran_a) (subst (λ (c : Connected). ActsAll c (acts_at B xs) b) (sym m.1.here) ran_b.2)
    (on j B x ran_b.0 xs new m.1 comes) in
    (k.0, k.1, (new, record { left = ran_b.0; acts = ran_b.1; moves = m.1.moves }, k.2))

lead : (xs : List Doing) → LeadAll xs
lead [] j a b ran_a ran_b comes = (j.to_a, j.to_b, both ran_a ran_b)
  where
    both : a ≡ j.a → b ≡ j.b → record { a = a; b = b; to_a = j.to_a; to_b = j.to_b } ≡ j
    both e f = λ i. record { a = e i; b = f i; to_a = j.to_a; to_b = j.to_b }
lead (x ∷ xs) j a b ran_a ran_b comes = step x.vat x.act xs (lead xs) j a b ran_a ran_b comes

at_first : (letters : Vat → Vat) (root_a root_b : Option ObjectId) (xs : List Doing) → NoneComesBefore xs → Comes (new_joined letters root_a root_b) xs
at_first letters root_a root_b xs none A before behind e = none A before behind e
at_first letters root_a root_b xs none B before behind e = none B before behind e

pub logs_keep_promises : JoinedKeepPromises → LogsKeepPromises
logs_keep_promises keep letters root_a root_b xs a b l =
    let r = lead xs (new_joined letters root_a root_b) a b
    (subst (λ (acts : List Act). ActsAll (new_joined letters root_a root_b).a acts a) (sym l.order.of_a) l.ran_a)
    (subst (λ (acts : List Act). ActsAll (new_joined letters root_a root_b).b acts b) (sym l.order.of_b) l.ran_b)
    (at_first letters root_a root_b xs l.none_before) in
    (r.0, r.1, keep _ (record { letters = letters; root_a = root_a; root_b = root_b; done = xs; ran = r.2; at_once = l.at_once; noted = refl }))
