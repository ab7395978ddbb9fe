use Rattle.std.proofs.Common.{◌≡◌, ℕ, ◌+◌, ◌≤◌, Bool, true, false, cond, ltb, List, length, Option, Some, None, Result, Ok, Err, refl, sym, ap, subst, ◌∙◌, arith}
use Rattle.std.specs.Option.{IfSome, unwrap_or}
use Rattle.std.specs.Prelude.{◌*◌, IfOk}
use Rattle.std.proofs.lemmas.Bool.{ltb-false}
use Rattle.std.proofs.lemmas.List.{get_or_past}
use Rattle.std.proofs.lemmas.Result.{err_from_is_err_and}
use Rattle.capn_trees.specs.declared.faults.PayloadFault.{PayloadFault}
use Rattle.capn_trees.specs.declared.faults.PayloadFault.TheVariants.{OutOfBounds}
use Rattle.capn_reading.specs.declared.pointer.Tag.{Tag}
use Rattle.capn_reading.specs.declared.referent.Content.{Content}
use Rattle.capn_reading.specs.Pointers.{words_of, tag_of}
use Rattle.capn_reading.specs.Segments.{segment_of, size_of}
use Rattle.capn_reading.specs.Following.{◌>>=◌, most_counted}
use Rattle.capn_reading.specs.Layouts.{EndsIn, placed, shaped, tagged, laid, IsWithin}
use Rattle.capn_reading.proofs.Steps.{ends_before}
use Rattle.capn_reading.proofs.layout.lay_out.Goals as goal

in_bounds : (b : Bool) (start n : ℕ) → cond b (Err OutOfBounds) (Ok start) ≡ Ok n → (b ≡ false) × (start ≡ n)
in_bounds true start n e = absurd (let bad : Err OutOfBounds ≡ Ok n = e in cc)
in_bounds false start n e = (refl, cc)

placed_ends : (o : Option ℕ) (words size n : ℕ) → placed o words size ≡ Ok n → n + words ≤ size
placed_ends None words size n e = absurd (let bad : Err OutOfBounds ≡ Ok n = e in cc)
placed_ends (Some start) words size n e =
    let p = in_bounds (ltb size (start + words)) start n e in
    let room = ltb-false size (start + words) p.0 in
    let same = p.1 in
    omega (arith, room, same)

size_by : (m : List (List ℕ)) (s : ℕ) (b : Bool) → ltb s (length m) ≡ b → unwrap_or (cond b (Some (length (segment_of m s))) None) 0 ≡ length (segment_of m s)
size_by m s true e = refl
size_by m s false e = sym (ap length (get_or_past m s _ (ltb-false s (length m) e)))

short_by : (o : Option ℕ) → IfSome o (λ n. n ≤ most_counted) → unwrap_or o 0 ≤ most_counted
short_by None h = omega arith
short_by (Some n) h = h

-- where a content lies, and what it consists of, once its place was found
lies : (m : List (List ℕ)) (c : Content) (o : Option ℕ) (size words n : ℕ) (p : Result ℕ PayloadFault) → o ≡ size_of m c.segment → IfSome o (λ k. k ≤ most_counted) → size ≡ unwrap_or o 0 → words ≡ words_of c.shape → p ≡ placed c.start words size → p ≡ Ok n
    → EndsIn (length (segment_of m c.segment)) (n + words_of c.shape) × (laid m c ≡ shaped m c.segment n c.shape)
unfolding laid
lies m c o size words n p is_o few is_size is_words is_p ok =
    let whole : size ≡ length (segment_of m c.segment) = is_size ∙ ap (λ (x : Option ℕ). unwrap_or x 0) is_o ∙ size_by m c.segment (ltb c.segment (length m)) refl in
    let short : size ≤ most_counted = subst (λ (k : ℕ). k ≤ most_counted) (sym is_size) (short_by o few) in
    let found : placed c.start (words_of c.shape) (length (segment_of m c.segment)) ≡ Ok n = sym (ap (λ (w : ℕ). placed c.start w size) is_words ∙ ap (placed c.start (words_of c.shape)) whole) ∙ sym is_p ∙ ok in
    let ends = placed_ends c.start (words_of c.shape) (length (segment_of m c.segment)) n found in
    (record { inside = ends; small = omega (arith, ends, whole, short) }, ap (λ (r : Result ℕ PayloadFault). r >>= λ i. shaped m c.segment i c.shape) found)

-- what keeps a content from being placed
unlaid : (m : List (List ℕ)) (c : Content) (o : Option ℕ) (size words : ℕ) (e : PayloadFault) → o ≡ size_of m c.segment → size ≡ unwrap_or o 0 → words ≡ words_of c.shape
    → Err e ≡ placed c.start words size → Err e ≡ laid m c
unfolding laid
unlaid m c o size words e is_o is_size is_words is_e =
    let whole : size ≡ length (segment_of m c.segment) = is_size ∙ ap (λ (x : Option ℕ). unwrap_or x 0) is_o ∙ size_by m c.segment (ltb c.segment (length m)) refl in
    ap (λ (r : Result ℕ PayloadFault). r >>= λ i. shaped m c.segment i c.shape) (is_e ∙ ap (λ (w : ℕ). placed c.start w size) is_words ∙ ap (placed c.start (words_of c.shape)) whole)

-- structs that a tag promises lie where their words do
promised : (n size count d p words : ℕ) (b : Bool) → ltb words (count * (d + p)) ≡ b → EndsIn size (n + (words + 1)) → IfOk (tagged n words (Some (record { count = count; data_words = d; pointer_words = p }))) (IsWithin size)
promised n size count d p words true e ends = rw e tt
promised n size count d p words false e ends = let room = ltb-false words (count * (d + p)) e in rw e (ends_before ends (omega (arith, room)))

tag_within : (n size words : ℕ) (t : Option Tag) → EndsIn size (n + (words + 1)) → IfOk (tagged n words t) (IsWithin size)
tag_within n size words None ends = tt
tag_within n size words (Some t) ends = promised n size t.count t.data_words t.pointer_words words (ltb words (t.count * (t.data_words + t.pointer_words))) refl ends

pub returns-in_err-start : goal.returns-in_err-start
returns-in_err-start c =
    let p = err_from_is_err_and c.from_residual.result c.from_residual.ensures.1 in
    record {
      laid = rw (p.1, p.2) (unlaid c.args.message.now c.args.content c.size.result c.unwrap_or-size.result c.words.result c.in_err-start.field-0.0 c.size.ensures.size c.unwrap_or-size.ensures c.words.ensures c.in_err-start.ensures);
      within = rw p.1 tt;
    }

pub returns-in-Struct : goal.returns-in-Struct
returns-in-Struct c =
    let l = lies c.args.message.now c.args.content c.size.result c.unwrap_or-size.result c.words.result c.in_ok-start.start c.start_of.result c.size.ensures.size c.size.ensures.short c.unwrap_or-size.ensures c.words.ensures c.start_of.ensures c.in_ok-start.was in
    record {
      laid = sym (l.1 ∙ ap (shaped c.args.message.now c.args.content.segment c.in_ok-start.start) c.in-Struct.is);
      within = ends_before (rw c.in-Struct.is at l.0) (omega arith);
    }

pub returns-in-Packed : goal.returns-in-Packed
returns-in-Packed c =
    let l = lies c.args.message.now c.args.content c.size.result c.unwrap_or-size.result c.words.result c.in_ok-start.start c.start_of.result c.size.ensures.size c.size.ensures.short c.unwrap_or-size.ensures c.words.ensures c.start_of.ensures c.in_ok-start.was in
    record {
      laid = sym (l.1 ∙ ap (shaped c.args.message.now c.args.content.segment c.in_ok-start.start) c.in-Packed.is);
      within = rw c.in-Packed.is at l.0;
    }

pub returns-in-Pointers : goal.returns-in-Pointers
returns-in-Pointers c =
    let l = lies c.args.message.now c.args.content c.size.result c.unwrap_or-size.result c.words.result c.in_ok-start.start c.start_of.result c.size.ensures.size c.size.ensures.short c.unwrap_or-size.ensures c.words.ensures c.start_of.ensures c.in_ok-start.was in
    record {
      laid = sym (l.1 ∙ ap (shaped c.args.message.now c.args.content.segment c.in_ok-start.start) c.in-Pointers.is);
      within = rw c.in-Pointers.is at l.0;
    }

pub returns-in-Composite-clause-laid : goal.returns-in-Composite-clause-laid
returns-in-Composite-clause-laid c =
    let l = lies c.args.message.now c.args.content c.size.result c.unwrap_or-size.result c.words.result c.in_ok-start.start c.start_of.result c.size.ensures.size c.size.ensures.short c.unwrap_or-size.ensures c.words.ensures c.start_of.ensures c.in_ok-start.was in
    c.tagged_at.ensures ∙ ap (tagged c.in_ok-start.start c.in-Composite.words) (c.decode-tag.ensures ∙ ap tag_of c.word.ensures)
    ∙ sym (l.1 ∙ ap (shaped c.args.message.now c.args.content.segment c.in_ok-start.start) c.in-Composite.is)

pub returns-in-Composite-clause-within : goal.returns-in-Composite-clause-within
returns-in-Composite-clause-within c =
    let l = lies c.args.message.now c.args.content c.size.result c.unwrap_or-size.result c.words.result c.in_ok-start.start c.start_of.result c.size.ensures.size c.size.ensures.short c.unwrap_or-size.ensures c.words.ensures c.start_of.ensures c.in_ok-start.was in
    rw c.tagged_at.ensures (tag_within c.in_ok-start.start (length (segment_of c.args.message.now c.args.content.segment)) c.in-Composite.words c.decode-tag.result (rw c.in-Composite.is at l.0))

pub word-requires : goal.word-requires
word-requires c =
    let l = lies c.args.message.now c.args.content c.size.result c.unwrap_or-size.result c.words.result c.in_ok-start.start c.start_of.result c.size.ensures.size c.size.ensures.short c.unwrap_or-size.ensures c.words.ensures c.start_of.ensures c.in_ok-start.was in
    let inside = (rw c.in-Composite.is at l.0).inside in
    omega (arith, inside)

pub tagged_at-requires : goal.tagged_at-requires
tagged_at-requires c =
    let l = lies c.args.message.now c.args.content c.size.result c.unwrap_or-size.result c.words.result c.in_ok-start.start c.start_of.result c.size.ensures.size c.size.ensures.short c.unwrap_or-size.ensures c.words.ensures c.start_of.ensures c.in_ok-start.was in
    let small = (rw c.in-Composite.is at l.0).small in
    omega (arith, small)
