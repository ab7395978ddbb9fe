-- What is read, whatever number of words was visited before.
use Rattle.std.proofs.Common.{◌≡◌, ℕ, suc, ◌+◌, List, take, drop, Ok, sym, ap, subst, ◌∙◌}
use Rattle.std.specs.Prelude.{IsOk}
use Rattle.capn_reading.specs.declared.referent.Content.{Content}
use Rattle.capn_reading.specs.declared.referent.Referent.{Referent}
use Rattle.capn_reading.specs.declared.referent.Referent.TheVariants as referent
use Rattle.capn_reading.specs.declared.layout.Layout.{Layout}
use Rattle.capn_reading.specs.declared.layout.Layout.TheVariants as layout
use Rattle.capn_trees.specs.declared.width.Width.{Width}
use Rattle.capn_trees.specs.Widths.{bits_of}
use Rattle.capn_trees.specs.Trees as tree
use Rattle.capn_trees.specs.Trees.{Tree, Trees, Structs}
use Rattle.capn_reading.specs.Segments.{segment_of}
use Rattle.capn_reading.specs.Following.{followed}
use Rattle.capn_reading.specs.Layouts.{laid}
use Rattle.capn_reading.specs.Reading.{Reading, Reads, ReadsTo, elements, pointers_at, structs_at, content_of, reading}
use Rattle.capn_reading.proofs.Rooted.{read_as, first_is}
use Rattle.capn_reading.proofs.Places.{followed_fresh}
use Rattle.capn_reading.proofs.Joining.{struct_reads, pointers_read_ok, structs_read_ok, struct_is, packed_is, pointers_is, structs_is, reads_followed, reading_null, reading_capability, not_too_deep, deep_laid, deep_visited, deep_content}

-- a content, by its parts
module _ (m : List (List ℕ)) (read : ℕ → ℕ → ℕ → Reading Tree) (s : ℕ) where
  pub struct_to : (start d p : ℕ) (ts : Trees) (t : Tree) → ReadsTo (pointers_at read s (start + d) p) ts → tree.struct (take d (drop start (segment_of m s))) ts ≡ t → ReadsTo (content_of m read s (layout.Struct start d p)) t
  struct_to start d p ts t h e v ok =
      let one = h v (struct_reads m read s v start d p ok) in
      (one.0, struct_is m read s v start d p ts one.0 one.1 ∙ ap (λ (u : Tree). read_as u one.0) e)

  pub packed_to : (start : ℕ) (width : Width) (count : ℕ) (t : Tree) → tree.list (tree.packed (bits_of width) (elements (drop start (segment_of m s)) (bits_of width) 0 count)) ≡ t → ReadsTo (content_of m read s (layout.Packed start width count)) t
  packed_to start width count t e v ok = (v, packed_is m read s v start width count ∙ ap (λ (u : Tree). read_as u v) e)

  pub pointers_to : (start count : ℕ) (ts : Trees) (t : Tree) → ReadsTo (pointers_at read s start count) ts → tree.list (tree.pointers ts) ≡ t → ReadsTo (content_of m read s (layout.Pointers start count)) t
  pointers_to start count ts t h e v ok =
      let one = h v (pointers_read_ok m read s v start count ok) in
      (one.0, pointers_is m read s v start count ts one.0 one.1 ∙ ap (λ (u : Tree). read_as u one.0) e)

  pub structs_to : (start count d p words : ℕ) (ss : Structs) (t : Tree) → ReadsTo (structs_at m read s d p start count) ss → tree.list (tree.structs d p ss) ≡ t → ReadsTo (content_of m read s (layout.Structs start count d p words)) t
  structs_to start count d p words ss t h e v ok =
      let one = h v (structs_read_ok m read s v start count d p words ok) in
      (one.0, structs_is m read s v start count d p words ss one.0 one.1 ∙ ap (λ (u : Tree). read_as u one.0) e)

-- a pointer, by what it leads to
module _ (m : List (List ℕ)) (caps levels s i : ℕ) where
  pub leads_somewhere : Reads (reading m caps levels s i) → (r : Referent) × (n : ℕ) × (followed m caps s i 0 ≡ Ok (r, n))
  leads_somewhere reads =
      let f = reads_followed m caps levels s i reads.0 reads.1 in
      let g = followed_fresh m caps s i reads.0 f.0.0 f.0.1 f.1 in
      (f.0.0, g.0, g.1)

  module _ (r : Referent) (n : ℕ) (found : Ok (r, n) ≡ followed m caps s i 0) where
    pub leads_there : (v : ℕ) → IsOk (reading m caps levels s i v) → (after : ℕ) × (Ok (r, after) ≡ followed m caps s i v)
    leads_there v ok =
        let f = reads_followed m caps levels s i v ok in
        let g = followed_fresh m caps s i v f.0.0 f.0.1 f.1 in
        let same : f.0.0 ≡ r = first_is f.0.0 r g.0 n (sym g.1 ∙ sym found) in
        (f.0.1, sym (f.1 ∙ ap (λ (x : Referent). read_as x f.0.1) same))

  pub null_to : (n : ℕ) → Ok (referent.Null, n) ≡ followed m caps s i 0 → (t : Tree) → tree.null ≡ t → ReadsTo (reading m caps levels s i) t
  null_to n found t e v ok =
      let f = leads_there referent.Null n found v ok in
      (f.0, reading_null m caps levels s i v f.0 f.1 ∙ ap (λ (u : Tree). read_as u f.0) e)

  pub capability_to : (index n : ℕ) → Ok (referent.Capability index, n) ≡ followed m caps s i 0 → (t : Tree) → tree.capability index ≡ t → ReadsTo (reading m caps levels s i) t
  capability_to index n found t e v ok =
      let f = leads_there (referent.Capability index) n found v ok in
      (f.0, reading_capability m caps levels s i v index f.0 f.1 ∙ ap (λ (u : Tree). read_as u f.0) e)

  -- a content that reads
  module _ (c : Content) (n : ℕ) (found : Ok (referent.Content c, n) ≡ followed m caps s i 0) where
    pub has_level : levels ≡ 0 → Reads (reading m caps levels s i) → ⊥
    has_level none reads =
        let f = leads_there (referent.Content c) n found reads.0 reads.1 in
        not_too_deep m caps levels s i reads.0 c f.0 f.1 none reads.1

    pub has_place : (k : ℕ) → levels ≡ suc k → Reads (reading m caps levels s i) → (place : Layout) × (laid m c ≡ Ok place)
    has_place k more reads =
        let f = leads_there (referent.Content c) n found reads.0 reads.1 in
        deep_laid m caps k levels s i reads.0 c f.0 f.1 more reads.1

    pub content_reads : (k : ℕ) → levels ≡ suc k → (place : Layout) → Ok place ≡ laid m c → Reads (reading m caps levels s i) → Reads (content_of m (reading m caps k) c.segment place)
    content_reads k more place is_laid reads =
        let f = leads_there (referent.Content c) n found reads.0 reads.1 in
        let w = deep_visited m caps k levels s i reads.0 c f.0 f.1 more place is_laid reads.1 in
        let e = deep_content m caps k levels s i reads.0 c f.0 f.1 more place w.0 is_laid (sym w.1) in
        (w.0, subst (λ (r : Reading Tree). IsOk r) (sym e) reads.1)

    pub content_to : (k : ℕ) → levels ≡ suc k → (place : Layout) → Ok place ≡ laid m c → (t : Tree) → ReadsTo (content_of m (reading m caps k) c.segment place) t → ReadsTo (reading m caps levels s i) t
    content_to k more place is_laid t h v ok =
        let f = leads_there (referent.Content c) n found v ok in
        let w = deep_visited m caps k levels s i v c f.0 f.1 more place is_laid ok in
        let e = deep_content m caps k levels s i v c f.0 f.1 more place w.0 is_laid (sym w.1) in
        let one = h w.0 (subst (λ (r : Reading Tree). IsOk r) (sym e) ok) in
        (one.0, sym e ∙ one.1)
