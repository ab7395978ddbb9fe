use Rattle.std.proofs.Common.{◌≡◌, length, refl, ◌∙◌, arith}
use Rattle.std.proofs.lemmas.List.{length-map}
use Rattle.capn_writing.proofs.Laid.{few_elements, small_number}
use Rattle.capn_writing.proofs.place.place_packed.Goals as goal

pub word_of_list-requires-clause-size : goal.word_of_list-requires-clause-size
word_of_list-requires-clause-size g c = let h = small_number g.E.Element.BITS in omega (arith, h)

pub word_of_list-requires-clause-count : goal.word_of_list-requires-clause-count
word_of_list-requires-clause-count g c = let h = few_elements g.E.Element.BITS (length c.args.elements.now) c.requires.narrow.fill.some (omega arith) in omega (arith, h)

pub returns-clause-laid : goal.returns-clause-laid
returns-clause-laid g c =
    let count = length-map c.args.elements.now g.E.Element.said in
    let is_next : c.len-next.result ≡ length c.args.words.now.items = omega arith in
    record {
      word = c.word_of_list.ensures ∙ rw (c.distance.ensures, is_next, c.requires.narrow.is_size, count) refl;
      placed = rw count c.push_packed.ensures.items;
      capacity = c.push_packed.ensures.capacity;
    }
