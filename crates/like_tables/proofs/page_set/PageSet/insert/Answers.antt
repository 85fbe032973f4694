use Rattle.std.proofs.Common.{◌*◌, ◌/◌, ◌%◌, ◌<◌, length, ap, ◌∙◌, arith, w64}
use Rattle.std.specs.Int.{bit_at}
use Rattle.std.proofs.lemmas.List.{get_or_read, length-set}
use Rattle.std.proofs.lemmas.Nat.Bits.{bit_at_set_same, bit_at_set_other}
use Rattle.like_tables.proofs.PageSets.{bit_of-others, bit_of-written}
use Rattle.like_tables.proofs.page_set.PageSet.insert.Goals as goal

pub returns : goal.returns
returns c =
    let words = c.self.inside.words.items in
    let page = c.args.page in
    let there : page < 64 * length words = rw c.self.view_is c.requires in
    let read = get_or_read words (page / 64) _ (omega arith) c.index_mut.ensures.value 0 in
    record {
      len = length-set words (page / 64) _ ∙ ap length c.self.view_is;
      here = bit_of-written words page _ there ∙ bit_at_set_same w64 _ (page % 64) (omega arith);
      others = λ other apart. rw (← c.self.view_is)
          (bit_of-others words page _ other there
          (λ i small differs. bit_at_set_other w64 _ (page % 64) (omega arith) i differs ∙ ap (λ w. bit_at w i) read)
          apart);
    }
