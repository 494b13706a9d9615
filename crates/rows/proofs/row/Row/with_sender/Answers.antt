use mathlib.Core.Path.{◌≡◌, sym, ap, ◌∙◌}
use native.Mathlib.Omega.{arith}
use lib.ListN.{length, take, length-set, length-append, length-take, length-drop}
use mathlib.Core.List.{◌∷◌, ◌++◌}
use Rattle.rows.specs.Part.{count_of}
use Rattle.rows.specs.Ends.{receiver_of, sender_of, ends_of, sender_words}
use Rattle.rows.proofs.Words.{listed, listed_last, sender_copied}
use borrow.Author.Rules.{rules}
use Rattle.rows.proofs.row.Row.with_sender.Goals as goal

pub slice_bounds-words-end-2 : goal.slice_bounds-words-end-2
slice_bounds-words-end-2 c =
    let w : length c.args.self.words ≡ 26 = search rules in
    let s : length c.copy_from_slice.new.self ≡ 3 = search rules in
    simp (length-set, length-append, length-take, length-drop) (omega arith)

pub returns : goal.returns
unfolding receiver_of sender_of sender_words
returns c =
    let w = c.args.self.words in
    let long : length w ≡ 26 = search rules in
    let count : count_of c.from.result ≡ c.args.sender.count = search rules in
    let put = sender_copied w long c.from.result c.setting_words.result c.iv_words.result c.args.sender.next (search rules) (search rules) in
    rw (c.copy_from_slice.ensures.after, c.copy_from_slice-2.ensures.after) (
      put ∙ (λ i. take 19 (listed_last w 0 26 (sym long) i) ++ (listed (c.setting_words.ensures.0 i) 0 3 ++ (c.from.ensures i ∷ c.args.sender.next ∷ listed (c.iv_words.ensures.0 i) 0 2))),
      ap ends_of put
          ∙ (λ i. record { receiver = receiver_of w; sender = record { setting = c.setting_words.ensures.1 i; count = count i; next = c.args.sender.next; iv = c.iv_words.ensures.1 i } }),
    )
