use mathlib.Core.Path.{◌≡◌, sym, ap, ◌∙◌}
use native.Mathlib.Omega.{arith}
use lib.ListN.{length, length-set, length-append, length-take, length-drop}
use mathlib.Core.List.{◌∷◌, ◌++◌}
use Rattle.rows.specs.Part.{count_of, held_of, held_word}
use Rattle.rows.specs.Ends.{receiver_of, sender_of, ends_of, receiver_words}
use Rattle.rows.proofs.Words.{listed, listed_last, receiver_copied}
use borrow.Author.Rules.{rules}
use Rattle.rows.proofs.row.Row.with_receiver.Goals as goal

pub slice_bounds-words-end-3 : goal.slice_bounds-words-end-3
slice_bounds-words-end-3 c =
    let w : length c.args.self.words ≡ 26 = search rules in
    let s : length c.copy_from_slice.new.self ≡ 3 = search rules in
    simp (length-set, length-append, length-take, length-drop) (omega arith)

pub returns : goal.returns
unfolding receiver_of sender_of receiver_words
returns c =
    let w = c.args.self.words in
    let o = c.key_words-2.ensures in
    let long : length w ≡ 26 = search rules in
    let count : count_of c.from.result ≡ c.args.receiver.count = search rules in
    let held : c.from-2.result ≡ held_word c.args.receiver.held = search rules in
    let back : held_of c.from-2.result ≡ c.args.receiver.held = search rules in
    let put = receiver_copied w long c.from.result c.setting_words.result c.key_words.result c.key_words-2.result c.from-2.result (search rules) (search rules) (search rules) in
    rw (c.copy_from_slice.ensures.after, c.copy_from_slice-2.ensures.after, c.copy_from_slice-3.ensures.after) (
      put
          ∙ (λ i. listed (c.setting_words.ensures.0 i) 0 3 ++ (c.from.ensures i ∷ (listed (c.key_words.ensures.0 i) 0 7 ++ (held i ∷ (listed (o.0 i) 0 7 ++ listed_last w 19 7 (sym long) i))))),
      ap ends_of put
          ∙ (λ i. record { receiver = record { setting = c.setting_words.ensures.1 i; count = count i; current = c.key_words.ensures.1 i; held = back i; old = o.1 i }; sender = sender_of w }),
    )
