use Prim.Native.Nat.{ℕ}
use mir.Syntax.{w8}
use mir.Val.{Fits}
use mathlib.Core.Path.{◌≡◌, refl}
use lib.ListN.{length, get_or}
use Rattle.rows.proofs.Words.{word_field, half_field, iv_back}
use borrow.Author.Rules.{rules}
use Rattle.rows.proofs.part.iv_words.Goals as goal

pub returns : goal.returns
returns c =
    let bytes : (i : ℕ) → Fits w8 (get_or c.args.iv i 0) = λ i. search rules in
    let long : length c.args.iv ≡ 12 = search rules in
    rw (c.from.ensures, c.from_le_bytes-head.ensures, c.from_le_bytes-tail.ensures, word_field c.args.iv, half_field c.args.iv)
    (refl, iv_back c.args.iv (λ i. (bytes i).fits) long)
