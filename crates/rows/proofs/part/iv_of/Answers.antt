use lib.ListN.{take}
use mathlib.Core.List.{◌++◌}
use Rattle.rows.specs.Part.{iv_of}
use Rattle.rows.proofs.Words.{bytes_little}
use Rattle.rows.proofs.part.iv_of.Goals as goal

pub returns : goal.returns
unfolding iv_of
returns c =
    rw (c.copy_from_slice-2.ensures.after, c.copy_from_slice.ensures.after, c.to_le_bytes-2.ensures, c.to_le_bytes.ensures)
    (λ i. bytes_little c.args.head i ++ take 4 (bytes_little c.args.tail i))
