-- Application data that begins with 05 or 85 passes, 06 and 86 are Wrapped; a message that begins with 06 passes, and 86 is Frame.
-- Assumes nothing.
use Prim.Native.Nat.{ℕ}
use mathlib.Core.List.{List}
use mathlib.Core.Path.{refl}
use lib.Dec.{eqb-suc-zero}
use lib.ListN.{length}
use Rattle.mctp.specs.Kind.{kind_of}
use Rattle.mctp.specs.Application.{unwrap_rows, read_data}
use Rattle.mctp.specs.Message.{frame_rows, read_message}
use Rattle.mctp.specs.Promises.{data_lines, message_lines, Along}

-- one theorem for all of page 01's lines
pub lines : (rest : List ℕ) → Along (λ app. (read_data app).answer) rest data_lines × Along read_message rest message_lines
unfolding read_data unwrap_rows kind_of frame_rows
lines rest = rw (eqb-suc-zero (length rest)) ((refl, (refl, (refl, (refl, tt)))), (refl, (refl, tt)))
