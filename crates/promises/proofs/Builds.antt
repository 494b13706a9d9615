-- Build under page 01's premises: it answers 0 with the next number, and its buffer at exit holds the associated data and the text.
-- Assumes nothing.
use Prim.Native.Nat.{ℕ, ◌+◌, ◌-◌, ◌≤◌, ◌<◌}
use mathlib.Core.Path.{◌≡◌, refl, sym, ap, ◌∙◌}
use mathlib.Core.Bool.{Bool, true, false, ◌&&◌}
use mathlib.Core.List.{List, ◌++◌}
use native.Mathlib.Nat.{zero-add}
use native.Mathlib.Omega.{arith}
use lib.ListN.{length, take, drop, get_or}
use lib.Seq.{drop_at, get_or-drop}
use lib.Dec.{eqb}
use borrow.Author.Tests.{eqb-true, le-ltb, ne_eqb}
use Rattle.answers.specs.Table.{first, differ}
use Rattle.channel.specs.Sender.{sender_rows, build_rows, built, build_of, build_out}
use Rattle.channel.specs.declared.sender.Sender.{Sender}
use Rattle.record.specs.Setting.{auth_only}
use Rattle.record.specs.Shape.{most_length}
use Rattle.record.specs.Write.{length_for, total_for, form_rows, room_rows, front_of}
use Rattle.record.proofs.Sizes.{front_length}
use Rattle.record.proofs.Modes.{auth_mode}
use Rattle.record.proofs.Fronts.{text_for, assoc_for, assoc_there, text_there}
use Rattle.promises.specs.Premises.{CanBuild}
use Rattle.promises.specs.ReadBack.{built_of, text_of}
use Rattle.promises.proofs.Words.{sender_good}

-- ---- it answers 0

-- no check of Build refuses
pub build_passes : (s : Sender) (app random out : List ℕ) → CanBuild s app random out → first (build_rows s (length app) (length random) (length out)) ≡ 0
unfolding build_rows sender_rows form_rows room_rows
build_passes s app random out B =
    let t = s.setting in
    let l : s.next < t.limit = B.left in
    let p : (auth_only t && differ (length random) 0) ≡ false = go (auth_only t) refl in
    let z : length_for t (length app) (length random) ≤ most_length t = B.size in
    let m : total_for t (length app) (length random) ≤ length out = omega (arith, B.room) in
    rw (sender_good s B.state, ne_eqb s.next t.limit (omega arith), p, le-ltb _ _ z, le-ltb _ _ m)
  where
    go : (b : Bool) → auth_only s.setting ≡ b → (b && differ (length random) 0) ≡ false
    go true e = rw (B.padding (auth_mode s.setting e))
    go false e = refl

-- where none does, it answers the next number, its nonce, both ends and the total
pub passed_answers : (s : Sender) (app random out : List ℕ) → first (build_rows s (length app) (length random) (length out)) ≡ 0
    → built_of s app random out ≡ built s (length app) (length random)
unfolding build_of
passed_answers s app random out e = rw e

-- so it does under page 01's premises
pub build_answers : (s : Sender) (app random out : List ℕ) → CanBuild s app random out
    → built_of s app random out ≡ built s (length app) (length random)
build_answers s app random out B = passed_answers s app random out (build_passes s app random out B)

-- ---- its buffer at exit

module _ (s : Sender) (app random out : List ℕ) (e : first (build_rows s (length app) (length random) (length out)) ≡ 0) where
  abbrev front : List ℕ
  front = front_of s.setting s.next app random

  abbrev tail : List ℕ
  tail = drop (length front) out

  -- it is the front of the record, and what stood behind
  pub buffer_is : build_out s app random out ≡ front ++ tail
  unfolding build_out
  buffer_is = rw e (ap (λ (k : ℕ). front ++ drop k out) (zero-add (length front)))

  -- up to the end of the associated data it is that
  pub buffer_assoc : take (built s (length app) (length random)).assoc (build_out s app random out) ≡ assoc_for s.setting s.next app random
  buffer_assoc = assoc_there s.setting s.next app random (build_out s app random out) tail buffer_is

  -- from there to the end of the text it is the text
  pub buffer_text : text_of (built s (length app) (length random)) (build_out s app random out) ≡ text_for s.setting app random
  buffer_text = text_there s.setting s.next app random (build_out s app random out) tail buffer_is

  buffer_rest : drop (built s (length app) (length random)).text (build_out s app random out) ≡ drop (built s (length app) (length random)).text out
  buffer_rest =
      let l = front_length s.setting s.next app random in
      rw (buffer_is, drop_at front tail _ l) (ap (λ (k : ℕ). drop k out) l)

-- ---- MAC bytes and all beyond the total stay unwritten

-- a refusal leaves the buffer
refused_buffer : (s : Sender) (app random out : List ℕ) → eqb (first (build_rows s (length app) (length random) (length out))) 0 ≡ false
    → build_out s app random out ≡ out
unfolding build_out
refused_buffer s app random out h = rw h

-- in every state and for every input: from the text's end on the buffer is as it was
pub unwritten : (s : Sender) (app random out : List ℕ)
    → drop (built_of s app random out).text (build_out s app random out) ≡ drop (built_of s app random out).text out
unwritten s app random out = go (eqb (first (build_rows s (length app) (length random) (length out))) 0) refl
  where
    go : (b : Bool) → eqb (first (build_rows s (length app) (length random) (length out))) 0 ≡ b
        → drop (built_of s app random out).text (build_out s app random out) ≡ drop (built_of s app random out).text out
    go true h = let e = eqb-true _ _ h in rw (passed_answers s app random out e) (buffer_rest s app random out e)
    go false h = ap (λ (x : List ℕ). drop (built_of s app random out).text x) (refused_buffer s app random out h)

-- the same byte by byte
pub unwritten_byte : (s : Sender) (app random out : List ℕ) (i : ℕ) → (built_of s app random out).text ≤ i
    → get_or (build_out s app random out) i 0 ≡ get_or out i 0
unwritten_byte s app random out i h =
    let n : ℕ = (built_of s app random out).text in
    let z : n + (i - n) ≡ i = omega arith in
    let at : (x : List ℕ) → get_or x i 0 ≡ get_or (drop n x) (i - n) 0 = λ x. sym (get_or-drop n x (i - n) 0 ∙ ap (λ (k : ℕ). get_or x k 0) z) in
    at (build_out s app random out) ∙ ap (λ (x : List ℕ). get_or x (i - n) 0) (unwritten s app random out) ∙ sym (at out)
