-- Runs that are computed: under the assumptions of T4 data is handed out, and what is said of the bridge's records is exact.
-- Assumes nothing.
use Rattle.std.specs.Prelude.{ℕ, ◌≡◌, true, false, List, [], ◌∷◌, map, length, replicate}
use Rattle.answers.specs.Refusal as Refusal
use Rattle.channel.specs.Call.{Call, offer, settle, change_key, Answer}
use Rattle.channel.specs.Receiver.{open_receiver}
use Rattle.channel.specs.Sender.{build_of, build_out}
use Rattle.channel.specs.declared.sender.Sender.{Sender}
use Rattle.record.specs.declared.setting.Setting.{Setting}
use Rattle.record.specs.Setting.{page_setting}
use Rattle.promises.specs.Run.{answers_of, Item}
use Rattle.promises.specs.World.{Step, build, turn, seal, receive, Sent, World, sent_of, start, Each, handed_in, calls_of, HonestCall}
use Rattle.promises.specs.Toy.{key_of, toy, wire, forged}

-- ---- both ends, in mode m

unfoldable pub set_to : ℕ → Setting
set_to m = page_setting m 0x11223344 1000

unfoldable pub iv : List ℕ
iv = 0 ∷ 1 ∷ 2 ∷ 3 ∷ 4 ∷ 5 ∷ 6 ∷ 7 ∷ 8 ∷ 9 ∷ 10 ∷ 11 ∷ []

unfoldable pub opened : ℕ → World
opened m = start (set_to m) iv (set_to m) iv

unfoldable pub buffer : List ℕ
buffer = replicate 40 0

unfoldable pub item : ℕ → ℕ → List ℕ → Item
item c n app = record { count = c; number = n; app = app }

-- the data app, built under key count c and number n
unfoldable pub sent_as : ℕ → ℕ → ℕ → List ℕ → List ℕ → Sent
sent_as m c n app random =
    let x : Sender = record { setting = set_to m; count = c; next = n; iv = iv } in
    sent_of x app (build_of x (length app) (length random) (length buffer)) (build_out x app random buffer)

-- ---- a key change, and a late record of the old key

-- the first record, with a random byte in mode 1; one that comes late; and one of the new key
unfoldable pub early : ℕ → Sent
early m = sent_as m 0 0 (8 ∷ 9 ∷ []) (replicate m 7)

unfoldable pub late : ℕ → Sent
late m = sent_as m 0 1 (5 ∷ []) []

unfoldable pub new : ℕ → Sent
new m = sent_as m 1 0 (6 ∷ []) []

unfoldable pub late_record : ℕ → List Step
late_record m =
    build (8 ∷ 9 ∷ []) (replicate m 7) buffer
    ∷ seal 0
    ∷ receive (settle (forged (early m)) 0 0 0 false (early m).text)
    ∷ receive (settle (wire (early m)) 0 0 0 true (early m).text)
    ∷ receive (settle (wire (early m)) 0 0 0 true (early m).text)
    ∷ build (5 ∷ []) [] buffer
    ∷ seal 0
    ∷ turn iv
    ∷ receive (change_key iv)
    ∷ build (6 ∷ []) [] buffer
    ∷ seal 0
    ∷ receive (settle (wire (new m)) 0 1 0 true (new m).text)
    ∷ receive (settle (wire (late m)) 1 0 1 true (late m).text)
    ∷ []

pub record LateRecord (m : ℕ) : Type 0 where
  -- the forged record, the first one, the same again; the key change, a record of the new key and the late one
  pub codes : map (λ (a : Answer). a.code) (answers_of (open_receiver (set_to m) iv).next (calls_of (late_record m)))
      ≡ Refusal.mac ∷ 0 ∷ Refusal.repeat ∷ 0 ∷ 0 ∷ 0 ∷ []
  -- the data of three records, each once
  pub handed : handed_in (set_to m) (opened m) (late_record m) ≡ item 0 0 (8 ∷ 9 ∷ []) ∷ item 1 0 (6 ∷ []) ∷ item 0 1 (5 ∷ []) ∷ []
  -- the assumptions of T4 hold of it
  pub honest : Each (HonestCall (toy (set_to m)) key_of key_of) (opened m) (late_record m)

-- ---- Repeat is not for ever

unfoldable pub far : Setting
far = page_setting 0 0x11223344 100000

-- a record with no data, and these two bytes of its number
unfoldable pub bare : ℕ → ℕ → List ℕ
bare a b = 0x44 ∷ 0x33 ∷ 0x22 ∷ 0x11 ∷ a ∷ b ∷ 16 ∷ 0 ∷ replicate 16 0

-- number 0 is taken; then it lies 32768 behind E, then 65536
unfoldable pub far_behind : List Call
far_behind =
    settle (bare 0 0) 0 0 0 true []
    ∷ settle (bare 255 127) 0 0 32767 true []
    ∷ offer (bare 0 0) 0
    ∷ settle (bare 255 255) 0 0 65535 true []
    ∷ offer (bare 0 0) 0
    ∷ settle (bare 0 0) 0 0 0 true []
    ∷ []

-- it is offered as Old, and then as number 65536 with the answer 0; only its Settle with number 0 is sure to fail
abbrev pub FarBehind : Type 0
FarBehind = map {B = ℕ × ℕ} (λ (a : Answer). (a.code, a.number)) (answers_of (open_receiver far iv).next far_behind)
    ≡ (0, 0) ∷ (0, 0) ∷ (Refusal.old, 0) ∷ (0, 0) ∷ (0, 65536) ∷ (Refusal.stale, 0) ∷ []
