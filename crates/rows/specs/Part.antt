-- The parts of an end and the words that they lie in. A word is cut to what its field holds: the bits above are padding.
-- Assumes nothing.
use Rattle.std.specs.Prelude.{ℕ, ◌+◌, ◌*◌, ◌/◌, ◌%◌, Bool, cond, List, [], ◌∷◌, ◌++◌, eqb, get_or}
use Rattle.octets.specs.Fields.{field, little}
use Rattle.record.specs.declared.setting.Setting.{Setting}
use Rattle.channel.specs.declared.key.Key.{Key}

-- ---- read

-- the mode, the layout, the MAC's length and the profile are the first four bytes of one word, the width the next two
abbrev pub setting_of : ℕ → ℕ → ℕ → Setting
setting_of head session limit = record {
  mode = head % 256;
  layout = head / 256 % 256;
  mac = head / 256 / 256 % 256;
  profile = head / 256 / 256 / 256 % 256;
  width = head / 4294967296 % 65536;
  session = session % 4294967296;
  limit = limit;
}

abbrev pub count_of : ℕ → ℕ
count_of count = count % 4294967296

-- the first eight bytes of an IV are one word, the last four another
unfoldable pub iv_of : ℕ → ℕ → List ℕ
iv_of head tail = little 8 head ++ little 4 tail

-- the four words from at
abbrev pub four_at : List ℕ → ℕ → List ℕ
four_at w at = get_or w at 0 ∷ get_or w (at + 1) 0 ∷ get_or w (at + 2) 0 ∷ get_or w (at + 3) 0 ∷ []

abbrev pub key_of : ℕ → ℕ → ℕ → List ℕ → Key
key_of head tail next words = record { iv = iv_of head tail; window = record { next = next; marks = record { words = words } } }

abbrev pub held_of : ℕ → Bool
held_of held = eqb (held % 2) 1

-- ---- written

abbrev pub setting_words : Setting → List ℕ
setting_words s = (s.mode + 256 * (s.layout + 256 * (s.mac + 256 * (s.profile + 256 * s.width)))) ∷ s.session ∷ s.limit ∷ []

abbrev pub iv_words : List ℕ → List ℕ
iv_words iv = field iv 0 8 ∷ field iv 8 4 ∷ []

abbrev pub key_words : Key → List ℕ
key_words k = iv_words k.iv ++ (k.window.next ∷ four_at k.window.marks.words 0)

abbrev pub held_word : Bool → ℕ
held_word held = cond held 1 0
