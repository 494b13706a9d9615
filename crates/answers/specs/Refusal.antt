-- The numbers of refusal, by the names of page 01. Use them by `use Rattle.answers.specs.Refusal as Refusal`: `Refusal.state`.
-- Assumes nothing.
use Rattle.std.specs.Prelude.{ℕ, Bool, ◌||◌, eqb}

abbrev pub state : ℕ
state = 1

abbrev pub setting : ℕ
setting = 2

abbrev pub key : ℕ
key = 3

abbrev pub short : ℕ
short = 4

abbrev pub session : ℕ
session = 5

abbrev pub length : ℕ
length = 6

abbrev pub small : ℕ
small = 7

abbrev pub spent : ℕ
spent = 8

abbrev pub old : ℕ
old = 9

abbrev pub repeat : ℕ
repeat = 10

abbrev pub stale : ℕ
stale = 11

abbrev pub plain : ℕ
plain = 12

abbrev pub mac : ℕ
mac = 13

abbrev pub inner : ℕ
inner = 14

abbrev pub padding : ℕ
padding = 15

abbrev pub size : ℕ
size = 16

abbrev pub room : ℕ
room = 17

abbrev pub held : ℕ
held = 18

abbrev pub epochs : ℕ
epochs = 19

abbrev pub wrapped : ℕ
wrapped = 20

abbrev pub frame : ℕ
frame = 21

-- the largest of page 01's own
abbrev pub largest : ℕ
largest = 21

-- ---- those of the controller's table

abbrev pub twice : ℕ
twice = 22

abbrev pub rows : ℕ
rows = 23

abbrev pub unknown : ℕ
unknown = 24

-- the refusals of an authentic record: its number is marked all the same
unfoldable pub marks : ℕ → Bool
marks why = eqb why inner

-- the answers to an authentic record: 0, or a refusal that marks
unfoldable pub authentic : ℕ → Bool
authentic why = eqb why 0 || marks why
