-- The numbers that C is told: of a refusal, and of an answer that may be one.
-- Assumes nothing.
use Rattle.std.specs.Prelude.{ℕ, Result, Ok, Err}
use Rattle.answers.specs.Refusal as Number
use Rattle.answers.specs.declared.refusal.Refusal.{Refusal}
use Rattle.answers.specs.declared.refusal.Refusal.TheVariants.{State, Setting, Key, Short, Session, Length, Small, Spent, Old, Repeat, Stale, Plain, Mac, Inner, Padding, Size, Room, Held, Epochs, Wrapped, Frame, Twice, Rows, Unknown}

-- the number of a refusal
abbrev pub number_of : Refusal → ℕ
number_of State = Number.state
number_of Setting = Number.setting
number_of Key = Number.key
number_of Short = Number.short
number_of Session = Number.session
number_of Length = Number.length
number_of Small = Number.small
number_of Spent = Number.spent
number_of Old = Number.old
number_of Repeat = Number.repeat
number_of Stale = Number.stale
number_of Plain = Number.plain
number_of Mac = Number.mac
number_of Inner = Number.inner
number_of Padding = Number.padding
number_of Size = Number.size
number_of Room = Number.room
number_of Held = Number.held
number_of Epochs = Number.epochs
number_of Wrapped = Number.wrapped
number_of Frame = Number.frame
number_of Twice = Number.twice
number_of Rows = Number.rows
number_of Unknown = Number.unknown

-- 0, or the number of the refusal
abbrev pub code_of : {A : Type 0} → Result A Refusal → ℕ
code_of (Ok x) = 0
code_of (Err why) = number_of why

-- what is handed out, or this where it is a refusal
abbrev pub or_none : {A : Type 0} → A → Result A Refusal → A
or_none none (Ok x) = x
or_none none (Err why) = none
