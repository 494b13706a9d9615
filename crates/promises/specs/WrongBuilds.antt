-- Wrong ways to build, and pairs of a table and a way to build of which one is wrong.
-- Assumes nothing.
use Rattle.std.specs.Prelude.{List, [], ◌∷◌}
use Rattle.channel.specs.Call.{Call, Outcome}
use Rattle.channel.specs.Rules.{outcome}
use Rattle.channel.specs.View.{View}
use Rattle.promises.specs.Ways.{Builds, right_builds}
use Rattle.promises.specs.WrongReceivers.{refuses_all, number_zero}

-- it writes nothing
unfoldable pub writes_nothing : Builds
writes_nothing s app random out = ((right_builds s app random out).0, out)

-- the number that it answers is made up
unfoldable pub built_as_other : Builds
built_as_other s app random out =
    let b = right_builds s app random out in
    (record { answer = b.0.answer; number = 7; nonce = b.0.nonce; assoc = b.0.assoc; text = b.0.text; total = b.0.total; next = b.0.next }, b.1)

-- the table, and the way to build
abbrev pub wrong_builds : List ((View → Call → Outcome) × Builds)
wrong_builds = (outcome, writes_nothing) ∷ (outcome, built_as_other) ∷ (refuses_all, right_builds) ∷ (number_zero, right_builds) ∷ []
