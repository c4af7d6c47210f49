-- Pending splits as the code holds them.
use Rattle.std.specs.Prelude.{ℕ, zero, suc, ◌/◌, List, [], ◌∷◌, get_or, replicate, Option, Some, None}
use Rattle.calculus.specs.Limits.{ticket_bytes}
use Rattle.calculus.specs.Walk.{Waiting, Walk, working, closed}
use Rattle.needs.specs.declared.Split.{Split}

abbrev pub waiting : Split → Waiting ℕ ℕ
waiting s = record { mark = s.mark; child = s.facts; rest = replicate s.more s.facts }

abbrev pub no_split : Split
no_split = record { mark = 0; facts = 0; more = 0 }

-- the first n of a list, from the last of them to the first
unfoldable pub last_first : ℕ → List Split → List (Waiting ℕ ℕ)
last_first zero l = []
last_first (suc n) l = waiting (get_or l n no_split) ∷ last_first n l

-- no ticket has more splits pending: a step takes ten bytes at least
abbrev pub deepest : ℕ
deepest = ticket_bytes / 10

-- where a step of claim 1 leads: to a branch of so many facts, or every branch is closed
abbrev pub walk_of : Option ℕ → List (Waiting ℕ ℕ) → Walk ℕ ℕ
walk_of None ss = closed
walk_of (Some facts) ss = working facts ss
