-- The pending splits of a branch, the latest first.
use Rattle.std.specs.Prelude.{ℕ, zero, suc, ◌+◌, cond, List, [], ◌∷◌, get_or, ltb}
use Rattle.branch.specs.declared.Split.{Split}
use Rattle.branch.specs.declared.Branch.{Branch}

abbrev pub split : ℕ → ℕ → ℕ → ℕ → Split
split mark at child last = record { mark = mark; at = at; child = child; last = last }

abbrev pub no_split : Split
no_split = split 0 0 0 0

-- the first n of a list, from the last of them to the first
unfoldable pub last_first : ℕ → List Split → List Split
last_first zero l = []
last_first (suc n) l = get_or l n no_split ∷ last_first n l

unfoldable pub stack : Branch → List Split
stack b = last_first b.depth b.splits

-- the last pending split
unfoldable pub latest_of : List Split → Split
latest_of [] = no_split
latest_of (s ∷ ss) = s

-- its next child is begun; with its last child it is no longer pending
unfoldable pub begun_of : List Split → List Split
begun_of [] = []
begun_of (s ∷ ss) = cond (ltb s.child s.last) (split s.mark s.at (s.child + 1) s.last ∷ ss) ss
