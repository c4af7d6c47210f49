-- The stack of pending splits in its array: what a store leaves, puts on top and replaces there.
use Prim.Native.Nat.{ℕ, zero, suc, ◌+◌, ◌-◌, ◌≤◌, ◌<◌}
use native.Mathlib.Numerals.{add-one}
use native.Mathlib.Omega.{arith}
use mathlib.Core.Path.{◌≡◌, refl, ◌∙◌, ap}
use mathlib.Core.List.{List, ◌∷◌}
use lib.ListN.{length, get_or, set}
use lib.Seq.{get_or-set_same, get_or-set_other}
use Rattle.lists.proofs.Lists.{down}
use Rattle.branch.specs.declared.Split.{Split}
use Rattle.branch.specs.declared.Branch.{Branch}
use Rattle.branch.specs.Stack.{no_split, last_first, stack}

-- a store at or above n leaves the first n
stack_set : (n : ℕ) (l : List Split) (i : ℕ) (s : Split) → n ≤ i → last_first n (set l i s) ≡ last_first n l
unfolding last_first
stack_set zero l i s h = refl
stack_set (suc n) l i s h = rw (get_or-set_other l i n s no_split (λ e. omega arith), stack_set n l i s (omega arith))

-- one more on top
pub stack_push : (n : ℕ) (l : List Split) (s : Split) → n < length l → last_first (n + 1) (set l n s) ≡ s ∷ last_first n l
unfolding last_first
stack_push n l s h = rw (add-one, get_or-set_same l n s no_split h, stack_set n l n s (omega arith))

-- the top of a stack that is not empty
pub stack_top : (n : ℕ) (l : List Split) → 0 < n → last_first n l ≡ get_or l (n - 1) no_split ∷ last_first (n - 1) l
unfolding last_first
stack_top zero l h = absurd (omega arith)
stack_top (suc n) l h = rw (down n)

-- the top replaced
pub stack_replace : (n : ℕ) (l : List Split) (s : Split) → 0 < n → n - 1 < length l → last_first n (set l (n - 1) s) ≡ s ∷ last_first (n - 1) l
stack_replace n l s h k = stack_top n (set l (n - 1) s) h ∙ rw (get_or-set_same l (n - 1) s no_split k, stack_set (n - 1) l (n - 1) s (omega arith))

length_last_first : (n : ℕ) (l : List Split) → length (last_first n l) ≡ n
unfolding last_first
length_last_first zero l = refl
length_last_first (suc n) l = ap suc (length_last_first n l)

-- as many splits are pending as the depth says
pub length_stack : (b : Branch) → length (stack b) ≡ b.depth
unfolding stack
length_stack b = length_last_first b.depth b.splits
