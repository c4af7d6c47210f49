-- No branch has more facts than bytes were read: a step takes ten bytes and adds at most three facts. And no more than one split pends by it.
use Prim.Native.Nat.{ℕ, suc, ◌+◌, ◌≤◌}
use native.Mathlib.Omega.{arith}
use mathlib.Core.Path.{◌≡◌, refl}
use mathlib.Core.List.{List}
use lib.ListN.{length}
use Rattle.lists.proofs.Lists.{all_map}
use Rattle.calculus.specs.Facts.{Question}
use Rattle.calculus.specs.Steps.{Step, shape}
use Rattle.calculus.specs.Walk.{Walk, working, closed, enter}
use Rattle.calculus.proofs.Shapes.{shape_small}
use Rattle.calculus.proofs.Everywhere.{Everywhere, enter_everywhere, ahead_map, splits_of, enter_few}
use Rattle.format.specs.ProperForm.{by_shape}
use Rattle.format.specs.Reading.{State, proving, taking, modelled, stepped}
use Rattle.format.specs.Needs.{pending_in}
use Rattle.needs.proofs.Stacks.{taken_small}

abbrev pub Low : ℕ → State ℕ ℕ → Type 0
Low i (proving k) = Everywhere ◌+◌ (λ b. b ≤ i) k
Low i (taking br) = br ≤ i
Low i (modelled br m) = Unit {0}

pub low_stepped : (u : Question) (i j : ℕ) (s : State ℕ ℕ) (t : Step × ℕ) → i + 3 ≤ j → Low i s → Low j (stepped (by_shape u) s t)
low_stepped u i j (proving (working br ss)) t h (l, hs) =
    enter_everywhere ◌+◌ (λ b. b ≤ j) br (shape u.n t.0) ss (all_map (shape u.n t.0) (λ c k. omega arith) (shape_small u.n t.0))
    (ahead_map ◌+◌ (λ b. b ≤ i) (λ b. b ≤ j) (λ b k. omega arith) ss hs)
low_stepped u i j (proving closed) t h l = tt
low_stepped u i j (taking br) t h l = let small = taken_small (shape u.n t.0) t.1 3 (shape_small u.n t.0) in omega arith
low_stepped u i j (modelled br m) t h l = tt

-- ---- pending splits

pending_is : (k : Walk ℕ ℕ) → pending_in (proving k) ≡ length (splits_of ◌+◌ k)
pending_is (working b ss) = refl
pending_is closed = refl

pub one_pends : (u : Question) (s : State ℕ ℕ) (t : Step × ℕ) → pending_in (stepped (by_shape u) s t) ≤ suc (pending_in s)
one_pends u (proving (working br ss)) t =
    let cs : List ℕ = shape u.n t.0 in
    omega (arith, pending_is (enter ◌+◌ br cs ss), enter_few ◌+◌ (suc (length ss)) br cs ss (omega arith) (λ k. omega arith))
one_pends u (proving closed) t = omega arith
one_pends u (taking br) t = omega arith
one_pends u (modelled br m) t = omega arith
