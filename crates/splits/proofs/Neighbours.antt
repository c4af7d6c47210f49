-- Card's test that neighbouring variables have the same length, and Card's children.
use Prim.Native.Nat.{ℕ, zero, suc, ◌+◌, ◌-◌, ◌≤◌, ◌<◌}
use native.Mathlib.Omega.{arith}
use mathlib.Core.Path.{◌≡◌, refl, ◌∙◌, ap}
use mathlib.Core.Bool.{true, false, ◌&&◌}
use mathlib.Core.List.{List}
use Rattle.calculus.specs.Facts.{Question, Branch}
use Rattle.calculus.specs.Children.{pair_children}
use Rattle.calculus.specs.Rules.{guard, distinct, neighbours, same_length, last_child, card_children, states_equal}
use Rattle.format.specs.Fields.{u16, u16s}
use Rattle.format.proofs.Fields.{length_u16s}
use Rattle.steps.proofs.Variables.{u16s_more, u16s_done}

module _ (u : Question) (br : Branch) where
  states_same : (x y : ℕ) → same_length u br x y ≡ states_equal br (u.q + x) (u.q + y)
  unfolding states_equal
  states_same x y = refl

  neighbours_more : (b : List ℕ) (i others : ℕ) → 0 < others
      → neighbours u br (u16 b i) (u16s b (i + 2) others)
      ≡ (states_equal br (u.q + u16 b i) (u.q + u16 b (i + 2)) && neighbours u br (u16 b (i + 2)) (u16s b (i + 2 + 2) (others - 1)))
  neighbours_more b i others h =
      ap (neighbours u br (u16 b i)) (u16s_more b (i + 2) others h)
      ∙ ap (λ t. t && neighbours u br (u16 b (i + 2)) (u16s b (i + 2 + 2) (others - 1))) (states_same (u16 b i) (u16 b (i + 2)))

  pub neighbours_no : (b : List ℕ) (i others : ℕ)
      → 0 < others
      → states_equal br (u.q + u16 b i) (u.q + u16 b (i + 2)) ≡ false
      → neighbours u br (u16 b i) (u16s b (i + 2) others) ≡ false
  neighbours_no b i others h e = neighbours_more b i others h ∙ rw e

  pub neighbours_yes : (b : List ℕ) (i others : ℕ) → 0 < others → states_equal br (u.q + u16 b i) (u.q + u16 b (i + 2)) ≡ true
      → neighbours u br (u16 b i) (u16s b (i + 2) others) ≡ neighbours u br (u16 b (i + 2)) (u16s b (i + 2 + 2) (others - 1))
  neighbours_yes b i others h e = neighbours_more b i others h ∙ rw e

  pub neighbours_done : (b : List ℕ) (i others : ℕ) → others ≤ 0 → neighbours u br (u16 b i) (u16s b (i + 2) others) ≡ true
  neighbours_done b i others h = ap (neighbours u br (u16 b i)) (u16s_done b (i + 2) others h)

  -- Card's children, of two variables or more
  pub card_children_law : (b : List ℕ) (at m : ℕ) → 2 ≤ m
      → card_children u br (u16s b at m)
      ≡ guard (distinct (u16s b at m) && neighbours u br (u16 b at) (u16s b (at + 2) (m - 1))) (pair_children (u16s b at m) (last_child u (u16 b at) m))
  unfolding u16s
  card_children_law b at zero h = absurd (omega arith)
  card_children_law b at (suc zero) h = absurd (omega arith)
  card_children_law b at (suc (suc m)) h =
      let e : suc (suc m) - 1 ≡ suc m = omega arith in
      rw e (ap (λ n. guard (distinct (u16s b at (suc (suc m))) && neighbours u br (u16 b at) (u16s b (at + 2) (suc m)))
      (pair_children (u16s b at (suc (suc m))) (last_child u (u16 b at) n)))
      (length_u16s b at (suc (suc m))))
